-- What the check leaves open of `end_check::zero_from`. Assumes nothing.
use Rattle.std.proofs.Common.{arith}
use Rattle.end_check.proofs.Zeros.{zeros_more, zeros_done}
use Rattle.end_check.proofs.zero_from.Goals as goal

pub loop-i-preserved : goal.loop-i-preserved
loop-i-preserved g c = rw (c.eq-all_zero.ensures, c.index-table-i.is) (zeros_more (λ x. g.T.PartialEq.eq x c.args.zero) c.args.table.now _ c.loop-i.all_zero c.loop-i.invariant c.index-table-i.result c.loop-i-test.true)

pub returns : goal.returns
returns g c = zeros_done _ c.args.table.now _ c.loop-i.all_zero c.loop-i.invariant (omega arith)
