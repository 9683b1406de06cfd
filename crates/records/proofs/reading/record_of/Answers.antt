-- What the check leaves open of `records::reading::record_of`. Assumes nothing.
use Rattle.base.specs.Tests.{when◌then◌else◌}
use Rattle.machine.specs.Records.{record_of}
use Rattle.std.proofs.Common.{ne_eqb, arith}
use Rattle.records.proofs.reading.record_of.Goals as goal

pub returns-in_default : goal.returns-in_default
unfolding record_of when◌then◌else◌
returns-in_default c =
    let k = c.args.kind in
    rw (ne_eqb k 0 (λ e. omega arith), ne_eqb k 1 (λ e. omega arith), ne_eqb k 2 (λ e. omega arith), ne_eqb k 3 (λ e. omega arith), ne_eqb k 4 (λ e. omega arith), ne_eqb k 5 (λ e. omega arith), ne_eqb k 6 (λ e. omega arith), ne_eqb k 7 (λ e. omega arith), ne_eqb k 8 (λ e. omega arith), c.action_of.ensures)
