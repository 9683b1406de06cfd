-- What the check leaves open of `chain::run_chain`. Assumes nothing.
use Rattle.std.proofs.Common.{sym, ◌∙◌, arith}
use Rattle.std.proofs.Math.Nat.{sub-zero}
use Rattle.base.specs.Loops.{ascending_none, ascending_more, ascending_done}
use Rattle.machine.specs.Chain.{goes_on, line_taken, chained}
use Rattle.events.specs.Running.{run}
use Rattle.call_log.proofs.LogLaws.{lines_have, lines_lack}
use Rattle.chain.proofs.ChainLaws.{chain_more, chain_stopped, chain_ended, chain_done}
use Rattle.chain.proofs.run_chain.Goals as goal
use Rattle.chain.proofs.run_chain.Goals.{then-not-goes_on-via-then-not-goes_on, then-not-goes_on-via-else-not-goes_on+then-w-k}

pub loop-k-init : goal.loop-k-init
unfolding chained
loop-k-init c = rw (sub-zero)

pub returns-then-not-goes_on : goal.returns-then-not-goes_on
unfolding goes_on
returns-then-not-goes_on c =
    elim c.then-not-goes_on.branch [
      | then-not-goes_on-via-then-not-goes_on w ↦ sym (chain_stopped _ _ _ _ (omega arith) (sym c.goes_on.ensures ∙ w.if-not-goes_on.true)) ∙ c.loop-k.invariant
      | then-not-goes_on-via-else-not-goes_on+then-w-k w ↦ sym (chain_ended _ _ _ _ (omega arith) (lines_lack _ _ _ w.if-w-k.true (omega arith))) ∙ c.loop-k.invariant
    ]

pub loop-l-init : goal.loop-l-init
loop-l-init c = ascending_none _ _

pub loop-l-preserved : goal.loop-l-preserved
loop-l-preserved c = ascending_more _ _ _ c.loop-l.invariant c.try_link.ensures

pub loop-k-preserved : goal.loop-k-preserved
unfolding goes_on line_taken
loop-k-preserved c =
    let more = chain_more c.args.d.now.document _ c.loop-k.k (run c.loop-k.w c.loop-k.log) c.loop-k-test.true (sym c.goes_on.ensures ∙ c.if-not-goes_on.false) (lines_have _ _ _ c.if-w-k.false (omega arith)) in
    rw (ascending_done _ _ c.args.d.now.document.links.count _ (omega arith) c.loop-l.invariant, c.line_at-x.ensures _ c.if-w-k.false) (sym more ∙ c.loop-k.invariant)

pub returns : goal.returns
returns c = sym (chain_done _ _ _ _ (omega arith)) ∙ c.loop-k.invariant
