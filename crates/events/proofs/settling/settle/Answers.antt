-- What the check leaves open of `events::settling::settle`. Assumes nothing.
use Rattle.events.proofs.Prelude.{◌≡◌, sym, ◌∙◌, ◌-◌, arith, descending_more, run}
use Rattle.machine.specs.Events.{settled_one}
use Rattle.events.proofs.Gathering.{gathered_all, gathered_more, settled_later, settled_moves, settled_stays}
use Rattle.events.specs.Parts.{action_of, target_of}
use Rattle.events.proofs.settling.settle.Goals as goal
use Rattle.events.proofs.settling.settle.Goals.{then-resettles, else-resettles}

pub loop-n-preserved : goal.loop-n-preserved
loop-n-preserved c =
    let children = gathered_all _ _ _ _ c.requires c.loop-n-test.true (omega arith) c.loop-n.invariant.0 in
    let turn : run c.if-resettles.w c.if-resettles.log ≡ settled_one c.args.nodes.now (action_of c.args.cause) (target_of c.args.cause) (c.loop-n.n - 1) (run c.loop-n.w c.loop-n.log) =
    elim c.if-resettles.branch [
      | then-resettles w ↦ rw (w.w-is, w.log-is) (settled_moves _ _ _ _ _ _ children (sym c.resettles.ensures ∙ w.if-resettles.true) w.aborts_at.ensures (w.node_to.ensures _ _))
      | else-resettles w ↦ rw (w.w-is, w.log-is) (settled_stays _ _ _ _ _ _ children (sym c.resettles.ensures ∙ w.if-resettles.false))
    ] in
    (rw c.with_child.ensures (gathered_more _ _ _ _ _ _ c.loop-n-test.true (omega arith) (omega arith) c.from-parent.ensures (λ j h. settled_later _ _ _ _ _ turn j (omega arith)) c.loop-n.invariant.0), descending_more _ _ c.loop-n-test.true c.loop-n.invariant.1 turn)
