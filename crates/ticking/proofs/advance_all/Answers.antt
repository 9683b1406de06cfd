-- What the check leaves open of `ticking::advance_all`. Assumes nothing.
use Rattle.std.proofs.Common.{refl, sym, ◌∙◌, ◌<◌, arith}
use Rattle.base.specs.Loops.{ascending_none, ascending_more}
use Rattle.base.specs.Marks.{found_most}
use Rattle.machine.specs.Events.{Run}
use Rattle.transitions.specs.Lent.{Rest}
use Rattle.events.specs.Running.{run}
use Rattle.ticking.proofs.TickLaws.{low_clock, due_next_lem, ticked_passes, ticked_not}
use Rattle.ticking.proofs.advance_all.Goals as goal
use Rattle.ticking.proofs.advance_all.Goals.{then-advances, else-advances}

pub loop-n-init : goal.loop-n-init
loop-n-init c = ascending_none _ _

pub overflow_add-now : goal.overflow_add-now
overflow_add-now c = omega (arith, low_clock _ _ _ (sym c.advances.ensures ∙ c.if-advances.true))

pub pass_media-requires : goal.pass_media-requires
pass_media-requires c =
    let low : c.loop-n.n < 64 = omega (arith, c.args.d.now.sound.nodes.few) in
    (c.args.d.now.sound.anchors, low, found_most _ _ _ c.past_last_due-ending.ensures _ low, found_most _ _ _ c.past_last_due-beginning.ensures _ low)

pub loop-n-preserved : goal.loop-n-preserved
loop-n-preserved c =
    let before : Run = run c.loop-n.w c.loop-n.log in
    let due = due_next_lem _ _ before _ c.loop-n.invariant (omega (arith, c.args.d.now.sound.nodes.few)) _ _ _ c.past_last_due-ending.ensures c.past_last_due-beginning.ensures refl in
    let rest : Rest = record { properties = c.loop-n.w.state.properties; choices = c.loop-n.w.state.choices; firings = c.loop-n.w.firings } in
    ascending_more _ _ _ c.loop-n.invariant
    (elim c.if-advances.branch [
      | then-advances w ↦ rw (w.w-is, w.log-is) (ticked_passes _ _ before (sym c.advances.ensures ∙ w.if-advances.true) (w.pass_media.ensures c.args.d.now.document rest refl due))
      | else-advances w ↦ rw (w.w-is, w.log-is) (ticked_not _ _ before (sym c.advances.ensures ∙ w.if-advances.false))
    ])
