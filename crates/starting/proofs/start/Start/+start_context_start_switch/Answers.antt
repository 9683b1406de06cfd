-- The cycle of calls of `start_context` and `start_switch`: a child's id is above its parent's, so 64 less the id falls. Assumes nothing.
use mathlib.Core.Path.{refl}
use native.Mathlib.Omega.{arith}
use Rattle.starting.proofs.ReachLaws.{not_reached, ports_none, port_idle, port_turn, ports_done, choice_idle, choice_turn}
use Rattle.starting.proofs.start.Start.+start_context_start_switch.Goals as goal
use Rattle.starting.proofs.start.Start.+start_context_start_switch.Goals.{start_context-then-from-n+in-Some-Media, start_context-then-from-n+in-Some-Context, start_context-then-from-n+in-Some-Switch, start_context-then-from-n+in-None, start_context-else-from-n}
use Rattle.std.specs.Prelude.{Some, None}
use Rattle.starting.specs.declared.start.Found.TheVariants.{Media, Context, Switch}

pub start_context-loop-p-init : goal.start_context-loop-p-init
start_context-loop-p-init t c = ports_none _ _

pub start_context-loop-p-preserved : goal.start_context-loop-p-preserved
start_context-loop-p-preserved t c =
    elim c.if-from-n.branch [
      | start_context-then-from-n+in-Some-Media w ↦ rw w.self-is (port_turn _ c.loop-p.invariant c.from.ensures w.if-from-n.true c.loop-p-test.true w.from-child.ensures (rw w.in-Some-Media.field-0-is at w.in-Some-Media.ensures) w.enqueue.ensures)
      | start_context-then-from-n+in-Some-Context w ↦ rw w.self-is (port_turn _ c.loop-p.invariant c.from.ensures w.if-from-n.true c.loop-p-test.true w.from-child.ensures (rw w.in-Some-Context.field-0-is at w.in-Some-Context.ensures) w.start_context.ensures)
      | start_context-then-from-n+in-Some-Switch w ↦ rw w.self-is (port_turn _ c.loop-p.invariant c.from.ensures w.if-from-n.true c.loop-p-test.true w.from-child.ensures (rw w.in-Some-Switch.field-0-is at w.in-Some-Switch.ensures) w.start_switch.ensures)
      | start_context-then-from-n+in-None w ↦ rw w.self-is (port_turn _ c.loop-p.invariant c.from.ensures w.if-from-n.true c.loop-p-test.true w.from-child.ensures w.in-None.ensures (not_reached _ _))
      | start_context-else-from-n w ↦ rw w.self-is (port_idle _ c.loop-p.invariant c.from.ensures w.if-from-n.false)
    ]

pub start_context-returns : goal.start_context-returns
start_context-returns t c = ports_done _ c.loop-p.invariant (omega arith)

pub start_switch-returns-in-Some-Media : goal.start_switch-returns-in-Some-Media
start_switch-returns-in-Some-Media t c =
    choice_turn c.requires c.from-child.ensures (Some Media) c.enqueue.ensures (rw c.in-Some-Media.field-0-is at c.in-Some-Media.ensures) c.if-child-ne0.true (refl, refl, refl, refl)

pub start_switch-returns-in-Some-Context : goal.start_switch-returns-in-Some-Context
start_switch-returns-in-Some-Context t c =
    choice_turn c.requires c.from-child.ensures (Some Context) c.start_context.ensures (rw c.in-Some-Context.field-0-is at c.in-Some-Context.ensures) c.if-child-ne0.true (refl, refl, refl, refl)

pub start_switch-returns-in-Some-Switch : goal.start_switch-returns-in-Some-Switch
start_switch-returns-in-Some-Switch t c =
    choice_turn c.requires c.from-child.ensures (Some Switch) c.start_switch.ensures (rw c.in-Some-Switch.field-0-is at c.in-Some-Switch.ensures) c.if-child-ne0.true (refl, refl, refl, refl)

pub start_switch-returns-in-None : goal.start_switch-returns-in-None
start_switch-returns-in-None t c =
    choice_turn c.requires c.from-child.ensures None (not_reached _ _) c.in-None.ensures c.if-child-ne0.true (refl, refl, refl, refl)

pub start_switch-returns-else-child-ne0 : goal.start_switch-returns-else-child-ne0
start_switch-returns-else-child-ne0 t c = choice_idle c.requires c.from-child.ensures c.if-child-ne0.false (refl, refl, refl, refl)
