-- What the check leaves open of `starting::media_of_start`. Assumes nothing.
use mathlib.Core.Path.{refl}
use native.Mathlib.Omega.{arith}
use Rattle.starting.proofs.ReachLaws.{nothing_reached, itself_reached, below_reached}
use Rattle.starting.proofs.media_of_start.Goals as goal

pub returns-in-Some-Media : goal.returns-in-Some-Media
returns-in-Some-Media c =
    rw (c.push.ensures, c.new-queue.ensures)
    (itself_reached c.args.d.now.document _ _ _ _ (rw c.in-Some-Media.field-0-is at c.in-Some-Media.ensures) refl (omega (arith, c.args.d.now.sound.nodes.few)))

pub returns-in-Some-Context : goal.returns-in-Some-Context
returns-in-Some-Context c = below_reached _ _ _ _ _ (rw c.in-Some-Context.field-0-is at c.in-Some-Context.ensures) c.new-start.ensures c.start_context.ensures

pub returns-in-Some-Switch : goal.returns-in-Some-Switch
returns-in-Some-Switch c = below_reached _ _ _ _ _ (rw c.in-Some-Switch.field-0-is at c.in-Some-Switch.ensures) c.new-start-in-Some-Switch.ensures c.start_switch.ensures

pub returns-in-None : goal.returns-in-None
returns-in-None c = rw c.new.ensures (nothing_reached c.args.d.now.document _ _ _ _ c.in-None.ensures refl)
