-- What the check leaves open of `engine::check_arguments`. Assumes nothing.
use Rattle.std.proofs.Common.{◌≡◌, sym, Bool, SFits, of_z, to_z, to_z-of_z, rules, w32}
use Rattle.base.specs.Tests.{when◌then◌else◌}
use Rattle.machine.specs.Records.{action_right}
use Rattle.machine.specs.Operations.{command_fault, argument_fault}
use Rattle.machine.specs.declared.ActionRecord.{ActionRecord}
use Rattle.engine.proofs.check_arguments.Goals as goal

-- the test is of the value that the bits stand for
right : (a : ActionRecord) {tested : Bool} → SFits w32 a.value → tested ≡ action_right a.action (to_z w32 (of_z w32 a.value)) → action_right a.action a.value ≡ tested
right a fits e = sym (rw (to_z-of_z {w = w32} fits) at e)

pub returns-then-not-action_right : goal.returns-then-not-action_right
unfolding command_fault argument_fault when◌then◌else◌
returns-then-not-action_right c = rw (c.in-Command.is, right c.in-Command.a (search rules) c.action_right.ensures, c.if-not-action_right.true)

pub returns-then-not-target_given : goal.returns-then-not-target_given
unfolding command_fault argument_fault when◌then◌else◌
returns-then-not-target_given c = rw (c.in-Command.is, right c.in-Command.a (search rules) c.action_right.ensures, c.if-not-action_right.false, ← c.target_given.ensures, c.if-not-target_given.true)

pub returns-else-not-target_given : goal.returns-else-not-target_given
unfolding command_fault argument_fault when◌then◌else◌
returns-else-not-target_given c = rw (c.in-Command.is, right c.in-Command.a (search rules) c.action_right.ensures, c.if-not-action_right.false, ← c.target_given.ensures, c.if-not-target_given.false)
