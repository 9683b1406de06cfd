-- What stays true in the loop of `choosing::found_children`.
use Rattle.machine.specs.Events.{bind_holds}
use Rattle.rules.specs.Memo.{KnownIn}
use Rattle.choosing.specs.Choosing.{Chosen}
use Rattle.choosing.proofs.ChoiceLaws.{default_child}
use Rattle.choosing.proofs.found_children.Given as goal

abbrev pub invariant-loop-b : goal.invariant-loop-b
invariant-loop-b l = KnownIn l.known l.rules l.values
    × Chosen l.binds (bind_holds l.binds l.rules l.values) (default_child l.binds) l.b l.chosen
