-- What stays true in the loop of `table_check::binds_obey`.
use Rattle.std.proofs.Common.{◌≡◌}
use Rattle.base.specs.Loops.{every}
use Rattle.base.specs.Marks.{Marked}
use Rattle.machine.specs.Records.{is_default}
use Rattle.machine.specs.Broken.{bind_obeys}
use Rattle.table_check.proofs.binds_obey.Given as goal

abbrev pub invariant-loop-i : goal.invariant-loop-i
invariant-loop-i l = Marked (is_default l.d.binds) l.i l.has_default × (l.obey ≡ every (bind_obeys l.d) l.i)
