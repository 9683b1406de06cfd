-- What stays true in the loop of `table_check::ports_obey`.
use Rattle.std.proofs.Common.{◌≡◌}
use Rattle.base.specs.Loops.{every}
use Rattle.base.specs.Marks.{Marked}
use Rattle.machine.specs.Broken.{port_obeys}
use Rattle.table_check.proofs.SamePort.{is_port_of}
use Rattle.table_check.proofs.ports_obey.Given as goal

abbrev pub invariant-loop-i : goal.invariant-loop-i
invariant-loop-i l = Marked (is_port_of l.d.ports) l.i l.has_port × (l.obey ≡ every (port_obeys l.d) l.i)
