-- What the check leaves open of `probe::probe_command`. Assumes nothing.
use Rattle.std.proofs.Common.{◌∙◌, w32, to_z-of_z}
use Rattle.probe.proofs.probe_command.Goals as goal

pub returns : goal.returns
returns c = rw (← to_z-of_z {w = w32} c.ranges.value) (c.from.ensures _ ∙ c.command.ensures)
