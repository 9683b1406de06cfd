-- What the check leaves open of `probe::probe_tick`. Assumes nothing.
use Rattle.std.proofs.Common.{◌∙◌}
use Rattle.probe.proofs.probe_tick.Goals as goal

pub returns : goal.returns
returns c = c.from.ensures _ ∙ c.tick.ensures
