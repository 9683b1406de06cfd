-- What the check leaves open of `probe::probe_key`. Assumes nothing.
use Rattle.std.proofs.Common.{◌∙◌}
use Rattle.probe.proofs.probe_key.Goals as goal

pub returns : goal.returns
returns c = c.from.ensures _ ∙ c.key.ensures
