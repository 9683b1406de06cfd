-- What the check leaves open of `starting::start::Start::enqueue`. Assumes nothing.
use mathlib.Core.Path.{refl}
use Rattle.starting.proofs.QueueLaws.{media_reached}
use Rattle.starting.proofs.start.Start.enqueue.Goals as goal

pub returns : goal.returns
returns c = media_reached c.args.self.now _ c.requires.0 c.requires.1 refl refl refl (rw c.push.ensures)
