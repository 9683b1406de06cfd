-- What stays true in the loop of `events::media::is_below`, and what decreases.
use Rattle.events.proofs.Prelude.{◌≡◌, ◌<◌}
use Rattle.machine.specs.Events.{leads_to}
use Rattle.events.proofs.media.is_below.Given as goal

abbrev pub invariant-loop-k : goal.invariant-loop-k
invariant-loop-k l = (l.k < l.nodes.count) × (leads_to l.nodes l.target l.k l.k ≡ leads_to l.nodes l.target l.n l.n)

abbrev pub decreases-loop-k : goal.decreases-loop-k
decreases-loop-k l = l.k
