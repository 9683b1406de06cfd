-- What stays true in the loop of `events::settling::settle`.
use Rattle.events.proofs.Prelude.{◌≡◌, descending, run}
use Rattle.machine.specs.Events.{settled_one}
use Rattle.events.proofs.Gathering.{Gathered}
use Rattle.events.specs.Parts.{action_of, target_of}
use Rattle.events.proofs.settling.settle.Given as goal

abbrev pub invariant-loop-n : goal.invariant-loop-n
invariant-loop-n l = Gathered l.nodes l.w.state.nodes.states l.n l.gathered
    × (descending (settled_one l.nodes (action_of l.cause) (target_of l.cause)) l.n (run l.w l.log) ≡ descending (settled_one l.nodes (action_of l.cause) (target_of l.cause)) l.nodes.count (run l.initial.w l.initial.log))
