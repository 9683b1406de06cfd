-- What stays true in the loop of `choices::path_chosen`, and what decreases.
use Rattle.std.proofs.Common.{◌≡◌, ◌&&◌, ◌≤◌}
use Rattle.machine.specs.Owners.{on_path, is_chosen, path_chosen}
use Rattle.choices.proofs.path_chosen.Given as goal

abbrev pub invariant-loop-node : goal.invariant-loop-node
invariant-loop-node l =
    (l.node ≤ l.owner)
    × (path_chosen l.nodes l.choices l.owner ≡ (l.chosen && on_path l.nodes (is_chosen l.nodes l.choices) l.node))

abbrev pub decreases-loop-node : goal.decreases-loop-node
decreases-loop-node l = l.node
