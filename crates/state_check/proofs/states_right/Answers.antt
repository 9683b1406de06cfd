-- What the check leaves open of `state_check::states_right`. Assumes nothing.
use Rattle.std.proofs.Common.{arith}
use Rattle.machine.proofs.SoundTables.{sound}
use Rattle.state_check.proofs.states_right.Goals as goal

pub nodes_right-requires : goal.nodes_right-requires
nodes_right-requires c = (sound _ c.requires).nodes.few

pub anchors_right-requires : goal.anchors_right-requires
anchors_right-requires c =
    let tables = sound _ c.requires in
    (tables.anchors, λ a h. omega (arith, tables.anchor_media a h, tables.nodes.few))
