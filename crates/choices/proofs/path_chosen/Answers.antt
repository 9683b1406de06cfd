-- What the check leaves open of `choices::path_chosen`. Assumes nothing.
use Rattle.std.proofs.Common.{arith}
use Rattle.machine.specs.Owners.{is_chosen, path_chosen}
use Rattle.choices.proofs.PathLaws.{path_more}
use Rattle.choices.proofs.path_chosen.Goals as goal

pub loop-node-preserved : goal.loop-node-preserved
unfolding is_chosen path_chosen
loop-node-preserved c =
    let earlier = c.requires.1.parent c.loop-node.node c.loop-node-test.true c.loop-node.invariant.0 in
    let step = path_more c.args.nodes.now (is_chosen c.args.nodes.now c.args.choices.now) _ c.requires.1 c.loop-node.node c.loop-node-test.true c.loop-node.invariant.0 in
    (omega arith, grind (arith, step))
