-- What the check leaves open of `choosing::found_children`. Assumes nothing.
use Rattle.std.proofs.Common.{◌≡◌, ◌<◌, ◌-◌, arith}
use Rattle.choosing.proofs.ChoiceLaws.{default_chosen, chosen_more, bind_decided, found_children}
use Rattle.choosing.proofs.found_children.Goals as goal

pub loop-b-init : goal.loop-b-init
loop-b-init c = (c.new-known.ensures, default_chosen _ _ _ _ c.default_children-chosen.ensures)

pub loop-b-preserved : goal.loop-b-preserved
loop-b-preserved c =
    let b = c.loop-b.b - 1 in
    let below : b < c.args.binds.now.count = omega arith in
    let decided = bind_decided _ _ _ c.requires.1 b (c.requires.0.rule b below) c.loop-b.invariant.0 c.bind_rule_holds-passes.ensures in
    let switch = c.requires.0.low.switch b below in
    (decided.1, chosen_more _ _ _ _ _ _ _ c.loop-b-test.true c.loop-b.auto.b switch decided.0 c.choose.ensures c.loop-b.invariant.1)

pub returns : goal.returns
returns c = let e : c.loop-b.b ≡ 0 = omega arith in found_children _ _ _ _ (rw e at c.loop-b.invariant.1)
