-- What the check leaves open of `choosing::default_children`. Assumes nothing.
use Rattle.std.proofs.Common.{refl, arith}
use lib.ListN.{get_or-replicate}
use Rattle.choosing.proofs.ChoiceLaws.{chosen_end, chosen_more}
use Rattle.choosing.proofs.default_children.Goals as goal

pub loop-b-init : goal.loop-b-init
loop-b-init c = chosen_end _ _ _ _ refl (λ n h. get_or-replicate 64 n 0 0 h)

pub loop-b-preserved : goal.loop-b-preserved
loop-b-preserved c =
    chosen_more _ _ _ _ _ _ _ c.loop-b-test.true (omega arith) (c.requires.switch _ (omega arith)) (λ n. refl) c.choose.ensures c.loop-b.invariant
