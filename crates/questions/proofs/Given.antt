-- An id that is given is a place of its table.
use Rattle.std.specs.Prelude.{◌≡◌, true, ◌&&◌, Bool, ℕ, ◌<◌}
use Rattle.std.proofs.Common.{arith}
use borrow.Author.Tests.{ltb-true}
use Rattle.base.specs.Tests.{◌<?◌, both_pass}
use Rattle.machine.specs.Sound.{Sound}
use Rattle.machine.specs.declared.Document.{Document}

module _ (d : Document) (sound : Sound d) (n : ℕ) (other : Bool) where
  pub few_nodes : n <? d.nodes.count && other ≡ true → n < 64
  few_nodes e =
      let h = ltb-true n d.nodes.count (both_pass (n <? d.nodes.count) _ e).0 in
      omega (arith, h, sound.nodes.few)

  pub few_anchors : n <? d.anchors.count && other ≡ true → n < 128
  few_anchors e =
      let h = ltb-true n d.anchors.count (both_pass (n <? d.anchors.count) _ e).0 in
      omega (arith, h, sound.anchors)
