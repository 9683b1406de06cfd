-- An event that is given is within the tables.
use Prim.Native.Nat.{ℕ}
use mathlib.Core.Bool.{true, ◌&&◌}
use mathlib.Core.Path.{◌≡◌}
use native.Mathlib.Omega.{arith}
use borrow.Author.Tests.{leb-true, ltb-true}
use Rattle.base.specs.Tests.{when◌then◌else◌, ◌≤?◌, both_pass}
use Rattle.machine.specs.Terms.{of_node, of_property}
use Rattle.machine.specs.Records.{subject_given}
use Rattle.machine.specs.Sound.{Sound}
use Rattle.machine.specs.declared.Document.{Document}
use Rattle.questions.specs.Places.{Within}

pub within : (d : Document) (class id : ℕ) → Sound d → of_node ≤? class && class ≤? of_property ≡ true → subject_given d class id ≡ true → Within class id
unfolding subject_given when◌then◌else◌
within d class id sound r g = record {
  node = λ e. omega (arith, ltb-true id d.nodes.count (rw e at g), sound.nodes.few);
  anchor = λ e. omega (arith, ltb-true id d.anchors.count (rw e at g), sound.anchors);
  property = λ n a.
      let p = both_pass (of_node ≤? class) _ r in
      let e : class ≡ of_property = omega (arith, leb-true of_node class p.0, leb-true class of_property p.1) in
      omega (arith, ltb-true id d.properties (rw e at g), sound.properties);
}
