-- A document whose links have no switch above their owner: their owners are admitted. Each link, each line, the chain.
use Prim.Native.Nat.{ℕ, zero, suc, ◌<◌}
use native.Mathlib.Omega.{arith}
use mathlib.Core.Bool.{true}
use mathlib.Core.Path.{◌≡◌, refl}
use Rattle.base.specs.Tests.{when◌then◌else◌}
use Rattle.base.specs.Loops.{every_each, ascending_same}
use Rattle.machine.specs.Tables.{link_at}
use Rattle.machine.specs.Events.{Run}
use Rattle.machine.specs.Owners.{owner_chosen, any_owner}
use Rattle.machine.specs.Chain.{fires, link_tried, line_taken, lines_taken, chained}
use Rattle.machine.specs.Operations.{run_admitting, call_admitting}
use Rattle.machine.specs.OwnersOutside.{owners_outside, OwnersHaveNoEffect}
use Rattle.machine.specs.declared.Document.{Document}
use Rattle.machine.specs.declared.Line.{Line}
use Rattle.machine.proofs.Paths.{outside_chosen}

module _ (d : Document) (outside : owners_outside d ≡ true) where
  link_same : (x : Line) (l : ℕ) (r : Run) → l < d.links.count → link_tried owner_chosen d x l r ≡ link_tried any_owner d x l r
  unfolding link_tried fires owner_chosen any_owner owners_outside
  link_same x l r h = rw (outside_chosen d.nodes (link_at d.links l).owner (every_each _ _ outside l h) r.state.choices)

  line_same : (x : Line) (r : Run) → line_taken owner_chosen d x r ≡ line_taken any_owner d x r
  unfolding line_taken
  line_same x r = ascending_same _ _ d.links.count r (link_same x)

  lines_same : (most k : ℕ) (r : Run) → lines_taken owner_chosen d most k r ≡ lines_taken any_owner d most k r
  unfolding lines_taken when◌then◌else◌
  lines_same zero k r = refl
  lines_same (suc most) k r = let rest = lines_same most in grind (arith, line_same)

pub owners_have_no_effect : OwnersHaveNoEffect
unfolding call_admitting run_admitting chained
owners_have_no_effect s c bytes e = let same = lines_same s.document e in grind arith
