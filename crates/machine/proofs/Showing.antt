-- A document that shows counts, in facts: at a clock at most one anchor of the media, for each its link and its action, and no other.
use Prim.Native.Nat.{ℕ, ◌<◌}
use native.Mathlib.Omega.{arith}
use mathlib.Core.Bool.{true, false}
use mathlib.Core.List.{List, [], ◌∷◌, ◌++◌}
use mathlib.Core.Path.{◌≡◌, refl}
use lib.IntN.{pos}
use borrow.Author.Tests.{eqb-true}
use Rattle.std.proofs.lemmas.Bool.Decides.{nat_tests}
use Rattle.base.specs.Tests.{when◌then◌else◌}
use Rattle.base.specs.Loops.{every_each, none_passing, One, one_passing}
use Rattle.machine.specs.Terms.{no_id}
use Rattle.machine.specs.Tables.{anchor_at, link_at, action_count}
use Rattle.machine.specs.Counts.{is_anchor_of, sets_in, times_set, is_count_link_of, is_count_link_in, apart, apart_from_earlier, disjoint, has_one_link, each_has_one_link, sets_once, each_sets_once, unguarded, each_unguarded, sets_no_other, no_other, owner_outside_switches, each_outside_switches, first_failing, conditions, failing, shows_counts, check_counts, is_start_of, last_started}
use Rattle.machine.specs.Owners.{path_chosen}
use Rattle.machine.specs.Answers.{accepted}
use Rattle.machine.specs.Demand3.{Inside}
use Rattle.machine.specs.declared.Anchors.{Anchors}
use Rattle.machine.specs.declared.Document.{Document}
use Rattle.machine.specs.declared.Session.{Session}
use Rattle.machine.specs.declared.Line.{Line}
use Rattle.machine.proofs.Paths.{outside_chosen}

module _ (anchors : Anchors) (m a : ℕ) where
  pub anchor_given : is_anchor_of anchors m a ≡ true → (a < anchors.count) × ((anchor_at anchors a).media ≡ m)
  unfolding is_anchor_of
  anchor_given e = grind (arith, nat_tests)

  pub is_anchor : a < anchors.count → (anchor_at anchors a).media ≡ m → is_anchor_of anchors m a ≡ true
  unfolding is_anchor_of
  is_anchor h e = grind (arith, nat_tests)

-- the clock is in the anchor
abbrev pub InAnchor : Document → ℕ → ℕ → Type 0
InAnchor d clock a = Inside (anchor_at d.anchors a).begin clock (anchor_at d.anchors a).end

pub record Shows (d : Document) (m p : ℕ) : Type 0 where
  pub single : (a b clock : ℕ) → is_anchor_of d.anchors m a ≡ true → is_anchor_of d.anchors m b ≡ true → InAnchor d clock a → InAnchor d clock b → a ≡ b
  pub link : (a : ℕ) → is_anchor_of d.anchors m a ≡ true → One (is_count_link_of d p a) d.links.count
  pub action : (l : ℕ) → l < d.links.count → is_count_link_in d m p l ≡ true → One (sets_in d p l) (action_count d.links l)
  pub unguarded : (l : ℕ) → l < d.links.count → is_count_link_in d m p l ≡ true → (link_at d.links l).guard ≡ no_id
  pub chosen : (l : ℕ) → l < d.links.count → is_count_link_in d m p l ≡ true → (choices : List ℕ) → path_chosen d.nodes choices (link_at d.links l).owner ≡ true
  pub other : (l : ℕ) → l < d.links.count → is_count_link_in d m p l ≡ false → (j : ℕ) → j < action_count d.links l → sets_in d p l j ≡ false

record Conditions (d : Document) (m p : ℕ) : Type 0 where
  apart : disjoint d.anchors m ≡ true
  one_link : each_has_one_link d m p ≡ true
  once : each_sets_once d m p ≡ true
  no_guard : each_unguarded d m p ≡ true
  no_more : no_other d m p ≡ true
  outside : each_outside_switches d m p ≡ true

conditions_hold : (d : Document) (m p : ℕ) → shows_counts d m p ≡ true → Conditions d m p
unfolding shows_counts failing conditions first_failing when◌then◌else◌
conditions_hold d m p e = grind (arith, nat_tests)

module _ (d : Document) (m : ℕ) where
  anchors_apart : disjoint d.anchors m ≡ true → (a b : ℕ) → a < b → is_anchor_of d.anchors m a ≡ true → is_anchor_of d.anchors m b ≡ true → apart d.anchors a b ≡ true
  unfolding disjoint apart_from_earlier
  anchors_apart e a b l u v = rw u at (every_each _ b (rw v at (every_each _ _ e b (anchor_given _ m b v).0)) a l)

  pub shows : (p : ℕ) → shows_counts d m p ≡ true → Shows d m p
  unfolding apart each_has_one_link has_one_link each_sets_once sets_once each_unguarded unguarded no_other sets_no_other times_set each_outside_switches owner_outside_switches
  shows p e =
      let c = conditions_hold d m p e in
      record {
        single = λ a b clock u v i j. grind (arith, nat_tests, anchors_apart c.apart a b, anchors_apart c.apart b a);
        link = λ a u. one_passing _ _ (eqb-true _ 1 (rw u at (every_each _ _ c.one_link a (anchor_given _ m a u).0)));
        action = λ l h u. one_passing _ _ (eqb-true _ 1 (rw u at (every_each _ _ c.once l h)));
        unguarded = λ l h u. eqb-true _ _ (rw u at (every_each _ _ c.no_guard l h));
        chosen = λ l h u. outside_chosen _ _ (rw u at (every_each _ _ c.outside l h));
        other = λ l h u. none_passing _ _ (let t = every_each _ _ c.no_more l h in grind (arith, nat_tests));
      }

  -- the last that started, of one line more
  pub last_more : (last : ℕ) (xs : List Line) (x : Line) → last_started d m last (xs ++ (x ∷ [])) ≡ (when is_start_of d m x then x.id else last_started d m last xs)
  unfolding last_started
  last_more last [] x = refl
  last_more last (y ∷ xs) x = last_more (when is_start_of d m y then y.id else last) xs x

-- ---- what the check answers: 0 where the document shows the counts

pub check_shows : (s : Session) (m p : ℕ) → check_counts s m p ≡ accepted (pos 0 ∷ []) → shows_counts s.document m p ≡ true
unfolding check_counts shows_counts when◌then◌else◌
check_shows s m p e = grind (arith, nat_tests)
