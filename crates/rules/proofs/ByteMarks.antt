-- Marks in bytes: a mark, and all of them once what `KnownRules` knows is noted in them. What callers have and learn of them, as in `Facts`.
use Prim.Native.Nat.{ℕ, ◌<◌}
use mathlib.Core.Bool.{Bool, true, false}
use mathlib.Core.List.{List, map}
use mathlib.Core.Path.{◌≡◌, refl, sym, ◌∙◌}
use native.Mathlib.Omega.{arith}
use Rattle.std.proofs.Common.{rules}
use lib.IntN.{ℤ}
use lib.ListN.{get_or, get_or-map, replicate}
use Rattle.std.specs.Prelude.{Option, Some, None}
use Rattle.base.specs.Marks.{zero_at}
use Rattle.machine.specs.declared.Rules.{Rules}
use Rattle.machine.specs.Deciding.{rule_holds}
use Rattle.machine.specs.Sound.{SoundRules}
use Rattle.rules.proofs.ByKind.{composite}
use Rattle.rules.specs.Memo as memo
use Rattle.rules.specs.ByteMarks.{mark_of, known_of, noted, NotedMarks, Known, Earlier, Decided}

-- ---- a mark

unknown : (mark : ℕ) → known_of mark ≡ None → mark ≡ 0
unknown mark n = search rules

right_known : (mark : ℕ) (answer : Bool) → mark ≡ mark_of answer → known_of mark ≡ Some answer
right_known mark true e = rw e refl
right_known mark false e = rw e refl

not_noted : (mark : ℕ) (known : Option Bool) → noted mark known ≡ 0 → (mark ≡ 0) × (known ≡ None)
not_noted mark None z = (z, refl)
not_noted mark (Some true) z = search rules
not_noted mark (Some false) z = search rules

right_noted : (mark : ℕ) (known : Option Bool) (answer : Bool) → ((mark ≡ 0 → ⊥) → mark ≡ mark_of answer) → ((known ≡ None → ⊥) → known ≡ Some answer)
    → (noted mark known ≡ 0 → ⊥) → noted mark known ≡ mark_of answer
right_noted mark None answer m k n = m n
right_noted mark (Some holds) answer m k n = search rules

-- ---- all marks

pub decided_marks : {rules : Rules} {marks after : List ℕ} {known : List (Option Bool)} {id : ℕ} {holds : Bool}
    → memo.Decided rules (map known_of marks) id holds known → NotedMarks marks known after → Decided rules.operators rules.lefts rules.rights marks id holds after
decided_marks {marks = marks} {after} {known} d n =
    let read : (i : ℕ) → memo.mark_at (map known_of marks) i ≡ known_of (get_or marks i 0) = λ i. get_or-map known_of marks i 0 in
    let none : (i : ℕ) → get_or after i 0 ≡ 0 → (get_or marks i 0 ≡ 0) × (memo.mark_at known i ≡ None) = λ i z. not_noted _ _ (sym (n.entries i) ∙ z) in
    record {
      places = n.places;
      kept = λ i z. (none i z).0;
      noted = λ z. d.noted (none _ z).1;
      right = λ answer h c.
          let right = d.right answer
          (λ i s. read i ∙ right_known _ _ (h i (λ z. s (read i ∙ rw z refl))))
          (λ i l z. c i l (unknown _ (sym (read i) ∙ z))) in
          (right.0, λ i s. n.entries i ∙ right_noted _ _ (answer i) (h i) (right.1 i) (λ z. s (n.entries i ∙ z)));
    }

pub known_marks : {rules : Rules} {values : List ℤ} {count : ℕ} {known : List (Option Bool)} {marks : List ℕ}
    → memo.Known rules values count known → NotedMarks (replicate 32 0) known marks → Known rules values count marks
known_marks k n = record {
  places = n.places;
  marked = λ i s. n.entries i ∙ right_noted _ _ _ (λ d. absurd (d (zero_at 32 i))) (k.marked i) (λ z. s (n.entries i ∙ z));
  composite = λ i l z. k.composite i l (not_noted _ _ (sym (n.entries i) ∙ z)).1;
}

-- ---- a document's rules

module _ {properties : ℕ} {rules : Rules} {values : List ℤ} {known : List ℕ} {id : ℕ}
    (s : SoundRules properties rules) (k : Known rules values rules.count known) (h : id < rules.count) where
  pub earlier : Earlier rules.lefts rules.rights known id
  earlier i l e = (s.left i (omega arith) (k.composite i (omega arith) e), s.right i (omega arith) (k.composite i (omega arith) e))

  module _ {holds : Bool} {after : List ℕ} (decided : Decided rules.operators rules.lefts rules.rights known id holds after) where
    pub decided_right : (holds ≡ rule_holds rules values id) × Known rules values rules.count after
    decided_right =
        let both = decided.right (rule_holds rules values) k.marked (λ i l e. composite rules values s i (omega arith) (k.composite i (omega arith) e)) in (
          both.0,
          record {
            places = decided.places ∙ k.places;
            marked = both.1;
            composite = λ i l e. k.composite i l (decided.kept i e);
          },
        )
