-- Marks: none at first, and one rule more; and a rule decided from its two earlier rules.
use Prim.Native.Nat.{ℕ, ◌+◌, ◌<◌}
use mathlib.Core.Bool.{Bool}
use mathlib.Core.List.{List}
use mathlib.Core.Path.{◌≡◌, refl, ap, sym, ◌∙◌}
use mathlib.Core.Logic.{⊎_elim}
use native.Mathlib.Nat.{eq-or-lt_of_le}
use native.Mathlib.Omega.{arith}
use lib.IntN.{ℤ}
use lib.ListN.{set, replicate, length, length-set}
use lib.Seq.{get_or-set_same, get_or-set_other}
use borrow.Author.Tests.{eqb-true, eqb-false}
use Rattle.std.specs.Prelude.{Option, Some, None}
use Rattle.std.proofs.lemmas.Option.{none-some}
use Rattle.base.specs.Tests.{◌=?◌, by_test}
use Rattle.base.specs.Marks.{zero_at}
use Rattle.machine.specs.declared.Rules.{Rules}
use Rattle.machine.specs.Terms.{simple_rule}
use Rattle.machine.specs.Tables.{rule_at}
use Rattle.machine.specs.Deciding.{combined, rule_holds}
use Rattle.rules.specs.declared.KnownRules.{KnownRules}
use Rattle.rules.specs.Memo.{mark_at, Marked, Known, EarlierIn, DecidedIn}

-- after a store, what is true of the stored mark and of every other is true of all
stored : (P : ℕ → Option Bool → Type 0) (known : List (Option Bool)) (i : ℕ) (x : Option Bool) → i < length known → P i x
    → ((j : ℕ) → (j ≡ i → ⊥) → P j (mark_at known j)) → (j : ℕ) → P j (mark_at (set known i x) j)
stored P known i x h p others j =
    by_test (j =? i)
    (λ e. rw (eqb-true j i e, get_or-set_same known i x None h) p)
    (λ e. rw (get_or-set_other known i j x None (eqb-false j i e)) (others j (eqb-false j i e)))

module _ (answer : ℕ → Bool) (known : List (Option Bool)) where
  one_marked : (id : ℕ) {holds : Bool} → id < length known → Marked answer known → holds ≡ answer id → Marked answer (set known id (Some holds))
  one_marked id {holds} l h e = stored (λ j v. (v ≡ None → ⊥) → v ≡ Some (answer j)) known id (Some holds) l (λ _. ap Some e) (λ j _. h j)

-- the simple rules are marked by id
module _ (rules : Rules) (values : List ℤ) where
  pub nothing_known : Known rules values 0 (replicate 32 None)
  nothing_known = record { places = refl; marked = λ i h. absurd (h (zero_at 32 i)); composite = λ i l. absurd (omega arith) }

  module _ {n : ℕ} {known : List (Option Bool)} (k : Known rules values n known) where
    pub simple_known : {holds : Bool} → n < 32 → holds ≡ rule_holds rules values n → Known rules values (n + 1) (set known n (Some holds))
    simple_known {holds} l answer =
        let places = k.places in
        record {
          places = length-set known n (Some holds) ∙ places;
          marked = one_marked (rule_holds rules values) known n (omega arith) k.marked answer;
          composite = stored (λ j v. j < n + 1 → v ≡ None → (rule_at rules j).kind ≡ simple_rule → ⊥) known n (Some holds) (omega arith)
              (λ _ z. absurd (none-some _ (sym z))) (λ j d m. k.composite j (⊎_elim (λ q. absurd (d q)) (λ q. q) (eq-or-lt_of_le (omega arith))));
        }

    pub composite_known : ((rule_at rules n).kind ≡ simple_rule → ⊥) → Known rules values (n + 1) known
    composite_known d = record {
      places = k.places;
      marked = k.marked;
      composite = λ j m z. ⊎_elim (λ (q : j ≡ n). rw q d) (λ (q : j < n). k.composite j q z) (eq-or-lt_of_le (omega arith));
    }

module _ {k first second : KnownRules} {id left right : ℕ} {a b holds : Bool} where
  pub from_two : left ≡ (rule_at k.rules.now id).left → DecidedIn k left a first
      → right ≡ (rule_at first.rules.now id).right → DecidedIn first right b second
      → EarlierIn k id → mark_at k.known id ≡ None → id < length k.known
      → holds ≡ combined (rule_at second.rules.now id).operator a b
      → DecidedIn k id holds (record { rules = second.rules; known = set second.known id (Some holds) })
  from_two l p r q earlier e few combine =
      let one = rw l at p.decided in
      let two = rw (r, p.same_rules) at q.decided in
      let same = two.places ∙ one.places in
      let below = earlier id (omega arith) e in
      let marks = second.known in
      record {
        same_rules = q.same_rules ∙ p.same_rules;
        decided = record {
          places = length-set marks id (Some holds) ∙ same;
          kept = stored (λ j v. v ≡ None → mark_at k.known j ≡ None) marks id (Some holds) (omega arith)
              (λ z. absurd (none-some _ (sym z))) (λ j _ z. one.kept j (two.kept j z));
          noted = rw (get_or-set_same marks id (Some holds) None (omega arith)) (λ z. none-some _ (sym z));
          right = λ answer h c.
              let first_right = one.right answer h (λ i l z. c i (omega arith) z) in
              let second_right = two.right answer first_right.1 (λ i l z. c i (omega arith) (one.kept i z)) in
              let combined_right = rw (q.same_rules, p.same_rules) at combine in
              let holds_right : holds ≡ answer id = rw (c id (omega arith) e, ← first_right.0, ← second_right.0) combined_right in
              (holds_right, one_marked answer marks id (omega arith) second_right.1 holds_right);
        };
      }
