-- What is known while rules are decided: for each rule whether it holds, or nothing while it is not decided.
use Rattle.std.specs.Prelude.{ℕ, ◌<◌, ◌≤◌, Bool, List, ◌≡◌, ℤ, get_or, length, Option, Some, None}
use Rattle.machine.specs.declared.Rules.{Rules}
use Rattle.machine.specs.Terms.{simple_rule}
use Rattle.machine.specs.Tables.{rule_at}
use Rattle.machine.specs.Deciding.{combined, rule_holds}
use Rattle.rules.specs.declared.KnownRules.{KnownRules}

abbrev pub mark_at : List (Option Bool) → ℕ → Option Bool
mark_at known i = get_or known i None

-- every rule that has a mark has that of its answer
abbrev pub Marked : (ℕ → Bool) → List (Option Bool) → Type 0
Marked answer known = (i : ℕ) → (mark_at known i ≡ None → ⊥) → mark_at known i ≡ Some (answer i)

-- what is known of the rules on these values: there is a place for each, marks are right, and every simple rule below the count has one
pub record Known (rules : Rules) (values : List ℤ) (count : ℕ) (known : List (Option Bool)) : Type 0 where
  pub places : length known ≡ 32
  pub marked : Marked (rule_holds rules values) known
  pub composite : (i : ℕ) → i < count → mark_at known i ≡ None → (rule_at rules i).kind ≡ simple_rule → ⊥

-- every rule up to id that has no mark has two earlier rules
abbrev pub Earlier : Rules → List (Option Bool) → ℕ → Type 0
Earlier rules known id = (i : ℕ) → i ≤ id → mark_at known i ≡ None → ((rule_at rules i).left < i) × ((rule_at rules i).right < i)

-- and its answer is combined from theirs
abbrev pub Combined : (ℕ → Bool) → Rules → List (Option Bool) → ℕ → Type 0
Combined answer rules known id =
    (i : ℕ) → i ≤ id → mark_at known i ≡ None
    → answer i ≡ combined (rule_at rules i).operator (answer (rule_at rules i).left) (answer (rule_at rules i).right)

-- rule id was decided: marks stay and it has one, so that it is not decided again; if the marks were right, they are, and so is its answer
pub record Decided (rules : Rules) (known : List (Option Bool)) (id : ℕ) (holds : Bool) (after : List (Option Bool)) : Type 0 where
  pub places : length after ≡ length known
  pub kept : (i : ℕ) → mark_at after i ≡ None → mark_at known i ≡ None
  pub noted : mark_at after id ≡ None → ⊥
  pub right : (answer : ℕ → Bool) → Marked answer known → Combined answer rules known id → (holds ≡ answer id) × Marked answer after

-- ---- of rules together with what is known of them

-- they are these rules, and this much is known of them on these values
pub record KnownIn (k : KnownRules) (rules : Rules) (values : List ℤ) : Type 0 where
  pub same_rules : k.rules.now ≡ rules
  pub known : Known rules values rules.count k.known

abbrev pub EarlierIn : KnownRules → ℕ → Type 0
EarlierIn k id = Earlier k.rules.now k.known id

-- rule id was decided: the rules stay
pub record DecidedIn (k : KnownRules) (id : ℕ) (holds : Bool) (after : KnownRules) : Type 0 where
  pub same_rules : after.rules ≡ k.rules
  pub decided : Decided k.rules.now k.known id holds after.known
