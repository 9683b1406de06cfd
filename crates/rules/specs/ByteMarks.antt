-- What is known while rules are decided, as in `Memo`, by a mark in a byte for each rule: 0 for one that is not decided yet.
use Rattle.std.specs.Prelude.{ℕ, ◌<◌, ◌≤◌, Bool, true, false, if◌then◌else◌, List, ◌≡◌, ℤ, get_or, length, Option, Some, None}
use Rattle.base.specs.Tests.{◌=?◌}
use Rattle.machine.specs.declared.Rules.{Rules}
use Rattle.machine.specs.Terms.{simple_rule}
use Rattle.machine.specs.Tables.{rule_at}
use Rattle.machine.specs.Deciding.{combined, rule_holds}
use Rattle.rules.specs.Memo.{mark_at}

-- 1 does not hold, 2 holds
abbrev pub mark_of : Bool → ℕ
mark_of true = 2
mark_of false = 1

-- every rule that has a mark has that of its answer
abbrev pub Marked : (ℕ → Bool) → List ℕ → Type 0
Marked answer known = (i : ℕ) → (get_or known i 0 ≡ 0 → ⊥) → get_or known i 0 ≡ mark_of (answer i)

-- what is known of the rules on these values: there is a place for each, marks are right, and every simple rule below the count has one
pub record Known (rules : Rules) (values : List ℤ) (count : ℕ) (known : List ℕ) : Type 0 where
  pub places : length known ≡ 32
  pub marked : Marked (rule_holds rules values) known
  pub composite : (i : ℕ) → i < count → get_or known i 0 ≡ 0 → (rule_at rules i).kind ≡ simple_rule → ⊥

-- every rule up to id that has no mark has two earlier rules
abbrev pub Earlier : List ℕ → List ℕ → List ℕ → ℕ → Type 0
Earlier lefts rights known id = (i : ℕ) → i ≤ id → get_or known i 0 ≡ 0 → (get_or lefts i 0 < i) × (get_or rights i 0 < i)

-- and its answer is combined from theirs
abbrev pub Combined : (ℕ → Bool) → List ℕ → List ℕ → List ℕ → List ℕ → ℕ → Type 0
Combined answer operators lefts rights known id =
    (i : ℕ) → i ≤ id → get_or known i 0 ≡ 0 → answer i ≡ combined (get_or operators i 0) (answer (get_or lefts i 0)) (answer (get_or rights i 0))

-- rule id was decided: marks stay and it has one, so that it is not decided again; if the marks were right, they are, and so is its answer
pub record Decided (operators lefts rights known : List ℕ) (id : ℕ) (holds : Bool) (after : List ℕ) : Type 0 where
  pub places : length after ≡ length known
  pub kept : (i : ℕ) → get_or after i 0 ≡ 0 → get_or known i 0 ≡ 0
  pub noted : get_or after id 0 ≡ 0 → ⊥
  pub right : (answer : ℕ → Bool) → Marked answer known → Combined answer operators lefts rights known id → (holds ≡ answer id) × Marked answer after

-- ---- of such a mark, what is known in `Memo`

abbrev pub known_of : ℕ → Option Bool
known_of mark = if mark =? 0 then None else Some (mark =? 2)

-- a mark that is there stays
abbrev pub noted : ℕ → Option Bool → ℕ
noted mark None = mark
noted mark (Some holds) = if mark =? 0 then mark_of holds else mark

pub record NotedMarks (marks : List ℕ) (known : List (Option Bool)) (after : List ℕ) : Type 0 where
  pub places : length after ≡ length marks
  pub entries : (i : ℕ) → get_or after i 0 ≡ noted (get_or marks i 0) (mark_at known i)
