-- The child that a switch finds.
use Rattle.std.specs.Prelude.{ℕ, ◌-◌, ◌≤◌, ◌<◌, Bool, false, List, ◌≡◌, ℤ, length, get_or}
use Rattle.base.specs.Tests.{when◌then◌else◌, ◌<?◌}
use Rattle.base.specs.Loops.{first}
use Rattle.machine.specs.Terms.{no_id}
use Rattle.machine.specs.Tables.{bind_at}
use Rattle.machine.specs.Events.{found_bind}
use Rattle.machine.specs.declared.Binds.{Binds}
use Rattle.machine.specs.declared.Rules.{Rules}
use Rattle.rules.specs.declared.KnownRules.{KnownRules}
use Rattle.rules.specs.Memo.{DecidedIn}

-- the child of the bind that switch n finds; 0 where there is none, since node 0 is nobody's child
unfoldable pub child_found : Binds → Rules → List ℤ → ℕ → ℕ
child_found binds rules values n =
    let b = found_bind binds rules values n in
    when b <? binds.count then (bind_at binds b).child else 0

pub record FoundChildren (binds : Binds) (rules : Rules) (values : List ℤ) (chosen : List ℕ) : Type 0 where
  pub found : (n : ℕ) → n < 64 → get_or chosen n 0 ≡ child_found binds rules values n

-- the child of the first bind from b on that passes the test, else the other
unfoldable pub child_from : Binds → (ℕ → Bool) → ℕ → ℕ → ℕ
child_from binds test other b =
    let i = first test (binds.count - b) b in
    when i <? binds.count then (bind_at binds i).child else other

-- each switch has the child of the first of its binds from b on that passes, else the other that is given for it
pub record Chosen (binds : Binds) (test : ℕ → ℕ → Bool) (other : ℕ → ℕ) (b : ℕ) (chosen : List ℕ) : Type 0 where
  pub places : length chosen ≡ 64
  pub child : (n : ℕ) → n < 64 → get_or chosen n 0 ≡ child_from binds (test n) (other n) b

abbrev pub no_child : ℕ → ℕ
no_child n = 0

-- there is place for the switches that binds name; and the rules that they name are there
pub record LowSwitches (binds : Binds) : Type 0 where
  pub few : binds.count ≤ 64
  pub switch : (b : ℕ) → b < binds.count → (bind_at binds b).switch < 64

pub record SoundBinds (binds : Binds) (rules : Rules) : Type 0 where
  pub low : LowSwitches binds
  pub rule : (b : ℕ) → b < binds.count → ((bind_at binds b).rule ≡ no_id → ⊥) → (bind_at binds b).rule < rules.count

-- the rule of a bind was decided, from what is known of the rules; the default has none
pub record BindDecided (known : KnownRules) (rule : ℕ) (holds : Bool) (after : KnownRules) : Type 0 where
  pub default : rule ≡ no_id → (holds ≡ false) × (after ≡ known)
  pub ruled : (rule ≡ no_id → ⊥) → DecidedIn known rule holds after
