-- Whether a rule holds on the values of the properties.
use Rattle.std.specs.Prelude.{ℕ, zero, suc, Bool, true, false, not, ◌&&◌, ◌||◌, List, ℤ, pos, get_or}
use Rattle.std.specs.Int.Signed.{lt_z, le_z}
use Rattle.base.specs.Tests.{when◌then◌else◌, ◌=?◌, equal_ints}
use Rattle.machine.specs.Terms.{simple_rule, no_id}
use Rattle.machine.specs.Tables.{rule_at}
use Rattle.machine.specs.declared.Rules.{Rules}
use Rattle.machine.specs.declared.RuleRecord.{RuleRecord}

-- "comparator (0 eq, 1 ne, 2 lt, 3 gt, 4 lte, 5 gte)"; "compare as signed" (lt_z and le_z are the order of the integers)
unfoldable pub compared : ℕ → ℤ → ℤ → Bool
compared comparator x y =
    when comparator =? 0 then equal_ints x y
    else when comparator =? 1 then not (equal_ints x y)
    else when comparator =? 2 then lt_z x y
    else when comparator =? 3 then lt_z y x
    else when comparator =? 4 then le_z x y
    else le_z y x

-- "operator (0 and, 1 or)"
unfoldable pub combined : ℕ → Bool → Bool → Bool
combined operator x y = when operator =? 0 then x && y else x || y

-- a rule, where `earlier` decides earlier ones; "the property's value stands on the left"
unfoldable pub decided : (ℕ → Bool) → List ℤ → RuleRecord → Bool
decided earlier values r =
    when r.kind =? simple_rule
    then compared r.comparator (get_or values r.property (pos 0)) r.value
    else combined r.operator (earlier r.left) (earlier r.right)

-- "A composite rule is decided by deciding its two earlier rules": earlier ids, so more steps than the id are enough
unfoldable pub decide : Rules → List ℤ → ℕ → ℕ → Bool
decide rules values zero id = false
decide rules values (suc steps) id = decided (decide rules values steps) values (rule_at rules id)

abbrev pub rule_holds : Rules → List ℤ → ℕ → Bool
rule_holds rules values id = decide rules values (suc id) id

-- "guard rule (255: none)"
unfoldable pub guard_holds : Rules → List ℤ → ℕ → Bool
guard_holds rules values guard = when guard =? no_id then true else rule_holds rules values guard
