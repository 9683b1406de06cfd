-- Records as they are cut from bytes and checked: a rule has the shape of its kind, a record that is checked has no fault, and no fault has the number 0.
use Prim.Native.Nat.{ℕ, zero, suc}
use mathlib.Core.Bool.{true, ◌||◌}
use mathlib.Core.List.{List, [], ◌∷◌}
use mathlib.Core.Path.{◌≡◌}
use native.Mathlib.Omega.{arith}
use Rattle.base.specs.Tests.{when◌then◌else◌, ◌=?◌}
use Rattle.machine.specs.Terms.{simple_rule, composite_rule}
use Rattle.machine.specs.Records.{record_of, record_fault}
use Rattle.machine.specs.Load.{OrFault, good, faulty, and_then, unless, cut_at, cut, checked}
use Rattle.machine.specs.Broken.{rule_unused_zero}
use Rattle.machine.specs.declared.Document.{Document}
use Rattle.machine.specs.declared.Record.{Record}
use Rattle.machine.specs.declared.Record.TheVariants.{Head, Node, Anchor, Property, Rule, Bind, Port, Link, Action}

-- what is known of a value, or that the fault in its place has a number
unfoldable pub Known : {A : Type 0} → (A → Type 0) → OrFault A → Type 0
Known P (good value) = P value
Known P (faulty number) = number ≡ 0 → ⊥

pub and_then_lem : {A B : Type 0} {P : A → Type 0} (Q : B → Type 0) (x : OrFault A) (next : A → OrFault B) → Known P x → ((value : A) → P value → Known Q (next value)) → Known Q (and_then x next)
unfolding and_then Known
and_then_lem Q (good value) next k f = f value k
and_then_lem Q (faulty number) next k f = k

pub unless_known : {A : Type 0} (P : A → Type 0) (fault : ℕ) (x : OrFault A) → (fault ≡ 0 → Known P x) → Known P (unless fault x)
unfolding unless Known when◌then◌else◌
unless_known P fault x k = grind arith

-- of each record of a list
abbrev pub Each : (Record → Type 0) → List (OrFault Record) → Type 0
Each P [] = Unit {0}
Each P (first ∷ rest) = Known P first × Each P rest

-- a rule has one of the two kinds, and of the fields that this kind does not use none
unfoldable pub RuleShaped : Record → Type 0
RuleShaped (Head limit) = Unit {0}
RuleShaped (Node r) = Unit {0}
RuleShaped (Anchor r) = Unit {0}
RuleShaped (Property r) = Unit {0}
RuleShaped (Rule r) = ((r.kind =? simple_rule || r.kind =? composite_rule) ≡ true) × (rule_unused_zero r ≡ true)
RuleShaped (Bind r) = Unit {0}
RuleShaped (Port r) = Unit {0}
RuleShaped (Link r) = Unit {0}
RuleShaped (Action r) = Unit {0}

pub cut_known : (kind : ℕ) (rest : List ℕ) → Known RuleShaped (cut_at kind rest)
unfolding cut_at record_of Known RuleShaped rule_unused_zero when◌then◌else◌
cut_known kind rest = grind arith

pub cuts_known : (most : ℕ) (bytes : List ℕ) → Each RuleShaped (cut most bytes)
unfolding cut
cuts_known zero bytes = tt
cuts_known (suc most) [] = tt
cuts_known (suc most) (kind ∷ rest) = (cut_known kind rest, cuts_known most _)

pub record Faultless (d : Document) (r : Record) : Type 0 where
  pub shape : RuleShaped r
  pub fault : record_fault d r ≡ 0

pub checked_known : (place : Document → Record → ℕ) (d : Document) (x : OrFault Record) → Known RuleShaped x → Known (Faultless d) (checked place d x)
unfolding checked and_then unless Known when◌then◌else◌
checked_known place d x k = grind arith
