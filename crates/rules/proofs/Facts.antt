-- The fact that callers have, as these functions require it; and what they learn of a decided rule.
use Prim.Native.Nat.{ℕ, ◌<◌}
use mathlib.Core.Bool.{Bool}
use mathlib.Core.List.{List}
use mathlib.Core.Path.{◌≡◌, ◌∙◌}
use native.Mathlib.Omega.{arith}
use lib.IntN.{ℤ}
use Rattle.machine.specs.declared.Rules.{Rules}
use Rattle.machine.specs.declared.Document.{Document}
use Rattle.machine.specs.Deciding.{rule_holds}
use Rattle.machine.specs.Sound.{SoundRules, Sound}
use Rattle.rules.proofs.ByKind.{composite}
use Rattle.rules.specs.declared.KnownRules.{KnownRules}
use Rattle.rules.specs.Memo.{KnownIn, DecidedIn}

pub sound_rules : {d : Document} → Sound d → SoundRules 32 d.rules
sound_rules s = record {
  few = s.rules.few;
  property = λ i h k. let l = s.rules.property i h k in omega (arith, s.properties);
  left = s.rules.left;
  right = s.rules.right;
}

module _ {properties : ℕ} {rules : Rules} {values : List ℤ} {k after : KnownRules} {id : ℕ} {holds : Bool}
    (s : SoundRules properties rules) (known : KnownIn k rules values) (h : id < rules.count) (decision : DecidedIn k id holds after) where
  pub decided_right : (holds ≡ rule_holds rules values id) × KnownIn after rules values
  decided_right =
      let before = known.known in
      let decided = rw known.same_rules at decision.decided in
      let both = decided.right (rule_holds rules values) before.marked (λ i l e. composite rules values s i (omega arith) (before.composite i (omega arith) e)) in (
        both.0,
        record {
          same_rules = rw decision.same_rules known.same_rules;
          known = record {
            places = decided.places ∙ before.places;
            marked = both.1;
            composite = λ i l e. before.composite i l (decided.kept i e);
          };
        },
      )
