-- What the check leaves open of `rules::KnownRules::new`. Assumes nothing.
use native.Mathlib.Omega.{arith}
use Rattle.rules.proofs.ByKind.{simple}
use Rattle.rules.proofs.Marks.{nothing_known, simple_known, composite_known}
use Rattle.rules.proofs.KnownRules.new.Goals as goal
use Rattle.rules.proofs.KnownRules.new.Goals.{then-rules-id-eq-SIMPLE_RULE, else-rules-id-eq-SIMPLE_RULE}

pub loop-id-init : goal.loop-id-init
loop-id-init c = nothing_known _ _

pub loop-id-preserved : goal.loop-id-preserved
loop-id-preserved c =
    elim c.if-rules-id-eq-SIMPLE_RULE.branch [
      | then-rules-id-eq-SIMPLE_RULE w ↦ rw w.known-is (simple_known _ _ c.loop-id.invariant (omega arith) (simple _ _ _ w.if-rules-id-eq-SIMPLE_RULE.true w.simple_rule_holds.ensures))
      | else-rules-id-eq-SIMPLE_RULE w ↦ rw w.known-is (composite_known _ _ c.loop-id.invariant w.if-rules-id-eq-SIMPLE_RULE.false)
    ]
