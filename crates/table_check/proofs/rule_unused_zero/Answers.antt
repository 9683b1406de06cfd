-- What the check leaves open of `table_check::rule_unused_zero`. Assumes nothing.
use Rattle.std.specs.Prelude.{pos}
use Rattle.std.proofs.Common.{eq-eqb, ne_eqb, SFits, rules, w32}
use Rattle.base.specs.Tests.{when◌then◌else◌}
use Rattle.base.specs.Bits.{same_bits}
use Rattle.machine.specs.Broken.{rule_unused_zero}
use Rattle.table_check.proofs.rule_unused_zero.Goals as goal

pub returns-then-r-eq-SIMPLE_RULE : goal.returns-then-r-eq-SIMPLE_RULE
unfolding when◌then◌else◌ rule_unused_zero
returns-then-r-eq-SIMPLE_RULE c = rw (eq-eqb _ _ c.if-r-eq-SIMPLE_RULE.true)

pub returns-else-r-eq-SIMPLE_RULE : goal.returns-else-r-eq-SIMPLE_RULE
unfolding when◌then◌else◌ rule_unused_zero
returns-else-r-eq-SIMPLE_RULE c =
    let fits : SFits w32 c.args.r.value = search rules in
    let zero_fits : SFits w32 (pos 0) = search rules in
    rw (ne_eqb _ _ c.if-r-eq-SIMPLE_RULE.false, same_bits c.args.r.value (pos 0) fits zero_fits)
