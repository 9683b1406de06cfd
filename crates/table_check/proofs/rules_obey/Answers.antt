-- What the check leaves open of `table_check::rules_obey`. Assumes nothing.
use Rattle.std.proofs.Common.{rules}
use Rattle.base.specs.Ranges.{all_every}
use Rattle.machine.specs.Broken.{rule_obeys}
use Rattle.table_check.proofs.rules_obey.Goals as goal

pub returns-then-d-le32 : goal.returns-then-d-le32
returns-then-d-le32 c = let d = c.args.d.now in all_every (rule_obeys d) d.rules.count c.all.ensures.ran (λ i obeys f k. search rules)
