-- What the check leaves open of `rules::rule_holds`. Assumes nothing.
use Rattle.rules.proofs.Facts.{decided_right}
use Rattle.rules.proofs.rule_holds.Goals as goal

pub returns : goal.returns
returns c = (decided_right c.requires.1 c.new.ensures c.requires.0 c.decide.ensures).0
