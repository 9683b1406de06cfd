-- `rules::KnownRules::decide` calls itself on earlier rules, so the id falls.
use Rattle.rules.proofs.KnownRules.+decide.Given as goal

abbrev pub decreases-decide : goal.decreases-decide
decreases-decide l = l.id
