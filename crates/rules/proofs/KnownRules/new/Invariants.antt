-- What stays true in the loop of `rules::KnownRules::new`.
use Rattle.rules.specs.Memo.{Known}
use Rattle.rules.proofs.KnownRules.new.Given as goal

abbrev pub invariant-loop-id : goal.invariant-loop-id
invariant-loop-id l = Known l.rules l.values l.id l.known
