-- What the check leaves open of `call_log::clear`. Assumes nothing.
use Rattle.std.proofs.Common.{rules}
use Rattle.std.proofs.lemmas.Slice.{overwrites}
use Rattle.call_log.proofs.LogLaws.{clear_done}
use Rattle.call_log.proofs.clear.Goals as goal

pub returns : goal.returns
returns c = clear_done _ c.args.lines _ _ c.min-end.ensures (search (rules, overwrites))
