-- What the check leaves open of `document::checking::has_default`. Assumes nothing.
use Rattle.std.proofs.Common.{rules}
use Rattle.machine.specs.Records.{is_default}
use Rattle.base.specs.Ranges.{any_some}
use Rattle.document.proofs.checking.has_default.Goals as goal

pub returns : goal.returns
returns c = any_some (is_default c.args.binds.now c.args.n) c.args.end c.any.ensures.ran (λ b passes f k. search rules)
