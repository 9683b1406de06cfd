-- What the check leaves open of `document::checking::has_same_port`. Assumes nothing.
use Rattle.std.proofs.Common.{rules}
use Rattle.machine.specs.Records.{is_port}
use Rattle.base.specs.Ranges.{any_some}
use Rattle.document.proofs.checking.has_same_port.Goals as goal

pub returns : goal.returns
returns c = any_some (is_port c.args.ports.now c.args.r) c.args.end c.any.ensures.ran (λ p passes f k. search rules)
