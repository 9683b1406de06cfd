-- What the check leaves open of `counts::anchors::has_anchor`. Assumes nothing.
use Rattle.std.proofs.Common.{rules}
use Rattle.base.specs.Ranges.{any_some}
use Rattle.machine.specs.Counts.{is_anchor_of, has_anchor}
use Rattle.counts.proofs.anchors.has_anchor.Goals as goal

pub returns : goal.returns
unfolding has_anchor
returns c = let anchors = c.args.d.now.document.anchors in any_some (is_anchor_of anchors c.args.m) anchors.count c.any.ensures.ran (λ a passes f k. search rules)
