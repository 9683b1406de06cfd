-- What the check leaves open of `counts::anchors::disjoint`. Assumes nothing.
use Rattle.std.proofs.Common.{rules}
use Rattle.base.specs.Ranges.{all_every}
use Rattle.machine.specs.Counts.{apart_from_earlier, disjoint}
use Rattle.counts.proofs.anchors.disjoint.Goals as goal

pub returns : goal.returns
unfolding disjoint
returns c = let anchors = c.args.d.now.document.anchors in all_every (apart_from_earlier anchors c.args.m) anchors.count c.all.ensures.ran (λ b apart f k. search rules)
