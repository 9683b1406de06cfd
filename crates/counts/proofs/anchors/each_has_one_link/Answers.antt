-- What the check leaves open of `counts::anchors::each_has_one_link`. Assumes nothing.
use Rattle.std.proofs.Common.{rules}
use Rattle.base.specs.Ranges.{all_every}
use Rattle.machine.specs.Counts.{has_one_link, each_has_one_link}
use Rattle.counts.proofs.anchors.each_has_one_link.Goals as goal

pub returns : goal.returns
unfolding each_has_one_link
returns c = λ p numbered. let d = c.args.d.now.document in all_every (has_one_link d c.args.m p) d.anchors.count c.all.ensures.ran (λ a one f k. search (rules, numbered))
