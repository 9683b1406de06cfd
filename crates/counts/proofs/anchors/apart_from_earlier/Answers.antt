-- What the check leaves open of `counts::anchors::apart_from_earlier`. Assumes nothing.
use Rattle.std.proofs.Common.{rules, tests, not, ◌||◌}
use Rattle.base.specs.Ranges.{all_every}
use Rattle.machine.specs.Counts.{is_anchor_of, apart, apart_from_earlier}
use Rattle.counts.proofs.anchors.apart_from_earlier.Goals as goal

pub returns : goal.returns
unfolding apart_from_earlier
returns c =
    let anchors = c.args.d.now.document.anchors in
    let b = c.args.b in
    rw (← c.is_anchor_of.ensures, c.if-not-is_anchor_of.false)
    (all_every (λ a. not (is_anchor_of anchors c.args.m a) || apart anchors a b) b c.all.ensures.ran (λ a passes f k. search (rules, tests)))
