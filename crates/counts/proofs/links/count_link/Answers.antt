-- What the check leaves open of `counts::links::count_link`. Assumes nothing.
use Rattle.std.proofs.Common.{◌≡◌, sym, ◌∙◌, arith}
use Rattle.base.specs.Loops.{first_skip, first_hit, first_end}
use Rattle.machine.specs.Counts.{count_link}
use Rattle.counts.proofs.links.count_link.Goals as goal

pub returns-then-is_count_link_of : goal.returns-then-is_count_link_of
unfolding count_link
returns-then-is_count_link_of c = first_hit _ _ _ c.loop-l.invariant c.loop-l-test.true (sym c.is_count_link_of.ensures ∙ c.if-is_count_link_of.true)

pub loop-l-preserved : goal.loop-l-preserved
loop-l-preserved c = first_skip _ _ _ c.loop-l.invariant c.loop-l-test.true (sym c.is_count_link_of.ensures ∙ c.if-is_count_link_of.false)

pub returns : goal.returns
unfolding count_link
returns c =
    let past : c.args.d.now.document.links.count ≡ c.loop-l.l = omega arith in
    past ∙ first_end _ _ _ c.loop-l.invariant c.loop-l-test.false
