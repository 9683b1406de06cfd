-- What the check leaves open of `counts::links::count_action`. Assumes nothing.
use Rattle.std.proofs.Common.{◌≡◌, sym, ◌∙◌, arith}
use Rattle.base.specs.Loops.{first_skip, first_hit, first_end}
use Rattle.machine.specs.Counts.{count_action}
use Rattle.counts.proofs.links.count_action.Goals as goal

pub returns-then-sets : goal.returns-then-sets
unfolding count_action
returns-then-sets c = rw (← c.from-count.ensures) (first_hit _ _ _ c.loop-j.invariant c.loop-j-test.true (sym c.sets.ensures ∙ c.if-sets.true))

pub loop-j-preserved : goal.loop-j-preserved
loop-j-preserved c = first_skip _ _ _ c.loop-j.invariant c.loop-j-test.true (sym c.sets.ensures ∙ c.if-sets.false)

pub returns : goal.returns
unfolding count_action
returns c =
    let past : c.from-count.result ≡ c.loop-j.j = omega arith in
    rw (← c.from-count.ensures) (past ∙ first_end _ _ _ c.loop-j.invariant c.loop-j-test.false)
