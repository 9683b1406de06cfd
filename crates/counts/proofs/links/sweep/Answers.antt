-- What the check leaves open of `counts::links::sweep`. Assumes nothing.
use Rattle.std.proofs.Common.{◌∙◌, arith}
use Rattle.base.specs.Loops.{every, every_none}
use Rattle.base.specs.Marks.{numbered_none, numbered_more, numbered_most}
use Rattle.machine.specs.Counts.{is_count_link, is_count_link_of, is_count_link_in, sets_once, unguarded, sets_no_other, owner_outside_switches}
use Rattle.choices.proofs.PathLaws.{path_unchosen}
use Rattle.base.specs.Tests.{when_tells}
use Rattle.counts.proofs.links.sweep.Goals as goal

pub loop-l-init : goal.loop-l-init
loop-l-init c = record {
  linked = numbered_none _;
  sets_once = every_none _;
  unguarded = every_none _;
  no_other = every_none _;
  outside = every_none _;
}

pub overflow_add-found : goal.overflow_add-found
overflow_add-found c =
    let most = numbered_most _ _ _ c.loop-l.invariant.linked c.from-a.result (omega arith) in
    grind (arith, most, c.args.d.now.sound.links)

pub loop-l-preserved : goal.loop-l-preserved
unfolding every is_count_link is_count_link_of is_count_link_in sets_once unguarded sets_no_other owner_outside_switches
loop-l-preserved c = record {
  linked = numbered_more _ _ _ _ c.is_count_link-sets_count.result _ (omega arith)
      (λ n. rw (c.from-a.ensures, c.is_count_link-sets_count.ensures, c.times_set-times.ensures)) (grind (arith, when_tells)) c.loop-l.invariant.linked;
  sets_once = grind arith;
  unguarded = grind arith;
  no_other = grind arith;
  outside = (let outside = c.path_chosen-outside.ensures ∙ path_unchosen c.args.d.now.document.nodes _ in grind (arith, outside));
}
