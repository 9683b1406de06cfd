-- What stays true in the loop of `counts::links::sweep`.
use Rattle.std.proofs.Common.{◌≡◌}
use Rattle.base.specs.Loops.{every}
use Rattle.base.specs.Marks.{Numbered}
use Rattle.machine.specs.Counts.{is_count_link_of, sets_once, unguarded, sets_no_other, owner_outside_switches}
use Rattle.counts.proofs.links.sweep.Given as goal

abbrev pub invariant-loop-l : goal.invariant-loop-l
invariant-loop-l l = record {
  linked : Numbered (is_count_link_of l.d.document l.property) l.l l.found.linked;
  sets_once : l.found.each_sets_once ≡ every (sets_once l.d.document l.m l.property) l.l;
  unguarded : l.found.each_unguarded ≡ every (unguarded l.d.document l.m l.property) l.l;
  no_other : l.found.no_other ≡ every (sets_no_other l.d.document l.m l.property) l.l;
  outside : l.found.each_outside_switches ≡ every (owner_outside_switches l.d.document l.m l.property) l.l;
}
