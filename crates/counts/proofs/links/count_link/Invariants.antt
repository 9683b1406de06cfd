-- What stays true in the loop of `counts::links::count_link`.
use Rattle.std.proofs.Common.{◌≡◌, ◌-◌}
use Rattle.base.specs.Loops.{first}
use Rattle.machine.specs.Counts.{is_count_link_of}
use Rattle.counts.proofs.links.count_link.Given as goal

abbrev pub invariant-loop-l : goal.invariant-loop-l
invariant-loop-l l =
    first (is_count_link_of l.d.document l.property l.anchor) l.d.document.links.count 0 ≡ first (is_count_link_of l.d.document l.property l.anchor) (l.d.document.links.count - l.l) l.l
