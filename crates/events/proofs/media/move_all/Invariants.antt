-- What stays true in the loop of `events::media::move_all`.
use Rattle.events.proofs.Prelude.{◌≡◌, ascending, run}
use Rattle.machine.specs.Events.{moved_below}
use Rattle.events.proofs.media.move_all.Given as goal

abbrev pub invariant-loop-n : goal.invariant-loop-n
invariant-loop-n l = run l.w l.log ≡ ascending (moved_below l.d.document l.action l.target) l.n (run l.initial.w l.initial.log)
