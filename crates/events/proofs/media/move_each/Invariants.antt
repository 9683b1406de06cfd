-- What stays true in the loop of `events::media::move_each`.
use Rattle.events.proofs.Prelude.{ℕ, ◌≡◌, ascending, run}
use lib.ListN.{get_or}
use Rattle.machine.specs.Events.{media_moved}
use Rattle.events.proofs.media.move_each.Given as goal

abbrev pub invariant-loop-i : goal.invariant-loop-i
invariant-loop-i l = run l.w l.log ≡ ascending (λ (i : ℕ). media_moved l.anchors l.action (get_or l.queue.media i 0)) l.i (run l.initial.w l.initial.log)
