-- Laws of the anchors that move, and of a media that passes a clock.
use mathlib.Core.Path.{◌≡◌, refl, sym, ap, ◌∙◌}
use mathlib.Core.Bool.{Bool, true, false, ◌&&◌, and-false}
use mathlib.Core.List.{List}
use Prim.Native.Nat.{ℕ, zero, suc}
use native.Mathlib.Omega.{arith}
use Rattle.std.specs.Prelude.{Option, Some, None}
use borrow.Author.Tests.{ne_eqb}
use lib.ListN.{get_or}
use Rattle.base.specs.Tests.{when◌then◌else◌, ◌=?◌}
use Rattle.base.specs.Loops.{past_last, past_last_most, past_last_none, ascending_within}
use Rattle.machine.specs.Terms.{no_transition, of_anchor, sleeping, occurring, to_stop}
use Rattle.machine.specs.Tables.{anchor_at}
use Rattle.machine.specs.Events.{Run, with_state, with_anchor, anchor_state, anchor_count, counted, awake, begins_at, ends_at, transition, anchor_to, anchor_changed, anchor_moved, anchors_moved, media_moved}
use Rattle.machine.specs.Log.{line, logged}
use Rattle.machine.specs.Tick.{with_clock, anchors_passed, passed}
use Rattle.changes.specs.Transitions.{transition_or_none}
use Rattle.transitions.specs.Lent.{anchors_of}
use Rattle.machine.specs.declared.Anchors.{Anchors}
use Rattle.machine.specs.declared.Document.{Document}
use Rattle.transitions.specs.declared.media.Due.{Due}
use Rattle.transitions.specs.Due.{due_at, due_of}

-- an anchor's change by its transition, if it has one
unfoldable pub changed_by : ℕ → ℕ → Option ℕ → Run → Run
changed_by a new None r = r
changed_by a new (Some change) r = with_state (with_anchor a new (counted change (anchor_count r.state a)) r.state) (logged (line of_anchor a change) r.log) r

pub changed_as : (a new change : ℕ) (r : Run) → changed_by a new (transition_or_none change) r ≡ anchor_changed a new change r
unfolding changed_by transition_or_none anchor_changed when◌then◌else◌
changed_as a new zero r = refl
changed_as a new (suc change) r = rw (ne_eqb (suc change) 0 (λ e. omega arith))

-- an anchor that does not move has no transition
changed_if : (b aborting : Bool) (a new : ℕ) (r : Run)
    → (when b then anchor_to aborting a new r else r) ≡ changed_by a new (transition_or_none (when b then transition aborting (anchor_state r.state a) new else no_transition)) r
unfolding when◌then◌else◌ anchor_to changed_by transition_or_none
changed_if true aborting a new r = sym (changed_as a new _ r)
changed_if false aborting a new r = refl

-- a test that fails fails with another beside it
stays_with : (a b c : Bool) → a && c ≡ false → a && (b && c) ≡ false
stays_with true b c e = rw e (and-false b)
stays_with false b c e = refl

-- one anchor, by its transition
pub anchor_moved_lem : (anchors : Anchors) (moves : ℕ → ℕ → ℕ → Bool) (aborting : Bool) (n new a : ℕ) (r : Run) {z : Run} (change : Option ℕ)
    → change ≡ transition_or_none (when (anchor_at anchors a).media =? n && moves (anchor_at anchors a).begin (anchor_at anchors a).end (anchor_state r.state a) then transition aborting (anchor_state r.state a) new else no_transition)
    → z ≡ changed_by a new change r → z ≡ anchor_moved anchors moves aborting n new a r
unfolding anchor_moved
anchor_moved_lem anchors moves aborting n new a r change e p = p ∙ rw e (sym (changed_if _ aborting a new r))

-- after the last that is due none moves
module _ (count : ℕ) (media begins ends : List ℕ) (n clock new : ℕ) (r : Run) where
  moved_within : (moves : ℕ → ℕ → ℕ → Bool) (due : ℕ → Bool) → ((a state : ℕ) → due a ≡ false → get_or media a 0 =? n && moves (get_or begins a 0) (get_or ends a 0) state ≡ false)
      → anchors_moved (anchors_of (past_last due count) media begins ends) moves false n new r ≡ anchors_moved (anchors_of count media begins ends) moves false n new r
  unfolding anchors_moved anchor_moved when◌then◌else◌
  moved_within moves due none =
      ascending_within (anchor_moved (anchors_of count media begins ends) moves false n new) (past_last due count) count r (past_last_most due count)
      (λ a y l h. rw (none a (anchor_state y.state a) (past_last_none due count a l h)))

  ending_within : anchors_moved (anchors_of (past_last (due_at media ends n clock) count) media begins ends) (ends_at clock) false n new r ≡ anchors_moved (anchors_of count media begins ends) (ends_at clock) false n new r
  unfolding due_at ends_at
  ending_within = moved_within (ends_at clock) _ (λ a state e. stays_with (get_or media a 0 =? n) (awake state) (get_or ends a 0 =? clock) e)

  beginning_within : anchors_moved (anchors_of (past_last (due_at media begins n clock) count) media begins ends) (begins_at clock) false n new r ≡ anchors_moved (anchors_of count media begins ends) (begins_at clock) false n new r
  unfolding due_at begins_at
  beginning_within = moved_within (begins_at clock) _ (λ a state e. e)

-- a media passes a clock, by what is due there: x where the anchors that end have stopped, y where those that begin have started
module _ (d : Document) (count : ℕ) (media begins ends : List ℕ) (n clock : ℕ) (r : Run) (of : d.anchors ≡ anchors_of count media begins ends) {due : Due} (is : due ≡ due_of d n clock) {x y : Run}
    (p : x ≡ anchors_moved (anchors_of due.ending media begins ends) (ends_at clock) false n sleeping (with_state (with_clock n clock r.state) r.log r))
    (q : y ≡ anchors_moved (anchors_of due.beginning media begins ends) (begins_at clock) false n occurring x) where
  anchors_pass : y ≡ anchors_passed d n clock r
  unfolding anchors_passed due_of
  anchors_pass = q ∙ rw (p, is, of) (beginning_within count media begins ends n clock occurring _ ∙ rw (ending_within count media begins ends n clock sleeping _))

  pub passes_end : {z : Run} → due.stops ≡ true → z ≡ media_moved (anchors_of count media begins ends) to_stop n y → z ≡ passed d n clock r
  unfolding passed due_of when◌then◌else◌
  passes_end e z = z ∙ rw (← of, anchors_pass, sym (ap (λ (t : Due). t.stops) is) ∙ e)

  pub passes_on : due.stops ≡ false → y ≡ passed d n clock r
  unfolding passed due_of when◌then◌else◌
  passes_on e = rw (sym (ap (λ (t : Due). t.stops) is) ∙ e) anchors_pass
