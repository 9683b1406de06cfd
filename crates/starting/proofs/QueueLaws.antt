-- Laws of the queue: it has room for one media more, and the run that it makes then is the start of that media on the one that it made before.
use mathlib.Core.Path.{◌≡◌, refl, ap, ◌∙◌}
use mathlib.Core.Bool.{Bool}
use mathlib.Core.List.{List}
use Prim.Native.Nat.{ℕ, zero, suc, ◌+◌, ◌<◌}
use native.Mathlib.Omega.{arith}
use borrow.Author.Tests.{eq-eqb}
use lib.ListN.{length, get_or, set, replicate}
use lib.Seq.{get_or-set_same, get_or-set_other}
use Rattle.std.proofs.Math.Bool.{cond}
use Rattle.std.proofs.Math.Nat.{add-zero}
use Rattle.std.proofs.lemmas.List.Sums.{sum_by-set, count_by-le-length}
use Rattle.base.specs.Tests.{when◌then◌else◌, ◌=?◌}
use Rattle.base.specs.Loops.{ascending_more, ascending_same}
use Rattle.machine.specs.Terms.{sleeping, occurring, to_start}
use Rattle.machine.specs.Events.{Run, choices_set, node_state, transition, next_state, line_first, node_to, node_changed, anchor_to, anchor_changed, anchors_moved, media_to, media_moved}
use Rattle.machine.specs.declared.Anchors.{Anchors}
use Rattle.machine.specs.declared.Document.{Document}
use Rattle.machine.proofs.Keep.{chosen, pass_keeps}
use Rattle.machine.proofs.Effects.{media_any_choices}
use Rattle.starting.specs.Queues.{queue_of, queue_moved, reach_of, reach_started}
use Rattle.starting.specs.Reaching.{sleepers, Room}
use Rattle.starting.specs.Reached.{Reached, media_by}
use Rattle.starting.specs.declared.start.Start.{Start}

-- ---- start of a media: an awake one stays, and a sleeping one occurs; nothing else of states and values changes

next_awake : (state : ℕ) → (state ≡ sleeping → ⊥) → next_state state to_start ≡ state
unfolding next_state
next_awake zero h = absurd (h refl)
next_awake (suc zero) h = refl
next_awake (suc (suc zero)) h = refl
next_awake (suc (suc (suc state))) h = refl

pub awake_stays : (d : Document) (n : ℕ) (r : Run) → (node_state r.state n ≡ sleeping → ⊥) → media_moved d.anchors to_start n r ≡ r
unfolding media_moved when◌then◌else◌
awake_stays d n r h = rw (next_awake _ h, eq-eqb (node_state r.state n) _ refl)

record Has (states : List ℕ) (r x : Run) : Type 0 where
  states_are : x.state.nodes.states ≡ states
  values_stay : x.state.properties.values ≡ r.state.properties.values

anchors_leave : (d : Document) (moves : ℕ → ℕ → ℕ → Bool) (aborting : Bool) (n new : ℕ) (states : List ℕ) (r x : Run) → Has states r x → Has states r (anchors_moved d.anchors moves aborting n new x)
unfolding anchor_to anchor_changed
anchors_leave d moves aborting n new states r x =
    pass_keeps d (Has states r) moves aborting n new (λ a y h e p. chosen (Has states r) _ (λ _. p) (λ _. record { states_are = p.states_are; values_stay = p.values_stay })) x

media_wakes : (d : Document) (n : ℕ) (r : Run) → node_state r.state n ≡ sleeping → Has (set r.state.nodes.states n occurring) r (media_moved d.anchors to_start n r)
unfolding media_moved media_to next_state line_first node_to node_changed transition when◌then◌else◌
media_wakes d n r e = rw e (anchors_leave d _ _ n _ _ r _ (record { states_are = refl; values_stay = refl }))

-- ---- media n at the end of the queue

module _ (media : List ℕ) (count n : ℕ) (h : count < length media) where
  pub moved_more : (anchors : Anchors) (action : ℕ) (r x : Run) → x ≡ queue_moved anchors action (queue_of media count) r
      → media_moved anchors action n x ≡ queue_moved anchors action (queue_of (set media count n) (count + 1)) r
  unfolding queue_moved
  moved_more anchors action r x e =
      let turn : List ℕ → ℕ → Run → Run = λ m i. media_moved anchors action (get_or m i 0) in
      ascending_more (turn (set media count n)) count r
      (e ∙ ascending_same (turn media) (turn (set media count n)) count r (λ i _ l. rw (get_or-set_other media count i n 0 (λ u. omega arith))))
      (rw (get_or-set_same media count n 0 h))

-- a sleeping media is put in the queue of a start
module _ (s : Start) (n : ℕ) (h : n < 64) (sleeps : get_or s.states n 0 ≡ sleeping) where
  -- one less sleeps then
  less : sleepers (set s.states n occurring) + 1 ≡ sleepers s.states
  less = rw (sleeps, add-zero) at (sum_by-set (λ (state : ℕ). cond (state =? sleeping) 1 0) s.states n occurring 0 (omega (arith, s.room.state_places)))

  pub queue_room : s.reach.queue.count < 64
  queue_room = omega (arith, less, s.room.most)

  pub media_reached : {s' : Start} → s'.document ≡ s.document → s'.chosen ≡ s.chosen → s'.states ≡ set s.states n occurring
      → s'.reach ≡ reach_of (set s.reach.queue.media s.reach.queue.count n) (s.reach.queue.count + 1) s.reach.choices → Reached s n (media_by s n) s'
  unfolding reach_started
  media_reached document chosen states reach = record {
    document = document;
    chosen = chosen;
    run = λ r x f a levels b.
        let anchors = s.document.now.document.anchors in
        let has = media_wakes s.document.now.document n x (rw a.states sleeps) in
        record {
          run = rw (document, reach)
              (ap (media_moved anchors to_start n) a.run
              ∙ media_any_choices s.reach.choices anchors to_start n _
              ∙ ap (choices_set s.reach.choices) (moved_more s.reach.queue.media s.reach.queue.count n (omega (arith, queue_room, s.room.queue_places)) anchors to_start r _ refl));
          states = has.states_are ∙ rw (states, a.states);
          values = has.values_stay ∙ a.values;
        };
  }

-- ---- the queue before a start

pub room_none : (states : List ℕ) → length states ≡ 64 → Room states (queue_of (replicate 64 0) 0)
room_none states places = record { state_places = places; queue_places = refl; most = omega (arith, count_by-le-length (λ (state : ℕ). state =? sleeping) states); ids = λ i h. absurd (omega arith) }
