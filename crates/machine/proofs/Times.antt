-- States, clocks and anchors of the nodes: kept by every whole step of a node.
use Prim.Native.Nat.{ℕ, ◌+◌, ◌≤◌, ◌<◌}
use native.Mathlib.Omega.{arith}
use mathlib.Core.Bool.{Bool, true, false}
use mathlib.Core.Path.{◌≡◌, ◌∙◌}
use lib.Dec.{lit≤}
use lib.ListN.{length, set}
use lib.Seq.{get_or-set_same, get_or-set_other}
use borrow.Author.Tests.{eqb-true, eqb-false, ne_eqb}
use Rattle.std.proofs.lemmas.Bool.Decides.{nat_tests}
use Rattle.base.specs.Tests.{when◌then◌else◌, ◌=?◌}
use Rattle.machine.specs.Terms.{sleeping, occurring, paused, to_start, to_stop, to_abort}
use Rattle.machine.specs.Tables.{is_media, duration_of, anchor_at}
use Rattle.machine.specs.Events.{Run, node_state, node_clock, anchor_state, next_state, with_state, begins_at, ends_at, is_awake, follows, node_to, set_property, choice_made, anchors_moved, media_to, media_moved}
use Rattle.machine.specs.Tick.{with_clock, anchors_passed, passed, ticked_one, keyed}
use Rattle.machine.specs.Chain.{firing_logged, limit_met}
use Rattle.machine.specs.Broken.{anchor_state_in}
use Rattle.machine.specs.Demand3.{Awake}
use Rattle.machine.specs.Sound.{Sound}
use Rattle.machine.specs.declared.Document.{Document}
use Rattle.machine.specs.declared.State.{State}
use Rattle.machine.proofs.Keep.{Steps, steps, anchors_passed_keep, passed_keeps, chosen, all_pass}
use Rattle.machine.proofs.Shape.{Shaped, ShapedRun, shapes}
use Rattle.machine.proofs.Effects.{moved_from, RunOnly, RunMoved, node_moves, node_leaves_anchors, moving, Passed, anchors_pass}

pub choice_same : (w : Bool) (x : ℕ) → (when w then x else x) ≡ x
unfolding when◌then◌else◌
choice_same w x = grind arith

-- ---- what the table of states says

next_three : (s action : ℕ) → s ≤ paused → next_state s action ≤ paused
unfolding next_state
next_three s action h = grind arith

-- only start wakes, and it wakes only
woken : (s action : ℕ) → to_start ≤ action → (s ≡ next_state s action → ⊥) → (action ≡ to_start → s ≡ sleeping) × (s ≡ sleeping → action ≡ to_start)
unfolding next_state
woken s action l d = grind arith

pub start_awake : (s : ℕ) → Awake (next_state s to_start)
unfolding next_state
start_awake s = grind arith

stop_sleeps : (s : ℕ) → s ≤ paused → next_state s to_stop ≡ sleeping
unfolding next_state
stop_sleeps s h = grind arith

-- ---- what is kept

-- of a node, by its state and its clock: the clock is 0 in a composite and in a sleeping media, and below the duration in an awake one
pub record NodeTimed (d : Document) (n state clock : ℕ) : Type 0 where
  pub three : state ≤ paused
  pub composite : is_media d.nodes n ≡ false → clock ≡ 0
  pub asleep : state ≡ sleeping → clock ≡ 0
  pub bounded : is_media d.nodes n ≡ true → Awake state → 0 < duration_of d.nodes n → clock < duration_of d.nodes n

abbrev TimedAt : Document → State → ℕ → Type 0
TimedAt d s n = NodeTimed d n (node_state s n) (node_clock s n)

abbrev pub Follows : Document → State → ℕ → Type 0
Follows d s a = anchor_state s a ≡ anchor_state_in d s a

pub record Timed (d : Document) (s : State) : Type 0 where
  pub nodes : (n : ℕ) → n < d.nodes.count → NodeTimed d n (node_state s n) (node_clock s n)
  pub anchors : (a : ℕ) → a < d.anchors.count → anchor_state s a ≡ anchor_state_in d s a

module _ (d : Document) (sound : Sound d) where
  abbrev owner : ℕ → ℕ
  owner a = (anchor_at d.anchors a).media

  -- nodes other than n are as they were: if n is fine, all are; and if the anchors of n follow, all do
  module _ (n : ℕ) (x y : Run) (o : RunOnly n x y) where
    nodes_again : ((j : ℕ) → j < d.nodes.count → (j ≡ n → ⊥) → TimedAt d x.state j) → TimedAt d y.state n → (j : ℕ) → j < d.nodes.count → TimedAt d y.state j
    nodes_again others this j l = grind (arith, nat_tests, others j l, o.state j, o.clock j)

    anchors_again : ((a : ℕ) → a < d.anchors.count → Follows d x.state a) → ((a : ℕ) → a < d.anchors.count → owner a ≡ n → Follows d y.state a)
        → ((a : ℕ) → a < d.anchors.count → (owner a ≡ n → ⊥) → anchor_state y.state a ≡ anchor_state x.state a) → (a : ℕ) → a < d.anchors.count → Follows d y.state a
    unfolding anchor_state_in
    anchors_again all own rest a l = grind (arith, nat_tests, all a l, own a l, rest a l, o.state (owner a), o.clock (owner a))

  -- ---- media n goes to another state by an action, and its anchors with it, in either order

  record Moved (action n new : ℕ) (x y : Run) : Type 0 where
    node : RunMoved n new x y
    anchors : (a : ℕ) → a < d.anchors.count → anchor_state y.state a ≡ (when moving d (follows action) n x a then new else anchor_state x.state a)

  module _ (n : ℕ) (x : Run) (h : n < d.nodes.count) (p : Shaped d x.state) where
    room : d.anchors.count ≤ length x.state.anchors.states
    room = omega (arith, sound.anchors, p.anchors.0.len)

    states_room : n < length x.state.nodes.states
    states_room = omega (arith, sound.nodes.few, p.nodes.0.len)

    clocks_room : n < length x.state.nodes.clocks
    clocks_room = omega (arith, sound.nodes.few, p.nodes.1.0.len)

    moves : (action new : ℕ) → Moved action n new x (media_to d.anchors action n new x)
    unfolding media_to moving
    moves action new =
        let aborting = action =? to_abort in
        let test = follows action in
        chosen (Moved action n new x) _
        (λ _.
        let y = node_to aborting n new x in
        let e = node_leaves_anchors aborting n new x in
        let w = anchors_pass d test n aborting new y (rw e room) in
        record { node = rw (w.states, w.clocks) (node_moves aborting n new x states_room clocks_room); anchors = λ a l. w.done a l ∙ rw e })
        (λ _.
        let y = anchors_moved d.anchors test aborting n new x in
        let w = anchors_pass d test n aborting new x room in
        record {
          node = moved_from w.states w.clocks (node_moves aborting n new y (rw w.states states_room) (rw w.clocks clocks_room));
          anchors = λ a l. rw (node_leaves_anchors aborting n new y) (w.done a l);
        })

  module _ (action n : ℕ) (x y : Run) (one : to_start ≤ action) (h : n < d.nodes.count) (type : is_media d.nodes n ≡ true)
      (change : node_state x.state n ≡ next_state (node_state x.state n) action → ⊥)
      (m : Moved action n (next_state (node_state x.state n) action) x y)
      (anchors : (a : ℕ) → a < d.anchors.count → Follows d x.state a) where
    abbrev old : ℕ
    old = node_state x.state n

    abbrev new : ℕ
    new = next_state old action

    -- an anchor of media n: started, put to sleep, or moved
    own : (a : ℕ) → a < d.anchors.count → owner a ≡ n → Follows d y.state a
    unfolding moving follows begins_at is_awake anchor_state_in when◌then◌else◌
    own a l e = grind (arith, nat_tests, m.anchors a l, anchors a l, sound.anchor_span a l, woken old action one change, start_awake old)

    -- its clock, if it stays awake, was below the duration
    moved_timed : ((j : ℕ) → j < d.nodes.count → (j ≡ n → ⊥) → TimedAt d x.state j) → old ≤ paused
        → (Awake new → TimedAt d x.state n) → Timed d y.state
    unfolding moving when◌then◌else◌
    moved_timed others three this =
        let low = next_three old action three in
        let here : TimedAt d y.state n = grind (arith, nat_tests, this) in
        record {
          nodes = nodes_again n x y m.node.only others here;
          anchors = anchors_again n x y m.node.only anchors own (λ a l u. m.anchors a l ∙ rw (ne_eqb (owner a) n u));
        }

  media_timed : (action n : ℕ) (r : Run) → to_start ≤ action → n < d.nodes.count → is_media d.nodes n ≡ true → Shaped d r.state → Timed d r.state → Timed d (media_moved d.anchors action n r).state
  unfolding media_moved
  media_timed action n r one h type s p =
      chosen (λ (y : Run). Timed d y.state) _ (λ _. p)
      (λ e. moved_timed action n r _ one h type (eqb-false _ _ e) (moves n r h s action _) p.anchors (λ j l _. p.nodes j l) (p.nodes n h).three (λ _. p.nodes n h))

  -- ---- a composite has no anchors, and its clock stays 0

  composite_timed : (aborting : Bool) (c new : ℕ) (r : Run) → c < d.nodes.count → is_media d.nodes c ≡ false → new ≤ paused → Shaped d r.state → Timed d r.state → Timed d (node_to aborting c new r).state
  composite_timed aborting c new r h type low s p =
      let m = node_moves aborting c new r (states_room c r h s) (clocks_room c r h s) in
      let clock = m.clock_low ((p.nodes c h).composite type) in
      let y = node_to aborting c new r in
      let here : TimedAt d y.state c = grind (arith, nat_tests) in
      record {
        nodes = nodes_again c r y m.only (λ j l _. p.nodes j l) here;
        anchors = anchors_again c r y m.only p.anchors (λ a l e. grind (arith, sound.anchor_type a l)) (λ a l u. rw (node_leaves_anchors aborting c new r));
      }

  -- ---- one tick of an occurring media: y has lost the anchors that end, z has those that begin

  module _ (n : ℕ) (r : Run) (h : n < d.nodes.count) (type : is_media d.nodes n ≡ true) (occurs : node_state r.state n ≡ occurring)
      (s : Shaped d r.state) (p : Timed d r.state) where
    abbrev next : ℕ
    next = node_clock r.state n + 1

    abbrev y : Run
    y = anchors_moved d.anchors (ends_at next) false n sleeping (with_state (with_clock n next r.state) r.log r)

    abbrev z : Run
    z = anchors_passed d n next r

    abbrev ended : Passed d (ends_at next) n sleeping (with_state (with_clock n next r.state) r.log r) d.anchors.count y
    ended = anchors_pass d (ends_at next) n false sleeping _ (room n r h s)

    begun : Passed d (begins_at next) n occurring y d.anchors.count z
    unfolding anchors_passed
    begun = anchors_pass d (begins_at next) n false occurring y (rw ended.len (room n r h s))

    states_same : z.state.nodes.states ≡ r.state.nodes.states
    states_same = begun.states ∙ ended.states

    clocks_next : z.state.nodes.clocks ≡ set r.state.nodes.clocks n next
    clocks_next = begun.clocks ∙ ended.clocks

    only : RunOnly n r z
    only = record { state = λ j u. rw states_same; clock = λ j u. rw clocks_next (get_or-set_other r.state.nodes.clocks n j next 0 u) }

    clock_here : node_clock z.state n ≡ next
    clock_here = rw clocks_next (get_or-set_same r.state.nodes.clocks n next 0 (clocks_room n r h s))

    own_anchor : (a : ℕ) → a < d.anchors.count → owner a ≡ n → Follows d z.state a
    unfolding anchor_state_in moving begins_at ends_at when◌then◌else◌
    own_anchor a l e = grind (arith, nat_tests, begun.done a l, ended.done a l, clock_here, states_same, p.anchors a l, sound.anchor_span a l)

    pub anchors : (a : ℕ) → a < d.anchors.count → Follows d z.state a
    unfolding moving when◌then◌else◌
    anchors = anchors_again n r z only p.anchors own_anchor (λ a l u. rw (begun.done a l, ended.done a l, ne_eqb (owner a) n u))

    -- the clock has come to the duration, and the media stops; or it is still below
    passed_timed : Shaped d z.state → Timed d (passed d n next r).state
    unfolding passed media_moved
    passed_timed shaped =
        let is : node_state z.state n ≡ occurring = rw states_same occurs in
        let three : node_state z.state n ≤ paused = omega arith in
        let stops = stop_sleeps (node_state z.state n) three in
        chosen (λ (k : Run). Timed d k.state) (duration_of d.nodes n =? next)
        (λ _. chosen (λ (k : Run). Timed d k.state) _
        (λ e. absurd (omega (arith, eqb-true (node_state z.state n) (next_state (node_state z.state n) to_stop) e)))
        (λ e. moved_timed to_stop n z _ (lit≤ tt) h type (eqb-false _ _ e) (moves n z h shaped to_stop _) anchors (λ j l u. rw (only.state j u, only.clock j u) (p.nodes j l)) three (λ a. absurd (a stops))))
        (λ e.
        let was = p.nodes n h in
        let here : TimedAt d z.state n = grind (arith, nat_tests, clock_here) in
        record { nodes = nodes_again n r z only (λ j l _. p.nodes j l) here; anchors = anchors })

  -- ---- all together

  pub record TimedRun (r : Run) : Type 0 where
    pub shaped : Shaped d r.state
    pub timed : Timed d r.state

  shape_steps : Steps d (ShapedRun d)
  shape_steps = steps d (ShapedRun d) (shapes d)

  tick_keeps : (n : ℕ) (r : Run) → n < d.nodes.count → TimedRun r → TimedRun (ticked_one d n r)
  unfolding ticked_one
  tick_keeps n r h p =
      chosen TimedRun _
      (λ e.
      let b = all_pass _ _ _ e in
      record {
        shaped = passed_keeps d (ShapedRun d) (shapes d).moves n _ r h p.shaped;
        timed = passed_timed n r h b.0 (eqb-true _ _ b.1) p.shaped p.timed (anchors_passed_keep d (ShapedRun d) (shapes d).moves n _ r h p.shaped);
      })
      (λ _. p)

  pub times : Steps d TimedRun
  unfolding set_property choice_made keyed firing_logged limit_met anchor_state_in
  times = record {
    moves = record {
      media = λ action n r one h type p. search (shape_steps.moves.media, media_timed);
      tick = tick_keeps;
      composite = λ aborting c new r h type low p. search (shape_steps.moves.composite, composite_timed);
      choice = λ n c r right p. search (shape_steps.moves.choice);
    };
    property = λ i value r h p. search (shape_steps.property);
    lines = assumption;
  }
