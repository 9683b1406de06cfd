-- Where the anchors of a media do not overlap, an awake one is the last of them that started: kept by every whole step of a node.
use Prim.Native.Nat.{ℕ, ◌≤◌, ◌<◌}
use native.Mathlib.Omega.{arith}
use mathlib.Core.Bool.{Bool, true, false, ◌&&◌, and-false}
use mathlib.Core.List.{List, ◌++◌}
use mathlib.Core.Path.{◌≡◌, refl}
use lib.Dec.{lit<}
use lib.ListN.{length, get_or, set, length-set}
use borrow.Author.Tests.{eqb-true}
use Rattle.std.proofs.lemmas.Bool.Decides.{nat_tests}
use Rattle.base.specs.Tests.{when◌then◌else◌, ◌=?◌, by_test, not_true}
use Rattle.machine.specs.Terms.{sleeping, occurring, to_start, to_stop, of_property, starts, no_id}
use Rattle.machine.specs.Log.{line, logged}
use Rattle.machine.specs.Events.{Run, node_clock, anchor_state, awake, with_state, node_changed, node_to, anchor_changed, anchor_to, set_property, choice_made, begins_at, ends_at, is_awake, follows, media_moved}
use Rattle.machine.specs.Tick.{anchors_passed, passed, ticked_one, keyed}
use Rattle.machine.specs.Chain.{firing_logged, limit_met}
use Rattle.machine.specs.Demand3.{Awake}
use Rattle.machine.specs.Counts.{is_anchor_of, is_start_of, last_started}
use Rattle.machine.specs.Sound.{Sound}
use Rattle.machine.specs.declared.Document.{Document}
use Rattle.machine.specs.declared.Line.{Line}
use Rattle.machine.proofs.Keep.{Steps, pass_keeps, media_keeps, chosen, all_pass}
use Rattle.machine.proofs.Growing.{met_stops, one_more}
use Rattle.machine.proofs.Effects.{starting, get_d_set}
use Rattle.machine.proofs.Times.{start_awake, Follows, anchors, TimedRun, times}
use Rattle.machine.proofs.Demand.{anchor_rule}
use Rattle.machine.proofs.Showing.{InAnchor, Shows, anchor_given, last_more}

module _ (h : List Line) (d : Document) (m : ℕ) where
  -- ---- the states of the anchors, and the last of m that started

  -- if nothing stops the run
  pub record IfFitted (Q : List ℕ → ℕ → Type 0) (r : Run) : Type 0 where
    pub room : d.anchors.count ≤ length r.state.anchors.states
    pub holds : r.log.stop ≡ 0 → Q r.state.anchors.states (last_started d m no_id (h ++ r.log.lines))

  module _ (Q : List ℕ → ℕ → Type 0) where
    -- one more line, with states that may have changed
    line_kept : (l : Line) (x y : Run) → y.log ≡ logged l x.log → length y.state.anchors.states ≡ length x.state.anchors.states
        → ((last : ℕ) → Q x.state.anchors.states last → Q y.state.anchors.states (when is_start_of d m l then l.id else last)) → IfFitted Q x → IfFitted Q y
    line_kept l x y e len turn k = record {
      room = rw len k.room;
      holds = rw e
          (one_more h (λ ls. Q x.state.anchors.states (last_started d m no_id ls)) (λ ls. Q y.state.anchors.states (last_started d m no_id ls)) l x.log
          (λ ls q. rw (last_more d m no_id ls l) (turn _ q)) k.holds);
    }

    -- one that starts no anchor of m, with the states that there were
    other_kept : (l : Line) (x y : Run) → is_start_of d m l ≡ false → y.log ≡ logged l x.log → y.state.anchors.states ≡ x.state.anchors.states → IfFitted Q x → IfFitted Q y
    unfolding when◌then◌else◌
    other_kept l x y n e q = line_kept l x y e (rw q) (λ last k. rw (q, n) k)

    node_kept : (aborting : Bool) (n new : ℕ) (r : Run) → IfFitted Q r → IfFitted Q (node_to aborting n new r)
    unfolding node_to node_changed is_start_of
    node_kept aborting n new r k = chosen (IfFitted Q) _ (λ _. k) (λ _. other_kept _ r _ refl refl refl k)

    anchor_kept : (aborting : Bool) (a new : ℕ) (r : Run) → let states = r.state.anchors.states in
        ((last : ℕ) → Q states last → Q (set states a new) (when get_or states a 0 =? sleeping && awake new && is_anchor_of d.anchors m a then a else last))
        → IfFitted Q r → IfFitted Q (anchor_to aborting a new r)
    unfolding anchor_to anchor_changed is_start_of
    anchor_kept aborting a new r turn k =
        chosen (IfFitted Q) _ (λ _. k)
        (λ _. line_kept _ r _ refl (simp length-set) (rw (starting aborting (anchor_state r.state a) new) turn) k)

  -- ---- each of m that is awake is the last: kept where none starts

  abbrev pub Latest : List ℕ → ℕ → Type 0
  Latest states last = (a : ℕ) → is_anchor_of d.anchors m a ≡ true → Awake (get_or states a 0) → last ≡ a

  none_starts : (aborting : Bool) (a new : ℕ) (r : Run) → a < d.anchors.count → (anchor_state r.state a =? sleeping && awake new) ≡ false
      → IfFitted Latest r → IfFitted Latest (anchor_to aborting a new r)
  unfolding when◌then◌else◌
  none_starts aborting a new r i no_start k =
      anchor_kept Latest aborting a new r
      (λ last q. rw no_start (λ b v w. grind (arith, nat_tests, q b v, get_d_set r.state.anchors.states a b new 0, k.room)))
      k

  -- ---- where one of m is awake, so is the last: kept where none goes to sleep

  abbrev LatestAwake : List ℕ → ℕ → Type 0
  LatestAwake states last = (a : ℕ) → is_anchor_of d.anchors m a ≡ true → Awake (get_or states a 0) → (is_anchor_of d.anchors m last ≡ true) × Awake (get_or states last 0)

  none_sleeps : (aborting : Bool) (a new : ℕ) (r : Run) → a < d.anchors.count → Awake new → IfFitted LatestAwake r → IfFitted LatestAwake (anchor_to aborting a new r)
  unfolding when◌then◌else◌
  none_sleeps aborting a new r i wakes k =
      let states = r.state.anchors.states in
      let after : (b : ℕ) → get_or (set states a new) b 0 ≡ (when a =? b then new else get_or states b 0) = λ b. get_d_set states a b new 0 (omega (arith, k.room)) in
      anchor_kept LatestAwake aborting a new r
      (λ last q b v w. grind (arith, nat_tests, q b v, after a, after b, after last))
      k

  -- Latest gives LatestAwake; where the anchors of m follow their media and do not overlap, at most one of them is awake, and LatestAwake gives Latest
  weaken : (r : Run) → IfFitted Latest r → IfFitted LatestAwake r
  weaken r k = record { room = k.room; holds = λ f a v w. rw (k.holds f a v w) (v, w) }

  strengthen : (p : ℕ) → Shows d m p → (r : Run) → ((a : ℕ) → a < d.anchors.count → Follows d r.state a) → IfFitted LatestAwake r → IfFitted Latest r
  strengthen p s r follow k = record {
    room = k.room;
    holds = λ f a v w.
        let g = k.holds f a v w in
        s.single _ a (node_clock r.state m) g.0 v (inside _ g.0 g.1) (inside a v w);
  }
    where
      inside : (a : ℕ) → is_anchor_of d.anchors m a ≡ true → Awake (anchor_state r.state a) → InAnchor d (node_clock r.state m) a
      inside a v w = let g = anchor_given d.anchors m a v in rw g.1 at ((anchor_rule d r.state a (follow a g.0)).awake.0 w).1

  -- ---- whole steps of a node

  -- an action that is no start
  moved_latest : (action n : ℕ) (r : Run) → action =? to_start ≡ false → IfFitted Latest r → IfFitted Latest (media_moved d.anchors action n r)
  unfolding follows is_awake when◌then◌else◌
  moved_latest action n r e =
      media_keeps d (IfFitted Latest) action n r (node_kept Latest _ n _) (λ a x i f. none_starts _ a _ x i (rw (not_true (anchor_state x.state a =? sleeping) (rw e at f))))

  module _ (sound : Sound d) (p : ℕ) (s : Shows d m p) where
    abbrev pub LatestRun : Run → Type 0
    LatestRun r = TimedRun d sound r × IfFitted Latest r

    media_latest : (action n : ℕ) (r : Run) → TimedRun d sound (media_moved d.anchors action n r) → IfFitted Latest r → IfFitted Latest (media_moved d.anchors action n r)
    media_latest action n r t k =
        by_test (action =? to_start)
        (λ e. strengthen p s _ t.timed.anchors
        (media_keeps d (IfFitted LatestAwake) action n r (node_kept LatestAwake _ n _) (λ a x i _. none_sleeps _ a _ x i (rw (eqb-true action to_start e) (start_awake _))) (weaken r k)))
        (λ e. moved_latest action n r e k)

    tick_latest : (n : ℕ) (r : Run) → n < d.nodes.count → LatestRun r → IfFitted Latest (ticked_one d n r)
    unfolding ticked_one passed anchors_passed
    tick_latest n r i k =
        chosen (IfFitted Latest) _
        (λ e.
        let b = all_pass _ _ _ e in
        let ended = pass_keeps d (IfFitted Latest) (ends_at _) false n sleeping (λ a x i _. none_starts false a sleeping x i (rw and-false)) _ assumption in
        let begun = pass_keeps d (IfFitted LatestAwake) (begins_at _) false n occurring (λ a x i _. none_sleeps false a occurring x i (λ z. omega arith)) _ (weaken _ ended) in
        let latest = strengthen p s _ (anchors d sound n r i b.0 (eqb-true _ _ b.1) k.0.shaped k.0.timed) begun in
        chosen (IfFitted Latest) _ (λ _. moved_latest to_stop n _ refl latest) (λ _. latest))
        (λ _. k.1)

    pub latests : Steps d LatestRun
    unfolding set_property choice_made keyed firing_logged limit_met is_start_of
    latests =
        let t = times d sound in
        let same = other_kept Latest in
        record {
          moves = record {
            media = λ action n r one i type k. let u = t.moves.media action n r one i type k.0 in (u, media_latest action n r u k.1);
            tick = λ n r i k. (t.moves.tick n r i k.0, tick_latest n r i k);
            composite = λ aborting c new r i type low k. (t.moves.composite aborting c new r i type low k.0, node_kept Latest aborting c new r k.1);
            choice = λ n c r right k. (t.moves.choice n c r right k.0, assumption);
          };
          property = λ j value r i k. (
            t.property j value r i k.0,
            same _ (with_state r.state (logged (line of_property j starts) r.log) r) _ refl refl refl (same _ r _ refl refl refl k.1),
          );
          lines = record {
            key = λ code r k. (t.lines.key code r k.0, same _ r _ refl refl refl k.1);
            firing = λ l r i k. (t.lines.firing l r i k.0, same _ r _ refl refl refl k.1);
            limit = λ r k. (t.lines.limit r k.0, record { room = k.1.room; holds = λ f. absurd (met_stops 11 r.log (lit< tt) f) });
          };
        }
