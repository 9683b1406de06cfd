-- Laws of start: what it finds at a node, and what it does there; the ports of a context, and the child of a switch.
use mathlib.Core.Path.{◌≡◌, refl, sym, ◌∙◌}
use mathlib.Core.Bool.{not}
use mathlib.Core.List.{List}
use Prim.Native.Nat.{ℕ, suc, ◌+◌, ◌-◌, ◌<◌}
use native.Mathlib.Omega.{arith}
use borrow.Author.Tests.{eqb-false, eq-eqb, ne_eqb, ltb-true}
use lib.IntN.{ℤ}
use lib.ListN.{get_or, set, replicate}
use Rattle.std.specs.Prelude.{Option, Some, None}
use Rattle.base.specs.Tests.{when◌then◌else◌, by_test, ◌=?◌, ◌<?◌}
use Rattle.base.specs.Loops.{ascending, ascending_more}
use Rattle.machine.specs.Terms.{context, sleeping, to_start}
use Rattle.machine.specs.Tables.{type_of, is_media, bind_at, port_at}
use Rattle.machine.specs.Events.{Run, node_state, media_moved, found_bind, choice_made, port_started, context_started, switch_started, started_one, started}
use Rattle.machine.specs.Sound.{Sound}
use Rattle.machine.specs.declared.Document.{Document}
use Rattle.machine.proofs.SoundTables.{bind_own}
use Rattle.machine.proofs.Effects.{media_any_choices}
use Rattle.choosing.specs.Choosing.{child_found, FoundChildren}
use Rattle.starting.specs.Queues.{queue_moved, reach_of, reach_started, MediaOfStart}
use Rattle.starting.specs.Reaching.{found_at, LaterChild, LaterChoices}
use Rattle.starting.specs.Reached.{Begun, ReachRun, Reached, context_by, switch_by}
use Rattle.starting.specs.declared.start.Found.{Found}
use Rattle.starting.specs.declared.start.Found.TheVariants.{Media, Context, Switch}
use Rattle.starting.specs.declared.start.Start.{Start}
use Rattle.starting.proofs.Finding.{media_sleeps}
use Rattle.starting.proofs.QueueLaws.{awake_stays}

-- ---- one level of a start, by what it finds

abbrev pub found_by : Option Found → Document → ℕ → ℕ → Run → Run
found_by None d n levels r = r
found_by (Some Media) d n levels r = media_moved d.anchors to_start n r
found_by (Some Context) d n levels r = context_started d (started d levels) n r
found_by (Some Switch) d n levels r = switch_started d (started d levels) n r

started_found : (d : Document) (levels n : ℕ) (r : Run) → started d (suc levels) n r ≡ found_by (found_at (type_of d.nodes n) (node_state r.state n)) d n levels r
unfolding started started_one found_at when◌then◌else◌
started_found d levels n r =
    by_test (node_state r.state n =? sleeping)
    (λ e. rw e (by_test (is_media d.nodes n) (λ f. rw f) (λ f. rw f (by_test (type_of d.nodes n =? context) (λ g. rw g) (λ g. rw g)))))
    (λ e. rw e (by_test (is_media d.nodes n) (λ f. rw f (awake_stays d n r (eqb-false _ _ e))) (λ f. rw f)))

-- ---- steps: none, one after another, and the start of a later node, by what is found there

pub not_reached : (s : Start) (n : ℕ) → Reached s n (λ levels x. x) s
not_reached s n = record { document = refl; chosen = refl; run = λ r x f a levels b. a }

reached_then : {s₀ s s' : Start} {n : ℕ} {f g h : ℕ → Run → Run} → Reached s₀ n f s → Reached s n g s'
    → ((levels : ℕ) (x : Run) → FoundChildren s₀.document.now.document.binds s₀.document.now.document.rules x.state.properties.values s₀.chosen → h levels x ≡ g levels (f levels x)) → Reached s₀ n h s'
reached_then before after same = record {
  document = after.document ∙ before.document;
  chosen = after.chosen ∙ before.chosen;
  run = λ r x c a levels b. rw (same levels x (rw a.values c)) (after.run r _ (rw (before.document, before.chosen) c) (before.run r x c a levels b) levels b);
}

from_start_lem : {s s' : Start} {n child : ℕ} {found : Option Found} → LaterChild n child → found ≡ found_at (type_of s.document.now.document.nodes child) (get_or s.states child 0)
    → Reached s child (found_by found s.document.now.document child) s' → Reached s n (λ levels. started s.document.now.document levels child) s'
from_start_lem {s} {n} {child} {found} later is reached = record {
  document = reached.document;
  chosen = reached.chosen;
  run = λ r x c a levels b.
      let above : levels ≡ suc (levels - 1) = omega (arith, later) in
      let here : found ≡ found_at (type_of s.document.now.document.nodes child) (node_state x.state child) = is ∙ rw a.states in
      rw (above, started_found s.document.now.document (levels - 1) child x, ← here) (reached.run r x c a (levels - 1) (omega (arith, later)));
}

later_port : {d : Document} → Sound d → (p : ℕ) → p < d.ports.count → LaterChild (port_at d.ports p).context (port_at d.ports p).child
later_port sound p h = record { later = sound.port_later p h; below = omega (arith, sound.port_child p h, sound.nodes.few) }

-- ---- a child that is asked by a port of context n, or is the choice of switch n: it is later, and if a media is found there, it sleeps

abbrev pub Finds : ℕ → ℕ → ℕ → Option Found → Type 0
Finds n child state found = LaterChild n child × (found ≡ Some Media → state ≡ sleeping)

module _ {n child : ℕ} (type state : ℕ) {found : Option Found} (is : found ≡ found_at type state) where
  pub finds : LaterChild n child → Finds n child state found
  finds later = (later, λ m. media_sleeps type state (sym m ∙ is))

  pub port_finds : (d : Document) (p : ℕ) → LaterChild (port_at d.ports p).context (port_at d.ports p).child → n ≡ (port_at d.ports p).context → child ≡ (port_at d.ports p).child → Finds n child state found
  port_finds d p later is_context is_child = finds (rw (is_context, is_child) later)

  pub choice_finds : (chosen : List ℕ) → LaterChoices chosen → n < 64 → child ≡ get_or chosen n 0 → (child ≡ 0 → ⊥) → Finds n child state found
  choice_finds chosen later h is_child some = finds (rw is_child (later.choice n h (rw is_child at some)))

-- ---- the ports of context n

abbrev pub ports_by : Start → ℕ → ℕ → ℕ → Run → Run
ports_by s n p levels x = ascending (port_started s.document.now.document (started s.document.now.document levels) n) p x

pub ports_none : (s : Start) (n : ℕ) → Reached s n (ports_by s n 0) s
unfolding ascending
ports_none s n = not_reached s n

module _ {s₀ s : Start} {n : ℕ} (p : ℕ) (before : Reached s₀ n (ports_by s₀ n p) s) where
  pub ports_done : p ≡ s₀.document.now.document.ports.count → Reached s₀ n (context_by s₀ n) s
  unfolding context_started
  ports_done e = rw e at before

  module _ {context : ℕ} (is_context : context ≡ (port_at s.document.now.document.ports p).context) where
    pub port_idle : (context ≡ n → ⊥) → Reached s₀ n (ports_by s₀ n (p + 1)) s
    unfolding port_started when◌then◌else◌
    port_idle other = reached_then before (not_reached s n) (λ levels x c.
        sym (ascending_more (port_started s₀.document.now.document (started s₀.document.now.document levels) n) p x refl (rw (← before.document, ← is_context, ne_eqb _ _ other))))

    pub port_turn : {s' : Start} {child : ℕ} {found : Option Found} → context ≡ n → p < s₀.document.now.document.ports.count → child ≡ (port_at s.document.now.document.ports p).child
        → found ≡ found_at (type_of s.document.now.document.nodes child) (get_or s.states child 0) → Reached s child (found_by found s.document.now.document child) s' → Reached s₀ n (ports_by s₀ n (p + 1)) s'
    unfolding port_started when◌then◌else◌
    port_turn own h is_child is reached =
        reached_then before (from_start_lem (port_finds _ _ is s.document.now.document p (later_port s.document.now.sound p (rw before.document h)) (sym own ∙ is_context) is_child).0 is reached) (λ levels x c.
        sym (ascending_more (port_started s₀.document.now.document (started s₀.document.now.document levels) n) p x refl (rw (← before.document, ← is_context, ← is_child, eq-eqb _ _ own))))

-- ---- the child of switch n: the choice is made, before the child starts

switch_started_lem : (d : Document) → Sound d → (chosen : List ℕ) {n child : ℕ} → n < 64 → child ≡ get_or chosen n 0 → (start : ℕ → Run → Run) (x : Run)
    → FoundChildren d.binds d.rules x.state.properties.values chosen
    → switch_started d start n x ≡ (when not (child =? 0) then start child (choice_made n child x) else choice_made n child x)
unfolding switch_started child_found when◌then◌else◌
switch_started_lem d sound chosen {n} {child} h is_child start x c =
    let b = found_bind d.binds d.rules x.state.properties.values n in
    let e = is_child ∙ c.found n h in
    by_test (b <? d.binds.count)
    (λ f.
    let own : child ≡ (bind_at d.binds b).child = e ∙ rw f in
    rw (f, ← own, ne_eqb child 0 (λ z. omega (arith, sound.bind_later b (ltb-true _ _ f)))))
    (λ f.
    let none : child ≡ 0 = e ∙ rw f in
    rw (f, none))

-- s is s₀ but for the choice of switch n
abbrev pub Chose : Start → ℕ → Start → Type 0
Chose s₀ n s = (s.document ≡ s₀.document) × (s.chosen ≡ s₀.chosen) × (s.states ≡ s₀.states)
    × (s.reach ≡ reach_of s₀.reach.queue.media s₀.reach.queue.count (set s₀.reach.choices n (get_or s₀.chosen n 0)))

module _ {s₀ : Start} {n child : ℕ} (h : n < 64) (is_child : child ≡ get_or s₀.chosen n 0) where
  choice_reached : {s : Start} → Chose s₀ n s → Reached s₀ n (λ levels x. choice_made n child x) s
  unfolding choice_made reach_started
  choice_reached chose = record {
    document = chose.0;
    chosen = chose.1;
    run = λ r x c a levels b. record { run = rw (chose.0, chose.3, ← is_child, a.run); states = rw (chose.2, a.states); values = a.values };
  }

  pub choice_turn : {s s' : Start} (found : Option Found) → Reached s child (found_by found s.document.now.document child) s' → found ≡ found_at (type_of s.document.now.document.nodes child) (get_or s.states child 0)
      → (child ≡ 0 → ⊥) → Chose s₀ n s → Reached s₀ n (switch_by s₀ n) s'
  unfolding when◌then◌else◌
  choice_turn found reached is some chose = reached_then (choice_reached chose) (from_start_lem (choice_finds _ _ is s₀.chosen s₀.later h is_child some).0 is reached) (λ levels x c.
      switch_started_lem s₀.document.now.document s₀.document.now.sound s₀.chosen h is_child (started s₀.document.now.document levels) x c ∙ rw (ne_eqb child 0 some, chose.0))

  pub choice_idle : {s : Start} → child ≡ 0 → Chose s₀ n s → Reached s₀ n (switch_by s₀ n) s
  unfolding when◌then◌else◌
  choice_idle none chose = reached_then (choice_reached chose) (not_reached _ n) (λ levels x c. switch_started_lem s₀.document.now.document s₀.document.now.sound s₀.chosen h is_child (started s₀.document.now.document levels) x c ∙ rw none)

-- ---- the choices of a document's switches

pub later_choices : (d : Document) → Sound d → (values : List ℤ) (chosen : List ℕ) → FoundChildren d.binds d.rules values chosen → LaterChoices chosen
unfolding child_found when◌then◌else◌
later_choices d sound values chosen found = record {
  choice = λ n h some.
      let b = found_bind d.binds d.rules values n in
      by_test (b <? d.binds.count)
      (λ f.
      let e : get_or chosen n 0 ≡ (bind_at d.binds b).child = found.found n h ∙ rw f in
      let l = ltb-true b d.binds.count f in
      record { later = omega (arith, sound.bind_later b l, bind_own d values n b refl l); below = omega (arith, sound.bind_child b l, sound.nodes.few) })
      (λ f. absurd (some (found.found n h ∙ rw f)));
}

-- ---- the start of node n as a whole, by what it finds there

module _ (d : Document) (states : List ℕ) (values : List ℤ) (choices : List ℕ) (n : ℕ) {found : Option Found} (is : found ≡ found_at (type_of d.nodes n) (get_or states n 0)) where
  by_found : (r : Run) → r.state.nodes.states ≡ states → started d 64 n r ≡ found_by found d n 63 r
  by_found r e = started_found d 63 n r ∙ rw (e, ← is)

  pub nothing_reached : found ≡ None → MediaOfStart d states values choices n (reach_of (replicate 64 0) 0 choices)
  unfolding reach_started queue_moved ascending
  nothing_reached s = record { places = record { few = omega arith; ids = λ i h. absurd (omega arith) }; run = λ r e v c. by_found r e ∙ rw (s, ← c) }

  pub itself_reached : found ≡ Some Media → n < 64 → MediaOfStart d states values choices n (reach_of (set (replicate 64 0) 0 n) 1 choices)
  unfolding reach_started queue_moved ascending
  itself_reached s h = record {
    places = record { few = omega arith; ids = λ i l. let z : i ≡ 0 = omega arith in rw z h };
    run = λ r e v c. by_found r e ∙ rw (s, ← c) (media_any_choices r.state.choices d.anchors to_start n r);
  }

  pub below_reached : {s s' : Start} → Begun d states values choices s → Reached s n (found_by found s.document.now.document n) s' → MediaOfStart d states values choices n s'.reach
  unfolding reach_started queue_moved ascending
  below_reached {s} {s'} begun reached = record {
    places = record { few = omega (arith, s'.room.most); ids = s'.room.ids };
    run = λ r e v c.
        let here : ReachRun s r r = record { run = rw (begun.reach, ← c); states = rw begun.states e; values = refl } in
        let turn = (reached.run r r (rw (begun.document, v) begun.chosen) here 63 (omega arith)).run in
        by_found r e ∙ rw (reached.document, begun.document) at turn;
  }
