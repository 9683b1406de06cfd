-- Laws of the tick: the clocks of other media, what is due, and one media.
use mathlib.Core.Path.{◌≡◌, refl, ap, ◌∙◌}
use mathlib.Core.Bool.{Bool, true, false, ◌&&◌}
use mathlib.Core.List.{List}
use Prim.Native.Nat.{ℕ, ◌+◌, ◌<◌, ◌≤◌}
use native.Mathlib.Omega.{arith}
use borrow.Author.Tests.{eqb-true, ltb-true}
use lib.ListN.{get_or, set}
use lib.Seq.{get_or-set_other}
use Rattle.base.specs.Tests.{when◌then◌else◌, ◌=?◌, ◌<?◌, by_test}
use Rattle.base.specs.Loops.{ascending, past_last, ascending_turns}
use Rattle.base.specs.Marks.{LastFound, found_more}
use Rattle.machine.specs.Terms.{media, occurring}
use Rattle.machine.specs.Tables.{type_of, duration_of}
use Rattle.machine.specs.Events.{Run, node_state, node_clock, node_to, node_changed, anchor_to, anchor_changed, anchor_moved, anchors_moved, media_to, media_moved}
use Rattle.machine.specs.Tick.{anchors_passed, passed, ticked_one}
use Rattle.machine.specs.declared.Anchors.{Anchors}
use Rattle.machine.specs.declared.Document.{Document}
use Rattle.machine.proofs.Keep.{chosen}
use Rattle.transitions.specs.Due.{due_at, due_of}
use Rattle.ticking.specs.Advancing.{advancing, due_next}

pub low_clock : (type state clock : ℕ) → advancing type state clock ≡ true → clock < 65_535
unfolding advancing
low_clock type state clock e = low (type =? media && state =? occurring) e
  where
    low : (test : Bool) → test && clock <? 65_535 ≡ true → clock < 65_535
    low true e = ltb-true clock 65_535 e
    low false e =
        let z : ◌≡◌ {A = ℕ} 0 1 = cc in
        absurd (omega arith)

-- ---- a media leaves the clocks of the others

anchors_leave_clocks : (anchors : Anchors) (moves : ℕ → ℕ → ℕ → Bool) (aborting : Bool) (n new : ℕ) (r : Run) → (anchors_moved anchors moves aborting n new r).state.nodes.clocks ≡ r.state.nodes.clocks
unfolding anchors_moved anchor_moved anchor_to anchor_changed
anchors_leave_clocks anchors moves aborting n new r =
    ascending_turns (λ k (y : Run). y.state.nodes.clocks ≡ r.state.nodes.clocks) anchors.count r refl
    (λ k y h p. chosen (λ (z : Run). z.state.nodes.clocks ≡ r.state.nodes.clocks) _ (λ _. chosen (λ (z : Run). z.state.nodes.clocks ≡ r.state.nodes.clocks) _ (λ _. p) (λ _. p)) (λ _. p))

module _ (d : Document) (n j : ℕ) (other : j ≡ n → ⊥) where
  -- the clock of j is as it was
  Left : Run → Run → Type 0
  Left r z = node_clock z.state j ≡ node_clock r.state j

  anchors_leave : (moves : ℕ → ℕ → ℕ → Bool) (aborting : Bool) (new : ℕ) (r : Run) → Left r (anchors_moved d.anchors moves aborting n new r)
  unfolding Left
  anchors_leave moves aborting new r = ap (λ (clocks : List ℕ). get_or clocks j 0) (anchors_leave_clocks d.anchors moves aborting n new r)

  node_leaves : (aborting : Bool) (new : ℕ) (r : Run) → Left r (node_to aborting n new r)
  unfolding Left node_to node_changed
  node_leaves aborting new r = chosen (Left r) _ (λ _. refl) (λ _. get_or-set_other r.state.nodes.clocks n j _ 0 other)

  media_leaves : (action : ℕ) (r : Run) → Left r (media_moved d.anchors action n r)
  unfolding Left media_moved media_to
  media_leaves action r =
      chosen (Left r) _ (λ _. refl)
      (λ _. chosen (Left r) _ (λ _. anchors_leave _ _ _ _ ∙ node_leaves _ _ r) (λ _. node_leaves _ _ _ ∙ anchors_leave _ _ _ r))

  passed_leaves : (clock : ℕ) (r : Run) → Left r (anchors_passed d n clock r)
  unfolding Left anchors_passed
  passed_leaves clock r = anchors_leave _ _ _ _ ∙ anchors_leave _ _ _ _ ∙ get_or-set_other r.state.nodes.clocks n j clock 0 other

  ticked_leaves : (r : Run) → Left r (ticked_one d n r)
  unfolding Left ticked_one passed
  ticked_leaves r =
      chosen (Left r) _ (λ _. chosen (Left r) _ (λ _. media_leaves _ _ ∙ passed_leaves _ r) (λ _. passed_leaves _ r)) (λ _. refl)

later_clocks : (d : Document) (i : ℕ) (r : Run) (j : ℕ) → i ≤ j → node_clock (ascending (ticked_one d) i r).state j ≡ node_clock r.state j
unfolding Left
later_clocks d i r =
    ascending_turns (λ k (y : Run). (j : ℕ) → k ≤ j → node_clock y.state j ≡ node_clock r.state j) i r (λ j h. refl)
    (λ k y h p j l. ticked_leaves d k j (λ e. omega arith) y ∙ p j (omega arith))

-- one anchor more is looked at
pub found_due : (media times clocks : List ℕ) (a m : ℕ) (table : List ℕ) (is-due : Bool) → m < 64 → m ≡ get_or media a 0 → is-due ≡ (get_or times a 0 =? get_or clocks m 0 + 1)
    → LastFound (due_next media times clocks) a table → LastFound (due_next media times clocks) (a + 1) (when is-due then set table m (a + 1) else table)
unfolding due_at due_next
found_due media times clocks a m table is-due h e p =
    found_more _ a m table is-due h (λ n. rw (p, ← e) (by_test (m =? n) (λ q. rw (q, eqb-true m n q)) (λ q. rw q)))

-- ---- one media: it does nothing, or passes its next clock

module _ (d : Document) (n : ℕ) (r : Run) where
  pub ticked_not : advancing (type_of d.nodes n) (node_state r.state n) (node_clock r.state n) ≡ false → r ≡ ticked_one d n r
  unfolding ticked_one advancing when◌then◌else◌
  ticked_not e = rw e

  pub ticked_passes : {z : Run} → advancing (type_of d.nodes n) (node_state r.state n) (node_clock r.state n) ≡ true → z ≡ passed d n (node_clock r.state n + 1) r → z ≡ ticked_one d n r
  unfolding ticked_one advancing when◌then◌else◌
  ticked_passes e p = rw e p

  -- its turn comes after the media before it; what is due was found by the clocks before them all
  module _ (first : Run) (before : r ≡ ascending (ticked_one d) n first) (low : n < 64) where
    found_next : (times table : List ℕ) → LastFound (due_next d.anchors.media times first.state.nodes.clocks) d.anchors.count table
        → get_or table n 0 ≡ past_last (due_at d.anchors.media times n (node_clock r.state n + 1)) d.anchors.count
    unfolding due_next
    found_next times table found = found.noted n low ∙ rw (ap (λ (x : Run). node_clock x.state n) before ∙ later_clocks d n first n (omega arith))

    pub due_next_lem : (ending beginning : List ℕ) (stops : Bool)
        → LastFound (due_next d.anchors.media d.anchors.ends first.state.nodes.clocks) d.anchors.count ending
        → LastFound (due_next d.anchors.media d.anchors.begins first.state.nodes.clocks) d.anchors.count beginning
        → stops ≡ (duration_of d.nodes n =? node_clock r.state n + 1)
        → record { clock = node_clock r.state n + 1; ending = get_or ending n 0; beginning = get_or beginning n 0; stops = stops } ≡ due_of d n (node_clock r.state n + 1)
    unfolding due_of
    due_next_lem ending beginning stops ends begins e = rw (found_next _ ending ends, found_next _ beginning begins, e)
