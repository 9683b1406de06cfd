-- Which count stands under which frame, proved: what is kept from call to call, from the session of every document that loads.
use Prim.Native.Nat.{ℕ}
use native.Mathlib.Omega.{arith}
use mathlib.Core.Bool.{true, false}
use mathlib.Core.List.{List, [], ◌∷◌, ◌++◌, append_assoc, append-nil}
use mathlib.Core.Path.{◌≡◌, refl, ◌∙◌}
use lib.IntN.{ℤ}
use borrow.Author.Tests.{ne_eqb}
use Rattle.base.specs.Tests.{when◌then◌else◌}
use Rattle.machine.specs.Terms.{no_id}
use Rattle.machine.specs.Load.{load}
use Rattle.machine.specs.Operations.{argument_fault, command_sets, run_admitting, run_of, call_refused, call, session_after, results_of, joined}
use Rattle.machine.specs.Demand3.{number}
use Rattle.machine.specs.Counts.{shows_counts, last_started, last_count, value_of, NeverSets, CountsForEveryList}
use Rattle.machine.specs.Sound.{Sound}
use Rattle.machine.specs.declared.Document.{Document}
use Rattle.machine.specs.declared.Session.{Session}
use Rattle.machine.specs.declared.Call.{Call}
use Rattle.machine.specs.declared.Line.{Line}
use Rattle.machine.proofs.Keep.{steps, actions}
use Rattle.machine.proofs.Shape.{ShapedRun, shapes}
use Rattle.machine.proofs.Firings.{read_back}
use Rattle.machine.proofs.Whole.{unbroken_sound}
use Rattle.machine.proofs.Calls.{call_gives, lines_after, Invariant, first_right, begun_keeps, begun_value, run_keeps, run_kept, call_returns}
use Rattle.machine.proofs.FirstSession.{loaded_invariant}
use Rattle.machine.proofs.Demand.{demand_3}
use Rattle.machine.proofs.Showing.{Shows, shows, anchor_given, is_anchor}
use Rattle.machine.proofs.Growing.{AddedRun, none_added, adds}
use Rattle.machine.proofs.Values.{chained_value}
use Rattle.machine.proofs.Latest.{Latest, LatestRun, latests}

-- what is kept from call to call, after the lines h of the calls before
record Counting (m p : ℕ) (before : ℤ) (h : List Line) (s : Session) : Type 0 where
  shown : shows_counts s.document m p ≡ true
  value : value_of s.state p ≡ last_count s.document m p before h
  latest : Latest h s.document m s.state.anchors.states (last_started s.document m no_id h)

module _ (m p : ℕ) (before : ℤ) (h : List Line) (s : Session) (invariant : Invariant h s) (counting : Counting m p before h s) where
  abbrev d : Document
  d = s.document

  abbrev facts : Sound d
  facts = unbroken_sound s invariant.unbroken

  abbrev showing : Shows d m p
  showing = shows d m p counting.shown

  -- ---- the run of a call

  run_latest : (c : Call) (bytes : ℕ) → argument_fault d c ≡ 0 → LatestRun h d m facts p showing (run_of s c bytes)
  run_latest c bytes e =
      run_keeps s invariant.unbroken _ (actions d _ facts (latests h d m facts p showing)) c bytes e
      ((first_right s invariant.unbroken invariant.shaped bytes).timed, record { room = omega (arith, facts.anchors, invariant.shaped.anchors.0.len); holds = λ _. rw append-nil counting.latest })

  run_value : (c : Call) (bytes : ℕ) → argument_fault d c ≡ 0 → command_sets p c ≡ false → (run_of s c bytes).log.stop ≡ 0
      → value_of (run_of s c bytes).state p ≡ last_count d m p before (h ++ (run_of s c bytes).log.lines)
  unfolding run_admitting
  run_value c bytes e n =
      chained_value d facts p m showing before h _
      (begun_keeps s invariant.unbroken (ShapedRun d) (actions d _ facts (steps d _ (shapes d))) c e _ invariant.shaped)
      (begun_keeps s invariant.unbroken (AddedRun d _) (actions d _ facts (steps d _ (adds d _))) c e _ (none_added _ (omega arith))).fits
      (λ _. begun_value s invariant.unbroken p c e n _ invariant.shaped ∙ counting.value)

  -- ---- what a call returns

  call_still : (c : Call) (bytes : ℕ) → ((call s c bytes).answer.refusal ≡ 0 → command_sets p c ≡ false) → Counting m p before (lines_after h (call s c bytes)) (call s c bytes).session
  unfolding call_refused when◌then◌else◌
  call_still c bytes =
      call_gives s c bytes (λ r. (r.answer.refusal ≡ 0 → command_sets p c ≡ false) → Counting m p before (lines_after h r) r.session)
      (λ number z _ _. rw (ne_eqb number 0 z, append-nil) counting)
      (λ e goes_on n. rw (read_back _ bytes (run_kept h s invariant c bytes e).0.1.classed) (record {
        shown = counting.shown;
        value = run_value c bytes e (n refl) goes_on;
        latest = (run_latest c bytes e).1.holds goes_on;
      }))

-- ---- lists of calls

counting_after : (m p : ℕ) (before : ℤ) (calls : List (Call × ℕ)) (h : List Line) (s : Session) → Invariant h s → Counting m p before h s → NeverSets p s calls
    → Counting m p before (h ++ joined (results_of s calls)) (session_after s calls)
unfolding session_after results_of joined
counting_after m p before [] h s invariant counting n = rw append-nil counting
counting_after m p before ((c, bytes) ∷ calls) h s invariant counting n =
    rw append_assoc at (counting_after m p before calls _ (call s c bytes).session (call_returns h s invariant c bytes).still (call_still m p before h s invariant counting c bytes n.0) n.1)

-- ---- all of it: before the first call nothing has started, and no anchor is awake

loaded_counting : (bytes : List ℕ) → (load bytes).answer.refusal ≡ 0 → (m p : ℕ) → shows_counts (load bytes).session.document m p ≡ true
    → Counting m p (value_of (load bytes).session.state p) [] (load bytes).session
unfolding last_count last_started when◌then◌else◌ session_after results_of joined number
loaded_counting bytes e m p shown = record {
  shown = shown;
  value = refl;
  latest = λ a v w. absurd (omega (arith, ((demand_3 bytes e []).demand.anchor_balance a (anchor_given _ m a v).0).awake w));
}

-- THE THEOREM
pub counts : CountsForEveryList
unfolding last_count when◌then◌else◌
counts bytes e m p shown calls n =
    let s = (load bytes).session in
    let holds = demand_3 bytes e calls in
    let k = rw holds.unbroken.tables at (counting_after m p (value_of s.state p) calls [] s (loaded_invariant bytes e) (loaded_counting bytes e m p shown) n) in
    record {
      last = k.value;
      shown = λ a i own awake inside.
          let rule = rw holds.unbroken.tables at (holds.demand.anchors a) in
          let w = (rule i).awake.1 (rw own awake, rw own inside) in
          k.value ∙ rw (k.latest a (is_anchor _ m a i own) w, ne_eqb a no_id (λ q. omega (arith, (unbroken_sound s (loaded_invariant bytes e).unbroken).anchors)));
    }
