-- The induction over lists of calls, accepted and refused: what is kept inside a run is kept from session to session.
use Prim.Native.Nat.{ℕ}
use native.Mathlib.Omega.{arith}
use mathlib.Core.Bool.{true, false}
use mathlib.Core.List.{List, [], ◌∷◌, ◌++◌, append_assoc, append-nil}
use mathlib.Core.Logic.{◌⊎◌}
use mathlib.Core.Path.{◌≡◌}
use lib.IntN.{pos}
use Rattle.base.specs.Tests.{when◌then◌else◌, ◌=?◌}
use Rattle.machine.specs.Answers.{accepted}
use Rattle.machine.specs.Log.{slice_with, lines_of}
use Rattle.machine.specs.Events.{Run}
use Rattle.machine.specs.Tick.{keyed}
use Rattle.machine.specs.Chain.{goes_on}
use Rattle.machine.specs.Broken.{broken, tables_obey, document_ends_zero}
use Rattle.machine.specs.Operations.{CallResult, command_fault, argument_fault, begun, command_sets, fresh_run, run_admitting, run_of, call_refused, ended, call_admitting, call, session_after, results_of, joined}
use Rattle.machine.specs.Counts.{value_of}
use Rattle.machine.specs.Demand3.{number, ReportsFirings, Each}
use Rattle.machine.specs.Sound.{Applicable, Sound}
use Rattle.machine.specs.declared.Document.{Document}
use Rattle.machine.specs.declared.State.{State}
use Rattle.machine.specs.declared.Session.{Session}
use Rattle.machine.specs.declared.Call.{Call}
use Rattle.machine.specs.declared.ActionRecord.{ActionRecord}
use Rattle.machine.specs.declared.Line.{Line}
use Rattle.machine.proofs.SoundTables.{applicable}
use Rattle.machine.proofs.Keep.{Actions, actions, steps, chained_keeps}
use Rattle.machine.proofs.Tally.{Tallied, TalliedRun, tallies}
use Rattle.machine.proofs.Firings.{FiredRun, firings, read_back}
use Rattle.machine.proofs.Shape.{Shaped, ShapedRun, HasArrays, state_ends, choices_right_lem, ends_shaped}
use Rattle.machine.proofs.Values.{acted_value, ticked_value}
use Rattle.machine.proofs.Settling.{RightRun, rights}
use Rattle.machine.proofs.Whole.{Right, WholeTests, whole, unbroken_sound, not_broken, states_right_lem, right_states}

-- ---- a call is refused, and the session stays; or its run is accepted

argument_not_13 : (d : Document) (c : Call) → argument_fault d c ≡ 13 → ⊥
unfolding argument_fault command_fault when◌then◌else◌
argument_not_13 d c = grind arith

pub command_applicable : (d : Document) (a : ActionRecord) → command_fault d a ≡ 0 → Applicable d a
unfolding command_fault when◌then◌else◌
command_applicable d a e = grind (arith, applicable)

abbrev accepted_run : Session → ℕ → Run → CallResult
accepted_run s bytes r = record {
  answer = accepted (pos r.firings ∷ []);
  session = record { document = s.document; state = r.state };
  log = slice_with r.log.lines bytes;
}

-- whence a 13 may come: a broken session, or what stops the run
abbrev Thirteen : Session → Call → ℕ → Type 0
Thirteen s c bytes = (broken s ≡ true) ⊎ ((argument_fault s.document c ≡ 0) × ((run_of s c bytes).log.stop ≡ 13))

pub call_gives : (s : Session) (c : Call) (bytes : ℕ) (P : CallResult → Type 0)
    → ((number : ℕ) → (number ≡ 0 → ⊥) → (number ≡ 13 → Thirteen s c bytes) → P (call_refused number s bytes))
    → (argument_fault s.document c ≡ 0 → (run_of s c bytes).log.stop ≡ 0 → P (accepted_run s bytes (run_of s c bytes)))
    → P (call s c bytes)
unfolding call_admitting ended goes_on when◌then◌else◌
call_gives s c bytes P refused kept = grind (arith, argument_not_13, refused, kept)

-- the lines so far, and those of a call
abbrev pub lines_after : List Line → CallResult → List Line
lines_after h r = h ++ (when r.answer.refusal =? 0 then lines_of r.log else [])

-- ---- a state that has its shape and is right, with tables that obey

pub made_unbroken : (d : Document) (s : State) → tables_obey d ≡ true → document_ends_zero d ≡ true → Shaped d s → Right d s → broken (record { document = d; state = s }) ≡ false
made_unbroken d s tables ends shaped right =
    not_broken _ (record { tables = tables; document_ends = ends; state_ends = state_ends d s shaped; states = right_states d s right; choices = choices_right_lem d s shaped })

-- ---- the run of a call on a session that is not broken

module _ (s : Session) (unbroken : broken s ≡ false) where
  abbrev d : Document
  d = s.document

  abbrev tests : WholeTests s
  tests = whole s unbroken

  abbrev facts : Sound d
  facts = unbroken_sound s unbroken

  -- what actions keep, a call keeps
  module _ (P : Run → Type 0) (keep : Actions d P) where
    pub begun_keeps : (c : Call) → argument_fault d c ≡ 0 → (r : Run) → P r → P (begun d c r)
    unfolding begun argument_fault
    begun_keeps c e r k = grind (arith, command_applicable)

    pub run_keeps : (c : Call) (bytes : ℕ) → argument_fault d c ≡ 0 → P (fresh_run s.state bytes) → P (run_of s c bytes)
    unfolding run_admitting
    run_keeps c bytes e k = chained_keeps d P facts keep _ _ (begun_keeps c e _ k)

  -- what a call does before the chain leaves the value of p, if it is no command that sets it
  pub begun_value : (p : ℕ) (c : Call) → argument_fault d c ≡ 0 → command_sets p c ≡ false → (r : Run) → ShapedRun d r → value_of (begun d c r).state p ≡ value_of r.state p
  unfolding begun argument_fault keyed command_sets when◌then◌else◌
  begun_value p c e n r k = grind (arith, command_applicable, acted_value d facts, ticked_value d facts)

  -- the session that a call returns is not broken
  pub first_right : Shaped d s.state → (bytes : ℕ) → RightRun d facts (fresh_run s.state bytes)
  first_right shaped bytes =
      let r = states_right_lem d s.state tests.states in
      record { timed = record { shaped = shaped; timed = r.timed }; composed = r.composed }

  right_unbroken : (r : Run) → RightRun d facts r → broken (record { document = d; state = r.state }) ≡ false
  right_unbroken r right = made_unbroken d r.state tests.tables tests.document_ends right.timed.shaped (record { timed = right.timed.timed; composed = right.composed })

  pub call_unbroken : HasArrays s.state → (c : Call) (bytes : ℕ) → broken (call s c bytes).session ≡ false
  unfolding call_refused
  call_unbroken arrays c bytes =
      call_gives s c bytes (λ r. broken r.session ≡ false) (λ _ _ _. unbroken)
      (λ e _. right_unbroken _ (run_keeps _ (rights d facts) c bytes e (first_right (ends_shaped d s.state arrays tests.state_ends tests.choices) bytes)))

-- ---- all that is kept, together

both : (d : Document) (P Q : Run → Type 0) → Actions d P → Actions d Q → Actions d (λ r. P r × Q r)
both d P Q p q = grind arith

-- what is kept from call to call, after the lines h of the calls before
pub record Invariant (h : List Line) (s : Session) : Type 0 where
  pub unbroken : broken s ≡ false
  pub shaped : Shaped s.document s.state
  pub tallied : Tallied s.document s.state h

module _ (h : List Line) (s : Session) (invariant : Invariant h s) where
  abbrev tables_sound : Sound s.document
  tables_sound = unbroken_sound s invariant.unbroken

  abbrev Kept : Run → Type 0
  Kept r = (TalliedRun h s.document tables_sound r × FiredRun s.document r) × RightRun s.document tables_sound r

  keeps : Actions s.document Kept
  keeps =
      let d = s.document in
      both d _ _ (both d _ _ (actions d _ tables_sound (steps d _ (tallies h d tables_sound))) (actions d _ tables_sound (steps d _ (firings d)))) (rights d tables_sound)

  -- ---- the run of a call

  pub run_kept : (c : Call) (bytes : ℕ) → argument_fault s.document c ≡ 0 → Kept (run_of s c bytes)
  unfolding number
  run_kept c bytes e =
      let right = first_right s invariant.unbroken invariant.shaped bytes in
      run_keeps s invariant.unbroken Kept keeps c bytes e (grind (arith, append-nil))

  -- ---- what a call returns

  pub record Returned (r : CallResult) : Type 0 where
    pub still : Invariant (lines_after h r) r.session
    fires : ReportsFirings s.document.limit r
    never : r.answer.refusal ≡ 13 → ⊥
    tables : r.session.document ≡ s.document

  pub call_returns : (c : Call) (bytes : ℕ) → Returned (call s c bytes)
  unfolding call_refused when◌then◌else◌
  call_returns c bytes =
      let kept = run_kept c bytes in
      call_gives s c bytes Returned
      (grind (arith, append-nil, kept))
      (grind (arith, kept, read_back, right_unbroken s invariant.unbroken))

-- ---- lists of calls

pub record After (h : List Line) (s : Session) (calls : List (Call × ℕ)) : Type 0 where
  pub invariant : Invariant (h ++ joined (results_of s calls)) (session_after s calls)
  pub fires : Each (ReportsFirings s.document.limit) (results_of s calls)
  pub never : Each (λ r. r.answer.refusal ≡ 13 → ⊥) (results_of s calls)
  pub tables : (session_after s calls).document ≡ s.document

pub after_calls : (calls : List (Call × ℕ)) (h : List Line) (s : Session) → Invariant h s → After h s calls
unfolding session_after results_of joined
after_calls [] h s invariant = grind (arith, append-nil)
after_calls ((c, bytes) ∷ calls) h s invariant =
    let r = call_returns h s invariant c bytes in
    let t = after_calls calls _ (call s c bytes).session r.still in
    grind (arith, append_assoc)
