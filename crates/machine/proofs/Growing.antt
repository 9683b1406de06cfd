-- The lines of a log are only added to, within its room; what one more line changes; and the chain takes all of them.
use Prim.Native.Nat.{ℕ, zero, suc, ◌+◌, ◌<◌, ◌≤◌}
use native.Mathlib.Numerals.{add-one}
use native.Mathlib.Omega.{arith}
use mathlib.Core.Bool.{◌&&◌}
use mathlib.Core.List.{List, [], ◌∷◌, ◌++◌, append_assoc, append-nil}
use mathlib.Core.Path.{◌≡◌, refl, sym}
use lib.ListN.{length, get_or, take, length-append}
use lib.Seq.{take_all, take-suc, take-append-le}
use borrow.Author.Tests.{ltb-true, ltb-false}
use Rattle.base.specs.Tests.{when◌then◌else◌, ◌<?◌, both_pass}
use Rattle.machine.specs.Log.{Log, line, met, logged}
use Rattle.machine.specs.Events.{Run, node_changed, node_to, anchor_changed, anchor_to, set_property, choice_made}
use Rattle.machine.specs.Tick.{keyed}
use Rattle.machine.specs.Owners.{OwnerTest}
use Rattle.machine.specs.Chain.{firing_logged, limit_met, goes_on, line_taken, lines_taken, chained}
use Rattle.machine.specs.Sound.{Sound}
use Rattle.machine.specs.declared.Document.{Document}
use Rattle.machine.specs.declared.Line.{Line}
use Rattle.machine.proofs.Keep.{Primitives, steps, actions, line_keeps, chosen}

-- a refusal that is met stops the run
pub met_stops : (number : ℕ) (g : Log) → 0 < number → (met number g).stop ≡ 0 → ⊥
unfolding when◌then◌else◌
met_stops number g h = grind arith

-- one more line, if nothing stops the run
pub line_logged : (l : Line) (g : Log) → (logged l g).stop ≡ 0 → (g.stop ≡ 0) × ((logged l g).lines ≡ g.lines ++ (l ∷ []))
unfolding logged when◌then◌else◌
line_logged l g e = grind arith

-- and in a state that may have changed, after the lines h of the calls before
pub one_more : (h : List Line) (P Q : List Line → Type 0) (l : Line) (g : Log) → ((ls : List Line) → P ls → Q (ls ++ (l ∷ [])))
    → (g.stop ≡ 0 → P (h ++ g.lines)) → (logged l g).stop ≡ 0 → Q (h ++ (logged l g).lines)
one_more h P Q l g k q = grind (arith, line_logged, append_assoc)

-- ---- the log of a run, against an earlier one

pub record Added (before after : Log) : Type 0 where
  new : List Line
  lines : after.lines ≡ before.lines ++ new
  room : after.room ≡ before.room
  pub fits : length after.lines ≤ after.room

pub none_added : (g : Log) → length g.lines ≤ g.room → Added g g
none_added g h = record { new = []; lines = sym (append-nil g.lines); room = refl; fits = h }

module _ (d : Document) (x : Log) where
  abbrev pub AddedRun : Run → Type 0
  AddedRun r = Added x r.log

  met_added : (number : ℕ) (g : Log) → Added x g → Added x (met number g)
  met_added number g a = record { new = a.new; lines = a.lines; room = a.room; fits = a.fits }

  line_added : (l : Line) (g : Log) → Added x g → Added x (logged l g)
  unfolding logged
  line_added l g a =
      chosen (Added x) _
      (λ e. record { new = a.new ++ (l ∷ []); lines = grind (arith, append_assoc); room = a.room; fits = grind (arith, length-append) })
      (λ _. met_added 12 g a)

  pub adds : Primitives d AddedRun
  unfolding node_to node_changed anchor_to anchor_changed set_property choice_made keyed firing_logged limit_met
  adds = record {
    moves = record {
      node = λ aborting n new r _ p. chosen AddedRun _ (λ _. p) (λ _. line_added _ _ p);
      anchor = λ aborting a new r _ p. chosen AddedRun _ (λ _. p) (λ _. line_added _ _ p);
      clock = search;
      choice = search;
    };
    property = search line_added;
    lines = search (line_added, met_added);
  }

-- ---- what holds after each line that is taken holds after the chain, of all its lines, if nothing stops it

module _ (admits : OwnerTest) (d : Document) (sound : Sound d) (P : List Line → Run → Type 0) (turn : (ls : List Line) (x : Line) (r : Run) → P ls r → P (ls ++ (x ∷ [])) (line_taken admits d x r)) (h : List Line) where
  abbrev IfDone : Run → Type 0
  IfDone r = r.log.stop ≡ 0 → P (h ++ r.log.lines) r

  -- from line k; there are never more lines than there is room for
  lines_turns : (most k : ℕ) (r : Run) → length r.log.lines ≤ r.log.room → r.log.room ≤ k + most
      → P (h ++ take k r.log.lines) r → IfDone (lines_taken admits d most k r)
  unfolding lines_taken goes_on
  lines_turns zero k r fits far p = λ _. rw (take_all k r.log.lines (omega arith)) at p
  lines_turns (suc most) k r fits far p =
      chosen IfDone (goes_on r && k <? length r.log.lines)
      (λ e.
      let x = get_or r.log.lines k (line 0 0 0) in
      let i = ltb-true k (length r.log.lines) (both_pass (goes_on r) _ e).1 in
      let g = line_keeps d (AddedRun d r.log) sound (actions d _ sound (steps d _ (adds d r.log))) admits x r (none_added r.log fits) in
      let same : take (k + 1) (line_taken admits d x r).log.lines ≡ take k r.log.lines ++ (x ∷ [])
      = grind (arith, take-append-le, take-suc, add-one) in
      lines_turns most (k + 1) _ g.fits (omega (arith, g.room)) (rw (same, ← append_assoc) (turn _ x r p)))
      (λ e f. rw (take_all k r.log.lines (ltb-false k (length r.log.lines) (rw f at e))) at p)

  pub chained_turns : (r : Run) → length r.log.lines ≤ r.log.room → P h r → IfDone (chained admits d r)
  unfolding chained
  chained_turns r fits p = lines_turns r.log.room 0 r fits (omega arith) (rw append-nil p)
