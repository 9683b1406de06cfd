-- The firings are the fired lines and never more than the limit, and every line has a class above 0.
-- So a reader of the slice finds the lines that were logged.
use Prim.Native.Nat.{ℕ, zero, suc, ◌-◌, ◌*◌, ◌<◌, ◌≤◌}
use native.Mathlib.Omega.{arith}
use mathlib.Core.List.{List, [], ◌∷◌, ◌++◌}
use mathlib.Core.Path.{◌≡◌, refl}
use lib.ListN.{length, replicate}
use Rattle.base.specs.Tests.{when◌then◌else◌}
use Rattle.machine.specs.Log.{Log, met, logged, bytes_of, slice_with, lines_of}
use Rattle.machine.specs.Events.{Run, node_changed, node_to, anchor_changed, anchor_to, set_property, choice_made}
use Rattle.machine.specs.Tick.{keyed}
use Rattle.machine.specs.Chain.{firing_logged, limit_met}
use Rattle.machine.specs.Demand3.{is_fired, fired_lines}
use Rattle.machine.specs.declared.Document.{Document}
use Rattle.machine.specs.declared.Line.{Line}
use Rattle.machine.proofs.Keep.{Primitives}
use Rattle.machine.proofs.Tally.{one_if, number_more}

-- ---- reading a slice back

-- each line has a class above 0
abbrev pub Classed : List Line → Type 0
Classed [] = Unit {0}
Classed (l ∷ ls) = (0 < l.class) × Classed ls

classed_more : (ls : List Line) (l : Line) → 0 < l.class → Classed ls → Classed (ls ++ (l ∷ []))
classed_more [] l h c = (h, tt)
classed_more (x ∷ ls) l h c = (c.0, classed_more ls l h c.1)

lines_read : (n : ℕ) (ls : List Line) → Classed ls → lines_of (bytes_of ls ++ replicate n 0) ≡ ls
unfolding lines_of
lines_read zero [] h = refl
lines_read (suc n) [] h = refl
lines_read n (l ∷ ls) h = let e = lines_read n ls h.1 in grind arith

pub read_back : (ls : List Line) (bytes : ℕ) → Classed ls → lines_of (slice_with ls bytes) ≡ ls
unfolding slice_with
read_back ls bytes h = lines_read (bytes - 4 * length ls) ls h

-- ---- firings

pub record Fired (limit firings : ℕ) (g : Log) : Type 0 where
  pub counted : g.stop ≡ 0 → firings ≡ fired_lines g.lines
  pub below : firings ≤ limit
  pub classed : Classed g.lines
  pub not_13 : g.stop ≡ 13 → ⊥

-- no 13 stops a run
met_not_13 : (number : ℕ) (g : Log) → (number ≡ 13 → ⊥) → (g.stop ≡ 13 → ⊥) → (met number g).stop ≡ 13 → ⊥
unfolding when◌then◌else◌
met_not_13 number g h p = grind arith

module _ (d : Document) where
  abbrev pub FiredRun : Run → Type 0
  FiredRun r = Fired d.limit r.firings r.log

  pub firings : Primitives d FiredRun
  unfolding logged node_to node_changed anchor_to anchor_changed set_property choice_made keyed firing_logged limit_met is_fired one_if when◌then◌else◌
  firings = grind (arith, classed_more, number_more, met_not_13)
