-- How a script goes on from part to part.
use Prim.Native.Nat.{ℕ, ◌≤◌}
use mathlib.Core.List.{List, ◌++◌}
use mathlib.Core.Path.{◌≡◌, refl, sym, ◌∙◌}
use lib.ListN.{take, drop, take-append-drop}
use lib.Seq.{take-take}
use Rattle.machine.specs.declared.Session.{Session}
use Rattle.script_run.specs.Running.{GoesOn, Stopped, Ran}
use Rattle.script_run.specs.declared.Part.{Part}
use Rattle.script_run.specs.declared.Stop.{Stop}
use Rattle.script_run.specs.declared.Stop.TheVariants.{Full, Cut, Ended}
use Rattle.script_run.proofs.Scripts.{run_on, read_on}
use Rattle.printed_run.specs.Held.{HeldMore, Reached}

-- bytes were read behind those that are held
pub more_held : (held n : ℕ) (before after : List ℕ) → held ≤ n → take held after ≡ take held before → HeldMore (take held before) (take n after)
more_held held n before after h same = record {
  more = drop held (take n after);
  begins = sym (take-append-drop held (take n after)) ∙ rw (take-take held n after h, same);
}

-- one part more, after which bytes are read
goes_on_of : {number : ℕ} {s s' : Session} {script : List ℕ} (out : List ℕ) (p : Part) (stop : Stop) → (stop ≡ Stop.Ended → ⊥) → Stopped number s script s' out p stop
    → GoesOn number s script (take p.filled out) p.number s' (drop p.used script)
goes_on_of out p Full h known = known.0
goes_on_of out p Cut h known = known.0
goes_on_of out p Ended h known = absurd (h refl)

pub reached_on : {s a b : Session} {p q : Part} {left out : List ℕ} → Reached s a p left → Ran p.number a left b out q → (q.stop ≡ Stop.Ended → ⊥) → (more : List ℕ)
    → Reached s b q (drop q.used left ++ more)
reached_on {q = q} reached ran h more = record {
  script = reached.script ++ more;
  printed = _;
  goes_on = read_on (run_on reached.goes_on (goes_on_of _ q q.stop h ran.stopped)) more;
}
