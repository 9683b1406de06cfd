-- What the check leaves open of `script_run::to_front`. Assumes nothing.
use Rattle.std.proofs.Common.{◌≡◌, ℕ, ◌+◌, ◌-◌, ◌≤◌, List, ◌∙◌, sym, ap, arith, refl, length, take, drop, length-drop}
use Rattle.std.proofs.lemmas.List.Edits.{take-paste}
use Rattle.std.specs.List.{copy_within}
use Rattle.script_run.proofs.Scripts.{all_moved}
use Rattle.script_run.proofs.to_front.Goals as goal

copied : (i j : ℕ) (xs : List ℕ) → i ≤ j → j ≤ length xs → take (j - i) (copy_within xs i j 0) ≡ take (j - i) (drop i xs)
copied i j xs h k =
    let fits : j - i ≤ length (drop i xs) = omega (arith, length-drop i xs) in
    let none : 0 + (j - i) ≡ j - i = omega arith in
    ap (λ (n : ℕ). take n (copy_within xs i j 0)) (sym none) ∙ take-paste xs 0 (drop i xs) (j - i) (omega arith) fits

pub returns : goal.returns
returns c = all_moved _ _ _ _ _ refl c.requires.0 c.requires.1 (omega arith) (rw c.copy_within.ensures.after (copied _ _ _ c.requires.0 c.requires.1))
