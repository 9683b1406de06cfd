-- What stays true in the loop of `printing::lines::put_lines`.
use Rattle.std.proofs.Common.{◌≡◌, ◌++◌, ℕ, List, drop}
use Rattle.printing.specs.Writing.{Adds}
use Rattle.printing.specs.Lines.{groups_text}
use Rattle.printing.proofs.lines.put_lines.Given as goal

abbrev pub invariant-loop-class : goal.invariant-loop-class
invariant-loop-class l = (printed : List ℕ) × Adds printed l.initial.text l.text × (printed ++ groups_text (drop l.class-index l.lines) ≡ groups_text l.lines)
