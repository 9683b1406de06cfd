-- The lines of a log as its groups of four bytes.
use Rattle.std.proofs.Common.{◌≡◌, ◌∙◌, sym, ap, ℕ, zero, suc, ◌+◌, ◌/◌, List, [], ◌∷◌, ◌++◌, refl, true, append_assoc, arith, length, map, take}
use borrow.Author.Tests.{ne_eqb}
use Rattle.std.specs.List.{prefix_len}
use Rattle.std.specs.Simd.{first_chunks}
use Rattle.machine.specs.Log.{lines_of}
use Rattle.machine.specs.PrintedRun.{printed_lines}
use Rattle.machine.specs.declared.Line.{Line}
use Rattle.printing.specs.Lines.{is_line, group_of, line_text, groups_text}

taken_more : (group : List ℕ) (groups : List (List ℕ)) → is_line group ≡ true → take (prefix_len is_line (group ∷ groups)) (group ∷ groups) ≡ group ∷ take (prefix_len is_line groups) groups
taken_more group groups h = let e : 1 + prefix_len is_line groups ≡ suc (prefix_len is_line groups) = omega arith in rw (h, e)

pub lines_as_groups : (n : ℕ) (b : List ℕ) → n ≡ length b / 4 → take (prefix_len is_line (first_chunks 4 n b)) (first_chunks 4 n b) ≡ map group_of (lines_of b)
unfolding lines_of
lines_as_groups n [] e = rw e
lines_as_groups zero (zero ∷ b) e = refl
lines_as_groups (suc n) (zero ∷ b) e = refl
lines_as_groups n (suc c ∷ []) e = rw e
lines_as_groups n (suc c ∷ i ∷ []) e = rw e
lines_as_groups n (suc c ∷ i ∷ t ∷ []) e = rw e
lines_as_groups zero (suc c ∷ i ∷ t ∷ z ∷ b) e = absurd (omega arith)
lines_as_groups (suc n) (suc c ∷ i ∷ t ∷ z ∷ b) e = taken_more (suc c ∷ i ∷ t ∷ z ∷ []) (first_chunks 4 n b) (rw (ne_eqb (suc c) 0 (λ e. omega arith))) ∙ ap (λ (groups : List (List ℕ)). (suc c ∷ i ∷ t ∷ z ∷ []) ∷ groups) (lines_as_groups n b (omega arith))

-- what is printed of them
lines_cons : (l : Line) (ls : List Line) → printed_lines (l ∷ ls) ≡ line_text l.class l.id l.transition ++ printed_lines ls
unfolding printed_lines line_text
lines_cons l ls = simp append_assoc

pub printed_as_groups : (ls : List Line) → groups_text (map group_of ls) ≡ printed_lines ls
unfolding groups_text printed_lines
printed_as_groups [] = refl
printed_as_groups (l ∷ ls) = rw (printed_as_groups ls) (sym (lines_cons l ls))
