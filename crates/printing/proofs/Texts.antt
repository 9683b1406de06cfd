-- The lengths of printed texts, and how they are put together.
use Rattle.std.proofs.Common.{◌≡◌, ℕ, zero, suc, ◌+◌, ◌*◌, ◌<◌, ◌≤◌, ◌^◌, List, [], ◌∷◌, ◌++◌, append_assoc, arith, length, length-append, get_or}
use lib.IntN.{pos}
use Rattle.base.specs.Tests.{when◌then◌else◌}
use Rattle.machine.specs.declared.Refusal.{Refusal}
use Rattle.machine.specs.Answers.{accepted, refused, number_of, numbered}
use Rattle.machine.specs.Log.{lines_of}
use Rattle.machine.specs.PrintedRun.{printed_lines, firings_of, printed_call}
use Rattle.machine.specs.Text.{text, decimal}
use Rattle.machine.specs.declared.Session.{Session}
use Rattle.printing.specs.Lines.{line_text, accepted_text, refused_text}
use Rattle.printing.proofs.Decimals.{byte_length, word_length}

pub line_length : (c i t : ℕ) → length (line_text c i t) ≡ 3 + length (decimal c) + length (decimal i) + length (decimal t)
unfolding line_text text
line_length c i t = simp length-append (omega arith)

pub accepted_length : (firings : ℕ) (log : List ℕ) → length (accepted_text firings log) ≡ 5 + length (decimal (length (lines_of log))) + length (decimal firings) + length (printed_lines (lines_of log))
unfolding accepted_text text
accepted_length firings log = simp length-append (omega arith)

pub refused_length : (number : ℕ) → length (refused_text number) ≡ 4 + length (decimal number)
unfolding refused_text text
refused_length number = omega arith

-- a log has at most a line for each 4 bytes, and 3 characters for each byte
lines_most : (b : List ℕ) → ((i : ℕ) → get_or b i 0 < 256) → (length (lines_of b) ≤ length b) × (length (printed_lines (lines_of b)) ≤ 3 * length b)
unfolding lines_of printed_lines text
lines_most [] h = (omega arith, omega arith)
lines_most (zero ∷ b) h = (omega arith, omega arith)
lines_most (suc c ∷ []) h = (omega arith, omega arith)
lines_most (suc c ∷ i ∷ []) h = (omega arith, omega arith)
lines_most (suc c ∷ i ∷ t ∷ []) h = (omega arith, omega arith)
lines_most (suc c ∷ i ∷ t ∷ z ∷ b) h =
    let more = lines_most b (λ k. h (suc (suc (suc (suc k))))) in
    (omega arith, simp length-append (omega (arith, byte_length (suc c) (h 0), byte_length i (h 1), byte_length t (h 2))))

-- room for an answer
pub accepted_most : (firings : ℕ) (log : List ℕ) → firings < 256 → length log < 2 ^ 64 → ((i : ℕ) → get_or log i 0 < 256) → length (accepted_text firings log) ≤ 28 + 3 * length log
accepted_most firings log h l bytes =
    let most = lines_most log bytes in
    omega (arith, accepted_length firings log, byte_length firings h, word_length (length (lines_of log)) (omega arith))

pub refused_most : (refusal : Refusal) → length (refused_text (number_of refusal)) ≤ 7
refused_most refusal = omega (arith, refused_length (number_of refusal), byte_length (number_of refusal) (small refusal))
  where
    small : (r : Refusal) → number_of r < 256
    small r = grind arith

-- the line of a call: its number, its answer, and the line's end
module _ (number : ℕ) (s : Session) (log : List ℕ) where
  pub accepted_call : (firings : ℕ) → decimal number ++ accepted_text firings log ++ text "\n" ≡ printed_call number (record { answer = accepted (pos firings ∷ []); session = s; log = log })
  unfolding printed_call firings_of accepted_text when◌then◌else◌
  accepted_call firings = simp append_assoc

  pub refused_call : (refusal : Refusal) → decimal number ++ refused_text (number_of refusal) ++ text "\n" ≡ printed_call number (record { answer = refused (number_of refusal); session = s; log = log })
  unfolding printed_call refused_text when◌then◌else◌
  refused_call refusal = rw (numbered refusal)
