-- Laws of decimal digits: they are those that the library prints.
use Rattle.std.proofs.Common.{◌≡◌, ℕ, suc, ◌+◌, ◌/◌, ◌%◌, ◌^◌, ◌<◌, ◌≤◌, [], ◌∷◌, ◌++◌, arith, length, length-append}
use Rattle.std.proofs.lemmas.Bool.{lt-ltb, le-ltb}
use Rattle.std.specs.Fmt.{decimal as printed}
use Rattle.std.proofs.lemmas.Fmt.{decimal_from_appends, decimal_digit, decimal_step, length-decimal-le, length-decimal-le_succ}
use Rattle.base.specs.Tests.{when◌then◌else◌}
use Rattle.machine.specs.Text.{digits, decimal}

as_printed : (n : ℕ) → n < 2 ^ 64 → decimal n ≡ printed n
unfolding digits when◌then◌else◌
as_printed n h = decimal_from_appends digits (record { one = λ k n l. rw (lt-ltb n 10 l); more = λ k n l. rw (le-ltb n 10 l) }) (suc n) n h (omega (arith, length-decimal-le_succ n h))

pub decimal_last : (n : ℕ) → n < 10 → decimal n ≡ (48 + n) ∷ []
decimal_last n h = rw (as_printed n (omega arith)) (decimal_digit n h)

pub decimal_more : (n : ℕ) → n < 2 ^ 64 → 10 ≤ n → decimal n ≡ decimal (n / 10) ++ ((48 + n % 10) ∷ [])
decimal_more n h l = rw (as_printed n h, as_printed (n / 10) (omega arith)) (decimal_step n l h)

-- how many there are: one more than of a tenth, and at most
pub decimal_longer : (n : ℕ) → n < 2 ^ 64 → 10 ≤ n → length (decimal n) ≡ length (decimal (n / 10)) + 1
decimal_longer n h l = rw (decimal_more n h l) (length-append (decimal (n / 10)) ((48 + n % 10) ∷ []))

pub byte_length : (n : ℕ) → n < 256 → length (decimal n) ≤ 3
byte_length n h = rw (as_printed n (omega arith)) (length-decimal-le 3 n (omega arith) (omega arith) (omega arith))

pub word_length : (n : ℕ) → n < 2 ^ 64 → length (decimal n) ≤ 20
word_length n h = rw (as_printed n h) (length-decimal-le 20 n (omega arith) (omega arith) h)
