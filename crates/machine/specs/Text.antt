-- Text as a list of character codes.
use Rattle.std.specs.Prelude.{ℕ, zero, suc, ◌+◌, ◌/◌, ◌%◌, List, [], ◌∷◌, ◌++◌}
use Prim.Native.Char.{code}
use Prim.Native.String.{String, [] as «empty», ◌∷◌ as ◌before◌}
use Rattle.base.specs.Tests.{when◌then◌else◌, ◌<?◌}

unfoldable pub text : String → List ℕ
text empty = []
text (c before s) = code c ∷ text s

-- the decimal digits of a number, at most so many
unfoldable pub digits : ℕ → ℕ → List ℕ
digits zero n = []
digits (suc most) n = when n <? 10 then (48 + n) ∷ [] else digits most (n / 10) ++ ((48 + n % 10) ∷ [])

abbrev pub decimal : ℕ → List ℕ
decimal n = digits (suc n) n
