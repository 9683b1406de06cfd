-- Four bytes that the library reads as a signed number are `signed`'s.
use Rattle.std.specs.Prelude.{◌≡◌, ℕ, suc, ◌+◌, ◌-◌, ◌*◌, negsuc}
use Rattle.std.proofs.Common.{◌∙◌, ap, arith, to_z}
use Rattle.std.specs.Int.{w32}
use Rattle.base.specs.Tests.{when◌then◌else◌, ◌<?◌, by_test}
use Rattle.machine.specs.Fields.{signed}

signed_bits : (n : ℕ) → to_z w32 n ≡ signed n
unfolding signed when◌then◌else◌
signed_bits n =
    let same : 4294967296 - suc n ≡ 4294967295 - n = omega arith in
    by_test (n <? 2147483648) (λ e. rw e) (λ e. rw e (ap negsuc same))

pub signed_bytes : (a b c d : ℕ) → to_z w32 (a + b * 256 + c * 65536 + d * 16777216) ≡ signed (a + 256 * b + 65536 * c + 16777216 * d)
signed_bytes a b c d =
    let same : a + b * 256 + c * 65536 + d * 16777216 ≡ a + 256 * b + 65536 * c + 16777216 * d = omega arith in
    signed_bits _ ∙ ap signed same
