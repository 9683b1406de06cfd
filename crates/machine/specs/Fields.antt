-- "Wide fields are little-endian: u16, or i32 in two's complement."
use Rattle.std.specs.Prelude.{ℕ, ◌+◌, ◌*◌, ◌-◌, List, ℤ, pos, negsuc, get_or}
use Rattle.base.specs.Tests.{when◌then◌else◌, ◌<?◌}

-- the field that stands at a place of a record's body
abbrev pub byte : List ℕ → ℕ → ℕ
byte body place = get_or body place 0

abbrev pub u16 : List ℕ → ℕ → ℕ
u16 body place = byte body place + 256 * byte body (place + 1)

abbrev pub u32 : List ℕ → ℕ → ℕ
u32 body place =
    byte body place + 256 * byte body (place + 1) + 65_536 * byte body (place + 2) + 16_777_216 * byte body (place + 3)

-- two's complement: a number from 2,147,483,648 on stands for itself less 4,294,967,296. (`negsuc n` is -1 - n.)
unfoldable pub signed : ℕ → ℤ
signed n = when n <? 2_147_483_648 then pos n else negsuc (4_294_967_295 - n)

abbrev pub i32 : List ℕ → ℕ → ℤ
i32 body place = signed (u32 body place)
