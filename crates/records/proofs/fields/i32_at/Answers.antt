-- What the check leaves open of `records::fields::i32_at`. Assumes nothing.
use Rattle.std.proofs.Common.{◌∙◌}
use Rattle.std.proofs.Math.Facts.{to_z-of_z}
use Rattle.std.specs.Int.{w32}
use Rattle.records.proofs.Signed.{signed_bytes}
use Rattle.records.proofs.fields.i32_at.Goals as goal

pub returns : goal.returns
returns c =
    rw (← c.byte_at.ensures, ← c.byte_at-2.ensures, ← c.byte_at-3.ensures, ← c.byte_at-4.ensures)
    (to_z-of_z {w = w32} (record { sfits = c.from_le_bytes.type_inv }) ∙ c.from_le_bytes.ensures ∙ signed_bytes _ _ _ _)
