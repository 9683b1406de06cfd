-- Text written into a slice.
use Rattle.std.specs.Prelude.{ℕ, ◌+◌, ◌≤◌, List, ◌++◌, ◌≡◌, length, take, drop}
use Rattle.printing.specs.declared.text.Text.{Text}

-- so many bytes more fit
abbrev pub HasRoom : ℕ → Text → Type 0
HasRoom size t = t.filled + size ≤ length t.bytes.now

-- a text was put behind what was written, into the same slice; its bytes after that are as they were
pub record Adds (text : List ℕ) (before after : Text) : Type 0 where
  pub same_slice : after.bytes.ghost_name ≡ before.bytes.ghost_name
  pub size : length after.bytes.now ≡ length before.bytes.now
  pub filled : after.filled ≡ before.filled + length text
  pub fits : after.filled ≤ length after.bytes.now
  pub written : take after.filled after.bytes.now ≡ take before.filled before.bytes.now ++ text
  pub kept : drop after.filled after.bytes.now ≡ drop after.filled before.bytes.now

-- so many bytes at the front of a slice; the second part follows from the first, and lending the bytes asks for both
abbrev pub Front : ℕ → List ℕ → Type 0
Front size bytes = (size ≤ length bytes) × (size ≡ length (take size bytes))

-- a slice that begins with the text, whose length is given
pub record Printed (text bytes : List ℕ) (size : ℕ) : Type 0 where
  pub front : Front size bytes
  pub printed : take size bytes ≡ text
