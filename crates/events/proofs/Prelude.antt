-- What the proofs of this crate bring in, by one line.
pub use mathlib.Core.Path.{◌≡◌, sym, ◌∙◌}
pub use Prim.Native.Nat.{ℕ, ◌<◌, ◌-◌}
pub use native.Mathlib.Omega.{arith}
unfoldable pub use Rattle.base.specs.Tests.{when◌then◌else◌}
unfoldable pub use Rattle.base.specs.Loops.{ascending, descending}
pub use Rattle.base.specs.Loops.{ascending_more, descending_more}
pub use Rattle.events.specs.Running.{run}
