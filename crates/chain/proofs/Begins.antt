-- What a firing does before its actions: below the limit it is logged and counted, else the limit is met.
use Prim.Native.Nat.{ℕ, ◌+◌, ◌<◌, ◌≤◌}
use mathlib.Core.Path.{◌≡◌}
use borrow.Author.Tests.{lt-ltb, le-ltb}
use Rattle.base.specs.Tests.{when◌then◌else◌}
use Rattle.machine.specs.Terms.{of_fired, no_transition}
use Rattle.machine.specs.Log.{Log, line, logged, met}
use Rattle.machine.specs.Events.{Run}
use Rattle.machine.specs.Chain.{firing_logged, limit_met}
use Rattle.chain.specs.Trying.{firing_begun}

module _ (limit l : ℕ) (r : Run) (g : Log) where
  pub begins_below : r.firings < limit → g ≡ logged (line of_fired l no_transition) r.log → record { state = r.state; log = g; firings = r.firings + 1 } ≡ firing_begun limit l r
  unfolding firing_begun firing_logged limit_met when◌then◌else◌
  begins_below h e = rw (lt-ltb _ _ h, e)

  pub begins_full : limit ≤ r.firings → g ≡ met 11 r.log → record { state = r.state; log = g; firings = r.firings } ≡ firing_begun limit l r
  unfolding firing_begun firing_logged limit_met when◌then◌else◌
  begins_full h e = rw (le-ltb _ _ h, e)
