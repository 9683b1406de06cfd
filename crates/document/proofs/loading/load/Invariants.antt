-- What stays true in the loop of `document::loading::load`, and what decreases.
use Prim.Native.Nat.{◌-◌}
use lib.ListN.{length}
use Rattle.document.proofs.Records.{Left}
use Rattle.document.proofs.loading.load.Given as goal

abbrev pub invariant-loop-at : goal.invariant-loop-at
invariant-loop-at l = Left l.document l.s l.at

abbrev pub decreases-loop-at : goal.decreases-loop-at
decreases-loop-at l = length l.document - l.at
