-- What the check leaves open of `end_check::action_ends_zero`. Assumes nothing.
use Rattle.std.proofs.Common.{arith}
use Rattle.end_check.proofs.Slots.{int_zero, places_zero}
use Rattle.end_check.proofs.action_ends_zero.Goals as goal

pub returns : goal.returns
returns c = rw (c.actions_end_zero.ensures, c.used.ensures, c.used-2.ensures) (simp int_zero (places_zero _ _ _ _ (omega arith) c.requires))
