-- What the check leaves open of `sound::UnbrokenSession::new`. Assumes nothing.
use Rattle.machine.proofs.Whole.{unbroken_sound}
use Rattle.machine.proofs.sound.UnbrokenSession.new.Goals as goal

pub invariant_of-result : goal.invariant_of-result
invariant_of-result c = record { sound = unbroken_sound c.args.session c.requires }
