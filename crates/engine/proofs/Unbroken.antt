-- How a call on a session that is not broken ends leaves such a session, because the arrays of its state have the lengths of their types.
use Rattle.std.specs.Prelude.{◌≡◌, false, ℕ}
use Rattle.base.specs.Tests.{when◌then◌else◌}
use Rattle.machine.specs.Broken.{broken}
use Rattle.machine.specs.Operations.{argument_fault, ended, run_of, call_admitting}
use Rattle.machine.specs.declared.Call.{Call}
use Rattle.machine.specs.declared.Session.{Session}
use Rattle.machine.proofs.Shape.{HasArrays}
use Rattle.machine.proofs.Calls.{call_unbroken}

pub ends_unbroken : (s : Session) (c : Call) (bytes : ℕ) → broken s ≡ false → argument_fault s.document c ≡ 0 → HasArrays s.state
    → broken (ended s bytes (run_of s c bytes)).session ≡ false
unfolding call_admitting when◌then◌else◌
ends_unbroken s c bytes unbroken given arrays = rw (unbroken, given) at (call_unbroken s unbroken arrays c bytes)
