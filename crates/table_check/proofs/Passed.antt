-- From what a check of a record answers to the test of the definition.
use Rattle.std.specs.Prelude.{◌≡◌, refl, ⊤, ℕ, Bool, ◌&&◌, Result, Ok, Err}
use Rattle.std.proofs.Common.{sym}
use Rattle.std.specs.Result.{is_ok}
use Rattle.base.specs.Tests.{◌=?◌}
use Rattle.base.specs.Loops.{every}
use Rattle.machine.specs.declared.Document.{Document}
use Rattle.machine.specs.declared.LinkRecord.{LinkRecord}
use Rattle.machine.specs.declared.Refusal.{Refusal}
use Rattle.machine.specs.Answers.{check_number, numbered}
use Rattle.machine.specs.Tables.{link_at, action_count}
use Rattle.machine.specs.Records.{link_fault}
use Rattle.machine.specs.Broken.{action_obeys, link_obeys}

-- a check passes where there is no fault
pub passed : (r : Result ⊤ Refusal) → is_ok r ≡ (check_number r =? 0)
passed (Ok done) = refl
passed (Err refusal) = sym (numbered refusal)

-- a link and its actions
pub link_obeys_lem : (d : Document) (i number n : ℕ) (b acts : Bool) (checked : LinkRecord) → b ≡ (number =? 0) → number ≡ link_fault d i checked → acts ≡ every (action_obeys d i) n
    → checked ≡ link_at d.links i → n ≡ action_count d.links i → (b && acts) ≡ link_obeys d i
unfolding link_obeys
link_obeys_lem d i number n b acts checked p q e same count = rw (p, q, e, same, count)
