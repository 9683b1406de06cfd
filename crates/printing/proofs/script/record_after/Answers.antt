-- What the check leaves open of `printing::script::record_after`. Assumes nothing.
use Rattle.std.proofs.Common.{◌≡◌, ℕ, zero, suc, refl, arith, false, length}
use borrow.Author.Tests.{le-leb, lt-leb}
use Rattle.std.proofs.lemmas.List.{get_or-take}
use Rattle.base.specs.Tests.{when◌then◌else◌}
use Rattle.machine.specs.PrintedRun.{is_script_kind, is_call, call_of}
use Rattle.printing.specs.Script.{record_after}
use Rattle.printing.proofs.script.record_after.Goals as goal

pub returns-in-1 : goal.returns-in-1
unfolding record_after is_call call_of when◌then◌else◌
returns-in-1 c = rw (c.in-1.is, le-leb 6 _ c.if-rest-ge6.true, c.action_of.ensures)

pub returns-in-2 : goal.returns-in-2
unfolding record_after is_call call_of when◌then◌else◌
returns-in-2 c = rw (c.in-2.is, le-leb 1 _ c.if-rest-ge1.true, get_or-take 1 c.args.rest.now 0 0 (omega arith))

pub returns-in-3 : goal.returns-in-3
unfolding record_after is_call call_of when◌then◌else◌
returns-in-3 c = rw (c.in-3.is, le-leb 0 (length c.args.rest.now) (omega arith))

pub returns-in-1-2 : goal.returns-in-1-2
unfolding record_after is_call when◌then◌else◌
returns-in-1-2 c = rw (c.in-1.is, lt-leb 6 _ c.if-rest-ge6.false)

pub returns-in-1-2-2 : goal.returns-in-1-2-2
unfolding record_after is_call when◌then◌else◌
returns-in-1-2-2 c = rw (c.in-2.is, lt-leb 1 _ c.if-rest-ge1.false)

-- there is no other kind
unknown : (kind : ℕ) → (kind ≡ 1 → ⊥) → (kind ≡ 2 → ⊥) → (kind ≡ 3 → ⊥) → is_script_kind kind ≡ false
unknown zero one two three = refl
unknown (suc zero) one two three = absurd (one refl)
unknown (suc (suc zero)) one two three = absurd (two refl)
unknown (suc (suc (suc zero))) one two three = absurd (three refl)
unknown (suc (suc (suc (suc kind)))) one two three = rw (le-leb 1 (suc (suc (suc (suc kind)))) (omega arith), lt-leb (suc (suc (suc (suc kind)))) 3 (omega arith))

pub returns-in_default : goal.returns-in_default
unfolding record_after is_call when◌then◌else◌
returns-in_default c = rw (unknown c.args.kind (λ e. omega arith) (λ e. omega arith) (λ e. omega arith))
