-- Documents whose links have no switch above their owner: to them it makes no difference which owners firing admits.
use Rattle.std.specs.Prelude.{ℕ, Bool, true, ◌≡◌}
use Rattle.base.specs.Loops.{every}
use Rattle.machine.specs.Tables.{link_at}
use Rattle.machine.specs.Owners.{outside_switches, any_owner}
use Rattle.machine.specs.Operations.{call_admitting, call}
use Rattle.machine.specs.declared.Document.{Document}
use Rattle.machine.specs.declared.Session.{Session}
use Rattle.machine.specs.declared.Call.{Call}

-- no switch lies above the owner of any link
unfoldable pub owners_outside : Document → Bool
owners_outside d = every (λ l. outside_switches d.nodes (link_at d.links l).owner) d.links.count

-- THE STATEMENT. For every session of such a document, every call and log length, the owner "has no effect": answer, session and every
-- log byte are those of the machine that admits any owner.
abbrev pub OwnersHaveNoEffect : Type 0
OwnersHaveNoEffect = (s : Session) (c : Call) (bytes : ℕ) → owners_outside s.document ≡ true → call s c bytes ≡ call_admitting any_owner s c bytes
