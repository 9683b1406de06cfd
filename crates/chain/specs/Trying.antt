-- A link that hears a line: whether it fires, and what a firing does before its actions.
use Rattle.std.specs.Prelude.{ℕ, Bool, ◌&&◌}
use Rattle.base.specs.Tests.{when◌then◌else◌, ◌<?◌}
use Rattle.machine.specs.Tables.{link_at}
use Rattle.machine.specs.Deciding.{guard_holds}
use Rattle.machine.specs.Events.{Run}
use Rattle.machine.specs.Owners.{owner_chosen}
use Rattle.machine.specs.Chain.{goes_on, firing_logged, limit_met}
use Rattle.machine.specs.declared.Document.{Document}

-- nothing stops the call, the path to the owner of link l is chosen, and its guard holds
unfoldable pub may_fire : Document → ℕ → Run → Bool
may_fire d l r =
    let link = link_at d.links l in
    goes_on r && owner_chosen d r.state link.owner && guard_holds d.rules r.state.properties.values link.guard

-- the firing of link l is logged and counted, or the limit is met
unfoldable pub firing_begun : ℕ → ℕ → Run → Run
firing_begun limit l r = when r.firings <? limit then firing_logged l r else limit_met r
