-- "The chain of links": "The log is also the queue."
use Rattle.std.specs.Prelude.{ℕ, zero, suc, ◌+◌, Bool, ◌&&◌, length, get_or}
use Rattle.base.specs.Tests.{when◌then◌else◌, ◌=?◌, ◌<?◌}
use Rattle.base.specs.Loops.{ascending}
use Rattle.machine.specs.Terms.{no_transition, of_fired}
use Rattle.machine.specs.Tables.{link_at, action_at, action_count}
use Rattle.machine.specs.Deciding.{guard_holds}
use Rattle.machine.specs.Log.{line, met, logged}
use Rattle.machine.specs.Events.{Run, with_state, acted}
use Rattle.machine.specs.Owners.{OwnerTest}
use Rattle.machine.specs.declared.Document.{Document}
use Rattle.machine.specs.declared.State.{State}
use Rattle.machine.specs.declared.Line.{Line}

-- "A link whose class, subject and transition equal the line's, and whose guard holds on the values of that moment, fires"; Req 01: "The
-- machine of 01 is read with this condition added to firing", on the choices of that moment
unfoldable pub fires : OwnerTest → Document → State → Line → ℕ → Bool
fires admits d s x l =
    let link = link_at d.links l in
    link.class =? x.class && link.subject =? x.id && link.transition =? x.transition
    && admits d s link.owner && guard_holds d.rules s.properties.values link.guard

-- "a line of class 5, link, 0 is logged"; "Firings are counted"
unfoldable pub firing_logged : ℕ → Run → Run
firing_logged l r = record { state = r.state; log = logged (line of_fired l no_transition) r.log; firings = r.firings + 1 }

-- nothing stops the call: once something does, no further action, link or line is taken
unfoldable pub goes_on : Run → Bool
goes_on r = r.log.stop =? 0

-- "and its actions run in order, each settled"
unfoldable pub action_run : Document → ℕ → ℕ → Run → Run
action_run d l j r = when goes_on r then acted d (action_at d.actions l j) r else r

unfoldable pub actions_run : Document → ℕ → Run → Run
actions_run d l r = ascending (action_run d l) (action_count d.links l) r

unfoldable pub limit_met : Run → Run
limit_met r = with_state r.state (met 11 r.log) r

-- "11 when a link would fire and the count already equals the limit": the count begins at 0 and is never above the limit,
-- so that it equals the limit where it is not below it; "a firing tests 11 before its line tests 12"
unfoldable pub fired : Document → ℕ → Run → Run
fired d l r = when r.firings <? d.limit then actions_run d l (firing_logged l r) else limit_met r

unfoldable pub link_tried : OwnerTest → Document → Line → ℕ → Run → Run
link_tried admits d x l r = when goes_on r && fires admits d r.state x l then fired d l r else r

-- "for each, links by id"
unfoldable pub line_taken : OwnerTest → Document → Line → Run → Run
line_taken admits d x r = ascending (link_tried admits d x) d.links.count r

-- "Its lines are taken in order from the call's first": from line k, at most so many; "The call ends when no line is left."
unfoldable pub lines_taken : OwnerTest → Document → ℕ → ℕ → Run → Run
lines_taken admits d zero k r = r
lines_taken admits d (suc most) k r =
    when goes_on r && k <? length r.log.lines
    then lines_taken admits d most (k + 1) (line_taken admits d (get_or r.log.lines k (line 0 0 0)) r)
    else r

-- there are never more lines than there is room for
unfoldable pub chained : OwnerTest → Document → Run → Run
chained admits d r = lines_taken admits d r.log.room 0 r
