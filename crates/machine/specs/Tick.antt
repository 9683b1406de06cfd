-- "Tick", and "Key logs one line".
use Rattle.std.specs.Prelude.{ℕ, ◌+◌, false, ◌&&◌, set}
use Rattle.base.specs.Tests.{when◌then◌else◌, ◌=?◌, ◌<?◌}
use Rattle.base.specs.Loops.{ascending}
use Rattle.machine.specs.Terms.{sleeping, occurring, to_stop, no_action, starts, of_key}
use Rattle.machine.specs.Tables.{is_media, duration_of, with_node_events}
use Rattle.machine.specs.Log.{line, logged}
use Rattle.machine.specs.Events.{Run, node_state, node_clock, with_state, begins_at, ends_at, anchors_moved, media_moved, settled}
use Rattle.machine.specs.declared.Document.{Document}
use Rattle.machine.specs.declared.State.{State}

abbrev pub with_clock : ℕ → ℕ → State → State
with_clock n clock s =
    let t = s.nodes in
    with_node_events (record { states = t.states; clocks = set t.clocks n clock; counts = t.counts }) s

-- media n comes to the clock: "its awake anchors with end = clock stop in id order, then those with begin = clock start in id order"
unfoldable pub anchors_passed : Document → ℕ → ℕ → Run → Run
anchors_passed d n clock r =
    anchors_moved d.anchors (begins_at clock) false n occurring
    (anchors_moved d.anchors (ends_at clock) false n sleeping
    (with_state (with_clock n clock r.state) r.log r))

-- "then if duration = clock it stops as by the command"
unfoldable pub passed : Document → ℕ → ℕ → Run → Run
passed d n clock r =
    when duration_of d.nodes n =? clock
    then media_moved d.anchors to_stop n (anchors_passed d n clock r)
    else anchors_passed d n clock r

-- "each occurring media .. adds one to its clock"; "A clock at 65,535 stays, and that media's anchors and end aren't looked at."
unfoldable pub ticked_one : Document → ℕ → Run → Run
ticked_one d n r =
    when is_media d.nodes n && node_state r.state n =? occurring && node_clock r.state n <? 65_535
    then passed d n (node_clock r.state n + 1) r
    else r

-- "ids ascending"; "Then one settling", which belongs to no action
unfoldable pub ticked : Document → Run → Run
ticked d r = settled d.nodes no_action 0 (ascending (ticked_one d) d.nodes.count r)

-- "Key logs one line: class 4, code, 1."
unfoldable pub keyed : ℕ → Run → Run
keyed code r = with_state r.state (logged (line of_key code starts) r.log) r
