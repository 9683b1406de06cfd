-- "Events and commands". A step changes the run of a call: the states, the log and the firings.
use Rattle.std.specs.Prelude.{ℕ, zero, suc, ◌+◌, ◌-◌, ◌%◌, Bool, not, ◌&&◌, ◌||◌, List, [], ◌∷◌, ℤ, get_or, set}
use Rattle.base.specs.Tests.{when◌then◌else◌, ◌=?◌, ◌<?◌, ◌≤?◌}
use Rattle.base.specs.Loops.{ascending, descending, some, first}
use Rattle.machine.specs.Terms.{context, sleeping, occurring, paused, to_start, to_abort, to_resume, to_set, no_transition, starts, stops, aborts, pauses, resumes, of_node, of_anchor, of_property, no_id}
use Rattle.machine.specs.Tables.{type_of, parent_of, is_media, anchor_at, bind_at, port_at, with_node_events, with_anchor_events, with_property_events, with_choices}
use Rattle.machine.specs.Records.{is_default}
use Rattle.machine.specs.Deciding.{rule_holds}
use Rattle.machine.specs.Log.{Log, line, logged}
use Rattle.machine.specs.declared.Nodes.{Nodes}
use Rattle.machine.specs.declared.Anchors.{Anchors}
use Rattle.machine.specs.declared.Rules.{Rules}
use Rattle.machine.specs.declared.Binds.{Binds}
use Rattle.machine.specs.declared.Document.{Document}
use Rattle.machine.specs.declared.State.{State}
use Rattle.machine.specs.declared.ActionRecord.{ActionRecord}

pub record Run : Type 0 where
  pub state : State
  pub log : Log
  pub firings : ℕ

abbrev pub node_state : State → ℕ → ℕ
node_state s n = get_or s.nodes.states n 0

abbrev pub node_clock : State → ℕ → ℕ
node_clock s n = get_or s.nodes.clocks n 0

abbrev pub node_count : State → ℕ → ℕ
node_count s n = get_or s.nodes.counts n 0

abbrev pub anchor_state : State → ℕ → ℕ
anchor_state s a = get_or s.anchors.states a 0

abbrev pub anchor_count : State → ℕ → ℕ
anchor_count s a = get_or s.anchors.counts a 0

abbrev pub property_count : State → ℕ → ℕ
property_count s p = get_or s.properties.counts p 0

-- 01's term: "awake means not sleeping"
abbrev pub awake : ℕ → Bool
awake state = not (state =? sleeping)

-- ---- an event goes from one state to another, and the line that says so

-- "A change is logged: sleeping to occurring starts, paused to occurring resumes, occurring to paused pauses, awake to sleeping stops",
-- or aborts; no change is no transition
unfoldable pub transition : Bool → ℕ → ℕ → ℕ
transition aborting old new =
    when old =? new then no_transition
    else when new =? sleeping then (when aborting then aborts else stops)
    else when old =? sleeping then starts
    else when new =? occurring then resumes
    else pauses

-- "Each stops adds one to the event's occurrence count, which wraps at 4,294,967,296; aborts adds none."
unfoldable pub counted : ℕ → ℕ → ℕ
counted change count = when change =? stops then (count + 1) % 4_294_967_296 else count

-- "Waking sets the clock to 0; so does going to sleep."
unfoldable pub clocked : ℕ → ℕ → ℕ
clocked change clock = when change ≤? aborts then 0 else clock

abbrev pub with_state : State → Log → Run → Run
with_state state log r = record { state = state; log = log; firings = r.firings }

abbrev pub with_node : ℕ → ℕ → ℕ → ℕ → State → State
with_node n state clock count s =
    let t = s.nodes in
    with_node_events (record { states = set t.states n state; clocks = set t.clocks n clock; counts = set t.counts n count }) s

abbrev pub with_anchor : ℕ → ℕ → ℕ → State → State
with_anchor a state count s =
    let t = s.anchors in
    with_anchor_events (record { states = set t.states a state; counts = set t.counts a count }) s

abbrev pub with_value : ℕ → ℤ → ℕ → State → State
with_value p value count s =
    let t = s.properties in
    with_property_events (record { values = set t.values p value; counts = set t.counts p count }) s

-- node n changes to the state, and its line is logged; nothing if there is no transition
unfoldable pub node_changed : ℕ → ℕ → ℕ → Run → Run
node_changed n new change r =
    when change =? no_transition then r
    else with_state
    (with_node n new (clocked change (node_clock r.state n)) (counted change (node_count r.state n)) r.state)
    (logged (line of_node n change) r.log)
    r

unfoldable pub node_to : Bool → ℕ → ℕ → Run → Run
node_to aborting n new r = node_changed n new (transition aborting (node_state r.state n) new) r

unfoldable pub anchor_changed : ℕ → ℕ → ℕ → Run → Run
anchor_changed a new change r =
    when change =? no_transition then r
    else with_state
    (with_anchor a new (counted change (anchor_count r.state a)) r.state)
    (logged (line of_anchor a change) r.log)
    r

unfoldable pub anchor_to : Bool → ℕ → ℕ → Run → Run
anchor_to aborting a new r = anchor_changed a new (transition aborting (anchor_state r.state a) new) r

-- "Set logs starts, stores the value, logs stops (count plus one)"
unfoldable pub set_property : ℕ → ℤ → Run → Run
set_property p value r =
    with_state
    (with_value p value (counted stops (property_count r.state p)) r.state)
    (logged (line of_property p stops) (logged (line of_property p starts) r.log))
    r

-- ---- a media and its anchors

-- "The next state of a media stands in one table of state and action: start wakes a sleeping one, stop and abort put an awake one to sleep,
-- pause takes occurring to paused, resume takes paused to occurring, every other pair changes and logs nothing."
-- A row for each state; columns: start, stop, abort, pause, resume.
abbrev pub next_states : List (List ℕ)
next_states =
    (occurring ∷ sleeping ∷ sleeping ∷ sleeping ∷ sleeping ∷ [])
    ∷ (occurring ∷ sleeping ∷ sleeping ∷ paused ∷ occurring ∷ [])
    ∷ (paused ∷ sleeping ∷ sleeping ∷ paused ∷ occurring ∷ [])
    ∷ []

unfoldable pub next_state : ℕ → ℕ → ℕ
next_state state action = get_or (get_or next_states state []) (action - 1) state

-- which anchors move, by begin, end and state: those that begin at the clock, those awake that end at it, those awake
unfoldable pub begins_at : ℕ → ℕ → ℕ → ℕ → Bool
begins_at clock begin end state = begin =? clock

unfoldable pub ends_at : ℕ → ℕ → ℕ → ℕ → Bool
ends_at clock begin end state = awake state && end =? clock

unfoldable pub is_awake : ℕ → ℕ → ℕ → Bool
is_awake begin end state = awake state

-- "An anchor follows its media: on start those with begin 0 start; on pause, resume, stop, abort its awake ones do likewise."
unfoldable pub follows : ℕ → ℕ → ℕ → ℕ → Bool
follows action = when action =? to_start then begins_at 0 else is_awake

-- anchor a, if it is one of media n that move, goes to the state
unfoldable pub anchor_moved : Anchors → (ℕ → ℕ → ℕ → Bool) → Bool → ℕ → ℕ → ℕ → Run → Run
anchor_moved anchors moves aborting n new a r =
    let anchor = anchor_at anchors a in
    when anchor.media =? n && moves anchor.begin anchor.end (anchor_state r.state a)
    then anchor_to aborting a new r
    else r

-- the anchors of media n that move go to the state, "in id order"
unfoldable pub anchors_moved : Anchors → (ℕ → ℕ → ℕ → Bool) → Bool → ℕ → ℕ → Run → Run
anchors_moved anchors moves aborting n new r = ascending (anchor_moved anchors moves aborting n new) anchors.count r

-- "Anchor lines in id order follow the media's line for start and resume, and precede it for stop, abort and pause."
unfoldable pub line_first : ℕ → Bool
line_first action = action =? to_start || action =? to_resume

unfoldable pub media_to : Anchors → ℕ → ℕ → ℕ → Run → Run
media_to anchors action n new r =
    let aborting = action =? to_abort in
    when line_first action
    then anchors_moved anchors (follows action) aborting n new (node_to aborting n new r)
    else node_to aborting n new (anchors_moved anchors (follows action) aborting n new r)

-- an action on media n
unfoldable pub media_moved : Anchors → ℕ → ℕ → Run → Run
media_moved anchors action n r =
    let old = node_state r.state n in
    let new = next_state old action in
    when old =? new then r else media_to anchors action n new r

-- ---- start

-- bind b is of switch n and its rule holds
unfoldable pub bind_holds : Binds → Rules → List ℤ → ℕ → ℕ → Bool
bind_holds binds rules values n b =
    let bind = bind_at binds b in
    bind.switch =? n && not (bind.rule =? no_id) && rule_holds rules values bind.rule

-- "its first bind whose rule holds, else its default, else nothing": the bind that switch n finds; the number of binds where there is none
unfoldable pub found_bind : Binds → Rules → List ℤ → ℕ → ℕ
found_bind binds rules values n =
    let b = first (bind_holds binds rules values n) binds.count 0 in
    when b <? binds.count then b else first (is_default binds n) binds.count 0

-- the run with these choices
abbrev pub choices_set : List ℕ → Run → Run
choices_set choices r = with_state (with_choices choices r.state) r.log r

-- Req 01: "The session remembers the choice" of switch n: the child, or 0 for none, since node 0 is nobody's child
unfoldable pub choice_made : ℕ → ℕ → Run → Run
choice_made n child r = choices_set (set r.state.choices n child) r

-- where `start` starts a child: "A sleeping context starts its ports' children in record order"
unfoldable pub port_started : Document → (ℕ → Run → Run) → ℕ → ℕ → Run → Run
port_started d start n p r = when (port_at d.ports p).context =? n then start (port_at d.ports p).child r else r

unfoldable pub context_started : Document → (ℕ → Run → Run) → ℕ → Run → Run
context_started d start n r = ascending (port_started d start n) d.ports.count r

-- "and a sleeping switch starts the child of its first bind whose rule holds"; Req 01: it is then the child "last chosen by a start of
-- that switch", and "A start that finds no child clears the choice"
unfoldable pub switch_started : Document → (ℕ → Run → Run) → ℕ → Run → Run
switch_started d start n r =
    let b = found_bind d.binds d.rules r.state.properties.values n in
    when b <? d.binds.count
    then start (bind_at d.binds b).child (choice_made n (bind_at d.binds b).child r)
    else choice_made n 0 r

-- "Start of an awake composite does nothing."; Req 01: "Starting the child directly, or a switch already awake, leaves the choice."
unfoldable pub started_one : Document → (ℕ → Run → Run) → ℕ → Run → Run
started_one d start n r =
    when is_media d.nodes n then media_moved d.anchors to_start n r
    else when awake (node_state r.state n) then r
    else when type_of d.nodes n =? context then context_started d start n r
    else switch_started d start n r

-- "contexts and switches nest in each other": a child's id is above its parent's, so 64 levels are enough
unfoldable pub started : Document → ℕ → ℕ → Run → Run
started d zero n r = r
started d (suc levels) n r = started_one d (started d levels) n r

-- ---- "Stop, abort, pause and resume act on the target if media, else on every media below it, ids ascending."

-- node k is the target or lies below it: a parent's id is below its child's, so the way up from k ends at the target or passes it
unfoldable pub leads_to : Nodes → ℕ → ℕ → ℕ → Bool
leads_to nodes target zero k = k =? target
leads_to nodes target (suc steps) k = when target <? k then leads_to nodes target steps (parent_of nodes k) else k =? target

abbrev pub is_below : Nodes → ℕ → ℕ → Bool
is_below nodes target k = leads_to nodes target k k

unfoldable pub moved_below : Document → ℕ → ℕ → ℕ → Run → Run
moved_below d action target n r =
    when is_media d.nodes n && is_below d.nodes target n then media_moved d.anchors action n r else r

unfoldable pub all_moved : Document → ℕ → ℕ → Run → Run
all_moved d action target r = ascending (moved_below d action target) d.nodes.count r

-- ---- settling (01's term): every composite takes the state that its children give it

-- "its children are the nodes that name it as parent"
unfoldable pub child_in : Nodes → List ℕ → ℕ → ℕ → ℕ → Bool
child_in nodes states state c k = parent_of nodes k =? c && get_or states k 0 =? state

-- "The new state is occurring if a child is, else paused if a child is, else sleeping; with no child, sleeping."
unfoldable pub children_state : Nodes → List ℕ → ℕ → ℕ
children_state nodes states c =
    when some (child_in nodes states occurring c) nodes.count then occurring
    else when some (child_in nodes states paused c) nodes.count then paused
    else sleeping

-- "Only when the action is abort do the target and composites below it log aborts instead; those above log stops."
unfoldable pub aborts_at : Nodes → ℕ → ℕ → ℕ → Bool
aborts_at nodes action target c = action =? to_abort && is_below nodes target c

unfoldable pub settled_one : Nodes → ℕ → ℕ → ℕ → Run → Run
settled_one nodes action target c r =
    when is_media nodes c then r
    else node_to (aborts_at nodes action target c) c (children_state nodes r.state.nodes.states c) r

-- "composites by descending id"
unfoldable pub settled : Nodes → ℕ → ℕ → Run → Run
settled nodes action target r = descending (settled_one nodes action target) nodes.count r

-- ---- an action, and "Settling comes once after each action"

unfoldable pub performed : Document → ActionRecord → Run → Run
performed d a r =
    when a.action =? to_set then set_property a.target a.value r
    else when a.action =? to_start then started d 64 a.target r
    else all_moved d a.action a.target r

unfoldable pub acted : Document → ActionRecord → Run → Run
acted d a r = settled d.nodes a.action a.target (performed d a r)
