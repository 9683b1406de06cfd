-- "Broken session" (01's term), clause by clause.
use Rattle.std.specs.Prelude.{ℕ, Bool, true, not, ◌&&◌, ◌||◌, List, [], ◌∷◌, pos, get_or, drop}
use Rattle.base.specs.Tests.{when◌then◌else◌, ◌=?◌, ◌<?◌, ◌≤?◌, equal_ints}
use Rattle.base.specs.Loops.{every}
use Rattle.machine.specs.Terms.{switch, sleeping, paused, simple_rule, composite_rule}
use Rattle.machine.specs.Tables.{parent_of, is_media, given, duration_of, node_at, anchor_at, rule_at, bind_at, port_at, link_at, action_at, action_count, Column, numbers, integers, Table, node_table, anchor_table, rule_table, bind_table, port_table, link_table, action_tables, node_event_table, anchor_event_table, property_event_table}
use Rattle.machine.specs.Records.{node_fault, anchor_fault, property_fault, rule_fault, bind_fault, port_fault, link_fault, action_fault}
use Rattle.machine.specs.Events.{node_state, node_clock, anchor_state, awake, children_state}
use Rattle.machine.specs.declared.Nodes.{Nodes}
use Rattle.machine.specs.declared.Document.{Document}
use Rattle.machine.specs.declared.RuleRecord.{RuleRecord}
use Rattle.machine.specs.declared.State.{State}
use Rattle.machine.specs.declared.Session.{Session}

-- ---- "tables that break a load rule": each entry is asked as the record that made it, against the tables as they stand.
-- (A record is checked against its own table's earlier entries and against tables of lower kinds, so this is what some order of records allows.)

unfoldable pub node_obeys : Document → ℕ → Bool
node_obeys d i = node_fault d.nodes i (node_at d.nodes i) =? 0

unfoldable pub anchor_obeys : Document → ℕ → Bool
anchor_obeys d i = anchor_fault d.nodes i (anchor_at d.anchors i) =? 0

unfoldable pub property_obeys : Document → ℕ → Bool
property_obeys d i = property_fault i =? 0

-- of a rule's fields, those that its kind does not use are entries past a table's end, too
unfoldable pub rule_unused_zero : RuleRecord → Bool
rule_unused_zero r =
    when r.kind =? simple_rule then r.operator =? 0 && r.left =? 0 && r.right =? 0
    else r.property =? 0 && r.comparator =? 0 && equal_ints r.value (pos 0)

unfoldable pub rule_obeys : Document → ℕ → Bool
rule_obeys d i =
    let r = rule_at d.rules i in
    (r.kind =? simple_rule || r.kind =? composite_rule) && rule_fault d.properties i r =? 0 && rule_unused_zero r

unfoldable pub bind_obeys : Document → ℕ → Bool
bind_obeys d i = bind_fault d i (bind_at d.binds i) =? 0

unfoldable pub port_obeys : Document → ℕ → Bool
port_obeys d i = port_fault d i (port_at d.ports i) =? 0

unfoldable pub action_obeys : Document → ℕ → ℕ → Bool
action_obeys d l j = action_fault d j (action_at d.actions l j) =? 0

unfoldable pub link_obeys : Document → ℕ → Bool
link_obeys d i = link_fault d i (link_at d.links i) =? 0 && every (action_obeys d i) (action_count d.links i)

unfoldable pub tables_obey : Document → Bool
tables_obey d =
    1 ≤? d.limit
    && 1 ≤? d.nodes.count
    && every (node_obeys d) d.nodes.count
    && every (anchor_obeys d) d.anchors.count
    && every (property_obeys d) d.properties
    && every (rule_obeys d) d.rules.count
    && every (bind_obeys d) d.binds.count
    && every (port_obeys d) d.ports.count
    && every (link_obeys d) d.links.count

-- ---- "non-zero entries past a table's end"

unfoldable pub all : {A : Type 0} → (A → Bool) → List A → Bool
all test [] = true
all test (x ∷ xs) = test x && all test xs

abbrev pub zero_from : ℕ → Column → Bool
zero_from end (numbers l) = all (λ x. x =? 0) (drop end l)
zero_from end (integers l) = all (λ x. equal_ints x (pos 0)) (drop end l)

abbrev pub ends_zero : Table → Bool
ends_zero t = all (zero_from t.count) t.columns

unfoldable pub document_ends_zero : Document → Bool
document_ends_zero d =
    ends_zero (node_table d.nodes)
    && ends_zero (anchor_table d.anchors)
    && ends_zero (rule_table d.rules)
    && ends_zero (bind_table d.binds)
    && ends_zero (port_table d.ports)
    && ends_zero (link_table d.links)
    && all ends_zero (action_tables d.links.action_counts d.actions.actions d.actions.targets d.actions.values)

unfoldable pub state_ends_zero : Document → State → Bool
state_ends_zero d s =
    ends_zero (node_event_table d.nodes.count s.nodes)
    && ends_zero (anchor_event_table d.anchors.count s.anchors)
    && ends_zero (property_event_table d.properties s.properties)

-- ---- "a state that is none of the three", "a state that breaks demand 3's composite or anchor rule",
-- ---- "a composite or sleeping media with clock above 0, an awake media with clock ≥ its non-zero duration"

-- "A composite is occurring exactly when a child is, and paused exactly when no child is occurring and one is paused."
unfoldable pub composite_right : Document → State → ℕ → Bool
composite_right d s n = is_media d.nodes n || node_state s n =? children_state d.nodes s.nodes.states n

unfoldable pub clock_right : Document → State → ℕ → Bool
clock_right d s n =
    when is_media d.nodes n && awake (node_state s n)
    then duration_of d.nodes n =? 0 || node_clock s n <? duration_of d.nodes n
    else node_clock s n =? 0

unfoldable pub node_right : Document → State → ℕ → Bool
node_right d s n = node_state s n ≤? paused && composite_right d s n && clock_right d s n

-- "An anchor is awake exactly when its media is awake and begin ≤ clock < end, and then it is in its media's state."
unfoldable pub anchor_state_in : Document → State → ℕ → ℕ
anchor_state_in d s a =
    let anchor = anchor_at d.anchors a in
    let clock = node_clock s anchor.media in
    when anchor.begin ≤? clock && clock <? anchor.end then node_state s anchor.media else sleeping

unfoldable pub anchor_right : Document → State → ℕ → Bool
anchor_right d s a = anchor_state s a =? anchor_state_in d s a

unfoldable pub states_right : Document → State → Bool
states_right d s = every (node_right d s) d.nodes.count && every (anchor_right d s) d.anchors.count

-- ---- Req 01: "a choice that is no child of its switch, or is held for a node that is no switch, is a broken session (13)"

-- of node n, the choice c; 0 is none
unfoldable pub choice_right : Nodes → ℕ → ℕ → Bool
choice_right nodes n c = c =? 0 || given nodes switch n && c <? nodes.count && parent_of nodes c =? n

-- of all places: a node that is not given is no switch
unfoldable pub choices_right : Nodes → List ℕ → Bool
choices_right nodes choices = every (λ n. choice_right nodes n (get_or choices n 0)) 64

-- ---- all of it

unfoldable pub broken : Session → Bool
broken s =
    not (tables_obey s.document
    && document_ends_zero s.document
    && state_ends_zero s.document s.state
    && states_right s.document s.state
    && choices_right s.document.nodes s.state.choices)
