-- "Document records": for each kind its fields, what makes a record of it faulty, and the entry that it makes.
-- A fault is the number of the first refusal that applies, in the order 4, 5, 6, 7; 0 is none. Each fault is asked of the record as entry
-- `id` of its table, so that loading (the next id) and the check of a session (each id) share one rule.
use Rattle.std.specs.Prelude.{ℕ, ◌+◌, ◌*◌, Bool, true, false, not, ◌&&◌, ◌||◌, List, [], ◌∷◌, ℤ, pos, get_or, set}
use Rattle.base.specs.Tests.{when◌then◌else◌, ◌=?◌, ◌<?◌, ◌≤?◌, equal_ints}
use Rattle.base.specs.Loops.{some}
use Rattle.machine.specs.Terms.{context, media, switch, to_start, to_set, starts, stops, resumes, of_node, of_anchor, of_property, of_key, simple_rule, composite_rule, no_id}
use Rattle.machine.specs.Fields.{byte, u16, i32}
use Rattle.machine.specs.Tables.{type_of, parent_of, duration_of, given, bind_at, port_at, latest, action_count, with_document, with_limit, with_nodes, with_anchors, with_properties, with_rules, with_binds, with_ports, with_links, with_values, more_nodes, more_anchors, more_rules, more_binds, more_ports, more_links, more_action_counts, more_actions}
use Rattle.machine.specs.declared.Nodes.{Nodes}
use Rattle.machine.specs.declared.Binds.{Binds}
use Rattle.machine.specs.declared.Ports.{Ports}
use Rattle.machine.specs.declared.Document.{Document}
use Rattle.machine.specs.declared.Session.{Session}
use Rattle.machine.specs.declared.NodeRecord.{NodeRecord}
use Rattle.machine.specs.declared.AnchorRecord.{AnchorRecord}
use Rattle.machine.specs.declared.PropertyRecord.{PropertyRecord}
use Rattle.machine.specs.declared.RuleRecord.{RuleRecord}
use Rattle.machine.specs.declared.BindRecord.{BindRecord}
use Rattle.machine.specs.declared.PortRecord.{PortRecord}
use Rattle.machine.specs.declared.LinkRecord.{LinkRecord}
use Rattle.machine.specs.declared.ActionRecord.{ActionRecord}
use Rattle.machine.specs.declared.Record.{Record}
use Rattle.machine.specs.declared.Record.TheVariants.{Head, Node, Anchor, Property, Rule, Bind, Port, Link, Action}

-- "one byte of kind, then a body whose length the kind fixes"
abbrev pub body_lengths : List ℕ
body_lengths = 1 ∷ 4 ∷ 5 ∷ 4 ∷ 6 ∷ 3 ∷ 3 ∷ 2 ∷ 5 ∷ 6 ∷ []

abbrev pub greatest_kind : ℕ
greatest_kind = 9

abbrev pub body_length : ℕ → ℕ
body_length kind = get_or body_lengths kind 0

-- ---- "0 head, 1 byte: firing limit 1 to 255. First record, and only there."

abbrev pub limit_of : List ℕ → ℕ
limit_of body = byte body 0

-- ---- "1 node, 4 bytes: type (0 context, 1 media, 2 switch), parent, duration u16 in ticks. At most 64."

abbrev pub node_of : List ℕ → NodeRecord
node_of body = record { node_type = byte body 0; parent = byte body 1; duration = u16 body 2 }

-- "Duration 0 means no natural end; only media may have another."
-- "Node 0 is a context with parent 255" ("node 0's type and parent fall under 5")
unfoldable pub node_fields_right : ℕ → NodeRecord → Bool
node_fields_right id r =
    r.node_type ≤? switch
    && (r.node_type =? media || r.duration =? 0)
    && (when id =? 0 then r.node_type =? context && r.parent =? no_id else true)

-- "another node's parent is an earlier context or switch"
unfoldable pub parent_right : Nodes → ℕ → NodeRecord → Bool
parent_right nodes id r = when id =? 0 then true else r.parent <? id && not (type_of nodes r.parent =? media)

unfoldable pub node_fault : Nodes → ℕ → NodeRecord → ℕ
node_fault nodes id r =
    when 64 ≤? id then 4
    else when not (node_fields_right id r) then 5
    else when not (parent_right nodes id r) then 6
    else 0

-- ---- "2 anchor, 5 bytes: media, begin u16, end u16, begin < end, and end ≤ duration unless that is 0. At most 128 anchors in a document."

abbrev pub anchor_of : List ℕ → AnchorRecord
anchor_of body = record { media = byte body 0; begin = u16 body 1; end = u16 body 3 }

unfoldable pub anchor_fault : Nodes → ℕ → AnchorRecord → ℕ
anchor_fault nodes id r =
    when 128 ≤? id then 4
    else when not (r.begin <? r.end) then 5
    else when not (given nodes media r.media) then 6
    else when not (duration_of nodes r.media =? 0 || r.end ≤? duration_of nodes r.media) then 7
    else 0

-- ---- "3 property, 4 bytes: first value i32. At most 32."

abbrev pub property_of : List ℕ → PropertyRecord
property_of body = record { value = i32 body 0 }

unfoldable pub property_fault : ℕ → ℕ
property_fault id = when 32 ≤? id then 4 else 0

-- ---- "4 rule, 6 bytes: property, comparator (0 eq, 1 ne, 2 lt, 3 gt, 4 lte, 5 gte), value i32"
-- ---- "5 composite rule, 3 bytes: operator (0 and, 1 or), two earlier rules of either kind. Kinds 4 and 5 share ids, at most 32."

abbrev pub simple_rule_of : List ℕ → RuleRecord
simple_rule_of body =
    record { kind = simple_rule; property = byte body 0; comparator = byte body 1; value = i32 body 2; operator = 0; left = 0; right = 0 }

abbrev pub composite_rule_of : List ℕ → RuleRecord
composite_rule_of body =
    record { kind = composite_rule; property = 0; comparator = 0; value = pos 0; operator = byte body 0; left = byte body 1; right = byte body 2 }

unfoldable pub simple_rule_fault : ℕ → RuleRecord → ℕ
simple_rule_fault properties r =
    when 5 <? r.comparator then 5
    else when not (r.property <? properties) then 6
    else 0

unfoldable pub composite_rule_fault : ℕ → RuleRecord → ℕ
composite_rule_fault id r =
    when 1 <? r.operator then 5
    else when not (r.left <? id && r.right <? id) then 6
    else 0

unfoldable pub rule_fault : ℕ → ℕ → RuleRecord → ℕ
rule_fault properties id r =
    when 32 ≤? id then 4
    else when r.kind =? simple_rule then simple_rule_fault properties r
    else composite_rule_fault id r

-- ---- "6 bind, 3 bytes: switch, its child, rule; rule 255 marks the default, one a switch. At most 64."

abbrev pub bind_of : List ℕ → BindRecord
bind_of body = record { switch = byte body 0; child = byte body 1; rule = byte body 2 }

-- bind b is the default of switch n
abbrev pub is_default : Binds → ℕ → ℕ → Bool
is_default binds n b = (bind_at binds b).switch =? n && (bind_at binds b).rule =? no_id

unfoldable pub bind_fault : Document → ℕ → BindRecord → ℕ
bind_fault d id r =
    when 64 ≤? id then 4
    else when not (given d.nodes switch r.switch && r.child <? d.nodes.count && (r.rule =? no_id || r.rule <? d.rules.count)) then 6
    else when not (parent_of d.nodes r.child =? r.switch) then 7
    else when r.rule =? no_id && some (is_default d.binds r.switch) id then 7
    else 0

-- ---- "7 port, 2 bytes: context, its child. At most 64, no pair twice."

abbrev pub port_of : List ℕ → PortRecord
port_of body = record { context = byte body 0; child = byte body 1 }

abbrev pub is_port : Ports → PortRecord → ℕ → Bool
is_port ports r p = (port_at ports p).context =? r.context && (port_at ports p).child =? r.child

unfoldable pub port_fault : Document → ℕ → PortRecord → ℕ
port_fault d id r =
    when 64 ≤? id then 4
    else when not (given d.nodes context r.context && r.child <? d.nodes.count) then 6
    else when not (parent_of d.nodes r.child =? r.context) then 7
    else when some (is_port d.ports r) id then 7
    else 0

-- ---- "8 link, 5 bytes: owner (a context), class, subject, transition, guard rule (255: none). At most 64."

abbrev pub link_of : List ℕ → LinkRecord
link_of body = record { owner = byte body 0; class = byte body 1; subject = byte body 2; transition = byte body 3; guard = byte body 4 }

-- "A link may name 1 to 5 for classes 1 and 2, 1 or 2 for class 3, 1 for class 4."
unfoldable pub transition_right : ℕ → ℕ → Bool
transition_right class transition =
    starts ≤? transition
    && (when class =? of_node || class =? of_anchor then transition ≤? resumes
    else when class =? of_property then transition ≤? stops
    else when class =? of_key then transition ≤? starts
    else false)

-- an event's subject is given: a node, an anchor, a property; of a key "any byte"
unfoldable pub subject_given : Document → ℕ → ℕ → Bool
subject_given d class id =
    when class =? of_node then id <? d.nodes.count
    else when class =? of_anchor then id <? d.anchors.count
    else when class =? of_property then id <? d.properties
    else true

unfoldable pub link_fault : Document → ℕ → LinkRecord → ℕ
link_fault d id r =
    when 64 ≤? id then 4
    else when not (transition_right r.class r.transition) then 5
    else when not (given d.nodes context r.owner && subject_given d r.class r.subject && (r.guard =? no_id || r.guard <? d.rules.count)) then 6
    else 0

-- ---- "9 action, 6 bytes: action, target, value i32; belongs to the latest link, at most 8 each."

abbrev pub action_of : List ℕ → ActionRecord
action_of body = record { action = byte body 0; target = byte body 1; value = i32 body 2 }

-- "Actions: 1 start, 2 stop, 3 abort, 4 pause, 5 resume a node, value 0; 6 set a property." A command is under the same rule.
unfoldable pub action_right : ℕ → ℤ → Bool
action_right action value = to_start ≤? action && action ≤? to_set && (action =? to_set || equal_ints value (pos 0))

unfoldable pub target_given : Document → ℕ → ℕ → Bool
target_given d action target = when action =? to_set then target <? d.properties else target <? d.nodes.count

-- action `id` of a link; "an action before any link" is 6
unfoldable pub action_fault : Document → ℕ → ActionRecord → ℕ
action_fault d id r =
    when 8 ≤? id then 4
    else when not (action_right r.action r.value) then 5
    else when not (1 ≤? d.links.count && target_given d r.action r.target) then 6
    else 0

-- ---- a record of any kind

-- the record of a kind and a body
unfoldable pub record_of : ℕ → List ℕ → Record
record_of kind body =
    when kind =? 0 then Head (limit_of body)
    else when kind =? 1 then Node (node_of body)
    else when kind =? 2 then Anchor (anchor_of body)
    else when kind =? 3 then Property (property_of body)
    else when kind =? simple_rule then Rule (simple_rule_of body)
    else when kind =? composite_rule then Rule (composite_rule_of body)
    else when kind =? 6 then Bind (bind_of body)
    else when kind =? 7 then Port (port_of body)
    else when kind =? 8 then Link (link_of body)
    else Action (action_of body)

-- its fault, as the next entry of its table; a head has none
abbrev pub record_fault : Document → Record → ℕ
record_fault d (Head limit) = 0
record_fault d (Node r) = node_fault d.nodes d.nodes.count r
record_fault d (Anchor r) = anchor_fault d.nodes d.anchors.count r
record_fault d (Property r) = property_fault d.properties
record_fault d (Rule r) = rule_fault d.properties d.rules.count r
record_fault d (Bind r) = bind_fault d d.binds.count r
record_fault d (Port r) = port_fault d d.ports.count r
record_fault d (Link r) = link_fault d d.links.count r
record_fault d (Action r) = action_fault d (action_count d.links (latest d.links)) r

-- the first value of a property stands among the values that change
abbrev pub with_property : ℤ → Session → Session
with_property value s = record {
  document = with_properties (s.document.properties + 1) s.document;
  state = with_values (set s.state.properties.values s.document.properties value) s.state;
}

abbrev pub with_action : ActionRecord → Document → Document
with_action r d =
    with_links (more_action_counts d.links) (more_actions (8 * latest d.links + action_count d.links (latest d.links)) r d.actions) d

-- the session with its entry
abbrev pub entered : Record → Session → Session
entered (Head limit) s = with_document (with_limit limit s.document) s
entered (Node r) s = with_document (with_nodes (more_nodes r s.document.nodes) s.document) s
entered (Anchor r) s = with_document (with_anchors (more_anchors r s.document.anchors) s.document) s
entered (Property r) s = with_property r.value s
entered (Rule r) s = with_document (with_rules (more_rules r s.document.rules) s.document) s
entered (Bind r) s = with_document (with_binds (more_binds r s.document.binds) s.document) s
entered (Port r) s = with_document (with_ports (more_ports r s.document.ports) s.document) s
entered (Link r) s = with_document (with_links (more_links r s.document.links) s.document.actions s.document) s
entered (Action r) s = with_document (with_action r s.document) s
