-- The tables of a session: the empty session, what a table says of an id, an entry as a record, a table as its columns, and a table with one entry more.
use Rattle.std.specs.Prelude.{ℕ, ◌+◌, ◌-◌, ◌*◌, Bool, ◌&&◌, List, [], ◌∷◌, ℤ, pos, get_or, set, take, drop, replicate}
use Rattle.base.specs.Tests.{◌=?◌, ◌<?◌}
use Rattle.machine.specs.Terms.{media, sleeping}
use Rattle.machine.specs.declared.Nodes.{Nodes}
use Rattle.machine.specs.declared.Anchors.{Anchors}
use Rattle.machine.specs.declared.Rules.{Rules}
use Rattle.machine.specs.declared.Binds.{Binds}
use Rattle.machine.specs.declared.Ports.{Ports}
use Rattle.machine.specs.declared.Links.{Links}
use Rattle.machine.specs.declared.Actions.{Actions}
use Rattle.machine.specs.declared.Document.{Document}
use Rattle.machine.specs.declared.NodeEvents.{NodeEvents}
use Rattle.machine.specs.declared.AnchorEvents.{AnchorEvents}
use Rattle.machine.specs.declared.PropertyEvents.{PropertyEvents}
use Rattle.machine.specs.declared.State.{State}
use Rattle.machine.specs.declared.Session.{Session}
use Rattle.machine.specs.declared.NodeRecord.{NodeRecord}
use Rattle.machine.specs.declared.AnchorRecord.{AnchorRecord}
use Rattle.machine.specs.declared.RuleRecord.{RuleRecord}
use Rattle.machine.specs.declared.BindRecord.{BindRecord}
use Rattle.machine.specs.declared.PortRecord.{PortRecord}
use Rattle.machine.specs.declared.LinkRecord.{LinkRecord}
use Rattle.machine.specs.declared.ActionRecord.{ActionRecord}

-- ---- "the empty one: no entry in any table, limit 0, all else zero"

unfoldable pub empty_document : Document
empty_document = record {
  limit = 0;
  nodes = record { count = 0; types = replicate 64 0; parents = replicate 64 0; durations = replicate 64 0 };
  anchors = record { count = 0; media = replicate 128 0; begins = replicate 128 0; ends = replicate 128 0 };
  properties = 0;
  rules = record {
    count = 0;
    kinds = replicate 32 0;
    properties = replicate 32 0;
    comparators = replicate 32 0;
    values = replicate 32 (pos 0);
    operators = replicate 32 0;
    lefts = replicate 32 0;
    rights = replicate 32 0;
  };
  binds = record { count = 0; switches = replicate 64 0; children = replicate 64 0; rules = replicate 64 0 };
  ports = record { count = 0; contexts = replicate 64 0; children = replicate 64 0 };
  links = record {
    count = 0;
    owners = replicate 64 0;
    classes = replicate 64 0;
    subjects = replicate 64 0;
    transitions = replicate 64 0;
    guards = replicate 64 0;
    action_counts = replicate 64 0;
  };
  actions = record { actions = replicate 512 0; targets = replicate 512 0; values = replicate 512 (pos 0) };
}

-- "A new session has all sleeping, clocks and counts 0."; of choices, Req 01: "a new session has none"
unfoldable pub new_state : State
new_state = record {
  nodes = record { states = replicate 64 sleeping; clocks = replicate 64 0; counts = replicate 64 0 };
  anchors = record { states = replicate 128 sleeping; counts = replicate 128 0 };
  properties = record { values = replicate 32 (pos 0); counts = replicate 32 0 };
  choices = replicate 64 0;
}

unfoldable pub empty_session : Session
empty_session = record { document = empty_document; state = new_state }

-- ---- what the tables say of an id

abbrev pub type_of : Nodes → ℕ → ℕ
type_of nodes n = get_or nodes.types n 0

abbrev pub parent_of : Nodes → ℕ → ℕ
parent_of nodes n = get_or nodes.parents n 0

abbrev pub duration_of : Nodes → ℕ → ℕ
duration_of nodes n = get_or nodes.durations n 0

abbrev pub is_media : Nodes → ℕ → Bool
is_media nodes n = type_of nodes n =? media

-- id n is given, and to a node of this type
abbrev pub given : Nodes → ℕ → ℕ → Bool
given nodes type n = n <? nodes.count && type_of nodes n =? type

-- ---- an entry as a record

abbrev pub node_at : Nodes → ℕ → NodeRecord
node_at t i = record { node_type = type_of t i; parent = parent_of t i; duration = duration_of t i }

abbrev pub anchor_at : Anchors → ℕ → AnchorRecord
anchor_at t i = record { media = get_or t.media i 0; begin = get_or t.begins i 0; end = get_or t.ends i 0 }

abbrev pub rule_at : Rules → ℕ → RuleRecord
rule_at t i = record {
  kind = get_or t.kinds i 0;
  property = get_or t.properties i 0;
  comparator = get_or t.comparators i 0;
  value = get_or t.values i (pos 0);
  operator = get_or t.operators i 0;
  left = get_or t.lefts i 0;
  right = get_or t.rights i 0;
}

abbrev pub bind_at : Binds → ℕ → BindRecord
bind_at t i = record { switch = get_or t.switches i 0; child = get_or t.children i 0; rule = get_or t.rules i 0 }

abbrev pub port_at : Ports → ℕ → PortRecord
port_at t i = record { context = get_or t.contexts i 0; child = get_or t.children i 0 }

abbrev pub link_at : Links → ℕ → LinkRecord
link_at t i = record {
  owner = get_or t.owners i 0;
  class = get_or t.classes i 0;
  subject = get_or t.subjects i 0;
  transition = get_or t.transitions i 0;
  guard = get_or t.guards i 0;
}

-- how many actions link l has, and its action j
abbrev pub action_count : Links → ℕ → ℕ
action_count t l = get_or t.action_counts l 0

abbrev pub action_at : Actions → ℕ → ℕ → ActionRecord
action_at t l j = record {
  action = get_or t.actions (8 * l + j) 0;
  target = get_or t.targets (8 * l + j) 0;
  value = get_or t.values (8 * l + j) (pos 0);
}

-- ---- a table as its columns: so many entries, in so many places

-- a column is one of numbers, or of signed numbers
pub data Column : Type 0 where
  numbers : List ℕ → Column
  integers : List ℤ → Column

pub record Table : Type 0 where
  pub count : ℕ
  pub places : ℕ
  pub columns : List Column

abbrev pub node_table : Nodes → Table
node_table t = record { count = t.count; places = 64; columns = numbers t.types ∷ numbers t.parents ∷ numbers t.durations ∷ [] }

abbrev pub anchor_table : Anchors → Table
anchor_table t = record { count = t.count; places = 128; columns = numbers t.media ∷ numbers t.begins ∷ numbers t.ends ∷ [] }

abbrev pub rule_table : Rules → Table
rule_table t = record {
  count = t.count;
  places = 32;
  columns = numbers t.kinds ∷ numbers t.properties ∷ numbers t.comparators ∷ integers t.values
      ∷ numbers t.operators ∷ numbers t.lefts ∷ numbers t.rights ∷ [];
}

abbrev pub bind_table : Binds → Table
bind_table t = record { count = t.count; places = 64; columns = numbers t.switches ∷ numbers t.children ∷ numbers t.rules ∷ [] }

abbrev pub port_table : Ports → Table
port_table t = record { count = t.count; places = 64; columns = numbers t.contexts ∷ numbers t.children ∷ [] }

abbrev pub link_table : Links → Table
link_table t = record {
  count = t.count;
  places = 64;
  columns = numbers t.owners ∷ numbers t.classes ∷ numbers t.subjects
      ∷ numbers t.transitions ∷ numbers t.guards ∷ numbers t.action_counts ∷ [];
}

-- the actions of each link, in 8 places of their own: from the number of actions of each link and the columns of all actions
abbrev pub action_tables : List ℕ → List ℕ → List ℕ → List ℤ → List Table
action_tables [] actions targets values = []
action_tables (n ∷ counts) actions targets values =
    record { count = n; places = 8; columns = numbers (take 8 actions) ∷ numbers (take 8 targets) ∷ integers (take 8 values) ∷ [] }
    ∷ action_tables counts (drop 8 actions) (drop 8 targets) (drop 8 values)

-- the events of so many nodes, anchors and properties
abbrev pub node_event_table : ℕ → NodeEvents → Table
node_event_table nodes t = record { count = nodes; places = 64; columns = numbers t.states ∷ numbers t.clocks ∷ numbers t.counts ∷ [] }

abbrev pub anchor_event_table : ℕ → AnchorEvents → Table
anchor_event_table anchors t = record { count = anchors; places = 128; columns = numbers t.states ∷ numbers t.counts ∷ [] }

abbrev pub property_event_table : ℕ → PropertyEvents → Table
property_event_table properties t = record { count = properties; places = 32; columns = integers t.values ∷ numbers t.counts ∷ [] }

-- ---- one entry more: "Ids are one byte, given from 0 in order of appearance within each table."

abbrev pub more_nodes : NodeRecord → Nodes → Nodes
more_nodes r t = record {
  count = t.count + 1;
  types = set t.types t.count r.node_type;
  parents = set t.parents t.count r.parent;
  durations = set t.durations t.count r.duration;
}

abbrev pub more_anchors : AnchorRecord → Anchors → Anchors
more_anchors r t = record {
  count = t.count + 1;
  media = set t.media t.count r.media;
  begins = set t.begins t.count r.begin;
  ends = set t.ends t.count r.end;
}

abbrev pub more_rules : RuleRecord → Rules → Rules
more_rules r t = record {
  count = t.count + 1;
  kinds = set t.kinds t.count r.kind;
  properties = set t.properties t.count r.property;
  comparators = set t.comparators t.count r.comparator;
  values = set t.values t.count r.value;
  operators = set t.operators t.count r.operator;
  lefts = set t.lefts t.count r.left;
  rights = set t.rights t.count r.right;
}

abbrev pub more_binds : BindRecord → Binds → Binds
more_binds r t = record {
  count = t.count + 1;
  switches = set t.switches t.count r.switch;
  children = set t.children t.count r.child;
  rules = set t.rules t.count r.rule;
}

abbrev pub more_ports : PortRecord → Ports → Ports
more_ports r t = record {
  count = t.count + 1;
  contexts = set t.contexts t.count r.context;
  children = set t.children t.count r.child;
}

-- a new link has no action yet
abbrev pub more_links : LinkRecord → Links → Links
more_links r t = record {
  count = t.count + 1;
  owners = set t.owners t.count r.owner;
  classes = set t.classes t.count r.class;
  subjects = set t.subjects t.count r.subject;
  transitions = set t.transitions t.count r.transition;
  guards = set t.guards t.count r.guard;
  action_counts = t.action_counts;
}

-- an action "belongs to the latest link"
abbrev pub latest : Links → ℕ
latest t = t.count - 1

abbrev pub more_action_counts : Links → Links
more_action_counts t = record {
  count = t.count;
  owners = t.owners;
  classes = t.classes;
  subjects = t.subjects;
  transitions = t.transitions;
  guards = t.guards;
  action_counts = set t.action_counts (latest t) (action_count t (latest t) + 1);
}

abbrev pub more_actions : ℕ → ActionRecord → Actions → Actions
more_actions place r t = record {
  actions = set t.actions place r.action;
  targets = set t.targets place r.target;
  values = set t.values place r.value;
}

-- ---- a session with another table

abbrev pub with_document : Document → Session → Session
with_document d s = record { document = d; state = s.state }

-- the document of these fields
abbrev pub document_of : ℕ → Nodes → Anchors → ℕ → Rules → Binds → Ports → Links → Actions → Document
document_of limit nodes anchors properties rules binds ports links actions = record {
  limit = limit;
  nodes = nodes;
  anchors = anchors;
  properties = properties;
  rules = rules;
  binds = binds;
  ports = ports;
  links = links;
  actions = actions;
}

abbrev pub with_limit : ℕ → Document → Document
with_limit t d = document_of t d.nodes d.anchors d.properties d.rules d.binds d.ports d.links d.actions

abbrev pub with_nodes : Nodes → Document → Document
with_nodes t d = document_of d.limit t d.anchors d.properties d.rules d.binds d.ports d.links d.actions

abbrev pub with_anchors : Anchors → Document → Document
with_anchors t d = document_of d.limit d.nodes t d.properties d.rules d.binds d.ports d.links d.actions

abbrev pub with_properties : ℕ → Document → Document
with_properties t d = document_of d.limit d.nodes d.anchors t d.rules d.binds d.ports d.links d.actions

abbrev pub with_rules : Rules → Document → Document
with_rules t d = document_of d.limit d.nodes d.anchors d.properties t d.binds d.ports d.links d.actions

abbrev pub with_binds : Binds → Document → Document
with_binds t d = document_of d.limit d.nodes d.anchors d.properties d.rules t d.ports d.links d.actions

abbrev pub with_ports : Ports → Document → Document
with_ports t d = document_of d.limit d.nodes d.anchors d.properties d.rules d.binds t d.links d.actions

abbrev pub with_links : Links → Actions → Document → Document
with_links t a d = document_of d.limit d.nodes d.anchors d.properties d.rules d.binds d.ports t a

-- ---- a state with other events, or other choices

abbrev pub with_node_events : NodeEvents → State → State
with_node_events t s = record { nodes = t; anchors = s.anchors; properties = s.properties; choices = s.choices }

abbrev pub with_anchor_events : AnchorEvents → State → State
with_anchor_events t s = record { nodes = s.nodes; anchors = t; properties = s.properties; choices = s.choices }

abbrev pub with_property_events : PropertyEvents → State → State
with_property_events t s = record { nodes = s.nodes; anchors = s.anchors; properties = t; choices = s.choices }

abbrev pub with_choices : List ℕ → State → State
with_choices choices s = record { nodes = s.nodes; anchors = s.anchors; properties = s.properties; choices = choices }

abbrev pub with_values : List ℤ → State → State
with_values values s = with_property_events (record { values = values; counts = s.properties.counts }) s
