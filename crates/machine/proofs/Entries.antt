-- The entries of the tables while a document is loaded: each passes the tests of its record, also when later records are entered.
-- (A record is asked against its own table's earlier entries and against tables of lower kinds, and these only grow.)
use Prim.Native.Nat.{ℕ, ◌≤◌, ◌<◌}
use native.Mathlib.Omega.{arith}
use mathlib.Core.Bool.{true}
use mathlib.Core.Path.{◌≡◌}
use borrow.Author.Tests.{lt-ltb, ltb-true}
use Rattle.base.specs.Tests.{when◌then◌else◌}
use Rattle.base.specs.Loops.{same_some, each_every}
use Rattle.machine.specs.Tables.{node_at, bind_at, port_at}
use Rattle.machine.specs.Records.{parent_right, node_fault, anchor_fault, property_fault, rule_fault, simple_rule_fault, composite_rule_fault, bind_fault, port_fault, link_fault, action_fault, subject_given, target_given, is_default}
use Rattle.machine.specs.Broken.{node_obeys, anchor_obeys, property_obeys, rule_obeys, bind_obeys, port_obeys, action_obeys, link_obeys, tables_obey}
use Rattle.machine.specs.declared.Document.{Document}
use Rattle.machine.specs.declared.NodeRecord.{NodeRecord}
use Rattle.machine.specs.declared.AnchorRecord.{AnchorRecord}
use Rattle.machine.specs.declared.BindRecord.{BindRecord}
use Rattle.machine.specs.declared.PortRecord.{PortRecord}
use Rattle.machine.specs.declared.LinkRecord.{LinkRecord}
use Rattle.machine.specs.declared.ActionRecord.{ActionRecord}
use Rattle.machine.proofs.SoundTables.{NodePasses, AnchorPasses, BindPasses, PortPasses, LinkPasses, ActionPasses, Entries}

-- ---- a document with more entries

pub record Extends (d e : Document) : Type 0 where
  pub nodes : d.nodes.count ≤ e.nodes.count
  pub node : (i : ℕ) → i < d.nodes.count → node_at e.nodes i ≡ node_at d.nodes i
  pub anchors : d.anchors.count ≤ e.anchors.count
  pub properties : d.properties ≤ e.properties
  pub rules : d.rules.count ≤ e.rules.count
  pub bind : (i : ℕ) → i < d.binds.count → bind_at e.binds i ≡ bind_at d.binds i
  pub port : (i : ℕ) → i < d.ports.count → port_at e.ports i ≡ port_at d.ports i
  pub links : d.links.count ≤ e.links.count

module _ (d e : Document) (x : Extends d e) where
  pub node_more : (id : ℕ) (r : NodeRecord) → id ≤ d.nodes.count → NodePasses d.nodes id r → NodePasses e.nodes id r
  unfolding parent_right when◌then◌else◌
  node_more id r h p = grind arith

  pub anchor_more : (id : ℕ) (r : AnchorRecord) → AnchorPasses d.nodes id r → AnchorPasses e.nodes id r
  anchor_more id r p = grind arith

  pub bind_more : (id : ℕ) (r : BindRecord) → id ≤ d.binds.count → BindPasses d id r → BindPasses e id r
  bind_more id r h p =
      let same = same_some (is_default d.binds r.switch) (is_default e.binds r.switch) id in
      grind arith

  pub port_more : (id : ℕ) (r : PortRecord) → id ≤ d.ports.count → PortPasses d id r → PortPasses e id r
  port_more id r h p = grind (arith, same_some)

  pub link_more : (id : ℕ) (r : LinkRecord) → LinkPasses d id r → LinkPasses e id r
  unfolding subject_given when◌then◌else◌
  link_more id r p = grind (arith, lt-ltb, ltb-true)

  pub action_more : (id : ℕ) (r : ActionRecord) → ActionPasses d id r → ActionPasses e id r
  unfolding target_given when◌then◌else◌
  action_more id r p = grind arith

  -- the entries of d pass in e as they do in d
  pub carried : Entries d d → Entries d e
  carried h = record {
    nodes = λ n l. node_more n _ (omega arith) (h.nodes n l);
    anchors = λ a l. anchor_more a _ (h.anchors a l);
    properties = h.properties;
    rules = λ i l. let p = h.rules i l in grind arith;
    binds = λ b l. bind_more b _ (omega arith) (h.binds b l);
    ports = λ p l. port_more p _ (omega arith) (h.ports p l);
    links = λ l k. link_more l _ (h.links l k);
    actions = λ l j k i. action_more j _ (h.actions l j k i);
  }

-- ---- so the tables obey

pub entries_obey : (d : Document) → Entries d d → 0 < d.limit → 0 < d.nodes.count → tables_obey d ≡ true
unfolding tables_obey node_obeys anchor_obeys property_obeys rule_obeys bind_obeys port_obeys link_obeys action_obeys node_fault anchor_fault property_fault rule_fault simple_rule_fault composite_rule_fault bind_fault port_fault link_fault action_fault when◌then◌else◌
entries_obey d h limit root = rw (each_every (link_obeys d) d.links.count (grind (arith, each_every))) (grind (arith, each_every))
