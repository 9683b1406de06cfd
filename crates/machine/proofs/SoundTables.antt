-- What is known of tables that obey the load rules. Each rule gives its tests, each record of facts is put together of these.
use Prim.Native.Nat.{ℕ, ◌<◌, ◌≤◌}
use native.Mathlib.Omega.{arith}
use mathlib.Core.Bool.{true, false, ◌&&◌, ◌||◌}
use mathlib.Core.List.{List}
use mathlib.Core.Path.{◌≡◌, refl}
use lib.IntN.{ℤ}
use borrow.Author.Tests.{eqb-true, eq-eqb, ne_eqb, ltb-true, leb-true, not-true}
use Rattle.std.proofs.lemmas.Bool.Decides.{nat_tests}
use Rattle.base.specs.Tests.{when◌then◌else◌, ◌=?◌, ◌<?◌, ◌≤?◌, both_pass}
use Rattle.base.specs.Loops.{every_each, first_found}
use Rattle.machine.specs.Terms.{context, media, switch, simple_rule, composite_rule, no_id}
use Rattle.machine.specs.Tables.{type_of, parent_of, duration_of, is_media, given, node_at, anchor_at, rule_at, bind_at, port_at, link_at, action_count, action_at}
use Rattle.machine.specs.Records.{node_fields_right, parent_right, node_fault, anchor_fault, property_fault, simple_rule_fault, composite_rule_fault, rule_fault, bind_fault, port_fault, link_fault, action_right, target_given, action_fault, subject_given, transition_right, is_default, is_port}
use Rattle.base.specs.Loops.{some}
use Rattle.machine.specs.Events.{bind_holds, found_bind}
use Rattle.machine.specs.Broken.{node_obeys, anchor_obeys, property_obeys, rule_obeys, bind_obeys, port_obeys, action_obeys, link_obeys, tables_obey, rule_unused_zero, choice_right}
use Rattle.machine.specs.Sound.{SoundNodes, Applicable, Sound}
use Rattle.machine.specs.declared.Nodes.{Nodes}
use Rattle.machine.specs.declared.Document.{Document}
use Rattle.machine.specs.declared.NodeRecord.{NodeRecord}
use Rattle.machine.specs.declared.AnchorRecord.{AnchorRecord}
use Rattle.machine.specs.declared.RuleRecord.{RuleRecord}
use Rattle.machine.specs.declared.BindRecord.{BindRecord}
use Rattle.machine.specs.declared.PortRecord.{PortRecord}
use Rattle.machine.specs.declared.LinkRecord.{LinkRecord}
use Rattle.machine.specs.declared.ActionRecord.{ActionRecord}

-- ---- a record without fault, test by test

pub record NodePasses (nodes : Nodes) (id : ℕ) (r : NodeRecord) : Type 0 where
  pub few : 64 ≤? id ≡ false
  pub fields : node_fields_right id r ≡ true
  pub parent : parent_right nodes id r ≡ true

pub node_passes : (nodes : Nodes) (id : ℕ) (r : NodeRecord) → node_fault nodes id r ≡ 0 → NodePasses nodes id r
unfolding node_fault when◌then◌else◌
node_passes nodes id r e = grind arith

pub record AnchorPasses (nodes : Nodes) (id : ℕ) (r : AnchorRecord) : Type 0 where
  pub few : 128 ≤? id ≡ false
  pub span : r.begin <? r.end ≡ true
  pub owner : given nodes media r.media ≡ true
  pub within : (duration_of nodes r.media =? 0 || r.end ≤? duration_of nodes r.media) ≡ true

pub anchor_passes : (nodes : Nodes) (id : ℕ) (r : AnchorRecord) → anchor_fault nodes id r ≡ 0 → AnchorPasses nodes id r
unfolding anchor_fault when◌then◌else◌
anchor_passes nodes id r e = grind arith

pub property_passes : (id : ℕ) → property_fault id ≡ 0 → 32 ≤? id ≡ false
unfolding property_fault when◌then◌else◌
property_passes id e = grind arith

pub record RulePasses (properties id : ℕ) (r : RuleRecord) : Type 0 where
  pub few : 32 ≤? id ≡ false
  pub simple : r.kind =? simple_rule ≡ true → (5 <? r.comparator ≡ false) × (r.property <? properties ≡ true)
  pub composite : r.kind =? simple_rule ≡ false → (1 <? r.operator ≡ false) × (r.left <? id && r.right <? id ≡ true)

pub rule_passes : (properties id : ℕ) (r : RuleRecord) → rule_fault properties id r ≡ 0 → RulePasses properties id r
unfolding rule_fault simple_rule_fault composite_rule_fault when◌then◌else◌
rule_passes properties id r e = grind arith

pub record BindPasses (d : Document) (id : ℕ) (r : BindRecord) : Type 0 where
  pub few : 64 ≤? id ≡ false
  pub ids : given d.nodes switch r.switch && r.child <? d.nodes.count && (r.rule =? no_id || r.rule <? d.rules.count) ≡ true
  pub child : parent_of d.nodes r.child =? r.switch ≡ true
  pub default : r.rule =? no_id && some (is_default d.binds r.switch) id ≡ false

pub bind_passes : (d : Document) (id : ℕ) (r : BindRecord) → bind_fault d id r ≡ 0 → BindPasses d id r
unfolding bind_fault when◌then◌else◌
bind_passes d id r e = grind arith

pub record PortPasses (d : Document) (id : ℕ) (r : PortRecord) : Type 0 where
  pub few : 64 ≤? id ≡ false
  pub ids : given d.nodes context r.context && r.child <? d.nodes.count ≡ true
  pub child : parent_of d.nodes r.child =? r.context ≡ true
  pub once : some (is_port d.ports r) id ≡ false

pub port_passes : (d : Document) (id : ℕ) (r : PortRecord) → port_fault d id r ≡ 0 → PortPasses d id r
unfolding port_fault when◌then◌else◌
port_passes d id r e = grind arith

pub record LinkPasses (d : Document) (id : ℕ) (r : LinkRecord) : Type 0 where
  pub few : 64 ≤? id ≡ false
  pub fields : transition_right r.class r.transition ≡ true
  pub ids : given d.nodes context r.owner && subject_given d r.class r.subject && (r.guard =? no_id || r.guard <? d.rules.count) ≡ true

pub link_passes : (d : Document) (id : ℕ) (r : LinkRecord) → link_fault d id r ≡ 0 → LinkPasses d id r
unfolding link_fault when◌then◌else◌
link_passes d id r e = grind arith

pub record ActionPasses (d : Document) (id : ℕ) (r : ActionRecord) : Type 0 where
  pub few : 8 ≤? id ≡ false
  pub fields : action_right r.action r.value ≡ true
  pub ids : 1 ≤? d.links.count && target_given d r.action r.target ≡ true

pub action_passes : (d : Document) (id : ℕ) (r : ActionRecord) → action_fault d id r ≡ 0 → ActionPasses d id r
unfolding action_fault when◌then◌else◌
action_passes d id r e = grind arith

-- ---- tables that obey: the entries of d pass, asked against the tables of e

pub record RuleEntry (properties id : ℕ) (r : RuleRecord) : Type 0 where
  pub passes : RulePasses properties id r
  pub kind : (r.kind =? simple_rule || r.kind =? composite_rule) ≡ true
  pub unused : rule_unused_zero r ≡ true

pub record Entries (d e : Document) : Type 0 where
  pub nodes : (n : ℕ) → n < d.nodes.count → NodePasses e.nodes n (node_at d.nodes n)
  pub anchors : (a : ℕ) → a < d.anchors.count → AnchorPasses e.nodes a (anchor_at d.anchors a)
  pub properties : d.properties ≤ 32
  pub rules : (i : ℕ) → i < d.rules.count → RuleEntry e.properties i (rule_at d.rules i)
  pub binds : (b : ℕ) → b < d.binds.count → BindPasses e b (bind_at d.binds b)
  pub ports : (p : ℕ) → p < d.ports.count → PortPasses e p (port_at d.ports p)
  pub links : (l : ℕ) → l < d.links.count → LinkPasses e l (link_at d.links l)
  pub actions : (l j : ℕ) → l < d.links.count → j < action_count d.links l → ActionPasses e j (action_at d.actions l j)

-- a table none of whose ids reaches the most that it holds
few : (n most : ℕ) → ((i : ℕ) → i < n → most ≤? i ≡ false) → n ≤ most
few n most h = grind (arith, nat_tests)

rule_obeys_lem : (d : Document) (i : ℕ) → rule_obeys d i ≡ true → RuleEntry d.properties i (rule_at d.rules i)
unfolding rule_obeys
rule_obeys_lem d i e = grind (arith, nat_tests, rule_passes)

link_obeys_lem : (d : Document) (l : ℕ) → link_obeys d l ≡ true
    → LinkPasses d l (link_at d.links l) × ((j : ℕ) → j < action_count d.links l → ActionPasses d j (action_at d.actions l j))
unfolding link_obeys action_obeys
link_obeys_lem d l e = grind (arith, nat_tests, link_passes, action_passes, every_each (action_obeys d l) (action_count d.links l))

pub record Obeyed (d : Document) : Type 0 where
  pub limit : 0 < d.limit
  pub root : 0 < d.nodes.count
  pub entries : Entries d d

pub obeyed : (d : Document) → tables_obey d ≡ true → Obeyed d
unfolding tables_obey node_obeys anchor_obeys property_obeys bind_obeys port_obeys
obeyed d e =
    let links = both_pass _ _ e in
    let ports = both_pass _ _ links.0 in
    let binds = both_pass _ _ ports.0 in
    let rules = both_pass _ _ binds.0 in
    let properties = both_pass _ _ rules.0 in
    let anchors = both_pass _ _ properties.0 in
    let nodes = both_pass _ _ anchors.0 in
    let least = both_pass _ _ nodes.0 in
    let link : (l : ℕ) → l < d.links.count → _ = λ l h. link_obeys_lem d l (every_each _ _ links.1 l h) in
    record {
      limit = leb-true _ _ least.0;
      root = leb-true _ _ least.1;
      entries = record {
        nodes = search (node_passes, eqb-true, every_each _ _ nodes.1);
        anchors = search (anchor_passes, eqb-true, every_each _ _ anchors.1);
        properties = search (few, property_passes, eqb-true, every_each _ _ properties.1);
        rules = search (rule_obeys_lem, every_each _ _ rules.1);
        binds = search (bind_passes, eqb-true, every_each _ _ binds.1);
        ports = search (port_passes, eqb-true, every_each _ _ ports.1);
        links = λ l h. (link l h).0;
        actions = λ l j h k. (link l h).1 j k;
      };
    }

-- ---- facts on numbers

pub given_type : (nodes : Nodes) (type n : ℕ) → given nodes type n ≡ true → (n < nodes.count) × (type_of nodes n ≡ type)
given_type nodes type n e = grind (arith, nat_tests)

-- a child's parent is another node, so it is earlier; node 0 has none
pub child_later : {nodes : Nodes} → SoundNodes nodes → {k c : ℕ} → k < nodes.count → c < nodes.count → parent_of nodes k ≡ c → c < k
child_later {nodes} s {k} {c} l h e = grind (arith, s.earlier k)

-- what the tests of an entry say
record NodeFacts (nodes : Nodes) (n : ℕ) : Type 0 where
  type : type_of nodes n ≤ switch
  endless : is_media nodes n ≡ false → duration_of nodes n ≡ 0
  root : n ≡ 0 → parent_of nodes n ≡ no_id

node_facts : (nodes : Nodes) (n : ℕ) → node_fields_right n (node_at nodes n) ≡ true → NodeFacts nodes n
unfolding node_fields_right when◌then◌else◌
node_facts nodes n e = grind (arith, nat_tests)

record BindFacts (d : Document) (r : BindRecord) : Type 0 where
  later : r.switch < r.child
  child : r.child < d.nodes.count
  rule : (r.rule ≡ no_id → ⊥) → r.rule < d.rules.count
  choice : choice_right d.nodes r.switch r.child ≡ true

bind_facts : (d : Document) (id : ℕ) (r : BindRecord) → SoundNodes d.nodes → BindPasses d id r → BindFacts d r
unfolding choice_right
bind_facts d id r s p = grind (arith, nat_tests, child_later s {k = r.child} {c = r.switch})

port_facts : (d : Document) (id : ℕ) (r : PortRecord) → SoundNodes d.nodes → PortPasses d id r → (r.context < r.child) × (r.child < d.nodes.count)
port_facts d id r s p = grind (arith, nat_tests, child_later s {k = r.child} {c = r.context})

link_facts : (d : Document) (id : ℕ) (r : LinkRecord) → LinkPasses d id r → (r.owner < d.nodes.count) × ((r.guard ≡ no_id → ⊥) → r.guard < d.rules.count)
link_facts d id r p = grind (arith, nat_tests)

-- an action of a link, or of a command, that passes its two tests
pub applicable : (d : Document) (a : ActionRecord) → action_right a.action a.value ≡ true → target_given d a.action a.target ≡ true → Applicable d a
unfolding action_right target_given when◌then◌else◌
applicable d a right given = grind (arith, nat_tests)

-- the bind that a switch finds is one of its own
pub bind_own : (d : Document) (values : List ℤ) (n b : ℕ) → b ≡ found_bind d.binds d.rules values n → b < d.binds.count → (bind_at d.binds b).switch ≡ n
unfolding found_bind when◌then◌else◌ bind_holds
bind_own d values n b e h = grind (arith, nat_tests, first_found)

-- a node's parent is an earlier composite
parent_of_lem : (d : Document) (o : Obeyed d) (n : ℕ) → 0 < n → n < d.nodes.count → (parent_of d.nodes n < n) × (is_media d.nodes (parent_of d.nodes n) ≡ false)
unfolding parent_right when◌then◌else◌
parent_of_lem d o n z h =
    let p = both_pass _ _ (rw (ne_eqb n 0 (λ e. omega arith)) at (o.entries.nodes n h).parent) in
    (ltb-true _ _ p.0, not-true _ p.1)

pub sound : (d : Document) → tables_obey d ≡ true → Sound d
sound d e =
    let o = obeyed d e in
    let t = o.entries in
    let node : (n : ℕ) → n < d.nodes.count → NodeFacts d.nodes n = λ n h. node_facts d.nodes n (t.nodes n h).fields in
    let nodes : SoundNodes d.nodes
    = record {
      few = few d.nodes.count 64 (λ n h. (t.nodes n h).few);
      root = o.root;
      types = λ n h. (node n h).type;
      earlier = λ n z h. (parent_of_lem d o n z h).0;
      composite = λ n z h. (parent_of_lem d o n z h).1;
      none = (node 0 o.root).root refl;
      endless = λ n h. (node n h).endless;
    } in
    let bind : (b : ℕ) → b < d.binds.count → BindFacts d (bind_at d.binds b) = λ b h. bind_facts d b _ nodes (t.binds b h) in
    record {
      limit = o.limit;
      nodes = nodes;
      anchors = few d.anchors.count 128 (λ a h. (t.anchors a h).few);
      anchor_media = λ a h. ltb-true _ _ (both_pass _ _ (t.anchors a h).owner).0;
      anchor_type = λ a h. (both_pass _ _ (t.anchors a h).owner).1;
      anchor_span = λ a h. ltb-true _ _ (t.anchors a h).span;
      anchor_within = λ a h z. let p = (t.anchors a h).within in grind (arith, nat_tests);
      properties = t.properties;
      rules = record {
        few = few d.rules.count 32 (λ i h. (t.rules i h).passes.few);
        property = λ i h k. ltb-true _ _ ((t.rules i h).passes.simple (eq-eqb _ _ k)).1;
        left = λ i h k. ltb-true _ _ (both_pass _ _ ((t.rules i h).passes.composite (ne_eqb _ _ k)).1).0;
        right = λ i h k. ltb-true _ _ (both_pass _ _ ((t.rules i h).passes.composite (ne_eqb _ _ k)).1).1;
      };
      binds = few d.binds.count 64 (λ b h. (t.binds b h).few);
      bind_later = λ b h. (bind b h).later;
      bind_child = λ b h. (bind b h).child;
      bind_rule = λ b h. (bind b h).rule;
      bind_choice = λ b h. (bind b h).choice;
      ports = few d.ports.count 64 (λ p h. (t.ports p h).few);
      port_later = λ p h. (port_facts d p _ nodes (t.ports p h)).0;
      port_child = λ p h. (port_facts d p _ nodes (t.ports p h)).1;
      links = few d.links.count 64 (λ l h. (t.links l h).few);
      link_owner = λ l h. (link_facts d l _ (t.links l h)).0;
      link_guard = λ l h. (link_facts d l _ (t.links l h)).1;
      actions = λ l h. few (action_count d.links l) 8 (λ j k. (t.actions l j h k).few);
      link_action = λ l j h k. applicable d _ (t.actions l j h k).fields (both_pass (1 ≤? d.links.count) _ (t.actions l j h k).ids).1;
    }
