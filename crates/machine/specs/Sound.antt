-- What is known of the tables of a session that is not broken. The functions that run a call require it; those of `player` require nothing.
use Rattle.std.specs.Prelude.{ℕ, ◌<◌, ◌≤◌, true, false, ◌≡◌}
use Rattle.machine.specs.Terms.{switch, to_start, to_set, simple_rule, no_id}
use Rattle.machine.specs.Tables.{type_of, parent_of, duration_of, is_media, anchor_at, rule_at, bind_at, port_at, link_at, action_count, action_at}
use Rattle.machine.specs.Broken.{choice_right}
use Rattle.machine.specs.declared.Nodes.{Nodes}
use Rattle.machine.specs.declared.Rules.{Rules}
use Rattle.machine.specs.declared.Document.{Document}
use Rattle.machine.specs.declared.ActionRecord.{ActionRecord}

pub record SoundNodes (nodes : Nodes) : Type 0 where
  pub few : nodes.count ≤ 64
  pub root : 0 < nodes.count
  pub types : (n : ℕ) → n < nodes.count → type_of nodes n ≤ switch
  pub earlier : (n : ℕ) → 0 < n → n < nodes.count → parent_of nodes n < n
  pub composite : (n : ℕ) → 0 < n → n < nodes.count → is_media nodes (parent_of nodes n) ≡ false
  pub none : parent_of nodes 0 ≡ no_id
  pub endless : (n : ℕ) → n < nodes.count → is_media nodes n ≡ false → duration_of nodes n ≡ 0

pub record SoundRules (properties : ℕ) (rules : Rules) : Type 0 where
  pub few : rules.count ≤ 32
  pub property : (i : ℕ) → i < rules.count → (rule_at rules i).kind ≡ simple_rule → (rule_at rules i).property < properties
  pub left : (i : ℕ) → i < rules.count → ((rule_at rules i).kind ≡ simple_rule → ⊥) → (rule_at rules i).left < i
  pub right : (i : ℕ) → i < rules.count → ((rule_at rules i).kind ≡ simple_rule → ⊥) → (rule_at rules i).right < i

-- an action that is one of the six, on a target that is given
pub record Applicable (d : Document) (a : ActionRecord) : Type 0 where
  pub least : to_start ≤ a.action
  pub most : a.action ≤ to_set
  pub node : (a.action ≡ to_set → ⊥) → a.target < d.nodes.count
  pub property : a.action ≡ to_set → a.target < d.properties

pub record Sound (d : Document) : Type 0 where
  pub limit : 0 < d.limit
  pub nodes : SoundNodes d.nodes
  pub anchors : d.anchors.count ≤ 128
  pub anchor_media : (a : ℕ) → a < d.anchors.count → (anchor_at d.anchors a).media < d.nodes.count
  pub anchor_type : (a : ℕ) → a < d.anchors.count → is_media d.nodes (anchor_at d.anchors a).media ≡ true
  pub anchor_span : (a : ℕ) → a < d.anchors.count → (anchor_at d.anchors a).begin < (anchor_at d.anchors a).end
  pub anchor_within : (a : ℕ) → a < d.anchors.count → 0 < duration_of d.nodes (anchor_at d.anchors a).media
      → (anchor_at d.anchors a).end ≤ duration_of d.nodes (anchor_at d.anchors a).media
  pub properties : d.properties ≤ 32
  pub rules : SoundRules d.properties d.rules
  pub binds : d.binds.count ≤ 64
  pub bind_later : (b : ℕ) → b < d.binds.count → (bind_at d.binds b).switch < (bind_at d.binds b).child
  pub bind_child : (b : ℕ) → b < d.binds.count → (bind_at d.binds b).child < d.nodes.count
  pub bind_rule : (b : ℕ) → b < d.binds.count → ((bind_at d.binds b).rule ≡ no_id → ⊥) → (bind_at d.binds b).rule < d.rules.count
  pub bind_choice : (b : ℕ) → b < d.binds.count → choice_right d.nodes (bind_at d.binds b).switch (bind_at d.binds b).child ≡ true
  pub ports : d.ports.count ≤ 64
  pub port_later : (p : ℕ) → p < d.ports.count → (port_at d.ports p).context < (port_at d.ports p).child
  pub port_child : (p : ℕ) → p < d.ports.count → (port_at d.ports p).child < d.nodes.count
  pub links : d.links.count ≤ 64
  pub link_owner : (l : ℕ) → l < d.links.count → (link_at d.links l).owner < d.nodes.count
  pub link_guard : (l : ℕ) → l < d.links.count → ((link_at d.links l).guard ≡ no_id → ⊥) → (link_at d.links l).guard < d.rules.count
  pub actions : (l : ℕ) → l < d.links.count → action_count d.links l ≤ 8
  pub link_action : (l j : ℕ) → l < d.links.count → j < action_count d.links l → Applicable d (action_at d.actions l j)
