-- While a document is loaded: each record that is entered keeps the columns of the tables, and entries that pass their tests.
use Prim.Native.Nat.{ℕ, ◌+◌, ◌*◌, ◌<◌}
use native.Mathlib.Omega.{arith}
use mathlib.Core.List.{List}
use mathlib.Core.Path.{◌≡◌}
use lib.IntN.{pos}
use mathlib.Core.Bool.{false}
use lib.ListN.{length, get_or, set}
use lib.Seq.{get_or-set_same, get_or-set_other}
use borrow.Author.Tests.{leb-true, leb-false}
use borrow.Author.Count.{below_more}
use Rattle.base.specs.Tests.{when◌then◌else◌, ◌≤?◌, both_pass}
use Rattle.machine.specs.Tables.{node_at, anchor_at, rule_at, bind_at, port_at, link_at, action_count, action_at, latest, more_nodes, more_anchors, more_rules, more_binds, more_ports, more_links, with_limit, with_nodes, with_anchors, with_properties, with_rules, with_binds, with_ports, with_links}
use Rattle.machine.specs.Records.{with_action}
use Rattle.machine.specs.declared.Document.{Document}
use Rattle.machine.specs.declared.NodeRecord.{NodeRecord}
use Rattle.machine.specs.declared.AnchorRecord.{AnchorRecord}
use Rattle.machine.specs.declared.RuleRecord.{RuleRecord}
use Rattle.machine.specs.declared.BindRecord.{BindRecord}
use Rattle.machine.specs.declared.PortRecord.{PortRecord}
use Rattle.machine.specs.declared.LinkRecord.{LinkRecord}
use Rattle.machine.specs.declared.ActionRecord.{ActionRecord}
use Rattle.machine.proofs.SoundTables.{NodePasses, AnchorPasses, RuleEntry, BindPasses, PortPasses, LinkPasses, ActionPasses, Entries}
use Rattle.machine.proofs.Effects.{get_d_set}
use Rattle.machine.proofs.Columns.{Filled, Columns, stored, longer, more, slot_stored}
use Rattle.machine.proofs.Entries.{Extends, carried, node_more, anchor_more, bind_more, port_more, link_more, action_more}

-- there is room for one entry more, and the entries before it stay as they were
room : {A : Type 0} {z : A} {n places : ℕ} {l : List A} → Filled z n places l → places ≤? n ≡ false → n < length l
room {n = n} {places} c few = omega (arith, c.len, leb-false places n few)

old : {A : Type 0} (l : List A) (n i : ℕ) (x z : A) → i < n → get_or (set l n x) i z ≡ get_or l i z
old l n i x z h = get_or-set_other l n i x z (λ e. omega arith)

-- a table with one entry more, r: each of its entries passes
grown : {R : Type 0} (P : ℕ → R → Type 0) (before after : ℕ → R) (n : ℕ) (r : R) → ((i : ℕ) → i < n → after i ≡ before i) → after n ≡ r
    → ((i : ℕ) → i < n → P i (before i)) → P n r → (i : ℕ) → i < n + 1 → P i (after i)
grown P before after n r same here each p = below_more (λ i. P i (after i)) n (λ i h. rw (same i h) (each i h)) (rw here p)

pub record Loading (d : Document) : Type 0 where
  pub columns : Columns d
  pub entries : Entries d d

-- one table has grown, and the others are as they were: `search` takes the columns and the entries of these from what is at hand
module _ (d : Document) (s : Loading d) where
  pub limit_entered : (limit : ℕ) → Loading (with_limit limit d)
  limit_entered limit =
      let x : Extends d (with_limit limit d) = search arith in
      let k = carried _ _ x s.entries in
      search

  pub node_entered : (r : NodeRecord) → NodePasses d.nodes d.nodes.count r → Loading (with_nodes (more_nodes r d.nodes) d)
  node_entered r p =
      let e = with_nodes (more_nodes r d.nodes) d in
      let x : Extends d e = search (old, arith) in
      let k = carried d e x s.entries in
      let all = grown (NodePasses e.nodes) (node_at d.nodes) (node_at e.nodes) _ r x.node (search (get_or-set_same, room)) k.nodes (node_more d e x _ r (omega arith) p) in
      search more

  pub anchor_entered : (r : AnchorRecord) → AnchorPasses d.nodes d.anchors.count r → Loading (with_anchors (more_anchors r d.anchors) d)
  anchor_entered r p =
      let e = with_anchors (more_anchors r d.anchors) d in
      let x : Extends d e = search arith in
      let k = carried d e x s.entries in
      let all = grown (AnchorPasses e.nodes) (anchor_at d.anchors) (anchor_at e.anchors) _ r (search old) (search (get_or-set_same, room)) k.anchors (anchor_more d e x _ r p) in
      search more

  pub property_entered : d.properties < 32 → Loading (with_properties (d.properties + 1) d)
  property_entered h =
      let x : Extends d (with_properties (d.properties + 1) d) = search arith in
      let k = carried _ _ x s.entries in
      search arith

  pub rule_entered : (r : RuleRecord) → RuleEntry d.properties d.rules.count r → Loading (with_rules (more_rules r d.rules) d)
  rule_entered r p =
      let e = with_rules (more_rules r d.rules) d in
      let x : Extends d e = search arith in
      let k = carried d e x s.entries in
      let all = grown (RuleEntry e.properties) (rule_at d.rules) (rule_at e.rules) _ r (search old) (search (get_or-set_same, room)) k.rules p in
      search more

  pub bind_entered : (r : BindRecord) → BindPasses d d.binds.count r → Loading (with_binds (more_binds r d.binds) d)
  bind_entered r p =
      let e = with_binds (more_binds r d.binds) d in
      let x : Extends d e = search (old, arith) in
      let k = carried d e x s.entries in
      let all = grown (BindPasses e) (bind_at d.binds) (bind_at e.binds) _ r x.bind (search (get_or-set_same, room)) k.binds (bind_more d e x _ r (omega arith) p) in
      search more

  pub port_entered : (r : PortRecord) → PortPasses d d.ports.count r → Loading (with_ports (more_ports r d.ports) d)
  port_entered r p =
      let e = with_ports (more_ports r d.ports) d in
      let x : Extends d e = search (old, arith) in
      let k = carried d e x s.entries in
      let all = grown (PortPasses e) (port_at d.ports) (port_at e.ports) _ r x.port (search (get_or-set_same, room)) k.ports (port_more d e x _ r (omega arith) p) in
      search more

  abbrev action_counts : Filled 0 d.links.count 64 d.links.action_counts
  action_counts = s.columns.links.1.1.1.1.1.0

  -- a new link has no action
  pub link_entered : (r : LinkRecord) → LinkPasses d d.links.count r → Loading (with_links (more_links r d.links) d.actions d)
  link_entered r p =
      let t = d.links in
      let e = with_links (more_links r t) d.actions d in
      let x : Extends d e = search arith in
      let k = carried d e x s.entries in
      let all = grown (LinkPasses e) (link_at t) (link_at e.links) _ r (search old) (search (get_or-set_same, room)) k.links (link_more d e x _ r p) in
      let acts : (l j : ℕ) → l < t.count + 1 → j < action_count t l → ActionPasses e j (action_at d.actions l j)
      = λ l j h i. let none = action_counts.ends t.count in let passes = k.actions l j in grind arith in
      search (more, longer)

  -- an action of the latest link
  pub action_entered : (r : ActionRecord) → ActionPasses d (action_count d.links (latest d.links)) r → Loading (with_action r d)
  unfolding when◌then◌else◌
  action_entered r p =
      let t = d.links in
      let n = action_count t (latest t) in
      let place = 8 * latest t + n in
      let e = with_action r d in
      let last : latest t < t.count = omega (arith, leb-true 1 t.count (both_pass (1 ≤? t.count) _ p.ids).0) in
      let low : latest t < length t.action_counts = omega (arith, action_counts.len, leb-false 64 (latest t) (s.entries.links (latest t) last).few) in
      let small : n < 8 = leb-false _ _ p.few in
      let x : Extends d e = search arith in
      let k = carried d e x s.entries in
      let fits : (m : ℕ) → m ≡ 8 * length t.action_counts → place < m = λ m q. omega arith in
      let added = action_more d e x n r p in
      let acts : (l j : ℕ) → l < t.count → j < action_count e.links l → ActionPasses e j (action_at e.actions l j)
      = λ l j h i.
      let passes = k.actions l j h in
      let count = get_d_set t.action_counts (latest t) l (n + 1) 0 low in
      let action = get_d_set d.actions.actions place (8 * l + j) r.action 0 (fits _ s.columns.actions.len) in
      let target = get_d_set d.actions.targets place (8 * l + j) r.target 0 (fits _ s.columns.targets.len) in
      let value = get_d_set d.actions.values place (8 * l + j) r.value (pos 0) (fits _ s.columns.values.len) in
      grind arith in
      search (stored, slot_stored)
