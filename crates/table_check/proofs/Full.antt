-- A table with more entries than it has places breaks a rule at the first id that has none.
use Rattle.std.specs.Prelude.{◌≡◌, refl, ◌||◌, false, true, ℕ, ◌<◌, ◌≤◌}
use Rattle.std.proofs.Common.{sym, ◌∙◌, arith}
use Rattle.std.proofs.Math.Bool.{and-false}
use Rattle.base.specs.Tests.{when◌then◌else◌, by_test, ◌=?◌, ◌≤?◌}
use Rattle.base.specs.Loops.{every, every_fails, each_every}
use borrow.Author.Tests.{lt-leb, leb-true, leb-false}
use Rattle.machine.specs.declared.Document.{Document}
use Rattle.machine.specs.Terms.{simple_rule, composite_rule}
use Rattle.machine.specs.Tables.{rule_at}
use Rattle.machine.specs.Records.{node_fault, anchor_fault, property_fault, rule_fault, bind_fault, port_fault, link_fault, action_fault}
use Rattle.machine.specs.Broken.{node_obeys, anchor_obeys, property_obeys, rule_obeys, bind_obeys, port_obeys, link_obeys, action_obeys}

module _ (d : Document) (n : ℕ) where
  pub full_nodes : 64 < n → every (node_obeys d) n ≡ false
  unfolding node_obeys node_fault when◌then◌else◌
  full_nodes h = sym (every_fails _ 64 n h refl)

  pub full_anchors : 128 < n → every (anchor_obeys d) n ≡ false
  unfolding anchor_obeys anchor_fault when◌then◌else◌
  full_anchors h = sym (every_fails _ 128 n h refl)

  pub full_rules : 32 < n → every (rule_obeys d) n ≡ false
  unfolding rule_obeys rule_fault when◌then◌else◌
  full_rules h =
      let r = rule_at d.rules 32 in
      sym (every_fails _ 32 n h (rw (and-false (r.kind =? simple_rule || r.kind =? composite_rule))))

  pub full_binds : 64 < n → every (bind_obeys d) n ≡ false
  unfolding bind_obeys bind_fault when◌then◌else◌
  full_binds h = sym (every_fails _ 64 n h refl)

  pub full_ports : 64 < n → every (port_obeys d) n ≡ false
  unfolding port_obeys port_fault when◌then◌else◌
  full_ports h = sym (every_fails _ 64 n h refl)

  pub full_links : 64 < n → every (link_obeys d) n ≡ false
  unfolding link_obeys link_fault when◌then◌else◌
  full_links h = sym (every_fails _ 64 n h refl)

  pub full_actions : (l : ℕ) → 8 < n → every (action_obeys d l) n ≡ false
  unfolding action_obeys action_fault when◌then◌else◌
  full_actions l h = sym (every_fails _ 8 n h refl)

-- the number of properties is all that can break their rule
module _ (d : Document) where
  few_properties : (n : ℕ) → n ≤ 32 → every (property_obeys d) n ≡ true
  unfolding property_obeys property_fault when◌then◌else◌
  few_properties n h = each_every _ n (λ k l. rw (lt-leb 32 k (omega arith)))

  many_properties : (n : ℕ) → 32 < n → every (property_obeys d) n ≡ false
  unfolding property_obeys property_fault when◌then◌else◌
  many_properties n h = sym (every_fails _ 32 n h refl)

  pub properties_within : (n : ℕ) → every (property_obeys d) n ≡ (n ≤? 32)
  properties_within n =
      by_test (n ≤? 32)
      (λ e. few_properties n (leb-true n 32 e) ∙ sym e)
      (λ e. many_properties n (leb-false n 32 e) ∙ sym e)
