-- The composite rule holds after every settling, whatever stood before: by descending id, because a child's id is above its parent's.
use Prim.Native.Nat.{ℕ, suc, ◌≤◌, ◌<◌}
use native.Mathlib.Omega.{arith}
use mathlib.Core.Bool.{Bool, false}
use mathlib.Core.List.{List}
use mathlib.Core.Path.{◌≡◌, ap₂}
use lib.ListN.{get_or}
use Rattle.std.proofs.lemmas.Bool.Decides.{nat_tests}
use Rattle.base.specs.Tests.{when◌then◌else◌}
use Rattle.base.specs.Loops.{same_some, descending_turns}
use Rattle.machine.specs.Terms.{occurring, paused, sleeping}
use Rattle.machine.specs.Tables.{is_media, parent_of}
use Rattle.machine.specs.Events.{Run, node_state, node_to, child_in, children_state, aborts_at, settled_one, settled, acted}
use Rattle.machine.specs.Tick.{ticked, keyed}
use Rattle.machine.specs.Chain.{firing_logged, limit_met}
use Rattle.machine.specs.Sound.{Sound}
use Rattle.machine.specs.declared.Document.{Document}
use Rattle.machine.specs.declared.Nodes.{Nodes}
use Rattle.machine.specs.declared.State.{State}
use Rattle.machine.proofs.SoundTables.{child_later}
use Rattle.machine.proofs.Keep.{Actions, actions, performed_keeps, media_ticked_keeps, chosen}
use Rattle.machine.proofs.Shape.{Shaped, shapes}
use Rattle.machine.proofs.Effects.{node_moves}
use Rattle.machine.proofs.Times.{TimedRun, times}

-- the children of c are as they were: so is what they say
children_same : (nodes : Nodes) (states other : List ℕ) (c : ℕ) → ((k : ℕ) → k < nodes.count → parent_of nodes k ≡ c → get_or states k 0 ≡ get_or other k 0)
    → children_state nodes states c ≡ children_state nodes other c
unfolding children_state child_in
children_same nodes states other c h =
    ap₂ (λ (a b : Bool). when a then occurring else when b then paused else sleeping) (same_some _ _ _ (same occurring)) (same_some _ _ _ (same paused))
  where
    same : (state k : ℕ) → k < nodes.count → child_in nodes states state c k ≡ child_in nodes other state c k
    same state k l = grind (arith, nat_tests, h k l)

pub record Composed (d : Document) (s : State) : Type 0 where
  pub rule : (c : ℕ) → c < d.nodes.count → is_media d.nodes c ≡ false → node_state s c ≡ children_state d.nodes s.nodes.states c

module _ (d : Document) (sound : Sound d) where
  -- settled down to k
  record From (k : ℕ) (y : Run) : Type 0 where
    shaped : Shaped d y.state
    rule : (c : ℕ) → k ≤ c → c < d.nodes.count → is_media d.nodes c ≡ false → node_state y.state c ≡ children_state d.nodes y.state.nodes.states c

  one_settled : (action target k : ℕ) (y : Run) → k < d.nodes.count → From (suc k) y → From k (settled_one d.nodes action target k y)
  unfolding settled_one
  one_settled action target k y l f =
      chosen (From k) (is_media d.nodes k)
      (λ e. record { shaped = f.shaped; rule = λ c kc cn u. grind (arith, nat_tests, f.rule c) })
      (λ _.
      let new = children_state d.nodes y.state.nodes.states k in
      let aborting = aborts_at d.nodes action target k in
      let m = node_moves aborting k new y (omega (arith, sound.nodes.few, f.shaped.nodes.0.len)) (omega (arith, sound.nodes.few, f.shaped.nodes.1.0.len)) in
      let children : (c : ℕ) → k ≤ c → c < d.nodes.count → children_state d.nodes (node_to aborting k new y).state.nodes.states c ≡ children_state d.nodes y.state.nodes.states c
      = λ c kc cn. children_same d.nodes _ _ c (λ i il e. m.only.state i (λ q. omega (arith, child_later sound.nodes il cn e))) in
      record {
        shaped = (shapes d).moves.node aborting k new y l f.shaped;
        rule = λ c kc cn u. rw (children c kc cn) (grind (arith, nat_tests, m.here, m.only.state c, f.rule c));
      })

  settled_composes : (action target : ℕ) (r : Run) → Shaped d r.state → Composed d (settled d.nodes action target r).state
  unfolding settled
  settled_composes action target r s =
      let f = descending_turns From d.nodes.count r (record { shaped = s; rule = λ c kc cn u. absurd (omega arith) }) (one_settled action target) in
      record { rule = λ c cn u. f.rule c (omega arith) cn u }

  pub record RightRun (r : Run) : Type 0 where
    pub timed : TimedRun d sound r
    pub composed : Composed d r.state

  timed_actions : Actions d (TimedRun d sound)
  timed_actions = actions d (TimedRun d sound) sound (times d sound)

  pub rights : Actions d RightRun
  unfolding acted ticked keyed firing_logged limit_met
  rights = record {
    action = λ a r t p. record {
      timed = timed_actions.action a r t p.timed;
      composed = settled_composes _ _ _ (performed_keeps d (TimedRun d sound) sound (times d sound) a r t p.timed).shaped;
    };
    tick = λ r p. record {
      timed = timed_actions.tick r p.timed;
      composed = settled_composes _ _ _ (media_ticked_keeps d (TimedRun d sound) sound (times d sound).moves r p.timed).shaped;
    };
    lines = record {
      key = λ code r p. search (timed_actions.lines.key);
      firing = λ l r h p. search (timed_actions.lines.firing);
      limit = λ r p. search (timed_actions.lines.limit);
    };
  }
