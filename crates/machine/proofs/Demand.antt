-- Demand 3, proved: what is kept from call to call, in the demand's words, from the session of every document that loads.
use Prim.Native.Nat.{ℕ}
use native.Mathlib.Omega.{arith}
use mathlib.Core.Bool.{Bool, true, false}
use mathlib.Core.List.{List, []}
use mathlib.Core.Path.{◌≡◌}
use Rattle.base.specs.Tests.{when◌then◌else◌}
use Rattle.base.specs.Loops.{some, some_one, one_some}
use Rattle.machine.specs.Load.{load}
use Rattle.machine.specs.Events.{node_state, anchor_state, child_in, children_state}
use Rattle.machine.specs.Broken.{anchor_state_in}
use Rattle.machine.specs.Operations.{call_refused, call, session_after, results_of}
use Rattle.machine.specs.Demand3.{AChildIs, CompositeRule, AnchorRule, Holds, ForEveryList}
use Rattle.machine.specs.declared.Document.{Document}
use Rattle.machine.specs.declared.State.{State}
use Rattle.machine.specs.declared.Session.{Session}
use Rattle.machine.specs.declared.Call.{Call}
use Rattle.machine.proofs.Tally.{one_if_awake}
use Rattle.machine.proofs.Whole.{whole, states_right_lem}
use Rattle.machine.proofs.FirstSession.{loaded_invariant}
use Rattle.machine.proofs.Calls.{call_gives, Invariant, after_calls}

-- ---- the composite rule, from the state that the children give

module _ (d : Document) (s : State) (c : ℕ) where
  abbrev test : ℕ → ℕ → Bool
  test state = child_in d.nodes s.nodes.states state c

  a_child : (state : ℕ) → some (test state) d.nodes.count ≡ true → AChildIs d s c state
  unfolding child_in
  a_child state e = let f = some_one (test state) d.nodes.count e in (f.0, grind arith)

  no_child_lem : (state : ℕ) → some (test state) d.nodes.count ≡ false → AChildIs d s c state → ⊥
  unfolding child_in
  no_child_lem state e k = grind (arith, one_some (test state) d.nodes.count k.0)

  composite_rule_lem : node_state s c ≡ children_state d.nodes s.nodes.states c → CompositeRule d s c
  unfolding children_state when◌then◌else◌
  composite_rule_lem e = grind (arith, a_child, no_child_lem)

-- ---- the anchor rule, from the state that the media gives

pub anchor_rule : (d : Document) (s : State) (a : ℕ) → anchor_state s a ≡ anchor_state_in d s a → AnchorRule d s a
unfolding anchor_state_in when◌then◌else◌
anchor_rule d s a e = grind arith

-- ---- a refused call leaves the session, whatever the session is

refused_leaves : (s : Session) (c : Call) (bytes : ℕ) → ((call s c bytes).answer.refusal ≡ 0 → ⊥) → (call s c bytes).session ≡ s
unfolding call_refused
refused_leaves s c bytes = call_gives s c bytes (λ r. (r.answer.refusal ≡ 0 → ⊥) → r.session ≡ s) (grind arith) (grind arith)

-- ---- all of it, from a session that has what is kept, before any line

from_invariant : (s : Session) → Invariant [] s → (calls : List (Call × ℕ)) → Holds s (session_after s calls) (results_of s calls)
unfolding one_if_awake when◌then◌else◌
from_invariant s invariant calls =
    let a = after_calls calls [] s invariant in
    let t = session_after s calls in
    let tests = whole t a.invariant.unbroken in
    let right = states_right_lem t.document t.state tests.states in
    let tallied = a.invariant.tallied in
    record {
      demand = record {
        composites = λ c h type. composite_rule_lem _ _ c (right.composed.rule c h type);
        anchors = λ k h. anchor_rule _ _ k (right.timed.anchors k h);
        node_balance = grind (arith, tallied.nodes);
        anchor_balance = grind (arith, tallied.anchors);
        node_counts = λ n h. (tallied.nodes n h).counts;
        anchor_counts = λ k h. (tallied.anchors k h).counts;
        property_counts = λ p h. (tallied.properties p h).counts;
        firings = rw a.tables a.fires;
      };
      unbroken = record {
        whole = a.invariant.unbroken;
        never_thirteen = a.never;
        tables = a.tables;
        refused = refused_leaves t;
      };
    }

-- THE THEOREM
pub demand_3 : ForEveryList
demand_3 bytes e calls = from_invariant (load bytes).session (loaded_invariant bytes e) calls
