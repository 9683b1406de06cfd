-- A session that is not broken, in facts, and back: so that what a call keeps makes its session one that is not broken.
use Prim.Native.Nat.{ℕ, ◌<◌}
use native.Mathlib.Omega.{arith}
use mathlib.Core.Bool.{true, false}
use mathlib.Core.Path.{◌≡◌}
use borrow.Author.Tests.{eqb-true, eq-eqb}
use Rattle.std.proofs.lemmas.Bool.Decides.{nat_tests}
use Rattle.base.specs.Tests.{when◌then◌else◌, both_pass, pass_both}
use Rattle.base.specs.Loops.{every, every_each, each_every}
use Rattle.machine.specs.Tables.{is_media}
use Rattle.machine.specs.Events.{node_state, node_clock, children_state}
use Rattle.machine.specs.Broken.{tables_obey, document_ends_zero, state_ends_zero, composite_right, clock_right, node_right, anchor_right, states_right, choices_right, broken}
use Rattle.machine.specs.Sound.{Sound}
use Rattle.machine.specs.declared.Document.{Document}
use Rattle.machine.specs.declared.State.{State}
use Rattle.machine.specs.declared.Session.{Session}
use Rattle.machine.proofs.SoundTables.{sound}
use Rattle.machine.proofs.Times.{NodeTimed, Timed}
use Rattle.machine.proofs.Settling.{Composed}

module _ (d : Document) (s : State) where
  clock_right_lem : (n : ℕ) → NodeTimed d n (node_state s n) (node_clock s n) → clock_right d s n ≡ true
  unfolding clock_right when◌then◌else◌
  clock_right_lem n f = grind (arith, nat_tests)

  right_node : (n : ℕ) → node_right d s n ≡ true
      → NodeTimed d n (node_state s n) (node_clock s n) × (is_media d.nodes n ≡ false → node_state s n ≡ children_state d.nodes s.nodes.states n)
  unfolding node_right composite_right clock_right when◌then◌else◌
  right_node n e = grind (arith, nat_tests)

  pub record Right : Type 0 where
    pub timed : Timed d s
    pub composed : Composed d s

  pub states_right_lem : states_right d s ≡ true → Right
  unfolding states_right anchor_right
  states_right_lem e =
      let p = both_pass (every (node_right d s) d.nodes.count) (every (anchor_right d s) d.anchors.count) e in
      let node = λ (n : ℕ) (h : n < d.nodes.count). right_node n (every_each (node_right d s) _ p.0 n h) in
      record {
        timed = record { nodes = λ n h. (node n h).0; anchors = λ a h. eqb-true _ _ (every_each (anchor_right d s) _ p.1 a h) };
        composed = record { rule = λ c h. (node c h).1 };
      }

  pub right_states : Right → states_right d s ≡ true
  unfolding states_right node_right anchor_right composite_right
  right_states r =
      let node : (n : ℕ) → n < d.nodes.count → node_right d s n ≡ true = λ n h. grind (arith, nat_tests, r.timed.nodes n h, clock_right_lem n, r.composed.rule n h) in
      pass_both _ _ (each_every _ _ node) (each_every _ _ (λ a h. eq-eqb _ _ (r.timed.anchors a h)))

pub record WholeTests (s : Session) : Type 0 where
  pub tables : tables_obey s.document ≡ true
  pub document_ends : document_ends_zero s.document ≡ true
  pub state_ends : state_ends_zero s.document s.state ≡ true
  pub states : states_right s.document s.state ≡ true
  pub choices : choices_right s.document.nodes s.state.choices ≡ true

pub whole : (s : Session) → broken s ≡ false → WholeTests s
unfolding broken
whole s e = grind (arith, nat_tests)

pub not_broken : (s : Session) → WholeTests s → broken s ≡ false
unfolding broken
not_broken s t = rw (t.tables, t.document_ends, t.state_ends, t.states, t.choices)

-- so its tables are sound
pub unbroken_sound : (s : Session) → broken s ≡ false → Sound s.document
unbroken_sound s e = sound s.document (whole s e).tables
