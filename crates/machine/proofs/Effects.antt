-- What a move of a node and a pass over the anchors do to each entry.
use Prim.Native.Nat.{ℕ, ◌≤◌, ◌<◌}
use native.Mathlib.Omega.{arith}
use mathlib.Core.Bool.{Bool, false, ◌&&◌}
use mathlib.Core.List.{List}
use mathlib.Core.Path.{◌≡◌}
use lib.ListN.{length, get_or, set, length-set}
use lib.Seq.{get_or-set_same, get_or-set_other}
use Rattle.base.specs.Tests.{when◌then◌else◌, ◌=?◌}
use Rattle.base.specs.Loops.{ascending_turns, ascending_through}
use Rattle.machine.specs.Terms.{sleeping, no_transition, starts}
use Rattle.machine.specs.Tables.{anchor_at}
use Rattle.machine.specs.Events.{Run, anchor_state, awake, transition, clocked, choices_set, node_changed, node_to, anchor_changed, anchor_to, anchor_moved, anchors_moved, media_to, media_moved}
use Rattle.machine.specs.Demand3.{Awake}
use Rattle.machine.specs.declared.Anchors.{Anchors}
use Rattle.machine.specs.declared.Document.{Document}

-- an entry, after one was set
pub get_d_set : {A : Type 0} (xs : List A) (i j : ℕ) (x default : A) → i < length xs → get_or (set xs i x) j default ≡ (when i =? j then x else get_or xs j default)
unfolding when◌then◌else◌
get_d_set xs i j x default h = grind (arith, get_or-set_same, get_or-set_other)

-- ---- transitions

module _ (aborting : Bool) (old new : ℕ) where
  -- there is none exactly to the same state
  unchanged : transition aborting old new =? no_transition ≡ (old =? new)
  unfolding transition when◌then◌else◌
  unchanged = grind arith

  -- it is a start exactly from sleeping to awake
  pub starting : transition aborting old new =? starts ≡ (old =? sleeping && awake new)
  unfolding transition when◌then◌else◌
  starting = grind arith

  -- to another there is one; the clock goes to 0 on waking and on going to sleep, and stays in between
  record Turned : Type 0 where
    some : transition aborting old new =? no_transition ≡ false
    wakes : old ≡ sleeping → (clock : ℕ) → clocked (transition aborting old new) clock ≡ 0
    sleeps : new ≡ sleeping → (clock : ℕ) → clocked (transition aborting old new) clock ≡ 0
    stays : Awake old → Awake new → (clock : ℕ) → clocked (transition aborting old new) clock ≡ clock

  turned : (old ≡ new → ⊥) → Turned
  unfolding transition clocked when◌then◌else◌
  turned d = grind arith

-- ---- a move of a node: states and clocks before and after

-- nodes other than n are as they were
pub record Only (n : ℕ) (states clocks states' clocks' : List ℕ) : Type 0 where
  pub state : (j : ℕ) → (j ≡ n → ⊥) → get_or states' j 0 ≡ get_or states j 0
  pub clock : (j : ℕ) → (j ≡ n → ⊥) → get_or clocks' j 0 ≡ get_or clocks j 0

pub record NodeMoved (n new : ℕ) (states clocks states' clocks' : List ℕ) : Type 0 where
  pub here : get_or states' n 0 ≡ new
  pub only : Only n states clocks states' clocks'
  pub clock_stays : Awake (get_or states n 0) → Awake new → get_or clocks' n 0 ≡ get_or clocks n 0
  pub clock_wakes : get_or states n 0 ≡ sleeping → Awake new → get_or clocks' n 0 ≡ 0
  pub clock_sleeps : Awake (get_or states n 0) → new ≡ sleeping → get_or clocks' n 0 ≡ 0
  pub clock_low : get_or clocks n 0 ≡ 0 → get_or clocks' n 0 ≡ 0

pub moved_from : {n new : ℕ} {s t c e s' c' : List ℕ} → s ≡ t → c ≡ e → NodeMoved n new s c s' c' → NodeMoved n new t e s' c'
moved_from p q m = rw (p, q) at m

abbrev pub RunOnly : ℕ → Run → Run → Type 0
RunOnly n x y = Only n x.state.nodes.states x.state.nodes.clocks y.state.nodes.states y.state.nodes.clocks

abbrev pub RunMoved : ℕ → ℕ → Run → Run → Type 0
RunMoved n new x y = NodeMoved n new x.state.nodes.states x.state.nodes.clocks y.state.nodes.states y.state.nodes.clocks

pub node_moves : (aborting : Bool) (n new : ℕ) (x : Run) → n < length x.state.nodes.states → n < length x.state.nodes.clocks → RunMoved n new x (node_to aborting n new x)
unfolding node_to node_changed clocked when◌then◌else◌
node_moves aborting n new x h k = grind (arith, unchanged, turned, get_or-set_same, get_or-set_other)

pub node_leaves_anchors : (aborting : Bool) (n new : ℕ) (x : Run) → (node_to aborting n new x).state.anchors.states ≡ x.state.anchors.states
unfolding node_to node_changed when◌then◌else◌
node_leaves_anchors aborting n new x = grind arith

-- ---- the moves of a media neither read nor change choices

module _ (choices : List ℕ) where
  node_any_choices : (aborting : Bool) (n new : ℕ) (r : Run) → node_to aborting n new (choices_set choices r) ≡ choices_set choices (node_to aborting n new r)
  unfolding node_to node_changed when◌then◌else◌
  node_any_choices aborting n new r = grind arith

  module _ (anchors : Anchors) where
    anchors_any_choices : (moves : ℕ → ℕ → ℕ → Bool) (aborting : Bool) (n new : ℕ) (r : Run)
        → anchors_moved anchors moves aborting n new (choices_set choices r) ≡ choices_set choices (anchors_moved anchors moves aborting n new r)
    unfolding anchors_moved anchor_moved anchor_to anchor_changed when◌then◌else◌
    anchors_any_choices moves aborting n new r = ascending_through _ (choices_set choices) anchors.count r (grind arith)

    pub media_any_choices : (action n : ℕ) (r : Run) → media_moved anchors action n (choices_set choices r) ≡ choices_set choices (media_moved anchors action n r)
    unfolding media_moved media_to when◌then◌else◌
    media_any_choices action n r = grind (arith, node_any_choices, anchors_any_choices)

-- ---- a pass over the anchors: each of the first k has gone to the state if it was to move, the others are as they were

module _ (d : Document) (moves : ℕ → ℕ → ℕ → Bool) (n : ℕ) where
  -- anchor a is one of media n that move
  unfoldable pub moving : Run → ℕ → Bool
  moving x a = (anchor_at d.anchors a).media =? n && moves (anchor_at d.anchors a).begin (anchor_at d.anchors a).end (anchor_state x.state a)

  pub record Passed (new : ℕ) (x : Run) (k : ℕ) (y : Run) : Type 0 where
    pub states : y.state.nodes.states ≡ x.state.nodes.states
    pub clocks : y.state.nodes.clocks ≡ x.state.nodes.clocks
    pub len : length y.state.anchors.states ≡ length x.state.anchors.states
    pub done : (a : ℕ) → a < k → anchor_state y.state a ≡ (when moving x a then new else anchor_state x.state a)
    pub rest : (a : ℕ) → k ≤ a → anchor_state y.state a ≡ anchor_state x.state a

  pub anchors_pass : (aborting : Bool) (new : ℕ) (x : Run) → d.anchors.count ≤ length x.state.anchors.states → Passed new x d.anchors.count (anchors_moved d.anchors moves aborting n new x)
  unfolding anchors_moved anchor_moved anchor_to anchor_changed moving when◌then◌else◌
  anchors_pass aborting new x h =
      ascending_turns (Passed new x) d.anchors.count x (grind arith)
      (λ k y l m. grind (arith, m.done, m.rest, unchanged, get_d_set, length-set))
