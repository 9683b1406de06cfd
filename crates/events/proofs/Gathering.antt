-- The states of the children, gathered on the way down the ids: where node k is come to, its children have been passed.
use mathlib.Core.Path.{◌≡◌, refl, sym, ◌∙◌}
use mathlib.Core.Bool.{Bool, true, false, ◌||◌, or-false, or_assoc, false≢true}
use mathlib.Core.List.{List}
use Prim.Native.Nat.{ℕ, zero, suc, ◌+◌, ◌-◌, ◌≤◌, ◌<◌}
use native.Mathlib.Numerals.{add-one}
use native.Mathlib.Omega.{arith}
use borrow.Author.Tests.{eq-eqb, ne_eqb, eqb-true, eqb-false}
use lib.ListN.{length, length-set, get_or, set, replicate, get_or-replicate}
use lib.Seq.{get_or-set_same, get_or-set_other}
use Rattle.base.specs.Tests.{when◌then◌else◌, by_test, ◌=?◌, not_false}
use Rattle.base.specs.Loops.{some}
use Rattle.machine.specs.Terms.{sleeping, occurring, paused}
use Rattle.machine.specs.Tables.{type_of, is_media, parent_of}
use Rattle.machine.specs.Events.{Run, awake, transition, node_state, node_to, node_changed, child_in, children_state, aborts_at, settled_one}
use Rattle.machine.specs.Sound.{SoundNodes}
use Rattle.machine.specs.declared.Nodes.{Nodes}
use Rattle.machine.proofs.Keep.{chosen}
use Rattle.events.specs.Parts.{resettled, with_child}

-- ---- some id from i on, among so many, passes the test

some_from : (ℕ → Bool) → ℕ → ℕ → Bool
some_from test zero i = false
some_from test (suc k) i = test i || some_from test k (i + 1)

-- those below i, and those from i on
some_from_lem : (test : ℕ → Bool) (n k i : ℕ) → i + k ≡ n → some test n ≡ some test i || some_from test k i
unfolding some some_from
some_from_lem test n zero i e =
    let s : n ≡ i = omega arith in
    rw s (sym (or-false _))
some_from_lem test n (suc k) i e =
    some_from_lem test n k (i + 1) (omega arith) ∙ rw add-one (or_assoc (some test i) (test i) _)

some_none : (test : ℕ → Bool) (n : ℕ) → ((i : ℕ) → i < n → test i ≡ false) → some test n ≡ false
unfolding some
some_none test zero none = refl
some_none test (suc n) none = rw (some_none test n (λ i h. none i (omega arith)), none n (omega arith))

from_same : (test other : ℕ → Bool) (k i : ℕ) → ((j : ℕ) → i ≤ j → test j ≡ other j) → some_from test k i ≡ some_from other k i
unfolding some_from
from_same test other zero i same = refl
from_same test other (suc k) i same = rw (same i (omega arith), from_same test other k (i + 1) (λ j h. same j (omega arith)))

-- ---- the state of a composite, from whether a child is occurring and whether one is paused; and with one child more

state_of : Bool → Bool → ℕ
state_of occurs pauses = when occurs then occurring else when pauses then paused else sleeping

child_more : (occurs pauses : Bool) (child : ℕ) → with_child (state_of occurs pauses) child ≡ state_of (child =? occurring || occurs) (child =? paused || pauses)
unfolding with_child state_of when◌then◌else◌
child_more occurs pauses child =
    by_test (child =? occurring) (λ e. rw e) (λ e. rw e (rest occurs pauses))
  where
    rest : (occurs pauses : Bool) → (when awake (state_of occurs pauses) then state_of occurs pauses else when child =? paused then paused else sleeping) ≡ state_of occurs (child =? paused || pauses)
    rest true pauses = refl
    rest false true = by_test (child =? paused) (λ e. rw e) (λ e. rw e)
    rest false false = by_test (child =? paused) (λ e. rw e) (λ e. rw e)

-- ---- what the children of c among the ids from k on give it, and the array of this for every c

children_from : Nodes → List ℕ → ℕ → ℕ → ℕ
children_from nodes states k c =
    state_of (some_from (child_in nodes states occurring c) (nodes.count - k) k) (some_from (child_in nodes states paused c) (nodes.count - k) k)

pub Gathered : Nodes → List ℕ → ℕ → List ℕ → Type 0
Gathered nodes states k gathered = (length gathered ≡ 256) × ((c : ℕ) → c < 256 → get_or gathered c 0 ≡ children_from nodes states k c)

pub gathered_none : (nodes : Nodes) (states : List ℕ) → Gathered nodes states nodes.count (replicate 256 0)
unfolding Gathered children_from some_from state_of when◌then◌else◌
gathered_none nodes states =
    let e : nodes.count - nodes.count ≡ 0 = omega arith in
    (refl, λ c h. rw e (get_or-replicate 256 c 0 0 h))

-- all children of k have been passed: no id up to k has k as parent
pub gathered_all : (nodes : Nodes) (states gathered : List ℕ) (k : ℕ) → SoundNodes nodes → 0 < k → k ≤ nodes.count → Gathered nodes states k gathered
    → get_or gathered (k - 1) 0 ≡ children_state nodes states (k - 1)
unfolding Gathered children_from state_of children_state child_in
gathered_all nodes states gathered k sound h l g =
    g.1 (k - 1) (omega (arith, sound.few)) ∙ sym (rw (all occurring, all paused))
  where
    none : (state i : ℕ) → i < k → child_in nodes states state (k - 1) i ≡ false
    none state zero b = rw (sound.none, ne_eqb 255 (k - 1) (λ e. omega (arith, sound.few)))
    none state (suc i) b =
        let p = sound.earlier (suc i) (omega arith) (omega arith) in
        rw (ne_eqb (parent_of nodes (suc i)) (k - 1) (λ e. omega arith))

    all : (state : ℕ) → some (child_in nodes states state (k - 1)) nodes.count ≡ some_from (child_in nodes states state (k - 1)) (nodes.count - k) k
    all state = some_from_lem _ nodes.count (nodes.count - k) k (omega arith) ∙ rw (some_none _ k (none state))

-- node k - 1 is passed: its state enters its parent's entry. The states of later nodes are as they were
pub gathered_more : (nodes : Nodes) (states later gathered : List ℕ) (k parent : ℕ) → 0 < k → k ≤ nodes.count → parent < 256 → parent ≡ parent_of nodes (k - 1)
    → ((j : ℕ) → k ≤ j → get_or later j 0 ≡ get_or states j 0) → Gathered nodes states k gathered
    → Gathered nodes later (k - 1) (set gathered parent (with_child (get_or gathered parent 0) (get_or later (k - 1) 0)))
unfolding Gathered children_from some_from child_in
gathered_more nodes states later gathered k parent h l b e same g = (
  length-set gathered parent _ ∙ g.0,
  λ c m.
      by_test (parent =? c)
      (λ q.
      let u : c ≡ parent = sym (eqb-true parent c q) in
      rw (u, get_or-set_same gathered parent (with_child (get_or gathered parent 0) (get_or later (k - 1) 0)) 0 (omega (arith, g.0)), g.1 parent b)
      (child_more _ _ (get_or later (k - 1) 0) ∙ rw (more occurring parent, more paused parent, ← e, eq-eqb parent parent refl)))
      (λ q.
      rw (get_or-set_other gathered parent c (with_child (get_or gathered parent 0) (get_or later (k - 1) 0)) 0 (λ u. eqb-false parent c q (sym u)), g.1 c m)
      (rw (more occurring c, more paused c, ← e, q))),
)
  where
    more : (state c : ℕ) → some_from (child_in nodes later state c) (nodes.count - (k - 1)) (k - 1) ≡ child_in nodes later state c (k - 1) || some_from (child_in nodes states state c) (nodes.count - k) k
    more state c =
        let s : nodes.count - (k - 1) ≡ suc (nodes.count - k) = omega arith in
        let t : k - 1 + 1 ≡ k = omega arith in
        rw (s, t, from_same (child_in nodes later state c) (child_in nodes states state c) (nodes.count - k) k (λ j u. rw (same j u)))

-- ---- one turn of the settling

node_to_later : (aborting : Bool) (n new : ℕ) (r : Run) (j : ℕ) → n < j → node_state (node_to aborting n new r).state j ≡ node_state r.state j
unfolding node_to node_changed
node_to_later aborting n new r j h =
    chosen (λ (z : Run). node_state z.state j ≡ node_state r.state j) _ (λ _. refl)
    (λ _. get_or-set_other r.state.nodes.states n j new 0 (λ u. omega arith))

node_to_same : (aborting : Bool) (n new : ℕ) (r : Run) → node_state r.state n =? new ≡ true → node_to aborting n new r ≡ r
unfolding node_to node_changed transition when◌then◌else◌
node_to_same aborting n new r e = rw e

module _ (nodes : Nodes) (action target c : ℕ) (r : Run) where
  -- it leaves the states of later nodes
  pub settled_later : {z : Run} → z ≡ settled_one nodes action target c r → (j : ℕ) → c < j → node_state z.state j ≡ node_state r.state j
  unfolding settled_one
  settled_later e j h = rw e (chosen (λ (z : Run). node_state z.state j ≡ node_state r.state j) _ (λ _. refl) (λ _. node_to_later _ c _ r j h))

  module _ (children : ℕ) (e : children ≡ children_state nodes r.state.nodes.states c) where
    pub settled_moves : {z : Run} {aborting : Bool} → resettled (type_of nodes c) (node_state r.state c) children ≡ true → aborting ≡ aborts_at nodes action target c
        → z ≡ node_to aborting c children r → z ≡ settled_one nodes action target c r
    unfolding settled_one resettled when◌then◌else◌
    settled_moves t a p = by_test (is_media nodes c) (λ m. absurd (false≢true (rw m at t))) (λ m. rw (m, ← e, ← a) p)

    pub settled_stays : resettled (type_of nodes c) (node_state r.state c) children ≡ false → r ≡ settled_one nodes action target c r
    unfolding settled_one resettled when◌then◌else◌
    settled_stays t = by_test (is_media nodes c) (λ m. rw m)
        (λ m. rw (m, ← e) (sym (node_to_same _ c children r (not_false _ (rw m at t)))))
