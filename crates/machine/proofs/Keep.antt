-- What every step of the machine keeps, every call keeps: one walk over the machine, for any property of runs.
-- A property enters at the layer where it holds: at the smallest steps, at whole steps of a node, or at whole actions.
use Prim.Native.Nat.{ℕ, zero, suc, ◌<◌, ◌≤◌}
use mathlib.Core.Bool.{Bool, true, false, ◌&&◌}
use mathlib.Core.Path.{◌≡◌, refl}
use lib.IntN.{ℤ}
use native.Mathlib.Omega.{arith}
use Rattle.base.specs.Tests.{when◌then◌else◌, ◌=?◌}
use Rattle.base.specs.Loops.{ascending, ascending_turns, descending_turns}
use Rattle.machine.specs.Terms.{paused, to_start, to_abort, to_set}
use Rattle.machine.specs.Tables.{is_media, anchor_at, action_count}
use Rattle.machine.specs.Events.{Run, node_state, anchor_state, next_state, with_state, node_to, anchor_to, set_property, follows, anchor_moved, anchors_moved, media_to, media_moved, choice_made, port_started, context_started, switch_started, started_one, started, moved_below, all_moved, children_state, settled_one, settled, performed, acted}
use Rattle.machine.specs.Tick.{with_clock, anchors_passed, passed, ticked_one, ticked, keyed}
use Rattle.machine.specs.Owners.{OwnerTest}
use Rattle.machine.specs.Chain.{firing_logged, action_run, actions_run, limit_met, fired, link_tried, line_taken, lines_taken, chained}
use Rattle.machine.specs.Broken.{choice_right}
use Rattle.machine.specs.Sound.{Applicable, Sound}
use Rattle.machine.specs.declared.Document.{Document}
use Rattle.machine.specs.declared.ActionRecord.{ActionRecord}
use Rattle.machine.specs.declared.Line.{Line}
use Rattle.machine.proofs.SoundTables.{bind_own}

-- a choice, with what its test tells
pub chosen : {A : Type 0} (P : A → Type 0) (b : Bool) {x y : A} → (b ≡ true → P x) → (b ≡ false → P y) → P (when b then x else y)
unfolding when◌then◌else◌
chosen P true p q = p refl
chosen P false p q = q refl

-- three tests that all pass
pub all_pass : (a b c : Bool) → a && b && c ≡ true → (a ≡ true) × (b ≡ true) × (c ≡ true)
all_pass a b c e = grind arith

module _ (d : Document) (P : Run → Type 0) where
  -- the steps that change no state
  pub record Lines : Type 0 where
    pub key : (code : ℕ) (r : Run) → P r → P (keyed code r)
    pub firing : (l : ℕ) (r : Run) → r.firings < d.limit → P r → P (firing_logged l r)
    pub limit : (r : Run) → P r → P (limit_met r)

  -- the smallest moves: those of a node, an anchor, a clock, a choice
  pub record Moves : Type 0 where
    pub node : (aborting : Bool) (n new : ℕ) (r : Run) → n < d.nodes.count → P r → P (node_to aborting n new r)
    pub anchor : (aborting : Bool) (a new : ℕ) (r : Run) → a < d.anchors.count → P r → P (anchor_to aborting a new r)
    pub clock : (n clock : ℕ) (r : Run) → n < d.nodes.count → P r → P (with_state (with_clock n clock r.state) r.log r)
    pub choice : (n c : ℕ) (r : Run) → choice_right d.nodes n c ≡ true → P r → P (choice_made n c r)

  -- the smallest steps
  pub record Primitives : Type 0 where
    pub moves : Moves
    pub property : (p : ℕ) (value : ℤ) (r : Run) → p < d.properties → P r → P (set_property p value r)
    pub lines : Lines

  -- the moves of a node, each whole
  pub record NodeMoves : Type 0 where
    pub media : (action n : ℕ) (r : Run) → to_start ≤ action → n < d.nodes.count → is_media d.nodes n ≡ true → P r → P (media_moved d.anchors action n r)
    pub tick : (n : ℕ) (r : Run) → n < d.nodes.count → P r → P (ticked_one d n r)
    pub composite : (aborting : Bool) (c new : ℕ) (r : Run) → c < d.nodes.count → is_media d.nodes c ≡ false → new ≤ paused → P r → P (node_to aborting c new r)
    pub choice : (n c : ℕ) (r : Run) → choice_right d.nodes n c ≡ true → P r → P (choice_made n c r)

  -- the steps of a node, each whole
  pub record Steps : Type 0 where
    pub moves : NodeMoves
    pub property : (p : ℕ) (value : ℤ) (r : Run) → p < d.properties → P r → P (set_property p value r)
    pub lines : Lines

  -- the actions, each settled
  pub record Actions : Type 0 where
    pub action : (a : ActionRecord) (r : Run) → Applicable d a → P r → P (acted d a r)
    pub tick : (r : Run) → P r → P (ticked d r)
    pub lines : Lines

  each : (n : ℕ) {step : ℕ → Run → Run} → ((k : ℕ) (r : Run) → k < n → P r → P (step k r)) → (r : Run) → P r → P (ascending step n r)
  each n keep r p = ascending_turns (λ _. P) n r p keep

  -- the anchors that move, each by itself; all those of media n; the media with them, in either order
  abbrev AnchorsKeep : (ℕ → ℕ → ℕ → Bool) → Bool → ℕ → Type 0
  AnchorsKeep moves aborting new =
      (a : ℕ) (r : Run) → a < d.anchors.count → moves (anchor_at d.anchors a).begin (anchor_at d.anchors a).end (anchor_state r.state a) ≡ true → P r → P (anchor_to aborting a new r)

  pub pass_keeps : (moves : ℕ → ℕ → ℕ → Bool) (aborting : Bool) (n new : ℕ) → AnchorsKeep moves aborting new → (r : Run) → P r → P (anchors_moved d.anchors moves aborting n new r)
  unfolding anchors_moved anchor_moved when◌then◌else◌
  pass_keeps moves aborting n new keep = each _ (grind (arith, keep))

  pub media_keeps : (action n : ℕ) (r : Run) → let new = next_state (node_state r.state n) action in
      ((x : Run) → P x → P (node_to (action =? to_abort) n new x)) → AnchorsKeep (follows action) (action =? to_abort) new → P r → P (media_moved d.anchors action n r)
  unfolding media_moved media_to when◌then◌else◌
  media_keeps action n r node keep p =
      let pass = pass_keeps (follows action) (action =? to_abort) n (next_state (node_state r.state n) action) keep in
      grind (arith, node, pass)

  module _ (k : Moves) where
    media_moves_keep : (action n : ℕ) (r : Run) → n < d.nodes.count → P r → P (media_moved d.anchors action n r)
    media_moves_keep action n r h p = grind (arith, media_keeps, k.node, k.anchor)

    pub anchors_passed_keep : (n clock : ℕ) (r : Run) → n < d.nodes.count → P r → P (anchors_passed d n clock r)
    unfolding anchors_passed
    anchors_passed_keep n clock r h p = grind (arith, pass_keeps, k.anchor)

    pub passed_keeps : (n clock : ℕ) (r : Run) → n < d.nodes.count → P r → P (passed d n clock r)
    unfolding passed when◌then◌else◌
    passed_keeps n clock r h p = grind (arith, anchors_passed_keep, media_moves_keep)

    pub moved : NodeMoves
    unfolding ticked_one when◌then◌else◌
    moved = grind (arith, media_moves_keep, passed_keeps)

  pub steps : Primitives → Steps
  steps k = record { moves = moved k.moves; property = k.property; lines = k.lines }

  module _ (sound : Sound d) (k : NodeMoves) where
    started_keeps : (levels n : ℕ) (r : Run) → n < d.nodes.count → P r → P (started d levels n r)
    unfolding started started_one context_started port_started switch_started choice_right when◌then◌else◌
    started_keeps zero n r h p = p
    started_keeps (suc levels) n r h p =
        let start = started_keeps levels in
        let ports = each d.ports.count {step = port_started d (started d levels) n} (grind (arith, start, sound.port_child)) r p in
        let own = bind_own d r.state.properties.values n _ refl in
        grind (arith, start, own, sound.bind_choice, sound.bind_child)

    -- an action, where it keeps the property if it sets one
    pub moves_keep : (a : ActionRecord) (r : Run) → Applicable d a → (a.action ≡ to_set → P (set_property a.target a.value r)) → P r → P (performed d a r)
    unfolding performed all_moved moved_below when◌then◌else◌
    moves_keep a r t set p =
        let all = each d.nodes.count {step = moved_below d a.action a.target} (grind arith) r p in
        grind (arith, started_keeps)

    pub media_ticked_keeps : (r : Run) → P r → P (ascending (ticked_one d) d.nodes.count r)
    media_ticked_keeps = each _ k.tick

    pub settled_keeps : (action target : ℕ) (r : Run) → P r → P (settled d.nodes action target r)
    unfolding settled settled_one children_state when◌then◌else◌
    settled_keeps action target r p = descending_turns (λ _. P) _ r p (grind (arith, k.composite))

    pub ticks_keep : (r : Run) → P r → P (ticked d r)
    unfolding ticked
    ticks_keep r p = settled_keeps _ _ _ (media_ticked_keeps r p)

  module _ (sound : Sound d) (k : Steps) where
    pub performed_keeps : (a : ActionRecord) (r : Run) → Applicable d a → P r → P (performed d a r)
    performed_keeps a r t p = grind (arith, moves_keep)

    pub actions : Actions
    unfolding acted
    actions = record {
      action = λ a r t p. settled_keeps sound k.moves _ _ _ (performed_keeps a r t p);
      tick = ticks_keep sound k.moves;
      lines = k.lines;
    }

  module _ (sound : Sound d) (k : Actions) where
    fired_keeps : (l : ℕ) (r : Run) → l < d.links.count → P r → P (fired d l r)
    unfolding fired actions_run action_run when◌then◌else◌
    fired_keeps l r h p =
        let actions = each (action_count d.links l) {step = action_run d l} (grind (arith, sound.link_action)) in
        grind (arith, actions)

    pub link_keeps : (admits : OwnerTest) (x : Line) (l : ℕ) (r : Run) → l < d.links.count → P r → P (link_tried admits d x l r)
    unfolding link_tried when◌then◌else◌
    link_keeps admits x l r h p = grind (arith, fired_keeps)

    pub line_keeps : (admits : OwnerTest) (x : Line) (r : Run) → P r → P (line_taken admits d x r)
    unfolding line_taken
    line_keeps admits x = each _ (link_keeps admits x)

    lines_keep : (admits : OwnerTest) (most i : ℕ) (r : Run) → P r → P (lines_taken admits d most i r)
    unfolding lines_taken when◌then◌else◌
    lines_keep admits zero i r p = p
    lines_keep admits (suc most) i r p = grind (arith, line_keeps, lines_keep admits most)

    pub chained_keeps : (admits : OwnerTest) (r : Run) → P r → P (chained admits d r)
    unfolding chained
    chained_keeps admits r p = lines_keep admits _ 0 r p
