-- The values of the properties: what actions do to them; and in the chain, after lines were taken, p has the count of the last start among them.
use Prim.Native.Nat.{ℕ, suc, ◌<◌, ◌≤◌}
use native.Mathlib.Omega.{arith}
use mathlib.Core.Bool.{Bool, true, false, ◌&&◌}
use mathlib.Core.List.{List, [], ◌∷◌, ◌++◌}
use mathlib.Core.Path.{◌≡◌, refl, ◌∙◌}
use lib.IntN.{ℤ}
use lib.ListN.{length}
use borrow.Author.Tests.{eqb-true, eqb-false, ne_eqb}
use Rattle.std.proofs.lemmas.Bool.Decides.{nat_tests}
use Rattle.base.specs.Tests.{when◌then◌else◌, ◌=?◌, by_test}
use Rattle.base.specs.Loops.{ascending, ascending_idle, ascending_turns}
use Rattle.machine.specs.Terms.{to_set, starts, of_anchor, no_id}
use Rattle.machine.specs.Tables.{link_at, action_at, action_count}
use Rattle.machine.specs.Deciding.{guard_holds}
use Rattle.machine.specs.Events.{Run, node_changed, node_to, anchor_changed, anchor_to, set_property, choice_made, performed, acted}
use Rattle.machine.specs.Tick.{ticked}
use Rattle.machine.specs.Owners.{owner_chosen}
use Rattle.machine.specs.Chain.{fires, firing_logged, goes_on, action_run, actions_run, limit_met, fired, link_tried, line_taken, chained}
use Rattle.machine.specs.Counts.{is_anchor_of, sets_in, is_count_link, is_count_link_of, is_count_link_in, count_link, count_action, count_of, is_start_of, last_count, value_of}
use Rattle.machine.specs.Sound.{Applicable, Sound}
use Rattle.machine.specs.declared.Document.{Document}
use Rattle.machine.specs.declared.ActionRecord.{ActionRecord}
use Rattle.machine.specs.declared.Line.{Line}
use Rattle.machine.proofs.Keep.{NodeMoves, Actions, moved, moves_keep, settled_keeps, ticks_keep, steps, actions, link_keeps, line_keeps, chosen, all_pass}
use Rattle.machine.proofs.Shape.{ShapedRun, shapes}
use Rattle.machine.proofs.Growing.{met_stops, chained_turns}
use Rattle.machine.proofs.Effects.{get_d_set}
use Rattle.machine.proofs.Showing.{Shows, anchor_given, last_more}

-- ---- a value that the turns of a loop set which pass a test: no turn does, or exactly turn j

module _ (test : ℕ → Bool) (value : ℕ → ℤ) (n : ℕ) (v : ℤ) where
  abbrev loop_value : ℤ
  loop_value = ascending (λ k v. when test k then value k else v) n v

  none_sets : ((k : ℕ) → k < n → test k ≡ false) → loop_value ≡ v
  unfolding when◌then◌else◌
  none_sets none = ascending_idle _ n v (λ k h. rw (none k h))

  one_sets : (j : ℕ) → j < n → test j ≡ true → ((k : ℕ) → k < n → test k ≡ true → k ≡ j) → loop_value ≡ value j
  unfolding when◌then◌else◌
  one_sets j h passes only =
      ascending_turns (λ k (w : ℤ). j < k → w ≡ value j) n v (λ l. absurd (omega arith))
      (λ k w i q l. grind (arith, nat_tests, only k i))
      h

module _ (d : Document) (sound : Sound d) (p : ℕ) where
  -- ---- moves keep the value, a set of p changes it

  abbrev ValueIs : ℤ → Run → Type 0
  ValueIs v r = value_of r.state p ≡ v

  values_kept : (v : ℤ) → NodeMoves d (ValueIs v)
  unfolding node_to node_changed anchor_to anchor_changed choice_made
  values_kept v = moved d (ValueIs v) (record {
    node = λ aborting n new r _ k. chosen (ValueIs v) _ (λ _. k) (λ _. k);
    anchor = λ aborting a new r _ k. chosen (ValueIs v) _ (λ _. k) (λ _. k);
    clock = λ n clock r _ k. k;
    choice = λ n c r _ k. k;
  })

  module _ (a : ActionRecord) (r : Run) (t : Applicable d a) (s : ShapedRun d r) where
    performed_value : value_of (performed d a r).state p ≡ (when a.action =? to_set && a.target =? p then a.value else value_of r.state p)
    unfolding performed set_property when◌then◌else◌
    performed_value =
        by_test (a.action =? to_set)
        (λ e. rw e (get_d_set r.state.properties.values a.target p a.value _ (omega (arith, sound.properties, s.properties.0.len, t.property (eqb-true a.action to_set e)))))
        (λ e. moves_keep d (ValueIs (value_of r.state p)) sound (values_kept _) a r t (λ q. absurd (eqb-false _ _ e q)) refl ∙ rw e)

    pub acted_value : value_of (acted d a r).state p ≡ (when a.action =? to_set && a.target =? p then a.value else value_of r.state p)
    unfolding acted
    acted_value = settled_keeps d (ValueIs _) sound (values_kept _) _ _ _ performed_value

  pub ticked_value : (r : Run) → value_of (ticked d r).state p ≡ value_of r.state p
  ticked_value r = ticks_keep d (ValueIs _) sound (values_kept _) r refl

  shape_kept : Actions d (ShapedRun d)
  shape_kept = actions d _ sound (steps d _ (shapes d))

  -- p after the first n actions of link l
  abbrev actions_value : ℕ → ℕ → ℤ → ℤ
  actions_value l n v = loop_value (sets_in d p l) (λ j. (action_at d.actions l j).value) n v

  actions_value_lem : (l : ℕ) (r : Run) → l < d.links.count → ShapedRun d r → (actions_run d l r).log.stop ≡ 0
      → value_of (actions_run d l r).state p ≡ actions_value l (action_count d.links l) (value_of r.state p)
  unfolding actions_run action_run goes_on sets_in ascending
  actions_value_lem l r h s =
      let After : ℕ → Run → Type 0 = λ j y. ShapedRun d y × (y.log.stop ≡ 0 → value_of y.state p ≡ actions_value l j (value_of r.state p)) in
      (ascending_turns After {step = action_run d l} _ r (s, λ _. refl)
      (λ j y i k. let t = sound.link_action l j h i in chosen (After (suc j)) (goes_on y)
      (λ e. (shape_kept.action _ y t k.0, λ _. rw (← k.1 (eqb-true _ _ e)) (acted_value _ y t k.0)))
      (λ e. (k.0, λ f. absurd (eqb-false _ _ e f))))
      ).1

  -- ---- a line: the count link of an anchor's start fires, and no other link sets p

  module _ (m : ℕ) (showing : Shows d m p) where
    -- link l is on line x: its class, subject and transition are those of the line
    abbrev matches : Line → ℕ → Bool
    matches x l = (link_at d.links l).class =? x.class && (link_at d.links l).subject =? x.id && (link_at d.links l).transition =? x.transition

    -- and is one that sets p on the start of an anchor of m
    abbrev sets_count : Line → ℕ → Bool
    sets_count x l = matches x l && is_count_link_in d m p l

    -- exactly where x is the start of an anchor of m, and the link that anchor's
    sets_at_start : (x : Line) (l : ℕ) → sets_count x l ≡ (is_start_of d m x && is_count_link_of d p x.id l)
    unfolding is_start_of is_count_link_of is_count_link_in is_count_link
    sets_at_start x l = grind (arith, nat_tests)

    -- the count that link l sets p to
    abbrev count_of_link : ℕ → ℤ
    count_of_link l = (action_at d.actions l (count_action d p l)).value

    module _ (x : Line) (v : ℤ) (l : ℕ) (y : Run) (h : l < d.links.count) (k : ShapedRun d y) (q : y.log.stop ≡ 0 → value_of y.state p ≡ v) where
      -- what p has after link l was tried on line x
      abbrev tried : ℤ
      tried = when sets_count x l then count_of_link l else v

      abbrev Tried : Run → Type 0
      Tried z = z.log.stop ≡ 0 → value_of z.state p ≡ tried

      fired_value : matches x l ≡ true → y.log.stop ≡ 0 → Tried (actions_run d l (firing_logged l y))
      unfolding firing_logged count_action when◌then◌else◌
      fired_value on f done =
          actions_value_lem l (firing_logged l y) h k done
          ∙ by_test (is_count_link_in d m p l)
          (λ c. let one = showing.action l h c in rw (on, c) (one_sets (sets_in d p l) _ _ _ _ one.below one.passes one.only))
          (λ c. rw (on, c) (none_sets (sets_in d p l) _ _ _ (showing.other l h c) ∙ q f))

      idle_value : fires owner_chosen d y.state x l ≡ false → Tried y
      unfolding fires owner_chosen guard_holds when◌then◌else◌
      idle_value e f = grind (arith, nat_tests, showing.chosen l h, showing.unguarded l h)

      link_value : Tried (link_tried owner_chosen d x l y)
      unfolding link_tried goes_on fired limit_met fires when◌then◌else◌
      link_value f = grind (arith, nat_tests, fired_value, idle_value, met_stops 11 y.log)

    -- ---- the lines: p has the count of the last start among those that were taken

    abbrev HasLastCount : ℤ → List Line → Run → Type 0
    HasLastCount before ls r = r.log.stop ≡ 0 → value_of r.state p ≡ last_count d m p before ls

    line_value : (before : ℤ) (ls : List Line) (x : Line) (r : Run) → ShapedRun d r → HasLastCount before ls r → HasLastCount before (ls ++ (x ∷ [])) (line_taken owner_chosen d x r)
    unfolding line_taken last_count count_of count_link is_start_of ascending when◌then◌else◌
    line_value before ls x r k q f =
        let v = last_count d m p before ls in
        (ascending_turns (λ l (y : Run). ShapedRun d y × (y.log.stop ≡ 0 → value_of y.state p ≡ loop_value (sets_count x) count_of_link l v)) {step = link_tried owner_chosen d x} d.links.count r
        (k, q)
        (λ l y h w. (link_keeps d _ sound shape_kept owner_chosen x l y h w.0, link_value x _ l y h w.0 w.1))
        ).1 f
        ∙ rw (last_more d m no_id ls x)
        (by_test (is_start_of d m x)
        (λ e.
        let given = (all_pass (x.class =? of_anchor) (x.transition =? starts) (is_anchor_of d.anchors m x.id) e).2 in
        let one = showing.link x.id given in
        rw (e, ne_eqb x.id no_id (λ w. omega (arith, sound.anchors, (anchor_given d.anchors m x.id given).0)))
        (one_sets (sets_count x) count_of_link d.links.count v _ one.below (rw (sets_at_start x _, e) one.passes) (λ l h t. one.only l h (rw (sets_at_start x l, e) at t))))
        (λ e. rw e (none_sets (sets_count x) count_of_link d.links.count v (λ l h. rw (sets_at_start x l, e)))))

    pub chained_value : (before : ℤ) (h : List Line) (r : Run) → ShapedRun d r → length r.log.lines ≤ r.log.room → HasLastCount before h r → HasLastCount before (h ++ (chained owner_chosen d r).log.lines) (chained owner_chosen d r)
    chained_value before h r shaped fits q f =
        (chained_turns owner_chosen d sound (λ ls r. ShapedRun d r × HasLastCount before ls r) (λ ls x r k. (line_keeps d _ sound shape_kept owner_chosen x r k.0, line_value before ls x r k.0 k.1)) h r fits (shaped, q) f).1 f
