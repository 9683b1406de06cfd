-- Laws of the walk up a path: its end, one step, and what it finds where no switch has chosen.
use Rattle.std.specs.Prelude.{Bool, true, ◌&&◌, ◌≡◌, refl, ℕ, zero, suc, ◌<◌, ◌≤◌, replicate}
use Rattle.std.proofs.Common.{sym, ◌∙◌, arith, eq-eqb, ne_eqb}
use Rattle.std.proofs.Math.Bool.{or-false}
use Rattle.std.proofs.lemmas.Bool.{eqb-false, false≢true}
use Rattle.base.specs.Tests.{when◌then◌else◌, ◌=?◌, by_test}
use Rattle.base.specs.Marks.{zero_at}
use Rattle.machine.specs.Tables.{parent_of}
use Rattle.machine.specs.Owners.{each_up, on_path, is_chosen, outside_switches, path_chosen}
use Rattle.machine.specs.Sound.{SoundNodes}
use Rattle.machine.specs.declared.Nodes.{Nodes}
use Rattle.machine.proofs.Paths.{weaker_up, outside_chosen}
use Rattle.choices.specs.Parents.{Earlier}

module _ (nodes : Nodes) (test : ℕ → Bool) where
  -- at node 0 the path ends
  pub path_ends : (steps n : ℕ) → n ≤ 0 → each_up nodes test steps n ≡ true
  unfolding each_up when◌then◌else◌
  path_ends zero n z = refl
  path_ends (suc steps) n z = rw (eq-eqb n 0 (omega arith))

  module _ (last : ℕ) (earlier : Earlier nodes.parents last) where
    -- more steps than the id change nothing
    path_steps : (f g n : ℕ) → n ≤ last → n ≤ f → n ≤ g → each_up nodes test f n ≡ each_up nodes test g n
    unfolding each_up when◌then◌else◌
    path_steps zero g n h a b = sym (path_ends g n a)
    path_steps (suc f) zero n h a b = path_ends (suc f) n b
    path_steps (suc f) (suc g) n h a b =
        by_test (n =? 0)
        (λ e. rw e)
        (λ e.
        let p = earlier.parent n (omega (arith, eqb-false n 0 e)) h in
        rw (path_steps f g (parent_of nodes n) (omega arith) (omega arith) (omega arith)))

    -- one step up
    pub path_more : (n : ℕ) → 0 < n → n ≤ last → on_path nodes test n ≡ (test n && on_path nodes test (parent_of nodes n))
    unfolding each_up when◌then◌else◌
    path_more zero z h = absurd (omega arith)
    path_more (suc n) z h =
        let p = earlier.parent (suc n) (omega arith) h in
        rw (ne_eqb (suc n) 0 (λ e. omega arith), path_steps n (parent_of nodes (suc n)) (parent_of nodes (suc n)) (omega arith) (omega arith) (omega arith))

-- where no switch has chosen, the path is chosen exactly if no switch lies above
pub path_unchosen : (nodes : Nodes) (n : ℕ) → path_chosen nodes (replicate 64 0) n ≡ outside_switches nodes n
unfolding path_chosen outside_switches is_chosen
path_unchosen nodes n =
    by_test (outside_switches nodes n)
    (λ e. outside_chosen nodes n e (replicate 64 0) ∙ sym e)
    (λ e. by_test (path_chosen nodes (replicate 64 0) n)
    (λ f.
    let none = weaker_up nodes _ _ (λ k h t. rw (zero_at 64 (parent_of nodes k), ne_eqb 0 k (λ q. omega arith), or-false) at t) n n f in
    absurd (false≢true (sym e ∙ none)))
    (λ f. f ∙ sym e))

-- what `path_chosen` asks, in sound tables
pub path_asked : {nodes : Nodes} {owner : ℕ} → SoundNodes nodes → owner < nodes.count → (owner < 64) × Earlier nodes.parents owner
path_asked sound h = (omega (arith, sound.few), record { parent = λ n z l. sound.earlier n z (omega arith) })
