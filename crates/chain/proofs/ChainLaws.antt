-- Laws of the chain: a link that is tried, and a line that is taken.
use Rattle.std.specs.Prelude.{◌≡◌, Bool, true, false, ◌&&◌, ℕ, suc, ◌+◌, ◌-◌, ◌<◌, ◌≤◌, length, get_or}
use Rattle.std.proofs.Common.{sym, ◌∙◌, arith}
use Rattle.std.proofs.Math.Bool.{and-false, and_assoc}
use borrow.Author.Tests.{lt-ltb, le-ltb}
use Rattle.base.specs.Tests.{when◌then◌else◌, ◌=?◌, ◌<?◌, by_test}
use Rattle.base.specs.Loops.{ascending_idle}
use Rattle.machine.specs.Tables.{link_at}
use Rattle.machine.specs.Log.{line}
use Rattle.machine.specs.Events.{Run}
use Rattle.machine.specs.Owners.{owner_chosen}
use Rattle.machine.specs.Chain.{fires, goes_on, action_run, actions_run, limit_met, fired, link_tried, line_taken, lines_taken}
use Rattle.machine.specs.declared.Document.{Document}
use Rattle.machine.specs.declared.Line.{Line}
use Rattle.chain.specs.Trying.{may_fire, firing_begun}

-- once something stops the call no action runs
actions_idle : (d : Document) (l : ℕ) (r : Run) → goes_on r ≡ false → actions_run d l r ≡ r
unfolding actions_run action_run when◌then◌else◌
actions_idle d l r e = ascending_idle _ _ _ (λ k h. rw e)

limit_stops : (r : Run) → goes_on (limit_met r) ≡ false
unfolding goes_on limit_met when◌then◌else◌
limit_stops r = by_test (r.log.stop =? 0) (λ e. rw e) (λ e. rw (e, e))

-- a firing is what it does before its actions, and then its actions
begun_fired : (d : Document) (l : ℕ) (r : Run) → actions_run d l (firing_begun d.limit l r) ≡ fired d l r
unfolding firing_begun fired when◌then◌else◌
begun_fired d l r = by_test (r.firings <? d.limit) (λ e. rw e) (λ e. rw e (actions_idle d l _ (limit_stops r)))

-- a link that does not hear the line, one that hears it and may not fire, and one that fires
module _ (d : Document) (x : Line) (l : ℕ) (r : Run) where
  abbrev hearing : Bool
  hearing = (link_at d.links l).class =? x.class && (link_at d.links l).subject =? x.id && (link_at d.links l).transition =? x.transition

  pub tried_deaf : hearing ≡ false → link_tried owner_chosen d x l r ≡ r
  unfolding fires link_tried when◌then◌else◌
  tried_deaf h = rw (h, and-false)

  asked : hearing ≡ true → goes_on r && fires owner_chosen d r.state x l ≡ may_fire d l r
  unfolding fires may_fire
  asked h = rw h (sym (and_assoc (goes_on r) _ _))

  pub tried_held : hearing ≡ true → may_fire d l r ≡ false → link_tried owner_chosen d x l r ≡ r
  unfolding link_tried when◌then◌else◌
  tried_held h m = rw (asked h ∙ m)

  pub tried_fires : hearing ≡ true → may_fire d l r ≡ true → link_tried owner_chosen d x l r ≡ actions_run d l (firing_begun d.limit l r)
  unfolding link_tried when◌then◌else◌
  tried_fires h m = rw (asked h ∙ m) (sym (begun_fired d l r))

-- a line is taken, or the chain ends
module _ (d : Document) (n k : ℕ) (r : Run) where
  pub chain_more : k < n → goes_on r ≡ true → k < length r.log.lines
      → lines_taken owner_chosen d (n - k) k r ≡ lines_taken owner_chosen d (n - (k + 1)) (k + 1) (line_taken owner_chosen d (get_or r.log.lines k (line 0 0 0)) r)
  unfolding lines_taken when◌then◌else◌
  chain_more h g l =
      let s : n - k ≡ suc (n - (k + 1)) = omega arith in
      rw (s, g, lt-ltb k (length r.log.lines) l)

  pub chain_stopped : k < n → goes_on r ≡ false → lines_taken owner_chosen d (n - k) k r ≡ r
  unfolding lines_taken when◌then◌else◌
  chain_stopped h g =
      let s : n - k ≡ suc (n - (k + 1)) = omega arith in
      rw (s, g)

  pub chain_ended : k < n → length r.log.lines ≤ k → lines_taken owner_chosen d (n - k) k r ≡ r
  unfolding lines_taken when◌then◌else◌
  chain_ended h l =
      let s : n - k ≡ suc (n - (k + 1)) = omega arith in
      rw (s, le-ltb k (length r.log.lines) l, and-false)

  pub chain_done : n ≤ k → lines_taken owner_chosen d (n - k) k r ≡ r
  unfolding lines_taken
  chain_done h =
      let s : n - k ≡ 0 = omega arith in
      rw s
