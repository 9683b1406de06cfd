-- Where a document shows counts, the link and the action that give an anchor's count are there.
use Rattle.std.specs.Prelude.{true, ◌≡◌, refl, ℕ, ◌<◌}
use Rattle.std.proofs.Common.{arith}
use Rattle.std.proofs.lemmas.Bool.{eqb-true}
use Rattle.base.specs.Tests.{◌=?◌, both_pass, pass_both}
use Rattle.machine.specs.Tables.{anchor_at, link_at}
use Rattle.machine.specs.Counts.{is_anchor_of, is_count_link_of, is_count_link_in, shows_counts, count_link, count_action}
use Rattle.machine.specs.Sound.{Sound}
use Rattle.machine.specs.declared.Document.{Document}
use Rattle.machine.proofs.Showing.{shows, is_anchor}

record Place (d : Document) (p l : ℕ) : Type 0 where
  link : l < d.links.count
  action : count_action d p l < 8

module _ (d : Document) (p a : ℕ) (sound : Sound d) (h : a < d.anchors.count) (e : shows_counts d (anchor_at d.anchors a).media p ≡ true) where
  place : Place d p (count_link d p a)
  unfolding count_link count_action is_count_link_of is_count_link_in
  place =
      let m = (anchor_at d.anchors a).media in
      let facts = shows d m p e in
      let own = is_anchor d.anchors m a h refl in
      let one = facts.link a own in
      let subject = (link_at d.links (count_link d p a)).subject in
      let link = both_pass (subject =? a) _ one.passes in
      let inside = pass_both (is_anchor_of d.anchors m subject) _ (rw (eqb-true subject a link.0) own) link.1 in
      let action = (facts.action (count_link d p a) one.below inside).below in
      let actions = sound.actions _ one.below in
      record { link = one.below; action = omega arith }

  pub link_given : count_link d p a < d.links.count
  link_given = place.link

  pub action_given : count_action d p (count_link d p a) < 8
  action_given = place.action
