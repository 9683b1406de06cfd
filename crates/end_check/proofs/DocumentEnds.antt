-- What is known of the actions before they are looked at: a link past the end has none, and one that obeys is not 0.
use Rattle.std.specs.Prelude.{true, ◌≡◌, refl, ℕ, zero, suc, ◌+◌, ◌-◌, ◌≤◌, get_or, drop, []}
use Rattle.std.proofs.Common.{arith}
use Rattle.std.proofs.lemmas.Bool.{ltb-true, ltb-false, eqb-true}
use Rattle.std.proofs.lemmas.List.{get_or-drop}
use Rattle.base.specs.Tests.{by_test, ◌=?◌, ◌<?◌}
use Rattle.machine.specs.declared.Document.{Document}
use Rattle.machine.specs.Tables.{link_table, numbers}
use Rattle.machine.specs.Broken.{tables_obey, all, zero_from, ends_zero}
use Rattle.machine.specs.Sound.{Sound}
use Rattle.machine.proofs.SoundTables.{sound}
use Rattle.end_check.specs.Places.{Used}
use Rattle.end_check.proofs.Zeros.{all_each}

none : (n : ℕ) → zero_from n (numbers []) ≡ true
unfolding all
none zero = refl
none (suc n) = refl

pub used : (d : Document) → tables_obey d ≡ true → ends_zero (link_table d.links) ≡ true → Used d.links.action_counts d.actions.actions
used d obey ends = record {
  few = λ l. by_test (l <? d.links.count) (λ h. tables.actions l (ltb-true l d.links.count h)) (λ h. rw (gone l (ltb-false l d.links.count h)) (omega arith));
  some = λ l j b. by_test (l <? d.links.count)
      (λ h. omega (arith, (tables.link_action l j (ltb-true l d.links.count h) b).least))
      (λ h. absurd (omega (arith, rw (gone l (ltb-false l d.links.count h)) at b)));
}
  where
    tables : Sound d
    tables = sound d obey

    gone : (l : ℕ) → d.links.count ≤ l → get_or d.links.action_counts l 0 ≡ 0
    gone l h =
        let s : d.links.count + (l - d.links.count) ≡ l = omega arith in
        let zeros = all_each (zero_from d.links.count) (numbers []) (none d.links.count) (link_table d.links).columns ends 5 in
        let zero = all_each (λ x. x =? 0) 0 refl (drop d.links.count d.links.action_counts) zeros (l - d.links.count) in
        eqb-true _ 0 (rw (get_or-drop d.links.count d.links.action_counts (l - d.links.count) 0, s) at zero)
