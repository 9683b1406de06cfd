-- What the check leaves open of `chain::try_link`. Assumes nothing.
use Rattle.std.proofs.Common.{sym, ◌∙◌}
use Rattle.machine.specs.Events.{Run}
use Rattle.events.specs.Running.{run}
use Rattle.chain.proofs.ChainLaws.{tried_deaf, tried_held, tried_fires}
use Rattle.chain.proofs.try_link.Goals as goal
use Rattle.chain.proofs.try_link.Goals.{else-hears-via-then-hears+else-may_fire, else-hears-via-else-hears}

pub returns-then-may_fire : goal.returns-then-may_fire
returns-then-may_fire c =
    let before : Run = run c.args.w.now c.args.log.now in
    let fires = tried_fires c.args.d.now.document c.args.x c.args.l before (sym c.hears.ensures ∙ c.if-hears.true) (sym (c.may_fire.ensures _) ∙ c.if-may_fire.true) in
    rw (fires, ← c.begin_firing.ensures) c.run_actions.ensures

pub returns-else-hears : goal.returns-else-hears
returns-else-hears c =
    elim c.else-hears.branch [
      | else-hears-via-then-hears+else-may_fire w ↦ sym (tried_held _ _ _ _ (sym c.hears.ensures ∙ w.if-hears.true) (sym (w.may_fire.ensures _) ∙ w.if-may_fire.false))
      | else-hears-via-else-hears w ↦ sym (tried_deaf _ _ _ _ (sym c.hears.ensures ∙ w.if-hears.false))
    ]
