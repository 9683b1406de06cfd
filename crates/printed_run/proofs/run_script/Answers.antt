-- `printed_run::run_script` meets its contract: session and number go on from part to part.
use Rattle.std.proofs.Common.{[], arith, length-take}
use Rattle.script_run.proofs.Scripts.{none_run}
use Rattle.printed_run.proofs.Parts.{reached_on}
use Rattle.printed_run.proofs.run_script.Goals as goal

pub loop-init : goal.loop-init
loop-init g c = (record { script = _; printed = []; goes_on = none_run }, omega arith)

pub loop-preserved : goal.loop-preserved
loop-preserved g c =
    let held = c.in-Some.ensures.held in (
      rw held.begins (reached_on c.loop.invariant.0 c.run_part-ran.ensures (λ e. cc (c.in-Some.ensures.ended e)) held.more),
      omega (arith, length-take c.loop.script.held c.loop.script.part, c.run_part-ran.ensures.used, c.run_part-ran.ensures.next),
    )

pub returns-in_default : goal.returns-in_default
returns-in_default g c = λ h. (_, reached_on c.loop.invariant.0 c.run_part-ran.ensures h [])
