-- What the check leaves open of `table_check::actions_obey`. Assumes nothing.
use Rattle.std.proofs.Common.{rules}
use Rattle.base.specs.Ranges.{all_every}
use Rattle.machine.specs.Broken.{action_obeys}
use Rattle.table_check.proofs.Passed.{passed}
use Rattle.table_check.proofs.actions_obey.Goals as goal

pub returns-then-count-le8 : goal.returns-then-count-le8
unfolding action_obeys
returns-then-count-le8 c = rw (← c.from-count.ensures) (all_every (action_obeys c.args.d.now c.args.link) c.from-count.result c.all.ensures.ran (λ j obeys f k. search (rules, passed)))
