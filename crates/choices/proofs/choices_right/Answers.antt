-- What the check leaves open of `choices::choices_right`. Assumes nothing.
use Rattle.std.proofs.Common.{rules, get_or}
use Rattle.base.specs.Ranges.{all_every}
use Rattle.machine.specs.Broken.{choice_right, choices_right}
use Rattle.choices.proofs.choices_right.Goals as goal

pub returns : goal.returns
unfolding choices_right
returns c = all_every (λ n. choice_right c.args.nodes.now n (get_or c.args.choices.now n 0)) 64 c.all.ensures.ran (λ n right f k. search rules)
