-- What the check leaves open of `table_check::anchors_obey`. Assumes nothing.
use Rattle.std.proofs.Common.{rules}
use Rattle.base.specs.Ranges.{all_every}
use Rattle.machine.specs.Broken.{anchor_obeys}
use Rattle.table_check.proofs.Passed.{passed}
use Rattle.table_check.proofs.anchors_obey.Goals as goal

pub returns-then-d-le128 : goal.returns-then-d-le128
unfolding anchor_obeys
returns-then-d-le128 c = let d = c.args.d.now in all_every (anchor_obeys d) d.anchors.count c.all.ensures.ran (λ i obeys f k. search (rules, passed))
