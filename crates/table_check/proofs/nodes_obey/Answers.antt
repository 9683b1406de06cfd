-- What the check leaves open of `table_check::nodes_obey`. Assumes nothing.
use Rattle.std.proofs.Common.{rules}
use Rattle.base.specs.Ranges.{all_every}
use Rattle.machine.specs.Broken.{node_obeys}
use Rattle.table_check.proofs.Passed.{passed}
use Rattle.table_check.proofs.nodes_obey.Goals as goal

pub returns-then-d-le64 : goal.returns-then-d-le64
unfolding node_obeys
returns-then-d-le64 c = let d = c.args.d.now in all_every (node_obeys d) d.nodes.count c.all.ensures.ran (λ i obeys f k. search (rules, passed))
