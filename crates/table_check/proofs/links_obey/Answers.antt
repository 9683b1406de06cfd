-- What the check leaves open of `table_check::links_obey`. Assumes nothing.
use Rattle.std.proofs.Common.{rules}
use Rattle.base.specs.Ranges.{all_every}
use Rattle.machine.specs.Broken.{link_obeys}
use Rattle.table_check.proofs.links_obey.Goals as goal

pub returns-then-d-le64 : goal.returns-then-d-le64
returns-then-d-le64 c = let d = c.args.d.now in all_every (link_obeys d) d.links.count c.all.ensures.ran (λ i obeys f k. search rules)
