-- What the check leaves open of `end_check::links_end_zero`. Assumes nothing.
use Rattle.std.proofs.Common.{sym, ◌∙◌}
use Rattle.end_check.proofs.DocumentEnds.{used}
use Rattle.end_check.proofs.links_end_zero.Goals as goal

pub action_ends_zero-requires : goal.action_ends_zero-requires
action_ends_zero-requires c = used c.args.d.now c.requires (sym c.link_ends_zero.ensures ∙ c.if-link_ends_zero.true)
