-- What the check leaves open of `call_log::Written::emit`. Assumes nothing.
use mathlib.Core.Path.{◌∙◌}
use Rattle.call_log.proofs.LogLaws.{logged_fits, logged_full}
use Rattle.call_log.proofs.Written.emit.Goals as goal

pub returns-then-self-log : goal.returns-then-self-log
returns-then-self-log c = c.meet.ensures _ ∙ logged_full _ _ _ _ _ _ c.if-self-log.true

pub returns : goal.returns
returns c = logged_fits _ _ _ _ _ _ _ c.if-self-log.false c.copy_from_slice.ensures.after
