-- What the check leaves open of `engine::call`. Assumes nothing.
use Rattle.std.proofs.Common.{sym, rules, length}
use Rattle.base.specs.Tests.{when◌then◌else◌}
use Rattle.machine.specs.Answers.{numbered}
use Rattle.machine.specs.Operations.{call_admitting, run_admitting}
use Rattle.machine.specs.Sessions.{session_of}
use Rattle.machine.proofs.Shape.{HasArrays}
use Rattle.engine.proofs.Unbroken.{ends_unbroken}
use Rattle.engine.proofs.call.Goals as goal

pub returns-in-Err : goal.returns-in-Err
unfolding call_admitting when◌then◌else◌
returns-in-Err c = rw (c.args.s.now.unbroken, ← (rw c.in-Err.is at c.check_arguments.ensures), numbered _) (c.refuse.ensures _)

pub end-requires : goal.end-requires
unfolding run_admitting
end-requires c =
    let arrays : HasArrays c.args.s.now.state = record { nodes = search rules; anchors = search rules; properties = search rules } in
    rw (c.run_chain.ensures, c.begin.ensures, c.new-w.ensures c.args.log.now, c.run_chain.auto.log, c.begin.auto.log)
    (ends_unbroken (session_of c.args.s.now) c.args.c (length c.args.log.now) c.args.s.now.unbroken (sym (rw c.in_default.is at c.check_arguments.ensures)) arrays)

pub returns : goal.returns
unfolding call_admitting run_admitting when◌then◌else◌
returns c =
    rw (c.args.s.now.unbroken, ← (rw c.in_default.is at c.check_arguments.ensures), ← c.new-w.ensures c.args.log.now, ← c.begin.ensures, ← c.begin.auto.log, ← c.run_chain.ensures, ← c.run_chain.auto.log) c.end.ensures
