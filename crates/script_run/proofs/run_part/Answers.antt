-- What the check leaves open of `script_run::run_part`. Assumes nothing.
use Rattle.std.proofs.Common.{◌≡◌, ◌∙◌, sym, ap, ◌+◌, ◌<◌, ◌≤◌, ℕ, List, length, arith, rules, length-take-le}
use Rattle.script_run.proofs.Scripts.{lent_front, call_fits, ran_call, ran_wrong}
use Rattle.machine.specs.Sessions.{session_of}
use Rattle.script_run.specs.Running.{Ran}
use Rattle.script_run.proofs.run_part.Goals as goal
use Rattle.script_run.proofs.run_part.Goals.{then-room-lt-LINE_ROOM, else-room-lt-LINE_ROOM+in-Cut, else-room-lt-LINE_ROOM+in-Wrong}

pub overflow_add-next : goal.overflow_add-next
overflow_add-next c =
    let first = lent_front c.args.script.now c.loop-c.used c.record_in.ensures c.in-Call.is in
    omega (arith, call_fits c.args.script.now c.loop-c.used _ first)

pub loop-c-smaller : goal.loop-c-smaller
loop-c-smaller c =
    let first = lent_front c.args.script.now c.loop-c.used c.record_in.ensures c.in-Call.is in
    omega (arith, c.size_of-used.ensures, call_fits c.args.script.now c.loop-c.used _ first)

pub loop-c-preserved : goal.loop-c-preserved
loop-c-preserved c =
    let first = lent_front c.args.script.now c.loop-c.used c.record_in.ensures c.in-Call.is in
    let fits = call_fits c.args.script.now c.loop-c.used _ first in
    let adds = c.call_line.ensures (session_of c.call-answer.new.s) in
    rw c.size_of-used.ensures (
      adds.same_slice ∙ c.loop-c.invariant.0,
      adds.size ∙ c.loop-c.invariant.1,
      omega (arith, adds.fits),
      fits.1,
      omega arith,
      c.call-answer.auto.log ∙ c.loop-c.invariant.5,
      (λ h. omega arith),
      omega arith,
      ran_call _ _ c.loop-c.invariant.8 _ _ first (c.call-answer.ensures ∙ rw (c.loop-c.invariant.5, c.requires.0)) adds.written,
    )

pub returns : goal.returns
returns c =
    let text = c.if-room-lt-LINE_ROOM.text in
    let slice = ap length c.new-text.ensures.bytes in
    let room : text.filled ≤ length text.bytes.now = elim c.if-room-lt-LINE_ROOM.branch [
      | then-room-lt-LINE_ROOM w ↦ rw w.text-is (omega arith)
      | else-room-lt-LINE_ROOM+in-Cut w ↦ rw w.text-is (omega arith)
      | else-room-lt-LINE_ROOM+in-Wrong w ↦ rw w.text-is w.script_line.ensures.fits
    ] in
    let ran : (n : ℕ) (out : List ℕ) → n ≡ text.filled → out ≡ text.bytes.now
    → Ran c.args.number (session_of c.args.s.now) c.args.script.now (session_of c.loop-c.s) out (record { number = c.loop-c.next; used = c.loop-c.used; filled = n; stop = c.if-room-lt-LINE_ROOM.stop })
    = λ n out e f. rw (e, f) (record {
      front = (room, sym (length-take-le _ _ room));
      used = c.loop-c.invariant.3;
      next = c.loop-c.invariant.4;
      stopped = elim c.if-room-lt-LINE_ROOM.branch [
        | then-room-lt-LINE_ROOM w ↦
            let called : c.args.number < c.loop-c.next = omega arith in
            let full : length c.loop-c.text.bytes.now < c.loop-c.text.filled + 196_658 = omega arith in
            rw (w.text-is, w.stop-is) (search (rules, c.loop-c.invariant.8))
        | else-room-lt-LINE_ROOM+in-Cut w ↦ rw (w.text-is, w.stop-is) (c.loop-c.invariant.8, lent_front c.args.script.now c.loop-c.used w.record_in.ensures w.in-Cut.is)
        | else-room-lt-LINE_ROOM+in-Wrong w ↦ rw (w.text-is, w.stop-is) (ran_wrong _ _ c.loop-c.invariant.8 (lent_front c.args.script.now c.loop-c.used w.record_in.ensures w.in-Wrong.is) w.script_line.ensures.written)
      ];
    }) in
    ran _ _ (rw c.written.ensures (length-take-le _ _ room)) (search rules)
