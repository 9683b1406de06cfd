-- What stays true in the loop of `rules::byte_marks::note_known`.
use Rattle.std.proofs.Common.{ℕ, ◌≡◌, ◌<◌, ◌≤◌, get_or, length}
use Rattle.rules.specs.Memo.{mark_at}
use Rattle.rules.specs.ByteMarks.{noted}
use Rattle.rules.proofs.byte_marks.note_known.Given as goal

abbrev pub invariant-loop-id : goal.invariant-loop-id
invariant-loop-id l = record {
  places : length l.marks ≡ 32;
  done : (i : ℕ) → i < l.id → get_or l.marks i 0 ≡ noted (get_or l.initial.marks i 0) (mark_at l.known i);
  left : (i : ℕ) → l.id ≤ i → get_or l.marks i 0 ≡ get_or l.initial.marks i 0;
}
