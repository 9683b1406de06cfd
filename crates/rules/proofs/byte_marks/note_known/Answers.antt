-- What the check leaves open of `rules::byte_marks::note_known`. Assumes nothing.
use Rattle.std.proofs.Common.{◌≤◌, arith, None, sym, ◌∙◌}
use Rattle.std.proofs.lemmas.List.{get_or_past}
use borrow.Author.Tests.{ltb-true, ltb-false}
use Rattle.base.specs.Tests.{by_test, ◌<?◌}
use Rattle.rules.proofs.byte_marks.note_known.Goals as goal

-- past the end there is no mark, and nothing is known
pub returns : goal.returns
returns c =
    let all = c.loop-id.invariant in
    record {
      places = all.places ∙ sym c.told-marks;
      entries = λ i. by_test (i <? 32)
          (λ e. all.done i (omega (arith, ltb-true i 32 e)))
          (λ e.
          let past : 32 ≤ i = ltb-false i 32 e in
          rw (get_or_past c.args.known.now i None (omega (arith, c.told-known))) (all.left i (omega arith)));
    }
