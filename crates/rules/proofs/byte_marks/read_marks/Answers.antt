-- What the check leaves open of `rules::byte_marks::read_marks`. Assumes nothing.
use Rattle.std.proofs.Common.{◌<◌, length, rules, arith, None, ext_get_or, sym, ◌∙◌}
use Rattle.std.proofs.lemmas.List.{length-map, get_or-map}
use Rattle.rules.specs.ByteMarks.{known_of}
use Rattle.rules.proofs.byte_marks.read_marks.Goals as goal

pub returns : goal.returns
returns c =
    let marks = c.args.marks.now in
    let items = c.map.ensures.items in
    ext_get_or None _ _ (items.long ∙ rw length-map (sym c.told-marks)) λ i h.
    let below : i < length marks = omega (arith, items.long, c.told-marks) in
    let call = items.at i 0 None (omega (arith, items.long)) in
    rw (get_or-map known_of marks i 0 None below) (search (rules, call.2))
