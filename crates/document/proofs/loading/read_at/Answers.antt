-- What the check leaves open of `document::loading::read_at`. Assumes nothing.
use Rattle.document.proofs.Reading.{misplaced, faulted, faultless}
use Rattle.document.proofs.loading.read_at.Goals as goal

pub returns-in_err-check_place : goal.returns-in_err-check_place
returns-in_err-check_place c =
    misplaced c.args.d.now c.in-Ok.record _ c.in-Ok.ensures c.in_err-check_place.field-0.0 c.in_err-check_place.ensures
    _ c.from_residual.ensures.1

pub returns-in_err-check_record : goal.returns-in_err-check_record
returns-in_err-check_record c =
    faulted c.args.d.now c.in-Ok.record _ c.in-Ok.ensures c.in_ok-check_place.ensures
    c.in_err-check_record.field-0.0 c.in_err-check_record.ensures _ c.from_residual-in_err-check_record.ensures.1

pub returns : goal.returns
returns c =
    faultless c.args.d.now c.in-Ok.record _ c.in-Ok.ensures c.in_ok-check_place.ensures c.in_ok-check_record.ensures
