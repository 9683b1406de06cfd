-- What the check leaves open of `document::loading::load`. Assumes nothing.
use Rattle.std.proofs.Common.{◌∙◌}
use Rattle.document.proofs.Records.{begins, stops, right, goes_on, ends, no_records, no_node, loaded}
use Rattle.document.proofs.loading.load.Goals as goal

pub loop-at-init : goal.loop-at-init
loop-at-init c = begins _ _ c.empty_session-s.ensures

pub enter-requires : goal.enter-requires
enter-requires c = (right _ c.loop-at.s _ c.loop-at-test.true c.loop-at.invariant _ c.in-Ok.ensures, c.loop-at.invariant.links)

pub returns-in_default : goal.returns-in_default
returns-in_default c =
    rw (c.and.ensures, c.in_default.is, c.empty_session.ensures)
    (stops _ c.loop-at.s _ c.loop-at-test.true c.loop-at.invariant _ (rw c.in_default.is at c.read_at-reading.ensures))

pub loop-at-preserved : goal.loop-at-preserved
loop-at-preserved c = goes_on _ c.loop-at.s _ c.loop-at-test.true c.loop-at.invariant _ c.in-Ok.ensures _ _ (rw c.from.ensures at c.body_length.ensures.0) c.enter.ensures

pub returns-then-s-eq0 : goal.returns-then-s-eq0
returns-then-s-eq0 c = c.refuse.ensures ∙ (no_records c.loop-at.s c.if-s-eq0.true ∙ ends _ _ _ c.loop-at-test.false c.loop-at.invariant)

pub returns-then-s-eq0-2 : goal.returns-then-s-eq0-2
returns-then-s-eq0-2 c = c.refuse-then-s-eq0-2.ensures ∙ (no_node c.loop-at.s c.if-s-eq0.false c.if-s-eq0-2.true ∙ ends _ _ _ c.loop-at-test.false c.loop-at.invariant)

pub returns : goal.returns
returns c = loaded c.loop-at.s c.if-s-eq0.false c.if-s-eq0-2.false ∙ ends _ _ _ c.loop-at-test.false c.loop-at.invariant
