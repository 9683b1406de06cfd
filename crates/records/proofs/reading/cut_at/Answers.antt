-- What the check leaves open of `records::reading::cut_at`. Assumes nothing.
use Rattle.std.proofs.Common.{arith, ◌≡◌, ◌<◌, ◌+◌, length}
use Rattle.machine.specs.Records.{body_length}
use Rattle.records.proofs.Cuts.{cut_unknown, cut_short, cut_whole, kind}
use Rattle.records.proofs.reading.cut_at.Goals as goal

pub returns-then-kind-gt-GREATEST_KIND : goal.returns-then-kind-gt-GREATEST_KIND
returns-then-kind-gt-GREATEST_KIND c = cut_unknown c.args.document.now c.args.at c.if-kind-gt-GREATEST_KIND.true

pub returns-in_default : goal.returns-in_default
returns-in_default c =
    let e : c.body_length.result ≡ body_length (kind c.args.document.now c.args.at) = rw c.from.ensures at c.body_length.ensures.0 in
    let l : length c.args.document.now < c.args.at + 1 + c.body_length.result = omega (arith, c.in_default.ensures.lookup.0) in
    cut_short c.args.document.now c.args.at c.if-kind-gt-GREATEST_KIND.false _ e c.requires l

pub returns : goal.returns
returns c =
    let e : c.body_length.result ≡ body_length (kind c.args.document.now c.args.at) = rw c.from.ensures at c.body_length.ensures.0 in
    let found = c.in-Some.ensures.lookup.0 in
    rw c.record_of.ensures (cut_whole c.args.document.now c.args.at c.if-kind-gt-GREATEST_KIND.false _ e _ _ found.2 (omega arith) found.1)
