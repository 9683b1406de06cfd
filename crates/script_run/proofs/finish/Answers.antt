-- What the check leaves open of `script_run::finish`. Assumes nothing.
use Rattle.std.proofs.Common.{rules, sym, ◌∙◌, ap, ℕ, List, take, length, ◌≡◌, eq-eqb, arith, length-take-le}
use borrow.Author.Tests.{eqb-true}
use Rattle.std.proofs.lemmas.Bool.{false≢true}
use Rattle.machine.specs.Text.{text}
use Rattle.script_run.specs.Running.{printed_all}
use Rattle.script_run.proofs.Scripts.{prints_nothing, cut_first}
use Rattle.script_run.proofs.finish.Goals as goal

pub returns-then-is_empty-clause-printed : goal.returns-then-is_empty-clause-printed
returns-then-is_empty-clause-printed c = λ number s. sym (prints_nothing _ (eqb-true _ _ (sym c.is_empty.ensures ∙ c.if-is_empty.true)) number s)

pub returns-clause-printed : goal.returns-clause-printed
unfolding text
returns-clause-printed c = λ number s.
    let size : length c.written.result.now ≡ c.script_line.new.text.filled = rw c.written.ensures (length-take-le _ _ (omega (arith, ap length c.new-text.ensures.bytes))) in
    let prints : (out : List ℕ) → out ≡ c.script_line.new.text.bytes.now → take (length c.written.result.now) out ≡ printed_all number c.args.left.now s
    = λ out e. rw (e, size, c.script_line.ensures.written, c.new-text.ensures.filled) (sym (cut_first _ (λ n. false≢true (sym c.if-is_empty.false ∙ c.is_empty.ensures ∙ eq-eqb _ _ n)) c.requires.0 number s)) in
    prints _ (search rules)
