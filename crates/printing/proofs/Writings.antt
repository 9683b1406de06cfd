-- Laws of text that is put behind text.
use Rattle.std.proofs.Common.{List, [], ◌++◌, append-nil, refl, ◌+◌, ◌≤◌, ◌≡◌, ◌∙◌, ℕ, ap, sym, append_assoc, arith, length, length-append, drop}
use Rattle.std.proofs.Math.Seq.{drop-drop}
use Rattle.printing.specs.declared.text.Text.{Text}
use Rattle.printing.specs.Writing.{Adds}

-- one text after another
pub then : {t u : List ℕ} {a b c : Text} → Adds t a b → Adds u b c → Adds (t ++ u) a c
then {t} {u} {a} {b} {c} p q =
    let on : b.filled + length u ≡ c.filled = omega arith in
    record {
      same_slice = cc;
      size = cc;
      filled = omega (arith, length-append t u);
      fits = q.fits;
      written = q.written ∙ rw p.written (append_assoc _ t u);
      kept = q.kept ∙ (simp (drop-drop, on) at (ap (drop (length u)) p.kept));
    }

pub nothing : (a : Text) → a.filled ≤ length a.bytes.now → Adds [] a a
nothing a h = record { same_slice = refl; size = refl; filled = omega arith; fits = h; written = sym (append-nil _); kept = refl }
