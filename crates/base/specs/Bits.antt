-- Two signed numbers are equal where their bits are.
use Rattle.std.specs.Prelude.{◌≡◌, refl, Bool, true, false, ℕ, suc, ◌-◌, ◌<◌, ◌^◌, ℤ, pos, negsuc, eqb}
use Rattle.std.proofs.Common.{sym, ◌∙◌, arith, SFits, of_z, ne_eqb, eq-eqb, eqb-true}
use Rattle.std.specs.Int.{w32}
use Rattle.std.proofs.lemmas.Bool.{eqb-false}
use Rattle.base.specs.Tests.{equal_ints}

eqb_by : (a b c d : ℕ) → (a ≡ b → c ≡ d) → (c ≡ d → a ≡ b) → eqb c d ≡ eqb a b
eqb_by a b c d f g = go (eqb a b) refl
  where
    go : (t : Bool) → eqb a b ≡ t → eqb c d ≡ eqb a b
    go true e = eq-eqb c d (f (eqb-true a b e)) ∙ sym e
    go false e = ne_eqb c d (λ h. eqb-false a b e (g h)) ∙ sym e

pub same_bits : (x y : ℤ) → SFits w32 x → SFits w32 y → eqb (of_z w32 x) (of_z w32 y) ≡ equal_ints x y
same_bits (pos a) (pos b) hx hy = refl
same_bits (pos a) (negsuc b) hx hy =
    let x< : a < 2 ^ 31 = hx.sfits in
    let y< : b < 2 ^ 31 = hy.sfits in
    ne_eqb a (2 ^ 32 - suc b) (λ e. omega arith)
same_bits (negsuc a) (pos b) hx hy =
    let x< : a < 2 ^ 31 = hx.sfits in
    let y< : b < 2 ^ 31 = hy.sfits in
    ne_eqb (2 ^ 32 - suc a) b (λ e. omega arith)
same_bits (negsuc a) (negsuc b) hx hy =
    let x< : a < 2 ^ 31 = hx.sfits in
    let y< : b < 2 ^ 31 = hy.sfits in
    eqb_by a b (2 ^ 32 - suc a) (2 ^ 32 - suc b) (λ e. omega arith) (λ e. omega arith)
