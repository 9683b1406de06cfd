-- Tables of notes: what stands at n is what the entries so far that pass the test of n give. Of each byte, whether there is such an
-- entry, and how many there are; of each node, one past the last of them.
use Rattle.std.specs.Prelude.{◌≡◌, Bool, true, false, ◌&&◌, ◌||◌, List, ℕ, zero, suc, ◌+◌, ◌<◌, ◌≤◌, length, get_or, set, replicate}
use Rattle.std.proofs.Common.{refl, sym, ◌∙◌, arith, add-one, add-zero, get_or-set_same, get_or-set_other}
use borrow.Author.Tests.{eqb-true, eqb-false, eq-eqb}
use Rattle.std.proofs.Math.Bool.{or-false}
use Rattle.std.proofs.Math.ListN.{length-set, length-replicate}
use Rattle.std.proofs.lemmas.List.{set-get_or}
use Rattle.base.specs.Tests.{when◌then◌else◌, ◌=?◌, by_test}
use Rattle.base.specs.Loops.{some, passing, passing_most, past_last, past_last_most}

-- a table of one entry alone has it everywhere, past its end too
pub zero_at : {A : Type 0} {z : A} (n i : ℕ) → get_or (replicate n z) i z ≡ z
zero_at zero i = refl
zero_at (suc n) zero = refl
zero_at (suc n) (suc i) = zero_at n i

-- one entry of a table is stored: where it was to change it has, and the others were to stay
entry_stored : {A : Type 0} (none : A) (places : ℕ) (table : List A) (m : ℕ) (value : A) (old new : ℕ → A)
    → m < length table → ((n : ℕ) → n < places → get_or table n none ≡ old n) → value ≡ new m → ((n : ℕ) → m =? n ≡ false → new n ≡ old n)
    → (n : ℕ) → n < places → get_or (set table m value) n none ≡ new n
entry_stored none places table m value old new fits entries here there n l =
    by_test (m =? n)
    (λ q. rw (sym (eqb-true m n q)) (get_or-set_same table m value none fits ∙ here))
    (λ q. get_or-set_other table m n value none (λ u. eqb-false m n q (sym u)) ∙ entries n l ∙ sym (there n q))

-- what `of` gives stands in all places, where `none` is what there is without an entry
pub record Noted {A : Type 0} (none : A) (size : ℕ) (of : (ℕ → Bool) → ℕ → A) (test : ℕ → ℕ → Bool) (entries : ℕ) (table : List A) : Type 0 where
  pub places : length table ≡ size
  pub noted : (n : ℕ) → n < size → get_or table n none ≡ of (test n) entries

abbrev pub Marked : (ℕ → ℕ → Bool) → ℕ → List Bool → Type 0
Marked = Noted false 256 some

abbrev pub Numbered : (ℕ → ℕ → Bool) → ℕ → List ℕ → Type 0
Numbered = Noted 0 256 passing

abbrev pub LastFound : (ℕ → ℕ → Bool) → ℕ → List ℕ → Type 0
LastFound = Noted 0 64 past_last

-- what one turn does to a note: by the entry's number, and by whether the entry passes
pub record ByTurns {A : Type 0} (none : A) (of : (ℕ → Bool) → ℕ → A) (turn : ℕ → Bool → A → A) : Type 0 where
  pub first : (test : ℕ → Bool) → of test 0 ≡ none
  pub next : (test : ℕ → Bool) (i : ℕ) → of test (i + 1) ≡ turn i (test i) (of test i)
  pub idle : (i : ℕ) (x : A) → turn i false x ≡ x

pub some_turns : ByTurns false some (λ i passes x. x || passes)
unfolding some
some_turns = record { first = λ test. refl; next = λ test i. rw add-one; idle = λ i x. or-false x }

pub passing_turns : ByTurns 0 passing (λ i passes x. x + (when passes then 1 else 0))
unfolding passing when◌then◌else◌
passing_turns = record { first = λ test. refl; next = λ test i. rw add-one; idle = λ i x. add-zero x }

pub past_last_turns : ByTurns 0 past_last (λ i passes x. when passes then i + 1 else x)
unfolding past_last when◌then◌else◌
past_last_turns = record { first = λ test. refl; next = λ test i. rw add-one; idle = λ i x. refl }

-- before the first turn, one turn, the end
module _ {A : Type 0} {none : A} {of : (ℕ → Bool) → ℕ → A} {turn : ℕ → Bool → A → A} (t : ByTurns none of turn) {size : ℕ} (test : ℕ → ℕ → Bool) where
  pub noted_none : Noted none size of test 0 (replicate size none)
  noted_none = record { places = length-replicate size none; noted = λ n h. zero_at size n ∙ sym (t.first (test n)) }

  -- an entry that passes the test of m alone, and only if `passes`
  pub noted_more : (i m : ℕ) (table : List A) (passes : Bool) (value : A) → m < size → ((n : ℕ) → test n i ≡ (m =? n && passes))
      → value ≡ turn i passes (get_or table m none) → Noted none size of test i table → Noted none size of test (i + 1) (set table m value)
  noted_more i m table passes value h one e k = record {
    places = length-set table m value ∙ k.places;
    noted = entry_stored none size table m value (λ n. of (test n) i) (λ n. of (test n) (i + 1)) (omega (arith, k.places)) k.noted
        (rw (t.next (test m) i, one m, eq-eqb m m refl, ← k.noted m h) e)
        (λ n q. t.next (test n) i ∙ rw (one n, q, t.idle i (of (test n) i)));
  }

pub noted_done : {A : Type 0} {none : A} {size : ℕ} {of : (ℕ → Bool) → ℕ → A} {test : ℕ → ℕ → Bool} {table : List A} {i n : ℕ} → i ≡ n
    → Noted none size of test i table → Noted none size of test n table
noted_done e k = rw e at k

pub noted_most : {size : ℕ} {of : (ℕ → Bool) → ℕ → ℕ} {test : ℕ → ℕ → Bool} {table : List ℕ} {i : ℕ} → ((test : ℕ → Bool) (n : ℕ) → of test n ≤ n)
    → Noted 0 size of test i table → (n : ℕ) → n < size → get_or table n 0 ≤ i
noted_most {test = test} {i = i} most k n h = rw (k.noted n h) (most (test n) i)

-- ---- the same of marks, of numbers, and of the last entries

module _ (test : ℕ → ℕ → Bool) where
  pub marked_none : Marked test 0 (replicate 256 false)
  marked_none = noted_none some_turns test

  pub marked_more : (i m : ℕ) (marks : List Bool) (passes value : Bool) → m < 256 → ((n : ℕ) → test n i ≡ (m =? n && passes))
      → value ≡ (get_or marks m false || passes) → Marked test i marks → Marked test (i + 1) (set marks m value)
  marked_more = noted_more some_turns test

  pub marked_done : (i n : ℕ) (marks : List Bool) → i ≡ n → Marked test i marks → Marked test n marks
  marked_done i n marks = noted_done

  pub numbered_none : Numbered test 0 (replicate 256 0)
  numbered_none = noted_none passing_turns test

  pub numbered_more : (i m : ℕ) (numbers : List ℕ) (passes : Bool) (value : ℕ) → m < 256 → ((n : ℕ) → test n i ≡ (m =? n && passes))
      → value ≡ get_or numbers m 0 + (when passes then 1 else 0) → Numbered test i numbers → Numbered test (i + 1) (set numbers m value)
  numbered_more = noted_more passing_turns test

  pub numbered_done : (i n : ℕ) (numbers : List ℕ) → i ≡ n → Numbered test i numbers → Numbered test n numbers
  numbered_done i n numbers = noted_done

  pub numbered_most : (i : ℕ) (numbers : List ℕ) → Numbered test i numbers → (n : ℕ) → n < 256 → get_or numbers n 0 ≤ i
  numbered_most i numbers = noted_most passing_most

  pub found_none : LastFound test 0 (replicate 64 0)
  found_none = noted_none past_last_turns test

  -- only an entry that passes is stored
  pub found_more : (i m : ℕ) (table : List ℕ) (passes : Bool) → m < 64 → ((n : ℕ) → test n i ≡ (m =? n && passes))
      → LastFound test i table → LastFound test (i + 1) (when passes then set table m (i + 1) else table)
  unfolding when◌then◌else◌
  found_more i m table true h one k = noted_more past_last_turns test i m table true (i + 1) h one refl k
  found_more i m table false h one k = rw (set-get_or table m 0) at (noted_more past_last_turns test i m table false (get_or table m 0) h one refl k)

  pub found_done : (i n : ℕ) (table : List ℕ) → i ≡ n → LastFound test i table → LastFound test n table
  found_done i n table = noted_done

  pub found_most : (i : ℕ) (table : List ℕ) → LastFound test i table → (n : ℕ) → n < 64 → get_or table n 0 ≤ i
  found_most i table = noted_most past_last_most
