-- Laws of the lines in a slice: one more goes along with `logged`, a line read back is a group of bytes, and the lines are the bytes written.
use Prim.Native.Nat.{ℕ, zero, suc, ◌+◌, ◌-◌, ◌*◌, ◌/◌, ◌<◌, ◌≤◌, min}
use native.Mathlib.Omega.{arith}
use native.Mathlib.Numerals.{add-one}
use mathlib.Core.List.{List, [], ◌∷◌, ◌++◌, append_assoc}
use mathlib.Core.Path.{◌≡◌, refl, ◌∙◌}
use lib.ListN.{length, length-append, get_or, take, drop, replicate, get_or-append}
use lib.Seq.{take-suc, get_or_at}
use lib.Dec.{ltb}
use borrow.Rule.Slice.PartMut.{put_mid}
use Rattle.std.specs.Simd.{first_chunks}
use Rattle.std.proofs.Common.{rules}
use Rattle.std.proofs.lemmas.Slice.{overwrites}
use Rattle.std.proofs.lemmas.List.{places, drop-drop}
use borrow.Author.Tests.{lt-ltb, le-ltb, ltb-true, ltb-false}
use Rattle.base.specs.Tests.{when◌then◌else◌, by_test}
use Rattle.machine.specs.Log.{line, met, logged, bytes_of, slice_with}
use Rattle.machine.specs.declared.Line.{Line}
use Rattle.call_log.specs.LogSlice.{group, groups, lines_in, in_slice}

groups_length : (b : List ℕ) (n : ℕ) → length (groups b n) ≡ n
unfolding groups
groups_length b zero = refl
groups_length b (suc n) = length-append (groups b n) (group b n ∷ []) ∙ omega (arith, groups_length b n)

-- 4 bytes written at place p
abbrev stored : List ℕ → ℕ → List ℕ → List ℕ
stored b p bytes = put_mid p (p + 4 - p) b bytes

module _ (b : List ℕ) (p : ℕ) (bytes : List ℕ) (h : p + 3 < length b) (four : length bytes ≡ 4) where
  stored_length : length (stored b p bytes) ≡ length b
  stored_length = grind (arith, overwrites)

  -- what stands before them stays, and they are read back
  stored_before : (q : ℕ) → q < p → get_or (stored b p bytes) q 0 ≡ get_or b q 0
  stored_before q l = search (rules, places)

  stored_at : (q j : ℕ) → q ≡ p + j → j < 4 → get_or (stored b p bytes) q 0 ≡ get_or bytes j 0
  stored_at q j e l = search (rules, places)

-- groups before a line's place stay
groups_before : (b : List ℕ) (at : ℕ) (bytes : List ℕ) (k : ℕ) → 4 * at + 3 < length b → length bytes ≡ 4 → k ≤ at → groups (stored b (4 * at) bytes) k ≡ groups b k
unfolding groups
groups_before b at bytes zero l four h = refl
groups_before b at bytes (suc k) l four h =
    let before = stored_before b (4 * at) bytes l four in
    rw (
      before (4 * k) (omega arith),
      before (4 * k + 1) (omega arith),
      before (4 * k + 2) (omega arith),
      before (4 * k + 3) (omega arith),
      groups_before b at bytes k l four (omega arith),
    )

-- lines for which there is room
lines_room : (b : List ℕ) (n : ℕ) → n ≤ length b / 4 → lines_in b n ≡ groups b n
unfolding lines_in when◌then◌else◌
lines_room b n h = rw (le-ltb (length b / 4) n h)

pub lines_none : (b : List ℕ) → lines_in b 0 ≡ []
unfolding groups
lines_none b = lines_room b 0 (omega arith)

-- how many lines there are
lines_length : (b : List ℕ) (n : ℕ) → n ≤ length b / 4 → length (lines_in b n) ≡ n
lines_length b n h = rw (lines_room b n h) (groups_length b n)

lines_all : (b : List ℕ) (n : ℕ) → length b / 4 ≤ n → lines_in b n ≡ groups b (length b / 4)
unfolding lines_in when◌then◌else◌
lines_all b n h = by_test (ltb (length b / 4) n) (λ e. rw e) (λ e. let q : n ≡ length b / 4 = omega (arith, ltb-false (length b / 4) n e) in rw (e, q))

-- whether there is a line k
pub lines_have : (b : List ℕ) (n k : ℕ) → k < n → k < length b / 4 → k < length (lines_in b n)
unfolding lines_in when◌then◌else◌
lines_have b n k h l = by_test (ltb (length b / 4) n) (λ e. rw (e, groups_length b (length b / 4)) l) (λ e. rw (e, groups_length b n) h)

pub lines_lack : (b : List ℕ) (n k : ℕ) → n ≤ k → k < length b / 4 → length (lines_in b n) ≤ k
lines_lack b n k h l = rw (lines_length b n (omega arith)) h

-- one line more, where it fits and where not
module _ (b : List ℕ) (n stop c i t : ℕ) where
  pub logged_fits : (bytes : List ℕ) → n < length b / 4 → bytes ≡ c ∷ i ∷ t ∷ 0 ∷ [] → in_slice (stored b (4 * n) bytes) (n + 1) stop ≡ logged (line c i t) (in_slice b n stop)
  unfolding logged when◌then◌else◌ groups
  logged_fits bytes h is =
      let l : 4 * n + 3 < length b = omega arith in
      let four : length bytes ≡ 4 = rw is in
      let s : length (stored b (4 * n) bytes) ≡ length b = stored_length b (4 * n) bytes l four in
      let at = stored_at b (4 * n) bytes l four in
      rw (
        lines_room (stored b (4 * n) bytes) (n + 1) (omega arith),
        lines_room b n (omega arith),
        groups_length b n,
        lt-ltb n (length b / 4) h,
        s,
        add-one n,
        groups_before b n bytes n l four (omega arith),
        at (4 * n) 0 (omega arith) (omega arith),
        at (4 * n + 1) 1 (omega arith) (omega arith),
        at (4 * n + 2) 2 (omega arith) (omega arith),
        at (4 * n + 3) 3 (omega arith) (omega arith),
        is,
      )

  pub logged_full : length b / 4 ≤ n → met 12 (in_slice b n stop) ≡ logged (line c i t) (in_slice b n stop)
  unfolding logged when◌then◌else◌
  logged_full h = rw (lines_all b n h, groups_length b (length b / 4), le-ltb (length b / 4) (length b / 4) (omega arith))

-- a line read back
groups_at : (b : List ℕ) (n k : ℕ) (z : Line) → k < n → get_or (groups b n) k z ≡ group b k
unfolding groups
groups_at b zero k z h = absurd (omega arith)
groups_at b (suc n) k z h =
    by_test (ltb k n)
    (λ e. get_or-append (groups b n) (group b n ∷ []) z k (omega (arith, ltb-true k n e, groups_length b n)) ∙ groups_at b n k z (ltb-true k n e))
    (λ e.
    let q : k ≡ n = omega (arith, ltb-false k n e) in
    rw q (get_or_at (groups b n) (group b n) [] z n (groups_length b n)))

line_in : (b : List ℕ) (n k : ℕ) (z : Line) → k < n → k < length b / 4 → get_or (lines_in b n) k z ≡ group b k
unfolding lines_in when◌then◌else◌
line_in b n k z h l = by_test (ltb (length b / 4) n) (λ e. rw e (groups_at b (length b / 4) k z l)) (λ e. rw e (groups_at b n k z h))

-- the groups are those that the library cuts
groups_cut : (n k : ℕ) (b : List ℕ) → k < n → get_or (first_chunks 4 n b) k [] ≡ take 4 (drop (4 * k) b)
groups_cut zero k b h = absurd (omega arith)
groups_cut (suc n) zero b h = refl
groups_cut (suc n) (suc k) b h =
    let s : 4 * suc k ≡ 4 + 4 * k = omega arith in
    rw (s, ← drop-drop (4 * k) 4 b) (groups_cut n k (drop 4 b) (omega arith))

pub line_cut : (b : List ℕ) (n k : ℕ) (z : Line) (bytes : List ℕ) → k < n → k < length b / 4 → bytes ≡ get_or (first_chunks 4 (length b / 4) b) k []
    → record { class = get_or bytes 0 0; id = get_or bytes 1 0; transition = get_or bytes 2 0; zero = get_or bytes 3 0 } ≡ get_or (lines_in b n) k z
line_cut b n k z bytes h l e =
    let first : 4 * k + 0 ≡ 4 * k = omega arith in
    rw (line_in b n k z h l, e, groups_cut (length b / 4) k b l) (search (rules, places, first))

-- ---- the lines are the bytes written

bytes_of_append : (xs ys : List Line) → bytes_of (xs ++ ys) ≡ bytes_of xs ++ bytes_of ys
bytes_of_append [] ys = refl
bytes_of_append (x ∷ xs) ys = rw (bytes_of_append xs ys)

take_next : (b : List ℕ) (j q : ℕ) → q ≡ suc j → j < length b → take q b ≡ take j b ++ (get_or b j 0 ∷ [])
take_next b j q e h = rw e (take-suc b j 0 h)

take_four : (b : List ℕ) (p : ℕ) → p + 3 < length b → take (p + 4) b ≡ take p b ++ (get_or b p 0 ∷ get_or b (p + 1) 0 ∷ get_or b (p + 2) 0 ∷ get_or b (p + 3) 0 ∷ [])
take_four b p h =
    take_next b (p + 3) (p + 4) (omega arith) h
    ∙ rw (
      take_next b (p + 2) (p + 3) (omega arith) (omega arith),
      take_next b (p + 1) (p + 2) (omega arith) (omega arith),
      take_next b p (p + 1) (omega arith) (omega arith),
    )
    (simp append_assoc)

groups_bytes : (b : List ℕ) (n : ℕ) → n ≤ length b / 4 → bytes_of (groups b n) ≡ take (4 * n) b
unfolding groups
groups_bytes b zero h = refl
groups_bytes b (suc n) h =
    let e : 4 * suc n ≡ 4 * n + 4 = omega arith in
    bytes_of_append (groups b n) (group b n ∷ []) ∙ rw (groups_bytes b n (omega arith), e, take_four b (4 * n) (omega arith))

-- ---- zeros after the lines

-- what is put in the place of all from a on
put_rest : (b : List ℕ) (a : ℕ) (zeros : List ℕ) → put_mid a (length b - a) b zeros ≡ take a b ++ zeros
put_rest b a zeros = search (rules, overwrites)

pub clear_done : (b : List ℕ) (n m : ℕ) (zeros : List ℕ) → m ≡ min n (length b / 4) → zeros ≡ replicate (length b - 4 * m) 0
    → put_mid (4 * m) (length b - 4 * m) b zeros ≡ slice_with (lines_in b n) (length b)
unfolding slice_with lines_in when◌then◌else◌
clear_done b n m zeros e z =
    by_test (ltb (length b / 4) n)
    (λ f. let q : m ≡ length b / 4 = omega (arith, ltb-true (length b / 4) n f) in rw (f, z, q, groups_bytes b (length b / 4) (omega arith), groups_length b (length b / 4)) (put_rest b _ _))
    (λ f. let q : m ≡ n = omega (arith, ltb-false (length b / 4) n f) in rw (f, z, q, groups_bytes b n (omega (arith, ltb-false (length b / 4) n f)), groups_length b n) (put_rest b _ _))
