-- The columns of the tables, of the document and of what changes: each keeps its places, and past the table's end it is zero.
use Prim.Native.Nat.{ℕ, zero, suc, ◌+◌, ◌*◌, ◌≤◌, ◌<◌}
use native.Mathlib.Omega.{arith}
use mathlib.Core.Bool.{Bool, true}
use mathlib.Core.List.{List, [], ◌∷◌}
use mathlib.Core.Path.{◌≡◌, refl, ap, ◌∙◌}
use lib.IntN.{ℤ, pos}
use Rattle.std.proofs.lemmas.List.{get_or_past, set_past}
use lib.ListN.{length, get_or, set, take, drop, length-set, length-drop}
use lib.Seq.{get_or-set_same, get_or-set_other, get_or-take, get_or-drop, length-take-le}
use Rattle.base.specs.Tests.{◌=?◌, equal_ints, both_pass, pass_both}
use Rattle.machine.specs.Tables.{Column, numbers, integers, Table, node_table, anchor_table, rule_table, bind_table, port_table, link_table, action_tables}
use Rattle.machine.specs.Broken.{all, zero_from, ends_zero, document_ends_zero}
use Rattle.machine.specs.declared.Document.{Document}

-- ---- one column: what is not zero stands before place n

pub record Filled {A : Type 0} (z : A) (n places : ℕ) (l : List A) : Type 0 where
  pub len : length l ≡ places
  pub ends : (i : ℕ) → n ≤ i → get_or l i z ≡ z

module _ {A : Type 0} {z : A} {n places : ℕ} {l : List A} where
  -- a store before the end
  pub stored : (i : ℕ) (x : A) → i < n → Filled z n places l → Filled z n places (set l i x)
  stored i x h c = grind (arith, length-set, get_or-set_other, c.ends)

  -- the end one further
  pub longer : Filled z n places l → Filled z (n + 1) places l
  longer c = grind (arith, c.ends)

-- and a store in the place that is gained
pub more : {A : Type 0} {z : A} {n places : ℕ} {l : List A} (x : A) → Filled z n places l → Filled z (n + 1) places (set l n x)
more x c = stored _ x (omega arith) (longer c)

-- what holds of an entry and of what is stored at i holds of the entry then
pub stored_entry : (P : ℕ → ℕ → Bool) (l : List ℕ) (i x k : ℕ) → P i x ≡ true → P k (get_or l k 0) ≡ true → P k (get_or (set l i x) k 0) ≡ true
stored_entry P l i x k new old = grind (arith, get_or-set_same, get_or-set_other, set_past)

all_zero : {A : Type 0} (test : A → Bool) (z : A) → test z ≡ true → (l : List A) (n : ℕ) → ((i : ℕ) → n ≤ i → get_or l i z ≡ z) → all test (drop n l) ≡ true
unfolding all
all_zero test z e [] zero p = refl
all_zero test z e [] (suc n) p = refl
all_zero test z e (x ∷ xs) zero p = pass_both _ _ (ap test (p 0 (omega arith)) ∙ e) (all_zero test z e xs zero (λ i b. p (suc i) (omega arith)))
all_zero test z e (x ∷ xs) (suc n) p = all_zero test z e xs n (λ i b. p (suc i) (omega arith))

-- ---- the columns of a table

abbrev pub Fits : ℕ → ℕ → List Column → Type 0
Fits n places [] = Unit {0}
Fits n places (numbers l ∷ cs) = Filled 0 n places l × Fits n places cs
Fits n places (integers l ∷ cs) = Filled (pos 0) n places l × Fits n places cs

abbrev pub Whole : Table → Type 0
Whole t = Fits t.count t.places t.columns

columns_end : (n places : ℕ) (cs : List Column) → Fits n places cs → all (zero_from n) cs ≡ true
unfolding all
columns_end n places [] c = refl
columns_end n places (numbers l ∷ cs) c = pass_both _ _ (all_zero _ 0 refl l n c.0.ends) (columns_end n places cs c.1)
columns_end n places (integers l ∷ cs) c = pass_both _ _ (all_zero _ (pos 0) refl l n c.0.ends) (columns_end n places cs c.1)

pub whole_ends : (t : Table) → Whole t → ends_zero t ≡ true
whole_ends t = columns_end t.count t.places t.columns

-- ---- and the other way: zeros past the end, in columns that have their places

zero_all : {A : Type 0} (test : A → Bool) (z : A) → ((x : A) → test x ≡ true → x ≡ z) → (l : List A) (n : ℕ) → all test (drop n l) ≡ true → (i : ℕ) → n ≤ i → get_or l i z ≡ z
unfolding all
zero_all test z f [] n e i b = refl
zero_all test z f (x ∷ xs) zero e zero b = f x (both_pass (test x) _ e).0
zero_all test z f (x ∷ xs) zero e (suc i) b = zero_all test z f xs zero (both_pass (test x) _ e).1 i (omega arith)
zero_all test z f (x ∷ xs) (suc n) e zero b = absurd (omega arith)
zero_all test z f (x ∷ xs) (suc n) e (suc i) b = zero_all test z f xs n e i (omega arith)

abbrev Places : ℕ → List Column → Type 0
Places places [] = Unit {0}
Places places (numbers l ∷ cs) = (length l ≡ places) × Places places cs
Places places (integers l ∷ cs) = (length l ≡ places) × Places places cs

columns_fit : (n places : ℕ) (cs : List Column) → Places places cs → all (zero_from n) cs ≡ true → Fits n places cs
unfolding all
columns_fit n places [] p e = tt
columns_fit n places (numbers l ∷ cs) p e =
    let zeros = zero_all (λ x. x =? 0) 0 (grind arith) l n in
    let rest = columns_fit n places cs p.1 in
    grind arith
columns_fit n places (integers l ∷ cs) p e =
    let zeros = zero_all (λ x. equal_ints x (pos 0)) (pos 0) (grind arith) l n in
    let rest = columns_fit n places cs p.1 in
    grind arith

abbrev pub HasPlaces : Table → Type 0
HasPlaces t = Places t.places t.columns

pub ends_whole : (t : Table) → HasPlaces t → ends_zero t ≡ true → Whole t
ends_whole t = columns_fit t.count t.places t.columns

-- ---- a column of the actions, in eight places for each link

pub record Slots {A : Type 0} (z : A) (counts : List ℕ) (l : List A) : Type 0 where
  pub len : length l ≡ 8 * length counts
  pub ends : (k j : ℕ) → get_or counts k 0 ≤ j → j < 8 → get_or l (8 * k + j) z ≡ z

module _ {A : Type 0} {z : A} {n : ℕ} {counts : List ℕ} {l : List A} (s : Slots z (n ∷ counts) l) where
  -- the places of the first link, and those of the others
  first : Filled z n 8 (take 8 l)
  first = grind (arith, get_or-take, get_or_past, length-take-le, s.len, s.ends 0)

  others : Slots z counts (drop 8 l)
  others = record {
    len = length-drop 8 l ∙ omega (arith, s.len);
    ends = λ k j b h. let e : 8 + (8 * k + j) ≡ 8 * suc k + j = omega arith in get_or-drop 8 l (8 * k + j) z ∙ rw e (s.ends (suc k) j b h);
  }

action_ends : (counts actions targets : List ℕ) (values : List ℤ) → Slots 0 counts actions → Slots 0 counts targets → Slots (pos 0) counts values
    → all ends_zero (action_tables counts actions targets values) ≡ true
unfolding all
action_ends [] actions targets values a t v = refl
action_ends (n ∷ counts) actions targets values a t v =
    pass_both _ _ (columns_end n 8 (numbers _ ∷ numbers _ ∷ integers _ ∷ []) (first a, (first t, (first v, tt)))) (action_ends counts _ _ _ (others a) (others t) (others v))

-- one action more, of link k
pub slot_stored : {A : Type 0} {z : A} {counts : List ℕ} {l : List A} (k : ℕ) (x : A) → k < length counts → get_or counts k 0 < 8 → Slots z counts l
    → Slots z (set counts k (get_or counts k 0 + 1)) (set l (8 * k + get_or counts k 0) x)
slot_stored k x h c s = grind (arith, length-set, get_or-set_same, get_or-set_other, s.ends)

-- ---- the columns of a document

pub record Columns (d : Document) : Type 0 where
  pub nodes : Whole (node_table d.nodes)
  pub anchors : Whole (anchor_table d.anchors)
  pub rules : Whole (rule_table d.rules)
  pub binds : Whole (bind_table d.binds)
  pub ports : Whole (port_table d.ports)
  pub links : Whole (link_table d.links)
  pub actions : Slots 0 d.links.action_counts d.actions.actions
  pub targets : Slots 0 d.links.action_counts d.actions.targets
  pub values : Slots (pos 0) d.links.action_counts d.actions.values

pub document_ends : (d : Document) → Columns d → document_ends_zero d ≡ true
unfolding document_ends_zero
document_ends d c = search (pass_both, whole_ends, action_ends) depth 12
