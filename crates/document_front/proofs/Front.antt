-- Load's answer depends on no byte after the first `deciding_bytes`. Each record that is entered takes its bytes from those that a document has
-- room for; where no room is left, the next record stops the load, and it is whole within `record_length 9` bytes.
use Prim.Native.Nat.{ℕ, zero, suc, ◌+◌, ◌-◌, ◌*◌, ◌<◌, ◌≤◌}
use mathlib.Core.Bool.{false, not, ◌&&◌}
use mathlib.Core.List.{List, [], ◌∷◌, ◌++◌}
use mathlib.Core.Path.{◌≡◌, refl, sym, ap, ◌∙◌}
use Rattle.std.specs.Prelude.{Ok, ⊤}
use native.Mathlib.Nat.{le_refl, mul-suc, mul-le-mul_left}
use native.Mathlib.Omega.{arith}
use lib.ListN.{length, take, drop, take-append-drop, length-append, length-drop, length-set, get_or-eq_default}
use lib.Seq.{get_or-set_same, take_all, length-take-le, take-append-le, drop-append-le}
use borrow.Author.Tests.{eqb-true, eqb-false, leb-true, leb-false, ltb-false, le-ltb}
use Rattle.base.specs.Tests.{when◌then◌else◌, ◌=?◌, ◌≤?◌, ◌<?◌, by_test, both_pass, not_true}
use Rattle.base.specs.Loops.{every, every_each}
use Rattle.machine.specs.Terms.{simple_rule}
use Rattle.machine.specs.Tables.{Table, node_table, anchor_table, rule_table, bind_table, port_table, link_table, latest, action_count, empty_document, empty_session}
use Rattle.machine.specs.Records.{greatest_kind, body_length, node_fault, anchor_fault, property_fault, rule_fault, bind_fault, port_fault, link_fault, record_of, record_fault, entered}
use Rattle.machine.specs.Load.{OrFault, good, faulty, and_then, cut_at, cut, checked, records_entered, place_fault, LoadResult, finished, load}
use Rattle.machine.specs.Broken.{broken}
use Rattle.machine.specs.declared.Links.{Links}
use Rattle.machine.specs.declared.Outcome.{Outcome}
use Rattle.machine.specs.declared.Document.{Document}
use Rattle.machine.specs.declared.Session.{Session}
use Rattle.machine.specs.declared.Record.{Record}
use Rattle.machine.specs.declared.Record.TheVariants.{Head, Node, Anchor, Property, Rule, Bind, Port, Link, Action}
use Rattle.machine.proofs.Keep.{chosen}
use Rattle.machine.proofs.Cutting.{Known, and_then_lem, unless_known}
use Rattle.machine.proofs.FirstSession.{loaded_invariant}
use Rattle.document.specs.Loading.{load_result}
use Rattle.document_front.specs.Front.{record_length, deciding_bytes}
use Rattle.document.proofs.Room.{room, action_room, links_kept}

-- ---- the bytes of records

-- no record is longer than an action
longest : (kind : ℕ) → record_length kind ≤ record_length 9
unfolding every
longest kind =
    by_test (kind ≤? greatest_kind)
    (λ e. leb-true _ _ (every_each (λ k. record_length k ≤? record_length 9) (greatest_kind + 1) refl kind (omega (arith, leb-true kind greatest_kind e))))
    (λ e. rw (get_or-eq_default {A = ℕ} _ 0 (leb-false kind greatest_kind e)) (omega arith))

-- of rules the simple ones are longer
unfoldable length_of : Record → ℕ
length_of (Head limit) = record_length 0
length_of (Node r) = record_length 1
length_of (Anchor r) = record_length 2
length_of (Property r) = record_length 3
length_of (Rule r) = record_length simple_rule
length_of (Bind r) = record_length 6
length_of (Port r) = record_length 7
length_of (Link r) = record_length 8
length_of (Action r) = record_length 9

-- a record of a kind and a body has at most the bytes of its case
record_fits : (body : List ℕ) (kind : ℕ) → kind ≤ greatest_kind → record_length kind ≤ length_of (record_of kind body)
unfolding length_of record_of when◌then◌else◌ every
record_fits body kind h = leb-true _ _ (every_each (λ k. record_length k ≤? length_of (record_of k body)) (greatest_kind + 1) refl kind (omega arith))

-- ---- the bytes that a document has room for

abbrev places_left : Table → ℕ
places_left t = t.places - t.count

-- the places of actions up to the latest one, with those that earlier links left empty; none without a link
abbrev actions_passed : Links → ℕ
actions_passed t = 8 * t.count - (8 - action_count t (latest t))

unfoldable bytes_left : Document → ℕ
bytes_left d =
    record_length 0 * (1 - d.limit)
    + record_length 1 * places_left (node_table d.nodes)
    + record_length 2 * places_left (anchor_table d.anchors)
    + record_length 3 * (32 - d.properties)
    + record_length simple_rule * places_left (rule_table d.rules)
    + record_length 6 * places_left (bind_table d.binds)
    + record_length 7 * places_left (port_table d.ports)
    + record_length 8 * places_left (link_table d.links)
    + record_length 9 * (512 - actions_passed d.links)

-- a part of a sum falls by n, and so does the sum
first_part : (x y n a b : ℕ) → x + n ≤ y → a ≤ b → x + a + n ≤ y + b
first_part x y n a b h k = omega arith

last_part : (x y n a : ℕ) → x + n ≤ y → a + x + n ≤ a + y
last_part x y n a h = omega arith

fewer : (size m n : ℕ) → m < n → size * m + size ≤ size * n
fewer size m n h = rw mul-suc at (mul-le-mul_left {m = suc m} {n = n} size h)

one_more : (size places count : ℕ) → count < places → size * (places - (count + 1)) + size ≤ size * (places - count)
one_more size places count h = fewer size _ _ (omega arith)

-- no second head
head_fewer : (d : Document) (limit : ℕ) → place_fault d (Head limit) ≡ 0 → 1 - limit < 1 - d.limit
unfolding place_fault when◌then◌else◌
head_fewer d limit e =
    by_test (d.limit =? 0 && not (limit =? 0))
    (λ t. let p = both_pass (d.limit =? 0) (not (limit =? 0)) t in omega (arith, eqb-true d.limit 0 p.0, eqb-false limit 0 (not_true _ p.1)))
    (λ t. absurd (let q : 3 ≡ 0 = rw t at e in omega (arith, q)))

-- a link leaves no more places of actions, whatever stands in its own; an action takes one
link_no_more : (n c e : ℕ) → 512 - (8 * (n + 1) - (8 - e)) ≤ 512 - (8 * n - (8 - c))
link_no_more n c e = omega arith

action_fewer : (n c : ℕ) → 1 ≤ n → n ≤ 64 → c < 8 → 512 - (8 * n - (8 - (c + 1))) < 512 - (8 * n - (8 - c))
action_fewer n c h k l = omega arith

-- a record that is entered leaves less room, by its bytes
record Takes (r : Record) (s : Session) : Type 0 where
  places : length (entered r s).document.links.action_counts ≡ length s.document.links.action_counts
  less : bytes_left (entered r s).document + length_of r ≤ bytes_left s.document

module _ (s : Session) (few : s.document.links.count ≤ 64) (places : length s.document.links.action_counts ≡ 64) where
  takes : (r : Record) → place_fault s.document r ≡ 0 → record_fault s.document r ≡ 0 → Takes r s
  unfolding bytes_left length_of node_fault anchor_fault property_fault rule_fault bind_fault port_fault link_fault
  takes (Head limit) p e = let h = head_fewer s.document limit p in record { places = refl; less = search (first_part, fewer, le_refl) depth 20 }
  takes (Node r) p e = let h = room 64 s.document.nodes.count _ e in record { places = refl; less = search (first_part, last_part, one_more, le_refl) depth 20 }
  takes (Anchor r) p e = let h = room 128 s.document.anchors.count _ e in record { places = refl; less = search (first_part, last_part, one_more, le_refl) depth 20 }
  takes (Property r) p e = let h = room 32 s.document.properties _ e in record { places = refl; less = search (first_part, last_part, one_more, le_refl) depth 20 }
  takes (Rule r) p e = let h = room 32 s.document.rules.count _ e in record { places = refl; less = search (first_part, last_part, one_more, le_refl) depth 20 }
  takes (Bind r) p e = let h = room 64 s.document.binds.count _ e in record { places = refl; less = search (first_part, last_part, one_more, le_refl) depth 20 }
  takes (Port r) p e = let h = room 64 s.document.ports.count _ e in record { places = refl; less = search (first_part, last_part, one_more, le_refl) depth 20 }
  takes (Link r) p e =
      let h = room 64 s.document.links.count _ e in
      record { places = refl; less = first_part _ _ _ _ _ (last_part _ _ _ _ (one_more (record_length 8) 64 _ h)) (mul-le-mul_left (record_length 9) (link_no_more _ _ _)) }
  takes (Action r) p e =
      let t = s.document.links in
      let c = action_count t (latest t) in
      let h = action_room s.document r few e in
      record {
        places = length-set t.action_counts _ _;
        less = rw (get_or-set_same t.action_counts (latest t) (c + 1) 0 (omega arith)) (last_part _ _ _ _ (fewer _ _ _ (action_fewer t.count c h.0 few h.1.1)));
      }

-- ---- the records of the first bytes

-- a record as it is cut; and as it is checked, in its place and without a fault
cut_fits : (kind : ℕ) (rest : List ℕ) → Known (λ r. record_length kind ≤ length_of r) (cut_at kind rest)
unfolding cut_at Known
cut_fits kind rest =
    let P = Known (λ r. record_length kind ≤ length_of r) in
    chosen P (greatest_kind <? kind) (λ _ z. omega arith) (λ e. chosen P _ (λ _ z. omega arith) (λ _. record_fits _ kind (ltb-false greatest_kind kind e)))

record Enters (kind : ℕ) (d : Document) (r : Record) : Type 0 where
  fits : record_length kind ≤ length_of r
  place : place_fault d r ≡ 0
  fault : record_fault d r ≡ 0

checked_enters : (kind : ℕ) (d : Document) (rest : List ℕ) → Known (Enters kind d) (checked place_fault d (cut_at kind rest))
unfolding checked Known
checked_enters kind d rest =
    and_then_lem (Enters kind d) (cut_at kind rest) _ (cut_fits kind rest)
    (λ r fits. unless_known (Enters kind d) _ _ (λ place. unless_known (Enters kind d) (record_fault d r) (good r) (λ fault. record { fits = fits; place = place; fault = fault })))

same_next : {A B : Type 0} {P : A → Type 0} (x : OrFault A) (f g : A → OrFault B) → Known P x → ((value : A) → P value → f value ≡ g value) → and_then x f ≡ and_then x g
unfolding and_then Known
same_next (good value) f g k h = h value k
same_next (faulty number) f g k h = refl

module _ (rest : List ℕ) where
  -- a record that is whole in the first bytes
  same_cut : (kind : ℕ) (first : List ℕ) → body_length kind ≤ length first → cut_at kind (first ++ rest) ≡ cut_at kind first
  unfolding cut_at
  same_cut kind first h =
      rw (take-append-le (body_length kind) first rest h, le-ltb _ _ h, le-ltb (length (first ++ rest)) (body_length kind) (omega (arith, length-append first rest)))

  -- where the first bytes are as many as there is room for, and a record more, the rest decides nothing
  same_records : (m n : ℕ) (first : List ℕ) (s : Session) → s.document.links.count ≤ 64 → length s.document.links.action_counts ≡ 64
      → length first ≤ m → length first ≤ n → bytes_left s.document + record_length 9 ≤ length first
      → records_entered place_fault (cut m first) s ≡ records_entered place_fault (cut n (first ++ rest)) s
  unfolding cut records_entered
  same_records zero n first s few places a b h = absurd (omega arith)
  same_records (suc m) zero first s few places a b h = absurd (omega arith)
  same_records (suc m) (suc n) [] s few places a b h = absurd (omega arith)
  same_records (suc m) (suc n) (kind ∷ first) s few places a b h =
      let l : body_length kind ≤ length first = omega (arith, longest kind) in
      let left = length-drop (body_length kind) first in
      rw (same_cut kind first l, drop-append-le (body_length kind) first rest l)
      (same_next (checked place_fault s.document (cut_at kind first)) _ _ (checked_enters kind s.document first)
      (λ r e.
      let t = takes s few places r e.place e.fault in
      same_records m n (drop (body_length kind) first) (entered r s) (links_kept r s few e.fault) (t.places ∙ places) (omega arith) (omega arith) (omega (arith, t.less, e.fits))))

-- ---- load

all_left : bytes_left empty_session.document + record_length 9 ≡ deciding_bytes
unfolding empty_session empty_document bytes_left
all_left = refl

pub load_front : (n : ℕ) → deciding_bytes ≤ n → (bytes : List ℕ) → load (take n bytes) ≡ load bytes
unfolding load empty_session empty_document
load_front n h bytes =
    by_test (n ≤? length bytes)
    (λ e.
    let l = length-take-le n bytes (leb-true n (length bytes) e) in
    ap finished (same_records (drop n bytes) _ (length bytes) (take n bytes) empty_session (omega arith) refl (omega arith) (omega (arith, leb-true n (length bytes) e)) (rw all_left (omega arith)))
    ∙ rw (take-append-drop n bytes))
    (λ e. ap load (take_all n bytes (omega (arith, leb-false n (length bytes) e))))

-- the session of a document that is accepted is not broken
pub loaded_unbroken : (loaded : Outcome ⊤) (bytes : List ℕ) → load_result loaded ≡ load bytes → loaded.answer ≡ Ok tt → broken loaded.session ≡ false
loaded_unbroken loaded bytes e accepted =
    let none : (load bytes).answer.refusal ≡ 0 = ap (λ (r : LoadResult). r.answer.refusal) (sym e) ∙ rw accepted in
    let same : loaded.session ≡ (load bytes).session = ap (λ (r : LoadResult). r.session) e in
    rw same (loaded_invariant bytes none).unbroken
