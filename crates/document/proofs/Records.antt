-- The loop over a document's records.
use mathlib.Core.Path.{◌≡◌, sym, subst}
use mathlib.Core.List.{List, []}
use Prim.Native.Nat.{ℕ, zero, suc, ◌+◌, ◌-◌, ◌<◌, ◌≤◌}
use native.Mathlib.Numerals.{add-one}
use native.Mathlib.Omega.{arith}
use lib.ListN.{length, get_or, drop, drop_of_length-le}
use lib.Seq.{drop-cons, drop-drop}
use borrow.Author.Tests.{eq-eqb, ne_eqb}
use Rattle.base.specs.Tests.{when◌then◌else◌}
use Rattle.machine.specs.Answers.{accepted}
use Rattle.machine.specs.Records.{body_length, record_fault, entered}
use Rattle.machine.specs.Load.{OrFault, good, faulty, and_then, cut_at, cut, checked, records_entered, place_fault, load_refused, finished, load}
use Rattle.machine.specs.Tables.{empty_document, empty_session}
use Rattle.machine.specs.declared.Session.{Session}
use Rattle.machine.specs.declared.Record.{Record}
use Rattle.machine.proofs.Cutting.{Known, Faultless, cut_known, checked_known}
use Rattle.document.proofs.Room.{links_kept}

-- what is left to load at a place: some number of records, and the whole document's result comes out
pub record Left (doc : List ℕ) (s : Session) (at : ℕ) : Type 0 where
  pub links : s.document.links.count ≤ 64
  pub most : ℕ
  pub enough : length doc - at ≤ most
  pub same : finished (records_entered place_fault (cut most (drop at doc)) s) ≡ load doc

pub begins : (doc : List ℕ) (s : Session) → s ≡ empty_session → Left doc s 0
unfolding load empty_document empty_session
begins doc s e = record { links = rw e (omega arith); most = length doc; enough = omega arith; same = rw e }

module _ (doc : List ℕ) (s : Session) (at : ℕ) (lt : at < length doc) (left : Left doc s at) where
  abbrev kind : ℕ
  kind = get_or doc at 0

  abbrev reading : OrFault Record
  reading = checked place_fault s.document (cut_at kind (drop (at + 1) doc))

  -- one record more
  one : (most : ℕ) → length doc - at ≤ most → finished (records_entered place_fault (cut most (drop at doc)) s) ≡ load doc
      → (m : ℕ) × (length doc - (at + 1) ≤ m)
      × (finished (and_then reading (λ r. records_entered place_fault (cut m (drop (body_length kind) (drop (at + 1) doc))) (entered r s))) ≡ load doc)
  unfolding cut records_entered
  one zero h e = absurd (omega arith)
  one (suc m) h e = (m, omega arith, rw add-one (rw (drop-cons doc at 0 lt) at e))

  -- a refused record decides
  pub stops : (number : ℕ) → faulty number ≡ reading → load_refused number ≡ load doc
  unfolding and_then finished
  stops number e = rw (← e) at (one left.most left.enough left.same).2

  module _ (r : Record) (e : good r ≡ reading) where
    pub right : record_fault s.document r ≡ 0
    unfolding Known
    right = (subst (Known (Faultless s.document)) (sym e) (checked_known place_fault s.document _ (cut_known kind (drop (at + 1) doc)))).fault

    -- a record that was read is entered, and the loading goes on
    pub goes_on : (size : ℕ) (t : Session) → size ≡ body_length kind → t ≡ entered r s → Left doc t (at + 1 + size)
    unfolding and_then
    goes_on size t z f =
        let o = one left.most left.enough left.same in
        record {
          links = rw f (links_kept r s left.links right);
          most = o.0;
          enough = omega arith;
          same = rw (f, z, ← drop-drop) (rw (← e) at o.2);
        }

pub ends : (doc : List ℕ) (s : Session) (at : ℕ) → length doc ≤ at → Left doc s at → finished (good s) ≡ load doc
unfolding cut records_entered
ends doc s at h left = go left.most left.same
  where
    go : (most : ℕ) → finished (records_entered place_fault (cut most (drop at doc)) s) ≡ load doc → finished (good s) ≡ load doc
    go zero e = e
    go (suc m) e = rw (drop_of_length-le doc h) at e

-- after the last record
module _ (s : Session) where
  pub no_records : s.document.limit ≡ 0 → load_refused 3 ≡ finished (good s)
  unfolding finished when◌then◌else◌
  no_records e = rw (eq-eqb _ _ e)

  pub no_node : (s.document.limit ≡ 0 → ⊥) → s.document.nodes.count ≡ 0 → load_refused 8 ≡ finished (good s)
  unfolding finished when◌then◌else◌
  no_node l e = rw (ne_eqb _ _ l, eq-eqb _ _ e)

  pub loaded : (s.document.limit ≡ 0 → ⊥) → (s.document.nodes.count ≡ 0 → ⊥) → record { answer = accepted []; session = s } ≡ finished (good s)
  unfolding finished when◌then◌else◌
  loaded l n = rw (ne_eqb _ _ l, ne_eqb _ _ n)
