-- What a script prints, record by record, whatever bytes follow.
use Prim.Native.Nat.{ℕ, zero, suc, ◌+◌, ◌-◌, ◌<◌, ◌≤◌}
use native.Mathlib.Omega.{arith}
use mathlib.Core.Bool.{true, false≢true}
use mathlib.Core.List.{List, [], ◌∷◌, ◌++◌, append_assoc}
use mathlib.Core.Path.{◌≡◌, refl, sym, ap, ◌∙◌}
use lib.ListN.{length, length-append, length-drop, take, drop}
use lib.Seq.{length-take-le, take_all, take-append-le, drop-append-le, drop-drop, slice}
use borrow.Author.Tests.{leb-true, le-leb}
use Rattle.std.proofs.lemmas.List.{drop-take}
use Rattle.base.specs.Tests.{when◌then◌else◌, by_test, both_pass, ◌≤?◌}
use Rattle.machine.specs.Operations.{CallResult, call}
use Rattle.machine.specs.PrintedRun.{printed_call, script_length, is_script_kind, is_call, call_of, printed_script}
use Rattle.machine.specs.Text.{text as text_of}
use Rattle.machine.specs.declared.Call.{Call}
use Rattle.machine.specs.declared.Session.{Session}
use Rattle.printing.specs.declared.script.ScriptRecord.{ScriptRecord}
use Rattle.printing.specs.Script.{record_after, script_record}
use Rattle.printing.specs.Writing.{Printed}
use Rattle.script_run.specs.Running.{printed_all, call_size, GoesOn, Ends}

-- a larger bound on the records prints no more
enough : (a b n : ℕ) (script : List ℕ) (s : Session) → length script ≤ a → length script ≤ b → printed_script a n script s ≡ printed_script b n script s
unfolding printed_script
enough zero zero n script s h k = refl
enough zero (suc b) n [] s h k = refl
enough zero (suc b) n (kind ∷ rest) s h k = absurd (omega arith)
enough (suc a) zero n [] s h k = refl
enough (suc a) zero n (kind ∷ rest) s h k = absurd (omega arith)
enough (suc a) (suc b) n [] s h k = refl
enough (suc a) (suc b) n (kind ∷ rest) s h k =
    let l = length-drop (script_length kind) rest in
    rw (enough a b (n + 1) (drop (script_length kind) rest) (call s (call_of kind (take (script_length kind) rest)) 65_536).session (omega (arith, l)) (omega (arith, l)))

-- ---- the record at the front

size_is : (kind : ℕ) (body : List ℕ) → is_script_kind kind ≡ true → call_size (call_of kind body) ≡ suc (script_length kind)
unfolding call_of when◌then◌else◌
size_is zero body k = absurd (false≢true k)
size_is (suc zero) body k = refl
size_is (suc (suc zero)) body k = refl
size_is (suc (suc (suc zero))) body k = refl
size_is (suc (suc (suc (suc kind)))) body k = absurd (omega (arith, leb-true (suc (suc (suc (suc kind)))) 3 (both_pass (1 ≤? suc (suc (suc (suc kind)))) _ k).1))

-- a call stands there: it has its bytes, and prints its line
call_first : (b : List ℕ) (c : Call) → script_record b ≡ ScriptRecord.Call c
    → (0 < call_size c) × (call_size c ≤ length b)
    × ((n : ℕ) (s : Session) → printed_all n b s ≡ printed_call n (call s c 65_536) ++ printed_all (n + 1) (drop (call_size c) b) (call s c 65_536).session)
unfolding script_record record_after is_call printed_all printed_script when◌then◌else◌
call_first [] c e = cc
call_first (kind ∷ rest) c e =
    by_test (is_call kind rest)
    (λ p.
    let body = take (script_length kind) rest in
    let is : call_of kind body ≡ c = cc (rw p at e) in
    let known = both_pass (is_script_kind kind) (script_length kind ≤? length rest) p in
    let room : script_length kind ≤ length rest = leb-true _ _ known.1 in
    let size : call_size c ≡ suc (script_length kind) = rw (← is) (size_is kind body known.0) in
    let l = length-drop (script_length kind) rest in (
      omega (arith, size),
      omega (arith, size, room),
      λ n s. rw (p, is, size) (ap (λ (left : List ℕ). printed_call n (call s c 65_536) ++ left) (enough (length rest) (length (drop (script_length kind) rest)) (n + 1) (drop (script_length kind) rest) (call s c 65_536).session (omega (arith, l)) (omega arith))),
    ))
    (λ p. by_test (is_script_kind kind) (λ q. cc (rw (p, q) at e)) (λ q. cc (rw (p, q) at e)))

-- the bytes of a part from a place on: those that are lent, and those of the call's record
pub lent_front : (script : List ℕ) (used : ℕ) {r r' : ScriptRecord} → r ≡ script_record (take (length script - used) (drop used script)) → r ≡ r' → script_record (drop used script) ≡ r'
lent_front script used e f = rw (take_all (length script - used) (drop used script) (omega (arith, length-drop used script))) at (sym e ∙ f)

pub call_fits : (script : List ℕ) (used : ℕ) (c : Call) → script_record (drop used script) ≡ ScriptRecord.Call c → (used < used + call_size c) × (used + call_size c ≤ length script)
call_fits script used c e =
    let (some, fits, prints) = call_first (drop used script) c e in
    (omega arith, omega (arith, length-drop used script))

-- more bytes leave it
call_more : (b rest : List ℕ) (c : Call) → script_record b ≡ ScriptRecord.Call c → script_record (b ++ rest) ≡ ScriptRecord.Call c
unfolding script_record record_after is_call when◌then◌else◌
call_more [] rest c e = cc
call_more (kind ∷ b) rest c e =
    by_test (is_call kind b)
    (λ p.
    let known = both_pass (is_script_kind kind) (script_length kind ≤? length b) p in
    let room : script_length kind ≤ length b = leb-true _ _ known.1 in
    rw (known.0, le-leb (script_length kind) (length (b ++ rest)) (omega (arith, length-append b rest)), take-append-le (script_length kind) b rest room) (rw p at e))
    (λ p. by_test (is_script_kind kind) (λ q. cc (rw (p, q) at e)) (λ q. cc (rw (p, q) at e)))

-- no record begins there, whatever follows
wrong_first : (b rest : List ℕ) → script_record b ≡ ScriptRecord.Wrong → (n : ℕ) (s : Session) → printed_all n (b ++ rest) s ≡ text_of "script\n"
unfolding script_record record_after is_call printed_all printed_script when◌then◌else◌
wrong_first [] rest e n s = cc
wrong_first (kind ∷ b) rest e n s =
    by_test (is_script_kind kind)
    (λ q. by_test (is_call kind b) (λ p. cc (rw p at e)) (λ p. cc (rw (p, q) at e)))
    (λ q. rw q)

-- no byte is left, or a cut record
pub prints_nothing : (b : List ℕ) → length b ≡ 0 → (n : ℕ) (s : Session) → printed_all n b s ≡ []
unfolding printed_all printed_script
prints_nothing b e n s = rw e

pub cut_first : (b : List ℕ) → (length b ≡ 0 → ⊥) → script_record b ≡ ScriptRecord.Cut → (n : ℕ) (s : Session) → printed_all n b s ≡ text_of "script\n"
unfolding script_record record_after printed_all printed_script when◌then◌else◌
cut_first [] h e n s = absurd (h refl)
cut_first (kind ∷ b) h e n s = by_test (is_call kind b) (λ p. cc (rw p at e)) (λ p. rw p)

-- ---- a part of a script

-- nothing is run yet; and what is run from there on, where a run stands
pub none_run : {number : ℕ} {s : Session} {script : List ℕ} → GoesOn number s script [] number s script
none_run = record { prints = λ rest. refl }

pub run_on : {number n m : ℕ} {s a b : Session} {script left end printed more : List ℕ} → GoesOn number s script printed n a left → GoesOn n a left more m b end → GoesOn number s script (printed ++ more) m b end
run_on {printed = printed} ran then-ran = record { prints = λ rest. ran.prints rest ∙ rw (then-ran.prints rest) (sym (append_assoc printed _ _)) }

-- more bytes are read
pub read_on : {number n : ℕ} {s a : Session} {script left printed : List ℕ} → GoesOn number s script printed n a left → (more : List ℕ) → GoesOn number s (script ++ more) printed n a (left ++ more)
read_on {script = script} {left = left} ran more = record { prints = λ rest. rw (append_assoc script, append_assoc left) (ran.prints (more ++ rest)) }

call_run : (n : ℕ) (s : Session) (b : List ℕ) (c : Call) → script_record b ≡ ScriptRecord.Call c
    → GoesOn n s b (printed_call n (call s c 65_536)) (n + 1) (call s c 65_536).session (drop (call_size c) b)
call_run n s b c first = record {
  prints = λ rest. (call_first (b ++ rest) c (call_more b rest c first)).2 n s ∙ rw (drop-append-le (call_size c) b rest (call_first b c first).1);
}

-- one more record, which stands at the front of what is left
module _ {number n : ℕ} {s session : Session} {written written' : List ℕ} (used : ℕ) (script : List ℕ) (ran : GoesOn number s script written n session (drop used script)) where
  pub ran_call : (c : Call) (r : CallResult) → script_record (drop used script) ≡ ScriptRecord.Call c → r ≡ call session c 65_536 → written' ≡ written ++ printed_call n r
      → GoesOn number s script written' (n + 1) r.session (drop (used + call_size c) script)
  ran_call c r first e a = rw (a, e, ← drop-drop (call_size c) used script) (run_on ran (call_run n session _ c first))

  pub ran_wrong : script_record (drop used script) ≡ ScriptRecord.Wrong → written' ≡ written ++ text_of "script\n" → Ends number s script written'
  ran_wrong first a = record { prints = λ rest. ran.prints rest ∙ rw (wrong_first (drop used script) rest first n session, a) }

-- ---- bytes that went to the front of their slice

pub all_moved : (start end : ℕ) (before after : List ℕ) (next : ℕ) → next ≡ end - start → start ≤ end → end ≤ length before → length after ≡ length before
    → take next after ≡ take next (drop start before) → Printed (slice start end before) after next
all_moved start end before after next size h k same moved =
    let all : start + next ≡ end = omega arith in
    record {
      front = (omega arith, sym (length-take-le next after (omega arith)));
      printed = moved ∙ sym (rw all at (drop-take start next before));
    }
