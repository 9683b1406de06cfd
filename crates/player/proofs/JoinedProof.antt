-- Demand 3 and the theorem of counts hold of what the operations return: their promises give the definition's sessions and results, of
-- which they are proved.
use Rattle.std.specs.Prelude.{Ok}
use Prim.Native.Nat.{ℕ, ◌<◌}
use native.Mathlib.Omega.{arith}
use mathlib.Core.List.{List, [], ◌∷◌}
use mathlib.Core.Path.{◌≡◌, refl, sym, ap, ◌∙◌}
use lib.Dec.{lit<}
use lib.IntN.{ℤ, pos}
use lib.ListN.{length}
use borrow.Author.Tests.{eqb-true, ltb-true}
use Rattle.base.specs.Tests.{when◌then◌else◌, ◌<?◌, both_pass, not_false}
use Rattle.machine.specs.Terms.{of_property}
use Rattle.machine.specs.Tables.{anchor_at}
use Rattle.machine.specs.Answers.{Answer, refused, read_answer, counts_answer, count_answer}
use Rattle.machine.specs.Operations.{CallResult, call, session_after, results_of, joined, read_state, read}
use Rattle.machine.specs.Load.{LoadResult, load}
use Rattle.machine.specs.Counts.{failing, shows_counts, check_counts, count_of, with_count, give_count, value_of, NeverSets, CountsShown}
use Rattle.machine.proofs.Keep.{chosen}
use Rattle.machine.proofs.Demand.{demand_3}
use Rattle.machine.proofs.Showing.{check_shows}
use Rattle.machine.proofs.Counting.{counts}
use Rattle.machine.specs.declared.State.{State}
use Rattle.machine.specs.declared.Session.{Session}
use Rattle.machine.specs.declared.Call.{Call}
use Rattle.machine.specs.declared.Reading.{Reading}
use Rattle.document.specs.Loading.{load_result}
use Rattle.player.proofs.Joined.{Made, by_call, by_command, by_key, by_tick, session_of, call_of, bytes_of, result_of, results_of_made, session_after_made, MadeFrom, LoadedDocument, session_loaded, ForEveryListMade, NeverSetsMade, CheckedCounts, CountGiven, PropertyRead, CountsForEveryListMade}

-- the contracts say what the definition gives
promise : (m : Made) → result_of m ≡ call (session_of m) (call_of m) (bytes_of m)
promise (by_call m) = m.promised
promise (by_command m) = m.promised
promise (by_key m) = m.promised
promise (by_tick m) = m.promised

gives : (s : Session) (m : Made) → session_of m ≡ s → result_of m ≡ call s (call_of m) (bytes_of m)
gives s m e = rw (← e) (promise m)

load_gives : (l : LoadedDocument) → load_result l.loading.returned ≡ load l.loading.handed.0.now
load_gives l = l.loading.promised

calls_of : List Made → List (Call × ℕ)
calls_of [] = []
calls_of (m ∷ ms) = (call_of m, bytes_of m) ∷ calls_of ms

same_session : (s : Session) (ms : List Made) → MadeFrom s ms → session_after_made s ms ≡ session_after s (calls_of ms)
unfolding calls_of session_after
same_session s [] p = refl
same_session s (m ∷ ms) p = same_session (result_of m).session ms p.1 ∙ ap (λ (r : CallResult). session_after r.session (calls_of ms)) (gives s m p.0)

same_results : (s : Session) (ms : List Made) → MadeFrom s ms → results_of_made ms ≡ results_of s (calls_of ms)
unfolding calls_of results_of
same_results s [] p = refl
same_results s (m ∷ ms) p = rw (← gives s m p.0) (ap (λ (rs : List CallResult). result_of m ∷ rs) (same_results (result_of m).session ms p.1))

pub demand_3_made : ForEveryListMade
demand_3_made loaded made p =
    let e = load_gives loaded in
    let same : session_loaded loaded ≡ _ = ap (λ (r : LoadResult). r.session) e in
    rw (same_session (session_loaded loaded) made p, same_results (session_loaded loaded) made p, same)
    (demand_3 _ (ap (λ (r : LoadResult). r.answer.refusal) (sym e) ∙ loaded.accepted) (calls_of made))

never_sets : (p : ℕ) (s : Session) (ms : List Made) → MadeFrom s ms → NeverSetsMade p ms → NeverSets p s (calls_of ms)
unfolding calls_of
never_sets p s [] a n = tt
never_sets p s (m ∷ ms) a n = rw (← gives s m a.0) (n.0, never_sets p (result_of m).session ms a.1 n.1)

-- ---- what the answers of read and count_of say: an accepted one has its value in second place

value_in : Answer → ℤ
value_in r = second r.values
  where
    second : List ℤ → ℤ
    second [] = pos 0
    second (x ∷ []) = x
    second (x ∷ y ∷ values) = y

refused_none : {r : Answer} (number : ℕ) → refused number ≡ r → 0 < length r.values → ⊥
refused_none number e h = omega (arith, ap (λ (r : Answer). length r.values) e)

state_value : (s : State) (p : ℕ) → value_in (read_state s of_property p) ≡ value_of s p
unfolding read_state value_in when◌then◌else◌
state_value s p = refl

read_value : (s : Session) (p : ℕ) (reading : Reading) → read s of_property p ≡ read_answer (Ok reading) → value_of s.state p ≡ reading.value
unfolding read value_in
read_value s p reading =
    chosen Reads _ (λ _ e. absurd (refused_none 13 e (lit< tt)))
    (λ _. chosen Reads _ (λ _ e. absurd (refused_none 9 e (lit< tt)))
    (λ _. chosen Reads _ (λ _ e. absurd (refused_none 10 e (lit< tt))) (λ _ e. sym (state_value s.state p) ∙ ap value_in e)))
  where
    Reads : Answer → Type 0
    Reads r = r ≡ read_answer (Ok reading) → value_of s.state p ≡ reading.value

count_value : (count : ℤ) → value_in (with_count 0 count) ≡ count
unfolding with_count value_in when◌then◌else◌
count_value count = refl

given_count : (s : Session) (a p : ℕ) (count : ℤ) → failing s.document (anchor_at s.document.anchors a).media p ≡ 0 → give_count s a p ≡ count_answer (Ok (Ok count))
    → (a < s.document.anchors.count) × (count_of s.document p a ≡ count)
unfolding give_count value_in
given_count s a p count none =
    chosen Gives _ (λ _ e. absurd (refused_none 13 e (lit< tt)))
    (λ _. chosen Gives _ (λ _ e. absurd (refused_none 10 e (lit< tt)))
    (λ g. rw none (λ e. (ltb-true a s.document.anchors.count (both_pass (a <? s.document.anchors.count) _ (not_false _ g)).0, sym (count_value _) ∙ ap value_in e))))
  where
    Gives : Answer → Type 0
    Gives r = r ≡ count_answer (Ok (Ok count)) → (a < s.document.anchors.count) × (count_of s.document p a ≡ count)

-- what the three operations promise of the arguments that they were handed
checked : (s : Session) (m p : ℕ) → CheckedCounts s m p → check_counts s m p ≡ counts_answer (Ok (Ok tt))
checked s m p c = sym (rw (c.session, c.media, c.property) at c.checking.promised) ∙ ap counts_answer c.shown

given : (s : Session) (a p : ℕ) (count : ℤ) → CountGiven s a p count → give_count s a p ≡ count_answer (Ok (Ok count))
given s a p count c = sym (rw (c.session, c.anchor, c.property) at c.giving.promised) ∙ ap count_answer c.gave

was_read : (s : Session) (p : ℕ) (reading : Reading) → PropertyRead s p reading → read s of_property p ≡ read_answer (Ok reading)
was_read s p reading c = sym (rw (c.session, c.class, c.id) at c.reads.promised) ∙ ap read_answer c.found

pub counts_made : CountsForEveryListMade
unfolding shows_counts
counts_made loaded m p shown made a n =
    let s = session_loaded loaded in
    let e = load_gives loaded in
    let same : s ≡ _ = ap (λ (r : LoadResult). r.session) e in
    let shows = check_shows s m p (checked s m p shown) in
    let after : CountsShown s.document m p (value_of s.state p) (session_after_made s made).state (joined (results_of_made made))
    = rw (same_session s made a, same_results s made a, same)
    (counts _ (ap (λ (r : LoadResult). r.answer.refusal) (sym e) ∙ loaded.accepted) m p (rw same at shows) (calls_of made) (rw same at (never_sets p s made a n))) in (
      after,
      λ anchor count reading gave found own awake inside.
          let of_anchor_lem = given_count s anchor p count (rw own (eqb-true _ 0 shows)) (given s anchor p count gave) in
          sym (read_value _ p reading (was_read _ p reading found)) ∙ after.shown anchor of_anchor_lem.0 own awake inside ∙ of_anchor_lem.1,
    )
