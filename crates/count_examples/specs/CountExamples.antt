-- The limits of the theorem of counts, by computing: a document that shows counts; documents in which one condition fails, and with it
-- the statement, but for the first; and a command that sets the property.
use Rattle.std.specs.Prelude.{ℕ, Bool, true, false, ◌&&◌, List, [], ◌∷◌, ◌++◌, ◌≡◌, refl, ℤ, pos, set}
use Prim.Native.String.{String}
use Rattle.base.specs.Tests.{◌≤?◌, ◌<?◌}
use Rattle.machine.specs.Terms.{to_start, to_stop, to_pause, to_resume}
use Rattle.machine.specs.Tables.{anchor_at}
use Rattle.machine.specs.Answers.{Answer, accepted, refused}
use Rattle.machine.specs.Load.{load}
use Rattle.machine.specs.Events.{node_state, node_clock, awake}
use Rattle.machine.specs.Operations.{session_after, results_of, joined}
use Rattle.machine.specs.Counts.{conditions, count_of, check_counts, give_count, last_count, value_of}
use Rattle.machine.specs.Computing.{machine_computes}
use Rattle.machine.specs.Examples.{digit, pairs, bytes, whole, on, set_to, All}
use Rattle.machine.specs.declared.Call.{Call}
use Rattle.machine.specs.declared.Call.TheVariants.{Key, Tick}

-- of media 1 and property 0: the conditions; then, after the calls, whether the media is awake and its clock is in the anchor that is
-- asked for, that anchor's count, the count of the last anchor that started, and the property's value
pub record Outcome : Type 0 where
  pub conditions : List Bool
  pub inside : Bool
  pub count : ℤ
  pub last : ℤ
  pub value : ℤ

outcome : List ℕ → List (Call × ℕ) → ℕ → Outcome
outcome document calls a =
    let s = (load document).session in
    let anchor = anchor_at s.document.anchors a in
    let state = (session_after s calls).state in
    let clock = node_clock state 1 in
    record {
      conditions = conditions s.document 1 0;
      inside = awake (node_state state 1) && anchor.begin ≤? clock && clock <? anchor.end;
      count = count_of s.document 0 a;
      last = last_count s.document 1 0 (value_of s.state 0) (joined (results_of s calls));
      value = value_of state 0;
    }

gives : List Bool → Bool → ℕ → ℕ → ℕ → Outcome
gives conditions inside count last value =
    record { conditions = conditions; inside = inside; count = pos count; last = pos last; value = pos value }

-- which of the seven conditions hold
all : List Bool
all = true ∷ true ∷ true ∷ true ∷ true ∷ true ∷ true ∷ []

but : ℕ → List Bool
but n = set all n false

-- ---- the documents: context 0, its media 1 of 4 ticks, property 0 (first value 7), a port; anchors 0 and 1, with a link each that sets 10 and 20

anchors : String → String → List ℕ
anchors first second = bytes "00 09  01 00 FF 00 00  01 01 00 04 00" ++ bytes first ++ bytes second ++ bytes "03 07 00 00 00  07 00 01"

frames : List ℕ
frames = anchors "02 01 01 00 02 00" "02 01 02 00 03 00"

links : List ℕ
links = bytes "08 00 02 00 01 FF  09 06 00 0A 00 00 00  08 00 02 01 01 FF  09 06 00 14 00 00 00"

-- anchor 0 from 1 to 3, and anchor 1 from 2 to 3
overlapping : List ℕ
overlapping = anchors "02 01 01 00 03 00" "02 01 02 00 03 00" ++ links

-- the second link fires if the property is 99
guarded : List ℕ
guarded = frames ++ bytes "04 00 00 63 00 00 00  08 00 02 00 01 FF  09 06 00 0A 00 00 00  08 00 02 01 01 00  09 06 00 14 00 00 00"

-- the links are of context 3, the default of switch 2, which has not been started
in_switch : List ℕ
in_switch =
    bytes "00 09  01 00 FF 00 00  01 01 00 04 00  01 02 00 00 00  01 00 02 00 00  02 01 01 00 02 00  02 01 02 00 03 00  03 07 00 00 00"
    ++ bytes "06 02 03 FF  07 00 01  08 03 02 00 01 FF  09 06 00 0A 00 00 00  08 03 02 01 01 FF  09 06 00 14 00 00 00"

-- the calls that bring media 1 to clock 1, and to clock 2
to_one : List (Call × ℕ)
to_one = on to_start 0 ∷ whole Tick ∷ []

to_two : List (Call × ℕ)
to_two = to_one ++ (whole Tick ∷ [])

pub examples : List (Outcome × Outcome)
examples =
    -- a document that shows counts: before the first anchor begins, in anchor 0, and in anchor 1
    (outcome (frames ++ links) (on to_start 0 ∷ []) 0, gives all false 10 7 7)
    ∷ (outcome (frames ++ links) to_one 0, gives all true 10 10 10)
    ∷ (outcome (frames ++ links) to_two 1, gives all true 20 20 20)
    -- with pauses, wherever the thumb comes down
    ∷ (outcome (frames ++ links) (to_one ++ (on to_pause 1 ∷ whole Tick ∷ on to_resume 1 ∷ whole Tick ∷ on to_pause 1 ∷ [])) 1, gives all true 20 20 20)
    -- after a restart: outside the anchors the count of the last start, inside again that of the anchor
    ∷ (outcome (frames ++ links) (to_two ++ (on to_stop 0 ∷ on to_start 0 ∷ [])) 0, gives all false 10 20 20)
    ∷ (outcome (frames ++ links) (to_two ++ (on to_stop 0 ∷ to_one)) 0, gives all true 10 10 10)
    -- 1. no anchor of media 1: nothing to show, and nothing that fails but the check
    ∷ (outcome (bytes "00 09  01 00 FF 00 00  01 01 00 04 00  03 07 00 00 00") [] 0, gives (but 0) false 0 7 7)
    -- 2. overlapping anchors: the clock is in anchor 0, and p has not its count
    ∷ (outcome overlapping to_two 0, gives (but 1) true 10 20 20)
    -- 3. two links on a start that set p; none
    ∷ (outcome (frames ++ links ++ bytes "08 00 02 01 01 FF  09 06 00 1E 00 00 00") to_two 1, gives (but 2) true 20 20 30)
    ∷ (outcome (frames ++ bytes "08 00 02 00 01 FF  09 06 00 0A 00 00 00") to_two 1, gives (but 2) true 0 0 10)
    -- 4. a link that sets p twice
    ∷ (outcome (frames ++ links ++ bytes "09 06 00 1E 00 00 00") to_two 1, gives (but 3) true 20 20 30)
    -- 5. a guard
    ∷ (outcome guarded to_two 1, gives (but 4) true 20 20 10)
    -- 6. another action that sets p: of a link on key 7
    ∷ (outcome (frames ++ links ++ bytes "08 00 04 07 01 FF  09 06 00 05 00 00 00") (to_two ++ (whole (Key 7) ∷ [])) 1, gives (but 5) true 20 20 5)
    -- 7. links of a variant that the switch above has not chosen
    ∷ (outcome in_switch to_two 1, gives (but 6) true 20 20 7)
    -- an accepted command that sets p
    ∷ (outcome (frames ++ links) (to_two ++ (set_to 0 (pos 5) ∷ [])) 1, gives all true 20 20 5)
    ∷ []

pub examples_hold : All (λ (e : Outcome × Outcome). e.0 ≡ e.1) examples
unfolding machine_computes digit pairs bytes whole on set_to outcome gives all but anchors frames links overlapping guarded in_switch to_one to_two examples
examples_hold = (refl, (refl, (refl, (refl, (refl, (refl, (refl, (refl, (refl, (refl, (refl, (refl, (refl, (refl, (refl, tt)))))))))))))))

-- ---- the answers of the check and of an anchor's count

pub answers : List (Answer × Answer)
answers =
    let s = (load (frames ++ links)).session in
    -- the document shows the counts of media 1 in property 0: these
    (check_counts s 1 0, accepted (pos 0 ∷ []))
    ∷ (give_count s 0 0, accepted (pos 0 ∷ pos 10 ∷ []))
    ∷ (give_count s 1 0, accepted (pos 0 ∷ pos 20 ∷ []))
    -- no node 2, no property 1, no media: node 0 is a context; no anchor 2
    ∷ (check_counts s 2 0, refused 10)
    ∷ (check_counts s 1 1, refused 10)
    ∷ (check_counts s 0 0, refused 10)
    ∷ (give_count s 2 0, refused 10)
    ∷ (give_count s 0 1, refused 10)
    -- the first condition that fails
    ∷ (check_counts (load guarded).session 1 0, accepted (pos 5 ∷ []))
    ∷ (give_count (load guarded).session 0 0, accepted (pos 5 ∷ pos 0 ∷ []))
    -- the empty session is broken
    ∷ (check_counts (load []).session 1 0, refused 13)
    ∷ (give_count (load []).session 0 0, refused 13)
    ∷ []

pub answers_hold : All (λ (e : Answer × Answer). e.0 ≡ e.1) answers
unfolding machine_computes digit pairs bytes anchors frames links guarded answers
answers_hold = (refl, (refl, (refl, (refl, (refl, (refl, (refl, (refl, (refl, (refl, (refl, (refl, tt))))))))))))
