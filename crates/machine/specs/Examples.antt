-- 01's starred examples, and one for each of its traps, from the bytes of a document: one list, one theorem, proved by computing.
use Rattle.std.specs.Prelude.{ℕ, ◌+◌, ◌*◌, ◌-◌, List, [], ◌∷◌, ◌++◌, ◌≡◌, refl, ℤ, pos, negsuc}
use Prim.Native.String.{String}
use Rattle.base.specs.Tests.{when◌then◌else◌, ◌=?◌, ◌<?◌}
use Rattle.machine.specs.Terms.{sleeping, occurring, paused, to_start, to_stop, to_abort, to_pause, to_set, of_node, of_anchor, of_property}
use Rattle.machine.specs.Answers.{Answer}
use Rattle.machine.specs.Load.{load}
use Rattle.machine.specs.Operations.{command, CallResult, reading, read, session_after, results_of}
use Rattle.machine.specs.Text.{text}
use Rattle.machine.specs.PrintedRun.{printed_call, printed_run}
use Rattle.machine.specs.Computing.{machine_computes}
use Rattle.machine.specs.declared.Session.{Session}
use Rattle.machine.specs.declared.Call.{Call}
use Rattle.machine.specs.declared.Call.TheVariants.{Key, Tick}

-- ---- bytes, written in hexadecimal with blanks between them

unfoldable pub digit : ℕ → ℕ
digit c = when c <? 65 then c - 48 else c - 55

unfoldable pub pairs : List ℕ → List ℕ
pairs [] = []
pairs (c ∷ []) = []
pairs (c ∷ e ∷ cs) = when c =? 32 then pairs (e ∷ cs) else (16 * digit c + digit e) ∷ pairs cs

unfoldable pub bytes : String → List ℕ
bytes hex = pairs (text hex)

-- ---- what an example shows: the printed lines of its calls, and what read then answers

pub record Shown : Type 0 where
  pub printed : List ℕ
  pub reads : List Answer

-- an example: what the machine gives, and what is expected
pub record Example : Type 0 where
  pub given : Shown
  pub wanted : Shown

unfoldable pub shows : Shown → String → List Answer → Example
shows given printed reads = record { given = given; wanted = record { printed = text printed; reads = reads } }

unfoldable pub printed_calls : ℕ → List CallResult → List ℕ
printed_calls n [] = []
printed_calls n (r ∷ rs) = printed_call n r ++ printed_calls (n + 1) rs

unfoldable pub reads_of : Session → List (ℕ × ℕ) → List Answer
reads_of s [] = []
reads_of s ((class, id) ∷ subjects) = read s class id ∷ reads_of s subjects

-- a document's calls, each with the length of its log slice, and then some reads by class and id
unfoldable pub run : List ℕ → List (Call × ℕ) → List (ℕ × ℕ) → Shown
run document calls subjects =
    let s = (load document).session in
    record { printed = printed_calls 1 (results_of s calls); reads = reads_of (session_after s calls) subjects }

-- the program's run on the bytes of its two files
program : List ℕ → List ℕ → Shown
program document script = record { printed = printed_run document script; reads = [] }

-- a call with 256 bytes of log
unfoldable pub whole : Call → Call × ℕ
whole c = (c, 256)

unfoldable pub on : ℕ → ℕ → Call × ℕ
on action target = whole (command action target (pos 0))

unfoldable pub set_to : ℕ → ℤ → Call × ℕ
set_to property value = whole (command to_set property value)

-- ---- the documents

-- 01's document after its head: context 0, its media 1 of 3 ticks, anchor 0 from 1 to 2, property 0, a port,
-- and a link that sets the property to 1420 as the anchor starts
report : String
report = "01 00 FF 00 00  01 01 00 03 00  02 01 01 00 02 00  03 00 00 00 00  07 00 01  08 00 02 00 01 FF  09 06 00 8C 05 00 00"

paper : List ℕ
paper = bytes "00 02" ++ bytes report

-- the same with limit 1, and with a second link, on 3.0.2, that sets property 0
limit_one : List ℕ
limit_one = bytes "00 01" ++ bytes report

second_link : List ℕ
second_link = paper ++ bytes "08 00 03 00 02 FF  09 06 00 00 00 00 00"

-- property 0 is -2,147,483,648; key 7 fires the link if that is lt 2,147,483,647
extremes : List ℕ
extremes = bytes "00 01  01 00 FF 00 00  03 00 00 00 80  04 00 02 FF FF FF 7F  08 00 04 07 01 00"

-- context 0 and its media 1 and 2
two_media : List ℕ
two_media = bytes "00 01  01 00 FF 00 00  01 01 00 00 00  01 01 00 00 00  07 00 01  07 00 02"

-- on key 7 link 0 sets property 0 to 1, and link 1 fires if it is 1
guarded : List ℕ
guarded = bytes "00 02  01 00 FF 00 00  03 00 00 00 00  04 00 00 01 00 00 00  08 00 04 07 01 FF  09 06 00 01 00 00 00  08 00 04 07 01 00"

-- anchors 0 and 1 of media 1 and 2 begin in the same tick; as the first starts, media 2 is paused
together : List ℕ
together = two_media ++ bytes "02 01 01 00 05 00  02 02 01 00 05 00  08 00 02 00 01 FF  09 04 02 00 00 00 00"

-- ---- the list

-- the first two calls of 01's run, as they are printed
first : String
first = "1 ok 2 0 1.1.1 1.0.1\n"

second : String
second = "1 ok 2 0 1.1.1 1.0.1\n2 ok 4 1 2.0.1 5.0.0 3.0.1 3.0.2\n"

-- the subjects of reads, and what read answers of a node or an anchor, and of a property
node : ℕ → ℕ × ℕ
node n = (of_node, n)

anchor : ℕ → ℕ × ℕ
anchor a = (of_anchor, a)

property : ℕ → ℕ × ℕ
property p = (of_property, p)

event : ℕ → ℕ → Answer
event state count = reading state (pos 0) count

valued : ℤ → ℕ → Answer
valued value count = reading sleeping value count

pub examples : List Example
examples =
    -- *this run, by the program
    shows (program paper (bytes "01 01 00 00 00 00 00  03  03  03"))
    "1 ok 2 0 1.1.1 1.0.1\n2 ok 4 1 2.0.1 5.0.0 3.0.1 3.0.2\n3 ok 1 0 2.0.2\n4 ok 2 0 1.1.2 1.0.2\n" []
    -- and its session: each event has occurred once. (Trap: an anchor awake at clock = end.)
    ∷ shows (run paper (on to_start 0 ∷ whole Tick ∷ whole Tick ∷ whole Tick ∷ []) (node 0 ∷ node 1 ∷ anchor 0 ∷ property 0 ∷ []))
    "1 ok 2 0 1.1.1 1.0.1\n2 ok 4 1 2.0.1 5.0.0 3.0.1 3.0.2\n3 ok 1 0 2.0.2\n4 ok 2 0 1.1.2 1.0.2\n"
    (event sleeping 1 ∷ event sleeping 1 ∷ event sleeping 1 ∷ valued (pos 1420) 1 ∷ [])
    -- "After call 2 property 0 is 1420."
    ∷ shows (run paper (on to_start 0 ∷ whole Tick ∷ []) (node 0 ∷ node 1 ∷ anchor 0 ∷ property 0 ∷ [])) second
    (event occurring 0 ∷ event occurring 0 ∷ event occurring 0 ∷ valued (pos 1420) 1 ∷ [])
    -- the same two calls at limit 1, which is used up and not passed
    ∷ shows (run limit_one (on to_start 0 ∷ whole Tick ∷ []) (property 0 ∷ [])) second (valued (pos 1420) 1 ∷ [])
    -- *start 0 twice, the second `ok 0 0`
    ∷ shows (run paper (on to_start 0 ∷ on to_start 0 ∷ []) (node 0 ∷ node 1 ∷ [])) "1 ok 2 0 1.1.1 1.0.1\n2 ok 0 0\n"
    (event occurring 0 ∷ event occurring 0 ∷ [])
    -- *abort 0 after call 1 logs 1.1.3 1.0.3 and counts stay 0. (Trap: counting an abort.)
    ∷ shows (run paper (on to_start 0 ∷ on to_abort 0 ∷ []) (node 0 ∷ node 1 ∷ [])) "1 ok 2 0 1.1.1 1.0.1\n2 ok 2 0 1.1.3 1.0.3\n"
    (event sleeping 0 ∷ event sleeping 0 ∷ [])
    -- *abort 1 there logs 1.1.3 1.0.2, count of node 0 is 1
    ∷ shows (run paper (on to_start 0 ∷ on to_abort 1 ∷ []) (node 0 ∷ node 1 ∷ [])) "1 ok 2 0 1.1.1 1.0.1\n2 ok 2 0 1.1.3 1.0.2\n"
    (event sleeping 1 ∷ event sleeping 0 ∷ [])
    -- *pause 1 then stop 1 there: count of node 1 is 1
    ∷ shows (run paper (on to_start 0 ∷ on to_pause 1 ∷ on to_stop 1 ∷ []) (node 0 ∷ node 1 ∷ []))
    "1 ok 2 0 1.1.1 1.0.1\n2 ok 2 0 1.1.4 1.0.4\n3 ok 2 0 1.1.2 1.0.2\n" (event sleeping 1 ∷ event sleeping 1 ∷ [])
    -- *call 1 with 8 log bytes accepted, *with 7 refused 12
    ∷ shows (run paper ((command to_start 0 (pos 0), 8) ∷ []) (node 1 ∷ [])) first (event occurring 0 ∷ [])
    ∷ shows (run paper ((command to_start 0 (pos 0), 7) ∷ []) (node 1 ∷ [])) "1 no 12\n" (event sleeping 0 ∷ [])
    -- *with a second link, on 3.0.2, that sets property 0, call 2 of this run is refused 11
    ∷ shows (run second_link (on to_start 0 ∷ whole Tick ∷ []) (property 0 ∷ [])) "1 ok 2 0 1.1.1 1.0.1\n2 no 11\n"
    (valued (pos 0) 0 ∷ [])
    -- *-2,147,483,648 lt 2,147,483,647 holds
    ∷ shows (run extremes (whole (Key 7) ∷ []) (property 0 ∷ [])) "1 ok 2 1 4.7.1 5.0.0\n" (valued (negsuc 2_147_483_647) 0 ∷ [])
    -- Trap: settling after each media, which logs a pause while a context is being stopped.
    ∷ shows (run two_media (on to_start 0 ∷ on to_pause 2 ∷ on to_stop 0 ∷ []) (node 0 ∷ []))
    "1 ok 3 0 1.1.1 1.2.1 1.0.1\n2 ok 1 0 1.2.4\n3 ok 3 0 1.1.2 1.2.2 1.0.2\n" (event sleeping 1 ∷ [])
    -- Trap: guards read when the line was logged.
    ∷ shows (run guarded (whole (Key 7) ∷ []) (property 0 ∷ [])) "1 ok 5 2 4.7.1 5.0.0 3.0.1 3.0.2 5.1.0\n" (valued (pos 1) 1 ∷ [])
    -- Trap: firing links before all media have ticked.
    ∷ shows (run together (on to_start 0 ∷ whole Tick ∷ []) (node 2 ∷ anchor 1 ∷ []))
    "1 ok 3 0 1.1.1 1.2.1 1.0.1\n2 ok 5 1 2.0.1 2.1.1 5.0.0 2.1.4 1.2.4\n" (event paused 0 ∷ event paused 0 ∷ [])
    ∷ []

-- ---- the theorem

abbrev pub All : {A : Type 0} → (A → Type 0) → List A → Type 0
All P [] = Unit {0}
All P (x ∷ xs) = P x × All P xs

pub examples_hold : All (λ e. e.given ≡ e.wanted) examples
unfolding machine_computes digit pairs bytes shows printed_calls reads_of run program whole on report paper limit_one second_link extremes two_media guarded together first second node anchor property event valued examples
examples_hold = (refl, (refl, (refl, (refl, (refl, (refl, (refl, (refl, (refl, (refl, (refl, (refl, (refl, (refl, (refl, tt)))))))))))))))
