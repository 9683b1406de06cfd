-- The words of Req 01 by examples, from the bytes of a document, proved by computing.
use Rattle.std.specs.Prelude.{ℕ, Bool, true, false, List, [], ◌∷◌, ◌++◌, ◌≡◌, refl, pos, replicate, set}
use Prim.Native.String.{String}
use Rattle.machine.specs.Terms.{to_start, to_stop}
use Rattle.machine.specs.Tables.{with_choices}
use Rattle.machine.specs.Load.{load}
use Rattle.machine.specs.Owners.{OwnerTest, owner_chosen, any_owner}
use Rattle.machine.specs.Broken.{broken}
use Rattle.machine.specs.Operations.{command, call_admitting, session_after}
use Rattle.machine.specs.PrintedRun.{printed_call}
use Rattle.machine.specs.Computing.{machine_computes}
use Rattle.machine.specs.Examples.{digit, pairs, bytes, Example, shows, printed_calls, reads_of, run, whole, on, set_to, All}
use Rattle.machine.specs.declared.Call.{Call}
use Rattle.machine.specs.declared.Call.TheVariants.{Key}

-- ---- the documents

-- "A lateral offered in two languages sits in a switch": context 0, its switch 1, the variants 2 and 3, contexts with a media each, 4 and 5;
-- property 0 is the language; the switch starts 2 if it is 0 and 3 if it is 1
lateral : String → List ℕ
lateral limit =
    bytes limit
    ++ bytes "01 00 FF 00 00  01 02 00 00 00  01 00 01 00 00  01 00 01 00 00  01 01 02 00 00  01 01 03 00 00  03 00 00 00 00"
    ++ bytes "04 00 00 00 00 00 00  04 00 00 01 00 00 00  06 01 02 00  06 01 03 01  07 00 01  07 02 04  07 03 05"

-- link 0 of variant 2 and link 1 of variant 3 hear key 7
variants : List ℕ
variants = lateral "00 02" ++ bytes "08 02 04 07 01 FF  08 03 04 07 01 FF"

-- link 0 of context 0 and link 1 of variant 2 hear key 7; in the first document link 0 starts the switch, in the second the limit is 1
starts_switch : List ℕ
starts_switch = lateral "00 02" ++ bytes "08 00 04 07 01 FF  09 01 01 00 00 00 00  08 02 04 07 01 FF"

limit_one : List ℕ
limit_one = lateral "00 01" ++ bytes "08 00 04 07 01 FF  08 02 04 07 01 FF"

-- context 0, its switch 1 with the default 2, a context; in it switch 3 with the default 4, a context, whose link hears key 7. Nothing to wake.
nested : List ℕ
nested =
    bytes "00 01  01 00 FF 00 00  01 02 00 00 00  01 00 01 00 00  01 02 02 00 00  01 00 03 00 00"
    ++ bytes "06 01 02 FF  06 03 04 FF  07 02 03  08 04 04 07 01 FF"

-- ---- what the machine does

key : Call × ℕ
key = whole (Key 7)

calls : List ℕ → List (Call × ℕ) → String → Example
calls document list printed = shows (run document list []) printed []

-- key 7 after the start of context 0, by the owners that firing admits
key_admitting : OwnerTest → String → Example
key_admitting admits printed =
    let s = session_after (load variants).session (on to_start 0 ∷ []) in
    shows (record { printed = printed_call 2 (call_admitting admits s (Key 7) 256); reads = [] }) printed []

pub examples : List Example
examples =
    -- "links of the variant not shown still set the count": without the condition both links fire, with it one
    key_admitting any_owner "2 ok 3 2 4.7.1 5.0.0 5.1.0\n"
    ∷ key_admitting owner_chosen "2 ok 2 1 4.7.1 5.0.0\n"
    -- "a new session has none", and a start that reaches the switch chooses
    ∷ calls variants (key ∷ on to_start 0 ∷ key ∷ []) "1 ok 1 0 4.7.1\n2 ok 4 0 1.4.1 1.2.1 1.1.1 1.0.1\n3 ok 2 1 4.7.1 5.0.0\n"
    -- "Starting the child directly .. leaves the choice": there is none; it is the other child
    ∷ calls variants (on to_start 2 ∷ key ∷ []) "1 ok 4 0 1.4.1 1.2.1 1.1.1 1.0.1\n2 ok 1 0 4.7.1\n"
    ∷ calls variants (on to_start 1 ∷ on to_start 3 ∷ key ∷ []) "1 ok 4 0 1.4.1 1.2.1 1.1.1 1.0.1\n2 ok 2 0 1.5.1 1.3.1\n3 ok 2 1 4.7.1 5.0.0\n"
    -- "or a switch already awake"
    ∷ calls variants (on to_start 1 ∷ set_to 0 (pos 1) ∷ on to_start 1 ∷ key ∷ [])
    "1 ok 4 0 1.4.1 1.2.1 1.1.1 1.0.1\n2 ok 2 0 3.0.1 3.0.2\n3 ok 0 0\n4 ok 2 1 4.7.1 5.0.0\n"
    -- a stop leaves it, too; the next start chooses anew
    ∷ calls variants (on to_start 1 ∷ on to_stop 1 ∷ key ∷ set_to 0 (pos 1) ∷ on to_start 1 ∷ key ∷ [])
    "1 ok 4 0 1.4.1 1.2.1 1.1.1 1.0.1\n2 ok 4 0 1.4.2 1.2.2 1.1.2 1.0.2\n3 ok 2 1 4.7.1 5.0.0\n4 ok 2 0 3.0.1 3.0.2\n5 ok 4 0 1.5.1 1.3.1 1.1.1 1.0.1\n6 ok 2 1 4.7.1 5.1.0\n"
    -- "A start that finds no child clears the choice"
    ∷ calls variants (on to_start 1 ∷ on to_stop 1 ∷ set_to 0 (pos 5) ∷ on to_start 1 ∷ key ∷ [])
    "1 ok 4 0 1.4.1 1.2.1 1.1.1 1.0.1\n2 ok 4 0 1.4.2 1.2.2 1.1.2 1.0.2\n3 ok 2 0 3.0.1 3.0.2\n4 ok 0 0\n5 ok 1 0 4.7.1\n"
    -- a refused call leaves the choices
    ∷ calls variants ((command to_start 1 (pos 0), 0) ∷ key ∷ []) "1 no 12\n2 ok 1 0 4.7.1\n"
    -- "For every switch above the owner": the inner switch alone does not do, and no default counts before a start; a child that wakes
    -- nothing is chosen all the same
    ∷ calls nested (key ∷ on to_start 3 ∷ key ∷ on to_start 1 ∷ key ∷ []) "1 ok 1 0 4.7.1\n2 ok 0 0\n3 ok 1 0 4.7.1\n4 ok 0 0\n5 ok 2 1 4.7.1 5.0.0\n"
    -- asked when the link's turn comes: link 0 has made the choice
    ∷ calls starts_switch (key ∷ []) "1 ok 7 2 4.7.1 5.0.0 1.4.1 1.2.1 1.1.1 1.0.1 5.1.0\n"
    -- a link that is held back meets no 11
    ∷ calls limit_one (key ∷ on to_start 1 ∷ key ∷ []) "1 ok 2 1 4.7.1 5.0.0\n2 ok 4 0 1.4.1 1.2.1 1.1.1 1.0.1\n3 no 11\n"
    ∷ []

pub examples_hold : All (λ e. e.given ≡ e.wanted) examples
unfolding machine_computes digit pairs bytes shows printed_calls reads_of run whole on set_to lateral variants starts_switch limit_one nested key calls key_admitting examples
examples_hold = (refl, (refl, (refl, (refl, (refl, (refl, (refl, (refl, (refl, (refl, (refl, (refl, tt))))))))))))

-- ---- "a choice that is no child of its switch, or is held for a node that is no switch, is a broken session (13)"

-- whether the new session is broken with this choice of node n
broken_with : ℕ → ℕ → Bool
broken_with n choice =
    let s = (load variants).session in
    broken (record { document = s.document; state = with_choices (set (replicate 64 0) n choice) s.state })

pub choices : List (Bool × Bool)
choices =
    -- of switch 1: none, its children; itself, a child of its child, a node that is not given
    (broken_with 1 0, false)
    ∷ (broken_with 1 2, false)
    ∷ (broken_with 1 3, false)
    ∷ (broken_with 1 1, true)
    ∷ (broken_with 1 4, true)
    ∷ (broken_with 1 6, true)
    -- of a context its child, of a media, of a node that is not given
    ∷ (broken_with 0 1, true)
    ∷ (broken_with 4 5, true)
    ∷ (broken_with 6 2, true)
    ∷ []

pub choices_hold : All (λ (e : Bool × Bool). e.0 ≡ e.1) choices
unfolding machine_computes digit pairs bytes lateral variants broken_with choices
choices_hold = (refl, (refl, (refl, (refl, (refl, (refl, (refl, (refl, (refl, tt)))))))))
