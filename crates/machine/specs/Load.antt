-- "Load. The first faulty record decides; within it, in this order: 2 .. 1 .. 3 .. 4 .. 5 .. 6 .. 7."
use Rattle.std.specs.Prelude.{ℕ, zero, suc, not, ◌&&◌, List, [], ◌∷◌, length, take, drop}
use Rattle.base.specs.Tests.{when◌then◌else◌, ◌=?◌, ◌<?◌}
use Rattle.machine.specs.Answers.{Answer, accepted, refused}
use Rattle.machine.specs.Tables.{empty_session}
use Rattle.machine.specs.Records.{greatest_kind, body_length, record_of, record_fault, entered}
use Rattle.machine.specs.declared.Document.{Document}
use Rattle.machine.specs.declared.Session.{Session}
use Rattle.machine.specs.declared.Record.{Record}
use Rattle.machine.specs.declared.Record.TheVariants.{Head, Node, Anchor, Property, Rule, Bind, Port, Link, Action}

-- a value, or the number of the fault that was met first
pub data OrFault (A : Type 0) : Type 0 where
  good : A → OrFault A
  faulty : ℕ → OrFault A

unfoldable pub and_then : {A B : Type 0} → OrFault A → (A → OrFault B) → OrFault B
and_then (good value) next = next value
and_then (faulty number) next = faulty number

-- the outcome, unless there is a fault before it
unfoldable pub unless : {A : Type 0} → ℕ → OrFault A → OrFault A
unless fault outcome = when fault =? 0 then outcome else faulty fault

-- ---- bytes cut into records

-- the record that begins with the byte `kind`, before the bytes `rest`: "2 kind above 9; 1 bytes end inside it"
unfoldable pub cut_at : ℕ → List ℕ → OrFault Record
cut_at kind rest =
    when greatest_kind <? kind then faulty 2
    else when length rest <? body_length kind then faulty 1
    else good (record_of kind (take (body_length kind) rest))

-- the records of the bytes, at most so many; what follows a faulty one means nothing, and is not entered
unfoldable pub cut : ℕ → List ℕ → List (OrFault Record)
cut zero bytes = []
cut (suc most) [] = []
cut (suc most) (kind ∷ rest) = cut_at kind rest ∷ cut most (drop (body_length kind) rest)

-- ---- records entered, under any test of their place

-- the record, if it is whole, in its place, and without a fault
unfoldable pub checked : (Document → Record → ℕ) → Document → OrFault Record → OrFault Record
checked place d read = and_then read (λ r. unless (place d r) (unless (record_fault d r) (good r)))

-- the session with an entry for each record; "The first faulty record decides"
unfoldable pub records_entered : (Document → Record → ℕ) → List (OrFault Record) → Session → OrFault Session
records_entered place [] s = good s
records_entered place (first ∷ rest) s = and_then (checked place s.document first) (λ r. records_entered place rest (entered r s))

-- ---- load

-- "3 not a head in first place, a head elsewhere, or limit 0": of a head and of another record.
-- A record is in first place while the tables have no limit yet.
abbrev pub head_fault : Document → ℕ → ℕ
head_fault d limit = when d.limit =? 0 && not (limit =? 0) then 0 else 3

abbrev pub other_fault : Document → ℕ
other_fault d = when d.limit =? 0 then 3 else 0

unfoldable pub place_fault : Document → Record → ℕ
place_fault d (Head limit) = head_fault d limit
place_fault d (Node r) = other_fault d
place_fault d (Anchor r) = other_fault d
place_fault d (Property r) = other_fault d
place_fault d (Rule r) = other_fault d
place_fault d (Bind r) = other_fault d
place_fault d (Port r) = other_fault d
place_fault d (Link r) = other_fault d
place_fault d (Action r) = other_fault d

pub record LoadResult : Type 0 where
  pub answer : Answer
  pub session : Session

-- "The session in a refused answer is the empty one"
abbrev pub load_refused : ℕ → LoadResult
load_refused number = record { answer = refused number; session = empty_session }

-- "No records: 3. After the last record, no node: 8."
unfoldable pub finished : OrFault Session → LoadResult
finished (faulty number) = load_refused number
finished (good s) =
    when s.document.limit =? 0 then load_refused 3
    else when s.document.nodes.count =? 0 then load_refused 8
    else record { answer = accepted []; session = s }

-- a record has at least one byte, so there are no more records than bytes
unfoldable pub load : List ℕ → LoadResult
load bytes = finished (records_entered place_fault (cut (length bytes) bytes) empty_session)
