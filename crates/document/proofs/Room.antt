-- A record without a fault has room in its table.
use mathlib.Core.Path.{◌≡◌}
use Prim.Native.Nat.{ℕ, ◌<◌, ◌≤◌}
use native.Mathlib.Omega.{arith}
use borrow.Author.Tests.{leb-false, leb-true}
use Rattle.base.specs.Tests.{when◌then◌else◌, ◌≤?◌, both_pass, no_fault, not_false}
use Rattle.machine.specs.Tables.{latest, action_count}
use Rattle.machine.specs.Records.{link_fault, action_fault, record_fault, entered}
use Rattle.machine.specs.declared.Document.{Document}
use Rattle.machine.specs.declared.Session.{Session}
use Rattle.machine.specs.declared.ActionRecord.{ActionRecord}
use Rattle.machine.specs.declared.Record.{Record}
use Rattle.machine.specs.declared.Record.TheVariants.{Head, Node, Anchor, Property, Rule, Bind, Port, Link, Action}

-- a table that is not full
pub room : (size id other : ℕ) → (when size ≤? id then 4 else other) ≡ 0 → id < size
room size id other e = leb-false size id (no_fault _ 4 other (omega arith) e).0

-- an action has a link, which has room
pub action_room : (d : Document) (r : ActionRecord) → d.links.count ≤ 64 → record_fault d (Action r) ≡ 0
    → (1 ≤ d.links.count) × ((d.links.count ≤ 64) × (action_count d.links (latest d.links) < 8))
unfolding action_fault
action_room d r links e =
    let p = no_fault _ 4 _ (omega arith) e in
    let q = no_fault _ 5 _ (omega arith) p.1 in
    let t = no_fault _ 6 _ (omega arith) q.1 in
    (leb-true _ _ (both_pass _ _ (not_false _ t.0)).0, (links, leb-false _ _ p.0))

-- there are never more links than their table holds
pub links_kept : (r : Record) (s : Session) → s.document.links.count ≤ 64 → record_fault s.document r ≡ 0 → (entered r s).document.links.count ≤ 64
unfolding link_fault
links_kept (Head limit) s h e = h
links_kept (Node r) s h e = h
links_kept (Anchor r) s h e = h
links_kept (Property r) s h e = h
links_kept (Rule r) s h e = h
links_kept (Bind r) s h e = h
links_kept (Port r) s h e = h
links_kept (Link r) s h e = let below = room 64 s.document.links.count _ e in omega arith
links_kept (Action r) s h e = h
