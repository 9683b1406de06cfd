-- The same port is there already: its child has a port, and its context is the child's parent.
use mathlib.Core.Path.{◌≡◌, refl, sym}
use mathlib.Core.Bool.{Bool, true, false, ◌&&◌, ◌||◌, and-true, and-false, or-true, or-false, or_self}
use Prim.Native.Nat.{ℕ, zero, suc}
use native.Mathlib.Omega.{arith}
use borrow.Author.Tests.{eqb-true, not-false}
use Rattle.base.specs.Tests.{by_test, no_fault, both_pass, ◌=?◌}
use Rattle.base.specs.Loops.{some, every}
use Rattle.machine.specs.declared.Document.{Document}
use Rattle.machine.specs.declared.Ports.{Ports}
use Rattle.machine.specs.declared.PortRecord.{PortRecord}
use Rattle.machine.specs.Tables.{parent_of, port_at}
use Rattle.machine.specs.Records.{is_port, port_fault}
use Rattle.machine.specs.Broken.{port_obeys}

-- the child of port p is n
abbrev pub is_port_of : Ports → ℕ → ℕ → Bool
is_port_of ports n p = (port_at ports p).child =? n

port_parent : (d : Document) (p : ℕ) → port_obeys d p ≡ true → parent_of d.nodes (port_at d.ports p).child ≡ (port_at d.ports p).context
unfolding port_obeys port_fault
port_parent d p e =
    let f = eqb-true _ 0 e in
    let g = no_fault _ 4 _ (omega arith) f in
    let h = no_fault _ 6 _ (omega arith) g.1 in
    let i = no_fault _ 7 _ (omega arith) h.1 in
    eqb-true _ _ (not-false _ i.0)

absorb : (a b : Bool) → a && b || b ≡ b
absorb true b = or_self b
absorb false b = refl

pub same_port : (d : Document) (r : PortRecord) (i : ℕ) → every (port_obeys d) i ≡ true
    → some (is_port d.ports r) i ≡ (some (is_port_of d.ports r.child) i && parent_of d.nodes r.child =? r.context)
unfolding some every
same_port d r zero e = refl
same_port d r (suc i) e =
    let both = both_pass _ _ e in
    let parent = port_parent d i both.1 in
    let before = same_port d r i both.0 in
    by_test ((port_at d.ports i).child =? r.child)
    (λ q.
    let same : r.child ≡ (port_at d.ports i).child = sym (eqb-true _ _ q) in
    let context : (parent_of d.nodes r.child =? r.context) ≡ ((port_at d.ports i).context =? r.context) = rw (same, parent) in
    rw (before, q, context, and-true, or-true) (absorb (some (is_port_of d.ports r.child) i) _))
    (λ q. rw (before, q, and-false, or-false, or-false))
