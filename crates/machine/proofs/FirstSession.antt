-- The session of an accepted load is not broken, nothing in it is awake, and nothing is counted: by induction over the records.
use Prim.Native.Nat.{ℕ, ◌+◌, ◌*◌, ◌<◌}
use native.Mathlib.Omega.{arith}
use mathlib.Core.Bool.{false}
use mathlib.Core.List.{List, [], ◌∷◌}
use mathlib.Core.Path.{◌≡◌, refl, sym, ap, subst}
use lib.IntN.{ℤ, pos}
use lib.ListN.{length, set, replicate, length-replicate}
use borrow.Author.Tests.{leb-false}
use Rattle.base.specs.Tests.{when◌then◌else◌}
use Rattle.base.specs.Loops.{some, some_one}
use Rattle.base.specs.Marks.{zero_at}
use Rattle.machine.specs.Tables.{empty_document, new_state, empty_session, with_values, action_count, action_at}
use Rattle.machine.specs.Records.{entered}
use Rattle.machine.specs.Load.{OrFault, records_entered, place_fault, LoadResult, finished, load}
use Rattle.machine.specs.Events.{node_state, node_clock, node_count, anchor_state, anchor_count, property_count, child_in, children_state}
use Rattle.machine.specs.Broken.{anchor_state_in, choice_right}
use Rattle.machine.specs.Demand3.{number, Awake}
use Rattle.machine.specs.declared.Document.{Document}
use Rattle.machine.specs.declared.State.{State}
use Rattle.machine.specs.declared.Session.{Session}
use Rattle.machine.specs.declared.Record.{Record}
use Rattle.machine.specs.declared.Record.TheVariants.{Head, Node, Anchor, Property, Rule, Bind, Port, Link, Action}
use Rattle.machine.proofs.SoundTables.{node_passes, anchor_passes, property_passes, rule_passes, bind_passes, port_passes, link_passes, action_passes, ActionPasses}
use Rattle.machine.proofs.Tally.{one_if_awake, Tallied}
use Rattle.machine.proofs.Shape.{Shaped}
use Rattle.machine.proofs.Whole.{Right}
use Rattle.machine.proofs.Calls.{made_unbroken, Invariant}
use Rattle.machine.proofs.Columns.{Filled, Slots, document_ends, more}
use Rattle.machine.proofs.Entries.{entries_obey}
use Rattle.machine.proofs.Cutting.{Known, Each, RuleShaped, Faultless, and_then_lem, cuts_known, checked_known}
use Rattle.machine.proofs.Loading.{Loading, limit_entered, node_entered, anchor_entered, property_entered, rule_entered, bind_entered, port_entered, link_entered, action_entered}

-- ---- while records are entered: of the state only the values of the properties are not as in a new session

record Entering (s : Session) : Type 0 where
  document : Loading s.document
  state : s.state ≡ with_values s.state.properties.values new_state
  values : Filled (pos 0) s.document.properties 32 s.state.properties.values

record_entered : (r : Record) (s : Session) → Faultless s.document r → Entering s → Entering (entered r s)
unfolding RuleShaped
record_entered (Head limit) s p f = search limit_entered
record_entered (Node r) s p f = search (node_entered, node_passes)
record_entered (Anchor r) s p f = search (anchor_entered, anchor_passes)
record_entered (Property r) s p f =
    record {
      document = search (property_entered, property_passes, leb-false);
      state = ap (with_values (set s.state.properties.values s.document.properties r.value)) f.state;
      values = more r.value f.values;
    }
record_entered (Rule r) s p f = search (rule_entered, rule_passes)
record_entered (Bind r) s p f = search (bind_entered, bind_passes)
record_entered (Port r) s p f = search (port_entered, port_passes)
record_entered (Link r) s p f = search (link_entered, link_passes)
record_entered (Action r) s p f = search (action_entered, action_passes)

-- ---- a list of records, under any test of their place

records_entered_lem : (place : Document → Record → ℕ) (records : List (OrFault Record)) (s : Session) → Each RuleShaped records → Entering s → Known Entering (records_entered place records s)
unfolding records_entered Known
records_entered_lem place [] s k f = f
records_entered_lem place (first ∷ rest) s k f =
    and_then_lem Entering _ _ (checked_known place s.document first k.0)
    (λ r p. records_entered_lem place rest (entered r s) k.1 (record_entered r s p f))

-- ---- all records of the bytes

record AcceptedLoad (r : LoadResult) : Type 0 where
  entering : Entering r.session
  limit : 0 < r.session.document.limit
  root : 0 < r.session.document.nodes.count

finished_accepted : (r : OrFault Session) → Known Entering r → (finished r).answer.refusal ≡ 0 → AcceptedLoad (finished r)
unfolding finished Known when◌then◌else◌
finished_accepted r k = grind arith

-- ---- zeros

zeros : {A : Type 0} {z : A} {end places : ℕ} → Filled z end places (replicate places z)
zeros {places = places} = record { len = length-replicate places _; ends = λ i b. zero_at places i }

zero_slots : {A : Type 0} {z : A} → Slots z (replicate 64 0) (replicate 512 z)
zero_slots = record { len = refl; ends = λ k j b h. zero_at 512 (8 * k + j) }

-- a document without a link has no action
no_action_lem : (l j : ℕ) → l < 0 → j < action_count empty_document.links l → ActionPasses empty_document j (action_at empty_document.actions l j)
no_action_lem l j h = absurd (omega arith)

empty_entered : Entering empty_session
unfolding empty_session empty_document new_state
empty_entered = record { document = record { columns = search (zeros, zero_slots); entries = grind (arith, no_action_lem) }; state = refl; values = zeros }

-- ---- a state in which nothing is awake and nothing is counted

record Asleep (s : State) : Type 0 where
  nodes : (n : ℕ) → node_state s n ≡ 0
  clocks : (n : ℕ) → node_clock s n ≡ 0
  node_counts : (n : ℕ) → node_count s n ≡ 0
  anchors : (a : ℕ) → anchor_state s a ≡ 0
  anchor_counts : (a : ℕ) → anchor_count s a ≡ 0
  property_counts : (p : ℕ) → property_count s p ≡ 0

module _ (d : Document) (s : State) (asleep : Asleep s) where
  -- no child is awake
  no_child_lem : (state c : ℕ) → Awake state → some (child_in d.nodes s.nodes.states state c) d.nodes.count ≡ false
  unfolding child_in
  no_child_lem state c a = grind (arith, asleep.nodes, some_one (child_in d.nodes s.nodes.states state c) d.nodes.count)

  right : Right d s
  unfolding anchor_state_in children_state when◌then◌else◌
  right = grind (arith, asleep.nodes, asleep.clocks, asleep.anchors, no_child_lem)

  tallied : Tallied d s []
  unfolding number one_if_awake when◌then◌else◌
  tallied = grind (arith, asleep.nodes, asleep.node_counts, asleep.anchors, asleep.anchor_counts, asleep.property_counts)

-- ---- a new session

module _ (d : Document) (l : Loading d) (values : List ℤ) (v : Filled (pos 0) d.properties 32 values) (limit : 0 < d.limit) (root : 0 < d.nodes.count) where
  abbrev new : State
  new = with_values values new_state

  shaped : Shaped d new
  unfolding new_state choice_right
  shaped = record { nodes = search zeros; anchors = search zeros; properties = search zeros; choices = λ n h. rw (zero_at 64 n) }

  new_invariant : Invariant [] (record { document = d; state = new })
  unfolding new_state
  new_invariant =
      let asleep : Asleep new = search zero_at in
      record {
        unbroken = made_unbroken d new (entries_obey d l.entries limit root) (document_ends d l.columns) shaped (right d new asleep);
        shaped = shaped;
        tallied = tallied d new asleep;
      }

pub loaded_invariant : (bytes : List ℕ) → (load bytes).answer.refusal ≡ 0 → Invariant [] (load bytes).session
unfolding load
loaded_invariant bytes e =
    let r = finished_accepted _ (records_entered_lem place_fault _ empty_session (cuts_known (length bytes) bytes) empty_entered) e in
    let s = (load bytes).session in
    subst (λ (t : State). Invariant [] (record { document = s.document; state = t })) (sym r.entering.state) (new_invariant s.document r.entering.document _ r.entering.values r.limit r.root)
