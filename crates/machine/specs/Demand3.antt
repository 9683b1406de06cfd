-- Demand 3: what holds after every list of commands, keys and ticks, from the session of every document that loads.
use Rattle.std.specs.Prelude.{ℕ, ◌+◌, ◌%◌, ◌<◌, ◌≤◌, Bool, false, ◌&&◌, List, [], ◌∷◌, ◌↔◌, ◌≡◌, pos}
use Rattle.base.specs.Tests.{when◌then◌else◌, ◌=?◌}
use Rattle.machine.specs.Terms.{sleeping, occurring, paused, starts, stops, aborts, of_node, of_anchor, of_property, of_fired}
use Rattle.machine.specs.Tables.{is_media, parent_of, anchor_at}
use Rattle.machine.specs.Load.{load}
use Rattle.machine.specs.Log.{lines_of}
use Rattle.machine.specs.Events.{node_state, node_clock, node_count, anchor_state, anchor_count, property_count}
use Rattle.machine.specs.Broken.{broken}
use Rattle.machine.specs.Operations.{CallResult, call, session_after, results_of, joined}
use Rattle.machine.specs.declared.Document.{Document}
use Rattle.machine.specs.declared.State.{State}
use Rattle.machine.specs.declared.Session.{Session}
use Rattle.machine.specs.declared.Call.{Call}
use Rattle.machine.specs.declared.Line.{Line}

-- ---- lines counted

-- how many lines pass a test
unfoldable pub number : (Line → Bool) → List Line → ℕ
number test [] = 0
number test (l ∷ ls) = (when test l then 1 else 0) + number test ls

unfoldable pub is_line : ℕ → ℕ → ℕ → Line → Bool
is_line class id transition l = l.class =? class && l.id =? id && l.transition =? transition

-- "The starts, stops and aborts of a node, anchor or property are the numbers of lines there with its class (1, 2 or 3), its id,
-- and transition 1, 2 and 3 in that order."
abbrev pub starts_of : ℕ → ℕ → List Line → ℕ
starts_of class id lines = number (is_line class id starts) lines

abbrev pub stops_of : ℕ → ℕ → List Line → ℕ
stops_of class id lines = number (is_line class id stops) lines

abbrev pub aborts_of : ℕ → ℕ → List Line → ℕ
aborts_of class id lines = number (is_line class id aborts) lines

-- "A fired line is a line of class 5."
unfoldable pub is_fired : Line → Bool
is_fired l = l.class =? of_fired

abbrev pub fired_lines : List Line → ℕ
fired_lines lines = number is_fired lines

-- ---- the rules

-- "its children are the nodes that name it as parent": node k is a child of c, and in this state
pub record ChildIs (d : Document) (s : State) (c state k : ℕ) : Type 0 where
  pub given : k < d.nodes.count
  pub child : parent_of d.nodes k ≡ c
  pub is : node_state s k ≡ state

-- a child of c is in this state
abbrev pub AChildIs : Document → State → ℕ → ℕ → Type 0
AChildIs d s c state = (k : ℕ) × ChildIs d s c state k

-- (a composite is a node that is no media)
-- "A composite is occurring exactly when a child is, and paused exactly when no child is occurring and one is paused."
pub record CompositeRule (d : Document) (s : State) (c : ℕ) : Type 0 where
  pub occurs : node_state s c ≡ occurring ↔ AChildIs d s c occurring
  pub pauses : node_state s c ≡ paused ↔ ((AChildIs d s c occurring → ⊥) × AChildIs d s c paused)

-- "awake means not sleeping"
abbrev pub Awake : ℕ → Type 0
Awake state = state ≡ sleeping → ⊥

-- the clock is in the anchor: "begin ≤ clock < end"
pub record Inside (begin clock end : ℕ) : Type 0 where
  pub begun : begin ≤ clock
  pub going : clock < end

-- "An anchor is awake exactly when its media is awake and begin ≤ clock < end, and then it is in its media's state."
pub record AnchorRule (d : Document) (s : State) (a : ℕ) : Type 0 where
  pub awake : Awake (anchor_state s a)
      ↔ (Awake (node_state s (anchor_at d.anchors a).media)
      × Inside (anchor_at d.anchors a).begin (node_clock s (anchor_at d.anchors a).media) (anchor_at d.anchors a).end)
  pub follows : Awake (anchor_state s a) → anchor_state s a ≡ node_state s (anchor_at d.anchors a).media

-- "starts = stops + aborts for each sleeping node or anchor, and starts = stops + aborts + 1 for each awake one"
pub record Balanced (class id state : ℕ) (lines : List Line) : Type 0 where
  pub asleep : state ≡ sleeping → starts_of class id lines ≡ stops_of class id lines + aborts_of class id lines
  pub awake : Awake state → starts_of class id lines ≡ stops_of class id lines + aborts_of class id lines + 1

-- "Every occurrence count equals the stops of its node, anchor or property there, modulo 4,294,967,296."
abbrev pub CountsStops : ℕ → ℕ → ℕ → List Line → Type 0
CountsStops class id count lines = count ≡ stops_of class id lines % 4_294_967_296

-- "Every accepted call in the list reports exactly as many firings as its own log has fired lines, and never more than the document's firing limit."
pub record ReportsFirings (limit : ℕ) (r : CallResult) : Type 0 where
  pub reports : r.answer.refusal ≡ 0 → r.answer.values ≡ pos (fired_lines (lines_of r.log)) ∷ []
  pub within : r.answer.refusal ≡ 0 → fired_lines (lines_of r.log) ≤ limit

-- of each result in a list
abbrev pub Each : (CallResult → Type 0) → List CallResult → Type 0
Each P [] = Unit {0}
Each P (r ∷ rs) = P r × Each P rs

-- ---- demand 3: "the following holds after the list", of the session after it and of the results of its calls

pub record Demand3 (s : Session) (results : List CallResult) : Type 0 where
  pub composites : (c : ℕ) → c < s.document.nodes.count → is_media s.document.nodes c ≡ false → CompositeRule s.document s.state c
  pub anchors : (a : ℕ) → a < s.document.anchors.count → AnchorRule s.document s.state a
  pub node_balance : (n : ℕ) → n < s.document.nodes.count → Balanced of_node n (node_state s.state n) (joined results)
  pub anchor_balance : (a : ℕ) → a < s.document.anchors.count → Balanced of_anchor a (anchor_state s.state a) (joined results)
  pub node_counts : (n : ℕ) → n < s.document.nodes.count → CountsStops of_node n (node_count s.state n) (joined results)
  pub anchor_counts : (a : ℕ) → a < s.document.anchors.count → CountsStops of_anchor a (anchor_count s.state a) (joined results)
  pub property_counts : (p : ℕ) → p < s.document.properties → CountsStops of_property p (property_count s.state p) (joined results)
  pub firings : Each (ReportsFirings s.document.limit) results

-- beside it: the session is never broken, so that no call is refused 13; the tables are those that were loaded;
-- and the next call, if it is refused, leaves the session as it is
pub record Unbroken (loaded s : Session) (results : List CallResult) : Type 0 where
  pub whole : broken s ≡ false
  pub never_thirteen : Each (λ r. r.answer.refusal ≡ 13 → ⊥) results
  pub tables : s.document ≡ loaded.document
  pub refused : (c : Call) (bytes : ℕ) → ((call s c bytes).answer.refusal ≡ 0 → ⊥) → (call s c bytes).session ≡ s

pub record Holds (loaded s : Session) (results : List CallResult) : Type 0 where
  pub demand : Demand3 s results
  pub unbroken : Unbroken loaded s results

-- THE STATEMENT. "For every document that loads and every list of commands, keys and ticks from its new session, refused ones included,
-- whatever their arguments and log lengths": all bytes that load accepts, every list of calls, each with the length of its log slice.
-- `session_after` and `results_of` give each call "the session that the call before it returned", the first one that of the load;
-- `joined` takes "the lines of the accepted calls, in the order of the calls", each call's read from the bytes of its slice by `lines_of`.
abbrev pub ForEveryList : Type 0
ForEveryList =
    (bytes : List ℕ)
    → (load bytes).answer.refusal ≡ 0
    → (calls : List (Call × ℕ))
    → Holds (load bytes).session (session_after (load bytes).session calls) (results_of (load bytes).session calls)
