-- Which count stands under which frame: documents that show the counts of a media in a property, the check for their authors,
-- and what holds for such documents after every list of commands, keys and ticks.
use Rattle.std.specs.Prelude.{ℕ, ◌+◌, ◌<◌, Bool, true, false, not, ◌&&◌, ◌||◌, List, [], ◌∷◌, ◌≡◌, ℤ, pos, get_or}
use Rattle.base.specs.Tests.{when◌then◌else◌, ◌=?◌, ◌<?◌, ◌≤?◌}
use Rattle.base.specs.Loops.{first, some, every, passing}
use Rattle.machine.specs.Terms.{to_set, starts, of_anchor, no_id}
use Rattle.machine.specs.Tables.{is_media, anchor_at, link_at, action_at, action_count}
use Rattle.machine.specs.Answers.{Answer, accepted, refused}
use Rattle.machine.specs.Load.{load}
use Rattle.machine.specs.Events.{node_state, node_clock}
use Rattle.machine.specs.Owners.{outside_switches}
use Rattle.machine.specs.Broken.{broken}
use Rattle.machine.specs.Operations.{command_sets, call, session_after, results_of, joined}
use Rattle.machine.specs.Demand3.{Awake, Inside}
use Rattle.machine.specs.declared.Anchors.{Anchors}
use Rattle.machine.specs.declared.Document.{Document}
use Rattle.machine.specs.declared.State.{State}
use Rattle.machine.specs.declared.Session.{Session}
use Rattle.machine.specs.declared.Call.{Call}
use Rattle.machine.specs.declared.Line.{Line}

-- ---- anchors of a media, and links that set a property

-- a is an anchor of media m
unfoldable pub is_anchor_of : Anchors → ℕ → ℕ → Bool
is_anchor_of anchors m a = a <? anchors.count && (anchor_at anchors a).media =? m

-- action j of link l sets p
unfoldable pub sets_in : Document → ℕ → ℕ → ℕ → Bool
sets_in d p l j = (action_at d.actions l j).action =? to_set && (action_at d.actions l j).target =? p

-- how many actions of link l set p
unfoldable pub times_set : Document → ℕ → ℕ → ℕ
times_set d p l = passing (sets_in d p l) (action_count d.links l)

-- link l is on the start of an anchor, and sets p
unfoldable pub is_count_link : Document → ℕ → ℕ → Bool
is_count_link d p l =
    (link_at d.links l).class =? of_anchor && (link_at d.links l).transition =? starts && 0 <? times_set d p l

-- it is on the start of anchor a
unfoldable pub is_count_link_of : Document → ℕ → ℕ → ℕ → Bool
is_count_link_of d p a l = (link_at d.links l).subject =? a && is_count_link d p l

-- it is on the start of an anchor of media m
unfoldable pub is_count_link_in : Document → ℕ → ℕ → ℕ → Bool
is_count_link_in d m p l = is_anchor_of d.anchors m (link_at d.links l).subject && is_count_link d p l

-- ---- the conditions under which "a document shows the counts of media m in property p", in the order of their numbers

-- 1. "m has at least one anchor"
unfoldable pub has_anchor : Anchors → ℕ → Bool
has_anchor anchors m = some (is_anchor_of anchors m) anchors.count

-- 2. "the anchors of m do not overlap (of any two, one ends at or before the begin of the other)"
unfoldable pub apart : Anchors → ℕ → ℕ → Bool
apart anchors a b = (anchor_at anchors a).end ≤? (anchor_at anchors b).begin || (anchor_at anchors b).end ≤? (anchor_at anchors a).begin

-- anchor b, if it is of m, is apart from the anchors of m before it
unfoldable pub apart_from_earlier : Anchors → ℕ → ℕ → Bool
apart_from_earlier anchors m b =
    not (is_anchor_of anchors m b) || every (λ a. not (is_anchor_of anchors m a) || apart anchors a b) b

unfoldable pub disjoint : Anchors → ℕ → Bool
disjoint anchors m = every (apart_from_earlier anchors m) anchors.count

-- 3. "for each anchor a of m exactly one link on its start (class 2, a, transition 1) sets p"
unfoldable pub has_one_link : Document → ℕ → ℕ → ℕ → Bool
has_one_link d m p a = not (is_anchor_of d.anchors m a) || passing (is_count_link_of d p a) d.links.count =? 1

unfoldable pub each_has_one_link : Document → ℕ → ℕ → Bool
each_has_one_link d m p = every (has_one_link d m p) d.anchors.count

-- 4. it sets p "in exactly one of its actions"
unfoldable pub sets_once : Document → ℕ → ℕ → ℕ → Bool
sets_once d m p l = not (is_count_link_in d m p l) || times_set d p l =? 1

unfoldable pub each_sets_once : Document → ℕ → ℕ → Bool
each_sets_once d m p = every (sets_once d m p) d.links.count

-- 5. "it has no guard"
unfoldable pub unguarded : Document → ℕ → ℕ → ℕ → Bool
unguarded d m p l = not (is_count_link_in d m p l) || (link_at d.links l).guard =? no_id

unfoldable pub each_unguarded : Document → ℕ → ℕ → Bool
each_unguarded d m p = every (unguarded d m p) d.links.count

-- 6. "no other action of the document sets p"
unfoldable pub sets_no_other : Document → ℕ → ℕ → ℕ → Bool
sets_no_other d m p l = times_set d p l =? 0 || is_count_link_in d m p l

unfoldable pub no_other : Document → ℕ → ℕ → Bool
no_other d m p = every (sets_no_other d m p) d.links.count

-- 7. "no switch lies above the owner of a count's link": by Req 01 links below a switch fire only while the path to them is chosen
unfoldable pub owner_outside_switches : Document → ℕ → ℕ → ℕ → Bool
owner_outside_switches d m p l = not (is_count_link_in d m p l) || outside_switches d.nodes (link_at d.links l).owner

unfoldable pub each_outside_switches : Document → ℕ → ℕ → Bool
each_outside_switches d m p = every (owner_outside_switches d m p) d.links.count

-- "the first condition that fails" of those from number n on, 0 if none does
unfoldable pub first_failing : ℕ → List Bool → ℕ
first_failing n [] = 0
first_failing n (holds ∷ others) = when not holds then n else first_failing (n + 1) others

unfoldable pub conditions : Document → ℕ → ℕ → List Bool
conditions d m p =
    has_anchor d.anchors m
    ∷ disjoint d.anchors m
    ∷ each_has_one_link d m p
    ∷ each_sets_once d m p
    ∷ each_unguarded d m p
    ∷ no_other d m p
    ∷ each_outside_switches d m p
    ∷ []

unfoldable pub failing : Document → ℕ → ℕ → ℕ
failing d m p = first_failing 1 (conditions d m p)

unfoldable pub shows_counts : Document → ℕ → ℕ → Bool
shows_counts d m p = failing d m p =? 0

-- ---- "and gives for each anchor its count": the value that its link sets p to

-- the first link on the start of anchor a that sets p, and the first action of link l that does
unfoldable pub count_link : Document → ℕ → ℕ → ℕ
count_link d p a = first (is_count_link_of d p a) d.links.count 0

unfoldable pub count_action : Document → ℕ → ℕ → ℕ
count_action d p l = first (sets_in d p l) (action_count d.links l) 0

unfoldable pub count_of : Document → ℕ → ℕ → ℤ
count_of d p a = (action_at d.actions (count_link d p a) (count_action d p (count_link d p a))).value

-- ---- the check for authors

-- "13 broken; 10 no such id, or no media; else the first condition that fails, or that the document shows the counts"
unfoldable pub check_counts : Session → ℕ → ℕ → Answer
check_counts s m p =
    when broken s then refused 13
    else when not (m <? s.document.nodes.count && p <? s.document.properties && is_media s.document.nodes m) then refused 10
    else accepted (pos (failing s.document m p) ∷ [])

-- the first condition that fails, and where none does the count
unfoldable pub with_count : ℕ → ℤ → Answer
with_count condition count = accepted (pos condition ∷ (when condition =? 0 then count else pos 0) ∷ [])

-- "Another gives an anchor's count": 13 broken; 10 no such anchor or property; else the count if the document shows the counts of the
-- anchor's media, or the first condition that fails
unfoldable pub give_count : Session → ℕ → ℕ → Answer
give_count s a p =
    when broken s then refused 13
    else when not (a <? s.document.anchors.count && p <? s.document.properties) then refused 10
    else with_count (failing s.document (anchor_at s.document.anchors a).media p) (count_of s.document p a)

-- ---- the last anchor of m that started

-- the line is the start of an anchor of m
unfoldable pub is_start_of : Document → ℕ → Line → Bool
is_start_of d m x = x.class =? of_anchor && x.transition =? starts && is_anchor_of d.anchors m x.id

-- the last anchor of m whose start is among the lines; `last` if there is none
unfoldable pub last_started : Document → ℕ → ℕ → List Line → ℕ
last_started d m last [] = last
last_started d m last (x ∷ xs) = last_started d m (when is_start_of d m x then x.id else last) xs

-- its count; the value `before` if there is none (255 is no anchor's id)
unfoldable pub last_count : Document → ℕ → ℕ → ℤ → List Line → ℤ
last_count d m p before lines =
    when last_started d m no_id lines =? no_id then before else count_of d p (last_started d m no_id lines)

-- ---- the statement

abbrev pub value_of : State → ℕ → ℤ
value_of s p = get_or s.properties.values p (pos 0)

-- no accepted call of the list is a command that sets p
abbrev pub NeverSets : ℕ → Session → List (Call × ℕ) → Type 0
NeverSets p s [] = Unit {0}
NeverSets p s ((c, bytes) ∷ calls) =
    ((call s c bytes).answer.refusal ≡ 0 → command_sets p c ≡ false) × NeverSets p (call s c bytes).session calls

-- in state s, after the lines of the joined logs, where p had the value `before` in the new session
pub record CountsShown (d : Document) (m p : ℕ) (before : ℤ) (s : State) (lines : List Line) : Type 0 where
  -- "p has the count of the last anchor of m whose start stands in the joined logs; without such a line its first value"
  pub last : value_of s p ≡ last_count d m p before lines
  -- "If m is awake, occurring or paused, and begin ≤ clock < end for an anchor a of m, then p has a's count."
  pub shown : (a : ℕ) → a < d.anchors.count → (anchor_at d.anchors a).media ≡ m → Awake (node_state s m)
      → Inside (anchor_at d.anchors a).begin (node_clock s m) (anchor_at d.anchors a).end → value_of s p ≡ count_of d p a

-- THE STATEMENT. "For every document that loads and shows the counts of m in p, and every list of commands, keys and ticks from its
-- new session, refused ones included, whatever their arguments and log lengths, but without an accepted command that sets p"
abbrev pub CountsForEveryList : Type 0
CountsForEveryList =
    (bytes : List ℕ)
    → (load bytes).answer.refusal ≡ 0
    → (m p : ℕ)
    → shows_counts (load bytes).session.document m p ≡ true
    → (calls : List (Call × ℕ))
    → NeverSets p (load bytes).session calls
    → CountsShown (load bytes).session.document m p (value_of (load bytes).session.state p)
    (session_after (load bytes).session calls).state (joined (results_of (load bytes).session calls))
