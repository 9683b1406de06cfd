-- 01's numbers, by name.
use Rattle.std.specs.Prelude.{ℕ}

-- Types of a node.
abbrev pub context : ℕ
context = 0

abbrev pub media : ℕ
media = 1

abbrev pub switch : ℕ
switch = 2

-- States; awake means not sleeping.
abbrev pub sleeping : ℕ
sleeping = 0

abbrev pub occurring : ℕ
occurring = 1

abbrev pub paused : ℕ
paused = 2

-- Actions: 1 start, 2 stop, 3 abort, 4 pause, 5 resume a node; 6 set a property.
abbrev pub to_start : ℕ
to_start = 1

abbrev pub to_stop : ℕ
to_stop = 2

abbrev pub to_abort : ℕ
to_abort = 3

abbrev pub to_pause : ℕ
to_pause = 4

abbrev pub to_resume : ℕ
to_resume = 5

abbrev pub to_set : ℕ
to_set = 6

-- What stands for an action where there is none.
abbrev pub no_action : ℕ
no_action = 0

-- Transitions: 1 starts, 2 stops, 3 aborts, 4 pauses, 5 resumes; 0 is none, and that of a fired line.
abbrev pub no_transition : ℕ
no_transition = 0

abbrev pub starts : ℕ
starts = 1

abbrev pub stops : ℕ
stops = 2

abbrev pub aborts : ℕ
aborts = 3

abbrev pub pauses : ℕ
pauses = 4

abbrev pub resumes : ℕ
resumes = 5

-- Classes: 1 node, 2 anchor, 3 property, 4 key; 5 is that of a fired line.
abbrev pub of_node : ℕ
of_node = 1

abbrev pub of_anchor : ℕ
of_anchor = 2

abbrev pub of_property : ℕ
of_property = 3

abbrev pub of_key : ℕ
of_key = 4

abbrev pub of_fired : ℕ
of_fired = 5

-- Kinds of a rule.
abbrev pub simple_rule : ℕ
simple_rule = 4

abbrev pub composite_rule : ℕ
composite_rule = 5

-- The parent of node 0, the rule of a default bind, the guard of a link that has none.
abbrev pub no_id : ℕ
no_id = 255
