-- How many of a document's first bytes load's answer depends on.
use Rattle.std.specs.Prelude.{ℕ, ◌+◌, ◌*◌}
use Rattle.machine.specs.Terms.{simple_rule}
use Rattle.machine.specs.Records.{body_length}

-- the bytes of a record: its kind and its body
abbrev pub record_length : ℕ → ℕ
record_length kind = 1 + body_length kind

-- the records of full tables, and the whole of the record that stops the load then; none is longer than an action
abbrev pub deciding_bytes : ℕ
deciding_bytes =
    record_length 0 + 64 * record_length 1 + 128 * record_length 2 + 32 * record_length 3 + 32 * record_length simple_rule
    + 64 * record_length 6 + 64 * record_length 7 + 64 * record_length 8 + 512 * record_length 9
    + record_length 9
