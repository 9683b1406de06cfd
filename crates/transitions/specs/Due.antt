-- What is due for a media at a clock.
use Rattle.std.specs.Prelude.{Bool, ◌&&◌, List, ℕ, get_or}
use Rattle.base.specs.Tests.{◌=?◌}
use Rattle.base.specs.Loops.{past_last}
use Rattle.machine.specs.Tables.{duration_of}
use Rattle.machine.specs.declared.Document.{Document}
use Rattle.transitions.specs.declared.media.Due.{Due}

-- by the media of anchors and their begins or their ends: anchor a is one of media n, and its begin or end is the clock
unfoldable pub due_at : List ℕ → List ℕ → ℕ → ℕ → ℕ → Bool
due_at media times n clock a = get_or media a 0 =? n && get_or times a 0 =? clock

-- the clock, one past the last anchor of n that ends at it, one past the last that begins at it, and whether the duration of n is the clock
unfoldable pub due_of : Document → ℕ → ℕ → Due
due_of d n clock = record {
  clock = clock;
  ending = past_last (due_at d.anchors.media d.anchors.ends n clock) d.anchors.count;
  beginning = past_last (due_at d.anchors.media d.anchors.begins n clock) d.anchors.count;
  stops = duration_of d.nodes n =? clock;
}
