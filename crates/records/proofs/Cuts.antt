-- The record that begins at a place of a document: of a kind above the greatest, cut, and whole.
use Rattle.std.specs.Prelude.{◌≡◌, ℕ, ◌+◌, ◌-◌, ◌<◌, ◌≤◌, List, length, get_or}
use Rattle.std.proofs.Common.{arith, length-drop}
use Rattle.std.specs.List.{slice_range}
use borrow.Author.Tests.{lt-ltb, le-ltb}
use Rattle.base.specs.Tests.{when◌then◌else◌}
use Rattle.machine.specs.Records.{greatest_kind, body_length, record_of}
use Rattle.machine.specs.Load.{good, faulty, cut_at}
use Rattle.records.specs.Reading.{cut_from}

module _ (document : List ℕ) (at : ℕ) where
  abbrev pub kind : ℕ
  kind = get_or document at 0

  pub cut_unknown : greatest_kind < kind → faulty 2 ≡ cut_from document at
  unfolding cut_at when◌then◌else◌
  cut_unknown h = rw (lt-ltb _ _ h)

  pub cut_short : kind ≤ greatest_kind → (size : ℕ) → size ≡ body_length kind → at < length document → length document < at + 1 + size → faulty 1 ≡ cut_from document at
  unfolding cut_at when◌then◌else◌
  cut_short h size e m l =
      rw (le-ltb _ _ h, length-drop, ← e, lt-ltb (length document - (at + 1)) size (omega arith))

  pub cut_whole : kind ≤ greatest_kind → (size : ℕ) → size ≡ body_length kind → (body : List ℕ) (end : ℕ) → body ≡ slice_range document (at + 1) end
      → end ≡ at + 1 + size → end ≤ length document → good (record_of kind body) ≡ cut_from document at
  unfolding cut_at when◌then◌else◌
  cut_whole h size e body end f q l =
      let n : end - (at + 1) ≡ size = omega arith in
      rw (le-ltb _ _ h, length-drop, ← e, le-ltb (length document - (at + 1)) size (omega arith), f, n)
