-- Lines and columns of a text; LF ends a line and belongs to the line that it ends.
use Rattle.std.specs.Prelude.{◌≡◌, ◌≢◌, ℕ, ◌+◌, ◌-◌, ◌<◌, ◌≤◌, List, take, count_by, slice_index, ◌==◌, ◌⊎◌}

-- the code of LF
abbrev pub line_feed : ℕ
line_feed = 0x0A

-- a line begins at `start`: at the text's start, or right behind an LF
abbrev pub IsLineStart : List ℕ → ℕ → Type 0
IsLineStart text start = (start ≡ 0) ⊎ ((0 < start) × (slice_index text (start - 1) ≡ line_feed))

-- the offset `at`, a number of characters from 0, lies in this line at this column, which both count from 1
pub record IsSpot (text : List ℕ) (at line column : ℕ) : Type 0 where
  -- one more than the line ends before it
  pub lines : line ≡ 1 + count_by (λ c. c == line_feed) (take at text)
  -- where its line begins
  pub start : ℕ
  pub starts : IsLineStart text start
  -- one more than the characters of its line before it
  pub columns : start + column ≡ at + 1
  pub before : start ≤ at
  pub same_line : (k : ℕ) → start ≤ k → k < at → slice_index text k ≢ line_feed
