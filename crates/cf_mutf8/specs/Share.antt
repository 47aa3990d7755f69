-- For proofs only: the length of modified UTF-8, counted on UTF-8.
use Rattle.std.specs.Prelude.{ℕ, nat_lt, ◌==◌, if◌then◌else◌}

-- a byte of UTF-8 counts one; 0 counts two; the first of a character past U+FFFF three, since its four become six
abbrev pub share : ℕ → ℕ
share byte = if byte == 0 then 2 else (if nat_lt byte 0xF0 then 1 else 3)
