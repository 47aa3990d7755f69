-- For proofs only: handlers by the offsets of a code's instructions.
use Rattle.std.specs.Prelude.{ℕ, ◌<◌, List, length, slice_index}
use Rattle.cf_form.specs.Outline.{row_bytes}
use Rattle.cf_form.specs.declared.code.Handler.{Handler}

-- a handler of instructions with these offsets (JVMS 4.7.3)
abbrev pub bytes_at : List ℕ → Handler → List ℕ
bytes_at starts h = row_bytes (record { from = slice_index starts h.from; to = slice_index starts h.to; target = slice_index starts h.target; class = h.class })

-- its instructions are among them
abbrev pub IsAmong : List ℕ → Handler → Type 0
IsAmong starts h = (h.from < length starts) × (h.to < length starts) × (h.target < length starts)
