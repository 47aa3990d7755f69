-- A fact for one answer of `fetch`.
use Rattle.std.specs.Prelude.{ℕ, List, Bool, true, false}
use Rattle.sl_io.specs.declared.fetch.Fetch.{Fetch}
use Rattle.sl_io.specs.declared.fetch.Fetch.TheVariants.{Bytes, Missing, Long, Failed, Memory}

-- P holds of the bytes, where there are bytes
abbrev pub IfBytes : Fetch → (List ℕ → Type 0) → Type 0
IfBytes (Bytes bytes) P = P bytes
IfBytes Missing P = Unit {0}
IfBytes Long P = Unit {0}
IfBytes Failed P = Unit {0}
IfBytes Memory P = Unit {0}

-- P holds where the file is missing
abbrev pub OnMissing : Fetch → Type 0 → Type 0
OnMissing (Bytes bytes) P = Unit {0}
OnMissing Missing P = P
OnMissing Long P = Unit {0}
OnMissing Failed P = Unit {0}
OnMissing Memory P = Unit {0}

-- P holds where the file is too long
abbrev pub OnLong : Fetch → Type 0 → Type 0
OnLong (Bytes bytes) P = Unit {0}
OnLong Missing P = Unit {0}
OnLong Long P = P
OnLong Failed P = Unit {0}
OnLong Memory P = Unit {0}

-- P holds where the outside failed
abbrev pub OnFailed : Fetch → Type 0 → Type 0
OnFailed (Bytes bytes) P = Unit {0}
OnFailed Missing P = Unit {0}
OnFailed Long P = Unit {0}
OnFailed Failed P = P
OnFailed Memory P = Unit {0}

-- P holds where the outside didn't fail
abbrev pub UnlessFailed : Fetch → Type 0 → Type 0
UnlessFailed (Bytes bytes) P = P
UnlessFailed Missing P = P
UnlessFailed Long P = P
UnlessFailed Failed P = Unit {0}
UnlessFailed Memory P = P

-- whether the outside failed
abbrev pub is_failed : Fetch → Bool
is_failed (Bytes bytes) = false
is_failed Missing = false
is_failed Long = false
is_failed Failed = true
is_failed Memory = false
