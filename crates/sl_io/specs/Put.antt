-- A fact for one answer of `put`.
use Rattle.std.specs.Prelude.{Bool, true, false}
use Rattle.sl_io.specs.declared.put.Put.{Put}
use Rattle.sl_io.specs.declared.put.Put.TheVariants.{Done, Failed, Memory}

-- P holds where the file was put
abbrev pub OnDone : Put → Type 0 → Type 0
OnDone Done P = P
OnDone Failed P = Unit {0}
OnDone Memory P = Unit {0}

-- P holds where the outside failed
abbrev pub OnPutFailed : Put → Type 0 → Type 0
OnPutFailed Done P = Unit {0}
OnPutFailed Failed P = P
OnPutFailed Memory P = Unit {0}

-- P holds where memory ran out
abbrev pub OnPutMemory : Put → Type 0 → Type 0
OnPutMemory Done P = Unit {0}
OnPutMemory Failed P = Unit {0}
OnPutMemory Memory P = P

-- P holds where the outside didn't fail
abbrev pub UnlessPutFailed : Put → Type 0 → Type 0
UnlessPutFailed Done P = P
UnlessPutFailed Failed P = Unit {0}
UnlessPutFailed Memory P = P

-- whether the outside failed
abbrev pub is_put_failed : Put → Bool
is_put_failed Done = false
is_put_failed Failed = true
is_put_failed Memory = false
