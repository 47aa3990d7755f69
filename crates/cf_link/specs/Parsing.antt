-- Reading descriptors from front to back.
use Rattle.std.specs.Prelude.{ℕ, Bool, true, false, ◌==◌, ◌&&◌, ◌||◌, slice_index_or, length, if◌then◌else◌, List, [], ◌∷◌, Option, None, Some, option_map}
use Rattle.cf_link.specs.declared.value_kind.ValueKind.{ValueKind}
use Rattle.cf_link.specs.declared.value_kind.ValueKind.TheVariants.{Int, Long, Reference}

-- the kind of a letter
abbrev pub letter : ℕ → Option ValueKind
letter byte =
    if byte == 73 || byte == 90 then Some Int
    else (if byte == 74 then Some Long
    else (if byte == 66 || byte == 67 || byte == 68 || byte == 70 || byte == 83 then Some Reference else None))

-- what stands behind a class name and its `;`; the part that is read is empty so far, or not
abbrev pub name_end : Bool → List ℕ → Option (List ℕ)
name_end empty [] = None
name_end empty (byte ∷ bytes) =
    if byte == 59 then (if empty then None else Some bytes)
    else (if byte == 47 then (if empty then None else name_end true bytes)
    else (if byte == 46 || byte == 91 then None else name_end false bytes))

-- a type that is no array, and what stands behind it
abbrev pub plain_type : List ℕ → Option (ValueKind × List ℕ)
plain_type [] = None
plain_type (byte ∷ bytes) =
    if byte == 76 then option_map (λ after. (Reference, after)) (name_end true bytes)
    else option_map (λ kind. (kind, bytes)) (letter byte)

-- an array of a type
abbrev pub array_of : ValueKind × List ℕ → ValueKind × List ℕ
array_of found = (Reference, found.1)

-- a type, and what stands behind it
abbrev pub type_in_front : List ℕ → Option (ValueKind × List ℕ)
type_in_front [] = None
type_in_front (byte ∷ bytes) = if byte == 91 then option_map array_of (type_in_front bytes) else plain_type (byte ∷ bytes)

-- the same behind `[`, or not
abbrev pub behind_arrays : Bool → Option (ValueKind × List ℕ) → Option (ValueKind × List ℕ)
behind_arrays false found = found
behind_arrays true found = option_map array_of found

-- whether bytes are `V` alone
abbrev pub is_void : List ℕ → Bool
is_void bytes = (length bytes == 1) && (slice_index_or bytes 0 0 == 86)
