-- What tables have at the slots of methods.
use Rattle.std.specs.Prelude.{ℕ, ◌==◌, if◌then◌else◌, List, [], ◌∷◌, Option, None, slice_get, option_map}
use Rattle.std.specs.Option.{unwrap_or}
use Rattle.cf_link.specs.declared.table.Table.{Table}
use Rattle.cf_link.specs.declared.table.Face.{Face}

-- where the slots of a class's own methods begin
abbrev pub base_of : List Table → ℕ → ℕ
base_of tables class = unwrap_or (option_map (λ t. t.base) (slice_get tables class)) 0

-- the slots of a class
abbrev pub table_slots : List Table → ℕ → List (Option (ℕ × ℕ))
table_slots tables class = unwrap_or (option_map (λ t. t.slots) (slice_get tables class)) []

-- the interfaces of a class, with their slots
abbrev pub faces_of : List Table → ℕ → List Face
faces_of tables class = unwrap_or (option_map (λ t. t.faces) (slice_get tables class)) []

-- the slots of an interface
abbrev pub face_of : List Face → ℕ → List (Option (ℕ × ℕ))
face_of [] of = []
face_of (face ∷ faces) of = if face.of == of then face.slots else face_of faces of

-- what stands at a slot
abbrev pub at_slot : List (Option (ℕ × ℕ)) → ℕ → Option (ℕ × ℕ)
at_slot slots slot = unwrap_or (slice_get slots slot) None
