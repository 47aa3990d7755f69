-- Which names a program may have after the first k of the four lowerings, so that those that the others make are free.
-- A name of a program's own has no `$`, but that of the setter of a variable x, which is `x_$eq`. Of a trait T, the
-- lowering of traits makes `$init$` and `m$` from each method m; in the classes that mix T in it makes fields `T$$x`,
-- setters `T$$x_$eq` and super accessors `T$$super$m`. A lazy member x of T has its own name there, as a cell and as the
-- method that reads it, so the lowering of lazy members makes `x$lzy` and `x$init` from each cell x, beside `x`.
use Rattle.std.specs.Prelude.{ℕ, ◌-◌, Bool, true, false, ◌&&◌, ◌||◌, not, nat_le, IsTrue, List, [], ◌∷◌, length, slice_get, option_map, if◌then◌else◌}
use Rattle.std.specs.List.{list_all}
use Rattle.std.specs.Option.{unwrap_or}
use Rattle.ty_prog.specs.declared.class.Class.{Class}
use Rattle.ty_prog.specs.declared.method.Method.{Method}
use Rattle.ty_prog.specs.declared.program.Program.{Program}
use Rattle.ty_complete.specs.declared.word.Word.{Word}
use Rattle.ty_complete.specs.Words.{words, is_own, is_none, is_super, is_eq, is_init, is_lzy, is_low}

-- no lowering makes such a name, and no program has it
abbrev pub NEVER : ℕ
NEVER = 5

-- a class has a name of its own
abbrev pub class_name_made_by : List Word → ℕ
class_name_made_by (only ∷ []) = if is_own only then 0 else NEVER
class_name_made_by other = NEVER

-- a cell has a name of its own, also one of a trait in the class that mixes it in
abbrev pub cell_name_made_by : List Word → ℕ
cell_name_made_by (only ∷ []) = if is_own only then 0 else NEVER
cell_name_made_by other = NEVER

-- the lowering that makes a field of a name; 0 for one of the program's own
abbrev pub field_name_made_by : List Word → ℕ
field_name_made_by (only ∷ []) = if is_own only then 0 else NEVER
field_name_made_by (member ∷ last ∷ []) = if is_own member && is_lzy last then 4 else NEVER
field_name_made_by (trait ∷ gap ∷ member ∷ []) = if is_own trait && is_none gap && is_own member then 2 else NEVER
field_name_made_by other = NEVER

-- that which makes a method of a name
abbrev pub method_name_made_by : List Word → ℕ
method_name_made_by (only ∷ []) = if is_own only then 0 else NEVER
method_name_made_by (member ∷ last ∷ []) =
    if is_low member && is_eq last then 0 else
    if is_own member && is_none last then 2 else
    if is_own member && is_init last then 4 else NEVER
method_name_made_by (first ∷ second ∷ last ∷ []) =
    if is_none last && (is_none first && is_init second || is_low first && is_eq second) then 2 else NEVER
method_name_made_by (trait ∷ gap ∷ third ∷ last ∷ []) =
    if is_own trait && is_none gap && (is_super third && is_own last || is_low third && is_eq last) then 2 else NEVER
method_name_made_by (trait ∷ gap ∷ third ∷ member ∷ last ∷ []) =
    if is_own trait && is_none gap && is_super third && is_low member && is_eq last then 2 else NEVER
method_name_made_by other = NEVER

-- whether the last word is empty, as in the names of static methods alone
abbrev pub ends_static : List Word → Bool
ends_static name = unwrap_or (option_map is_none (slice_get name (length name - 1))) false

-- both or neither
abbrev pub is_as : Bool → Bool → Bool
is_as true other = other
is_as false other = not other

-- a static method has the name of one, and no other has
abbrev pub method_named : ℕ → Method → Bool
method_named k m = nat_le (method_name_made_by (words m.name)) k && is_as m.is_static (ends_static (words m.name))

-- the names of a class and its members are made by then
abbrev pub class_named : ℕ → Class → Bool
class_named k class =
    nat_le (class_name_made_by (words class.name)) k
    && list_all (λ f. nat_le (field_name_made_by (words f.name)) k) class.fields
    && list_all (λ c. nat_le (cell_name_made_by (words c.name)) k) class.cells
    && list_all (method_named k) class.methods

-- all names of the program are made by then
abbrev pub NamesMade : ℕ → Program → Type 0
NamesMade k p = IsTrue (list_all (class_named k) p.classes)
