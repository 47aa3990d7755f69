-- The direct supertypes of each class by their numbers, as they are computed.
use Rattle.std.specs.Prelude.{ℕ, List, ◌∷◌, ◌++◌, map, option_to_list}
use Rattle.std.specs.List.{flat_map}
use Rattle.cf_form.specs.declared.class_file.ClassFile.{ClassFile}
use Rattle.cf_form.specs.declared.constant.Const.{Const}
use Rattle.cf_link.specs.BuiltIns.{built_ins}
use Rattle.cf_set.specs.Indexes.{number_at}

-- the number of the class at an index, if there is one
abbrev pub numbered_at : List (List ℕ) → List Const → ℕ → List ℕ
numbered_at names pool index = option_to_list (number_at names pool index)

-- the numbers of the superclass and the superinterfaces of a file's class
abbrev pub row_of : List (List ℕ) → ClassFile → List ℕ
row_of names file = flat_map (numbered_at names file.pool) (file.parent ∷ file.interfaces)

-- those of the built-in classes
unfoldable pub built_in_rows : List (List ℕ)
built_in_rows = map (λ b. option_to_list b.parent) built_ins

-- those of all classes
unfoldable pub rows_of : List (List ℕ) → List ClassFile → List (List ℕ)
rows_of names files = built_in_rows ++ map (row_of names) files
