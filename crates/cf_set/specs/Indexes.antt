-- What the indexes of class files name (JVMS 4.1, 4.4).
use Rattle.std.specs.Prelude.{ℕ, List, Option, option_and_then, IsTrue}
use Rattle.std.specs.List.{All}
use Rattle.cf_form.specs.Pool.{names, refers_well}
use Rattle.cf_form.specs.declared.class_file.ClassFile.{ClassFile}
use Rattle.cf_form.specs.declared.constant.Const.{Const}
use Rattle.cf_form.specs.declared.kind.Kind.TheVariants as kind
use Rattle.cf_link.specs.OfFiles.{class_named}
use Rattle.cf_set.specs.Names.{number_in}

-- the number of the class that an index names
abbrev pub number_at : List (List ℕ) → List Const → ℕ → Option ℕ
number_at names pool index = option_and_then (number_in names) (class_named pool index)

-- the indexes of a name and a descriptor name texts
abbrev pub AreTexts : List Const → ℕ → ℕ → Type 0
AreTexts pool name descriptor = IsTrue (names pool kind.Utf8 name) × IsTrue (names pool kind.Utf8 descriptor)

-- each index of a class file names an entry of the kind that is needed there; the reader gives no other files
pub record IsIndexed (file : ClassFile) : Type 0 where
  pub this : IsTrue (names file.pool kind.Class file.this)
  pub parent : IsTrue (names file.pool kind.Class file.parent)
  pub interfaces : All (λ index. IsTrue (names file.pool kind.Class index)) file.interfaces
  pub fields : All (λ f. AreTexts file.pool f.name f.descriptor) file.fields
  pub methods : All (λ m. AreTexts file.pool m.name m.descriptor) file.methods
  pub entries : All (λ c. IsTrue (refers_well file.pool c)) file.pool
