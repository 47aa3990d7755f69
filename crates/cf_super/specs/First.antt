-- Which fault of these kinds is the first.
use Rattle.std.specs.Prelude.{◌≡◌, ℕ, List, Some, slice_get}
use Rattle.cf_form.specs.declared.class_file.ClassFile.{ClassFile}
use Rattle.cf_link.specs.OfFiles.{name_of}
use Rattle.cf_link.specs.declared.fault.LinkKind.{LinkKind}
use Rattle.cf_link.specs.declared.fault.LinkKind.TheVariants.{Cyclic, Shape}
use Rattle.cf_set.specs.First.{IsFirst}

-- this file is the first with a fault of a kind that tells the file's own class
abbrev pub IsFirstFile : List ClassFile → LinkKind → ℕ → Type 0
IsFirstFile files of i = (file : ClassFile) × (slice_get files i ≡ Some file) × IsFirst files of i 0 (name_of file)

-- this file is the first whose class is its own ancestor
abbrev pub IsFirstCyclic : List ClassFile → ℕ → Type 0
IsFirstCyclic files i = IsFirstFile files Cyclic i

-- this file is the first whose class is of wrong shape
abbrev pub IsFirstShape : List ClassFile → ℕ → Type 0
IsFirstShape files i = IsFirstFile files Shape i
