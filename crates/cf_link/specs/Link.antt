-- Which linked set class files make (JVMS 5.3, 5.4).
use Rattle.std.specs.Prelude.{◌≡◌, List, [], ◌++◌, map}
use Rattle.cf_form.specs.ClassFiles.{Each}
use Rattle.cf_form.specs.declared.class_file.ClassFile.{ClassFile}
use Rattle.cf_link.specs.BuiltIns.{built_ins}
use Rattle.cf_link.specs.Faults.{HasNone}
use Rattle.cf_link.specs.OfFiles.{names_of, texts_of, AreClasses, Resolves, IsMain}
use Rattle.cf_link.specs.declared.fault.LinkKind.{LinkKind}
use Rattle.cf_link.specs.declared.linked.Linked.{Linked}

-- the files make this set: they have no fault, and it has these classes, references, texts and main method, and tables by
-- `IsLinked`
pub record Link (files : List ClassFile) (k : Linked) : Type 0 where
  pub faultless : (kind : LinkKind) → HasNone files kind
  pub classes : AreClasses files k.classes
  pub texts : k.texts ≡ texts_of files
  pub refs : Each (λ pool refs. Each (Resolves (names_of files) k.texts k.classes pool) pool refs) (map (λ _. []) built_ins ++ map (λ f. f.pool) files) k.refs
  pub main : IsMain files k.classes k.main
