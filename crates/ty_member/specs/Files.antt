-- The class files of templates, in the text's order.
use Rattle.std.specs.Prelude.{ℕ, List}
use Rattle.sl_ast.specs.declared.unit.TopDef.{TopDef}
use Rattle.sl_ast.specs.declared.unit.TopDef.TheVariants as tops
use Rattle.ty_member.specs.Names.{object_file}

-- the name of the class file of a template
abbrev pub file_of : TopDef → List ℕ
file_of (tops.Class modifiers is_case name params body at) = name.name
file_of (tops.Trait is_sealed name body at) = name.name
file_of (tops.Object name body at) = object_file name.name
