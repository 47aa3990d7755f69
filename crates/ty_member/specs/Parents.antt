-- The second pass, its first rule: what the names of parents mean (SLS 5.1).
use Rattle.std.specs.Prelude.{ℕ, List, [], ◌∷◌, ◌++◌, Option, Some, None, Ok, option_map, codes, if◌then◌else◌}
use Rattle.std.specs.Str.{bytes_eq}
use Rattle.sl_text.specs.declared.span.Span.{Span}
use Rattle.sl_ast.specs.declared.ident.Ident.{Ident}
use Rattle.sl_ast.specs.declared.template.Parents.{Parents}
use Rattle.sl_ast.specs.declared.template.Template.{Template}
use Rattle.sl_ast.specs.declared.type_fault.TypeKind.TheVariants as kind
use Rattle.sl_ast.specs.declared.unit.TopDef.{TopDef}
use Rattle.sl_ast.specs.declared.unit.TopDef.TheVariants as tops
use Rattle.sl_ast.specs.declared.unit.Unit as file
use Rattle.ty_member.specs.Checked.{Outcome, ◌>>=◌, broken, each}
use Rattle.ty_member.specs.Names.{number_in, object_file}
use Rattle.ty_member.specs.declared.above.Above.{Above}
use Rattle.ty_member.specs.declared.above.Above.TheVariants as above
use Rattle.ty_member.specs.declared.known.Known.{Known}

-- the first number, or else the other
abbrev pub or_number : Option ℕ → Option ℕ → Option ℕ
or_number (Some number) other = Some number
or_number None other = other

-- the class or trait of a name, or else the object
abbrev pub class_or_object : Known → List ℕ → Option ℕ
class_or_object known name = or_number (number_in known.files name) (number_in known.files (object_file name))

-- what a parent's name means
abbrev pub meant : Known → List ℕ → Option Above
meant known name =
    if bytes_eq name (codes "AnyRef") then Some above.AnyRef else
    if bytes_eq name (codes "String") then Some above.Text else option_map above.Class (class_or_object known name)

-- UnknownType: the name means nothing that may be a parent
abbrev pub if_meant : Option Above → Span → Outcome Above
if_meant None at = broken kind.UnknownType at
if_meant (Some parent) at = Ok parent

-- one parent behind others
abbrev pub with_parent : Known → Ident → List Above → Outcome (List Above)
with_parent known name row = if_meant (meant known name.name) name.span >>= λ parent. Ok (row ++ parent ∷ [])

-- the names of parents, as they are written
abbrev pub names_of : Option Parents → List Ident
names_of None = []
names_of (Some parents) = parents.first ∷ parents.traits

-- the template of a class, trait or object
abbrev pub template_of : TopDef → Template
template_of (tops.Class modifiers is_case name params body at) = body
template_of (tops.Trait is_sealed name body at) = body
template_of (tops.Object name body at) = body

-- the parents of a template
abbrev pub row_of : Known → Option Parents → Outcome (List Above)
row_of known parents = each (with_parent known) (names_of parents) []

-- those of one template behind those of others
abbrev pub with_row : Known → TopDef → List (List Above) → Outcome (List (List Above))
with_row known def rows = row_of known (template_of def).parents >>= λ row. Ok (rows ++ row ∷ [])

-- the parents of each template of a file
abbrev pub rows_of : Known → file.Unit → Outcome (List (List Above))
rows_of known unit = each (with_row known) unit.defs []
