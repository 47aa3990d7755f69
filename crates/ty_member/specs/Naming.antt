-- The first pass: names of templates (SLS 5), and modifiers of classes (SLS 5.2).
use Rattle.std.specs.Prelude.{ℕ, Bool, true, false, ◌+◌, ◌&&◌, ◌||◌, not, nat_lt, List, [], ◌∷◌, ◌++◌, Option, Some, None, Ok, is_some, option_map, option_and_then, slice_get, codes, length, map, if◌then◌else◌}
use Rattle.std.specs.Option.{unwrap_or}
use Rattle.std.specs.Str.{bytes_eq}
use Rattle.sl_text.specs.declared.span.Span.{Span}
use Rattle.sl_ast.specs.declared.ident.Ident.{Ident}
use Rattle.sl_ast.specs.declared.type_fault.TypeKind.TheVariants as kind
use Rattle.sl_ast.specs.declared.unit.ClassModifier.{ClassModifier}
use Rattle.sl_ast.specs.declared.unit.ClassModifier.TheVariants as modifier
use Rattle.sl_ast.specs.declared.unit.TopDef.{TopDef}
use Rattle.sl_ast.specs.declared.unit.TopDef.TheVariants as tops
use Rattle.sl_ast.specs.declared.unit.Unit as file
use Rattle.ty_prog.specs.Prelude.{prelude}
use Rattle.ty_prog.specs.declared.class.Class.{Class}
use Rattle.ty_prog.specs.declared.kind.Kind.TheVariants as kinds
use Rattle.ty_prog.specs.declared.prelude_number.TheConstants.{PRELUDE_LEN}
use Rattle.ty_member.specs.Checked.{Outcome, ◌>>=◌, broken, each}
use Rattle.ty_member.specs.Names.{with_name, number_in, object_file}
use Rattle.ty_member.specs.Words.{word_type}
use Rattle.ty_member.specs.declared.modifiers.ClassWords.{ClassWords}
use Rattle.ty_member.specs.declared.known.Known.{Known}
use Rattle.ty_member.specs.declared.known.Sort.{Sort}
use Rattle.ty_member.specs.declared.naming.TheConstants.{MOST_TEMPLATES}

-- ---- modifiers

-- a modifier behind others: Double where it stands again
abbrev pub class_word : ClassModifier → ClassWords → Outcome ClassWords
class_word (modifier.Sealed at) words = if words.is_sealed then broken kind.Double at else Ok (record words { is_sealed = true })
class_word (modifier.Abstract at) words = if words.is_abstract then broken kind.Double at else Ok (record words { is_abstract = true })

-- the modifiers of a class
abbrev pub class_words : List ClassModifier → Outcome ClassWords
class_words modifiers = each class_word modifiers (record { is_sealed = false; is_abstract = false })

-- ---- names

-- what stands of a class of the prelude
abbrev pub prelude_sort : Class → Sort
prelude_sort class = record { kind = class.kind; is_case = false; is_sealed = false }

-- the prelude alone
unfoldable pub nothing_known : Known
nothing_known = record { files = map (λ c. c.name) prelude; sorts = map prelude_sort prelude }

-- whether a number is that of a class of the program's own
abbrev pub is_own : Option ℕ → Bool
is_own None = false
is_own (Some number) = not (nat_lt number PRELUDE_LEN)

-- whether a number is that of a class of the prelude
abbrev pub is_first : Option ℕ → Bool
is_first None = false
is_first (Some number) = nat_lt number PRELUDE_LEN

-- whether a class or trait of the file so far has this name
abbrev pub is_class : Known → List ℕ → Bool
is_class known name = is_own (number_in known.files name)

-- whether a case class of the file so far has it
abbrev pub is_case_class : Known → List ℕ → Bool
is_case_class known name =
    unwrap_or (option_map (λ s. s.is_case) (option_and_then (slice_get known.sorts) (number_in known.files name))) false

-- whether an object of the file so far has it
abbrev pub is_object : Known → List ℕ → Bool
is_object known name = is_some (number_in known.files (object_file name))

-- the name of a type or of a class of the prelude
abbrev pub is_reserved : Known → List ℕ → Bool
is_reserved known name = is_some (word_type name) || is_first (number_in known.files name)

-- the rules at a template's name, behind so many classes
abbrev pub name_rules : Bool → Bool → ℕ → Span → Outcome (Unit {0})
name_rules is_double is_reserved count at =
    if is_double then broken kind.Double at else
    if is_reserved then broken kind.Reserved at else
    if nat_lt count (PRELUDE_LEN + MOST_TEMPLATES) then Ok tt else broken kind.TooMany at

-- one class behind others
abbrev pub with_class : List ℕ → Sort → Known → Known
with_class file sort known = record { files = with_name known.files file; sorts = known.sorts ++ sort ∷ [] }

-- a class or trait: its name is none of an earlier one, and of a case class none of an earlier object
abbrev pub class_rules : Bool → Ident → Known → Outcome (Unit {0})
class_rules is_case name known =
    name_rules (is_class known name.name || (is_case && is_object known name.name))
    (is_reserved known name.name || bytes_eq name.name (codes "Main")) (length known.files) name.span

-- a class or trait behind others
abbrev pub class_named : Sort → Ident → Known → Outcome Known
class_named sort name known = class_rules sort.is_case name known >>= λ _. Ok (with_class name.name sort known)

-- an object: its name is none of an earlier object or case class
abbrev pub object_rules : Ident → Known → Outcome (Unit {0})
object_rules name known =
    name_rules (is_object known name.name || is_case_class known name.name) (is_reserved known name.name) (length known.files) name.span

-- what stands of an object
abbrev pub object_sort : Sort
object_sort = record { kind = kinds.Object; is_case = false; is_sealed = false }

-- an object behind others
abbrev pub object_named : Ident → Known → Outcome Known
object_named name known = object_rules name known >>= λ _. Ok (with_class (object_file name.name) object_sort known)

-- what stands of a class with these modifiers
abbrev pub class_sort : ClassWords → Bool → Sort
class_sort words is_case =
    record { kind = if words.is_abstract then kinds.Abstract else kinds.Class; is_case = is_case; is_sealed = words.is_sealed }

-- what stands of a trait
abbrev pub trait_sort : Bool → Sort
trait_sort is_sealed = record { kind = kinds.Trait; is_case = false; is_sealed = is_sealed }

-- one template behind others: its modifiers, and then its name
abbrev pub template : TopDef → Known → Outcome Known
template (tops.Class modifiers is_case name params body at) known =
    class_words modifiers >>= λ words. class_named (class_sort words is_case) name known
template (tops.Trait is_sealed name body at) known = class_named (trait_sort is_sealed) name known
template (tops.Object name body at) known = object_named name known

-- the templates of a file, in the text's order
abbrev pub templates : file.Unit → Outcome Known
templates unit = each template unit.defs nothing_known
