-- Names of types that are no classes (SLS 12.1, 12.2).
use Rattle.std.specs.Prelude.{List, ℕ, Option, Some, None, codes, if◌then◌else◌}
use Rattle.std.specs.Str.{bytes_eq}
use Rattle.ty_prog.specs.declared.ty.Ty.{Ty}
use Rattle.ty_prog.specs.declared.ty.Ty.TheVariants as ty

-- types of values, texts, and arrays without their argument
abbrev pub value_word : List ℕ → Option Ty
value_word name =
    if bytes_eq name (codes "Unit") then Some ty.Unit else
    if bytes_eq name (codes "Boolean") then Some ty.Boolean else
    if bytes_eq name (codes "Int") then Some ty.Int else
    if bytes_eq name (codes "Long") then Some ty.Long else
    if bytes_eq name (codes "String") then Some ty.Text else
    if bytes_eq name (codes "Array") then Some ty.Array else None

-- the type of a name that is no class's
abbrev pub word_type : List ℕ → Option Ty
word_type name =
    if bytes_eq name (codes "Any") then Some ty.Any else
    if bytes_eq name (codes "AnyRef") then Some ty.AnyRef else
    if bytes_eq name (codes "Nothing") then Some ty.Nothing else
    if bytes_eq name (codes "Null") then Some ty.Null else value_word name
