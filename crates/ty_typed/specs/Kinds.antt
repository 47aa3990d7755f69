-- Of which kind the values of an expression are. Where an expression is typed at a place that wants any value, its
-- values are of one kind.
use Rattle.std.specs.Prelude.{Bool, true, false, ◌&&◌, List, [], ◌∷◌, Option, Some, None, if◌then◌else◌}
use Rattle.std.specs.List.{list_all}
use Rattle.ty_prog.specs.declared.class.Class.{Class}
use Rattle.ty_prog.specs.declared.ty.Ty.{Ty}
use Rattle.ty_prog.specs.declared.ty.Ty.TheVariants as ty
use Rattle.ty_typed.specs.declared.value_kinds.KindsFit.{KindsFit}
use Rattle.ty_typed.specs.declared.value_kinds.ValueKind.{ValueKind}
use Rattle.ty_typed.specs.declared.value_kinds.ValueKind.TheVariants as kind
use Rattle.ty_typed.specs.Stands.{fits}

-- for which kinds values of these types may stand
abbrev pub kinds_fit : List Class → List Ty → KindsFit
kinds_fit classes types = record {
  never = fits classes types ty.Nothing;
  reference = fits classes types ty.Any;
  unit = fits classes types ty.Unit;
  boolean = fits classes types ty.Boolean;
  int = fits classes types ty.Int;
  long = fits classes types ty.Long;
  array = fits classes types ty.Array;
}

-- the first kind that fits
abbrev pub first_kind : KindsFit → Option ValueKind
first_kind fit =
    if fit.never then Some kind.Never else
    if fit.reference then Some kind.Reference else
    if fit.unit then Some kind.Unit else
    if fit.boolean then Some kind.Boolean else
    if fit.int then Some kind.Int else
    if fit.long then Some kind.Long else
    if fit.array then Some kind.Array else None

-- the kind of values of these types; None where they are of several
abbrev pub value_kind : List Class → List Ty → Option ValueKind
value_kind classes types = first_kind (kinds_fit classes types)

-- For proofs only.

-- for which kinds the values of all of several expressions may stand
abbrev pub all_kinds_fit : List Class → List (List Ty) → KindsFit
all_kinds_fit classes several = record {
  never = list_all (λ types. fits classes types ty.Nothing) several;
  reference = list_all (λ types. fits classes types ty.Any) several;
  unit = list_all (λ types. fits classes types ty.Unit) several;
  boolean = list_all (λ types. fits classes types ty.Boolean) several;
  int = list_all (λ types. fits classes types ty.Int) several;
  long = list_all (λ types. fits classes types ty.Long) several;
  array = list_all (λ types. fits classes types ty.Array) several;
}

-- the kinds that both have
abbrev pub both : KindsFit → KindsFit → KindsFit
both one other = record {
  never = one.never && other.never;
  reference = one.reference && other.reference;
  unit = one.unit && other.unit;
  boolean = one.boolean && other.boolean;
  int = one.int && other.int;
  long = one.long && other.long;
  array = one.array && other.array;
}

-- all kinds
abbrev pub every : KindsFit
every = record { never = true; reference = true; unit = true; boolean = true; int = true; long = true; array = true }

-- no kind
abbrev pub none : KindsFit
none = record { never = false; reference = false; unit = false; boolean = false; int = false; long = false; array = false }

-- the kinds for which a value of a type may stand: its own alone, and each where there is no value
abbrev pub type_kinds : Ty → KindsFit
type_kinds ty.Nothing = every
type_kinds ty.Unit = record none { unit = true }
type_kinds ty.Boolean = record none { boolean = true }
type_kinds ty.Int = record none { int = true }
type_kinds ty.Long = record none { long = true }
type_kinds ty.Array = record none { array = true }
type_kinds other = record none { reference = true }

-- whether the kind of a type fits; of a type that stands for no kind it doesn't
abbrev pub has : KindsFit → Ty → Bool
has fit ty.Nothing = fit.never
has fit ty.Any = fit.reference
has fit ty.Unit = fit.unit
has fit ty.Boolean = fit.boolean
has fit ty.Int = fit.int
has fit ty.Long = fit.long
has fit ty.Array = fit.array
has fit other = false

-- the first of some types whose kind fits
abbrev pub first_that_fits : List Ty → KindsFit → Option Ty
first_that_fits [] fit = None
first_that_fits (first ∷ choices) fit = if has fit first then Some first else first_that_fits choices fit
