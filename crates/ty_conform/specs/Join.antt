-- The type of a conditional whose branches have two types, where none is wanted (SLS 6.16, 3.5.3).
use Rattle.std.specs.Prelude.{Bool, true, ◌&&◌, if◌then◌else◌, List}
use Rattle.ty_prog.specs.declared.class.Class.{Class}
use Rattle.ty_prog.specs.declared.ty.Ty.{Ty}
use Rattle.ty_prog.specs.declared.ty.Ty.TheVariants as ty
use Rattle.ty_conform.specs.Conforms.{conforms}

-- AnyRef where both conform to it, else Any
abbrev pub shared : List Class → Ty → Ty → Ty
shared classes one other = if conforms classes one ty.AnyRef && conforms classes other ty.AnyRef then ty.AnyRef else ty.Any

-- Long for Int and Long, of which neither conforms to the other
abbrev pub wider : List Class → Ty → Ty → Ty
wider classes ty.Int ty.Long = ty.Long
wider classes ty.Long ty.Int = ty.Long
wider classes one other = shared classes one other

-- the greater type where one conforms to the other
abbrev pub join : List Class → Ty → Ty → Ty
join classes one other =
    if conforms classes one other then other else if conforms classes other one then one else wider classes one other

-- a value of the first type is one of the second, or is widened to it (SLS 6.26.1)
abbrev pub serves_as : List Class → Ty → Ty → Bool
serves_as classes ty.Int ty.Long = true
serves_as classes lower upper = conforms classes lower upper
