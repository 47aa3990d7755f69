use Rattle.std.proofs.Common.{◌≡◌, ℕ, ◌<◌, Some}
use Rattle.std.specs.Prelude.{slice_get}
use Rattle.ty_prog.specs.declared.class.Class.{Class}
use Rattle.ty_good.proofs.each.each_of.Given as goal

abbrev pub invariant-loop-number : goal.invariant-loop-number
invariant-loop-number g l = (k : ℕ) (class : Class) → k < l.number → slice_get l.classes k ≡ Some class → g.R.ClassRule.keeps l.rule k class
