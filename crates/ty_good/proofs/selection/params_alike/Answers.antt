use Rattle.std.proofs.Common.{◌≡◌, ◌∙◌, ◌<◌, ℕ, zero, suc, false, List, [], ◌∷◌, length, drop, refl, sym, arith}
use Rattle.ty_prog.specs.declared.ty.Ty.{Ty}
use Rattle.ty_good.specs.Selection.{params_alike}
use Rattle.ty_good.proofs.selection.params_alike.Goals as goal

-- there are more types in the first list
none_left : (ones rest : List Ty) (i : ℕ) → i < length ones → length rest ≡ 0 → params_alike (drop i ones) rest ≡ false
none_left [] rest i within none = absurd (omega arith)
none_left (one ∷ ones) (other ∷ rest) i within none = absurd (omega arith)
none_left (one ∷ ones) [] zero within none = refl
none_left (one ∷ ones) [] (suc i) within none = none_left ones [] i (omega arith) none

pub returns-in-None : goal.returns-in-None
returns-in-None c =
    sym (none_left c.args.ones.now c.loop-one.rest.now c.loop-one.one-index c.loop-one-test.true c.in-None.ensures.cases) ∙ c.loop-one.invariant
