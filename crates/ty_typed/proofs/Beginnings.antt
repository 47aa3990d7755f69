-- What a list begins with.
use Rattle.std.proofs.Common.{◌≡◌, ◌<◌, ℕ, zero, suc, List, [], ◌∷◌, length, take, drop, refl, arith}
use Rattle.std.specs.Prelude.{◌↔◌}
use Rattle.ty_prog.specs.declared.ty.Ty.{Ty}
use Rattle.ty_typed.specs.Parts.{Begins}

pub begins_take : (given locals : List Ty) → Begins given locals ↔ (take (length given) locals ≡ given)
begins_take [] locals = (λ h. refl, λ h. tt)
begins_take (type ∷ given) [] = (λ h. absurd h, λ h. cc)
begins_take (type ∷ given) (local ∷ locals) =
    let rest = begins_take given locals in (
      λ h. let more : take (length given) locals ≡ given = rest.0 h.1 in let first : local ≡ type = h.0 in cc,
      λ h. let first : local ≡ type = cc in let more : take (length given) locals ≡ given = cc in (first, rest.1 more),
    )

pub none_left : (given rest : List Ty) (i : ℕ) → i < length given → length rest ≡ 0 → Begins (drop i given) rest → ⊥
none_left [] rest i within none h = absurd (omega arith)
none_left (type ∷ given) (local ∷ rest) i within none h = absurd (omega arith)
none_left (type ∷ given) [] zero within none h = h
none_left (type ∷ given) [] (suc i) within none h = none_left given [] i (omega arith) none h
