-- UTF-16 units of a text that grows.
use Rattle.std.proofs.Common.{◌≡◌, ℕ, ◌+◌, List, [], ◌∷◌, ◌++◌, ap, ◌∙◌, arith}
use Rattle.std.specs.Prelude.{nat_lt, if◌then◌else◌}
use Rattle.vm_state.specs.Natives.{code_units}

width_push : (w n m : ℕ) → w + (n + m) ≡ (w + n) + m
width_push w n m = omega arith

pub code_units_push : (cs : List ℕ) (c : ℕ) → code_units (cs ++ c ∷ []) ≡ code_units cs + (if nat_lt c 65536 then 1 else 2)
code_units_push [] c = omega arith
code_units_push (x ∷ cs) c =
    ap (λ n. (if nat_lt x 65536 then 1 else 2) + n) (code_units_push cs c)
    ∙ width_push (if nat_lt x 65536 then 1 else 2) (code_units cs) (if nat_lt c 65536 then 1 else 2)
