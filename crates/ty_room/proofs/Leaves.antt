-- Forms of one node, and the parts of a constructor.
use Rattle.std.proofs.Common.{◌≡◌, ◌≤◌, ◌+◌, ◌*◌, ℕ, nat_eq, if◌then◌else◌, List, [], ◌∷◌, length, refl, sym, subst, arith}
use Rattle.std.specs.List.{AllByRecursion}
use Rattle.ty_room.specs.declared.size.Size.{Size}
use Rattle.ty_room.specs.Numbers.{making, operation, kept_bytes}
use Rattle.ty_room.specs.Sizing.{nothing, beside, merged, together, keeping, node_size, bool_size}
use Rattle.ty_room.specs.Forms.{this}
use Rattle.ty_room.specs.Source.{all_nodes, ExprWorth, AllWorth, leaves, superclass_args, field_set, dropped}
use Rattle.ty_room.proofs.FormsWorth.{Operands, operands, keeping_most}

pub all_leaves : (local : ℕ) → AllByRecursion (ExprWorth 1) (leaves local)
unfolding beside merged node_size bool_size
all_leaves local =
    (record { bytes = omega arith; test = omega arith; entries = omega arith }, (record { bytes = omega arith; test = omega arith; entries = omega arith }, (record { bytes = omega arith; test = omega arith; entries = omega arith }, (record { bytes = omega arith; test = omega arith; entries = omega arith }, (record { bytes = omega arith; test = omega arith; entries = omega arith }, (record { bytes = omega arith; test = omega arith; entries = omega arith }, (record { bytes = omega arith; test = omega arith; entries = omega arith }, (record { bytes = omega arith; test = omega arith; entries = omega arith }, (record { bytes = omega arith; test = omega arith; entries = omega arith }, (record { bytes = omega arith; test = omega arith; entries = omega arith }, (record { bytes = omega arith; test = omega arith; entries = omega arith }, (record { bytes = omega arith; test = omega arith; entries = omega arith }, (record { bytes = omega arith; test = omega arith; entries = omega arith }, (record { bytes = omega arith; test = omega arith; entries = omega arith }, (record { bytes = omega arith; test = omega arith; entries = omega arith }, (record { bytes = omega arith; test = omega arith; entries = omega arith }, tt))))))))))))))))

superclass_by : (nodes count : ℕ) (args : Size) → Operands nodes count args → 1 ≤ count → (node_size (making 4 0 0) args).value ≤ 31 * (nodes + 1)
unfolding node_size
superclass_by nodes count args h some = omega (arith, keeping_most (making 4 0 0) args, h.bytes, h.kept, some)

pub a_superclass : (n : ℕ) (e : Size) (ns : List ℕ) (args : List Size) → ExprWorth n e → AllWorth ExprWorth ns args
    → (superclass_args (e ∷ args)).value ≤ 31 * (n + all_nodes ns + 1)
a_superclass n e ns args x h = superclass_by (all_nodes (n ∷ ns)) (length (e ∷ args)) (together (e ∷ args)) (operands (n ∷ ns) (e ∷ args) (x, h)) (omega arith)

pub all_dropped : (ns : List ℕ) (es : List Size) → AllWorth ExprWorth ns es → dropped es ≤ 31 * all_nodes ns
all_dropped [] [] h = omega arith
all_dropped (n ∷ ns) (e ∷ es) h = omega (arith, h.0.bytes, all_dropped ns es h.1)
all_dropped [] (e ∷ es) h = elim h [ ]
all_dropped (n ∷ ns) [] h = elim h [ ]

nothing_kept : (e : Size) → e.tries ≡ 0 → keeping (operation 6 4) (beside (beside nothing this) e) ≡ 0
unfolding beside node_size
nothing_kept e none = subst (λ t. (if nat_eq (0 + t) 0 then 0 else kept_bytes 16) ≡ 0) (sym none) refl

pub a_field : (n : ℕ) (e : Size) → ExprWorth n e → e.tries ≡ 0 → (field_set e).value + 1 ≤ 31 * n
unfolding beside node_size
a_field n e x none = omega (arith, nothing_kept e none, x.bytes)
