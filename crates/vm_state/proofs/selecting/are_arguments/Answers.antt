use Rattle.std.proofs.Common.{◌≡◌, ◌-◌, ◌∷◌, ◌&&◌, suc, false, drop, length, get_or, sym, ap, ◌∙◌, arith, drop-cons}
use Rattle.std.specs.Prelude.{slice_get}
use Rattle.cf_link.specs.declared.value_kind.ValueKind.TheVariants.{Int}
use Rattle.vm_state.specs.Methods.{are_arguments, is_of}
use Rattle.vm_state.proofs.selecting.are_arguments.Goals as goal

pub returns-then-not-is_of : goal.returns-then-not-is_of
returns-then-not-is_of c =
    let kinds = c.args.kinds.now in
    let vs = c.args.stack.now.values in
    let i = c.loop-kind.kind-index in
    let kind = get_or kinds i Int in
    let at : drop i kinds ≡ kind ∷ drop (suc i) kinds = drop-cons kinds i Int c.loop-kind-test.true in
    let left : c.loop-kind.left - 1 ≡ length (drop (suc i) kinds) = omega (arith, c.loop-kind.invariant.left, ap length at) in
    let no : is_of kind (slice_get vs (length (drop (suc i) kinds))) ≡ false = ap (λ n. is_of kind (slice_get vs n)) (sym left) ∙ ap (is_of kind) (sym c.get.ensures) ∙ sym c.is_of.ensures ∙ c.if-not-is_of.true in
    sym (ap (λ b. b && are_arguments (drop (suc i) kinds) vs) no) ∙ ap (λ l. are_arguments l vs) (sym at) ∙ c.loop-kind.invariant.so_far
