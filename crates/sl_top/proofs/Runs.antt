-- The code of a chain leaves its value on the operands, in one step for each instruction.
use Rattle.std.proofs.Common.{◌≡◌, ℕ, ℤ, pos, ◌+◌, ◌*◌, List, [], ◌∷◌, ◌++◌, map, length, sum_by, Some, IsSome, is_some, refl, ap, ◌∙◌, arith, append_assoc, add-zero, length-append}
use Rattle.std.proofs.lemmas.List.{append-nil}
use Rattle.std.proofs.lemmas.List.Sums.{sum_by-cons}
use Rattle.sl_num.specs.declared.int_op.IntOp.TheVariants as operations
use Rattle.sl_num.specs.Int.{int}
use Rattle.sl_top.specs.declared.operator.Operator.{Operator}
use Rattle.sl_top.specs.declared.operator.Operator.TheVariants as operator
use Rattle.ty_prog.specs.declared.event.Event.{Event}
use Rattle.sl_top.specs.declared.chain.Term.{Term}
use Rattle.sl_top.specs.declared.chain.Chain.{Chain}
use Rattle.sl_top.specs.declared.code.Instruction.{Instruction}
use Rattle.sl_top.specs.declared.code.Instruction.TheVariants.{Push, Mul, Print, Return}
use Rattle.sl_top.specs.declared.machine.Machine.{Machine}
use Rattle.sl_top.specs.Value as value
use Rattle.sl_top.specs.Value.{Product, Value, Values, IsAdditive, int_op, term, size, steps_of}
use Rattle.sl_top.specs.Code.{ProductCode, ChainCode, literal, times, product, additive, PrintsCode, ProgramCode, operation_of}
use Rattle.sl_top.specs.Machine.{machine_with, machine_at_start, after_code}
use Rattle.sl_top.specs.Trace.{printed_line}

-- from any state, and before any other code, the code leaves this value
abbrev Leaves : List Instruction → ℤ → Type 0
Leaves code v =
    (behind : List Instruction) (operands : List ℤ) (trace : List Event) (steps : ℕ) →
    after_code (code ++ behind) (machine_with operands trace steps) ≡ after_code behind (machine_with (v ∷ operands) trace (steps + length code))

-- one code behind another
leaves_then : (x y : List Instruction) (v w : ℤ) (behind : List Instruction) (operands : List ℤ) (trace : List Event) (steps : ℕ) → Leaves x v → Leaves y w → after_code ((x ++ y) ++ behind) (machine_with operands trace steps) ≡ after_code behind (machine_with (w ∷ v ∷ operands) trace (steps + length (x ++ y)))
leaves_then x y v w behind operands trace steps f g =
    ap (λ c. after_code c (machine_with operands trace steps)) (append_assoc x y behind)
    ∙ f (y ++ behind) operands trace steps
    ∙ g behind (v ∷ operands) trace (steps + length x)
    ∙ ap (λ n. after_code behind (machine_with (w ∷ v ∷ operands) trace n)) (omega (arith, length-append x y))

-- an operation on what two codes leave
leaves_operation : (x y : List Instruction) (op : Operator) (v w : ℤ) → Leaves x v → Leaves y w → Leaves (x ++ (y ++ operation_of op ∷ [])) (int (int_op op) v w)
leaves_operation x y op v w f g behind operands trace steps =
    let joined : (x ++ (y ++ operation_of op ∷ [])) ++ behind ≡ (x ++ y) ++ (operation_of op ∷ behind) = simp append_assoc in
    let counted : steps + length (x ++ y) + 1 ≡ steps + length (x ++ (y ++ operation_of op ∷ [])) = omega (arith, length-append x y, length-append x (y ++ operation_of op ∷ []), length-append y (operation_of op ∷ [])) in
    ap (λ c. after_code c (machine_with operands trace steps)) joined
    ∙ leaves_then x y v w (operation_of op ∷ behind) operands trace steps f g
    ∙ operation op v w behind operands trace (steps + length (x ++ y))
    ∙ ap (λ n. after_code behind (machine_with (int (int_op op) v w ∷ operands) trace n)) counted
  where
    operation : (op : Operator) (v w : ℤ) (behind : List Instruction) (operands : List ℤ) (trace : List Event) (steps : ℕ) → after_code (operation_of op ∷ behind) (machine_with (w ∷ v ∷ operands) trace steps) ≡ after_code behind (machine_with (int (int_op op) v w ∷ operands) trace (steps + 1))
    operation operator.Add v w behind operands trace steps = refl
    operation operator.Sub v w behind operands trace steps = refl
    operation operator.Mul v w behind operands trace steps = refl

leaves_push : (n : ℕ) → Leaves (Push (pos n) ∷ []) (pos n)
leaves_push n behind operands trace steps = refl

product_leaves : {n : ℕ} {rest : List Term} {code : List Instruction} → ProductCode n rest code → (v : ℤ) × Product n rest v × Leaves code v
product_leaves {n} literal = (pos n, value.literal, leaves_push n)
product_leaves (times before m {x = code} p) =
    let left = product_leaves p in
    (int operations.Mul left.0 (pos m), value.times before m left.1, leaves_operation code (Push (pos m) ∷ []) operator.Mul left.0 (pos m) left.2 (leaves_push m))

chain_leaves : {n : ℕ} {rest : List Term} {code : List Instruction} → ChainCode n rest code → (v : ℤ) × Value n rest v × Leaves code v
chain_leaves (product p) = let left = product_leaves p in (left.0, value.product left.1, left.2)
chain_leaves (additive before op m after x y h b a) =
    let left = chain_leaves b in
    let right = product_leaves a in
    (int (int_op op) left.0 right.0, value.additive before op m after left.0 right.0 h left.1 right.1, leaves_operation x y op left.0 right.0 left.2 right.2)

-- code that prints these values, from any state and before any other code
abbrev Prints : List Instruction → List ℤ → Type 0
Prints code vs =
    (behind : List Instruction) (trace : List Event) (steps : ℕ) →
    after_code (code ++ behind) (machine_with [] trace steps) ≡ after_code behind (machine_with [] (trace ++ map printed_line vs) (steps + length code))

-- one more chain
prints_more : (one others : List Instruction) (v : ℤ) (vs : List ℤ) → Leaves one v → Prints others vs → Prints (one ++ (Print ∷ others)) (v ∷ vs)
prints_more one others v vs f g behind trace steps =
    ap (λ c. after_code c (machine_with [] trace steps)) (append_assoc one (Print ∷ others) behind)
    ∙ f (Print ∷ (others ++ behind)) [] trace steps
    ∙ g behind (trace ++ printed_line v ∷ []) (steps + length one + 1)
    ∙ ap (λ t. after_code behind (machine_with [] t (steps + length one + 1 + length others))) (append_assoc trace (printed_line v ∷ []) (map printed_line vs))
    ∙ ap (λ n. after_code behind (machine_with [] (trace ++ map printed_line (v ∷ vs)) n)) (omega (arith, length-append one (Print ∷ others)))

code_prints : (chains : List Chain) (code : List Instruction) → PrintsCode chains code → (vs : List ℤ) × Values chains vs × Prints code vs
code_prints [] code e = ([], tt, λ behind trace steps. rw (e, append-nil trace, add-zero) refl)
code_prints (c ∷ cs) code p =
    let one = chain_leaves p.2 in
    let others = code_prints cs p.1 p.3 in
    (one.0 ∷ others.0, (one.1, others.1), rw p.4 (prints_more p.0 p.1 one.0 others.0 one.2 others.2))

-- one instruction for each part
length-ProductCode : {n : ℕ} {rest : List Term} {code : List Instruction} → ProductCode n rest code → length code ≡ 1 + 2 * length rest
length-ProductCode literal = refl
length-ProductCode (times before m {x = code} p) = omega (arith, length-ProductCode p, length-append code (Push (pos m) ∷ Mul ∷ []), length-append before (term operator.Mul m ∷ []))

length-ChainCode : {n : ℕ} {rest : List Term} {code : List Instruction} → ChainCode n rest code → length code ≡ 1 + 2 * length rest
length-ChainCode (product p) = length-ProductCode p
length-ChainCode (additive before op m after x y h b a) = omega (arith, length-ChainCode b, length-ProductCode a, length-append x (y ++ operation_of op ∷ []), length-append y (operation_of op ∷ []), length-append before (term op m ∷ after))

length-PrintsCode : (chains : List Chain) (code : List Instruction) → PrintsCode chains code → length code ≡ sum_by (λ c. size c + 1) chains
length-PrintsCode [] code e = ap length e
length-PrintsCode (c ∷ cs) code p = omega (arith, sum_by-cons (λ d. size d + 1) c cs, ap length p.4, length-append p.0 (Print ∷ p.1), length-ChainCode p.2, length-PrintsCode cs p.1 p.3)

-- what the code of the chains leaves
record Ends (chains : List Chain) (code : List Instruction) : Type 0 where
  values : List ℤ
  are_values : Values chains values
  end : after_code code machine_at_start ≡ Some (machine_with [] (map printed_line values) (steps_of chains))

pub length-ProgramCode : (chains : List Chain) (code : List Instruction) → ProgramCode chains code → length code ≡ steps_of chains
length-ProgramCode chains code p = omega (arith, ap length p.2, length-append p.0 (Return ∷ []), length-PrintsCode chains p.0 p.1)

ends : (chains : List Chain) (code : List Instruction) → ProgramCode chains code → Ends chains code
ends chains code p =
    let run = code_prints chains p.0 p.1 in
    let counted : 0 + length p.0 + 1 ≡ steps_of chains = omega (arith, length-PrintsCode chains p.0 p.1) in
    record {
      values = run.0;
      are_values = run.1;
      end = ap (λ c. after_code c machine_at_start) p.2 ∙ run.2 (Return ∷ []) [] 0 ∙ ap (λ n. Some (machine_with [] (map printed_line run.0) n)) counted;
    }

-- no operand is missing, nor is the Return
pub program_returns : (chains : List Chain) (code : List Instruction) → ProgramCode chains code → IsSome (after_code code machine_at_start)
program_returns chains code p = ap is_some (ends chains code p).end

-- the machine that the code leads to has printed the values, in so many steps
pub program_prints : (chains : List Chain) (code : List Instruction) (m : Machine) → ProgramCode chains code → after_code code machine_at_start ≡ Some m → (values : List ℤ) × Values chains values × (m.trace ≡ map printed_line values)
program_prints chains code m p is = let e = ends chains code p in let f = e.end in (e.values, e.are_values, cc)

pub program_counts : (chains : List Chain) (code : List Instruction) (m : Machine) → ProgramCode chains code → after_code code machine_at_start ≡ Some m → m.steps ≡ steps_of chains
program_counts chains code m p is = let e = ends chains code p in let f = e.end in cc
