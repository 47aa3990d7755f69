-- Operands as arguments, from the earliest on.
use Rattle.std.proofs.Common.{◌≡◌, ℕ, zero, suc, ◌+◌, List, [], ◌∷◌, ◌++◌, ◌-◌, ◌<◌, take, reverse, map, Option, Some, None, refl, sym, ap, ◌∙◌, arith}
use Rattle.std.specs.Prelude.{slice_get, option_to_list, nat_lt, if◌then◌else◌}
use Rattle.std.proofs.lemmas.Grind.{reverse_onto}
use Rattle.std.proofs.lemmas.List.{reverse-append, append_assoc}
use Rattle.sm_state.specs.declared.value.Value.{Value}
use Rattle.sm_rule.specs.Moves.{arguments}
use Rattle.sm_decide.specs.Forms.{pushed}
use Rattle.sm_rule.specs.Values.{computed, units}
use Rattle.sm_rule.specs.declared.moves.Move.TheVariants as move
use Rattle.ty_prog.specs.declared.prim_op.PrimOp.{PrimOp}

take_more : {A : Type 0} (xs : List A) (k : ℕ) (x : A) → slice_get xs k ≡ Some x → take (suc k) xs ≡ take k xs ++ x ∷ []
take_more [] k x is = absurd (cc)
take_more (y ∷ ys) zero x is = ap (λ z. z ∷ []) (cc)
take_more (y ∷ ys) (suc k) x is = ap (λ l. y ∷ l) (take_more ys k x is)

pub take_none : {A : Type 0} (xs : List A) (k : ℕ) → slice_get xs k ≡ None → take (suc k) xs ≡ take k xs
take_none [] zero is = refl
take_none [] (suc k) is = refl
take_none (y ∷ ys) zero is = absurd (cc)
take_none (y ∷ ys) (suc k) is = ap (λ l. y ∷ l) (take_none ys k is)

-- one operand more comes first
pub arguments_more : (v : Value) (operands : List Value) (k : ℕ) (x : Value) → slice_get operands k ≡ Some x → arguments v (take (suc k) operands) ≡ Some x ∷ arguments v (take k operands)
arguments_more v operands k x is =
    ap (λ l. map Some (reverse (v ∷ l))) (take_more operands k x is)
    ∙ ap (map Some) (reverse-append (v ∷ take k operands) (x ∷ []))

pub arguments_none : (v : Value) (operands : List Value) (k : ℕ) → slice_get operands k ≡ None → arguments v (take (suc k) operands) ≡ arguments v (take k operands)
arguments_none v operands k is = ap (arguments v) (take_none operands k is)

-- the steps of a loop over operands, from the earliest one on
pub arguments_step : (v : Value) (operands : List Value) (made whole : List (Option Value)) (left : ℕ) (x : Value) → 0 < left → slice_get operands (left - 1) ≡ Some x → made ++ arguments v (take left operands) ≡ whole → (made ++ Some x ∷ []) ++ arguments v (take (left - 1) operands) ≡ whole
arguments_step v operands made whole left x some is was =
    let count : suc (left - 1) ≡ left = omega arith in
    append_assoc made (Some x ∷ []) (arguments v (take (left - 1) operands))
    ∙ ap (λ l. made ++ l) (sym (arguments_more v operands (left - 1) x is))
    ∙ ap (λ n. made ++ arguments v (take n operands)) count
    ∙ was

pub arguments_skip : (v : Value) (operands : List Value) (made whole : List (Option Value)) (left : ℕ) → 0 < left → slice_get operands (left - 1) ≡ None → made ++ arguments v (take left operands) ≡ whole → made ++ arguments v (take (left - 1) operands) ≡ whole
arguments_skip v operands made whole left some is was =
    let count : suc (left - 1) ≡ left = omega arith in
    ap (λ l. made ++ l) (sym (arguments_none v operands (left - 1) is))
    ∙ ap (λ n. made ++ arguments v (take n operands)) count
    ∙ was

some_reverse : (operands : List Value) (k : ℕ) (x : Value) → slice_get operands k ≡ Some x → map Some (reverse (take (suc k) operands)) ≡ Some x ∷ map Some (reverse (take k operands))
some_reverse operands k x is =
    ap (λ l. map Some (reverse l)) (take_more operands k x is)
    ∙ ap (map Some) (reverse-append (take k operands) (x ∷ []))

pub reverse_step : (operands : List Value) (made whole : List (Option Value)) (left : ℕ) (x : Value) → 0 < left → slice_get operands (left - 1) ≡ Some x → made ++ map Some (reverse (take left operands)) ≡ whole → (made ++ Some x ∷ []) ++ map Some (reverse (take (left - 1) operands)) ≡ whole
reverse_step operands made whole left x some is was =
    let count : suc (left - 1) ≡ left = omega arith in
    append_assoc made (Some x ∷ []) (map Some (reverse (take (left - 1) operands)))
    ∙ ap (λ l. made ++ l) (sym (some_reverse operands (left - 1) x is))
    ∙ ap (λ n. made ++ map Some (reverse (take n operands))) count
    ∙ was

pub reverse_skip : (operands : List Value) (made whole : List (Option Value)) (left : ℕ) → 0 < left → slice_get operands (left - 1) ≡ None → made ++ map Some (reverse (take left operands)) ≡ whole → made ++ map Some (reverse (take (left - 1) operands)) ≡ whole
reverse_skip operands made whole left some is was =
    let count : suc (left - 1) ≡ left = omega arith in
    ap (λ l. made ++ map Some (reverse l)) (sym (take_none operands (left - 1) is))
    ∙ ap (λ n. made ++ map Some (reverse (take n operands))) count
    ∙ was

-- an operator with three operands or more is stuck, and one with fewer has them all
pub many_computed : (o : PrimOp) (v : Value) (operands : List Value) (child : ℕ) (b : Value) → 1 < child → slice_get operands 1 ≡ Some b → computed o v (take child operands) ≡ move.Stuck
many_computed o v [] child b lt is = absurd (cc)
many_computed o v (a ∷ []) child b lt is = absurd (cc)
many_computed o v (a ∷ c ∷ operands) zero b lt is = absurd (omega arith)
many_computed o v (a ∷ c ∷ operands) (suc zero) b lt is = absurd (omega arith)
many_computed o v (a ∷ c ∷ operands) (suc (suc k)) b lt is = refl

pub few_computed : (o : PrimOp) (v : Value) (operands : List Value) (child : ℕ) → 1 < child → slice_get operands 1 ≡ None → computed o v (take child operands) ≡ computed o v (take 1 operands)
few_computed o v [] zero lt is = absurd (omega arith)
few_computed o v [] (suc k) lt is = refl
few_computed o v (a ∷ []) zero lt is = absurd (omega arith)
few_computed o v (a ∷ []) (suc zero) lt is = refl
few_computed o v (a ∷ []) (suc (suc k)) lt is = refl
few_computed o v (a ∷ c ∷ operands) child lt is = absurd (cc)

-- the same where an operand may lack
arguments_pushed_in : (v : Value) (operands : List Value) (made whole : List (Option Value)) (left : ℕ) (o : Option Value) → 0 < left → slice_get operands (left - 1) ≡ o → made ++ arguments v (take left operands) ≡ whole → pushed made o ++ arguments v (take (left - 1) operands) ≡ whole
arguments_pushed_in v operands made whole left None some is was = arguments_skip v operands made whole left some is was
arguments_pushed_in v operands made whole left (Some x) some is was = arguments_step v operands made whole left x some is was

pub arguments_pushed : (v : Value) (operands : List Value) (made whole : List (Option Value)) (left : ℕ) → 0 < left → made ++ arguments v (take left operands) ≡ whole → pushed made (slice_get operands (left - 1)) ++ arguments v (take (left - 1) operands) ≡ whole
arguments_pushed v operands made whole left some was = arguments_pushed_in v operands made whole left (slice_get operands (left - 1)) some refl was

reverse_pushed_in : (operands : List Value) (made whole : List (Option Value)) (left : ℕ) (o : Option Value) → 0 < left → slice_get operands (left - 1) ≡ o → made ++ map Some (reverse (take left operands)) ≡ whole → pushed made o ++ map Some (reverse (take (left - 1) operands)) ≡ whole
reverse_pushed_in operands made whole left None some is was = reverse_skip operands made whole left some is was
reverse_pushed_in operands made whole left (Some x) some is was = reverse_step operands made whole left x some is was

pub reverse_pushed : (operands : List Value) (made whole : List (Option Value)) (left : ℕ) → 0 < left → made ++ map Some (reverse (take left operands)) ≡ whole → pushed made (slice_get operands (left - 1)) ++ map Some (reverse (take (left - 1) operands)) ≡ whole
reverse_pushed operands made whole left some was = reverse_pushed_in operands made whole left (slice_get operands (left - 1)) some refl was

-- one character more
width_push : (w n m : ℕ) → w + (n + m) ≡ (w + n) + m
width_push w n m = omega arith

pub units_push : (cs : List ℕ) (c : ℕ) → units (cs ++ c ∷ []) ≡ units cs + (if nat_lt c 65536 then 1 else 2)
units_push [] c = omega arith
units_push (x ∷ cs) c =
    ap (λ n. (if nat_lt x 65536 then 1 else 2) + n) (units_push cs c)
    ∙ width_push (if nat_lt x 65536 then 1 else 2) (units cs) (if nat_lt c 65536 then 1 else 2)

-- the one operand before the last, if there is one
pub one_taken : (operands : List Value) → take 1 operands ≡ option_to_list (slice_get operands 0)
one_taken [] = refl
one_taken (a ∷ operands) = refl
