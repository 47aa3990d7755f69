-- Whether an infix expression ends in a bare `new`, by its last operand.
use Rattle.std.proofs.Common.{◌≡◌, Bool, List, Option, Some, None, length, refl, ap, ◌∙◌}
use Rattle.std.specs.Prelude.{◌-◌, map, slice_get, option_map}
use Rattle.std.proofs.lemmas.List.{length-map}
use Rattle.std.proofs.lemmas.Option.{slice_get-map}
use Rattle.sl_ast.specs.declared.infix.Infix.{Infix, out-Infix}
use Rattle.sl_ast.specs.declared.infix.Operation.{Operation, out-Operation}
use Rattle.sl_ast.specs.declared.args.Args.TheFolds.{fold-Operation, fold_out-Infix, fold_out-Operation}
use Rattle.sl_parse_expr.specs.LastNew.{bool_or, last_or, args_step, stat_step, expr_step, head_step, suffix_step, par_args_step, block_step, case_step, cases_step, infix_step, operation_step, prefix_step, simple_step, infix_ends_in_new, prefix_ends_in_new}

last_of_map : {A : Type 0} (f : A → Bool) (b : Bool) (xs : List A) → last_or b (map f xs) ≡ bool_or b (option_map f (slice_get xs (length xs - 1)))
last_of_map f b xs = rw (length-map xs f) (rw (slice_get-map f xs (length xs - 1)) refl)

abbrev last_operation : Infix → Option Operation
last_operation t = slice_get (out-Infix t).rest (length (out-Infix t).rest - 1)

abbrev operation_ends : Operation → Bool
operation_ends = fold-Operation Bool Bool Bool Bool Bool Bool Bool Bool Bool Bool Bool Bool Bool args_step stat_step expr_step head_step suffix_step par_args_step block_step case_step cases_step infix_step operation_step prefix_step simple_step

by_last : (t : Infix) → infix_ends_in_new t ≡ bool_or (prefix_ends_in_new (out-Infix t).first) (option_map operation_ends (last_operation t))
unfolding infix_ends_in_new prefix_ends_in_new
by_last t = fold_out-Infix Bool Bool Bool Bool Bool Bool Bool Bool Bool Bool Bool Bool Bool args_step stat_step expr_step head_step suffix_step par_args_step block_step case_step cases_step infix_step operation_step prefix_step simple_step t ∙ last_of_map operation_ends (prefix_ends_in_new (out-Infix t).first) (out-Infix t).rest

pub some_last : (t : Infix) (x : Operation) → last_operation t ≡ Some x → infix_ends_in_new t ≡ prefix_ends_in_new (out-Operation x).operand
unfolding prefix_ends_in_new
some_last t x h = by_last t ∙ ap (λ (o : Option Operation). bool_or (prefix_ends_in_new (out-Infix t).first) (option_map operation_ends o)) h
    ∙ fold_out-Operation Bool Bool Bool Bool Bool Bool Bool Bool Bool Bool Bool Bool Bool args_step stat_step expr_step head_step suffix_step par_args_step block_step case_step cases_step infix_step operation_step prefix_step simple_step x

pub no_last : (t : Infix) → last_operation t ≡ None → infix_ends_in_new t ≡ prefix_ends_in_new (out-Infix t).first
no_last t h = by_last t ∙ ap (λ (o : Option Operation). bool_or (prefix_ends_in_new (out-Infix t).first) (option_map operation_ends o)) h
