-- A node of the same form over parts that take no more takes no more, as more lowerings are done.
use Rattle.std.proofs.Common.{◌≡◌, ◌≤◌, ℕ, Bool, true, false, nat_eq, if◌then◌else◌, Option, Some, None, refl, arith}
use Rattle.ty_prog.specs.declared.catch.Catch.TheOpen.{Expr-F, Catch-F, Pattern-F, Case-F}
use Rattle.ty_room.specs.declared.ahead.Ahead.{Ahead}
use Rattle.ty_room.specs.declared.size.Size.{Size}
use Rattle.ty_room.specs.Numbers.{form, local_bytes, get_numbers, put_numbers, handler_bytes, FINALLY_BYTES}
use Rattle.ty_room.specs.Sizing.{nothing, beside, with_handler, with_finally, handler_step, expr_step, pattern_step, case_step}
use Rattle.ty_room.specs.NoMore.{NoMore, Part, low_expr, high_expr, low_handler, high_handler, low_pattern, high_pattern, low_case, high_case}
use Rattle.ty_room.proofs.Monotone.{itself, FewerOf, same_numbers, node_no_more, beside_no_more, merged_no_more, together_no_more, statements_no_more, closed_no_more, choice_no_more, loop_size_no_more, heavier_no_more, trying_no_more, deciding_size_no_more, make_size_no_more}

-- more lowerings are done
pub record Later (low high : Ahead) : Type 0 where
  pub traits : low.traits ≡ true → high.traits ≡ true
  pub matches : low.matches ≡ true → high.matches ≡ true

local_by : (a b first : Bool) → (a ≡ true → b ≡ true) → (if a then 4 else (if first then 1 else 4)) ≤ (if b then 4 else (if first then 1 else 4))
local_by true true first h = omega arith
local_by false true true h = omega arith
local_by false true false h = omega arith
local_by false false first h = omega arith
local_by true false first h = absurd (cc (h refl))

handler_by : (a b : Bool) → (a ≡ true → b ≡ true) → (if a then 13 else 7) ≤ (if b then 13 else 7)
handler_by true true h = omega arith
handler_by false true h = omega arith
handler_by false false h = omega arith
handler_by true false h = absurd (cc (h refl))

module _ (low high : Ahead) (later : Later low high) where
  local_fewer : (local : ℕ) → FewerOf (form (local_bytes low local) 0) (form (local_bytes high local) 0)
  local_fewer local =
      let less : local_bytes low local ≤ local_bytes high local = local_by low.traits high.traits (nat_eq local 0) later.traits in
      record { bytes = less; jump = omega (arith, less); entries = omega arith; supers = omega arith; keeps = refl; more = refl }

  get_by : (a b : Bool) → (a ≡ true → b ≡ true) → FewerOf (get_numbers (record low { traits = a })) (get_numbers (record high { traits = b }))
  get_by true true h = same_numbers _
  get_by false true h = record { bytes = omega arith; jump = omega arith; entries = omega arith; supers = omega arith; keeps = refl; more = refl }
  get_by false false h = same_numbers _
  get_by true false h = absurd (cc (h refl))

  put_by : (a b : Bool) → (a ≡ true → b ≡ true) → FewerOf (put_numbers (record low { traits = a })) (put_numbers (record high { traits = b }))
  put_by true true h = same_numbers _
  put_by false true h = record { bytes = omega arith; jump = omega arith; entries = omega arith; supers = omega arith; keeps = refl; more = refl }
  put_by false false h = same_numbers _
  put_by true false h = absurd (cc (h refl))

  one : (part : Part) → NoMore (beside nothing part.low) (beside nothing part.high)
  one part = beside_no_more (itself nothing) part.no_more

  handled : {a a' : Size} → NoMore a a' → (handler : Part) → NoMore (with_handler low a (Some handler.low)) (with_handler high a' (Some handler.high))
  handled x handler = heavier_no_more (handler_bytes low) (handler_bytes high) (handler_by low.matches high.matches later.matches) (merged_no_more x handler.no_more)

  finished : {a a' : Size} → NoMore a a' → (last : Part) → NoMore (with_finally a (Some last.low)) (with_finally a' (Some last.high))
  finished x last = heavier_no_more FINALLY_BYTES FINALLY_BYTES (omega arith) (beside_no_more x last.no_more)

  pub expr_no_more : (level : Expr-F Part Part Part Part) → NoMore (expr_step low (low_expr level)) (expr_step high (high_expr level))
  expr_no_more (Expr-F.Int n) = itself _
  expr_no_more (Expr-F.Long n) = itself _
  expr_no_more (Expr-F.Bool b) = itself _
  expr_no_more (Expr-F.Text text) = itself _
  expr_no_more Expr-F.Null = itself _
  expr_no_more Expr-F.Unit = itself _
  expr_no_more (Expr-F.Local local) = node_no_more (local_fewer local) (itself nothing)
  expr_no_more (Expr-F.SetLocal local of) = node_no_more (same_numbers _) (one of)
  expr_no_more Expr-F.This = itself _
  expr_no_more (Expr-F.Get of class field) = node_no_more (get_by low.traits high.traits later.traits) (one of)
  expr_no_more (Expr-F.Put of class field value) = node_no_more (put_by low.traits high.traits later.traits) (beside_no_more (one of) value.no_more)
  expr_no_more (Expr-F.Call of class method args) = node_no_more (same_numbers _) (merged_no_more (one of) (together_no_more args))
  expr_no_more (Expr-F.New class args) = node_no_more (same_numbers _) (together_no_more args)
  expr_no_more (Expr-F.Prim op args) = node_no_more (same_numbers _) (together_no_more args)
  expr_no_more (Expr-F.Convert to of) = node_no_more (same_numbers _) (one of)
  expr_no_more (Expr-F.Equal a b) = node_no_more (same_numbers _) (beside_no_more (one a) b.no_more)
  expr_no_more (Expr-F.TextOf of) = node_no_more (same_numbers _) (one of)
  expr_no_more (Expr-F.Println None) = itself _
  expr_no_more (Expr-F.Println (Some of)) = node_no_more (same_numbers _) (one of)
  expr_no_more (Expr-F.If c a b) = choice_no_more c.no_more a.no_more b.no_more
  expr_no_more (Expr-F.While c b) = loop_size_no_more c.no_more b.no_more
  expr_no_more (Expr-F.Block es) = closed_no_more (statements_no_more es)
  expr_no_more (Expr-F.Try body None None) = trying_no_more (one body)
  expr_no_more (Expr-F.Try body (Some handler) None) = trying_no_more (handled (one body) handler)
  expr_no_more (Expr-F.Try body None (Some last)) = trying_no_more (finished (one body) last)
  expr_no_more (Expr-F.Try body (Some handler) (Some last)) = trying_no_more (finished (handled (one body) handler) last)
  expr_no_more (Expr-F.Throw of) = node_no_more (same_numbers _) (one of)
  expr_no_more (Expr-F.Start of) = node_no_more (same_numbers _) (one of)
  expr_no_more (Expr-F.Match of cases) = node_no_more (same_numbers _) (merged_no_more (one of) (together_no_more cases))
  expr_no_more (Expr-F.LazyGet of class cell) = node_no_more (same_numbers _) (one of)
  expr_no_more (Expr-F.ObjectGet class) = itself _
  expr_no_more (Expr-F.SuperCall after name args) = node_no_more (same_numbers _) (together_no_more args)
  expr_no_more (Expr-F.Test of test) = node_no_more (same_numbers _) (one of)
  expr_no_more (Expr-F.Cas of class field old new) = node_no_more (same_numbers _) (beside_no_more (beside_no_more (one of) old.no_more) new.no_more)
  expr_no_more (Expr-F.NewLatch of) = node_no_more (same_numbers _) (one of)
  expr_no_more (Expr-F.OwnedHere of) = node_no_more (same_numbers _) (one of)
  expr_no_more (Expr-F.Await of) = node_no_more (same_numbers _) (one of)
  expr_no_more (Expr-F.CountDown of) = node_no_more (same_numbers _) (one of)
  expr_no_more (Expr-F.StaticCall class method args) = node_no_more (same_numbers _) (together_no_more args)
  expr_no_more (Expr-F.ModuleGet class) = itself _
  expr_no_more (Expr-F.SetModule class of) = node_no_more (same_numbers _) (one of)

pub handler_no_more : (level : Catch-F Part Part Part Part) → NoMore (handler_step (low_handler level)) (handler_step (high_handler level))
handler_no_more (Catch-F.Cases cases) = together_no_more cases
handler_no_more (Catch-F.«Catch::Any» local body) = beside_no_more (itself nothing) body.no_more

pub pattern_no_more : (level : Pattern-F Part Part Part Part) → NoMore (pattern_step (low_pattern level)) (pattern_step (high_pattern level))
pattern_no_more Pattern-F.«Pattern::Any» = itself _
pattern_no_more (Pattern-F.Bind local p) = node_no_more (same_numbers _) (beside_no_more (itself nothing) p.no_more)
pattern_no_more (Pattern-F.OfType type) = itself _
pattern_no_more (Pattern-F.Literal e) = node_no_more (same_numbers _) (beside_no_more (itself nothing) e.no_more)
pattern_no_more (Pattern-F.Object class) = itself _
pattern_no_more (Pattern-F.Make class parts) = make_size_no_more (together_no_more parts)
pattern_no_more (Pattern-F.Either parts) = node_no_more (same_numbers _) (together_no_more parts)

guarded_no_more : (pattern body : Part) (guard : Option Part)
    → NoMore (case_step (low_case (record { pattern = pattern; guard = guard; body = body }))) (case_step (high_case (record { pattern = pattern; guard = guard; body = body })))
guarded_no_more pattern body None = node_no_more (same_numbers _) (beside_no_more (beside_no_more (itself nothing) pattern.no_more) body.no_more)
guarded_no_more pattern body (Some guard) =
    node_no_more (same_numbers _) (beside_no_more (beside_no_more (beside_no_more (itself nothing) pattern.no_more) (deciding_size_no_more guard.no_more)) body.no_more)

pub case_no_more : (level : Case-F Part Part Part Part) → NoMore (case_step (low_case level)) (case_step (high_case level))
case_no_more level = guarded_no_more level.pattern level.body level.guard
