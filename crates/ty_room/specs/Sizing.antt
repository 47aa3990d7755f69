-- What a tree takes in a class file, at most: bytes of code where its value is wanted, bytes where it decides a branch,
-- and entries of a constant pool. A fold over the tree: the numbers of each form, and the sizes of its parts.
use Rattle.std.specs.Prelude.{ℕ, ◌+◌, min, Bool, true, false, if◌then◌else◌, nat_eq, List, Option, Some, None, fold, map}
use Rattle.ty_prog.specs.declared.expr.Expr.{Expr}
use Rattle.ty_prog.specs.declared.case.Case.{Case}
use Rattle.ty_prog.specs.declared.pattern.Pattern.{Pattern}
use Rattle.ty_prog.specs.declared.catch.Catch.{Catch}
use Rattle.ty_prog.specs.declared.catch.Catch.TheOpen.{Expr-F, Catch-F, Pattern-F, Case-F}
use Rattle.ty_prog.specs.declared.catch.Catch.TheFolds.{fold-Expr, fold-Case, fold-Pattern, fold-Catch}
use Rattle.ty_prog.specs.Tree.{Tree, ExprTree, CaseTree, PatternTree, ConstructorTree, StageTree}
use Rattle.ty_room.specs.declared.ahead.Ahead.{Ahead}
use Rattle.ty_room.specs.declared.numbers.Numbers.{Numbers}
use Rattle.ty_room.specs.declared.size.Size.{Size}
use Rattle.ty_room.specs.Numbers.{form, operation, deciding, making, operator_numbers, convert_bytes, local_bytes, kept_bytes, get_numbers, put_numbers, handler_bytes, FINALLY_BYTES, CASE_BYTES, MADE_BYTES}

-- no parts
abbrev pub nothing : Size
nothing = record { value = 0; test = 0; fixed = None; tries = 0; kept = 0; entries = 0; supers = 0 }

-- some parts, and one more; to keep it in a local, and load it, takes eight bytes
unfoldable pub beside : Size → Size → Size
beside parts part = record {
  value = parts.value + part.value;
  test = parts.test + part.test;
  fixed = None;
  tries = parts.tries + part.tries;
  kept = parts.kept + 8;
  entries = parts.entries + part.entries;
  supers = parts.supers + part.supers;
}

-- two lots of parts
unfoldable pub merged : Size → Size → Size
merged parts others = record {
  value = parts.value + others.value;
  test = parts.test + others.test;
  fixed = None;
  tries = parts.tries + others.tries;
  kept = parts.kept + others.kept;
  entries = parts.entries + others.entries;
  supers = parts.supers + others.supers;
}

-- all parts
abbrev pub together : List Size → Size
together = fold beside nothing

-- what it takes to keep operands in locals: a handler clears the operand stack (JVMS 2.10)
abbrev pub keeping : Numbers → Size → ℕ
keeping form parts = if form.keeps then (if nat_eq parts.tries 0 then 0 else kept_bytes (parts.kept + form.more)) else 0

-- a form with its parts
unfoldable pub node_size : Numbers → Size → Size
node_size form parts = record {
  value = form.bytes + (keeping form parts + parts.value);
  test = form.jump + (keeping form parts + parts.value);
  fixed = None;
  tries = parts.tries;
  kept = 0;
  entries = form.entries + parts.entries;
  supers = form.supers + parts.supers;
}

-- a literal: as a test it goes on, or jumps
unfoldable pub bool_size : Bool → Size
bool_size b = record {
  value = 1;
  test = if b then 0 else 3;
  fixed = Some b;
  tries = 0;
  kept = 0;
  entries = 0;
  supers = 0;
}

-- a conditional decides a branch in place where its last part is `false` or its second is `true`, as `&&` and `||` are
-- told (SLS 6.12.3); else by its value
abbrev pub choice_test : ℕ → Size → Size → Size → Option Bool → Option Bool → ℕ
choice_test value c a b second (Some false) = c.test + a.test
choice_test value c a b (Some true) last = c.test + 3 + b.test
choice_test value c a b second last = value + 3

-- a conditional
unfoldable pub choice_size : Size → Size → Size → Size
choice_size c a b = record {
  value = c.test + a.value + b.value + 3;
  test = choice_test (c.test + a.value + b.value + 3) c a b a.fixed b.fixed;
  fixed = None;
  tries = c.tries + a.tries + b.tries;
  kept = 0;
  entries = c.entries + a.entries + b.entries;
  supers = c.supers + a.supers + b.supers;
}

-- a loop
unfoldable pub loop_size : Size → Size → Size
loop_size c b = record {
  value = c.test + b.value + 5;
  test = c.test + b.value + 8;
  fixed = None;
  tries = c.tries + b.tries;
  kept = 0;
  entries = c.entries + b.entries;
  supers = c.supers + b.supers;
}

-- some statements, and one more: where there are some, the value of the last is dropped
unfoldable pub behind : Size → Size → Size
behind statements e = record {
  value = statements.value + statements.kept + e.value;
  test = statements.value + statements.kept + e.test;
  fixed = None;
  tries = statements.tries + e.tries;
  kept = 1;
  entries = statements.entries + e.entries;
  supers = statements.supers + e.supers;
}

-- the same size of what is no literal
unfoldable pub covered : Size → Size
covered s = record {
  value = s.value;
  test = s.test;
  fixed = None;
  tries = s.tries;
  kept = 0;
  entries = s.entries;
  supers = s.supers;
}

-- some statements as a block; an empty one is `()`
abbrev pub closed : Size → Size
closed statements = if nat_eq statements.kept 0 then node_size (form 1 0) nothing else covered statements

-- a block
abbrev pub block_size : List Size → Size
block_size es = closed (fold behind nothing es)

-- so many bytes more
unfoldable pub heavier : ℕ → Size → Size
heavier bytes parts = record {
  value = parts.value + bytes;
  test = parts.test;
  fixed = None;
  tries = parts.tries;
  kept = parts.kept;
  entries = parts.entries;
  supers = parts.supers;
}

-- parts and those of a handler, if there is one
abbrev pub with_handler : Ahead → Size → Option Size → Size
with_handler ahead parts None = parts
with_handler ahead parts (Some handler) = heavier (handler_bytes ahead) (merged parts handler)

-- parts and a `finally`, if there is one
abbrev pub with_finally : Size → Option Size → Size
with_finally parts None = parts
with_finally parts (Some last) = heavier FINALLY_BYTES (beside parts last)

-- parts and one more, if there is one
abbrev pub with_optional : Size → Option Size → Size
with_optional parts None = parts
with_optional parts (Some part) = beside parts part

-- a `try` is one more
unfoldable pub trying : Size → Size
trying parts = record {
  value = parts.value;
  test = parts.value + 3;
  fixed = None;
  tries = parts.tries + 1;
  kept = 0;
  entries = parts.entries;
  supers = parts.supers;
}

-- an expression as a test
unfoldable pub deciding_size : Size → Size
deciding_size e = record {
  value = e.test;
  test = e.test;
  fixed = None;
  tries = e.tries;
  kept = 0;
  entries = e.entries;
  supers = e.supers;
}

-- parts and a guard, if there is one
abbrev pub with_guard : Size → Option Size → Size
with_guard parts None = parts
with_guard parts (Some guard) = beside parts (deciding_size guard)

-- a case
abbrev pub case_size : Size → Option Size → Size → Size
case_size pattern guard body = node_size (form CASE_BYTES 0) (beside (with_guard (beside nothing pattern) guard) body)

-- a pattern of a case class: the object is kept under its own type, or each part is read with a conversion of three
-- bytes, whatever is less
unfoldable pub make_size : Size → Size
make_size parts = record {
  value = 24 + min parts.test (parts.value + MADE_BYTES);
  test = 27 + min parts.test (parts.value + MADE_BYTES);
  fixed = None;
  tries = parts.tries;
  kept = 0;
  entries = 3 + parts.entries;
  supers = parts.supers;
}

-- the size of a handler whose parts have become sizes
abbrev pub handler_step : Catch-F Size Size Size Size → Size
handler_step (Catch-F.Cases cases) = together cases
handler_step (Catch-F.«Catch::Any» local body) = beside nothing body

-- the size of an expression whose parts have become sizes: bytes and entries of each form
abbrev pub expr_step : Ahead → Expr-F Size Size Size Size → Size
expr_step ahead (Expr-F.Int n) = node_size (form 3 1) nothing
expr_step ahead (Expr-F.Long n) = node_size (form 3 2) nothing
expr_step ahead (Expr-F.Bool b) = bool_size b
expr_step ahead (Expr-F.Text text) = node_size (form 3 2) nothing
expr_step ahead Expr-F.Null = node_size (form 1 0) nothing
expr_step ahead Expr-F.Unit = node_size (form 1 0) nothing
expr_step ahead (Expr-F.Local local) = node_size (form (local_bytes ahead local) 0) nothing
expr_step ahead (Expr-F.SetLocal local of) = node_size (form 5 0) (beside nothing of)
expr_step ahead Expr-F.This = node_size (form 1 0) nothing
expr_step ahead (Expr-F.Get of class field) = node_size (get_numbers ahead) (beside nothing of)
expr_step ahead (Expr-F.Put of class field value) = node_size (put_numbers ahead) (beside (beside nothing of) value)
expr_step ahead (Expr-F.Call of class method args) = node_size (operation 6 4) (merged (beside nothing of) (together args))
expr_step ahead (Expr-F.New class args) = node_size (making 7 3 0) (together args)
expr_step ahead (Expr-F.Prim op args) = node_size (operator_numbers op) (together args)
expr_step ahead (Expr-F.Convert to of) = node_size (form (convert_bytes to) 0) (beside nothing of)
expr_step ahead (Expr-F.Equal a b) = node_size (deciding 18 17) (beside (beside nothing a) b)
expr_step ahead (Expr-F.TextOf of) = node_size (form 10 0) (beside nothing of)
expr_step ahead (Expr-F.Println of) = node_size (form 14 0) (with_optional nothing of)
expr_step ahead (Expr-F.If c a b) = choice_size c a b
expr_step ahead (Expr-F.While c b) = loop_size c b
expr_step ahead (Expr-F.Block es) = block_size es
expr_step ahead (Expr-F.Try body handler last) = trying (with_finally (with_handler ahead (beside nothing body) handler) last)
expr_step ahead (Expr-F.Throw of) = node_size (form 1 0) (beside nothing of)
expr_step ahead (Expr-F.Start of) = node_size (form 4 0) (beside nothing of)
expr_step ahead (Expr-F.Match of cases) = node_size (form 29 3) (merged (beside nothing of) (together cases))
expr_step ahead (Expr-F.LazyGet of class cell) = node_size (operation 6 4) (beside nothing of)
expr_step ahead (Expr-F.ObjectGet class) = node_size (form 3 2) nothing
expr_step ahead (Expr-F.SuperCall after name args) = node_size (making 10 4 1) (together args)
expr_step ahead (Expr-F.Test of test) = node_size (form 3 0) (beside nothing of)
expr_step ahead (Expr-F.Cas of class field old new) = node_size (operation 6 2) (beside (beside (beside nothing of) old) new)
expr_step ahead (Expr-F.NewLatch of) = node_size (form 3 0) (beside nothing of)
expr_step ahead (Expr-F.OwnedHere of) = node_size (form 3 0) (beside nothing of)
expr_step ahead (Expr-F.Await of) = node_size (form 7 0) (beside nothing of)
expr_step ahead (Expr-F.CountDown of) = node_size (form 7 0) (beside nothing of)
expr_step ahead (Expr-F.StaticCall class method args) = node_size (operation 4 4) (together args)
expr_step ahead (Expr-F.ModuleGet class) = node_size (form 3 2) nothing
expr_step ahead (Expr-F.SetModule class of) = node_size (form 4 2) (beside nothing of)

-- a pattern, tested as a part of another: reading the part is counted with it; with a test for a type 12 bytes for what a
-- conversion to Int takes more than any other, where a variable of that type stands in front
abbrev pub pattern_step : Pattern-F Size Size Size Size → Size
pattern_step Pattern-F.«Pattern::Any» = node_size (form 0 0) nothing
pattern_step (Pattern-F.Bind local p) = node_size (form 29 3) (beside nothing p)
pattern_step (Pattern-F.OfType type) = node_size (form 25 3) nothing
pattern_step (Pattern-F.Literal e) = node_size (form 21 3) (beside nothing e)
pattern_step (Pattern-F.Object class) = node_size (form 27 5) nothing
pattern_step (Pattern-F.Make class parts) = make_size (together parts)
pattern_step (Pattern-F.Either parts) = node_size (form 17 3) (together parts)

-- a case
abbrev pub case_step : Case-F Size Size Size Size → Size
case_step c = case_size c.pattern c.guard c.body

-- the size of an expression
abbrev pub expr_size : Ahead → Expr → Size
expr_size ahead = fold-Expr Size Size Size Size handler_step (expr_step ahead) pattern_step case_step

-- the size of a case
abbrev pub case_sizes : Ahead → Case → Size
case_sizes ahead = fold-Case Size Size Size Size handler_step (expr_step ahead) pattern_step case_step

-- the size of a pattern
abbrev pub pattern_size : Ahead → Pattern → Size
pattern_size ahead = fold-Pattern Size Size Size Size handler_step (expr_step ahead) pattern_step case_step

-- the size of a handler
abbrev pub handler_size : Ahead → Catch → Size
handler_size ahead = fold-Catch Size Size Size Size handler_step (expr_step ahead) pattern_step case_step

-- the size of a tree; of a constructor and of its stages nothing, since a class counts them
abbrev pub size_of : Ahead → Tree → Size
size_of ahead (ExprTree e) = expr_size ahead e
size_of ahead (CaseTree c) = case_sizes ahead c
size_of ahead (PatternTree p) = pattern_size ahead p
size_of ahead (ConstructorTree class) = nothing
size_of ahead (StageTree stage) = nothing

-- all of some expressions
abbrev pub all_exprs : Ahead → List Expr → Size
all_exprs ahead es = together (map (expr_size ahead) es)
