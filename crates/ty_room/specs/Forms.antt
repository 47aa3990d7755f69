-- The forms of source with the trees that stand for them, and what each pass puts in place of a form, as sizes: trees in
-- which parts are given by their sizes alone. That the numbers suit is computed over these tables.
use Rattle.std.specs.Prelude.{ℕ, ◌+◌, ◌*◌, Bool, true, false, nat_le, ◌&&◌, List, [], ◌∷◌, Some, None, pos}
use Rattle.std.specs.List.{list_all}
use Rattle.ty_prog.specs.declared.catch.Catch.TheOpen.{Expr-F, Pattern-F}
use Rattle.ty_prog.specs.declared.prim_op.PrimOp.TheVariants as op
use Rattle.ty_prog.specs.declared.ty.Ty.TheVariants as ty
use Rattle.ty_prog.specs.declared.tested.Tested.TheVariants as tested
use Rattle.ty_room.specs.declared.size.Size.{Size}
use Rattle.ty_room.specs.Ahead.{ahead_of}
use Rattle.ty_room.specs.Sizing.{nothing, beside, heavier, case_size, expr_step, pattern_step}

-- a part that weighs nothing
abbrev pub plain : Size
plain = record { value = 0; test = 0; fixed = None; tries = 0; kept = 0; entries = 0; supers = 0 }

-- a part in which a `try` stands
abbrev pub trying_part : Size
trying_part = record { value = 0; test = 3; fixed = None; tries = 1; kept = 0; entries = 0; supers = 0 }

-- a level of an expression, whose parts are sizes, before the lowerings
abbrev pub tree : Expr-F Size Size Size Size → Size
tree = expr_step (ahead_of 0)

-- a level of a pattern, whose parts are sizes
abbrev pub matched : Pattern-F Size Size Size Size → Size
matched = pattern_step

-- an expression made Any; made Long it takes less
abbrev pub boxed : Size → Size
boxed e = tree (Expr-F.Convert ty.Any e)

-- `this`
abbrev pub this : Size
this = tree Expr-F.This

-- the literal `false`
abbrev pub never : Size
never = tree (Expr-F.Bool false)

-- the literal `true`
abbrev pub always : Size
always = tree (Expr-F.Bool true)

-- a local that isn't the first
abbrev pub local : Size
local = tree (Expr-F.Local 1)

-- a call of a member of an object, with arguments
abbrev pub called : Size → List Size → Size
called of args = tree (Expr-F.Call of 0 0 args)

-- `new` with arguments
abbrev pub applied : List Size → Size
applied args = tree (Expr-F.New 0 args)

-- two values joined as texts by `+`
abbrev pub joined_texts : Size → Size → Size
joined_texts a b = tree (Expr-F.Prim op.Concat (tree (Expr-F.TextOf a) ∷ tree (Expr-F.TextOf b) ∷ []))

-- a form: how many nodes of source it has, how many of its parts are expressions and how many are cases or patterns,
-- and its size
pub record Form : Type 0 where
  pub nodes : ℕ
  pub exprs : ℕ
  pub others : ℕ
  pub size : Size

-- such a form
abbrev pub row : ℕ → ℕ → ℕ → Size → Form
row nodes exprs others size = record { nodes = nodes; exprs = exprs; others = others; size = size }

-- what an expression leaves of 31 bytes for each node, at least: a part may be an operand
abbrev pub EXPR_SPARE : ℕ
EXPR_SPARE = 13

-- what a case leaves of them
abbrev pub CASE_SPARE : ℕ
CASE_SPARE = 20

-- what a pattern leaves of them
abbrev pub PATTERN_SPARE : ℕ
PATTERN_SPARE = 2

-- a form whose parts leave what they must leaves it too, and brings at most 5 entries for each node
abbrev pub fits : ℕ → ℕ → Form → Bool
fits spare other form =
    nat_le (form.size.value + spare) (31 * form.nodes + EXPR_SPARE * form.exprs + other * form.others)
    && nat_le form.size.entries (5 * form.nodes)

-- expressions with parts p
abbrev pub expressions : Size → List Form
expressions p =
    -- literals
    row 1 0 0 (boxed (tree (Expr-F.Int (pos 0)))) ∷ row 1 0 0 (boxed (tree (Expr-F.Long (pos 0)))) ∷ row 1 0 0 (boxed never)
    ∷ row 1 0 0 (tree (Expr-F.Text [])) ∷ row 1 0 0 (tree Expr-F.Null) ∷ row 1 0 0 (boxed (tree Expr-F.Unit))
    -- names: a local, a plain class parameter, a member, an object, `this`
    ∷ row 1 0 0 (boxed local) ∷ row 1 0 0 (boxed (tree (Expr-F.Get this 0 0))) ∷ row 1 0 0 (boxed (called this []))
    ∷ row 1 0 0 (tree (Expr-F.ObjectGet 0)) ∷ row 1 0 0 this
    -- selections and calls
    ∷ row 1 0 0 (boxed (tree (Expr-F.SuperCall 0 [] []))) ∷ row 2 1 0 (boxed (tree (Expr-F.SuperCall 0 [] (p ∷ []))))
    ∷ row 1 1 0 (boxed (called p [])) ∷ row 1 2 0 (boxed (called p (p ∷ []))) ∷ row 2 2 0 (boxed (called p (p ∷ [])))
    ∷ row 2 1 0 (boxed (called this (p ∷ []))) ∷ row 2 3 0 (boxed (called this (p ∷ p ∷ p ∷ [])))
    -- `new`, with a throwable of the prelude that gets null
    ∷ row 1 0 0 (applied []) ∷ row 1 0 0 (applied (tree Expr-F.Null ∷ [])) ∷ row 2 1 0 (applied (p ∷ []))
    ∷ row 2 3 0 (applied (p ∷ p ∷ p ∷ []))
    -- operators
    ∷ row 1 1 0 (boxed (tree (Expr-F.Prim op.Sub (tree (Expr-F.Long (pos 0)) ∷ p ∷ []))))
    ∷ row 1 1 0 (boxed (tree (Expr-F.Prim op.Not (p ∷ [])))) ∷ row 1 2 0 (boxed (tree (Expr-F.Prim op.Add (p ∷ p ∷ []))))
    ∷ row 1 2 0 (boxed (tree (Expr-F.Prim op.Less (p ∷ p ∷ []))))
    ∷ row 1 2 0 (tree (Expr-F.Prim op.Concat (tree (Expr-F.TextOf p) ∷ tree (Expr-F.TextOf p) ∷ [])))
    ∷ row 1 2 0 (boxed (tree (Expr-F.If p p never))) ∷ row 1 2 0 (boxed (tree (Expr-F.If p always p)))
    ∷ row 1 2 0 (boxed (tree (Expr-F.Equal p p)))
    ∷ row 1 2 0 (boxed (tree (Expr-F.Prim op.Not (tree (Expr-F.Equal p p) ∷ []))))
    ∷ row 1 2 0 (boxed (tree (Expr-F.Prim op.Not (tree (Expr-F.Prim op.Same (p ∷ p ∷ [])) ∷ []))))
    ∷ row 2 2 0 (boxed (tree (Expr-F.Prim op.Equals (p ∷ p ∷ [])))) ∷ row 1 1 0 (tree (Expr-F.Prim op.ToString (p ∷ [])))
    ∷ row 1 1 0 (tree (Expr-F.TextOf p)) ∷ row 1 1 0 (boxed (tree (Expr-F.Prim op.Length (p ∷ []))))
    -- assignments: of a local, of a member, of a member of another object; and with an operator
    ∷ row 2 1 0 (boxed (tree (Expr-F.SetLocal 0 p))) ∷ row 2 1 0 (boxed (called this (p ∷ [])))
    ∷ row 2 2 0 (boxed (called p (p ∷ [])))
    ∷ row 2 1 0 (boxed (tree (Expr-F.SetLocal 0 (tree (Expr-F.Prim op.Add (local ∷ p ∷ []))))))
    ∷ row 2 1 0 (boxed (called this (tree (Expr-F.Prim op.Add (called this [] ∷ p ∷ [])) ∷ [])))
    ∷ row 2 1 0 (boxed (tree (Expr-F.SetLocal 0 (joined_texts local p)))) ∷ row 2 1 0 (boxed (called this (joined_texts (called this []) p ∷ [])))
    ∷ row 2 2 0 (heavier 1 (boxed (tree (Expr-F.Block (tree (Expr-F.SetLocal 0 p) ∷ called local (joined_texts (called local []) p ∷ []) ∷ [])))))
    ∷ row 2 2 0 (heavier 1 (boxed (tree (Expr-F.Block (tree (Expr-F.SetLocal 0 p) ∷ called local (tree (Expr-F.Prim op.Add (called local [] ∷ p ∷ [])) ∷ []) ∷ [])))))
    -- control
    ∷ row 1 3 0 (boxed (tree (Expr-F.If p p p))) ∷ row 1 2 0 (boxed (tree (Expr-F.If p p (tree Expr-F.Unit))))
    ∷ row 1 2 0 (boxed (tree (Expr-F.While p p))) ∷ row 1 1 0 (tree (Expr-F.Try p None None))
    ∷ row 1 1 1 (tree (Expr-F.Try p (Some (beside nothing p)) None)) ∷ row 1 2 0 (tree (Expr-F.Try p None (Some p)))
    ∷ row 1 2 1 (tree (Expr-F.Try p (Some (beside nothing p)) (Some p))) ∷ row 1 1 0 (tree (Expr-F.Throw p))
    ∷ row 1 1 1 (tree (Expr-F.Match p (p ∷ []))) ∷ row 2 1 0 (boxed (tree (Expr-F.Println (Some p))))
    ∷ row 1 0 0 (boxed (tree (Expr-F.Println None))) ∷ row 2 1 0 (boxed (tree (Expr-F.Start p)))
    -- blocks, a local definition with its local, a value that is dropped
    ∷ row 1 1 0 (tree (Expr-F.Block (p ∷ []))) ∷ row 1 4 0 (tree (Expr-F.Block (p ∷ p ∷ p ∷ p ∷ [])))
    ∷ row 1 1 0 (heavier 1 (boxed (tree (Expr-F.SetLocal 0 p)))) ∷ row 1 1 0 (boxed (tree (Expr-F.Block (p ∷ tree Expr-F.Unit ∷ []))))
    ∷ []

-- patterns with parts p
abbrev pub patterns : Size → List Form
patterns p =
    row 1 0 0 (matched Pattern-F.«Pattern::Any») ∷ row 1 0 0 (matched (Pattern-F.Bind 0 (matched Pattern-F.«Pattern::Any»)))
    ∷ row 2 0 0 (matched (Pattern-F.Bind 0 (matched (Pattern-F.OfType ty.Int)))) ∷ row 2 0 0 (matched (Pattern-F.OfType ty.Int))
    ∷ row 1 0 1 (matched (Pattern-F.Bind 0 p)) ∷ row 1 0 0 (matched (Pattern-F.Literal (tree (Expr-F.Int (pos 0)))))
    ∷ row 1 0 0 (matched (Pattern-F.Literal (tree (Expr-F.Long (pos 0))))) ∷ row 1 0 0 (matched (Pattern-F.Literal (tree (Expr-F.Text []))))
    ∷ row 1 0 0 (matched (Pattern-F.Literal (tree Expr-F.Null))) ∷ row 1 0 0 (matched (Pattern-F.Object 0))
    ∷ row 1 0 0 (matched (Pattern-F.Make 0 [])) ∷ row 1 0 1 (matched (Pattern-F.Make 0 (p ∷ [])))
    ∷ row 1 0 2 (matched (Pattern-F.Make 0 (p ∷ p ∷ []))) ∷ row 1 0 3 (matched (Pattern-F.Make 0 (p ∷ p ∷ p ∷ [])))
    ∷ row 1 0 4 (matched (Pattern-F.Make 0 (p ∷ p ∷ p ∷ p ∷ []))) ∷ row 1 0 5 (matched (Pattern-F.Make 0 (p ∷ p ∷ p ∷ p ∷ p ∷ [])))
    ∷ row 1 0 2 (matched (Pattern-F.Either (p ∷ p ∷ []))) ∷ []

-- cases: with and without a guard, and with an empty body
abbrev pub cases : Size → List Form
cases p =
    row 1 1 1 (case_size p None p) ∷ row 1 2 1 (case_size p (Some p) p) ∷ row 1 0 1 (case_size p None (tree Expr-F.Unit)) ∷ []

-- each form of source takes at most 31 bytes and brings at most 5 entries for each of its nodes
abbrev pub forms_fit : Bool
forms_fit =
    list_all (fits EXPR_SPARE CASE_SPARE) (expressions plain) && list_all (fits EXPR_SPARE CASE_SPARE) (expressions trying_part)
    && list_all (fits PATTERN_SPARE PATTERN_SPARE) (patterns trying_part)
    && list_all (fits CASE_SPARE PATTERN_SPARE) (cases trying_part)

-- what stands for a form when a pass is done, beside the form
pub record Lowered : Type 0 where
  pub bytes : ℕ
  pub entries : ℕ
  pub high : Size

-- what stands for a form, where its value is wanted
abbrev pub low : Size → Size → Lowered
low made high = record { bytes = made.value; entries = made.entries; high = high }

-- the same of a test, with what follows it left out
abbrev pub test_of : Size → Size → Lowered
test_of made high = record { bytes = made.test; entries = made.entries; high = high }

-- whether what stands for a form takes no more bytes and brings no more entries than the form
abbrev pub no_more : Lowered → Bool
no_more l = nat_le l.bytes l.high.value && nat_le l.entries l.high.entries

-- a level of an expression when k lowerings are done
abbrev pub tree_at : ℕ → Expr-F Size Size Size Size → Size
tree_at k = expr_step (ahead_of k)

-- a part of the matched value, which is in a local, as it is read
abbrev pub part : Size
part = tree_at 3 (Expr-F.Get local 0 0)

-- a value that is kept in a new local
abbrev pub kept_in_local : Size → Size
kept_in_local value = heavier 1 (tree_at 3 (Expr-F.SetLocal 0 value))

-- a statement in front of the rest
abbrev pub first_then : Size → Size → Size
first_then first rest = tree_at 3 (Expr-F.Block (first ∷ rest ∷ []))

-- a test, and another where it is true
abbrev pub joined : Size → Size → Size
joined test rest = tree_at 3 (Expr-F.If test rest never)

-- an expression made Any
abbrev pub any_of : Size → Size
any_of e = tree_at 3 (Expr-F.Convert ty.Any e)

-- an expression made an object of a class
abbrev pub cast : Size → Size
cast e = tree_at 3 (Expr-F.Convert (ty.Class 0) e)

-- whether a value equals a literal, and then the rest
abbrev pub literal_test : Size → Size → Size → Size
literal_test literal value rest = joined (tree_at 3 (Expr-F.Prim op.Equals (any_of literal ∷ any_of value ∷ []))) rest

-- whether a value is that of an object definition, and then the rest
abbrev pub object_test : Size → Size → Size
object_test value rest = joined (tree_at 3 (Expr-F.Equal (tree_at 3 (Expr-F.ModuleGet 0)) value)) rest

-- whether a value is of a type, and then the rest
abbrev pub type_test : Size → Size → Size
type_test value rest = joined (tree_at 3 (Expr-F.Test value (tested.OfType ty.Int))) rest

-- a variable of a pattern gets a value, and then the rest
abbrev pub bound : Size → Size → Size
bound value rest = first_then (tree_at 3 (Expr-F.SetLocal 0 (tree_at 3 (Expr-F.Convert ty.Unit value)))) rest

-- a part kept and tested for a type, and then the rest
abbrev pub few_parts : Size → Size
few_parts rest = first_then (kept_in_local part) (type_test local rest)

-- the same, with the part kept under its own type too
abbrev pub many_parts : Size → Size
many_parts rest = first_then (kept_in_local part) (type_test local (first_then (kept_in_local (cast local)) rest))

-- a literal of Int
abbrev pub int : Size
int = tree (Expr-F.Int (pos 0))

-- what each pass puts in place of a form, with parts p that hold or don't hold a `try`
abbrev pub lowerings : Size → List Lowered
lowerings p =
    -- reads of objects
    low (tree_at 1 (Expr-F.ModuleGet 0)) (tree (Expr-F.ObjectGet 0))
    -- traits: the object of a body, fields, calls by `super`
    ∷ low (tree_at 2 (Expr-F.Local 0)) (tree_at 1 Expr-F.This) ∷ low (tree_at 2 (Expr-F.Call p 0 0 [])) (tree_at 1 (Expr-F.Get p 0 0))
    ∷ low (tree_at 2 (Expr-F.Call p 0 0 (p ∷ []))) (tree_at 1 (Expr-F.Put p 0 0 p))
    ∷ low (tree_at 2 (Expr-F.StaticCall 0 0 (tree_at 2 Expr-F.This ∷ p ∷ p ∷ []))) (tree_at 1 (Expr-F.SuperCall 0 [] (p ∷ p ∷ [])))
    ∷ low (tree_at 2 (Expr-F.Call local 0 0 (p ∷ p ∷ []))) (tree_at 1 (Expr-F.SuperCall 0 [] (p ∷ p ∷ [])))
    -- a read of a lazy member that becomes a call
    ∷ low (tree_at 4 (Expr-F.Call p 0 0 [])) (tree_at 3 (Expr-F.LazyGet p 0 0))
    -- patterns
    ∷ test_of (first_then (tree_at 3 (Expr-F.SetLocal 0 part)) always) (matched (Pattern-F.Bind 0 (matched Pattern-F.«Pattern::Any»)))
    ∷ test_of (first_then (kept_in_local part) (bound local always)) (matched (Pattern-F.Bind 0 (matched Pattern-F.«Pattern::Any»)))
    ∷ test_of (type_test part always) (matched (Pattern-F.OfType ty.Int)) ∷ test_of (literal_test int part always) (matched (Pattern-F.Literal int))
    ∷ test_of (joined (tree_at 3 (Expr-F.Prim op.Same (tree Expr-F.Null ∷ part ∷ []))) always) (matched (Pattern-F.Literal (tree Expr-F.Null)))
    ∷ test_of (object_test part always) (matched (Pattern-F.Object 0)) ∷ test_of (few_parts always) (matched (Pattern-F.Make 0 []))
    ∷ test_of (few_parts (object_test (tree_at 3 (Expr-F.Get (cast local) 0 0)) always)) (matched (Pattern-F.Make 0 (matched (Pattern-F.Object 0) ∷ [])))
    ∷ test_of (many_parts (object_test part (literal_test int part (object_test part (object_test part (object_test part always))))))
    (matched (Pattern-F.Make 0 (matched (Pattern-F.Object 0) ∷ matched (Pattern-F.Literal int) ∷ matched (Pattern-F.Object 0) ∷ matched (Pattern-F.Object 0) ∷ matched (Pattern-F.Object 0) ∷ [])))
    ∷ test_of (first_then (kept_in_local part) (joined (tree_at 3 (Expr-F.If (literal_test int local always) always (object_test local always))) always))
    (matched (Pattern-F.Either (matched (Pattern-F.Literal int) ∷ matched (Pattern-F.Object 0) ∷ [])))
    -- a case with a guard and what comes behind it; a match with its end; a handler with its end
    ∷ low (tree_at 3 (Expr-F.If (type_test part p) p plain)) (case_size (matched (Pattern-F.OfType ty.Int)) (Some p) p)
    ∷ low (tree_at 3 (Expr-F.Block (kept_in_local (tree_at 3 (Expr-F.Convert ty.AnyRef p)) ∷ tree_at 3 (Expr-F.Throw (tree_at 3 (Expr-F.New 0 (tree_at 3 (Expr-F.Prim op.ClassName (any_of local ∷ [])) ∷ [])))) ∷ [])))
    (tree_at 2 (Expr-F.Match p []))
    ∷ low (heavier 1 (tree_at 3 (Expr-F.Try p (Some (beside nothing (tree_at 3 (Expr-F.Throw local)))) None))) (tree_at 2 (Expr-F.Try p (Some nothing) None))
    ∷ []

-- what a pass puts in place of a form takes no more bytes and brings no more entries than the form
abbrev pub lowerings_fit : Bool
lowerings_fit = list_all no_more (lowerings plain) && list_all no_more (lowerings trying_part)
