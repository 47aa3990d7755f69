-- What trees that stand for forms of source take, by the nodes of source: at most 31 bytes and fewer than 5 entries a node.
use Rattle.std.specs.Prelude.{ℕ, ◌+◌, ◌*◌, ◌≤◌, List, [], ◌∷◌, None, pos}
use Rattle.ty_prog.specs.declared.catch.Catch.TheOpen.{Expr-F}
use Rattle.ty_prog.specs.declared.prim_op.PrimOp.{PrimOp}
use Rattle.ty_room.specs.declared.size.Size.{Size}
use Rattle.ty_room.specs.Sizing.{together, heavier, node_size}
use Rattle.ty_room.specs.Numbers.{making}
use Rattle.ty_room.specs.Forms.{EXPR_SPARE, CASE_SPARE, PATTERN_SPARE, tree, this, never, always, boxed, called, applied, joined_texts}

-- a tree for so many nodes of source, of which some bytes and entries are left over, for what a part costs where it stands
pub record Worth (spare left nodes : ℕ) (size : Size) : Type 0 where
  pub bytes : size.value + spare ≤ 31 * nodes
  pub test : size.test ≤ size.value + 3
  pub entries : size.entries + left ≤ 5 * nodes

-- an expression for so many nodes of source
abbrev pub ExprWorth : ℕ → Size → Type 0
ExprWorth = Worth EXPR_SPARE 1

-- a case for so many nodes
abbrev pub CaseWorth : ℕ → Size → Type 0
CaseWorth = Worth CASE_SPARE 0

-- a pattern for so many nodes
abbrev pub PatternWorth : ℕ → Size → Type 0
PatternWorth = Worth PATTERN_SPARE 0

-- the nodes of some parts
abbrev pub all_nodes : List ℕ → ℕ
all_nodes [] = 0
all_nodes (n ∷ ns) = n + all_nodes ns

-- each of some parts, by the nodes of each
abbrev pub AllWorth : (ℕ → Size → Type 0) → List ℕ → List Size → Type 0
AllWorth worth [] [] = Unit
AllWorth worth (n ∷ ns) (part ∷ parts) = worth n part × AllWorth worth ns parts
AllWorth worth ns parts = ⊥

-- an assignment with `+` of a text that is a member
abbrev pub text_added : Size → Size
text_added e = boxed (called this (joined_texts (called this []) e ∷ []))

-- literals and names, a call without arguments, `new C` and `println`: forms of one node, made Any where they may be
abbrev pub leaves : ℕ → List Size
leaves local =
    boxed (tree (Expr-F.Int (pos 0))) ∷ boxed (tree (Expr-F.Long (pos 0))) ∷ boxed never ∷ boxed always ∷ tree (Expr-F.Text [])
    ∷ tree Expr-F.Null ∷ boxed (tree Expr-F.Unit) ∷ boxed (tree (Expr-F.Local local)) ∷ boxed (tree (Expr-F.Get this 0 0))
    ∷ boxed (called this []) ∷ tree (Expr-F.ObjectGet 0) ∷ this ∷ boxed (tree (Expr-F.SuperCall 0 [] [])) ∷ applied []
    ∷ applied (tree Expr-F.Null ∷ []) ∷ boxed (tree (Expr-F.Println None)) ∷ []

-- an operator on what is read and what is added
abbrev pub added : PrimOp → Size → Size → Size
added o read e = tree (Expr-F.Prim o (read ∷ e ∷ []))

-- `x = e` of a local
abbrev pub local_set : ℕ → Size → Size
local_set local e = boxed (tree (Expr-F.SetLocal local e))

-- `x = e` of a member
abbrev pub member_set : Size → Size
member_set e = boxed (called this (e ∷ []))

-- `a.x = e` of another object, which is evaluated once, in a new local
abbrev pub other_set : ℕ → Size → Size → Size
other_set local a e = heavier 1 (boxed (tree (Expr-F.Block (tree (Expr-F.SetLocal local a) ∷ called (tree (Expr-F.Local local)) (e ∷ []) ∷ []))))

-- what is read before something is added to it
abbrev pub member_of : ℕ → Size
member_of local = called (tree (Expr-F.Local local)) []

-- the arguments of a superclass constructor
abbrev pub superclass_args : List Size → Size
superclass_args args = node_size (making 4 0 0) (together args)

-- the value of a field in the constructor of its template
abbrev pub field_set : Size → Size
field_set e = tree (Expr-F.Put this 0 0 e)

-- statements, whose values are dropped
abbrev pub dropped : List Size → ℕ
dropped [] = 0
dropped (e ∷ es) = e.value + 1 + dropped es
