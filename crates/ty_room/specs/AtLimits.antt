-- Bodies and classes at the limits: what they take, computed from the numbers.
use Rattle.std.specs.Prelude.{ℕ, ◌+◌, ◌*◌, Bool, List, [], ◌∷◌, Some, None, replicate}
use Rattle.std.specs.List.{list_all}
use Rattle.ty_prog.specs.declared.catch.Catch.TheOpen.{Expr-F, Pattern-F}
use Rattle.ty_room.specs.declared.size.Size.{Size}
use Rattle.ty_room.specs.Ahead.{ahead_of}
use Rattle.ty_room.specs.Sizing.{together, case_size}
use Rattle.ty_room.specs.Forms.{tree, matched, boxed, this, local, int, called}
use Rattle.ty_room.specs.Source.{text_added}
use Rattle.ty_room.specs.Room.{MOST_WEIGHT, MOST_ENTRIES, RETURN_WEIGHT, FILE_ENTRIES, NAMED_ENTRIES, CELL_ENTRIES, METHOD_ENTRIES, BODY_ENTRIES, TAKEN_CELL_ENTRIES, TAKEN_METHOD_ENTRIES, MIXIN_ENTRIES, coming_entries}
use Rattle.ty_room.specs.Limits.{MOST_CLASSES}
use Rattle.ty_room.specs.Members.{Bound, bound, holds}

-- what a body with so many locals weighs, against the most
abbrev pub body : Size → ℕ → Bound
body tree locals = bound (tree.value + RETURN_WEIGHT + locals) MOST_WEIGHT

-- what a class of a program of as many classes as may be brings, against the most
abbrev pub class : ℕ → Bound
class entries = bound (FILE_ENTRIES + NAMED_ENTRIES * MOST_CLASSES + coming_entries (ahead_of 0) 0 + entries) MOST_ENTRIES

-- a statement so many times
abbrev pub times : ℕ → Size → Size
times n statement = tree (Expr-F.Block (replicate n statement))

-- a case with the body `()`
abbrev pub case_of : Size → Size
case_of pattern = case_size pattern None (tree Expr-F.Unit)

-- the pattern of a literal
abbrev pub literal : Size
literal = matched (Pattern-F.Literal int)

-- the pattern of a variable
abbrev pub bind : Size
bind = matched (Pattern-F.Bind 0 (matched Pattern-F.«Pattern::Any»))

-- `P(x1, .., x120)`
abbrev pub names : Size
names = matched (Pattern-F.Make 0 (replicate 120 bind))

-- `P(O, .., O)`
abbrev pub objects : Size
objects = matched (Pattern-F.Make 0 (replicate 120 (matched (Pattern-F.Object 0))))

-- eight calls with 120 boxed arguments
abbrev pub calls : Size
calls = times 8 (called this (replicate 120 (boxed int)))

-- a lazy member with its method, in a trait, where it brings most
abbrev pub lazy_member : ℕ
lazy_member = CELL_ENTRIES + int.entries + METHOD_ENTRIES + BODY_ENTRIES + (tree (Expr-F.LazyGet this 0 0)).entries

-- the bodies and classes at the limits
abbrev pub at_limits : List Bound
at_limits =
    -- 940 literals in one pattern; eight cases P(x1, .., x120)
    body (tree (Expr-F.Match local (case_of (matched (Pattern-F.Either (replicate 940 literal))) ∷ []))) 0
    ∷ body (tree (Expr-F.Match local (replicate 8 (case_of names)))) 960
    -- 499 `try`, each with a literal; 199 with a case
    ∷ body (times 499 (tree (Expr-F.Try int None None))) 0
    ∷ body (times 199 (tree (Expr-F.Try int (Some (together (case_of (matched Pattern-F.«Pattern::Any») ∷ []))) None))) 0
    -- ten methods of eight calls with 120 boxed arguments
    ∷ body calls 0 ∷ class (10 * (METHOD_ENTRIES + BODY_ENTRIES + calls.entries))
    -- 909 lazy members with their methods; two traits of 499 lazy members mixed in
    ∷ class (909 * lazy_member) ∷ class (2 * MIXIN_ENTRIES + 998 * (TAKEN_CELL_ENTRIES + TAKEN_METHOD_ENTRIES))
    -- 80 patterns P(O, .., O), in ten methods
    ∷ body (tree (Expr-F.Match local (replicate 8 (case_of objects)))) 0
    ∷ class (10 * (METHOD_ENTRIES + BODY_ENTRIES + (tree (Expr-F.Match local (replicate 8 (case_of objects)))).entries))
    -- 249 assignments `s += try 1` of a text that is a member
    ∷ body (times 249 (text_added (tree (Expr-F.Try int None None)))) 0
    ∷ []

-- each of them keeps its bound
abbrev pub limits_fit : Bool
limits_fit = list_all holds at_limits
