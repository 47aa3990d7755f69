-- What each lowering puts in place of a form, over parts of every size, side by side with the form. Trees are given by
-- their sizes, as in Forms; a pass builds the same trees with these parts.
use Rattle.std.specs.Prelude.{ℕ, ◌+◌, ◌≤◌, ◌≡◌, List, [], ◌∷◌, Option, Some, pos}
use Rattle.ty_prog.specs.declared.catch.Catch.TheOpen.{Expr-F, Pattern-F}
use Rattle.ty_prog.specs.declared.prim_op.PrimOp.TheVariants as op
use Rattle.ty_prog.specs.declared.ty.Ty.TheVariants as ty
use Rattle.ty_room.specs.declared.size.Size.{Size}
use Rattle.ty_room.specs.Sizing.{nothing, beside, heavier, pattern_step}
use Rattle.ty_room.specs.Forms.{tree_at, always, never, int, kept_in_local, first_then, joined, any_of, cast, literal_test, object_test, type_test, local, bound}
use Rattle.ty_room.specs.NoMore.{NoMore}

-- what stands for a form, and the form
pub record Replaced : Type 0 where
  pub low : Size
  pub high : Size

-- each row holds
abbrev pub each : (Replaced → Type 0) → List Replaced → Type 0
each holds [] = Unit
each holds (row ∷ rows) = holds row × each holds rows

-- such a row
abbrev pub instead : Size → Size → Replaced
instead low high = record { low = low; high = high }

-- a row of forms takes no more
abbrev pub TakesNoMore : Replaced → Type 0
TakesNoMore row = NoMore row.low row.high

-- reads of objects
abbrev pub of_objects : List Replaced
of_objects = instead (tree_at 1 (Expr-F.ModuleGet 0)) (tree_at 0 (Expr-F.ObjectGet 0)) ∷ []

-- traits: the object of a body, locals behind it, fields, calls by `super` of a class and of a trait
abbrev pub of_traits : ℕ → Size → Size → List Size → List Replaced
of_traits number of value args =
    instead (tree_at 2 (Expr-F.Local 0)) (tree_at 1 Expr-F.This)
    ∷ instead (tree_at 2 (Expr-F.Local (number + 1))) (tree_at 1 (Expr-F.Local number))
    ∷ instead (tree_at 2 (Expr-F.Call of 0 0 [])) (tree_at 1 (Expr-F.Get of 0 0))
    ∷ instead (tree_at 2 (Expr-F.Call of 0 0 (value ∷ []))) (tree_at 1 (Expr-F.Put of 0 0 value))
    ∷ instead (tree_at 2 (Expr-F.StaticCall 0 0 (tree_at 2 Expr-F.This ∷ args))) (tree_at 1 (Expr-F.SuperCall 0 [] args))
    ∷ instead (tree_at 2 (Expr-F.Call (tree_at 2 (Expr-F.Local 0)) 0 0 args)) (tree_at 1 (Expr-F.SuperCall 0 [] args))
    ∷ []

-- a read of a lazy member that becomes a call. Where it is the whole body of the method that reads the member, what tells
-- threads apart comes in its place: Members has what that brings
abbrev pub of_lazy_members : Size → List Replaced
of_lazy_members of = instead (tree_at 4 (Expr-F.Call of 0 0 [])) (tree_at 3 (Expr-F.LazyGet of 0 0)) ∷ []

-- a value that is dropped, and what comes in its place
abbrev pub replaced_by : ℕ → Size → Size → Size
replaced_by k e last = tree_at k (Expr-F.Block (e ∷ last ∷ []))

-- conversions to Unit, Null and Nothing, to Any and to Long: none takes more than the one to Any, and that no more than a
-- `Convert` to Unit, of which nothing more is counted where a pattern's variable has another type than the value
abbrev pub of_conversions : ℕ → Size → List Replaced
of_conversions k e =
    instead (replaced_by k e (tree_at k Expr-F.Unit)) (tree_at k (Expr-F.Convert ty.Any e))
    ∷ instead (replaced_by k e (tree_at k Expr-F.Null)) (tree_at k (Expr-F.Convert ty.Any e))
    ∷ instead (replaced_by k e (tree_at k (Expr-F.Throw (tree_at k Expr-F.Null)))) (tree_at k (Expr-F.Convert ty.Any e))
    ∷ instead (tree_at k (Expr-F.Convert ty.Long e)) (tree_at k (Expr-F.Convert ty.Any e))
    ∷ instead (tree_at k (Expr-F.Convert ty.Any e)) (tree_at k (Expr-F.Convert ty.Unit e)) ∷ []

-- the same of what stands for a variable of type Null or Nothing, in front of what follows it
abbrev pub of_variables : Size → List Replaced
of_variables rest =
    instead (first_then (tree_at 3 (Expr-F.SetLocal 0 (replaced_by 3 local (tree_at 3 Expr-F.Null)))) rest) (bound local rest)
    ∷ instead (first_then (tree_at 3 (Expr-F.SetLocal 0 (replaced_by 3 local (tree_at 3 (Expr-F.Throw (tree_at 3 Expr-F.Null)))))) rest) (bound local rest)
    ∷ []

-- a variable of type Int in front of what follows it
abbrev pub int_bound : Size → Size
int_bound rest = first_then (tree_at 3 (Expr-F.SetLocal 0 (tree_at 3 (Expr-F.Convert ty.Int local)))) rest

-- a pattern in front of what follows it: what stands for both takes no more as a test than the pattern and what follows,
-- but for what it takes to read the value
pub record Tests (read : ℕ) (made pattern rest : Size) : Type 0 where
  pub test : made.test ≤ pattern.value + read + rest.test
  pub tries : made.tries ≤ pattern.tries + rest.tries
  pub entries : made.entries ≤ pattern.entries + rest.entries
  pub supers : made.supers ≤ pattern.supers + rest.supers

-- the same of a row
abbrev pub IsTest : ℕ → Size → Replaced → Type 0
IsTest read rest row = Tests read row.low row.high rest

-- a value that a pattern looks at: a local, or a part, with what it takes more to read it
pub record Reads (read : ℕ) (value : Size) : Type 0 where
  pub bytes : value.value ≤ 7 + read
  pub tries : value.tries ≡ 0
  pub entries : value.entries ≤ 3
  pub supers : value.supers ≡ 0

-- a part that is read through a conversion
abbrev pub cast_part : Size
cast_part = tree_at 3 (Expr-F.Get (cast local) 0 0)

-- the pattern of a literal
abbrev pub literal : Size → Size
literal e = pattern_step (Pattern-F.Literal e)

-- a literal of Long
abbrev pub long : Size
long = tree_at 3 (Expr-F.Long (pos 0))

-- a literal of a text
abbrev pub text : Size
text = tree_at 3 (Expr-F.Text [])

-- `null`
abbrev pub null : Size
null = tree_at 3 Expr-F.Null

-- patterns without parts, tested of a value that is read so
abbrev pub of_patterns : Size → Size → List Replaced
of_patterns value rest =
    instead rest (pattern_step Pattern-F.«Pattern::Any»)
    ∷ instead (first_then (tree_at 3 (Expr-F.SetLocal 0 value)) rest) (pattern_step (Pattern-F.Bind 0 (pattern_step Pattern-F.«Pattern::Any»)))
    ∷ instead (type_test value rest) (pattern_step (Pattern-F.OfType ty.Int))
    ∷ instead (literal_test int value rest) (literal int) ∷ instead (literal_test long value rest) (literal long)
    ∷ instead (literal_test text value rest) (literal text) ∷ instead (literal_test always value rest) (literal always)
    ∷ instead (literal_test never value rest) (literal never)
    ∷ instead (joined (tree_at 3 (Expr-F.Prim op.Same (null ∷ value ∷ []))) rest) (literal null)
    ∷ instead (object_test value rest) (pattern_step (Pattern-F.Object 0)) ∷ []

-- a value that a pattern with parts keeps in a local, in front of the tests of these parts
abbrev pub kept_first : Size → Size → Size
kept_first value inner = first_then (kept_in_local value) inner

-- a pattern of a case class with few parts, which are read through a conversion
abbrev pub few_made : Size → Size → Size
few_made value inner = kept_first value (type_test local inner)

-- a pattern of a case class with many parts, which are read from a local of the class
abbrev pub many_made : Size → Size → Size
many_made value inner = kept_first value (type_test local (kept_first (cast local) inner))

-- one of several patterns, in front of the others
abbrev pub one_of : Size → Size → Size
one_of test others = tree_at 3 (Expr-F.If test always others)

-- at the end of a match: a MatchError with the name of the value's class
abbrev pub match_end : Size
match_end = tree_at 3 (Expr-F.Throw (tree_at 3 (Expr-F.New 0 (tree_at 3 (Expr-F.Prim op.ClassName (any_of local ∷ [])) ∷ []))))

-- a match, whose cases have become tests in turn
abbrev pub matching : Size → Size → Size
matching value chain = first_then (kept_in_local value) chain

-- a handler that finds every exception in a local, of which its cases have become tests in turn
abbrev pub catching : Size → Size → Option Size → Size
catching body chain last = heavier 1 (tree_at 3 (Expr-F.Try body (Some (beside nothing chain)) last))

-- cases in turn, with so many bytes and entries at their end, take no more than the cases
pub record ChainFits (end end_entries : ℕ) (chain cases : Size) : Type 0 where
  pub value : chain.value ≤ cases.value + end
  pub test : chain.test ≤ chain.value + 3
  pub tries : chain.tries ≤ cases.tries
  pub entries : chain.entries ≤ cases.entries + end_entries
  pub supers : chain.supers ≤ cases.supers
