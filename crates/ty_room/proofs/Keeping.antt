-- Lowered classes have room, one by one and together.
use Rattle.std.proofs.Common.{◌≡◌, ◌+◌, ◌≤◌, ◌-◌, ℕ, List, [], ◌∷◌, length, arith}
use Rattle.std.specs.List.{AllZip, AllByRecursion}
use Rattle.std.proofs.lemmas.List.Elements.{All-from_recursion, recursion_from_All}
use Rattle.std.proofs.lemmas.List.Sums.{sum_by-cons}
use Rattle.ty_prog.specs.declared.class.Class.{Class}
use Rattle.ty_prog.specs.declared.expr.Expr.{Expr}
use Rattle.ty_prog.specs.declared.program.Program.{Program}
use Rattle.ty_room.specs.Ahead.{ahead_of}
use Rattle.ty_room.specs.Sizing.{expr_size}
use Rattle.ty_room.specs.NoMore.{NoMore}
use Rattle.ty_room.specs.Room.{Room, ClassHasRoom, body_weight, constructor_weight, class_entries}
use Rattle.ty_room.specs.Kept.{statements, EachNoMore, ConstructorKept, ClassKept, brought}

pub body_kept : (j k given locals given' locals' : ℕ) (low high : Expr) → NoMore (expr_size (ahead_of j) low) (expr_size (ahead_of k) high) → locals - given ≤ locals' - given'
    → body_weight (ahead_of j) given locals low ≤ body_weight (ahead_of k) given' locals' high
body_kept j k given locals given' locals' low high x less = omega (arith, x.value)

pub statements_kept : (j k : ℕ) (lows highs : List Expr) → EachNoMore j k lows highs → statements j lows ≤ statements k highs
statements_kept j k [] [] z = omega arith
statements_kept j k (x ∷ xs) (y ∷ ys) z =
    omega (arith, sum_by-cons (λ e. (expr_size (ahead_of j) e).value + 1) x xs, sum_by-cons (λ e. (expr_size (ahead_of k) e).value + 1) y ys, z.0.value, statements_kept j k xs ys z.1)
statements_kept j k [] (y ∷ ys) z = elim z [ ]
statements_kept j k (x ∷ xs) [] z = elim z [ ]

-- an object's first statement is new
pub one_more : (j : ℕ) (first : Expr) (rest : List Expr) → statements j (first ∷ rest) ≡ (expr_size (ahead_of j) first).value + 1 + statements j rest
one_more j first rest = sum_by-cons (λ e. (expr_size (ahead_of j) e).value + 1) first rest

pub constructor_kept : (j k gained : ℕ) (low high : Class) → ConstructorKept j k gained low high → constructor_weight (ahead_of j) low ≤ constructor_weight (ahead_of k) high
constructor_kept j k gained low high h = omega (arith, h.superclass, h.body, h.params, h.locals, h.counted)

pub pool_kept : (j k : ℕ) (lows highs : List Class) (low high : Class) → length lows ≤ length highs → brought j lows low ≤ brought k highs high
    → class_entries (ahead_of j) lows low ≤ class_entries (ahead_of k) highs high
pool_kept j k lows highs low high few h = omega (arith, few, h)

class_kept : (j k : ℕ) (lows highs : List Class) (low high : Class) → ClassKept j k lows highs low high → ClassHasRoom (ahead_of k) highs high → ClassHasRoom (ahead_of j) lows low
class_kept j k lows highs low high h room = record {
  constructor = omega (arith, h.constructor, room.constructor);
  cells = h.cells room.cells;
  methods = h.methods room.methods;
  pool = omega (arith, h.pool, room.pool);
}

all_kept : (j k : ℕ) (lows highs : List Class) (xs ys : List Class) → AllZip (ClassKept j k lows highs) xs ys → AllByRecursion (ClassHasRoom (ahead_of k) highs) ys
    → AllByRecursion (ClassHasRoom (ahead_of j) lows) xs
all_kept j k lows highs [] [] z h = tt
all_kept j k lows highs (x ∷ xs) (y ∷ ys) z h = (class_kept j k lows highs x y z.0 h.0, all_kept j k lows highs xs ys z.1 h.1)
all_kept j k lows highs [] (y ∷ ys) z h = elim z [ ]
all_kept j k lows highs (x ∷ xs) [] z h = elim z [ ]

pub room_kept : (j k : ℕ) (low high : Program) → AllZip (ClassKept j k low.classes high.classes) low.classes high.classes → Room k high → Room j low
room_kept j k low high z room = record {
  classes = All-from_recursion (ClassHasRoom (ahead_of j) low.classes) low.classes
      (all_kept j k low.classes high.classes low.classes high.classes z (recursion_from_All (ClassHasRoom (ahead_of k) high.classes) high.classes room.classes));
}
