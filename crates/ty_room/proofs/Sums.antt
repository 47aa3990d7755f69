-- Members of lowered classes, each by one of before; the trees of a class, one by one.
use Rattle.std.proofs.Common.{◌≡◌, ◌≤◌, ℕ, Option, Some, None, List, [], ◌∷◌, length, map, sum_by, refl, arith}
use Rattle.std.specs.List.{All, AllZip, AllByRecursion}
use Rattle.std.proofs.lemmas.List.Elements.{All-from_recursion, recursion_from_All}
use Rattle.std.proofs.lemmas.List.Sums.{sum_by-cons}
use Rattle.ty_prog.specs.declared.class.Class.{Class}
use Rattle.ty_prog.specs.declared.cell.Cell.{Cell}
use Rattle.ty_prog.specs.declared.method.Method.{Method}
use Rattle.ty_prog.specs.declared.expr.Expr.{Expr}
use Rattle.ty_room.specs.declared.size.Size.{Size}
use Rattle.ty_room.specs.Ahead.{ahead_of}
use Rattle.ty_room.specs.Sizing.{nothing, beside, merged, together, expr_size}
use Rattle.ty_room.specs.Room.{CellHasRoom, MethodHasRoom, BodyHasRoom, MOST_WEIGHT, body_weight, body_size, class_size}
use Rattle.ty_room.specs.Kept.{BodyKept, CellKept, MethodKept, SomeKept, in_trees}
use Rattle.ty_room.proofs.Rows.{from_start}
use Rattle.ty_room.proofs.Keeping.{body_kept}

body_has_room : (j k given given' locals locals' : ℕ) (low high : Expr) → BodyKept j k given given' locals locals' low high
    → body_weight (ahead_of k) given' locals' high ≤ MOST_WEIGHT → body_weight (ahead_of j) given locals low ≤ MOST_WEIGHT
body_has_room j k given given' locals locals' low high h room = omega (arith, body_kept j k given locals given' locals' low high h.size h.new, room)

cell_kept : (j k : ℕ) (low high : Cell) → CellKept j k low high → CellHasRoom (ahead_of k) high → CellHasRoom (ahead_of j) low
unfolding CellKept CellHasRoom
cell_kept j k low high h room = body_has_room j k 0 0 low.locals high.locals low.init high.init h room

all_cells : (j k : ℕ) (xs ys : List Cell) → AllZip (CellKept j k) xs ys → AllByRecursion (CellHasRoom (ahead_of k)) ys → AllByRecursion (CellHasRoom (ahead_of j)) xs
all_cells j k [] [] z h = tt
all_cells j k (x ∷ xs) (y ∷ ys) z h = (cell_kept j k x y z.0 h.0, all_cells j k xs ys z.1 h.1)
all_cells j k [] (y ∷ ys) z h = elim z [ ]
all_cells j k (x ∷ xs) [] z h = elim z [ ]

pub cells_kept : (j k : ℕ) (lows highs : List Cell) → AllZip (CellKept j k) lows highs → All (CellHasRoom (ahead_of k)) highs → All (CellHasRoom (ahead_of j)) lows
cells_kept j k lows highs z h = All-from_recursion (CellHasRoom (ahead_of j)) lows (all_cells j k lows highs z (recursion_from_All (CellHasRoom (ahead_of k)) highs h))

some_kept : (j k : ℕ) (low high : Method) (body other : Option Expr) → SomeKept j k low high body other → BodyHasRoom (ahead_of k) high other → BodyHasRoom (ahead_of j) low body
some_kept j k low high None other h room = tt
some_kept j k low high (Some body) None h room = elim h [ ]
some_kept j k low high (Some body) (Some other) h room = body_has_room j k (length low.params) (length high.params) low.locals high.locals body other h room

method_kept : (j k : ℕ) (low high : Method) → MethodKept j k low high → MethodHasRoom (ahead_of k) high → MethodHasRoom (ahead_of j) low
unfolding MethodKept
method_kept j k low high h room = some_kept j k low high low.body high.body h room

all_methods : (j k : ℕ) (xs ys : List Method) → AllZip (MethodKept j k) xs ys → AllByRecursion (MethodHasRoom (ahead_of k)) ys → AllByRecursion (MethodHasRoom (ahead_of j)) xs
all_methods j k [] [] z h = tt
all_methods j k (x ∷ xs) (y ∷ ys) z h = (method_kept j k x y z.0 h.0, all_methods j k xs ys z.1 h.1)
all_methods j k [] (y ∷ ys) z h = elim z [ ]
all_methods j k (x ∷ xs) [] z h = elim z [ ]

pub methods_kept : (j k : ℕ) (lows highs : List Method) → AllZip (MethodKept j k) lows highs → All (MethodHasRoom (ahead_of k)) highs → All (MethodHasRoom (ahead_of j)) lows
methods_kept j k lows highs z h = All-from_recursion (MethodHasRoom (ahead_of j)) lows (all_methods j k lows highs z (recursion_from_All (MethodHasRoom (ahead_of k)) highs h))

-- what is put together, part by part
module _ {X : Type 0} (size : X → Size) where
  record Counted (xs : List X) : Type 0 where
    pub entries : (together (map size xs)).entries ≡ sum_by (λ x. (size x).entries) xs
    pub supers : (together (map size xs)).supers ≡ sum_by (λ x. (size x).supers) xs

  one_more : (x : X) (xs : List X) → Counted xs → Counted (x ∷ xs)
  unfolding beside
  one_more x xs rest =
      let more = from_start (map size xs) (beside nothing (size x)) in
      record {
        entries = omega (arith, more.entries, rest.entries, sum_by-cons (λ y. (size y).entries) x xs);
        supers = omega (arith, more.supers, rest.supers, sum_by-cons (λ y. (size y).supers) x xs);
      }

  counted : (xs : List X) → Counted xs
  counted [] = record { entries = refl; supers = refl }
  counted (x ∷ xs) = one_more x xs (counted xs)

pub class_entries_sum : (k : ℕ) (class : Class) → (class_size (ahead_of k) class).entries ≡ in_trees (λ size. size.entries) k class
unfolding merged
class_entries_sum k class =
    omega (
      arith,
      (counted (expr_size (ahead_of k)) class.super_args).entries,
      (counted (expr_size (ahead_of k)) class.body).entries,
      (counted (λ cell. expr_size (ahead_of k) cell.init) class.cells).entries,
      (counted (λ method. body_size (ahead_of k) method.body) class.methods).entries,
    )

pub class_supers_sum : (k : ℕ) (class : Class) → (class_size (ahead_of k) class).supers ≡ in_trees (λ size. size.supers) k class
unfolding merged
class_supers_sum k class =
    omega (
      arith,
      (counted (expr_size (ahead_of k)) class.super_args).supers,
      (counted (expr_size (ahead_of k)) class.body).supers,
      (counted (λ cell. expr_size (ahead_of k) cell.init) class.cells).supers,
      (counted (λ method. body_size (ahead_of k) method.body) class.methods).supers,
    )
