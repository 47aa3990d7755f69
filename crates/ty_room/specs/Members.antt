-- What members of a class bring to its pool: by the size of the class in source, and after each lowering beside before.
use Rattle.std.specs.Prelude.{ℕ, ◌+◌, ◌*◌, Bool, nat_le, List, [], ◌∷◌}
use Rattle.std.specs.List.{list_all}
use Rattle.ty_prog.specs.declared.catch.Catch.TheOpen.{Expr-F}
use Rattle.ty_room.specs.Ahead.{ahead_of}
use Rattle.ty_room.specs.Forms.{tree_at}
use Rattle.ty_room.specs.Room.{PARAMETER_ENTRIES, CELL_ENTRIES, METHOD_ENTRIES, BODY_ENTRIES, MIXIN_ENTRIES, MIXIN_WEIGHT, OBJECT_ENTRIES, OBJECT_WEIGHT, STATEMENTS_ENTRIES, ACCESSOR_ENTRIES, TAKEN_FIELD_ENTRIES, TAKEN_METHOD_ENTRIES, TAKEN_CELL_ENTRIES, SUPER_ENTRIES, field_entries}

-- so much is at most so much
pub record Bound : Type 0 where
  pub is : ℕ
  pub most : ℕ

-- so much, against so much
abbrev pub bound : ℕ → ℕ → Bound
bound is most = record { is = is; most = most }

-- whether a bound is kept
abbrev pub holds : Bound → Bool
holds b = nat_le b.is b.most

-- entries of the read of a field after k lowerings
abbrev pub getting : ℕ → ℕ
getting k = (tree_at k (Expr-F.Get (tree_at k Expr-F.This) 0 0)).entries

-- entries of the write of a field
abbrev pub putting : ℕ → ℕ
putting k = (tree_at k (Expr-F.Put (tree_at k Expr-F.This) 0 0 (tree_at k (Expr-F.Local 0)))).entries

-- entries of the read of a lazy member
abbrev pub reading_cell : ℕ → ℕ
reading_cell k = (tree_at k (Expr-F.LazyGet (tree_at k Expr-F.This) 0 0)).entries

-- entries of the call of a static method, when traits are lowered
abbrev pub calling_static : ℕ
calling_static = (tree_at 2 (Expr-F.StaticCall 0 0 (tree_at 2 Expr-F.This ∷ []))).entries

-- the method that reads a member, in a trait, where it brings most
abbrev pub getter : ℕ
getter = METHOD_ENTRIES + BODY_ENTRIES + getting 0

-- the method that sets a member, in a trait, where it brings most
abbrev pub setter : ℕ
setter = METHOD_ENTRIES + BODY_ENTRIES + putting 0

-- what a unit of a class's size may bring
abbrev pub UNIT_ENTRIES : ℕ
UNIT_ENTRIES = 5

-- what so many units may bring
abbrev pub units : ℕ → ℕ
units n = UNIT_ENTRIES * n

-- members of source with the units that they count: a deferred method one, a method with a body one, of which its nodes
-- leave an entry; a `val`, `var`, lazy member or class parameter ten, each trait that is mixed in, each member that is taken
-- from one and each `super.m` ten
abbrev pub of_source : List Bound
of_source =
    bound METHOD_ENTRIES (units 1) ∷ bound (METHOD_ENTRIES + BODY_ENTRIES) (units 1 + 1)
    -- a `val`, a `var`, a lazy member
    ∷ bound (field_entries (ahead_of 0) + putting 0 + getter) (units 10) ∷ bound (field_entries (ahead_of 0) + putting 0 + getter + setter) (units 10)
    ∷ bound (CELL_ENTRIES + METHOD_ENTRIES + BODY_ENTRIES + reading_cell 0) (units 10)
    -- a class parameter, and one that is a `var`; one of a case class with its share of `equals` and `toString`
    ∷ bound (PARAMETER_ENTRIES + field_entries (ahead_of 0)) (units 10) ∷ bound (PARAMETER_ENTRIES + field_entries (ahead_of 0) + getter + setter) (units 10)
    ∷ bound (PARAMETER_ENTRIES + field_entries (ahead_of 0) + getter + getting 0 * 3 + (tree_at 0 (Expr-F.Text [])).entries) (units 10)
    -- a trait, and a method, a `val`, a `var` and a lazy member that are taken
    ∷ bound MIXIN_ENTRIES (units 10) ∷ bound TAKEN_METHOD_ENTRIES (units 10) ∷ bound (TAKEN_FIELD_ENTRIES + TAKEN_METHOD_ENTRIES) (units 10)
    ∷ bound (TAKEN_FIELD_ENTRIES + TAKEN_METHOD_ENTRIES * 2) (units 10) ∷ bound (TAKEN_CELL_ENTRIES + TAKEN_METHOD_ENTRIES) (units 10)
    -- `super.m` in a class, and in a trait that is mixed in
    ∷ bound ACCESSOR_ENTRIES (units 10) ∷ bound SUPER_ENTRIES (units 10) ∷ []

-- what each lowering brings, and what was counted for it before
abbrev pub of_lowerings : List Bound
of_lowerings =
    -- an object gains the statement that stores its reference
    bound (tree_at 1 (Expr-F.SetModule 0 (tree_at 1 Expr-F.This))).entries OBJECT_ENTRIES
    ∷ bound ((tree_at 1 (Expr-F.SetModule 0 (tree_at 1 Expr-F.This))).value + 1) OBJECT_WEIGHT
    -- a class gains for each trait the call of its statements
    ∷ bound calling_static MIXIN_ENTRIES ∷ bound ((tree_at 2 (Expr-F.StaticCall 0 0 (tree_at 2 Expr-F.This ∷ []))).value + 1) MIXIN_WEIGHT
    -- for each field of it a field and the method that sets it; for each lazy member one, whose initialiser calls the trait's
    ∷ bound (field_entries (ahead_of 2) + METHOD_ENTRIES + putting 2) TAKEN_FIELD_ENTRIES ∷ bound (CELL_ENTRIES + calling_static) TAKEN_CELL_ENTRIES
    -- for each method a forwarder, or one that reads the field or the lazy member
    ∷ bound (METHOD_ENTRIES + calling_static) TAKEN_METHOD_ENTRIES ∷ bound (METHOD_ENTRIES + getting 2) TAKEN_METHOD_ENTRIES
    ∷ bound (METHOD_ENTRIES + reading_cell 2) TAKEN_METHOD_ENTRIES
    -- for each call by `super` the method that makes it
    ∷ bound (METHOD_ENTRIES + calling_static) SUPER_ENTRIES
    -- a trait: of a method with a body the call of the static method, and that method; of a field the method that sets it; of
    -- a lazy member the static method of its initialiser; the static method of its statements; for each call by `super` a
    -- deferred method
    ∷ bound (calling_static + METHOD_ENTRIES) (METHOD_ENTRIES + BODY_ENTRIES) ∷ bound METHOD_ENTRIES (field_entries (ahead_of 1))
    ∷ bound METHOD_ENTRIES CELL_ENTRIES ∷ bound METHOD_ENTRIES STATEMENTS_ENTRIES ∷ bound METHOD_ENTRIES ACCESSOR_ENTRIES
    -- a lazy member becomes a field, the method of its initialiser, and what reads it: three reads of the field, six exchanges,
    -- the call of the initialiser, and a LazyCycle with a text
    ∷ bound
    (field_entries (ahead_of 4) + METHOD_ENTRIES + getting 4 * 3 + (tree_at 4 (Expr-F.Cas (tree_at 4 Expr-F.This) 0 0 (tree_at 4 Expr-F.Null) (tree_at 4 Expr-F.Null))).entries * 6
    + (tree_at 4 (Expr-F.Call (tree_at 4 Expr-F.This) 0 0 [])).entries + (tree_at 4 (Expr-F.New 0 (tree_at 4 (Expr-F.Text []) ∷ []))).entries)
    (CELL_ENTRIES + reading_cell 3)
    ∷ []

-- each member of source brings no more than its units may
abbrev pub members_fit : Bool
members_fit = list_all holds of_source

-- what each lowering brings was counted before
abbrev pub gains_fit : Bool
gains_fit = list_all holds of_lowerings
