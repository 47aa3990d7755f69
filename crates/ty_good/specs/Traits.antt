-- What traits and the classes that mix them in have before the lowering of traits, the second of the four, and from it on.
use Rattle.std.specs.Prelude.{ℕ, ◌+◌, ◌≡◌, Bool, true, false, ◌&&◌, ◌||◌, not, nat_eq, nat_le, IsTrue, IsFalse, List, [], ◌∷◌, ◌++◌, Option, codes, drop, length, reverse, slice_get, option_map, if◌then◌else◌}
use Rattle.std.specs.List.{All, filter, list_all}
use Rattle.std.specs.Option.{unwrap_or}
use Rattle.std.specs.Str.{bytes_eq}
use Rattle.ty_prog.specs.declared.class.Class.{Class}
use Rattle.ty_prog.specs.declared.method.Method.{Method}
use Rattle.ty_prog.specs.declared.program.Program.{Program}
use Rattle.ty_prog.specs.declared.expr.Expr.{Expr, out-Expr}
use Rattle.ty_prog.specs.declared.catch.Catch.TheOpen.{Expr-F}
use Rattle.ty_prog.specs.Tree.{Tree, ExprLevel}
use Rattle.ty_walk.specs.Everywhere.{AllNodesOf}
use Rattle.ty_conform.specs.Kinds.{is_trait, is_trait_kind, superclass, reaches}
use Rattle.ty_complete.specs.Complete.{super_of}
use Rattle.ty_complete.specs.Words.{is_empty}
use Rattle.ty_typed.specs.NodeTyped.{is_this}
use Rattle.ty_good.specs.Each.{EachClass}

-- a trait of a linearisation that that of the superclass lacks
abbrev pub is_mixed_in : List Class → Option ℕ → ℕ → Bool
is_mixed_in classes super class = is_trait classes class && not (reaches classes super class)

-- the traits whose statements the constructor of a class runs, in the order in which it does (SLS 5.1)
abbrev pub mixins_of : List Class → Class → List ℕ
mixins_of classes class =
    if is_trait_kind class.kind then [] else
    reverse (filter (is_mixed_in classes (superclass classes class.parents)) (drop 1 class.linear))

-- each class has these mixins, and none from the lowering of traits on
pub record MixinsFit (k : ℕ) (p : Program) : Type 0 where
  pub before : IsFalse (nat_le 2 k) → All (λ class. class.mixins ≡ mixins_of p.classes class) p.classes
  pub after : IsTrue (nat_le 2 k) → All (λ class. class.mixins ≡ []) p.classes

-- a call by `super` means what is behind the template in which it stands (SLS 6.5)
abbrev pub calls_from : ℕ → Tree → Bool
calls_from number node = unwrap_or (option_map (λ called. nat_eq called.0 number) (super_of node)) true

-- each call by `super` of the program does
abbrev pub SupersStand : Program → Type 0
SupersStand p = EachClass (λ number class. AllNodesOf (λ node. IsTrue (calls_from number node)) class) p.classes

-- as long as a trait has bodies, its methods have room for one parameter more, which is the object
abbrev pub has_room : Class → Bool
has_room class = not (is_trait_kind class.kind) || list_all (λ m. nat_le (length m.params) 120) class.methods

-- each trait of the program has that room, before their lowering
pub record TraitsHaveRoom (k : ℕ) (p : Program) : Type 0 where
  pub before : IsFalse (nat_le 2 k) → All (λ class. IsTrue (has_room class)) p.classes

-- the locals from a number on, in order
abbrev pub level_is_local : ℕ → ExprLevel → Bool
level_is_local number (Expr-F.Local local) = nat_eq local number
level_is_local number other = false

-- the locals from a number on
abbrev pub are_locals : ℕ → List Expr → Bool
are_locals number [] = true
are_locals number (e ∷ rest) = level_is_local number (out-Expr e) && are_locals (number + 1) rest

-- `this`, and then so many parameters
abbrev pub hands_on : ℕ → List Expr → Bool
hands_on count [] = false
hands_on count (e ∷ rest) = is_this (out-Expr e) && nat_eq (length rest) count && are_locals 0 rest

module _ (trait : ℕ) (methods : List Method) where
  -- a call of the trait's own static method of a name, with the object and so many parameters
  abbrev pub level_forwards : List ℕ → ℕ → ExprLevel → Bool
  level_forwards name count (Expr-F.StaticCall class method args) =
      nat_eq class trait && hands_on count args && unwrap_or (option_map (λ m. bytes_eq m.name name) (slice_get methods method)) false
  level_forwards name count other = false

  -- a method m that isn't static is deferred, or calls `m$` with the object and all its parameters
  abbrev pub method_lowered : Method → Bool
  method_lowered m =
      m.is_static || unwrap_or (option_map (λ body. level_forwards (m.name ++ codes "$") (length m.params) (out-Expr body)) m.body) true

-- a trait with nothing but such methods
abbrev pub trait_lowered : ℕ → Class → Bool
trait_lowered number class =
    is_empty class.fields && is_empty class.cells && is_empty class.super_args && is_empty class.body
    && list_all (method_lowered number class.methods) class.methods

-- a class is no trait, or a lowered one
abbrev pub class_lowered : ℕ → Class → Bool
class_lowered number class = not (is_trait_kind class.kind) || trait_lowered number class

-- from the lowering of traits on, each is lowered
pub record TraitsLowered (k : ℕ) (p : Program) : Type 0 where
  pub after : IsTrue (nat_le 2 k) → EachClass (λ number class. IsTrue (class_lowered number class)) p.classes
