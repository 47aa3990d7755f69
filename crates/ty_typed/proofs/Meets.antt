-- The kinds of the values of several expressions are those of each.
use Rattle.std.proofs.Common.{◌≡◌, ◌∙◌, ℕ, ◌+◌, ◌<◌, Bool, true, false, List, [], ◌∷◌, ◌++◌, map, length, drop, get_or, refl, ap, sym}
use Rattle.std.proofs.lemmas.List.{drop_more}
use Rattle.std.proofs.lemmas.List.Folds.{list_all-append}
use Rattle.std.specs.Prelude.{◌&&◌}
use Rattle.ty_prog.specs.declared.class.Class.{Class}
use Rattle.ty_prog.specs.declared.ty.Ty.{Ty}
use Rattle.ty_prog.specs.declared.ty.Ty.TheVariants as ty
use Rattle.ty_typed.specs.declared.operands.Choices.{Choices}
use Rattle.ty_typed.specs.declared.operands.Choices.TheVariants as choices
use Rattle.ty_typed.specs.declared.value_kinds.KindsFit.{KindsFit}
use Rattle.ty_typed.specs.Kinds.{kinds_fit, all_kinds_fit, both, every, type_kinds, first_that_fits}
use Rattle.ty_typed.specs.Parts.{list_of}
use Rattle.ty_typed.specs.Stands.{common, numbers, stands_for}
use Rattle.ty_typed.specs.Types.{all_of}

abbrev made : Bool → Bool → Bool → Bool → Bool → Bool → Bool → KindsFit
made never reference unit boolean int long array =
    record { never = never; reference = reference; unit = unit; boolean = boolean; int = int; long = long; array = array }

made_same : {a b c d e f g a' b' c' d' e' f' g' : Bool} → a ≡ a' → b ≡ b' → c ≡ c' → d ≡ d' → e ≡ e' → f ≡ f' → g ≡ g'
    → made a b c d e f g ≡ made a' b' c' d' e' f' g'
made_same p q r s t u v = cc

and_assoc : (a b c : Bool) → ((a && b) && c) ≡ (a && (b && c))
and_assoc true b c = refl
and_assoc false b c = refl

and_true : (a : Bool) → (a && true) ≡ a
and_true true = refl
and_true false = refl

pub both_assoc : (one next last : KindsFit) → both (both one next) last ≡ both one (both next last)
both_assoc one next last =
    made_same (and_assoc one.never next.never last.never) (and_assoc one.reference next.reference last.reference)
    (and_assoc one.unit next.unit last.unit) (and_assoc one.boolean next.boolean last.boolean)
    (and_assoc one.int next.int last.int) (and_assoc one.long next.long last.long) (and_assoc one.array next.array last.array)

pub both_every : (one : KindsFit) → both one every ≡ one
both_every one =
    made_same (and_true one.never) (and_true one.reference) (and_true one.unit) (and_true one.boolean) (and_true one.int) (and_true one.long) (and_true one.array)

pub kinds_append : (classes : List Class) (types more : List Ty) → kinds_fit classes (types ++ more) ≡ both (kinds_fit classes types) (kinds_fit classes more)
kinds_append classes types more =
    let split : (wanted : Ty) → _ = λ wanted. list_all-append (λ lower. stands_for classes lower wanted) types more in
    made_same (split ty.Nothing) (split ty.Any) (split ty.Unit) (split ty.Boolean) (split ty.Int) (split ty.Long) (split ty.Array)

pub kinds_of_one : (classes : List Class) (type : Ty) → kinds_fit classes (type ∷ []) ≡ type_kinds type
kinds_of_one classes ty.Any = refl
kinds_of_one classes ty.AnyRef = refl
kinds_of_one classes ty.Nothing = refl
kinds_of_one classes ty.Null = refl
kinds_of_one classes ty.Unit = refl
kinds_of_one classes ty.Boolean = refl
kinds_of_one classes ty.Int = refl
kinds_of_one classes ty.Long = refl
kinds_of_one classes ty.Text = refl
kinds_of_one classes ty.Array = refl
kinds_of_one classes (ty.Class class) = refl

pub common_by_kinds : (classes : List Class) (choices : Choices) (several : List (List Ty))
    → common classes (list_of choices) several ≡ first_that_fits (list_of choices) (all_kinds_fit classes several)
common_by_kinds classes choices.Numbers several = refl
common_by_kinds classes choices.Bits several = refl
common_by_kinds classes choices.Compared several = refl
common_by_kinds classes choices.Kinds several = refl

pub common_one : (classes : List Class) (types : List Ty) → common classes numbers (types ∷ []) ≡ first_that_fits numbers (kinds_fit classes types)
common_one classes types =
    ap (λ fit. first_that_fits numbers fit) (both_every (kinds_fit classes types))

-- one more of several, over what tells the kinds of all of them
module _ (kinds : List Ty → KindsFit) (all : List (List Ty) → KindsFit) (cons : (types : List Ty) (rest : List (List Ty)) → all (types ∷ rest) ≡ both (kinds types) (all rest)) where
  pub one_more : {A : Type 0} (f : A → List Ty) (xs : List A) (i : ℕ) (x : A) (fit whole : KindsFit) → i < length xs → x ≡ get_or xs i x
      → whole ≡ both fit (all (map f (drop i xs))) → whole ≡ both (both fit (kinds (f x))) (all (map f (drop (i + 1) xs)))
  one_more f xs i x fit whole within is so_far =
      let next : drop i xs ≡ x ∷ drop (i + 1) xs = drop_more xs i x within ∙ ap (λ y. y ∷ drop (i + 1) xs) (sym is) in
      so_far ∙ ap (λ rest. both fit (all (map f rest))) next ∙ ap (both fit) (cons (f x) (map f (drop (i + 1) xs)))
      ∙ sym (both_assoc fit (kinds (f x)) (all (map f (drop (i + 1) xs))))

pub all_cons : (classes : List Class) (types : List Ty) (rest : List (List Ty))
    → all_kinds_fit classes (types ∷ rest) ≡ both (kinds_fit classes types) (all_kinds_fit classes rest)
all_cons classes types rest = refl

pub case_cons : (classes : List Class) (types : List Ty) (rest : List (List Ty))
    → kinds_fit classes (all_of (types ∷ rest)) ≡ both (kinds_fit classes types) (kinds_fit classes (all_of rest))
case_cons classes types rest = kinds_append classes types (all_of rest)
