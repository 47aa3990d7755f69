-- The names of class files that the first pass leaves.
use Rattle.std.proofs.Common.{◌≡◌, ◌∙◌, ℕ, ◌+◌, Bool, true, false, not, ◌||◌, List, [], ◌∷◌, ◌++◌, length, map, Option, Some, None, is_some, Ok, Err, cond, if◌then◌else◌, nat_lt, refl, sym, ap, append_assoc}
use Rattle.std.proofs.lemmas.List.{append-nil}
use Rattle.std.specs.List.{list_any, position_from}
use Rattle.std.specs.Str.{bytes_eq}
use Rattle.sl_text.specs.declared.span.Span.{Span}
use Rattle.sl_ast.specs.declared.ident.Ident.{Ident}
use Rattle.sl_ast.specs.declared.unit.TopDef.{TopDef}
use Rattle.sl_ast.specs.declared.unit.TopDef.TheVariants as tops
use Rattle.ty_prog.specs.declared.prelude_number.TheConstants.{PRELUDE_LEN}
use Rattle.ty_member.specs.Checked.{Outcome, ◌>>=◌, each}
use Rattle.ty_member.specs.Names.{has_name, with_name, number_in, object_file}
use Rattle.ty_member.specs.Naming.{is_own, is_first, is_class, is_case_class, is_object, is_reserved, name_rules, class_rules, object_rules, class_named, object_named, with_class, class_words, class_sort, trait_sort, object_sort, template}
use Rattle.ty_member.specs.Files.{file_of}
use Rattle.ty_member.specs.declared.known.Known.{Known}
use Rattle.ty_member.specs.declared.known.Sort.{Sort}

-- what follows a part that gives something
bind_ok : {A B : Type 0} (o : Outcome A) (g : A → Outcome B) (b : B) → (o >>= g) ≡ Ok b → (a : A) × (o ≡ Ok a) × (g a ≡ Ok b)
bind_ok (Ok a) g b h = (a, refl, h)
bind_ok (Err e) g b h = absurd (cc)

-- an outcome gives one thing
gives_one : {A : Type 0} (o : Outcome A) (a b : A) → o ≡ Ok a → o ≡ Ok b → a ≡ b
gives_one o a b one other = cc

-- a name has a number exactly where it is there
numbered : {A : Type 0} (test : A → Bool) (i : ℕ) (items : List A) → is_some (position_from test i items) ≡ list_any test items
numbered test i [] = refl
numbered test i (x ∷ items) = choose (test x) (Some i) (position_from test (i + 1) items) (list_any test items) refl (numbered test (i + 1) items)
  where
    choose : (b : Bool) (first rest : Option ℕ) (any : Bool) → is_some first ≡ true → is_some rest ≡ any → is_some (cond b first rest) ≡ (b || any)
    choose true first rest any here later = here
    choose false first rest any here later = later

new_name : (names : List (List ℕ)) (name : List ℕ) → is_some (number_in names name) ≡ false → has_name names name ≡ false
new_name names name none = sym (numbered (bytes_eq name) 0 names) ∙ none

with_new : (names : List (List ℕ)) (name : List ℕ) → has_name names name ≡ false → with_name names name ≡ names ++ name ∷ []
with_new names name new = ap (λ b. if b then names else names ++ name ∷ []) new

-- a name where no rule is broken
allowed : (double reserved : Bool) (count : ℕ) (at : Span) (u : Unit {0}) → name_rules double reserved count at ≡ Ok u → (double ≡ false) × (reserved ≡ false)
allowed true reserved count at u h = absurd (cc)
allowed false true count at u h = absurd (cc)
allowed false false count at u h = (refl, refl)

neither : (a b : Bool) → (a || b) ≡ false → (a ≡ false) × (b ≡ false)
neither true b h = absurd (cc)
neither false b h = (refl, h)

-- a number is that of no class
no_class : (number : Option ℕ) → is_own number ≡ false → is_first number ≡ false → is_some number ≡ false
no_class None own first = refl
no_class (Some number) own first = by (nat_lt number PRELUDE_LEN) own first
  where
    by : (b : Bool) → not b ≡ false → b ≡ false → true ≡ false
    by true own first = first
    by false own first = own

class_files : (sort : Sort) (name : Ident) (s t : Known) → class_named sort name s ≡ Ok t → t.files ≡ s.files ++ name.name ∷ []
class_files sort name s t h =
    let ruled = bind_ok (class_rules sort.is_case name s) (λ _. Ok (with_class name.name sort s)) t h in
    let free = allowed _ _ _ _ ruled.0 ruled.1 in
    let own = (neither (is_class s name.name) _ free.0).0 in
    let reserved = (neither (is_reserved s name.name) _ free.1).0 in
    let first = (neither _ (is_first (number_in s.files name.name)) reserved).1 in
    let new = new_name s.files name.name (no_class (number_in s.files name.name) own first) in
    let made = gives_one (Ok (with_class name.name sort s)) (with_class name.name sort s) t refl ruled.2 in
    ap (λ k. k.files) (sym made) ∙ with_new s.files name.name new

object_files : (name : Ident) (s t : Known) → object_named name s ≡ Ok t → t.files ≡ s.files ++ object_file name.name ∷ []
object_files name s t h =
    let ruled = bind_ok (object_rules name s) (λ _. Ok (with_class (object_file name.name) object_sort s)) t h in
    let free = allowed (is_object s name.name || is_case_class s name.name) (is_reserved s name.name) (length s.files) name.span ruled.0 ruled.1 in
    let none = (neither (is_object s name.name) _ free.0).0 in
    let made = gives_one (Ok (with_class (object_file name.name) object_sort s)) (with_class (object_file name.name) object_sort s) t refl ruled.2 in
    ap (λ k. k.files) (sym made) ∙ with_new s.files (object_file name.name) (new_name s.files (object_file name.name) none)

template_files : (def : TopDef) (s t : Known) → template def s ≡ Ok t → t.files ≡ s.files ++ file_of def ∷ []
template_files (tops.Class modifiers is_case name params body at) s t h =
    let words = bind_ok (class_words modifiers) (λ words. class_named (class_sort words is_case) name s) t h in
    class_files (class_sort words.0 is_case) name s t words.2
template_files (tops.Trait is_sealed name body at) s t h = class_files (trait_sort is_sealed) name s t h
template_files (tops.Object name body at) s t h = object_files name s t h

-- the names of all templates stand behind those that were there
pub all_files : (defs : List TopDef) (s t : Known) → each template defs s ≡ Ok t → t.files ≡ s.files ++ map file_of defs
unfolding each
all_files [] s t h = ap (λ k. k.files) (sym (gives_one (Ok s) s t refl h)) ∙ sym (append-nil s.files)
all_files (def ∷ defs) s t h =
    let one = bind_ok (template def s) (each template defs) t h in
    all_files defs one.0 t one.2 ∙ ap (λ files. files ++ map file_of defs) (template_files def s one.0 one.1)
    ∙ append_assoc s.files (file_of def ∷ []) (map file_of defs)
