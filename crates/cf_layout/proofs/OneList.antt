-- Class files have one list of linked classes at most.
use Rattle.std.proofs.Common.{◌≡◌, ◌∙◌, ℕ, suc, zero, ◌+◌, List, [], ◌∷◌, ◌++◌, Option, Some, None, slice_get, refl, sym, ap, subst, map, reverse, length}
use Rattle.std.specs.Prelude.{option_map, option_to_list, codes}
use Rattle.std.specs.List.{flat_map}
use Rattle.std.specs.Option.{unwrap_or}
use Rattle.std.proofs.lemmas.Option.{same_Some, none-some}
use Rattle.ty_linear.specs.Linear.{IsLinearisation}
use Rattle.ty_linear.proofs.Merges.{linear_only}
use Rattle.cf_form.specs.ClassFiles.{Each}
use Rattle.cf_form.specs.declared.class_file.ClassFile.{ClassFile}
use Rattle.cf_link.specs.BuiltIns.{BuiltIn, built_ins, IsBuiltIn}
use Rattle.cf_link.specs.Classes.{number_of, chain_of, fields_of}
use Rattle.cf_link.specs.Faults.{HasNone}
use Rattle.cf_link.specs.Layout.{own_slots, slots_by}
use Rattle.cf_link.specs.Linked.{IsClass, supertypes, chain_above}
use Rattle.cf_link.specs.OfFiles.{names_of, IsOfFile, AreClasses}
use Rattle.cf_link.specs.Resolution.{is_method}
use Rattle.cf_link.specs.declared.fault.LinkKind.TheVariants.{Twice}
use Rattle.cf_link.specs.declared.linked_class.LinkedClass.{LinkedClass}
use Rattle.cf_link.specs.declared.member.LinkedField.{LinkedField}
use Rattle.cf_link.specs.declared.member.LinkedMethod.{LinkedMethod}
use Rattle.cf_link.specs.declared.member.Slot.{Slot}
use Rattle.cf_set.specs.Names.{AreDistinct}
use Rattle.cf_set.proofs.Distinct.{get_right, names_distinct}
use Rattle.cf_layout.proofs.Alike.{AreAlike, HasKinds, alike_built, alike_file}

-- each class of a list has the kinds of its members
abbrev AllKinds : List LinkedClass → Type 0
AllKinds classes = (k : ℕ) (c : LinkedClass) → slice_get classes k ≡ Some c → HasKinds c

built_alike : (bs : List BuiltIn) (xs ys : List LinkedClass) → Each IsBuiltIn bs xs → Each IsBuiltIn bs ys → Each AreAlike xs ys
built_alike [] [] [] one other = tt
built_alike (b ∷ bs) (x ∷ xs) (y ∷ ys) one other = (alike_built b x y one.0 other.0, built_alike bs xs ys one.1 other.1)
built_alike [] [] (y ∷ ys) one other = absurd other
built_alike [] (x ∷ xs) ys one other = absurd one
built_alike (b ∷ bs) [] ys one other = absurd one
built_alike (b ∷ bs) (x ∷ xs) [] one other = absurd other

files_alike : (names : List (List ℕ)) → AreDistinct names → (files : List ClassFile) (xs ys : List LinkedClass) → Each (IsOfFile names) files xs → Each (IsOfFile names) files ys
    → AllKinds xs → AllKinds ys → Each AreAlike xs ys
files_alike names apart [] [] [] one other kinds kinds' = tt
files_alike names apart (f ∷ files) (x ∷ xs) (y ∷ ys) one other kinds kinds' = (
  alike_file names apart f x y one.0 other.0 (kinds 0 x refl) (kinds' 0 y refl),
  files_alike names apart files xs ys one.1 other.1 (λ k c at. kinds (suc k) c at) (λ k c at. kinds' (suc k) c at),
)
files_alike names apart [] [] (y ∷ ys) one other kinds kinds' = absurd other
files_alike names apart [] (x ∷ xs) ys one other kinds kinds' = absurd one
files_alike names apart (f ∷ files) [] ys one other kinds kinds' = absurd one
files_alike names apart (f ∷ files) (x ∷ xs) [] one other kinds kinds' = absurd other

joined : (xs ys us vs : List LinkedClass) → Each AreAlike xs ys → Each AreAlike us vs → Each AreAlike (xs ++ us) (ys ++ vs)
joined [] [] us vs one other = other
joined (x ∷ xs) (y ∷ ys) us vs one other = (one.0, joined xs ys us vs one.1 other)
joined [] (y ∷ ys) us vs one other = absurd one
joined (x ∷ xs) [] us vs one other = absurd one

kinds_behind : (front back : List LinkedClass) → AllKinds (front ++ back) → AllKinds back
kinds_behind front back kinds = λ k c at. kinds (length front + k) c (get_right front back k ∙ at)

kinds_of : (classes : List LinkedClass) → ((class : ℕ) (c : LinkedClass) → slice_get classes class ≡ Some c → IsClass classes class c) → AllKinds classes
kinds_of classes each = λ k c at. (let is = each k c at in record { fields = is.fields; statics = is.statics; methods = is.methods })

-- the classes of two lists declare the same
pub lists_alike : (files : List ClassFile) → HasNone files Twice → (a b : List LinkedClass) → AreClasses files a → AreClasses files b → Each AreAlike a b
lists_alike files different a b one other =
    subst (λ xs. Each AreAlike xs b) (sym one.both) (subst (λ ys. Each AreAlike (one.built_in ++ one.of_files) ys) (sym other.both)
    (joined one.built_in other.built_in one.of_files other.of_files (built_alike built_ins one.built_in other.built_in one.are_built_in other.are_built_in)
    (files_alike (names_of files) (names_distinct files different) files one.of_files other.of_files one.are_of_files other.are_of_files
    (kinds_behind one.built_in one.of_files (subst AllKinds one.both (kinds_of a one.each)))
    (kinds_behind other.built_in other.of_files (subst AllKinds other.both (kinds_of b other.each))))))

-- what stands at a number of the other list
data AtNumber : Option LinkedClass → Option LinkedClass → Type 0 where
  none : AtNumber None None
  some : (c d : LinkedClass) → AreAlike c d → AtNumber (Some c) (Some d)

at_number : (a b : List LinkedClass) → Each AreAlike a b → (k : ℕ) → AtNumber (slice_get a k) (slice_get b k)
at_number [] [] alike k = none
at_number (x ∷ a) (y ∷ b) alike zero = some x y alike.0
at_number (x ∷ a) (y ∷ b) alike (suc k) = at_number a b alike.1 k
at_number [] (y ∷ b) alike k = absurd alike
at_number (x ∷ a) [] alike k = absurd alike

-- the direct supertypes of two lists are the same
same_supertypes : (a b : List LinkedClass) → Each AreAlike a b → map supertypes a ≡ map supertypes b
same_supertypes [] [] alike = refl
same_supertypes (x ∷ a) (y ∷ b) alike =
    ap (λ row. row ∷ map supertypes a) (ap (λ p. option_to_list p ++ x.interfaces) alike.0.parent ∙ ap (λ is. option_to_list y.parent ++ is) alike.0.interfaces)
    ∙ ap (λ rows. supertypes y ∷ rows) (same_supertypes a b alike.1)
same_supertypes [] (y ∷ b) alike = absurd alike
same_supertypes (x ∷ a) [] alike = absurd alike

same_fields_at : (a b : List LinkedClass) → Each AreAlike a b → (k : ℕ) → fields_of a k ≡ fields_of b k
same_fields_at a b alike k = by (slice_get a k) (slice_get b k) (at_number a b alike k)
  where
    by : (o p : Option LinkedClass) → AtNumber o p → unwrap_or (option_map (λ c. c.fields) o) [] ≡ unwrap_or (option_map (λ c. c.fields) p) []
    by o p none = refl
    by o p (some c d is) = is.fields

abbrev slot : ℕ → LinkedField → Slot
slot class f = record { class = class; kind = f.kind }

slots_along : (a b : List LinkedClass) → Each AreAlike a b → (ks : List ℕ) → flat_map (own_slots a) ks ≡ flat_map (own_slots b) ks
slots_along a b alike [] = refl
slots_along a b alike (k ∷ ks) =
    ap (λ fs. map (λ (f : LinkedField). slot k f) fs ++ flat_map (own_slots a) ks) (same_fields_at a b alike k)
    ∙ ap (λ xs. own_slots b k ++ xs) (slots_along a b alike ks)

-- each class of a list has the chain that it should have
abbrev AllChains : List LinkedClass → Type 0
AllChains classes = (class : ℕ) (c : LinkedClass) → slice_get classes class ≡ Some c → c.chain ≡ class ∷ chain_above classes c.parent

module _ (a b : List LinkedClass) (alike : Each AreAlike a b) (chains : AllChains a) (chains' : AllChains b) where
  -- the chain of a class is the same in both
  same_chain : (xs : List ℕ) (class : ℕ) → chain_of a class ≡ xs → chain_of b class ≡ xs
  same_chain [] class is = by (slice_get a class) (slice_get b class) refl refl (at_number a b alike class)
    where
      by : (o p : Option LinkedClass) → slice_get a class ≡ o → slice_get b class ≡ p → AtNumber o p → chain_of b class ≡ []
      by o p at at' none = ap (λ o. unwrap_or (option_map (λ c. c.chain) o) []) at'
      by o p at at' (some c d same) =
          let empty : class ∷ chain_above a c.parent ≡ [] = sym (chains class c at) ∙ sym (ap (λ o. unwrap_or (option_map (λ c. c.chain) o) []) at) ∙ is in
          absurd (cc)
  same_chain (x ∷ xs) class is = by (slice_get a class) (slice_get b class) refl refl (at_number a b alike class) (λ p up. same_chain xs p up)
    where
      above : (parent : Option ℕ) → ((p : ℕ) → chain_of a p ≡ xs → chain_of b p ≡ xs) → chain_above a parent ≡ xs → chain_above b parent ≡ xs
      above None further up = up
      above (Some p) further up = further p up

      by : (o p : Option LinkedClass) → slice_get a class ≡ o → slice_get b class ≡ p → AtNumber o p → ((p : ℕ) → chain_of a p ≡ xs → chain_of b p ≡ xs) → chain_of b class ≡ x ∷ xs
      by o p at at' none further =
          let empty : [] ≡ x ∷ xs = sym (ap (λ o. unwrap_or (option_map (λ c. c.chain) o) []) at) ∙ is in
          absurd (cc)
      by o p at at' (some c d same) further =
          let whole : class ∷ chain_above a c.parent ≡ x ∷ xs = sym (chains class c at) ∙ sym (ap (λ o. unwrap_or (option_map (λ c. c.chain) o) []) at) ∙ is in
          let first : class ≡ x = cc in
          let rest : chain_above a c.parent ≡ xs = cc in
          ap (λ o. unwrap_or (option_map (λ c. c.chain) o) []) at' ∙ chains' class d at'
          ∙ ap (λ p. class ∷ chain_above b p) (sym same.parent) ∙ ap (λ xs. class ∷ xs) (above c.parent further rest) ∙ ap (λ c. c ∷ xs) first

whole : List ℕ → ℕ → Option ℕ → List ℕ → List ℕ → List ℕ → List LinkedField → List LinkedField → List LinkedMethod → List Slot → Option ℕ → LinkedClass
whole name access parent interfaces chain line fields statics methods slots initialiser = record {
  name = name;
  access = access;
  parent = parent;
  interfaces = interfaces;
  chain = chain;
  line = line;
  fields = fields;
  statics = statics;
  methods = methods;
  slots = slots;
  initialiser = initialiser;
}

whole_is : (c : LinkedClass) → whole c.name c.access c.parent c.interfaces c.chain c.line c.fields c.statics c.methods c.slots c.initialiser ≡ c
unfolding whole
whole_is c = refl

same_class : (a b : List LinkedClass) → Each AreAlike a b → AllChains a → AllChains b → (class : ℕ) (c d : LinkedClass) → slice_get a class ≡ Some c → slice_get b class ≡ Some d
    → AreAlike c d → IsClass a class c → IsClass b class d → c ≡ d
same_class a b alike chains chains' class c d at at' same is is' =
    let chain_a : chain_of a class ≡ c.chain = ap (λ o. unwrap_or (option_map (λ c. c.chain) o) []) at in
    let chain_b : chain_of b class ≡ d.chain = ap (λ o. unwrap_or (option_map (λ c. c.chain) o) []) at' in
    let chain : c.chain ≡ d.chain = sym (sym chain_b ∙ same_chain a b alike chains chains' c.chain class chain_a) in
    let line : c.line ≡ d.line =
    linear_only (map supertypes b) class c.line d.line (subst (λ rows. IsLinearisation rows class c.line) (same_supertypes a b alike) is.line) is'.line in
    let slots : c.slots ≡ d.slots = is.slots ∙ slots_along a b alike (reverse c.chain) ∙ ap (slots_by b) chain ∙ sym is'.slots in
    let initialiser : c.initialiser ≡ d.initialiser = is.initialiser ∙ ap (number_of (is_method (codes "<clinit>") (codes "()V"))) same.methods ∙ sym is'.initialiser in
    let name : c.name ≡ d.name = same.name in
    let access : c.access ≡ d.access = same.access in
    let parent : c.parent ≡ d.parent = same.parent in
    let interfaces : c.interfaces ≡ d.interfaces = same.interfaces in
    let fields : c.fields ≡ d.fields = same.fields in
    let statics : c.statics ≡ d.statics = same.statics in
    let methods : c.methods ≡ d.methods = same.methods in
    let both : whole c.name c.access c.parent c.interfaces c.chain c.line c.fields c.statics c.methods c.slots c.initialiser
    ≡ whole d.name d.access d.parent d.interfaces d.chain d.line d.fields d.statics d.methods d.slots d.initialiser = cc in
    sym (whole_is c) ∙ both ∙ whole_is d

-- lists with the same at each number are one
same_places : (a b : List LinkedClass) → ((k : ℕ) → slice_get a k ≡ slice_get b k) → a ≡ b
same_places [] [] each = refl
same_places [] (y ∷ b) each = absurd (none-some y (each 0))
same_places (x ∷ a) [] each = absurd (none-some x (sym (each 0)))
same_places (x ∷ a) (y ∷ b) each = ap (λ c. c ∷ a) (same_Some x y (each 0)) ∙ ap (λ cs. y ∷ cs) (same_places a b (λ k. each (suc k)))

pub one_list : (files : List ClassFile) (a b : List LinkedClass) → HasNone files Twice → AreClasses files a → AreClasses files b → a ≡ b
one_list files a b different one other = same_places a b each
  where
    alike : Each AreAlike a b
    alike = lists_alike files different a b one other

    each : (k : ℕ) → slice_get a k ≡ slice_get b k
    each k = by (slice_get a k) (slice_get b k) refl refl (at_number a b alike k)
      where
        by : (o p : Option LinkedClass) → slice_get a k ≡ o → slice_get b k ≡ p → AtNumber o p → slice_get a k ≡ slice_get b k
        by o p at at' none = at ∙ sym at'
        by o p at at' (some c d same) =
            at ∙ ap Some (same_class a b alike (λ class c at. (one.each class c at).chain) (λ class c at. (other.each class c at).chain) k c d at at' same (one.each k c at) (other.each k d at')) ∙ sym at'
