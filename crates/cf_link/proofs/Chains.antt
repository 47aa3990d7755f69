-- What stands at the slots of the methods of a class of a chain.
use Rattle.std.proofs.Common.{◌≡◌, ◌∙◌, ℕ, zero, suc, List, [], ◌∷◌, ◌++◌, length, reverse, map, get_or, refl, sym, ap, subst, Option, Some, None, append-nil}
use Rattle.std.specs.Prelude.{slice_get, option_map, option_and_then}
use Rattle.std.specs.List.{flat_map}
use Rattle.std.specs.Option.{unwrap_or}
use Rattle.std.proofs.lemmas.Grind.{flat_map-append}
use Rattle.std.proofs.lemmas.List.{reverse-append}
use Rattle.std.proofs.lemmas.Option.{unwrap_or-slice_get}
use Rattle.cf_link.specs.declared.linked_class.LinkedClass.{LinkedClass}
use Rattle.cf_link.specs.Classes.{chain_of}
use Rattle.cf_link.specs.Selection.{chosen_all}
use Rattle.cf_link.specs.Layout.{method_slots}
use Rattle.cf_link.specs.Linked.{chain_above}
use Rattle.cf_link.specs.TableSlots.{at_slot}

-- each class of a list has the chain that it should have
abbrev pub AllChain : List LinkedClass → Type 0
AllChain classes = (class : ℕ) (c : LinkedClass) → slice_get classes class ≡ Some c → c.chain ≡ class ∷ chain_above classes c.parent

-- a class whose chain isn't empty begins it, and its superclass's chain follows
pub data ChainCases (classes : List LinkedClass) (class : ℕ) : List ℕ → Type 0 where
  none : ChainCases classes class []
  more : (c : LinkedClass) → slice_get classes class ≡ Some c → ChainCases classes class (class ∷ chain_above classes c.parent)

chain_cases : (classes : List LinkedClass) → AllChain classes → (class : ℕ) → (o : Option LinkedClass) → slice_get classes class ≡ o → ChainCases classes class (unwrap_or (option_map (λ c. c.chain) o) [])
chain_cases classes all class None e = none
chain_cases classes all class (Some c) e = subst (ChainCases classes class) (sym (all class c e)) (more c e)

pub chain_case : (classes : List LinkedClass) → AllChain classes → (class : ℕ) → ChainCases classes class (chain_of classes class)
chain_case classes all class = chain_cases classes all class (slice_get classes class) refl

pub at_slot_is : (slots : List (Option (ℕ × ℕ))) (i : ℕ) → at_slot slots i ≡ get_or slots i None
at_slot_is slots i = unwrap_or-slice_get slots i None

pub at_map : {A : Type 0} (f : A → Option (ℕ × ℕ)) (xs : List A) (i : ℕ) → get_or (map f xs) i None ≡ option_and_then f (slice_get xs i)
at_map f [] i = refl
at_map f (x ∷ xs) zero = refl
at_map f (x ∷ xs) (suc i) = at_map f xs i

pub length_all : {A B : Type 0} (f : A → B) (xs : List A) → length (map f xs) ≡ length xs
length_all f [] = refl
length_all f (x ∷ xs) = ap suc (length_all f xs)

pub method_slots_more : (classes : List LinkedClass) (class d : ℕ) (up : List ℕ) → method_slots classes class (d ∷ up) ≡ method_slots classes class up ++ chosen_all classes class d
method_slots_more classes class d up =
    ap (flat_map (chosen_all classes class)) (reverse-append (d ∷ []) up) ∙ flat_map-append (chosen_all classes class) (reverse up) (d ∷ []) ∙ ap (λ xs. method_slots classes class up ++ xs) (append-nil (chosen_all classes class d))
