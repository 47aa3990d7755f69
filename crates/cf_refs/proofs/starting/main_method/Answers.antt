use Rattle.std.proofs.Common.{◌≡◌, ◌∙◌, ℕ, List, Option, Some, None, codes, sym, ap}
use Rattle.std.specs.Prelude.{option_map, option_and_then}
use Rattle.cf_link.specs.Classes.{number_of, methods_of}
use Rattle.cf_link.specs.OfFiles.{is_main}
use Rattle.cf_link.specs.declared.linked_class.LinkedClass.{LinkedClass}
use Rattle.cf_set.specs.Names.{number_in}
use Rattle.cf_refs.specs.Main.{main_in}
use Rattle.cf_refs.proofs.starting.main_method.Goals as goal

-- the main method of a class `Main` that is there
main_of : (names : List (List ℕ)) (classes : List LinkedClass) (class : ℕ) (number : Option ℕ) → number_in names (codes "Main") ≡ Some class
    → number_of is_main (methods_of classes class) ≡ number → option_map (λ i. (class, i)) number ≡ main_in names classes
main_of names classes class number named found = sym (
    ap (option_and_then (λ c. option_map (λ i. (c, i)) (number_of is_main (methods_of classes c)))) named
    ∙ ap (option_map (λ i. (class, i))) found)

pub returns-in-Some-number : goal.returns-in-Some-number
returns-in-Some-number c =
    main_of c.args.names.now c.args.classes.now c.in-Some.class (Some c.in-Some-number.number) (sym c.in_ok-class.ensures ∙ c.in-Some.is)
    (ap (number_of is_main) (sym c.methods_of.ensures) ∙ sym c.in_ok-number-in-Some.ensures ∙ c.in-Some-number.is)

pub returns-in-None-number : goal.returns-in-None-number
returns-in-None-number c =
    main_of c.args.names.now c.args.classes.now c.in-Some.class None (sym c.in_ok-class.ensures ∙ c.in-Some.is)
    (ap (number_of is_main) (sym c.methods_of.ensures) ∙ sym c.in_ok-number-in-Some.ensures ∙ c.in-None-number.is)
