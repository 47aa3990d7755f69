-- The main method that is looked up is that at which a program starts.
use Rattle.std.proofs.Common.{◌≡◌, ◌∙◌, ℕ, List, Option, Some, None, codes, refl, ap, subst}
use Rattle.std.specs.Prelude.{option_map, option_and_then}
use Rattle.std.proofs.lemmas.Option.{none-some, same_Some}
use Rattle.cf_form.specs.declared.class_file.ClassFile.{ClassFile}
use Rattle.cf_link.specs.Classes.{number_of, methods_of}
use Rattle.cf_link.specs.OfFiles.{names_of, is_main, IsMain}
use Rattle.cf_link.specs.declared.linked_class.LinkedClass.{LinkedClass}
use Rattle.cf_set.specs.Names.{AreDistinct, number_in}
use Rattle.cf_set.proofs.Distinct.{numbered_at, number_of_place, mapped_back}
use Rattle.cf_refs.specs.Main.{main_in}

pub looked_up : (files : List ClassFile) (classes : List LinkedClass) (main : ℕ × ℕ) → main_in (names_of files) classes ≡ Some main → IsMain files classes main
looked_up files classes main found = by (number_in (names_of files) (codes "Main")) refl found
  where
    by : (o : Option ℕ) → number_in (names_of files) (codes "Main") ≡ o
        → option_and_then (λ class. option_map (λ number. (class, number)) (number_of is_main (methods_of classes class))) o ≡ Some main → IsMain files classes main
    by None named is = absurd (none-some main is)
    by (Some class) named is =
        let at = mapped_back (λ number. (class, number)) (number_of is_main (methods_of classes class)) main is in
        let pair : (class, at.0) ≡ main = at.2 in
        subst (IsMain files classes) pair (record {
          class = numbered_at (names_of files) (codes "Main") class named;
          method = at.1;
        })

pub whole : (files : List ClassFile) → AreDistinct (names_of files) → (classes : List LinkedClass) (main : ℕ × ℕ) → IsMain files classes main → main_in (names_of files) classes ≡ Some main
whole files apart classes main is =
    ap (option_and_then (λ class. option_map (λ number. (class, number)) (number_of is_main (methods_of classes class))))
    (number_of_place (names_of files) apart main.0 (codes "Main") is.class)
    ∙ ap (option_map (λ number. (main.0, number))) is.method
