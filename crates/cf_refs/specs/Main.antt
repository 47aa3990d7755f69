-- The method at which a program starts, as it is looked up.
use Rattle.std.specs.Prelude.{ℕ, Bool, ◌&&◌, is_some, List, Option, codes, option_map, option_and_then}
use Rattle.cf_link.specs.Classes.{is_static, number_of, methods_of}
use Rattle.cf_link.specs.OfFiles.{is_main}
use Rattle.cf_link.specs.Resolution.{is_method}
use Rattle.cf_link.specs.declared.linked_class.LinkedClass.{LinkedClass}
use Rattle.cf_link.specs.declared.member.LinkedMethod.{LinkedMethod}
use Rattle.cf_set.specs.Names.{number_in}

-- a static method of this name and descriptor, with code
abbrev pub is_start : List ℕ → List ℕ → LinkedMethod → Bool
is_start name descriptor m = is_method name descriptor m && is_static m.access && is_some m.code

-- the class and number of the main method of a class `Main`
abbrev pub main_in : List (List ℕ) → List LinkedClass → Option (ℕ × ℕ)
main_in names classes =
    option_and_then (λ class. option_map (λ number. (class, number)) (number_of is_main (methods_of classes class))) (number_in names (codes "Main"))
