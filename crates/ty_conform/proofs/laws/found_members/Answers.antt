use Rattle.std.proofs.Common.{sym, ◌∙◌}
use Rattle.ty_prog.specs.Find.{behind}
use Rattle.ty_conform.specs.Conforms.{linear_of}
use Rattle.ty_conform.proofs.Inherited.{find_linear}
use Rattle.ty_conform.proofs.Found.{super_linear, first_found, none_found}
use Rattle.ty_conform.proofs.laws.found_members.Goals as goal

pub returns : goal.returns
returns c = record {
  found = λ p class name found. (
    λ is. c.inheriting.ensures.first p.classes name (linear_of p.classes class) found (sym (find_linear p class name) ∙ is),
    λ first. find_linear p class name ∙ first_found p.classes name (linear_of p.classes class) found first,
  );
  super_found = λ p class after name found. (
    λ is. c.inheriting.ensures.first p.classes name (behind after (linear_of p.classes class)) found (sym (super_linear p class after name) ∙ is),
    λ first. super_linear p class after name ∙ first_found p.classes name (behind after (linear_of p.classes class)) found first,
  );
  none = λ p class name. (
    λ is. c.inheriting.ensures.none p.classes name (linear_of p.classes class) (sym (find_linear p class name) ∙ is),
    λ lacking. find_linear p class name ∙ none_found p.classes name (linear_of p.classes class) lacking,
  );
}
