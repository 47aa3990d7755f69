use Rattle.std.proofs.Common.{◌≡◌, drop}
use Rattle.ty_member.specs.Checked.{each}
use Rattle.ty_member.specs.Naming.{class_word, class_words}
use Rattle.ty_member.proofs.modifiers.class_words.Given as goal

abbrev pub invariant-loop-modifier : goal.invariant-loop-modifier
invariant-loop-modifier l = each class_word (drop l.modifier-index l.modifiers) l.words ≡ class_words l.fn.modifiers
