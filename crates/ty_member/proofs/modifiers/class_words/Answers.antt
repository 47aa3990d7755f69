use Rattle.std.proofs.Common.{Err, rules, arith}
use Rattle.std.proofs.lemmas.Grind.{common_steps}
use Rattle.ty_member.specs.Checked.{Gives}
use Rattle.ty_member.specs.Naming.{class_word, class_words}
use Rattle.ty_member.proofs.Each.{drop_read, each_goes, each_stops, each_ends}
use Rattle.ty_member.proofs.modifiers.class_words.Goals as goal

pub returns-in_err-words : goal.returns-in_err-words
returns-in_err-words c =
    let f : Gives (class_words c.args.modifiers.now) (Err c.in_err-words.field-0.0) =
    each_stops class_word c.args.modifiers.now c.loop-modifier.modifier-index c.loop-modifier.words (class_words c.args.modifiers.now) _ c.loop-modifier.invariant (drop_read c.args.modifiers.now c.loop-modifier.modifier-index _ (omega arith)) c.in_err-words.field-0.0 c.in_err-words.ensures in
    first_of (search rules, grind (arith, common_steps))

pub loop-modifier-preserved : goal.loop-modifier-preserved
loop-modifier-preserved c =
    each_goes class_word c.args.modifiers.now c.loop-modifier.modifier-index c.loop-modifier.words (class_words c.args.modifiers.now) _ c.loop-modifier.invariant (drop_read c.args.modifiers.now c.loop-modifier.modifier-index _ (omega arith)) c.in_ok-words.words c.in_ok-words.ensures

pub returns : goal.returns
returns c = each_ends class_word c.args.modifiers.now c.loop-modifier.modifier-index c.loop-modifier.words (class_words c.args.modifiers.now) c.loop-modifier.invariant (omega arith)
