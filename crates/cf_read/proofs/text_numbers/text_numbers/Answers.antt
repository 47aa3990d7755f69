use Rattle.std.proofs.Common.{rules, ◌≡◌, ◌<◌, ◌^◌, ◌∷◌, []}
use Rattle.std.proofs.lemmas.List.{take_all}
use Rattle.cf_read.proofs.Numbering.{numbering_none, numbering_more, numbers_texts}
use Rattle.cf_read.proofs.text_numbers.text_numbers.Goals as goal

pub loop-i-init : goal.loop-i-init
loop-i-init c =
    let items : c.push.new.self.items ≡ 0 ∷ [] = search rules in
    rw items (numbering_none c.new-firsts.result c.new-firsts.ensures.empty)

pub loop-i-preserved : goal.loop-i-preserved
loop-i-preserved c =
    let small : c.in_ok-number.number < 2 ^ 16 = search rules in
    rw c.in_ok-push-2.ensures.items (numbering_more c.args.pool.now c.loop-i.i _ c.loop-i.texts.items c.loop-i.firsts c.number_of.new.firsts c.in_ok-number.number c.loop-i-test.true c.index-pool-i.is small c.loop-i.invariant c.in_ok-number.ensures)

pub returns : goal.returns
returns c =
    let pool = c.args.pool.now in
    numbers_texts pool c.loop-i.texts.items c.loop-i.firsts (rw (take_all c.loop-i.i pool c.loop-i-test.false) at c.loop-i.invariant)
