use Rattle.std.proofs.Common.{[], subst, sym, refl, false, pos, get_or, ℕ, arith}
use Rattle.std.proofs.lemmas.Option.{slice_get-get_or}
use Rattle.cf_form.specs.declared.instr.Instr.{Instr}
use Rattle.cf_form.specs.Instructions.{Fits}
use Rattle.cf_instr.specs.Raws.{HasTarget}
use Rattle.cf_instr.proofs.Codes.{raw_is, has_target, code-fits, written_more, written, index_zero, offsets_low}
use Rattle.cf_instr.proofs.encoding.encode_at.Goals as goal

abbrev nothing : Instr
nothing = record { op = 0; wide = false; a = pos 0; b = pos 0 }

pub with_offset-raw-requires-clause-target : goal.with_offset-raw-requires-clause-target
with_offset-raw-requires-clause-target c =
    let code = c.args.instrs.now in
    let n = c.loop-n.n in
    subst (λ (t : ℕ). HasTarget t (get_or code n nothing)) (sym c.requires.offsets.many) (has_target code n (get_or code n nothing) c.requires.code (slice_get-get_or code n nothing c.loop-n-test.true))

pub with_offset-raw-requires-clause-low : goal.with_offset-raw-requires-clause-low
with_offset-raw-requires-clause-low c = offsets_low c.args.instrs.now c.args.offsets.now 65535 c.requires.offsets c.requires.short

pub with_offset-raw-requires-clause-here : goal.with_offset-raw-requires-clause-here
with_offset-raw-requires-clause-here c = offsets_low c.args.instrs.now c.args.offsets.now 65535 c.requires.offsets c.requires.short c.loop-n.n (omega (arith, c.requires.offsets.many))

pub put-requires : goal.put-requires
put-requires c =
    let code = c.args.instrs.now in
    let n = c.loop-n.n in
    let offsets = c.args.offsets.now in
    let raw = raw_is code offsets offsets n (get_or offsets n 0) nothing c.with_offset-raw.result c.requires.code c.loop-n-test.true c.requires.offsets.many c.requires.offsets.each refl (sym (index_zero offsets n (get_or offsets n 0) (omega (arith, c.requires.offsets.many)))) c.with_offset-raw.ensures in
    subst Fits (sym raw) (code-fits code n (get_or code n nothing) c.requires.code (slice_get-get_or code n nothing c.loop-n-test.true))

pub loop-n-preserved : goal.loop-n-preserved
loop-n-preserved c =
    let code = c.args.instrs.now in
    let n = c.loop-n.n in
    let offsets = c.args.offsets.now in
    let raw = raw_is code offsets offsets n (get_or offsets n 0) nothing c.with_offset-raw.result c.requires.code c.loop-n-test.true c.requires.offsets.many c.requires.offsets.each refl (sym (index_zero offsets n (get_or offsets n 0) (omega (arith, c.requires.offsets.many)))) c.with_offset-raw.ensures in
    written_more code n (get_or code n nothing) c.with_offset-raw.result [] c.loop-n.out.items c.put.new.out.items (slice_get-get_or code n nothing c.loop-n-test.true) raw c.loop-n.invariant c.in_ok-put.ensures

pub returns : goal.returns
returns c = written c.args.instrs.now c.loop-n.n [] c.loop-n.out.items c.loop-n-test.false c.loop-n.invariant
