use Rattle.std.proofs.Common.{rules, Some, refl, ◌∙◌, ap, List, ◌++◌, ℕ}
use Rattle.std.specs.Int.{w32}
use mir.Val.{SFits, to_z, of_z}
use Rattle.cf_form.specs.Instructions.{operands}
use Rattle.cf_instr.proofs.Spelling.{fits_shape, fits_some, passed, spelled, ok_then}
use Rattle.cf_instr.proofs.writing.put.Goals as goal

pub put_operands-requires : goal.put_operands-requires
put_operands-requires c =
    let fa : SFits w32 c.args.raw.a = search rules in
    let fb : SFits w32 c.args.raw.b = search rules in
    passed c.in-Some.shape c.args.raw fa fb (fits_shape c.args.raw (Some c.in-Some.shape) c.in-Some.shape (cc) refl c.requires)

pub returns-in-Some : goal.returns-in-Some
returns-in-Some c =
    let fa : SFits w32 c.args.raw.a = search rules in
    let fb : SFits w32 c.args.raw.b = search rules in
    ok_then c.put_operands.result _ _ c.put_operands.ensures (λ e. spelled c.args.raw c.in-Some.shape c.put_operands.new.out.items c.args.out.now.items (cc) fa fb (e ∙ ap (λ (t : List ℕ). t ++ operands c.in-Some.shape c.args.raw.wide (to_z w32 (of_z w32 c.args.raw.a)) (to_z w32 (of_z w32 c.args.raw.b))) c.in_ok-put_opcode.ensures))

pub returns-in-None : goal.returns-in-None
returns-in-None c = absurd (fits_some c.args.raw (cc) c.requires)
