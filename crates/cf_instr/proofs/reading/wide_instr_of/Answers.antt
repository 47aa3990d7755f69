use Rattle.std.proofs.Common.{◌≡◌, List, ◌∷◌, [], ℕ, sym, subst, arith}
use Rattle.std.proofs.lemmas.List.{nil_from_length}
use Rattle.cf_form.specs.Instructions.{wide_opcode}
use Rattle.cf_instr.specs.Faults.{IsCutShort}
use Rattle.cf_instr.proofs.Beginning.{cut_wide}
use Rattle.cf_instr.proofs.reading.wide_instr_of.Goals as goal

pub returns-in-empty : goal.returns-in-empty
returns-in-empty c =
    let e : c.args.bytes.now ≡ [] = nil_from_length c.args.bytes.now (omega arith) in
    subst (λ (t : List ℕ). IsCutShort (wide_opcode ∷ t)) (sym e) cut_wide
