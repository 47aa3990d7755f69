use Rattle.std.proofs.Common.{sym, subst, List}
use Rattle.std.specs.List.{AllByRecursion}
use Rattle.cf_form.specs.ClassFiles.{NamesWell}
use Rattle.cf_form.specs.declared.instr.Instr.{Instr}
use Rattle.cf_read.specs.Codes.{Unnamed}
use Rattle.cf_read.specs.Looking.{IsCodeStop}
use Rattle.cf_read.specs.Views.{found_of}
use Rattle.cf_read.proofs.Refusing.{index_of_code}
use Rattle.cf_read.proofs.codes.code_of.Goals as goal

pub with_handlers-requires-clause-names : goal.with_handlers-requires-clause-names
with_handlers-requires-clause-names c = subst (λ (l : List Instr). AllByRecursion (NamesWell c.args.pool.now) l) c.deref.ensures.value c.in-None.ensures.named

pub returns-in-Some : goal.returns-in-Some
returns-in-Some c =
    let pool = c.args.pool.now in
    let found = found_of c.args.found.now in
    subst (IsCodeStop pool found) (sym c.refused_index.ensures) (Unnamed c.in-Some.at (index_of_code pool found.code c.in-Ok.instrs.items c.in-Some.at c.in-Ok.ensures.found.0 c.in-Ok.ensures.found.1 c.in-Some.ensures.named))
