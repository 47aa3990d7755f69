use Rattle.std.proofs.Common.{sym, subst}
use Rattle.cf_read.specs.Codes.{Refused, Unnamed}
use Rattle.cf_read.specs.Looking.{IsCodeStop}
use Rattle.cf_read.specs.Views.{found_of}
use Rattle.cf_read.proofs.Refusing.{bad_code, bad_before, index_before}
use Rattle.cf_read.proofs.codes.first_of.Goals as goal

pub returns-in-None : goal.returns-in-None
returns-in-None c =
    let pool = c.args.pool.now in
    let found = found_of c.args.found.now in
    subst (IsCodeStop pool found) (sym c.refused_code.ensures) (Refused c.args.fault.at (bad_code pool found.code c.args.fault c.requires.some c.requires.refused c.in-None.ensures.named))

pub returns-then-before-at : goal.returns-then-before-at
returns-then-before-at c =
    let pool = c.args.pool.now in
    let found = found_of c.args.found.now in
    subst (IsCodeStop pool found) (sym c.refused_index.ensures) (Unnamed c.in-Some.before (index_before pool found.code c.args.fault c.in-Some.before c.requires.some c.requires.refused c.in-Some.ensures.named c.if-before-at.true))

pub returns-else-before-at : goal.returns-else-before-at
returns-else-before-at c =
    let pool = c.args.pool.now in
    let found = found_of c.args.found.now in
    subst (IsCodeStop pool found) (sym c.refused_code-else-before-at.ensures) (Refused c.args.fault.at (bad_before pool found.code c.args.fault c.in-Some.before c.requires.some c.requires.refused c.in-Some.ensures.named c.if-before-at.false))
