use Rattle.std.proofs.Common.{sym, subst}
use Rattle.cf_read.specs.Codes.{IsBadRow, From, To, Target, Caught}
use Rattle.cf_read.specs.Views.{row_of}
use Rattle.cf_read.specs.declared.handlers.RowFault.{RowFault}
use Rattle.cf_read.proofs.Rows.{bounds, bounds_not}
use Rattle.cf_read.proofs.handlers.handler_of.Goals as goal

pub returns-in_default : goal.returns-in_default
returns-in_default c =
    let code = c.args.code.now in
    let starts = c.args.starts.now in
    let row = row_of c.args.row in
    let P = λ (w : RowFault). IsBadRow c.args.pool.now code row w.kind w.within in
    subst P (sym c.wrong.ensures) (From (bounds_not code starts row.from c.requires.offsets c.in_default.ensures))

pub returns-in_default-number_at : goal.returns-in_default-number_at
returns-in_default-number_at c =
    let code = c.args.code.now in
    let starts = c.args.starts.now in
    let row = row_of c.args.row in
    let P = λ (w : RowFault). IsBadRow c.args.pool.now code row w.kind w.within in
    let from = bounds code starts row.from c.in-Some.from c.requires.offsets c.in-Some.ensures in
    subst P (sym c.wrong-in_default-number_at.ensures) (To (c.in-Some.from, from.0, from.1) (bounds_not code starts row.to c.requires.offsets c.in_default-number_at.ensures))

pub returns-in_default-number_at-2 : goal.returns-in_default-number_at-2
returns-in_default-number_at-2 c =
    let code = c.args.code.now in
    let starts = c.args.starts.now in
    let row = row_of c.args.row in
    let P = λ (w : RowFault). IsBadRow c.args.pool.now code row w.kind w.within in
    let from = bounds code starts row.from c.in-Some.from c.requires.offsets c.in-Some.ensures in
    let to = bounds code starts row.to c.in-Some-number_at.to c.requires.offsets c.in-Some-number_at.ensures in
    subst P (sym c.wrong-in_default-number_at-2.ensures) (Target (c.in-Some.from, from.0, from.1) (c.in-Some-number_at.to, to.0, to.1) (bounds_not code starts row.target c.requires.offsets c.in_default-number_at-2.ensures))

pub returns-then-not-names : goal.returns-then-not-names
returns-then-not-names c =
    let code = c.args.code.now in
    let starts = c.args.starts.now in
    let row = row_of c.args.row in
    let from = bounds code starts row.from c.in-Some.from c.requires.offsets c.in-Some.ensures in
    let to = bounds code starts row.to c.in-Some-number_at.to c.requires.offsets c.in-Some-number_at.ensures in
    let target = bounds code starts row.target c.in-Some-number_at-2.target c.requires.offsets c.in-Some-number_at-2.ensures in
    Caught (c.in-Some.from, from.0, from.1) (c.in-Some-number_at.to, to.0, to.1) (c.in-Some-number_at-2.target, target.0, target.1) (λ h. let t = h c.if-row-ne0.true in cc)
