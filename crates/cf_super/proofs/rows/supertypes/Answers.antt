use Rattle.std.proofs.Common.{◌≡◌, ◌∙◌, ap, subst, sym}
use Rattle.ty_linear.specs.Linear.{rows}
use Rattle.cf_link.specs.Faults.{AreSupertypes}
use Rattle.cf_link.specs.OfFiles.{names_of}
use Rattle.cf_super.specs.Rows.{rows_of}
use Rattle.cf_super.proofs.Above.{are_supertypes, are_classes}
use Rattle.cf_super.proofs.rows.supertypes.Goals as goal

pub returns-clause-supertypes : goal.returns-clause-supertypes
returns-clause-supertypes c =
    let are : rows c.in_ok-table.table.items ≡ rows_of (names_of c.args.files.now) c.args.files.now =
    c.in_ok-table.ensures ∙ ap (λ names. rows_of names c.args.files.now) c.requires.names in
    subst (AreSupertypes c.args.files.now) (sym are) (are_supertypes c.args.files.now c.requires.indexed c.requires.there)

pub returns-clause-classes : goal.returns-clause-classes
returns-clause-classes c =
    let are : rows c.in_ok-table.table.items ≡ rows_of (names_of c.args.files.now) c.args.files.now =
    c.in_ok-table.ensures ∙ ap (λ names. rows_of names c.args.files.now) c.requires.names in
    are_classes c.args.files.now c.requires.indexed c.requires.there c.in_ok-table.table.items are
