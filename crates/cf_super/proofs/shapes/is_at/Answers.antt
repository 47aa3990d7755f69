use Rattle.std.proofs.Common.{◌≡◌, ◌∙◌, Some, None, cond, not, ap, sym, subst}
use Rattle.std.specs.Bool.{Decides}
use Rattle.cf_link.specs.Faults.{interface_at, IsInterfaceAt}
use Rattle.cf_link.specs.OfFiles.{names_of}
use Rattle.cf_set.specs.Indexes.{number_at}
use Rattle.cf_super.proofs.Shaped.{is_at_found, is_at_none}
use Rattle.cf_super.proofs.shapes.is_at.Goals as goal

pub returns-then-is : goal.returns-then-is
returns-then-is c =
    let files = c.args.files.now in
    let file = c.args.file.now in
    let found : number_at (names_of files) file.pool c.args.index ≡ Some c.in-Some.number =
    ap (λ names. number_at names file.pool c.args.index) (sym c.requires.names) ∙ ap (λ pool. number_at c.args.names.now pool c.args.index) (sym c.as_slice.ensures)
    ∙ sym c.number_at.ensures ∙ c.in-Some.is in
    let x = interface_at files c.in-Some.number in
    subst (λ b. Decides b (IsInterfaceAt files c.args.is file c.args.index)) (ap (λ b. cond b x (not x)) c.if-is.true ∙ sym c.interface_at.ensures)
    (is_at_found files c.requires.different c.args.is file c.args.index c.in-Some.number found)

pub returns-else-is : goal.returns-else-is
returns-else-is c =
    let files = c.args.files.now in
    let file = c.args.file.now in
    let found : number_at (names_of files) file.pool c.args.index ≡ Some c.in-Some.number =
    ap (λ names. number_at names file.pool c.args.index) (sym c.requires.names) ∙ ap (λ pool. number_at c.args.names.now pool c.args.index) (sym c.as_slice.ensures)
    ∙ sym c.number_at.ensures ∙ c.in-Some.is in
    let x = interface_at files c.in-Some.number in
    subst (λ b. Decides b (IsInterfaceAt files c.args.is file c.args.index)) (ap (λ b. cond b x (not x)) c.if-is.false ∙ ap not (sym c.interface_at-else-is.ensures))
    (is_at_found files c.requires.different c.args.is file c.args.index c.in-Some.number found)

pub returns-in-None : goal.returns-in-None
returns-in-None c =
    let files = c.args.files.now in
    let file = c.args.file.now in
    let none : number_at (names_of files) file.pool c.args.index ≡ None =
    ap (λ names. number_at names file.pool c.args.index) (sym c.requires.names) ∙ ap (λ pool. number_at c.args.names.now pool c.args.index) (sym c.as_slice.ensures)
    ∙ sym c.number_at.ensures ∙ c.in-None.is in
    is_at_none files c.requires.different c.args.is file c.args.index none
