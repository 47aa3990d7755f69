use Rattle.std.proofs.Common.{rules, ◌≡◌, Some}
use Rattle.cf_form.specs.Pool.{text_at}
use Rattle.cf_set.proofs.Missing.{looked_up}
use Rattle.cf_set.proofs.class_names.is_missing.Goals as goal

pub returns-in-Some : goal.returns-in-Some
returns-in-Some c =
    let named : text_at c.args.pool.now c.in-Class.text ≡ Some c.in-Some.name.now = search rules in
    looked_up c.args.names.now c.args.pool.now c.args.entry.now c.in-Class.text c.in-Some.name.now c.number_of.result c.is_none.result
    c.in-Class.is named c.number_of.ensures c.is_none.ensures
