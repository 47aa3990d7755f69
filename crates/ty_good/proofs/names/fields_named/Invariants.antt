use Rattle.std.proofs.Common.{◌≡◌, drop}
use Rattle.std.specs.Prelude.{nat_le}
use Rattle.std.specs.List.{list_all}
use Rattle.ty_complete.specs.Words.{words}
use Rattle.ty_good.specs.Names.{field_name_made_by}
use Rattle.ty_good.proofs.names.fields_named.Given as goal

abbrev pub invariant-loop-field : goal.invariant-loop-field
invariant-loop-field l =
    list_all (λ f. nat_le (field_name_made_by (words f.name)) l.k) (drop l.field-index l.fields)
    ≡ list_all (λ f. nat_le (field_name_made_by (words f.name)) l.k) l.fields
