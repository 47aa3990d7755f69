-- When two linked sets are one.
use Rattle.std.specs.Prelude.{◌≡◌}
use Rattle.cf_link.specs.declared.linked.Linked.{Linked}

-- two sets have the same classes, tables, references, texts and main method
pub record AreSame (one other : Linked) : Type 0 where
  pub classes : one.classes ≡ other.classes
  pub tables : one.tables ≡ other.tables
  pub refs : one.refs ≡ other.refs
  pub texts : one.texts ≡ other.texts
  pub main : one.main ≡ other.main
