use Rattle.std.proofs.Common.{map, take}
use Rattle.cf_form.specs.ClassFiles.{Each}
use Rattle.cf_read.specs.Codes.{IsMethodRead}
use Rattle.cf_read.specs.Views.{method_of}
use Rattle.cf_read.proofs.codes.methods_with_codes.Given as goal

abbrev pub invariant-loop-method : goal.invariant-loop-method
invariant-loop-method l = Each (IsMethodRead l.pool) (map method_of (take l.method-index l.methods)) l.infos.items
