use Rattle.std.proofs.Common.{List, map, subst, sym}
use Rattle.std.specs.List.{AllByRecursion}
use Rattle.cf_read.specs.Looking.{IsShort}
use Rattle.cf_read.specs.Views.{method_of, file_of}
use Rattle.cf_read.specs.declared.parts.MethodParts.{MethodParts}
use Rattle.cf_read.proofs.Within.{short_methods}
use Rattle.cf_read.proofs.file.with_codes.Goals as goal

pub methods_with_codes-requires : goal.methods_with_codes-requires
methods_with_codes-requires c =
    subst (λ (ms : List MethodParts). AllByRecursion IsShort (map method_of ms)) (sym c.deref-2.ensures.value) (short_methods c.args.bytes.now (file_of c.args.parts) c.requires)
