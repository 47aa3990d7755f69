use Rattle.vm_native.proofs.Fronts.{found_behind}
use Rattle.vm_native.proofs.field_names.rest.Goals as goal

pub returns : goal.returns
returns c = found_behind c.args.bytes.now c.args.front.now c.strip_prefix.result c.strip_prefix.ensures.cases
