use Rattle.std.proofs.Common.{drop}
use Rattle.std.specs.Prelude.{slice_get}
use Rattle.vm_native.proofs.Plain.{written_acts}
use Rattle.vm_native.proofs.writing.write.Goals as goal

pub returns : goal.returns
returns c =
    written_acts c.args.h.now c.write_field.new.h c.args.f.now c.write_field.new.f c.args.at c.args.n c.args.v
    (drop 2 c.args.f.now.stack.values) (slice_get c.args.h.now.objects c.args.at) c.write_field.result c.write_field.ensures
