-- Bytes of a class file are refused for want of memory alone.
use Rattle.std.proofs.Common.{◌≡◌, refl, ℕ, List}
use Rattle.cf_form.specs.declared.class_file.ClassFile.{ClassFile}
use Rattle.cf_read.specs.Looking.{IsFileStop, IsReadWhole}
use Rattle.cf_read.specs.declared.fault.Stop.{Stop}
use Rattle.cf_read.specs.declared.fault.Stop.TheVariants as stop
use Rattle.cf_read.proofs.Determined.{met_apart}

pub memory_only : (bytes : List ℕ) (e : Stop) (file : ClassFile) → IsFileStop bytes e → IsReadWhole bytes file → e ≡ stop.Memory
memory_only bytes stop.Memory file h r = refl
memory_only bytes (stop.Met f) file h r = absurd (met_apart bytes f file h r)
