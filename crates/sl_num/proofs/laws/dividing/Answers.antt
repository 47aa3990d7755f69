use Rattle.std.specs.Int.{w32, w64}
use Rattle.sl_num.proofs.Widths.{read32, read64}
use Rattle.sl_num.proofs.Remainder.{size, sign, identity}
use Rattle.sl_num.proofs.laws.dividing.Goals as goal

pub returns : goal.returns
returns c = record { size = size; sign = sign; int_whole = identity w32 read32; long_whole = identity w64 read64 }
