use Rattle.std.proofs.Common.{◌≡◌, ◌++◌, take}
use Rattle.std.specs.List.{flat_map}
use Rattle.cf_write.specs.Spelling.{handler_bytes}
use Rattle.cf_write.proofs.codes.put_each_handler.Given as goal

abbrev pub invariant-loop-handler : goal.invariant-loop-handler
invariant-loop-handler l = l.into.items ≡ l.initial.into.items ++ flat_map (handler_bytes l.code.instrs) (take l.handler-index l.code.handlers)
