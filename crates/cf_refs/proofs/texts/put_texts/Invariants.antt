use Rattle.std.proofs.Common.{◌≡◌, take}
use Rattle.std.specs.List.{flat_map}
use Rattle.cf_link.specs.OfFiles.{each_once, string_text}
use Rattle.cf_refs.proofs.texts.put_texts.Given as goal

abbrev pub invariant-loop-constant : goal.invariant-loop-constant
invariant-loop-constant l = l.texts ≡ each_once l.initial.texts (flat_map (string_text l.pool) (take l.constant-index l.pool))
