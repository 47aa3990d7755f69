use Rattle.std.proofs.Common.{◌≡◌, [], take}
use Rattle.std.specs.List.{flat_map}
use Rattle.cf_link.specs.OfFiles.{each_once, string_text}
use Rattle.cf_refs.proofs.texts.texts_of.Given as goal

abbrev pub invariant-loop-file : goal.invariant-loop-file
invariant-loop-file l = l.texts ≡ each_once [] (flat_map (λ file. flat_map (string_text file.pool) file.pool) (take l.file-index l.files))
