use Rattle.std.proofs.Common.{◌≡◌, ◌++◌, drop}
use Rattle.ty_complete.specs.Words.{words, words_behind}
use Rattle.ty_complete.proofs.word.words_of.Given as goal

abbrev pub invariant-loop-character : goal.invariant-loop-character
invariant-loop-character l =
    words l.characters ≡ l.found.items ++ words_behind l.begun.items (drop l.character-index l.characters)
