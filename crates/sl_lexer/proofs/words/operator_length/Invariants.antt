use Rattle.std.proofs.Common.{◌≡◌, ◌+◌, length}
use Rattle.sl_lexer.specs.Characters.{operator_len}
use Rattle.sl_lexer.proofs.words.operator_length.Given as goal

abbrev pub invariant-turn : goal.invariant-turn
invariant-turn l = record { so_far : operator_len l.fn.left ≡ l.count + operator_len l.cursor; read : l.count + length l.cursor ≡ length l.fn.left }

abbrev pub decreases-turn : goal.decreases-turn
decreases-turn l = length l.cursor
