use Rattle.std.proofs.Common.{◌≡◌, ◌+◌, ◌≤◌, length}
use Rattle.sl_lexer.specs.Comment.{comment_end}
use Rattle.sl_lexer.proofs.comments.scan.Given as goal

abbrev pub invariant-turn : goal.invariant-turn
invariant-turn l = (comment_end 0 l.fn.cursor ≡ comment_end l.depth l.cursor) × (l.depth + length l.cursor ≤ length l.fn.cursor)

abbrev pub decreases-turn : goal.decreases-turn
decreases-turn l = length l.cursor
