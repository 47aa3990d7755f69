-- The text of a schedule: one line a turn. A text is the list of its bytes: a space is 32, LF is 10.
use Rattle.std.specs.Prelude.{◌≡◌, ◌≢◌, ℕ, ◌+◌, ◌≤◌, ◌<◌, ◌^◌, List, [], ◌∷◌, ◌++◌, flat_map, length, decimal}
use Rattle.std.specs.List.{AllByRecursion}
use Rattle.runs.specs.declared.turn.Turn.{Turn}

-- the line of a turn: `THREAD COUNT`, in decimal without leading zeros
abbrev pub turn_line : Turn → List ℕ
turn_line turn = decimal turn.thread ++ 32 ∷ decimal turn.count ++ 10 ∷ []

-- the lines, one after another
abbrev pub turns_text : List Turn → List ℕ
turns_text turns = flat_map turn_line turns

-- both numbers are from 1 to 4,294,967,295
pub record IsTurn (turn : Turn) : Type 0 where
  pub thread : (1 ≤ turn.thread) × (turn.thread < 2 ^ 32)
  pub count : (1 ≤ turn.count) × (turn.count < 2 ^ 32)

-- the bytes are the text of these turns
pub record AreTurns (bytes : List ℕ) (turns : List Turn) : Type 0 where
  pub text : bytes ≡ turns_text turns
  pub each : AllByRecursion IsTurn turns

-- no line of a turn is in front
abbrev pub NoTurn : List ℕ → Type 0
NoTurn bytes = (turn : Turn) (after : List ℕ) → IsTurn turn → bytes ≢ turn_line turn ++ after

-- this line, counted from 1, is the first that isn't the line of a turn
pub record IsFirstWrong (bytes : List ℕ) (line : ℕ) : Type 0 where
  pub before : List Turn
  pub rest : List ℕ
  pub text : bytes ≡ turns_text before ++ rest
  pub each : AllByRecursion IsTurn before
  pub wrong : NoTurn rest
  pub some : rest ≢ []
  pub counted : line ≡ length before + 1
