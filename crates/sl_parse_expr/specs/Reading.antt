-- Reading tokens from left to right, one token ahead. Separators that an optional part may follow are held: a reader
-- begins with what is held and the tokens behind it, and ends so.
use Rattle.std.specs.Prelude.{◌≡◌, ℕ, zero, suc, Bool, true, false, ◌&&◌, List, [], ◌∷◌, ◌++◌, length, Option, Some, None, Result, Ok, Err, if◌then◌else◌}
use Rattle.sl_ast.specs.declared.token.Token.{Token}
use Rattle.sl_text.specs.declared.span.Span.{Span}
use Rattle.sl_parse_expr.specs.declared.ahead.Ahead.{Ahead}
use Rattle.sl_parse_expr.specs.declared.ahead.Ahead.TheVariants as k
use Rattle.sl_parse_expr.specs.declared.cursor.Waiting.{Waiting}
use Rattle.sl_parse_expr.specs.declared.cursor.Waiting.TheVariants as waiting
use Rattle.sl_parse_expr.specs.declared.stopped.Stopped.{Stopped}
use Rattle.sl_parse_expr.specs.declared.stopped.Stopped.TheVariants as stopped
use Rattle.sl_parse_expr.specs.Ahead.{sort, same}

-- where reading stopped, and whether for depth
pub record Stop : Type 0 where
  pub deep : Bool
  pub at : List Token

-- what is held, and what is left behind it
abbrev pub State : Type 0
State = List Token × List Token

-- what reading gives: a value and what is left, or where it stopped
abbrev pub Outcome : Type 0 → Type 0
Outcome A = Result (A × State) Stop

-- reads a value from what is held and left
abbrev pub Reader : Type 0 → Type 0
Reader A = State → Outcome A

-- goes on with the value and with what is left, unless reading stopped
abbrev pub and_then : {A B : Type 0} → Outcome A → (A → Reader B) → Outcome B
and_then (Ok q) f = f q.0 q.1
and_then (Err e) f = Err e

infixl 10 ◌>>=◌
-- the one reader, and behind it the one that its value gives
abbrev pub ◌>>=◌ : {A B : Type 0} → Reader A → (A → Reader B) → Reader B
q >>= f = λ s. and_then (q s) f

infixl 10 ◌>>◌
-- the one reader and then the other, whose value counts
abbrev pub ◌>>◌ : {A B : Type 0} → Reader A → Reader B → Reader B
q >> g = q >>= (λ _. g)

-- this value, of no tokens
abbrev pub pure : {A : Type 0} → A → Reader A
pure a = λ s. Ok (a, s)

-- stops at the next token
abbrev pub stuck : {A : Type 0} → Reader A
stuck = λ s. Err (record { deep = false; at = s.1 })

-- the next token
abbrev pub head : List Token → Option Token
head [] = None
head (t ∷ ts) = Some t

-- what a rule sees of a token, or of the end
abbrev pub seen : Option Token → Ahead
seen None = k.End
seen (Some t) = sort t

-- what a rule sees of the next token
abbrev pub ahead : List Token → Ahead
ahead ts = seen (head ts)

-- the tokens behind the next one
abbrev pub rest : List Token → List Token
rest [] = []
rest (t ∷ ts) = ts

-- the next token alone, or none at the end
abbrev pub first : List Token → List Token
first [] = []
first (t ∷ ts) = t ∷ []

-- the list is empty
abbrev pub nothing : List Token → Bool
nothing [] = true
nothing (t ∷ ts) = false

-- what is held, as far as a rule looks at it
abbrev pub waits : List Token → Waiting
waits [] = waiting.Nothing
waits (t ∷ []) = if same k.Newline (sort t) then waiting.Line else waiting.More
waits ts = waiting.More

-- ---- single tokens

-- the value that the next token has, or the stop at it
abbrev pub given : {A : Type 0} → Option A → Token → List Token → Outcome A
given (Some x) t ts = Ok (x, ([], ts))
given None t ts = Err (record { deep = false; at = t ∷ ts })

-- one token that has such a value, by what is held and what is left
abbrev pub one_by : {A : Type 0} → (Token → Option A) → List Token → List Token → Outcome A
one_by value ts [] = Err (record { deep = false; at = [] })
one_by value [] (t ∷ ts) = given (value t) t ts
one_by value held (t ∷ ts) = Err (record { deep = false; at = t ∷ ts })

-- a token that has such a value, with nothing held before it
unfoldable pub one : {A : Type 0} → (Token → Option A) → Reader A
one value s = one_by value s.0 s.1

-- a token of this kind, and where it stands
abbrev pub word : Ahead → Token → Option Span
word what t = if same what (sort t) then Some t.span else None

-- one token of this kind, and where it stands
unfoldable pub expect : Ahead → Reader Span
expect what = one (word what)

-- ---- holding

-- holds the token that was looked at
abbrev pub hold : {A : Type 0} → Reader A → Reader A
hold q = λ s. q (s.0 ++ first s.1, rest s.1)

-- what is held goes away, and whether there was something
unfoldable pub absorb : Reader Bool
absorb s = Ok (nothing s.0, ([], s.1))

-- the same, and what it was, as far as a rule looks at it
unfoldable pub settle : Reader Waiting
settle s = Ok (waits s.0, ([], s.1))

-- ---- choices by the token ahead

-- the reader that the token ahead and what is held give
abbrev pub look : {A : Type 0} → (Ahead → List Token → Reader A) → Reader A
look f = λ s. f (ahead s.1) s.0 s

-- the one or the other, by what is held and the token ahead
abbrev pub choose_by : {A : Type 0} → (List Token → Ahead → Bool) → Reader A → Reader A → Reader A
choose_by test q other = λ s. (if test s.0 (ahead s.1) then q else other) s

-- a test of the token ahead alone
abbrev pub by_ahead : (Ahead → Bool) → List Token → Ahead → Bool
by_ahead test held o = test o

-- the one where the test holds of the token ahead, else the other
abbrev pub choose : {A : Type 0} → (Ahead → Bool) → Reader A → Reader A → Reader A
choose test q other = choose_by (by_ahead test) q other

-- a test of the token ahead, which fails where something is held
abbrev pub if_clean : (Ahead → Bool) → List Token → Ahead → Bool
if_clean test held o = nothing held && test o

-- an optional part, which stands where nothing is held and the test holds of the token ahead
abbrev pub option : {A : Type 0} → (Ahead → Bool) → Reader A → A → Reader A
option test q none = choose_by (if_clean test) q (pure none)

-- ---- loops: the number bounds the turns, and a turn that takes no token is the last

-- the one list has fewer tokens than the other
abbrev pub shorter : List Token → List Token → Bool
shorter r [] = false
shorter [] (t ∷ ts) = true
shorter (u ∷ r) (t ∷ ts) = shorter r ts

-- items as long as one begins, at most so many
unfoldable pub fold_from : {S A : Type 0} → (S → Ahead → List Token → Bool) → Reader A → (S → A → S) → ℕ → S → Reader S
fold_from goes item add zero s st = Ok (s, st)
fold_from goes item add (suc n) s st = if goes s (ahead st.1) st.0 then (item >>= λ x st'. if shorter st'.1 st.1 then fold_from goes item add n (add s x) st' else Ok (add s x, st')) st else Ok (s, st)

-- items as long as one begins, each added to what was found before
unfoldable pub fold : {S A : Type 0} → (S → Ahead → List Token → Bool) → Reader A → (S → A → S) → S → Reader S
fold goes item add s st = fold_from goes item add (length st.1) s st

-- a loop goes on only where nothing is held
abbrev pub clean : {S : Type 0} → (S → Ahead → Bool) → S → Ahead → List Token → Bool
clean goes s o held = nothing held && goes s o

-- ---- what a function that reads ensures: the reader's outcome, unless memory fails. A fault leaves the cursor at its
-- token.
abbrev pub Reads : {A : Type 0} → Outcome A → Result A Stopped → State → Type 0
Reads outcome (Ok a) new = outcome ≡ Ok (a, new)
Reads outcome (Err stopped.Memory) new = Unit {0}
Reads outcome (Err stopped.Unexpected) new = outcome ≡ Err (record { deep = false; at = new.1 })
Reads outcome (Err stopped.TooDeep) new = outcome ≡ Err (record { deep = true; at = new.1 })
