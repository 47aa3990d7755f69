-- Checking in order: what stands in a text gives something, or ends at the first rule that is broken there.
use Rattle.std.specs.Prelude.{◌≡◌, List, [], ◌∷◌, Result, Ok, Err}
use Rattle.sl_ast.specs.declared.type_fault.TypeFault.{TypeFault}
use Rattle.sl_ast.specs.declared.type_fault.TypeKind.{TypeKind}
use Rattle.sl_text.specs.declared.span.Span.{Span}
use Rattle.ty_member.specs.declared.stopped.Stopped.{Stopped}
use Rattle.ty_member.specs.declared.stopped.Stopped.TheVariants as stopped

-- what checking gives, or the first broken rule and its place
abbrev pub Outcome : Type 0 → Type 0
Outcome A = Result A TypeFault

-- what follows a part that breaks no rule
infixl 10 ◌>>=◌
abbrev pub ◌>>=◌ : {A B : Type 0} → Outcome A → (A → Outcome B) → Outcome B
Ok a >>= f = f a
Err e >>= f = Err e

-- the rule of this kind is broken here
abbrev pub broken : {A : Type 0} → TypeKind → Span → Outcome A
broken kind span = Err (record { kind = kind; span = span })

-- one after another, each by what is known so far
unfoldable pub each : {A S : Type 0} → (A → S → Outcome S) → List A → S → Outcome S
each f [] s = Ok s
each f (x ∷ xs) s = f x s >>= each f xs

-- what a call answers: the outcome, or want of memory
abbrev pub Gives : {A : Type 0} → Outcome A → Result A Stopped → Type 0
Gives o (Ok a) = o ≡ Ok a
Gives o (Err stopped.Memory) = Unit {0}
Gives o (Err (stopped.Broken f)) = o ≡ Err f
