-- What is promised of the protocol, over lists of acts.
use Rattle.std.specs.Prelude.{◌≡◌, ℕ, ◌+◌, ◌<◌, List, [], ◌∷◌, Bool, false, nat_eq, if◌then◌else◌, length, replicate}
use Rattle.lz_proto.specs.declared.pos.Pos.{Pos}
use Rattle.lz_proto.specs.declared.pos.Pos.TheVariants as pos
use Rattle.lz_proto.specs.declared.state.State.TheVariants as state
use Rattle.lz_proto.specs.declared.once.Once.{Once}
use Rattle.lz_proto.specs.declared.once.Once.TheVariants as once
use Rattle.lz_proto.specs.declared.stepped.Stepped.{Stepped}
use Rattle.lz_proto.specs.declared.stepped.Stepped.TheVariants as stepped
use Rattle.lz_proto.specs.declared.act.Act.{Act}
use Rattle.lz_proto.specs.declared.act.Act.TheVariants.{Read, Return}
use Rattle.lz_proto.specs.Protocol.{Protocol, position}
use Rattle.lz_proto.specs.Steps.{Outcome, Moves, Waits, Refuses, acted}
use Rattle.lz_proto.specs.Once.{abstract_of, Follows}

-- the state behind an act; one that doesn't move changes nothing
abbrev pub after : Protocol → Outcome → Protocol
after p (Moves q) = q
after p Waits = p
after p Refuses = p

-- the state behind a list of acts
unfoldable pub ran : Protocol → List (ℕ × Act) → Protocol
ran p [] = p
ran p (a ∷ acts) = ran (after p (acted p a.0 a.1)) acts

-- an act that enters an accessor
abbrev pub IsRead : Act → Type 0
IsRead (Read c) = Unit {0}
IsRead other = ⊥

-- the acts are of so many accessors, and none of them enters this one again
unfoldable pub IsOneRead : ℕ → ℕ → List (ℕ × Act) → Type 0
IsOneRead n who [] = Unit {0}
IsOneRead n who (a ∷ acts) = (a.0 < n) × (a.0 ≡ who → IsRead a.1 → ⊥) × IsOneRead n who acts

-- 1 where an act moved
abbrev pub if_moved : Outcome → ℕ
if_moved (Moves q) = 1
if_moved Waits = 0
if_moved Refuses = 0

-- how many steps an accessor makes in a list of acts
unfoldable pub steps : ℕ → Protocol → List (ℕ × Act) → ℕ
steps who p [] = 0
steps who p (a ∷ acts) = (if nat_eq a.0 who then if_moved (acted p a.0 a.1) else 0) + steps who (after p (acted p a.0 a.1)) acts

-- 1 where two differ
abbrev pub differ : Once → Once → ℕ
differ once.Empty once.Empty = 0
differ (once.Running u) (once.Running w) = if nat_eq u w then 0 else 1
differ (once.Done v) (once.Done w) = if nat_eq v w then 0 else 1
differ o x = 1

-- how often a cell changes to its readers in a list of acts
unfoldable pub changes : ℕ → Protocol → List (ℕ × Act) → ℕ
changes c p [] = 0
changes c p (a ∷ acts) = differ (abstract_of p c) (abstract_of (after p (acted p a.0 a.1)) c) + changes c (after p (acted p a.0 a.1)) acts

-- how many acts of a list move
unfoldable pub moves : Protocol → List (ℕ × Act) → ℕ
moves p [] = 0
moves p (a ∷ acts) = if_moved (acted p a.0 a.1) + moves (after p (acted p a.0 a.1)) acts

-- the same of an answer
abbrev pub count_of : Stepped → ℕ
count_of stepped.Moved = 1
count_of stepped.Waits = 0
count_of stepped.Wrong = 0

-- each act of a list that moves is a step by the rules
unfoldable pub AllFollow : Protocol → List (ℕ × Act) → Type 0
AllFollow p [] = Unit {0}
AllFollow p (a ∷ acts) = ((q : Protocol) → acted p a.0 a.1 ≡ Moves q → Follows p a.0 a.1 q) × AllFollow (after p (acted p a.0 a.1)) acts

-- the initialiser of this cell returns a value by this act of an accessor that stands here
abbrev pub is_return : ℕ → Pos → Act → Bool
is_return c (pos.Body d) (Return v) = nat_eq d c
is_return c at act = false

-- how often the initialiser of a cell returns a value in a list of acts
unfoldable pub returned : ℕ → Protocol → List (ℕ × Act) → ℕ
returned c p [] = 0
returned c p (a ∷ acts) = (if is_return c (position p a.0) a.1 then 1 else 0) + returned c (after p (acted p a.0 a.1)) acts

-- a new state: all cells are empty, no accessor has begun, and there is no latch
abbrev pub IsNew : ℕ → List ℕ → Protocol → Type 0
IsNew n threads p =
    p ≡ record { cells = replicate n state.Empty; opened = []; owner = []; at = replicate (length threads) pos.Idle; threads = threads; spare = 0 }

-- what an act answers and leaves
abbrev pub Answers : Stepped → Outcome → Protocol → Protocol → Type 0
Answers answer (Moves q) old new = (answer ≡ stepped.Moved) × (new ≡ q)
Answers answer Waits old new = (answer ≡ stepped.Waits) × (new ≡ old)
Answers answer Refuses old new = (answer ≡ stepped.Wrong) × (new ≡ old)
