-- When an act waits or is refused, when LazyCycle is thrown, and who can go on.
use Rattle.std.specs.Prelude.{◌≡◌, ℕ, ◌≤◌, ◌⊎◌, Bool, true, false, Option, length}
use Rattle.lz_proto.specs.declared.pos.Pos.{Pos}
use Rattle.lz_proto.specs.declared.pos.Pos.TheVariants.{Body, Open, Mark, Sleep}
use Rattle.lz_proto.specs.declared.once.Once.TheVariants as once
use Rattle.lz_proto.specs.declared.act.Act.{Act}
use Rattle.lz_proto.specs.declared.act.Act.TheVariants.{Read, Return, Throw, Go}
use Rattle.lz_proto.specs.Protocol.{Protocol, position, thread, is_open, named}
use Rattle.lz_proto.specs.Steps.{Moves, has_ended, acted}
use Rattle.lz_proto.specs.Once.{abstract_of}

-- an accessor can make its next step
abbrev pub CanGo : Protocol → ℕ → Type 0
CanGo p who = (q : Protocol) × (acted p who Go ≡ Moves q)

-- where an accessor waits, its latch is closed and names another thread; that thread runs its cell, or some accessor is about to open the latch
abbrev pub WaitsWell : Protocol → ℕ → Type 0
WaitsWell p who =
    (c : ℕ) × (latch : ℕ) × (position p who ≡ Sleep c latch) × (is_open p latch ≡ false) × (named p latch ≡ thread p who → ⊥) × (((u : ℕ) × (abstract_of p c ≡ once.Running u) × (named p latch ≡ thread p u)) ⊎ ((u : ℕ) × (r : Option ℕ) × (position p u ≡ Open latch r)))

-- it goes on at a closed latch
abbrev pub IsBarred : Protocol → ℕ → Act → Type 0
IsBarred p who act = (act ≡ Go) × (c : ℕ) × (latch : ℕ) × (position p who ≡ Sleep c latch) × (is_open p latch ≡ false)

-- an accessor of the same thread runs the cell's initialiser
abbrev pub IsOwn : Protocol → ℕ → ℕ → Type 0
IsOwn p who c = (u : ℕ) × (abstract_of p c ≡ once.Running u) × (thread p u ≡ thread p who)

-- its initialiser runs
abbrev pub is_in_body : Pos → Bool
is_in_body (Body c) = true
is_in_body other = false

-- an accessor can't do this: it is entered in the midst of a read, or to read no cell; an initialiser ends that doesn't run; it has no next step of its own
abbrev pub IsWrong : Protocol → ℕ → Act → Type 0
IsWrong p who (Read c) = (has_ended (position p who) ≡ false) ⊎ (length p.cells ≤ c)
IsWrong p who (Return v) = is_in_body (position p who) ≡ false
IsWrong p who Throw = is_in_body (position p who) ≡ false
IsWrong p who Go = (has_ended (position p who) ≡ true) ⊎ (is_in_body (position p who) ≡ true)

-- it would make a latch, and there is no room
abbrev pub IsFull : Protocol → ℕ → Act → Type 0
IsFull p who act = (act ≡ Go) × (c : ℕ) × (t : ℕ) × (position p who ≡ Mark c t) × (p.spare ≡ 0)
