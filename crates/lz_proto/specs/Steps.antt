-- What an act of an accessor does (SIP-20).
use Rattle.std.specs.Prelude.{ℕ, [], ◌∷◌, ◌++◌, ◌-◌, Bool, true, false, nat_eq, nat_lt, if◌then◌else◌, ◌&&◌, Option, Some, None, length, slice_set}
use Rattle.lz_proto.specs.declared.state.State.{State}
use Rattle.lz_proto.specs.declared.state.State.TheVariants.{Empty, Evaluating, Waiting, Done}
use Rattle.lz_proto.specs.declared.pos.Pos.{Pos}
use Rattle.lz_proto.specs.declared.pos.Pos.TheVariants.{Idle, Look, Claim, Body, Store, Take, Swap, Open, Mark, Install, Sleep, Got, Failed, Cycle}
use Rattle.lz_proto.specs.declared.act.Act.{Act}
use Rattle.lz_proto.specs.declared.act.Act.TheVariants.{Read, Return, Throw, Go}
use Rattle.lz_proto.specs.Protocol.{Protocol, content, position, thread, is_open, named}

-- what comes of an act: the state behind it, a wait, or nothing, since the accessor can't do this
pub data Outcome : Type 0 where
  Moves : (after : Protocol) → Outcome
  Waits : Outcome
  Refuses : Outcome

-- what a result leaves in the cell: the value, or null after an exception
abbrev pub result_of : Option ℕ → State
result_of (Some v) = Done v
result_of None = Empty

-- where a result leaves the accessor
abbrev pub ended : Option ℕ → Pos
ended (Some v) = Got v
ended None = Failed

-- an accessor that has ended, or hasn't begun
abbrev pub has_ended : Pos → Bool
has_ended Idle = true
has_ended (Got v) = true
has_ended Failed = true
has_ended Cycle = true
has_ended other = false

module _ (p : Protocol) (who : ℕ) where
  -- it goes on to this position, and all else stays
  abbrev pub goes : Pos → Outcome
  goes next = Moves (record p { at = slice_set p.at who next })

  -- the same, with a new content of a cell
  abbrev pub writes : ℕ → State → Pos → Outcome
  writes c new next = Moves (record p { cells = slice_set p.cells c new; at = slice_set p.at who next })

  -- it reads the field: a value is the result, an initialiser of its own thread a LazyCycle
  abbrev pub looked : ℕ → State → Pos
  looked c Empty = Claim c
  looked c (Evaluating t) = if nat_eq t (thread p who) then Cycle else Mark c t
  looked c (Waiting latch) = if nat_eq (named p latch) (thread p who) then Cycle else Sleep c latch
  looked c (Done v) = Got v

  -- it exchanges null for `Evaluating`
  abbrev pub claims : ℕ → State → Outcome
  claims c Empty = writes c (Evaluating (thread p who)) (Body c)
  claims c other = goes (Look c)

  -- it makes a latch that names this thread, where there is room for one
  abbrev pub marks : ℕ → ℕ → Outcome
  marks c t = if nat_lt 0 p.spare then Moves (record p { opened = p.opened ++ false ∷ []; owner = p.owner ++ t ∷ []; at = slice_set p.at who (Install c (length p.opened)); spare = p.spare - 1 }) else Refuses

  -- it exchanges `Evaluating` of the latch's thread for the latch
  abbrev pub installs : ℕ → ℕ → State → Outcome
  installs c latch (Evaluating t) = if nat_eq t (named p latch) then writes c (Waiting latch) (Look c) else goes (Look c)
  installs c latch other = goes (Look c)

  -- it awaits the latch
  abbrev pub sleeps : ℕ → Bool → Outcome
  sleeps c true = goes (Look c)
  sleeps c false = Waits

  -- it exchanges its own `Evaluating` for the result
  abbrev pub stores : ℕ → Option ℕ → State → Outcome
  stores c r (Evaluating t) = if nat_eq t (thread p who) then writes c (result_of r) (ended r) else goes (Take c r)
  stores c r other = goes (Take c r)

  -- it reads the latch in the field
  abbrev pub takes : ℕ → Option ℕ → State → Outcome
  takes c r (Waiting latch) = goes (Swap c r latch)
  takes c r other = Refuses

  -- it exchanges the latch for the result
  abbrev pub swaps : ℕ → Option ℕ → ℕ → State → Outcome
  swaps c r latch (Waiting other) = if nat_eq other latch then writes c (result_of r) (Open latch r) else Refuses
  swaps c r latch other = Refuses

  -- it opens the latch
  abbrev pub opens : ℕ → Option ℕ → Outcome
  opens latch r = Moves (record p { opened = slice_set p.opened latch true; at = slice_set p.at who (ended r) })

  -- its next step, from where it stands
  abbrev pub next : Pos → Outcome
  next (Look c) = goes (looked c (content p c))
  next (Claim c) = claims c (content p c)
  next (Store c r) = stores c r (content p c)
  next (Take c r) = takes c r (content p c)
  next (Swap c r latch) = swaps c r latch (content p c)
  next (Open latch r) = opens latch r
  next (Mark c t) = marks c t
  next (Install c latch) = installs c latch (content p c)
  next (Sleep c latch) = sleeps c (is_open p latch)
  next other = Refuses

  -- it is entered, to read this cell, from where it has ended or hasn't begun
  abbrev pub read : Pos → ℕ → Outcome
  read pos c = if has_ended pos && nat_lt c (length p.cells) then goes (Look c) else Refuses

  -- its initialiser ends
  abbrev pub finish : Pos → Option ℕ → Outcome
  finish (Body c) r = goes (Store c r)
  finish other r = Refuses

  -- what comes of an act
  abbrev pub acted : Act → Outcome
  acted (Read c) = read (position p who) c
  acted (Return v) = finish (position p who) (Some v)
  acted Throw = finish (position p who) None
  acted Go = next (position p who)
