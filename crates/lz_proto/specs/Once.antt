-- The rules of a cell that is written once, and what cells and accessors are by them (SIP-20).
use Rattle.std.specs.Prelude.{◌≡◌, ℕ, suc, List, [], ◌∷◌, Bool, true, false, nat_eq, if◌then◌else◌, Option, Some, None}
use Rattle.lz_proto.specs.declared.state.State.{State}
use Rattle.lz_proto.specs.declared.state.State.TheVariants as state
use Rattle.lz_proto.specs.declared.pos.Pos.{Pos}
use Rattle.lz_proto.specs.declared.pos.Pos.TheVariants.{Idle, Look, Claim, Body, Store, Take, Swap, Open, Mark, Install, Sleep, Got, Failed, Cycle}
use Rattle.lz_proto.specs.declared.once.Once.{Once}
use Rattle.lz_proto.specs.declared.once.Once.TheVariants as once
use Rattle.lz_proto.specs.Protocol.{Protocol, content, thread}
use Rattle.lz_proto.specs.Protocol.{position as stands}
use Rattle.lz_proto.specs.Steps.{has_ended}
use Rattle.lz_proto.specs.declared.act.Act.{Act}
use Rattle.lz_proto.specs.declared.act.Act.TheVariants.{Read, Return, Throw, Go}

-- whether an accessor has claimed this cell, and hasn't given it a result yet
abbrev pub is_inside : ℕ → Pos → Bool
is_inside c (Body d) = nat_eq d c
is_inside c (Store d r) = nat_eq d c
is_inside c (Take d r) = nat_eq d c
is_inside c (Swap d r latch) = nat_eq d c
is_inside c other = false

-- the first accessor that is inside a cell
unfoldable pub first_inside : ℕ → List Pos → ℕ
first_inside c [] = 0
first_inside c (pos ∷ at) = if is_inside c pos then 0 else suc (first_inside c at)

-- the accessor that runs the initialiser of a cell
abbrev pub runner : Protocol → ℕ → ℕ
runner p c = first_inside c p.at

-- the state of a cell as that of a once-cell: while its value is worked out or awaited, its runner is running
abbrev pub once_of : Protocol → ℕ → State → Once
once_of p c state.Empty = once.Empty
once_of p c (state.Evaluating t) = once.Running (runner p c)
once_of p c (state.Waiting latch) = once.Running (runner p c)
once_of p c (state.Done v) = once.Done v

-- what a cell is to its readers
abbrev pub abstract_of : Protocol → ℕ → Once
abstract_of p c = once_of p c (content p c)

-- what an accessor is at, by the rules
pub data Task : Type 0 where
  Rests : Task
  Reads : (c : ℕ) → Task
  Runs : (c : ℕ) → Task
  Ends : (c : ℕ) (r : Option ℕ) → Task
  Tells : (r : Option ℕ) → Task
  Meets : Task

-- it hasn't begun, it reads, its initialiser runs or has ended, it returned or threw, it threw LazyCycle
abbrev pub task : Pos → Task
task Idle = Rests
task (Look c) = Reads c
task (Claim c) = Reads c
task (Mark c t) = Reads c
task (Install c latch) = Reads c
task (Sleep c latch) = Reads c
task (Body c) = Runs c
task (Store c r) = Ends c r
task (Take c r) = Ends c r
task (Swap c r latch) = Ends c r
task (Open latch r) = Tells r
task (Got v) = Tells (Some v)
task Failed = Tells None
task Cycle = Meets

-- the move of an accessor on its cell by an act: what the cell is and what the accessor is at, before and after
pub data Rule (p : Protocol) (who c : ℕ) : Act → Once → Task → Once → Task → Type 0 where
  enters : Rule p who c Go once.Empty (Reads c) (once.Running who) (Runs c)
  gives : (v : ℕ) → Rule p who c Go (once.Done v) (Reads c) (once.Done v) (Tells (Some v))
  meets : (u : ℕ) → thread p u ≡ thread p who → Rule p who c Go (once.Running u) (Reads c) (once.Running u) Meets
  returns : (v : ℕ) → Rule p who c (Return v) (once.Running who) (Runs c) (once.Running who) (Ends c (Some v))
  throws : Rule p who c Throw (once.Running who) (Runs c) (once.Running who) (Ends c None)
  stores : (v : ℕ) → Rule p who c Go (once.Running who) (Ends c (Some v)) (once.Done v) (Tells (Some v))
  fails : Rule p who c Go (once.Running who) (Ends c None) once.Empty (Tells None)

-- cells stay what they are, but for this one
abbrev pub OthersStay : Protocol → ℕ → Protocol → Type 0
OthersStay p c q = (d : ℕ) → (d ≡ c → ⊥) → abstract_of q d ≡ abstract_of p d

-- the three exchanges at which a cell changes to its readers: null for `Evaluating`, `Evaluating` or the latch for the result
pub data IsExchange (c : ℕ) : Pos → Type 0 where
  claim : IsExchange c (Claim c)
  store : (r : Option ℕ) → IsExchange c (Store c r)
  swap : (r : Option ℕ) (latch : ℕ) → IsExchange c (Swap c r latch)

-- what is seen of an accessor's step by an act: nothing, or that it begins to read, or a move on its cell, which changes at an exchange alone
pub data Shows (p : Protocol) (who : ℕ) (act : Act) (q : Protocol) : Type 0 where
  silent : act ≡ Go → ((d : ℕ) → abstract_of q d ≡ abstract_of p d) → task (stands q who) ≡ task (stands p who) → Shows p who act q
  begins : (c : ℕ) → act ≡ Read c → ((d : ℕ) → abstract_of q d ≡ abstract_of p d) → has_ended (stands p who) ≡ true → task (stands q who) ≡ Reads c → Shows p who act q
  moves : (c : ℕ) → OthersStay p c q → Rule p who c act (abstract_of p c) (task (stands p who)) (abstract_of q c) (task (stands q who)) → ((abstract_of q c ≡ abstract_of p c → ⊥) → IsExchange c (stands p who)) → Shows p who act q

-- an accessor's step by the rules: the others stand where they stood, and all threads stay
pub record Follows (p : Protocol) (who : ℕ) (act : Act) (q : Protocol) : Type 0 where
  pub shows : Shows p who act q
  pub others : (u : ℕ) → (u ≡ who → ⊥) → stands q u ≡ stands p u
  pub threads : q.threads ≡ p.threads
