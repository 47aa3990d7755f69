-- An act moves its own accessor alone, and takes at most one latch of the room.
use Rattle.std.proofs.Common.{◌≡◌, ◌≢◌, ℕ, ◌≤◌, ◌<◌, ◌+◌, ◌⊎◌, inl, inr, List, [], ◌∷◌, length, get_or, slice_set, Bool, true, false, nat_eq, nat_lt, Option, Some, None, refl, ap, sym, ◌∙◌, subst, arith, true≢false, if◌then◌else◌, ◌&&◌}
use Rattle.std.proofs.lemmas.List.{length-set, get_or-set_same, get_or-set_other, get_or_append_left, get_or_past}
use Rattle.runs.proofs.Putting.{same_or_not}
use Rattle.lz_proto.specs.declared.state.State.{State}
use Rattle.lz_proto.specs.declared.state.State.TheVariants.{Empty, Evaluating, Waiting, Done}
use Rattle.lz_proto.specs.declared.pos.Pos.{Pos}
use Rattle.lz_proto.specs.declared.pos.Pos.TheVariants.{Idle, Look, Claim, Body, Store, Take, Swap, Open, Mark, Install, Sleep, Got, Failed, Cycle}
use Rattle.lz_proto.specs.declared.act.Act.{Act}
use Rattle.lz_proto.specs.declared.act.Act.TheVariants.{Read, Return, Throw, Go}
use Rattle.lz_proto.specs.Protocol.{Protocol, content, position, thread, is_open, named}
use Rattle.lz_proto.specs.Steps.{Outcome, Moves, Waits, Refuses, has_ended, ended, goes, looked, marks, claims, installs, sleeps, stores, takes, swaps, next, finish, acted}

-- where only a look leads
abbrev pub is_found : Pos → Bool
is_found (Sleep c latch) = true
is_found Cycle = true
is_found other = false

-- what it reads sends the accessor to this position
abbrev pub IsFound : Protocol → ℕ → Pos → Type 0
IsFound p who to = (c : ℕ) × (position p who ≡ Look c) × (looked p who c (content p c) ≡ to)

unfound : {A : Type 0} {b : Bool} → b ≡ false → b ≡ true → A
unfound e is = absurd (true≢false (sym is ∙ e))

pub ended_unfound : (r : Option ℕ) → is_found (ended r) ≡ false
ended_unfound (Some v) = refl
ended_unfound None = refl

-- a latch that is opened is open
pub opened_is : (opened : List Bool) (latch : ℕ) → get_or (slice_set opened latch true) latch true ≡ true
opened_is opened latch = go (cases latch (length opened))
  where
    cases : (a b : ℕ) → (a < b) ⊎ (b ≤ a)
    cases a b = grind arith

    go : (latch < length opened) ⊎ (length opened ≤ latch) → get_or (slice_set opened latch true) latch true ≡ true
    go (inl within) = get_or-set_same opened latch true true within
    go (inr past) = get_or_past (slice_set opened latch true) latch true (omega (arith, length-set opened latch true))

-- and no other is closed by that
pub opened_open : (opened : List Bool) (latch l : ℕ) → get_or opened l true ≡ true → get_or (slice_set opened latch true) l true ≡ true
opened_open opened latch l o = go (same_or_not l latch)
  where
    go : (l ≡ latch) ⊎ (l ≢ latch) → get_or (slice_set opened latch true) l true ≡ true
    go (inr ne) = get_or-set_other opened latch l true true ne ∙ o
    go (inl same) = ap (λ l. get_or (slice_set opened latch true) l true) same ∙ opened_is opened latch

-- behind a move of this accessor
abbrev pub Near : Protocol → ℕ → Outcome → Type 0
Near p who (Moves q) = (to : Pos) × (q.at ≡ slice_set p.at who to) × (q.threads ≡ p.threads) × (p.spare ≤ q.spare + 1) × ((latch : ℕ) → latch < length p.owner → named q latch ≡ named p latch) × (is_found to ≡ true → IsFound p who to) × ((latch : ℕ) → latch < length p.opened → is_open p latch ≡ true → is_open q latch ≡ true)
Near p who Waits = Unit {0}
Near p who Refuses = Unit {0}

module _ (p : Protocol) (who : ℕ) where
  near_if : (b : Bool) (x y : Outcome) → Near p who x → Near p who y → Near p who (if b then x else y)
  near_if true x y nx ny = nx
  near_if false x y nx ny = ny

  goes_near : (to : Pos) → is_found to ≡ false → Near p who (goes p who to)
  goes_near to e = (to, refl, refl, omega arith, λ latch made. refl, unfound e, λ latch made o. o)

  claims_near : (c : ℕ) (s : State) → Near p who (claims p who c s)
  claims_near c Empty = (Body c, refl, refl, omega arith, λ latch made. refl, unfound refl, λ latch made o. o)
  claims_near c (Evaluating t) = goes_near (Look c) refl
  claims_near c (Waiting latch) = goes_near (Look c) refl
  claims_near c (Done v) = goes_near (Look c) refl

  installs_near : (c latch : ℕ) (s : State) → Near p who (installs p who c latch s)
  installs_near c latch (Evaluating t) = near_if (nat_eq t (named p latch)) _ _ (Look c, refl, refl, omega arith, λ latch made. refl, unfound refl, λ latch made o. o) (goes_near (Look c) refl)
  installs_near c latch Empty = goes_near (Look c) refl
  installs_near c latch (Waiting other) = goes_near (Look c) refl
  installs_near c latch (Done v) = goes_near (Look c) refl

  stores_near : (c : ℕ) (r : Option ℕ) (s : State) → Near p who (stores p who c r s)
  stores_near c r (Evaluating t) = near_if (nat_eq t (thread p who)) _ _ (_, refl, refl, omega arith, λ latch made. refl, unfound (ended_unfound r), λ latch made o. o) (goes_near (Take c r) refl)
  stores_near c r Empty = goes_near (Take c r) refl
  stores_near c r (Waiting other) = goes_near (Take c r) refl
  stores_near c r (Done v) = goes_near (Take c r) refl

  takes_near : (c : ℕ) (r : Option ℕ) (s : State) → Near p who (takes p who c r s)
  takes_near c r (Waiting latch) = goes_near (Swap c r latch) refl
  takes_near c r Empty = tt
  takes_near c r (Evaluating t) = tt
  takes_near c r (Done v) = tt

  swaps_near : (c : ℕ) (r : Option ℕ) (latch : ℕ) (s : State) → Near p who (swaps p who c r latch s)
  swaps_near c r latch (Waiting other) = near_if (nat_eq other latch) _ _ (Open latch r, refl, refl, omega arith, λ latch made. refl, unfound refl, λ latch made o. o) tt
  swaps_near c r latch Empty = tt
  swaps_near c r latch (Evaluating t) = tt
  swaps_near c r latch (Done v) = tt

  sleeps_near : (c : ℕ) (b : Bool) → Near p who (sleeps p who c b)
  sleeps_near c true = goes_near (Look c) refl
  sleeps_near c false = tt

  marks_near : (c t : ℕ) → Near p who (marks p who c t)
  marks_near c t = near_if (nat_lt 0 p.spare) _ _ (Install c (length p.opened), refl, refl, omega arith, λ latch made. get_or_append_left p.owner (t ∷ []) 0 latch made, unfound refl, λ latch made o. get_or_append_left p.opened (false ∷ []) true latch made ∙ o) tt

  next_near : (pos : Pos) → position p who ≡ pos → Near p who (next p who pos)
  next_near (Look c) at = (_, refl, refl, omega arith, λ latch made. refl, λ is. (c, at, refl), λ latch made o. o)
  next_near (Claim c) at = claims_near c (content p c)
  next_near (Store c r) at = stores_near c r (content p c)
  next_near (Take c r) at = takes_near c r (content p c)
  next_near (Swap c r latch) at = swaps_near c r latch (content p c)
  next_near (Open latch r) at = (_, refl, refl, omega arith, λ latch made. refl, unfound (ended_unfound r), λ l made o. opened_open p.opened latch l o)
  next_near (Mark c t) at = marks_near c t
  next_near (Install c latch) at = installs_near c latch (content p c)
  next_near (Sleep c latch) at = sleeps_near c (is_open p latch)
  next_near Idle at = tt
  next_near (Body c) at = tt
  next_near (Got v) at = tt
  next_near Failed at = tt
  next_near Cycle at = tt

  finish_near : (pos : Pos) (r : Option ℕ) → Near p who (finish p who pos r)
  finish_near (Body c) r = goes_near (Store c r) refl
  finish_near Idle r = tt
  finish_near (Look c) r = tt
  finish_near (Claim c) r = tt
  finish_near (Store c s) r = tt
  finish_near (Take c s) r = tt
  finish_near (Swap c s latch) r = tt
  finish_near (Open latch s) r = tt
  finish_near (Mark c t) r = tt
  finish_near (Install c latch) r = tt
  finish_near (Sleep c latch) r = tt
  finish_near (Got v) r = tt
  finish_near Failed r = tt
  finish_near Cycle r = tt

  pub act_near : (act : Act) → Near p who (acted p who act)
  act_near (Read c) = near_if (has_ended (position p who) && nat_lt c (length p.cells)) _ _ (goes_near (Look c) refl) tt
  act_near (Return v) = finish_near (position p who) (Some v)
  act_near Throw = finish_near (position p who) None
  act_near Go = next_near (position p who) refl

  -- the others stand where they stood
  pub others_stand : (act : Act) (q : Protocol) → acted p who act ≡ Moves q → (u : ℕ) → u ≢ who → position q u ≡ position p u
  others_stand act q e u ne =
      let near = subst (Near p who) e (act_near act) in
      ap (λ at. get_or at u Idle) near.1 ∙ get_or-set_other p.at who u near.0 Idle ne

  -- as many accessors are there
  pub as_many : (act : Act) (q : Protocol) → acted p who act ≡ Moves q → length q.at ≡ length p.at
  as_many act q e =
      let near = subst (Near p who) e (act_near act) in
      ap length near.1 ∙ length-set p.at who near.0

  -- latches name whom they named
  pub names_stay : (act : Act) (q : Protocol) → acted p who act ≡ Moves q → (latch : ℕ) → latch < length p.owner → named q latch ≡ named p latch
  names_stay act q e = (subst (Near p who) e (act_near act)).4

  -- all threads stay
  pub threads_stay : (act : Act) (q : Protocol) → acted p who act ≡ Moves q → q.threads ≡ p.threads
  threads_stay act q e = (subst (Near p who) e (act_near act)).2

  -- it takes the room of one latch at most
  pub room_stays : (act : Act) (q : Protocol) → acted p who act ≡ Moves q → p.spare ≤ q.spare + 1
  room_stays act q e = (subst (Near p who) e (act_near act)).3

  -- it sleeps or throws LazyCycle where it has just read the field
  pub found : (act : Act) (q : Protocol) → who < length p.at → acted p who act ≡ Moves q → (to : Pos) → position q who ≡ to → is_found to ≡ true → IsFound p who to
  found act q within e to at is =
      let near = subst (Near p who) e (act_near act) in
      let there : near.0 ≡ to = sym (ap (λ at. get_or at who Idle) near.1 ∙ get_or-set_same p.at who near.0 Idle within) ∙ at in
      subst (IsFound p who) there (near.5 (ap is_found there ∙ is))

  -- latches that are open stay so
  pub open_stays : (act : Act) (q : Protocol) → acted p who act ≡ Moves q → (latch : ℕ) → latch < length p.opened → is_open p latch ≡ true → is_open q latch ≡ true
  open_stays act q e = (subst (Near p who) e (act_near act)).6
