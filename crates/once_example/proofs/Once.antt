-- The exchanges and latches refine the atomic cell.
use Rattle.std.proofs.Common.{◌≡◌, ◌≢◌, ℕ, zero, suc, ◌<◌, ◌≤◌, List, [], ◌∷◌, ◌++◌, Bool, true, false, ◌⊎◌, ◌∙◌, sym, ap, subst, refl, inl, inr, ⊎_elim, nat_eq, nat_le, ◌&&◌, if◌then◌else◌, arith, eqb-true, eq-eqb, ne_eqb, true≢false}
use Rattle.runs.specs.System.{Next, Goes, Waits, Ended, Stuck, put, reach}
use Rattle.runs.specs.Refines.{Refines}
use Rattle.runs.specs.Waiting.{IsFreed, Frees}
use Rattle.runs.specs.Matches.{Matches, StepMatches, ThreadMatches}
use Rattle.runs.specs.Simulates.{Pairs, always_there}
use Rattle.runs.specs.declared.turn.Turn.{Turn}
use Rattle.once_example.specs.Waiters.{NoLostWaiter}
use Rattle.runs.proofs.Matched.{matches_refine, matches_simulate}
use Rattle.runs.proofs.Putting.{put-same, put-other, same_or_not, each, each_two}
use Rattle.runs.proofs.Simulated.{alone, reached_pair}
use Rattle.once_example.specs.Upper.{Cell, Empty, Running, Done, Task, Reads, Inside, Tells, is_running, content, move, upper}
use Rattle.once_example.specs.Upper.{State as Above, inits as inits_above}
use Rattle.once_example.specs.Lower.{Field, Null, Evaluating, Latched, Value, Position, Look, Claim, Park, Hang, Sleep, Body, Store, Swap, Open, Tell, is_inside, is_opening, is_in_body, stored, sleep, step, lower}
use Rattle.once_example.specs.Lower.{State as Below}
use Rattle.once_example.specs.Relation.{Stage, Fresh, Mine, Set, Going, Over, task_of, CellIs, IsLatched, IsShared, Keeps, is_set, is_over, holds, Holds, Related, rank_at}

abbrev pairs : (ends : ℕ → ℕ) → Pairs Below Above (Related ends)
pairs ends = record { low = λ w. w.low; up = λ w. w.up; rank = λ w t. rank_at w.low.field (w.low.positions t) }

-- all ranks are at most 5
small : (field : Field) (position : Position) → rank_at field position ≤ 5
small field (Look zero) = omega arith
small Null (Look (suc n)) = omega arith
small Evaluating (Look (suc n)) = omega arith
small (Latched k) (Look (suc n)) = omega arith
small (Value v) (Look (suc n)) = omega arith
small Null (Claim n) = omega arith
small Evaluating (Claim n) = omega arith
small (Latched k) (Claim n) = omega arith
small (Value v) (Claim n) = omega arith
small Null (Park n) = omega arith
small Evaluating (Park n) = omega arith
small (Latched k) (Park n) = omega arith
small (Value v) (Park n) = omega arith
small Null (Hang n k) = omega arith
small Evaluating (Hang n k) = omega arith
small (Latched j) (Hang n k) = omega arith
small (Value v) (Hang n k) = omega arith
small Null (Sleep n k) = omega arith
small Evaluating (Sleep n k) = omega arith
small (Latched j) (Sleep n k) = small_if (nat_eq j k)
  where
    small_if : (b : Bool) → (if b then 0 else 2) ≤ 5
    small_if true = omega arith
    small_if false = omega arith
small (Value v) (Sleep n k) = omega arith
small field (Body n) = omega arith
small field (Store n said) = omega arith
small field (Swap n said) = omega arith
small field (Open n said k) = omega arith
small field (Tell n said) = omega arith

-- a latch that is put there raises no rank
latched_no_more : (k : ℕ) (position : Position) → rank_at (Latched k) position ≤ rank_at Evaluating position
latched_no_more k (Look zero) = omega arith
latched_no_more k (Look (suc n)) = omega arith
latched_no_more k (Claim n) = omega arith
latched_no_more k (Park n) = omega arith
latched_no_more k (Hang n j) = omega arith
latched_no_more k (Sleep n j) = small (Latched k) (Sleep n j)
latched_no_more k (Body n) = omega arith
latched_no_more k (Store n said) = omega arith
latched_no_more k (Swap n said) = omega arith
latched_no_more k (Open n said j) = omega arith
latched_no_more k (Tell n said) = omega arith

-- t goes on to another position, and the field, the latches and who runs stay
local : (ends : ℕ → ℕ) (x : Below) (y : Above) (stage : ℕ → Stage) → Holds ends x y stage → (t : ℕ) (p p' : Position) → x.positions t ≡ p → is_inside p' ≡ is_inside p → ((k : ℕ) → is_opening p k ≡ false) → Keeps ends x.field stage t p' → (a b : List (ℕ × ℕ)) → a ≡ b → (tasks : ℕ → Task) → ((u : ℕ) → tasks u ≡ task_of (put t p' x.positions u)) → Holds ends (record x { positions = put t p' x.positions; told = a }) (record y { tasks = tasks; told = b }) stage
local ends x y stage h t p p' e inside opening keeps a b told tasks at = record {
  cells = h.cells;
  told = told;
  tasks = at;
  runs = each (λ u q. is_inside q ≡ is_running y.cell u) t p' x.positions (inside ∙ ap is_inside (sym e) ∙ h.runs t) (λ u ne. h.runs u);
  keeps = each (λ u q. Keeps ends x.field stage u q) t p' x.positions keeps (λ u ne. h.keeps u);
  fresh = h.fresh;
  set = h.set;
  going = λ k. each (λ u q. stage k ≡ Going u → is_opening q k ≡ true) t p' x.positions (λ g. absurd (true≢false (sym (h.going k t g) ∙ ap (λ q. is_opening q k) e ∙ opening k))) (λ u ne. h.going k u);
  over = h.over;
}

-- a thread that has not made all its reads
abbrev pub busy : Task → Bool
busy (Reads zero) = false
busy (Reads (suc n)) = true
busy (Inside n) = true
busy (Tells n said) = true

abbrev pub number : {S : Type 0} → Next S → ℕ
number (Goes x) = 0
number Waits = 1
number Ended = 2
number Stuck = 3

pub next_unlike : {S : Type 0} (a b : Next S) → number a ≢ number b → a ≢ b
next_unlike a b ne e = ne (ap number e)

pub busy_goes_on : (ends : ℕ → ℕ) (y : Above) (t : ℕ) (task : Task) (cell : Cell) → busy task ≡ true → move ends y t task cell ≢ Ended
busy_goes_on ends y t (Reads zero) cell b = absurd (true≢false (sym b))
busy_goes_on ends y t (Reads (suc n)) Empty b = next_unlike _ _ (omega arith)
busy_goes_on ends y t (Reads (suc n)) (Running u) b = next_unlike _ _ (omega arith)
busy_goes_on ends y t (Reads (suc n)) (Done v) b = next_unlike _ _ (omega arith)
busy_goes_on ends y t (Inside n) cell b = next_unlike _ _ (omega arith)
busy_goes_on ends y t (Tells n said) cell b = next_unlike _ _ (omega arith)

-- t has not ended above
goes_on : (ends : ℕ → ℕ) (w : Related ends) (t : ℕ) (p : Position) → w.low.positions t ≡ p → busy (task_of p) ≡ true → move ends w.up t (w.up.tasks t) w.up.cell ≢ Ended
goes_on ends w t p e b = busy_goes_on ends w.up t (w.up.tasks t) w.up.cell (ap busy (w.holds.tasks t ∙ ap task_of e) ∙ b)

-- the same, where t makes no move above
silent : (ends : ℕ → ℕ) (n reads : ℕ) (w : Related ends) (t : ℕ) (p p' : Position) → w.low.positions t ≡ p → busy (task_of p) ≡ true → is_inside p' ≡ is_inside p → ((k : ℕ) → is_opening p k ≡ false) → task_of p' ≡ task_of p → Keeps ends w.low.field w.stage t p' → rank_at w.low.field p' < rank_at w.low.field p → StepMatches (lower ends n reads) (upper ends n reads) (pairs ends) always_there 5 w t (record w.low { positions = put t p' w.low.positions })
silent ends n reads w t p p' e unfinished inside opening task keeps falls =
    let at : (u : ℕ) → w.up.tasks u ≡ task_of (put t p' w.low.positions u) = each (λ u q. w.up.tasks u ≡ task_of q) t p' w.low.positions (w.holds.tasks t ∙ ap task_of e ∙ sym task) (λ u ne. w.holds.tasks u) in
    record {
      next = record {
        low = record w.low { positions = put t p' w.low.positions };
        up = w.up;
        stage = w.stage;
        holds = local ends w.low w.up w.stage w.holds t p p' e inside opening keeps w.low.told w.up.told w.holds.told w.up.tasks at;
      };
      low = refl;
      answer = alone _ _ 5 t 0 0 _ _ (omega arith) (refl, refl);
      no_more_inits = omega arith;
      silent = λ z. (rw (put-same t p' w.low.positions, e) falls, goes_on ends w t p e unfinished);
      others = λ z u ne is. rw (put-other t p' w.low.positions u ne) (omega arith);
    }

-- t goes on to another position with a move above, which enters or ends no initialiser
tells : (ends : ℕ → ℕ) (n reads : ℕ) (w : Related ends) (t : ℕ) (p p' : Position) (a b : List (ℕ × ℕ)) → a ≡ b → w.low.positions t ≡ p → is_inside p' ≡ is_inside p → ((k : ℕ) → is_opening p k ≡ false) → Keeps ends w.low.field w.stage t p' → move ends w.up t (w.up.tasks t) w.up.cell ≡ Goes (record w.up { tasks = put t (task_of p') w.up.tasks; told = b }) → inits_above (w.up.tasks t) w.up.cell ≡ 0 → StepMatches (lower ends n reads) (upper ends n reads) (pairs ends) always_there 5 w t (record w.low { positions = put t p' w.low.positions; told = a })
tells ends n reads w t p p' a b told e inside opening keeps moves no_inits =
    let at : (u : ℕ) → put t (task_of p') w.up.tasks u ≡ task_of (put t p' w.low.positions u) = each_two (λ u q task. task ≡ task_of q) t p' w.low.positions (task_of p') w.up.tasks refl (λ u ne. w.holds.tasks u) in
    record {
      next = record {
        low = record w.low { positions = put t p' w.low.positions; told = a };
        up = record w.up { tasks = put t (task_of p') w.up.tasks; told = b };
        stage = w.stage;
        holds = local ends w.low w.up w.stage w.holds t p p' e inside opening keeps a b told (put t (task_of p') w.up.tasks) at;
      };
      low = refl;
      answer = alone _ _ 5 t 1 0 _ _ (omega arith) (record w.up { tasks = put t (task_of p') w.up.tasks; told = b }, moves, 0, omega (arith, no_inits), (refl, refl));
      no_more_inits = omega arith;
      silent = λ z. absurd (omega arith);
      others = λ z u ne is. rw (put-other t p' w.low.positions u ne) (omega arith);
    }

-- who runs, where no cell is running
nobody : (ends : ℕ → ℕ) (w : Related ends) (t : ℕ) → w.up.cell ≡ Empty → is_inside (w.low.positions t) ≡ false
nobody ends w t e = w.holds.runs t ∙ ap (λ c. is_running c t) e

running_is : (u t : ℕ) (c : Cell) → c ≡ Running u → is_running c t ≡ true → c ≡ Running t
running_is u t c e r = e ∙ ap Running (eqb-true u t (sym (ap (λ d. is_running d t) e) ∙ r))

pub only : (t u : ℕ) → u ≢ t → is_running (Running t) u ≡ false
only t u ne = ne_eqb t u (λ e. ne (sym e))

-- a latch that is another's is not this one
latch_other : (stage : ℕ → Stage) (j k : ℕ) (s : Stage) → stage k ≡ s → stage j ≢ s → j ≢ k
latch_other stage j k s e ne same = ne (ap stage same ∙ e)

-- the exchange of null for Evaluating
claims : (ends : ℕ → ℕ) (n reads : ℕ) (w : Related ends) (t m : ℕ) → w.low.positions t ≡ Claim m → w.low.field ≡ Null → StepMatches (lower ends n reads) (upper ends n reads) (pairs ends) always_there 5 w t (record w.low { field = Evaluating; positions = put t (Body m) w.low.positions })
claims ends n reads w t m e f =
    let cell : w.up.cell ≡ Empty = subst (λ f. CellIs f w.up.cell) f w.holds.cells in
    let task : w.up.tasks t ≡ Reads (suc m) = w.holds.tasks t ∙ ap task_of e in
    let x' : Below = record w.low { field = Evaluating; positions = put t (Body m) w.low.positions } in
    let y' : Above = record w.up { cell = Running t; tasks = put t (Inside m) w.up.tasks } in
    let h = w.holds in
    record {
      next = record {
        low = x';
        up = y';
        stage = w.stage;
        holds = record {
          cells = (t, refl);
          told = h.told;
          tasks = each_two (λ u q task. task ≡ task_of q) t (Body m) w.low.positions (Inside m) w.up.tasks refl (λ u ne. h.tasks u);
          runs = each (λ u q. is_inside q ≡ is_running (Running t) u) t (Body m) w.low.positions (sym (eq-eqb t t refl)) (λ u ne. nobody ends w u cell ∙ sym (only t u ne));
          keeps = each (λ u q. Keeps ends Evaluating w.stage u q) t (Body m) w.low.positions tt (λ u ne. unlatched u (w.low.positions u) (nobody ends w u cell) (h.keeps u));
          fresh = h.fresh;
          set = λ k. h.set k ∙ ap (λ f. holds f k) f;
          going = λ k. each (λ u q. w.stage k ≡ Going u → is_opening q k ≡ true) t (Body m) w.low.positions (λ g. absurd (true≢false (sym (h.going k t g) ∙ ap (λ q. is_opening q k) e))) (λ u ne. h.going k u);
          over = h.over;
        };
      };
      low = refl;
      answer = alone _ _ 5 t 1 1 _ _ (omega arith) (y', rw (task, cell) refl, 0, rw (task, cell) refl, (refl, refl));
      no_more_inits = omega arith;
      silent = λ z. absurd (omega arith);
      others = λ z. absurd (omega arith);
    }
  where
    -- a thread that is not inside relies on nothing of the field
    unlatched : (u : ℕ) (q : Position) → is_inside q ≡ false → Keeps ends w.low.field w.stage u q → Keeps ends Evaluating w.stage u q
    unlatched u (Look i) o k = k
    unlatched u (Claim i) o k = k
    unlatched u (Park i) o k = k
    unlatched u (Hang i j) o k = k
    unlatched u (Sleep i j) o k = k
    unlatched u (Body i) o k = k
    unlatched u (Store i said) o k = k
    unlatched u (Swap i said) o k = absurd (true≢false o)
    unlatched u (Open i said j) o k = k
    unlatched u (Tell i said) o k = k

abbrev kind : Stage → ℕ
kind Fresh = 0
kind (Mine t) = 1
kind Set = 2
kind (Going t) = 3
kind Over = 4

unlike : (a b : Stage) → kind a ≢ kind b → a ≡ b → ⊥
unlike a b ne e = ne (ap kind e)

-- a latch at one stage is not at another
not_at : (stage : ℕ → Stage) (k : ℕ) (a b : Stage) → kind a ≢ kind b → stage k ≡ a → stage k ≡ b → ⊥
not_at stage k a b ne at q = unlike a b ne (sym at ∙ q)

abbrev owner : Stage → ℕ
owner Fresh = 0
owner (Mine t) = t
owner Set = 0
owner (Going t) = t
owner Over = 0

mine_is : (t u : ℕ) → Mine t ≡ Mine u → t ≡ u
mine_is t u e = ap owner e

going_is : (t u : ℕ) → Going t ≡ Going u → t ≡ u
going_is t u e = ap owner e

-- what a fact of each latch needs where one latch changes
put_keeps : (P : Stage → Type 0) (k : ℕ) (s : Stage) (stage : ℕ → Stage) → (P (stage k) → P s) → (j : ℕ) → P (stage j) → P (put k s stage j)
put_keeps P k s stage h = each (λ j z. P (stage j) → P z) k s stage h (λ j ne p. p)

put_back : (P : Stage → Type 0) (k : ℕ) (s : Stage) (stage : ℕ → Stage) → (P s → P (stage k)) → (j : ℕ) → P (put k s stage j) → P (stage j)
put_back P k s stage h = each (λ j z. P z → P (stage j)) k s stage h (λ j ne p. p)

-- what a thread relies on, where the field and the latches change
keeps_moves : (ends : ℕ → ℕ) (field field' : Field) (stage stage' : ℕ → Stage) (u : ℕ) (q : Position) → (is_inside q ≡ true → IsLatched field → IsLatched field') → ((j : ℕ) → stage j ≡ Mine u → stage' j ≡ Mine u) → ((j : ℕ) → IsShared (stage j) → IsShared (stage' j)) → ((j : ℕ) → stage j ≡ Going u → stage' j ≡ Going u) → Keeps ends field stage u q → Keeps ends field' stage' u q
keeps_moves ends field field' stage stage' u (Look i) latched mine shared going k = k
keeps_moves ends field field' stage stage' u (Claim i) latched mine shared going k = k
keeps_moves ends field field' stage stage' u (Park i) latched mine shared going k = k
keeps_moves ends field field' stage stage' u (Hang i j) latched mine shared going k = mine j k
keeps_moves ends field field' stage stage' u (Sleep i j) latched mine shared going k = shared j k
keeps_moves ends field field' stage stage' u (Body i) latched mine shared going k = k
keeps_moves ends field field' stage stage' u (Store i said) latched mine shared going k = k
keeps_moves ends field field' stage stage' u (Swap i said) latched mine shared going k = (k.0, latched refl k.1)
keeps_moves ends field field' stage stage' u (Open i said j) latched mine shared going k = going j k
keeps_moves ends field field' stage stage' u (Tell i said) latched mine shared going k = k

-- who is about to open a latch, where a thread that is not goes on
opening_moves : (positions : ℕ → Position) (t : ℕ) (p p' : Position) (j u : ℕ) → positions t ≡ p → is_opening p j ≡ false → is_opening (positions u) j ≡ true → is_opening (put t p' positions u) j ≡ true
opening_moves positions t p p' j u e none is =
    ⊎_elim
    (λ same. absurd (true≢false (sym is ∙ ap (λ v. is_opening (positions v) j) same ∙ ap (λ q. is_opening q j) e ∙ none)))
    (λ ne. ap (λ q. is_opening q j) (put-other t p' positions u ne) ∙ is)
    (same_or_not u t)

set_shared : (s : Stage) → is_set s ≡ true → IsShared s
set_shared Fresh e = absurd (true≢false (sym e))
set_shared (Mine t) e = absurd (true≢false (sym e))
set_shared Set e = tt
set_shared (Going t) e = tt
set_shared Over e = tt

over_not_set : (s : Stage) → is_over s ≡ true → is_set s ≡ false
over_not_set Fresh e = refl
over_not_set (Mine t) e = refl
over_not_set Set e = absurd (true≢false (sym e))
over_not_set (Going t) e = refl
over_not_set Over e = refl

stored_is : (r : ℕ) → CellIs (stored r) (content r)
stored_is zero = refl
stored_is (suc v) = refl

stored_holds : (r k : ℕ) → holds (stored r) k ≡ false
stored_holds zero k = refl
stored_holds (suc v) k = refl

pub content_idle : (r u : ℕ) → is_running (content r) u ≡ false
content_idle zero u = refl
content_idle (suc v) u = refl

-- the cell, by the field
cell_at : (ends : ℕ → ℕ) (w : Related ends) (f : Field) → w.low.field ≡ f → CellIs f w.up.cell
cell_at ends w f g = subst (λ f. CellIs f w.up.cell) g w.holds.cells

-- what is known of the latch that a field holds, and of the others
set_at : (ends : ℕ → ℕ) (w : Related ends) (f : Field) → w.low.field ≡ f → (k : ℕ) → is_set (w.stage k) ≡ holds f k
set_at ends w f g k = w.holds.set k ∙ ap (λ f. holds f k) g

keeps_at : (ends : ℕ → ℕ) (w : Related ends) (t : ℕ) (p : Position) → w.low.positions t ≡ p → Keeps ends w.low.field w.stage t p
keeps_at ends w t p e = subst (Keeps ends w.low.field w.stage t) e (w.holds.keeps t)

-- the one that is inside is the one that runs
runs_at : (ends : ℕ → ℕ) (w : Related ends) (t : ℕ) (p : Position) → w.low.positions t ≡ p → is_inside p ≡ true → is_running w.up.cell t ≡ true
runs_at ends w t p e inside = sym (w.holds.runs t) ∙ ap is_inside e ∙ inside

idle_not : (ends : ℕ → ℕ) (w : Related ends) (t : ℕ) (p : Position) (c : Cell) → w.low.positions t ≡ p → is_inside p ≡ true → w.up.cell ≡ c → is_running c t ≢ true → ⊥
idle_not ends w t p c e inside cell idle = idle (ap (λ c. is_running c t) (sym cell) ∙ runs_at ends w t p e inside)

runner_is : (ends : ℕ → ℕ) (w : Related ends) (t : ℕ) (p : Position) (f : Field) → w.low.positions t ≡ p → is_inside p ≡ true → w.low.field ≡ f → (u : ℕ) × w.up.cell ≡ Running u → w.up.cell ≡ Running t
runner_is ends w t p f e inside g c = running_is c.0 t w.up.cell c.1 (runs_at ends w t p e inside)

outside : (ends : ℕ → ℕ) (w : Related ends) (t u : ℕ) → w.up.cell ≡ Running t → u ≢ t → is_inside (w.low.positions u) ≡ false
outside ends w t u cell ne = w.holds.runs u ∙ ap (λ c. is_running c u) cell ∙ only t u ne

-- t makes a latch
parks : (ends : ℕ → ℕ) (n reads : ℕ) (w : Related ends) (t m : ℕ) → w.low.positions t ≡ Park m → rank_at w.low.field (Hang m w.low.made) < rank_at w.low.field (Park m) → StepMatches (lower ends n reads) (upper ends n reads) (pairs ends) always_there 5 w t (record w.low { made = suc w.low.made; positions = put t (Hang m w.low.made) w.low.positions })
parks ends n reads w t m e falls =
    let h = w.holds in
    let k = w.low.made in
    let p' = Hang m k in
    let stage' : ℕ → Stage = put k (Mine t) w.stage in
    let new : w.stage k ≡ Fresh = h.fresh k (omega arith) in
    record {
      next = record {
        low = record w.low { made = suc k; positions = put t p' w.low.positions };
        up = w.up;
        stage = stage';
        holds = record {
          cells = h.cells;
          told = h.told;
          tasks = each (λ u q. w.up.tasks u ≡ task_of q) t p' w.low.positions (h.tasks t ∙ ap task_of e) (λ u ne. h.tasks u);
          runs = each (λ u q. is_inside q ≡ is_running w.up.cell u) t p' w.low.positions (sym (ap is_inside e) ∙ h.runs t) (λ u ne. h.runs u);
          keeps = each (λ u q. Keeps ends w.low.field stage' u q) t p' w.low.positions (put-same k (Mine t) w.stage) (λ u ne. keeps_moves ends w.low.field w.low.field w.stage stage' u (w.low.positions u) (λ i l. l) (put_keeps (λ z. z ≡ Mine u) k (Mine t) w.stage (λ q. absurd (not_at w.stage k Fresh (Mine u) (omega arith) new q))) (put_keeps IsShared k (Mine t) w.stage (λ q. absurd (subst IsShared new q))) (put_keeps (λ z. z ≡ Going u) k (Mine t) w.stage (λ q. absurd (not_at w.stage k Fresh (Going u) (omega arith) new q))) (h.keeps u));
          fresh = λ j le. let ne : j ≢ k = omega arith in put-other k (Mine t) w.stage j ne ∙ h.fresh j (omega arith);
          set = each (λ j z. is_set z ≡ holds w.low.field j) k (Mine t) w.stage (sym (ap is_set new) ∙ h.set k) (λ j ne. h.set j);
          going = λ j u g. opening_moves w.low.positions t (Park m) p' j u e refl (h.going j u (put_back (λ z. z ≡ Going u) k (Mine t) w.stage (λ q. absurd (unlike (Mine t) (Going u) (omega arith) q)) j g));
          over = each (λ j z. w.low.opened j ≡ is_over z) k (Mine t) w.stage (h.over k ∙ ap is_over new) (λ j ne. h.over j);
        };
      };
      low = refl;
      answer = alone _ _ 5 t 0 0 _ _ (omega arith) (refl, refl);
      no_more_inits = omega arith;
      silent = λ z. (rw (put-same t p' w.low.positions, e) falls, goes_on ends w t (Park m) e refl);
      others = λ z u ne is. rw (put-other t p' w.low.positions u ne) (omega arith);
    }

abbrev lower_at : (ends : ℕ → ℕ) (n reads : ℕ) (w : Related ends) → ℕ → Next Below → Type 0
lower_at ends n reads w t next = ThreadMatches (lower ends n reads) (upper ends n reads) (pairs ends) always_there 5 w t next

-- t puts its latch into the field
hangs : (ends : ℕ → ℕ) (n reads : ℕ) (w : Related ends) (t m k : ℕ) → w.low.positions t ≡ Hang m k → w.low.field ≡ Evaluating → StepMatches (lower ends n reads) (upper ends n reads) (pairs ends) always_there 5 w t (record w.low { field = Latched k; positions = put t (Look (suc m)) w.low.positions })
hangs ends n reads w t m k e g =
    let h = w.holds in
    let p' = Look (suc m) in
    let stage' : ℕ → Stage = put k Set w.stage in
    let mine : w.stage k ≡ Mine t = keeps_at ends w t (Hang m k) e in
    record {
      next = record {
        low = record w.low { field = Latched k; positions = put t p' w.low.positions };
        up = w.up;
        stage = stage';
        holds = record {
          cells = cell_at ends w Evaluating g;
          told = h.told;
          tasks = each (λ u q. w.up.tasks u ≡ task_of q) t p' w.low.positions (h.tasks t ∙ ap task_of e) (λ u ne. h.tasks u);
          runs = each (λ u q. is_inside q ≡ is_running w.up.cell u) t p' w.low.positions (sym (ap is_inside e) ∙ h.runs t) (λ u ne. h.runs u);
          keeps = each (λ u q. Keeps ends (Latched k) stage' u q) t p' w.low.positions tt (λ u ne. keeps_moves ends w.low.field (Latched k) w.stage stage' u (w.low.positions u) (λ i l. tt) (put_keeps (λ z. z ≡ Mine u) k Set w.stage (λ q. absurd (ne (sym (mine_is t u (sym mine ∙ q)))))) (put_keeps IsShared k Set w.stage (λ q. tt)) (put_keeps (λ z. z ≡ Going u) k Set w.stage (λ q. absurd (not_at w.stage k (Mine t) (Going u) (omega arith) mine q))) (h.keeps u));
          fresh = λ j le. put_keeps (λ z. z ≡ Fresh) k Set w.stage (λ q. absurd (not_at w.stage k (Mine t) Fresh (omega arith) mine q)) j (h.fresh j le);
          set = each (λ j z. is_set z ≡ holds (Latched k) j) k Set w.stage (sym (eq-eqb k k refl)) (λ j ne. set_at ends w Evaluating g j ∙ sym (only k j ne));
          going = λ j u q. opening_moves w.low.positions t (Hang m k) p' j u e refl (h.going j u (put_back (λ z. z ≡ Going u) k Set w.stage (λ q. absurd (unlike Set (Going u) (omega arith) q)) j q));
          over = each (λ j z. w.low.opened j ≡ is_over z) k Set w.stage (h.over k ∙ ap is_over mine) (λ j ne. h.over j);
        };
      };
      low = refl;
      answer = alone _ _ 5 t 0 0 _ _ (omega arith) (refl, refl);
      no_more_inits = omega arith;
      silent = λ z. (rw (put-same t p' w.low.positions, e, g) (omega arith), goes_on ends w t (Hang m k) e refl);
      others = λ z u ne is. rw (put-other t p' w.low.positions u ne, g) (omega (arith, latched_no_more k (w.low.positions u)));
    }

-- t wakes up
wakes : (ends : ℕ → ℕ) (n reads : ℕ) (w : Related ends) (t m k : ℕ) (f : Field) → w.low.positions t ≡ Sleep m k → w.low.field ≡ f → w.low.opened k ≡ true → rank_at f (Look (suc m)) < rank_at f (Sleep m k)
wakes ends n reads w t m k Null e g o = omega arith
wakes ends n reads w t m k Evaluating e g o = omega arith
wakes ends n reads w t m k (Latched j) e g o =
    let other : nat_eq j k ≡ false = sym (set_at ends w (Latched j) g k) ∙ over_not_set (w.stage k) (sym (w.holds.over k) ∙ o) in
    rw other (omega arith)
wakes ends n reads w t m k (Value v) e g o = omega arith

-- what holds of the others once the initialiser has ended with r
ended_runs : (ends : ℕ → ℕ) (w : Related ends) (t r : ℕ) → w.up.cell ≡ Running t → (u : ℕ) → u ≢ t → is_inside (w.low.positions u) ≡ is_running (content r) u
ended_runs ends w t r cell u ne = outside ends w t u cell ne ∙ sym (content_idle r u)

-- t stores what its initialiser ended with
stores : (ends : ℕ → ℕ) (n reads : ℕ) (w : Related ends) (t m said : ℕ) → w.low.positions t ≡ Store m said → w.low.field ≡ Evaluating → StepMatches (lower ends n reads) (upper ends n reads) (pairs ends) always_there 5 w t (record w.low { field = stored said; positions = put t (Tell m said) w.low.positions })
stores ends n reads w t m said e g =
    let h = w.holds in
    let p' = Tell m said in
    let is : said ≡ ends t = keeps_at ends w t (Store m said) e in
    let cell = runner_is ends w t (Store m said) Evaluating e refl g (cell_at ends w Evaluating g) in
    let task : w.up.tasks t ≡ Inside m = h.tasks t ∙ ap task_of e in
    let y' : Above = record w.up { cell = content (ends t); tasks = put t (Tells m (ends t)) w.up.tasks } in
    record {
      next = record {
        low = record w.low { field = stored said; positions = put t p' w.low.positions };
        up = y';
        stage = w.stage;
        holds = record {
          cells = subst (λ r. CellIs (stored said) (content r)) is (stored_is said);
          told = h.told;
          tasks = each_two (λ u q task. task ≡ task_of q) t p' w.low.positions (Tells m (ends t)) w.up.tasks (ap (Tells m) (sym is)) (λ u ne. h.tasks u);
          runs = each (λ u q. is_inside q ≡ is_running (content (ends t)) u) t p' w.low.positions (sym (content_idle (ends t) t)) (ended_runs ends w t (ends t) cell);
          keeps = each (λ u q. Keeps ends (stored said) w.stage u q) t p' w.low.positions tt (λ u ne. keeps_moves ends w.low.field (stored said) w.stage w.stage u (w.low.positions u) (λ i l. absurd (true≢false (sym i ∙ outside ends w t u cell ne))) (λ j q. q) (λ j q. q) (λ j q. q) (h.keeps u));
          fresh = h.fresh;
          set = λ k. set_at ends w Evaluating g k ∙ sym (stored_holds said k);
          going = λ j u q. opening_moves w.low.positions t (Store m said) p' j u e refl (h.going j u q);
          over = h.over;
        };
      };
      low = refl;
      answer = alone _ _ 5 t 1 1 _ _ (omega arith) (y', rw task refl, 0, rw task refl, (refl, refl));
      no_more_inits = omega arith;
      silent = λ z. absurd (omega arith);
      others = λ z. absurd (omega arith);
    }

-- t takes a latch out of the field
swaps : (ends : ℕ → ℕ) (n reads : ℕ) (w : Related ends) (t m said k : ℕ) → w.low.positions t ≡ Swap m said → w.low.field ≡ Latched k → StepMatches (lower ends n reads) (upper ends n reads) (pairs ends) always_there 5 w t (record w.low { field = stored said; positions = put t (Open m said k) w.low.positions })
swaps ends n reads w t m said k e g =
    let h = w.holds in
    let p' = Open m said k in
    let is : said ≡ ends t = (keeps_at ends w t (Swap m said) e).0 in
    let cell = runner_is ends w t (Swap m said) (Latched k) e refl g (cell_at ends w (Latched k) g) in
    let task : w.up.tasks t ≡ Inside m = h.tasks t ∙ ap task_of e in
    let stage' : ℕ → Stage = put k (Going t) w.stage in
    let was : w.stage k ≡ Set = is_set_is (w.stage k) (set_at ends w (Latched k) g k ∙ eq-eqb k k refl) in
    let y' : Above = record w.up { cell = content (ends t); tasks = put t (Tells m (ends t)) w.up.tasks } in
    record {
      next = record {
        low = record w.low { field = stored said; positions = put t p' w.low.positions };
        up = y';
        stage = stage';
        holds = record {
          cells = subst (λ r. CellIs (stored said) (content r)) is (stored_is said);
          told = h.told;
          tasks = each_two (λ u q task. task ≡ task_of q) t p' w.low.positions (Tells m (ends t)) w.up.tasks (ap (Tells m) (sym is)) (λ u ne. h.tasks u);
          runs = each (λ u q. is_inside q ≡ is_running (content (ends t)) u) t p' w.low.positions (sym (content_idle (ends t) t)) (ended_runs ends w t (ends t) cell);
          keeps = each (λ u q. Keeps ends (stored said) stage' u q) t p' w.low.positions (put-same k (Going t) w.stage) (λ u ne. keeps_moves ends w.low.field (stored said) w.stage stage' u (w.low.positions u) (λ i l. absurd (true≢false (sym i ∙ outside ends w t u cell ne))) (put_keeps (λ z. z ≡ Mine u) k (Going t) w.stage (λ q. absurd (not_at w.stage k Set (Mine u) (omega arith) was q))) (put_keeps IsShared k (Going t) w.stage (λ q. tt)) (put_keeps (λ z. z ≡ Going u) k (Going t) w.stage (λ q. absurd (not_at w.stage k Set (Going u) (omega arith) was q))) (h.keeps u));
          fresh = λ j le. put_keeps (λ z. z ≡ Fresh) k (Going t) w.stage (λ q. absurd (not_at w.stage k Set Fresh (omega arith) was q)) j (h.fresh j le);
          set = each (λ j z. is_set z ≡ holds (stored said) j) k (Going t) w.stage (sym (stored_holds said k)) (λ j ne. set_at ends w (Latched k) g j ∙ only k j ne ∙ sym (stored_holds said j));
          going = λ j u. opening j u (same_or_not j k);
          over = each (λ j z. w.low.opened j ≡ is_over z) k (Going t) w.stage (h.over k ∙ ap is_over was) (λ j ne. h.over j);
        };
      };
      low = refl;
      answer = alone _ _ 5 t 1 1 _ _ (omega arith) (y', rw task refl, 0, rw task refl, (refl, refl));
      no_more_inits = omega arith;
      silent = λ z. absurd (omega arith);
      others = λ z. absurd (omega arith);
    }
  where
    is_set_is : (s : Stage) → is_set s ≡ true → s ≡ Set
    is_set_is Fresh q = absurd (true≢false (sym q))
    is_set_is (Mine u) q = absurd (true≢false (sym q))
    is_set_is Set q = refl
    is_set_is (Going u) q = absurd (true≢false (sym q))
    is_set_is Over q = absurd (true≢false (sym q))

    opening : (j u : ℕ) → (j ≡ k) ⊎ (j ≢ k) → put k (Going t) w.stage j ≡ Going u → is_opening (put t (Open m said k) w.low.positions u) j ≡ true
    opening j u (inl same) q =
        let at : t ≡ u = going_is t u (sym (ap (put k (Going t) w.stage) same ∙ put-same k (Going t) w.stage) ∙ q) in
        ap (λ v. is_opening (put t (Open m said k) w.low.positions v) j) (sym at) ∙ ap (λ z. is_opening z j) (put-same t (Open m said k) w.low.positions) ∙ eq-eqb k j (sym same)
    opening j u (inr ne) q =
        opening_moves w.low.positions t (Swap m said) (Open m said k) j u e refl (w.holds.going j u (sym (put-other k (Going t) w.stage j ne) ∙ q))

-- t opens the latch
opens : (ends : ℕ → ℕ) (n reads : ℕ) (w : Related ends) (t m said k : ℕ) → w.low.positions t ≡ Open m said k → StepMatches (lower ends n reads) (upper ends n reads) (pairs ends) always_there 5 w t (record w.low { opened = put k true w.low.opened; positions = put t (Tell m said) w.low.positions })
opens ends n reads w t m said k e =
    let h = w.holds in
    let p' = Tell m said in
    let stage' : ℕ → Stage = put k Over w.stage in
    let was : w.stage k ≡ Going t = keeps_at ends w t (Open m said k) e in
    record {
      next = record {
        low = record w.low { opened = put k true w.low.opened; positions = put t p' w.low.positions };
        up = w.up;
        stage = stage';
        holds = record {
          cells = h.cells;
          told = h.told;
          tasks = each (λ u q. w.up.tasks u ≡ task_of q) t p' w.low.positions (h.tasks t ∙ ap task_of e) (λ u ne. h.tasks u);
          runs = each (λ u q. is_inside q ≡ is_running w.up.cell u) t p' w.low.positions (sym (ap is_inside e) ∙ h.runs t) (λ u ne. h.runs u);
          keeps = each (λ u q. Keeps ends w.low.field stage' u q) t p' w.low.positions tt (λ u ne. keeps_moves ends w.low.field w.low.field w.stage stage' u (w.low.positions u) (λ i l. l) (put_keeps (λ z. z ≡ Mine u) k Over w.stage (λ q. absurd (not_at w.stage k (Going t) (Mine u) (omega arith) was q))) (put_keeps IsShared k Over w.stage (λ q. tt)) (put_keeps (λ z. z ≡ Going u) k Over w.stage (λ q. absurd (ne (sym (going_is t u (sym was ∙ q)))))) (h.keeps u));
          fresh = λ j le. put_keeps (λ z. z ≡ Fresh) k Over w.stage (λ q. absurd (not_at w.stage k (Going t) Fresh (omega arith) was q)) j (h.fresh j le);
          set = each (λ j z. is_set z ≡ holds w.low.field j) k Over w.stage (sym (ap is_set was) ∙ h.set k) (λ j ne. h.set j);
          going = λ j u. opening j u (same_or_not j k);
          over = each_two (λ j o z. o ≡ is_over z) k true w.low.opened Over w.stage refl (λ j ne. h.over j);
        };
      };
      low = refl;
      answer = alone _ _ 5 t 0 0 _ _ (omega arith) (refl, refl);
      no_more_inits = omega arith;
      silent = λ z. (rw (put-same t p' w.low.positions, e) (omega arith), goes_on ends w t (Open m said k) e refl);
      others = λ z u ne is. rw (put-other t p' w.low.positions u ne) (omega arith);
    }
  where
    opening : (j u : ℕ) → (j ≡ k) ⊎ (j ≢ k) → put k Over w.stage j ≡ Going u → is_opening (put t (Tell m said) w.low.positions u) j ≡ true
    opening j u (inl same) q = absurd (unlike Over (Going u) (omega arith) (sym (ap (put k Over w.stage) same ∙ put-same k Over w.stage) ∙ q))
    opening j u (inr ne) q =
        opening_moves w.low.positions t (Open m said k) (Tell m said) j u e (only k j ne) (w.holds.going j u (sym (put-other k Over w.stage j ne) ∙ q))

-- a latch that is set is the field's, so that the cell is running
set_runs : (ends : ℕ → ℕ) (w : Related ends) (k : ℕ) (f : Field) → w.low.field ≡ f → w.stage k ≡ Set → (u : ℕ) × w.up.cell ≡ Running u
set_runs ends w k Null g s = absurd (true≢false (sym (ap is_set s) ∙ set_at ends w Null g k))
set_runs ends w k Evaluating g s = cell_at ends w Evaluating g
set_runs ends w k (Latched j) g s = cell_at ends w (Latched j) g
set_runs ends w k (Value v) g s = absurd (true≢false (sym (ap is_set s) ∙ set_at ends w (Value v) g k))

-- who is about to open a latch frees each one that sleeps on it
frees : (ends : ℕ → ℕ) (n reads : ℕ) (w : Related ends) (t m k u : ℕ) (q : Position) → w.low.positions t ≡ Sleep m k → w.low.positions u ≡ q → is_opening q k ≡ true → Frees (lower ends n reads) w.low u t
frees ends n reads w t m k u (Look i) e g o = absurd (true≢false (sym o))
frees ends n reads w t m k u (Claim i) e g o = absurd (true≢false (sym o))
frees ends n reads w t m k u (Park i) e g o = absurd (true≢false (sym o))
frees ends n reads w t m k u (Hang i j) e g o = absurd (true≢false (sym o))
frees ends n reads w t m k u (Sleep i j) e g o = absurd (true≢false (sym o))
frees ends n reads w t m k u (Body i) e g o = absurd (true≢false (sym o))
frees ends n reads w t m k u (Store i said) e g o = absurd (true≢false (sym o))
frees ends n reads w t m k u (Swap i said) e g o = absurd (true≢false (sym o))
frees ends n reads w t m k u (Open i said j) e g o = rw (g, e) (next_unlike _ _ (omega arith), next_unlike _ _ (omega arith), o)
frees ends n reads w t m k u (Tell i said) e g o = absurd (true≢false (sym o))

-- no lost waiter: one that sleeps on a closed latch waits above, or another is about to open the latch
no_lost_waiter : (ends : ℕ → ℕ) (n reads : ℕ) (w : Related ends) (t m k : ℕ) → w.low.positions t ≡ Sleep m k → w.low.opened k ≡ false → (move ends w.up t (w.up.tasks t) w.up.cell ≡ Waits) ⊎ IsFreed (lower ends n reads) w.low t
no_lost_waiter ends n reads w t m k e o = go (w.stage k) refl (keeps_at ends w t (Sleep m k) e)
  where
    go : (s : Stage) → w.stage k ≡ s → IsShared s → (move ends w.up t (w.up.tasks t) w.up.cell ≡ Waits) ⊎ IsFreed (lower ends n reads) w.low t
    go Fresh s h = absurd h
    go (Mine u) s h = absurd h
    go Set s h =
        let c = set_runs ends w k w.low.field refl s in
        let task : w.up.tasks t ≡ Reads (suc m) = w.holds.tasks t ∙ ap task_of e in
        inl (rw (task, c.1) refl)
    go (Going u) s h = inr (u, frees ends n reads w t m k u (w.low.positions u) e refl (w.holds.going k u s))
    go Over s h = absurd (true≢false (sym (w.holds.over k ∙ ap is_over s) ∙ o))

-- where all wait, none is between its initialiser and its exchange
busy_store : (ends : ℕ → ℕ) (s : Below) (u i said : ℕ) (f : Field) → (step ends s u (Store i said) f ≢ Ended → step ends s u (Store i said) f ≡ Waits) → ⊥
busy_store ends s u i said Null h = next_unlike _ _ (omega arith) (h (next_unlike _ _ (omega arith)))
busy_store ends s u i said Evaluating h = next_unlike _ _ (omega arith) (h (next_unlike _ _ (omega arith)))
busy_store ends s u i said (Latched k) h = next_unlike _ _ (omega arith) (h (next_unlike _ _ (omega arith)))
busy_store ends s u i said (Value v) h = next_unlike _ _ (omega arith) (h (next_unlike _ _ (omega arith)))

busy_swap : (ends : ℕ → ℕ) (s : Below) (u i said : ℕ) (f : Field) → (step ends s u (Swap i said) f ≢ Ended → step ends s u (Swap i said) f ≡ Waits) → ⊥
busy_swap ends s u i said Null h = next_unlike _ _ (omega arith) (h (next_unlike _ _ (omega arith)))
busy_swap ends s u i said Evaluating h = next_unlike _ _ (omega arith) (h (next_unlike _ _ (omega arith)))
busy_swap ends s u i said (Latched k) h = next_unlike _ _ (omega arith) (h (next_unlike _ _ (omega arith)))
busy_swap ends s u i said (Value v) h = next_unlike _ _ (omega arith) (h (next_unlike _ _ (omega arith)))

body_alone : (ends : ℕ → ℕ) (s : Below) (u : ℕ) (p : Position) → (step ends s u p s.field ≢ Ended → step ends s u p s.field ≡ Waits) → is_in_body p ≡ is_inside p
body_alone ends s u (Look i) all = refl
body_alone ends s u (Claim i) all = refl
body_alone ends s u (Park i) all = refl
body_alone ends s u (Hang i j) all = refl
body_alone ends s u (Sleep i j) all = refl
body_alone ends s u (Body i) all = refl
body_alone ends s u (Store i said) all = absurd (busy_store ends s u i said s.field all)
body_alone ends s u (Swap i said) all = absurd (busy_swap ends s u i said s.field all)
body_alone ends s u (Open i said j) all = refl
body_alone ends s u (Tell i said) all = refl

-- a thread that sleeps
sleeps : (ends : ℕ → ℕ) (n reads : ℕ) (w : Related ends) (t m k : ℕ) (f : Field) → w.low.positions t ≡ Sleep m k → w.low.field ≡ f → (b : Bool) → w.low.opened k ≡ b → lower_at ends n reads w t (sleep w.low t m b)
sleeps ends n reads w t m k f e g true o = silent ends n reads w t (Sleep m k) (Look (suc m)) e refl refl (λ j. refl) refl tt (rw g (wakes ends n reads w t m k f e g o))
sleeps ends n reads w t m k f e g false o = record {
  unfinished = goes_on ends w t (Sleep m k) e refl;
  waits = no_lost_waiter ends n reads w t m k e o;
  freed = λ z. absurd (true≢false (sym z.1.2));
  place = λ all. refl;
  blocks = λ all u. body_alone ends w.low u (w.low.positions u) (all u) ∙ w.holds.runs u;
}

-- what each step owes
answer : (ends : ℕ → ℕ) (n reads : ℕ) (w : Related ends) (t : ℕ) (p : Position) (f : Field) → w.low.positions t ≡ p → w.low.field ≡ f → lower_at ends n reads w t (step ends w.low t p f)
answer ends n reads w t (Look zero) f e g = let task : w.up.tasks t ≡ Reads 0 = w.holds.tasks t ∙ ap task_of e in rw task refl
answer ends n reads w t (Look (suc m)) Null e g = silent ends n reads w t (Look (suc m)) (Claim m) e refl refl (λ k. refl) refl tt (rw g (omega arith))
answer ends n reads w t (Look (suc m)) Evaluating e g = silent ends n reads w t (Look (suc m)) (Park m) e refl refl (λ k. refl) refl tt (rw g (omega arith))
answer ends n reads w t (Look (suc m)) (Latched k) e g = silent ends n reads w t (Look (suc m)) (Sleep m k) e refl refl (λ j. refl) refl (set_shared (w.stage k) (set_at ends w (Latched k) g k ∙ eq-eqb k k refl)) (let same : nat_eq k k ≡ true = eq-eqb k k refl in rw (g, same) (omega arith))
answer ends n reads w t (Look (suc m)) (Value v) e g = tells ends n reads w t (Look (suc m)) (Tell m (suc v)) w.low.told w.up.told w.holds.told e refl (λ k. refl) tt (let task : w.up.tasks t ≡ Reads (suc m) = w.holds.tasks t ∙ ap task_of e in rw (task, cell_at ends w (Value v) g) refl) (let task : w.up.tasks t ≡ Reads (suc m) = w.holds.tasks t ∙ ap task_of e in rw (task, cell_at ends w (Value v) g) refl)
answer ends n reads w t (Claim m) Null e g = claims ends n reads w t m e g
answer ends n reads w t (Claim m) Evaluating e g = silent ends n reads w t (Claim m) (Look (suc m)) e refl refl (λ k. refl) refl tt (rw g (omega arith))
answer ends n reads w t (Claim m) (Latched k) e g = silent ends n reads w t (Claim m) (Look (suc m)) e refl refl (λ k. refl) refl tt (rw g (omega arith))
answer ends n reads w t (Claim m) (Value v) e g = silent ends n reads w t (Claim m) (Look (suc m)) e refl refl (λ k. refl) refl tt (rw g (omega arith))
answer ends n reads w t (Park m) Null e g = parks ends n reads w t m e (rw g (omega arith))
answer ends n reads w t (Park m) Evaluating e g = parks ends n reads w t m e (rw g (omega arith))
answer ends n reads w t (Park m) (Latched k) e g = parks ends n reads w t m e (rw g (omega arith))
answer ends n reads w t (Park m) (Value v) e g = parks ends n reads w t m e (rw g (omega arith))
answer ends n reads w t (Hang m k) Null e g = silent ends n reads w t (Hang m k) (Look (suc m)) e refl refl (λ k. refl) refl tt (rw g (omega arith))
answer ends n reads w t (Hang m k) Evaluating e g = hangs ends n reads w t m k e g
answer ends n reads w t (Hang m k) (Latched j) e g = silent ends n reads w t (Hang m k) (Look (suc m)) e refl refl (λ k. refl) refl tt (rw g (omega arith))
answer ends n reads w t (Hang m k) (Value v) e g = silent ends n reads w t (Hang m k) (Look (suc m)) e refl refl (λ k. refl) refl tt (rw g (omega arith))
answer ends n reads w t (Sleep m k) f e g = sleeps ends n reads w t m k f e g (w.low.opened k) refl
answer ends n reads w t (Body m) f e g = silent ends n reads w t (Body m) (Store m (ends t)) e refl refl (λ k. refl) refl refl (omega arith)
answer ends n reads w t (Store m said) Null e g = absurd (idle_not ends w t (Store m said) Empty e refl (cell_at ends w Null g) (λ q. true≢false (sym q)))
answer ends n reads w t (Store m said) Evaluating e g = stores ends n reads w t m said e g
answer ends n reads w t (Store m said) (Latched k) e g = silent ends n reads w t (Store m said) (Swap m said) e refl refl (λ j. refl) refl (keeps_at ends w t (Store m said) e, subst IsLatched (sym g) tt) (omega arith)
answer ends n reads w t (Store m said) (Value v) e g = absurd (idle_not ends w t (Store m said) (Done v) e refl (cell_at ends w (Value v) g) (λ q. true≢false (sym q)))
answer ends n reads w t (Swap m said) Null e g = subst IsLatched g (keeps_at ends w t (Swap m said) e).1
answer ends n reads w t (Swap m said) Evaluating e g = subst IsLatched g (keeps_at ends w t (Swap m said) e).1
answer ends n reads w t (Swap m said) (Latched k) e g = swaps ends n reads w t m said k e g
answer ends n reads w t (Swap m said) (Value v) e g = subst IsLatched g (keeps_at ends w t (Swap m said) e).1
answer ends n reads w t (Open m said k) f e g = opens ends n reads w t m said k e
answer ends n reads w t (Tell m said) f e g = let task : w.up.tasks t ≡ Tells m said = w.holds.tasks t ∙ ap task_of e in tells ends n reads w t (Tell m said) (Look m) (w.low.told ++ (t, said) ∷ []) (w.up.told ++ (t, said) ∷ []) (ap (λ l. l ++ (t, said) ∷ []) w.holds.told) e refl (λ k. refl) tt (rw task refl) (rw task refl)

-- the first states
first_position : (n reads t : ℕ) → (b : Bool) → (if b then Reads reads else Reads 0) ≡ task_of (if b then Look reads else Look 0)
first_position n reads t true = refl
first_position n reads t false = refl

first_out : (reads : ℕ) (b : Bool) → is_inside (if b then Look reads else Look 0) ≡ false
first_out reads true = refl
first_out reads false = refl

first_keeps : (ends : ℕ → ℕ) (reads t : ℕ) (b : Bool) → Keeps ends Null (λ k. Fresh) t (if b then Look reads else Look 0)
first_keeps ends reads t true = tt
first_keeps ends reads t false = tt

first : (ends : ℕ → ℕ) (n reads : ℕ) → Related ends
first ends n reads = record {
  low = (lower ends n reads).first;
  up = (upper ends n reads).first;
  stage = λ k. Fresh;
  holds = record {
    cells = refl;
    told = refl;
    tasks = λ t. first_position n reads t (nat_le 1 t && nat_le t n);
    runs = λ t. first_out reads (nat_le 1 t && nat_le t n);
    keeps = λ t. first_keeps ends reads t (nat_le 1 t && nat_le t n);
    fresh = λ k le. refl;
    set = λ k. refl;
    going = λ k u q. absurd (unlike Fresh (Going u) (omega arith) q);
    over = λ k. refl;
  };
}

matches : (ends : ℕ → ℕ) (n reads : ℕ) → Matches (lower ends n reads) (upper ends n reads) (pairs ends) always_there 5
unfolding first
matches ends n reads = record {
  first = first ends n reads;
  first_low = refl;
  first_up = refl;
  small = λ w t. small w.low.field (w.low.positions t);
  trace = λ w reached. w.holds.told;
  threads = λ w reached. refl;
  thread = λ w reached t. answer ends n reads w t (w.low.positions t) w.low.field refl refl;
  moves_there = λ w t x goes. refl;
  stays_there = λ w t x goes u is. refl;
}

pub refines : (ends : ℕ → ℕ) (n reads : ℕ) → Refines (lower ends n reads) (upper ends n reads) 6
refines ends n reads = matches_refine (lower ends n reads) (upper ends n reads) (pairs ends) always_there 5 (matches ends n reads)

-- the thread of a running cell is inside
waiter_kept : (ends : ℕ → ℕ) (w : Related ends) → NoLostWaiter w.low
waiter_kept ends w t m k e o = go (w.stage k) refl (keeps_at ends w t (Sleep m k) e)
  where
    go : (s : Stage) → w.stage k ≡ s → IsShared s → (u : ℕ) × ((is_inside (w.low.positions u) ≡ true) ⊎ (is_opening (w.low.positions u) k ≡ true))
    go Fresh s h = absurd h
    go (Mine u) s h = absurd h
    go Set s h =
        let c = set_runs ends w k w.low.field refl s in
        (c.0, inl (w.holds.runs c.0 ∙ ap (λ d. is_running d c.0) c.1 ∙ eq-eqb c.0 c.0 refl))
    go (Going u) s h = (u, inr (w.holds.going k u s))
    go Over s h = absurd (true≢false (sym (w.holds.over k ∙ ap is_over s) ∙ o))

pub waiters : (ends : ℕ → ℕ) (n reads : ℕ) (turns : List Turn) → NoLostWaiter (reach (lower ends n reads) turns).state
waiters ends n reads turns =
    let simulates = matches_simulate (lower ends n reads) (upper ends n reads) (pairs ends) always_there 5 (matches ends n reads) in
    let a = reached_pair (lower ends n reads) (upper ends n reads) (pairs ends) always_there 5 simulates turns in
    rw a.2 (waiter_kept ends a.0)
