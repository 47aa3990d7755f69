-- Quiet moves are answered by no move, so that one obligation a thread at main positions is one at all positions.
use Rattle.std.proofs.Common.{◌≡◌, ◌≢◌, ℕ, zero, suc, ◌+◌, ◌≤◌, Bool, true, false, Option, None, Some, ◌⊎◌, ◌∙◌, sym, ap, subst, refl, inl, inr, ⊎_elim, nat_le, ◌&&◌, arith, true≢false, leb-true, le-leb}
use Rattle.runs.specs.System.{Next, Goes, Waits, Ended, Stuck, System, IsReached, put}
use Rattle.runs.specs.Refines.{Refines}
use Rattle.runs.specs.Waiting.{AllWait, Frees, IsFreed}
use Rattle.runs.specs.Simulates.{Pairs, WaitAgrees, there_in}
use Rattle.runs.specs.Matches.{Matches, StepMatches, ThreadMatches}
use Rattle.runs.specs.SharedHeap.{HeapState, SharedHeap, Stepped, count_with, left_by, stepped, system_of, threads_with}
use Rattle.runs.specs.Quiet.{IsQuiet, MainMatches, MainOwes, MatchesQuietly, Quiet}
use Rattle.runs.proofs.Matched.{comes_unfinished, matches_refine}
use Rattle.runs.proofs.Putting.{put-same, put-other, same_or_not, each, each_two}
use Rattle.runs.proofs.Simulated.{alone}

abbrev number : {S : Type 0} → Next S → ℕ
number (Goes x) = 0
number Waits = 1
number Ended = 2
number Stuck = 3

unlike : {S : Type 0} (a b : Next S) → number a ≢ number b → a ≢ b
unlike a b ne e = ne (ap number e)

-- what a thread does over all threads, it does by itself
stepped-number : {H T : Type 0} (t : ℕ) (s : HeapState H T) (n : Next (Stepped H T)) → number (stepped t s n) ≡ number n
stepped-number t s (Goes x) = refl
stepped-number t s Waits = refl
stepped-number t s Ended = refl
stepped-number t s Stuck = refl

is_waits : {S : Type 0} (n : Next S) → number n ≡ 1 → n ≡ Waits
is_waits (Goes x) e = absurd (omega (arith, e))
is_waits Waits e = refl
is_waits Ended e = absurd (omega (arith, e))
is_waits Stuck e = absurd (omega (arith, e))

is_ended : {S : Type 0} (n : Next S) → number n ≡ 2 → n ≡ Ended
is_ended (Goes x) e = absurd (omega (arith, e))
is_ended Waits e = absurd (omega (arith, e))
is_ended Ended e = refl
is_ended Stuck e = absurd (omega (arith, e))

stepped-waits : {H T : Type 0} (t : ℕ) (s : HeapState H T) (n : Next (Stepped H T)) → stepped t s n ≡ Waits → n ≡ Waits
stepped-waits t s n e = is_waits n (sym (stepped-number t s n) ∙ ap number e)

stepped-ended : {H T : Type 0} (t : ℕ) (s : HeapState H T) (n : Next (Stepped H T)) → stepped t s n ≡ Ended → n ≡ Ended
stepped-ended t s n e = is_ended n (sym (stepped-number t s n) ∙ ap number e)

zero_or_more : (n : ℕ) → (n ≡ 0) ⊎ ((k : ℕ) × (n ≡ suc k))
zero_or_more zero = inl refl
zero_or_more (suc k) = inr (k, refl)

abbrev count_of : {H T : Type 0} → ℕ → Next (HeapState H T) → ℕ
count_of n (Goes s) = s.count
count_of n Waits = n
count_of n Ended = n
count_of n Stuck = n

both_true : (a b : Bool) → (a && b) ≡ true → (a ≡ true) × (b ≡ true)
both_true true b e = (refl, e)
both_true false b e = absurd (true≢false (sym e))

-- the numbers of threads that are there
abbrev is_there : ℕ → ℕ → Bool
is_there n u = nat_le 1 u && nat_le u n

there_more : (n k u : ℕ) → n ≤ k → is_there n u ≡ true → is_there k u ≡ true
there_more n k u le is =
    let b = both_true (nat_le 1 u) (nat_le u n) is in
    let within : u ≤ n = leb-true u n b.1 in
    rw (b.0, le-leb u k (let l : u ≤ k = omega arith in l)) refl

there_within : (n u : ℕ) → is_there n u ≡ true → u ≤ n
there_within n u is = leb-true u n (both_true (nat_le 1 u) (nat_le u n) is).1

-- the thread that begins is the next one alone
new_alone : (n u : ℕ) → is_there n u ≡ false → is_there (suc n) u ≡ true → u ≡ suc n
new_alone n u was is =
    let b = both_true (nat_le 1 u) (nat_le u (suc n)) is in
    let high : u ≤ suc n = leb-true u (suc n) b.1 in
    ⊎_elim (λ e. e) (λ ne. let within : nat_le u n ≡ true = le-leb u n (let l : u ≤ n = omega (arith, ne) in l) in let there : is_there n u ≡ true = rw (b.0, within) refl in absurd (true≢false (sym there ∙ was))) (same_or_not u (suc n))

module _ {Event Place H T B W : Type 0} (m : SharedHeap Event Place H T) (upper : System Event Place B) (pairs : Pairs (HeapState H T) B W) (q c : ℕ) (sim : MatchesQuietly m upper pairs q c) where
  abbrev lower : System Event Place (HeapState H T)
  lower = system_of m

  -- each thread is so many quiet moves behind a main position
  record Behind : Type 0 where
    main : W
    left : ℕ → ℕ
    few : (t : ℕ) → left t ≤ q
    threads : ℕ → T
    chains : (t : ℕ) → Quiet m (left t) (threads t) ((pairs.low main).threads t)

  abbrev low_of : Behind → HeapState H T
  low_of b = record { heap = (pairs.low b.main).heap; count = (pairs.low b.main).count; threads = b.threads }

  abbrev behind : Pairs (HeapState H T) B Behind
  behind = record { low = low_of; up = λ b. pairs.up b.main; rank = λ b t. b.left t + pairs.rank b.main t }

  abbrev main_next : W → ℕ → Next (Stepped H T)
  main_next w t = m.step t (pairs.low w).heap ((pairs.low w).threads t)

  at_main : (b : Behind) (t : ℕ) → b.left t ≡ 0 → b.threads t ≡ (pairs.low b.main).threads t
  at_main b t e = subst (λ n. Quiet m n (b.threads t) ((pairs.low b.main).threads t)) e (b.chains t)

  chain_at : (b : Behind) (t k : ℕ) → b.left t ≡ suc k → Quiet m (suc k) (b.threads t) ((pairs.low b.main).threads t)
  chain_at b t k e = subst (λ n. Quiet m n (b.threads t) ((pairs.low b.main).threads t)) e (b.chains t)

  step_at : (b : Behind) (t : ℕ) → b.left t ≡ 0 → m.step t (pairs.low b.main).heap (b.threads t) ≡ main_next b.main t
  step_at b t e = ap (m.step t (pairs.low b.main).heap) (at_main b t e)

  -- a thread that is behind goes on
  goes_behind : (b : Behind) (t k : ℕ) → b.left t ≡ suc k → number (m.step t (pairs.low b.main).heap (b.threads t)) ≡ 0
  goes_behind b t k e = let chain = chain_at b t k e in ap number (chain.1.goes t (pairs.low b.main).heap)

  -- one that does not go stands at its main position
  rests_at : (b : Behind) (t : ℕ) → number (lower.next (low_of b) t) ≢ 0 → b.left t ≡ 0
  rests_at b t ne = ⊎_elim
      (λ z. z)
      (λ k. absurd (ne (stepped-number t (low_of b) _ ∙ goes_behind b t k.0 k.1)))
      (zero_or_more (b.left t))

  main_unfinished : (w : W) (t : ℕ) (n : Next (Stepped H T)) → MainOwes m upper pairs q c w t n → n ≢ Ended → upper.next (pairs.up w) t ≢ Ended
  main_unfinished w t (Goes x) h ne = comes_unfinished upper t h.answer.moves h.answer.inits _ _ h.answer.up (λ z. (h.silent z).1)
  main_unfinished w t Waits h ne = h.unfinished
  main_unfinished w t Ended h ne = absurd (ne refl)
  main_unfinished w t Stuck h ne = absurd h

  -- what frees t at its main position frees it on the way there
  frees_behind : (b : Behind) (t u : ℕ) → b.left t ≡ 0 → Frees lower (pairs.low b.main) u t → Frees lower (low_of b) u t
  frees_behind b t u e f = go (zero_or_more (b.left u))
    where
      h : H
      h = (pairs.low b.main).heap

      opens_t : (x : T) → m.opens h x ((pairs.low b.main).threads t) ≡ true → m.opens h x (b.threads t) ≡ true
      opens_t x o = subst (λ y. m.opens h x y ≡ true) (sym (at_main b t e)) o

      moving : main_next b.main u ≢ Waits
      moving w = f.0 (ap (stepped u (pairs.low b.main)) w)

      go : (b.left u ≡ 0) ⊎ ((k : ℕ) × (b.left u ≡ suc k)) → Frees lower (low_of b) u t
      go (inl z) = (
        (λ w. moving (sym (step_at b u z) ∙ stepped-waits u (low_of b) _ w)),
        (λ w. f.1 (ap (stepped u (pairs.low b.main)) (sym (step_at b u z) ∙ stepped-ended u (low_of b) _ w))),
        opens_t (b.threads u) (subst (λ y. m.opens h y ((pairs.low b.main).threads t) ≡ true) (sym (at_main b u z)) f.2),
      )
      go (inr k) =
          let chain = chain_at b u k.0 k.1 in
          let goes : number (lower.next (low_of b) u) ≡ 0 = stepped-number u (low_of b) _ ∙ goes_behind b u k.0 k.1 in (
            (λ w. let one : 0 ≡ 1 = sym goes ∙ ap number w in absurd (omega (arith, one))),
            (λ w. let two : 0 ≡ 2 = sym goes ∙ ap number w in absurd (omega (arith, two))),
            opens_t (b.threads u) (chain.3 u h ((pairs.low b.main).threads t) moving f.2),
          )

  freed_behind : (b : Behind) (t : ℕ) → b.left t ≡ 0 → IsFreed lower (pairs.low b.main) t → IsFreed lower (low_of b) t
  freed_behind b t e f = (f.0, frees_behind b t f.0 e f.1)

  -- where all threads wait, all stand at main positions
  all_main : (b : Behind) → AllWait lower (low_of b) → (t : ℕ) → b.left t ≡ 0
  all_main b all t = ⊎_elim
      (λ z. z)
      (λ k.
      let goes : number (lower.next (low_of b) t) ≡ 0 = stepped-number t (low_of b) _ ∙ goes_behind b t k.0 k.1 in
      let waits : lower.next (low_of b) t ≡ Waits = all t (λ e. let two : 0 ≡ 2 = sym goes ∙ ap number e in absurd (omega (arith, two))) in
      let one : 0 ≡ 1 = sym goes ∙ ap number waits in absurd (omega (arith, one)))
      (zero_or_more (b.left t))

  all_wait_main : (b : Behind) → AllWait lower (low_of b) → AllWait lower (pairs.low b.main)
  all_wait_main b all t ne =
      let z = all_main b all t in
      let w = all t (λ e. ne (ap (stepped t (pairs.low b.main)) (sym (step_at b t z) ∙ stepped-ended t (low_of b) _ e))) in
      ap (stepped t (pairs.low b.main)) (sym (step_at b t z) ∙ stepped-waits t (low_of b) _ w)

  waits_behind : (b : Behind) (t : ℕ) → b.left t ≡ 0 → WaitAgrees lower upper (pairs.low b.main) (pairs.up b.main) t → WaitAgrees lower upper (low_of b) (pairs.up b.main) t
  waits_behind b t z h = record {
    unfinished = h.unfinished;
    waits = ⊎_elim inl (λ f. inr (freed_behind b t z f)) h.waits;
    freed = λ f. freed_behind b t z (h.freed f);
    place = λ all. ap (m.place (pairs.low b.main).heap) (at_main b t z) ∙ h.place (all_wait_main b all);
    blocks = λ all u. let same = h.blocks (all_wait_main b all) u in rw (at_main b t z, at_main b u (all_main b all u)) same;
  }

  -- a quiet move
  quiet_step : (b : Behind) (t k : ℕ) → IsReached upper (pairs.up b.main) → b.left t ≡ suc k → (z : T) → IsQuiet m (b.threads t) z → ((u : ℕ) (h : H) → m.step u h ((pairs.low b.main).threads t) ≢ Ended) → Quiet m k z ((pairs.low b.main).threads t) → StepMatches lower upper behind (there_in lower) (q + c) b t (left_by t (low_of b) (pairs.low b.main).heap z None)
  quiet_step b t k reached e z is unfinished rest = record {
    next = record {
      main = b.main;
      left = put t k b.left;
      few = each (λ u n. n ≤ q) t k b.left (let le = b.few t in omega arith) (λ u ne. b.few u);
      threads = put t z b.threads;
      chains = each_two (λ u n x. Quiet m n x ((pairs.low b.main).threads u)) t k b.left z b.threads rest (λ u ne. b.chains u);
    };
    low = refl;
    answer = alone _ _ (q + c) t 0 0 _ _ (omega arith) (refl, refl);
    no_more_inits = omega (arith, is.no_inits t (pairs.low b.main).heap);
    silent = λ none. (
      rw (put-same t k b.left) (omega (arith, e)),
      main_unfinished b.main t (main_next b.main t) (sim.thread b.main reached t) (unfinished t (pairs.low b.main).heap),
    );
    others = λ none u ne there. rw (put-other t k b.left u ne) (omega arith);
  }

  -- a thread that steps at its main position is there
  main_there : (w : W) (t : ℕ) → main_next w t ≢ Ended → there_in lower (pairs.low w) t ≡ true
  main_there w t ne = go (there_in lower (pairs.low w) t) refl
    where
      go : (b : Bool) → there_in lower (pairs.low w) t ≡ b → b ≡ true
      go true e = refl
      go false e = absurd (ne (sim.absent w t e))

  -- a step from a main position
  module _ (b : Behind) (t : ℕ) (z : b.left t ≡ 0) (there : there_in lower (pairs.low b.main) t ≡ true) (heap : H) (thread : T) where
    abbrev n : ℕ
    n = (pairs.low b.main).count

    state_is : (begun : Option T) (w : W) (threads : ℕ → T) → (pairs.low w).heap ≡ heap → (pairs.low w).count ≡ count_with n begun → threads ≡ threads_with n begun (put t thread b.threads) → record { heap = (pairs.low w).heap; count = (pairs.low w).count; threads = threads } ≡ left_by t (low_of b) heap thread begun
    state_is begun w threads h k f =
        let one : HeapState H T = record { heap = (pairs.low w).heap; count = (pairs.low w).count; threads = threads } in
        let two : HeapState H T = record { heap = heap; count = (pairs.low w).count; threads = threads } in
        let three : HeapState H T = record { heap = heap; count = count_with n begun; threads = threads } in
        let first : one ≡ two = ap (λ x. record { heap = x; count = (pairs.low w).count; threads = threads }) h in
        let second : two ≡ three = ap (λ x. record { heap = heap; count = x; threads = threads }) k in
        first ∙ (second ∙ ap (λ x. record { heap = heap; count = count_with n begun; threads = x }) f)

    -- a step that begins no thread
    main_alone : MainMatches m upper pairs q c b.main t heap thread None → StepMatches lower upper behind (there_in lower) (q + c) b t (left_by t (low_of b) heap thread None)
    main_alone a = record {
      next = record {
        main = a.next;
        left = put t a.quiet b.left;
        few = each (λ u k. k ≤ q) t a.quiet b.left a.few (λ u ne. b.few u);
        threads = put t thread b.threads;
        chains = each_two (λ u k x. Quiet m k x ((pairs.low a.next).threads u)) t a.quiet b.left thread b.threads a.chain
            (λ u ne. subst (Quiet m (b.left u) (b.threads u)) (sym (a.same u ne (λ new. true≢false (sym new.1 ∙ new.0)))) (b.chains u));
      };
      low = state_is None a.next (put t thread b.threads) a.heap_is a.count_is refl;
      answer = a.answer;
      no_more_inits = subst (λ y. m.inits t (pairs.low b.main).heap y ≤ a.answer.inits) (sym (at_main b t z)) a.no_more_inits;
      silent = λ none. (rw (put-same t a.quiet b.left) (omega (arith, (a.silent none).0, z)), (a.silent none).1);
      others = λ none u ne is. rw (put-other t a.quiet b.left u ne) (omega (arith, a.others none u ne is));
    }

    -- a step that begins a thread
    main_begins : (y : T) → MainMatches m upper pairs q c b.main t heap thread (Some y) → StepMatches lower upper behind (there_in lower) (q + c) b t (left_by t (low_of b) heap thread (Some y))
    main_begins y a = record {
      next = record {
        main = a.next;
        left = left;
        few = each (λ u k. k ≤ q) (suc n) a.begins.0 (put t a.quiet b.left) a.begins.1 (λ u other. each (λ u k. k ≤ q) t a.quiet b.left a.few (λ u ne. b.few u) u);
        threads = put (suc n) y (put t thread b.threads);
        chains = each_two (λ u k x. Quiet m k x ((pairs.low a.next).threads u)) (suc n) a.begins.0 (put t a.quiet b.left) y (put t thread b.threads) a.begins.2 (λ u other. old u other (same_or_not u t));
      };
      low = state_is (Some y) a.next (put (suc n) y (put t thread b.threads)) a.heap_is a.count_is refl;
      answer = a.answer;
      no_more_inits = subst (λ y. m.inits t (pairs.low b.main).heap y ≤ a.answer.inits) (sym (at_main b t z)) a.no_more_inits;
      silent = λ none. (rw (put-other (suc n) a.begins.0 (put t a.quiet b.left) t not_new, put-same t a.quiet b.left) (omega (arith, (a.silent none).0, z)), (a.silent none).1);
      others = λ none u ne is. rw (put-other (suc n) a.begins.0 (put t a.quiet b.left) u (λ e. let le = there_within n u is in absurd (omega arith)), put-other t a.quiet b.left u ne) (omega (arith, a.others none u ne is));
    }
      where
        left : ℕ → ℕ
        left = put (suc n) a.begins.0 (put t a.quiet b.left)

        not_new : t ≢ suc n
        not_new e = let le = there_within n t there in absurd (omega arith)

        old : (u : ℕ) → u ≢ suc n → (u ≡ t) ⊎ (u ≢ t) → Quiet m (put t a.quiet b.left u) (put t thread b.threads u) ((pairs.low a.next).threads u)
        old u other (inl e) = subst (λ v. Quiet m (put t a.quiet b.left v) (put t thread b.threads v) ((pairs.low a.next).threads v)) (sym e) (rw (put-same t a.quiet b.left, put-same t thread b.threads) a.chain)
        old u other (inr ne) =
            rw (put-other t a.quiet b.left u ne, put-other t thread b.threads u ne)
            (subst (Quiet m (b.left u) (b.threads u)) (sym (a.same u ne (λ new. other (new_alone n u new.0 new.1)))) (b.chains u))

    main_step : (begun : Option T) → MainMatches m upper pairs q c b.main t heap thread begun → StepMatches lower upper behind (there_in lower) (q + c) b t (left_by t (low_of b) heap thread begun)
    main_step None a = main_alone a
    main_step (Some y) a = main_begins y a

  main_owes : (b : Behind) (t : ℕ) → b.left t ≡ 0 → (k : Next (Stepped H T)) → main_next b.main t ≡ k → MainOwes m upper pairs q c b.main t k → ThreadMatches lower upper behind (there_in lower) (q + c) b t (stepped t (low_of b) k)
  main_owes b t z (Goes x) e a = main_step b t z (main_there b.main t (λ f. unlike (Goes x) Ended (omega arith) (sym e ∙ f))) x.heap x.thread x.begun a
  main_owes b t z Waits e a = waits_behind b t z a
  main_owes b t z Ended e a = a
  main_owes b t z Stuck e a = a

  owes : (b : Behind) → IsReached upper (pairs.up b.main) → (t : ℕ) → ThreadMatches lower upper behind (there_in lower) (q + c) b t (lower.next (low_of b) t)
  owes b reached t = ⊎_elim
      (λ z. subst (λ k. ThreadMatches lower upper behind (there_in lower) (q + c) b t (stepped t (low_of b) k)) (sym (step_at b t z)) (main_owes b t z (main_next b.main t) refl (sim.thread b.main reached t)))
      (λ k.
      let chain = chain_at b t k.0 k.1 in
      subst (λ k. ThreadMatches lower upper behind (there_in lower) (q + c) b t (stepped t (low_of b) k)) (sym (chain.1.goes t (pairs.low b.main).heap)) (quiet_step b t k.0 reached k.1 chain.0 chain.1 chain.2 chain.4))
      (zero_or_more (b.left t))

  moves_there : (b : Behind) (t : ℕ) (x : HeapState H T) → lower.next (low_of b) t ≡ Goes x → there_in lower (low_of b) t ≡ true
  moves_there b t x e = ⊎_elim
      (λ z. main_there b.main t (λ f. let two : 2 ≡ 0 = sym (ap number (step_at b t z ∙ f)) ∙ (sym (stepped-number t (low_of b) _) ∙ ap number e) in absurd (omega (arith, two))))
      (λ k. let chain = chain_at b t k.0 k.1 in main_there b.main t (chain.2 t (pairs.low b.main).heap))
      (zero_or_more (b.left t))

  count_rises : (s : HeapState H T) (t : ℕ) (k : Next (Stepped H T)) → s.count ≤ count_of s.count (stepped t s k)
  count_rises s t (Goes x) = go x.begun
    where
      go : (begun : Option T) → s.count ≤ count_with s.count begun
      go None = omega arith
      go (Some y) = omega arith
  count_rises s t Waits = omega arith
  count_rises s t Ended = omega arith
  count_rises s t Stuck = omega arith

  stays_there : (b : Behind) (t : ℕ) (x : HeapState H T) → lower.next (low_of b) t ≡ Goes x → (u : ℕ) → there_in lower (low_of b) u ≡ true → there_in lower x u ≡ true
  stays_there b t x e u is =
      there_more (low_of b).count x.count u
      (subst (λ k. (low_of b).count ≤ count_of (low_of b).count k) e (count_rises (low_of b) t (m.step t (pairs.low b.main).heap (b.threads t))))
      is

  first : Behind
  first = record { main = sim.first; left = λ t. 0; few = λ t. omega arith; threads = (pairs.low sim.first).threads; chains = λ t. refl }

  quietly_match : Matches lower upper behind (there_in lower) (q + c)
  unfolding first
  quietly_match = record {
    first = first;
    first_low = sim.first_low;
    first_up = sim.first_up;
    small = λ b t. omega (arith, b.few t, sim.small b.main t);
    trace = λ b reached. sim.trace b.main reached.1;
    threads = λ b reached. sim.threads b.main reached.1;
    thread = λ b reached t. owes b reached.1 t;
    moves_there = moves_there;
    stays_there = stays_there;
  }

  pub quietly_refine : Refines lower upper (q + c + 1)
  quietly_refine = matches_refine lower upper behind (there_in lower) (q + c) quietly_match
