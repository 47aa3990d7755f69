-- One obligation a thread gives a simulation, and so do related parts.
use Rattle.std.proofs.Common.{◌≡◌, ◌≢◌, ℕ, zero, suc, ◌+◌, ◌*◌, ◌<◌, ◌≤◌, Bool, true, false, ◌⊎◌, ◌∙◌, sym, subst, refl, inl, inr, arith, true≢false}
use Rattle.runs.specs.System.{Next, Goes, Waits, Ended, Stuck, System}
use Rattle.runs.specs.Refines.{Refines}
use Rattle.runs.specs.Simulates.{Answered, Comes, Pairs, Simulates, ThreadAgrees}
use Rattle.runs.specs.Matches.{Fits, Matches, MatchesByParts, OwnMatches, PartMatches, Parts, StepMatches, Stays, ThreadMatches, Related, pairs_of}
use Rattle.runs.proofs.Agreeing.{agree_by_thread, goes_on}
use Rattle.runs.proofs.Putting.{same_or_not}
use Rattle.runs.proofs.Simulated.{simulation_refines}

-- a thread that makes moves hasn't ended
pub comes_unfinished : {Event Place B : Type 0} (upper : System Event Place B) (t n i : ℕ) (x y : B) → Comes upper t n i x y → (n ≡ 0 → upper.next x t ≢ Ended) → upper.next x t ≢ Ended
comes_unfinished upper t zero i x y h silent = silent refl
comes_unfinished upper t (suc n) i x y h silent = rw h.1 goes_on

-- ranks of at most c that fall where there is no move, or stay where there is none of so many
pub rank_rises : (c k k' n : ℕ) → k' ≤ c → (n ≡ 0 → k' < k) → k' ≤ k + c * n
rank_rises c k k' zero le falls = let f : k' < k = falls refl in omega arith
rank_rises c k k' (suc n) le falls = omega arith

pub rank_others : (c k k' i : ℕ) → k' ≤ c → (i ≡ 0 → k' ≤ k) → k' ≤ k + c * i
rank_others c k k' zero le same = let f : k' ≤ k = same refl in omega arith
rank_others c k k' (suc i) le same = omega arith

module _ {Event Place A B W : Type 0} (lower : System Event Place A) (upper : System Event Place B) (pairs : Pairs A B W) (there : A → ℕ → Bool) (c : ℕ) (m : Matches lower upper pairs there c) where
  agrees : (w : W) (t : ℕ) (n : Next A) → ThreadMatches lower upper pairs there c w t n → ThreadAgrees lower upper (pairs.low w) (pairs.up w) t n
  agrees w t (Goes x) h = comes_unfinished upper t h.answer.moves h.answer.inits _ _ h.answer.up (λ z. (h.silent z).1)
  agrees w t Waits h = h
  agrees w t Ended h = h
  agrees w t Stuck h = h

  answered : (w : W) (t : ℕ) (x : A) → StepMatches lower upper pairs there c w t x → Answered lower upper pairs there c w t x
  answered w t x h = record {
    next = h.next;
    low = h.low;
    answer = h.answer;
    no_more_inits = h.no_more_inits;
    falls = λ z. (h.silent z).0;
    rises = rank_rises c _ _ h.answer.moves (m.small h.next t) (λ z. (h.silent z).0);
    others = λ u ne is. rank_others c _ _ h.answer.inits (m.small h.next u) (λ z. h.others z u ne is);
    begun = λ u new. m.small h.next u;
  }

  pub matches_simulate : Simulates lower upper pairs there c
  matches_simulate = record {
    first = m.first;
    first_low = m.first_low;
    first_up = m.first_up;
    first_rank = λ t is. m.small m.first t;
    agree = λ w reached. agree_by_thread lower upper (pairs.low w) (pairs.up w) (m.trace w reached) (m.threads w reached) (λ t. agrees w t (lower.next (pairs.low w) t) (m.thread w reached t));
    step = λ w reached t x goes. answered w t x (subst (ThreadMatches lower upper pairs there c w t) goes (m.thread w reached t));
    moves_there = m.moves_there;
    stays_there = m.stays_there;
  }

  pub matches_refine : Refines lower upper (c + 1)
  matches_refine = simulation_refines lower upper pairs there c matches_simulate

module _ {Event Place A B X Y Shared Own : Type 0} (lower : System Event Place A) (upper : System Event Place B) (parts : Parts A B X Y Shared Own) (there : A → ℕ → Bool) (c : ℕ) (m : MatchesByParts lower upper parts there c) where
  module _ (w : Related parts) (t : ℕ) (x : A) (h : OwnMatches lower upper parts there c w t x) where
    -- who stands for u now
    abbrev Now : ℕ → Type 0
    Now u = (own : Own) × Fits parts x (parts.up h.shared) u own × (u ≢ t → there (parts.low w.shared) u ≡ true → parts.rank own ≤ parts.rank (w.own u))

    now_other : (u : ℕ) → u ≢ t → Stays parts w x (parts.up h.shared) u ⊎ ((there (parts.low w.shared) u ≡ false) × (new : Own) × Fits parts x (parts.up h.shared) u new) → Now u
    now_other u ne (inl stays) = (w.own u, ((w.fits u).0 ∙ sym stays.0, (w.fits u).1 ∙ sym stays.1), λ ne is. omega arith)
    now_other u ne (inr born) = (born.1, born.2, λ ne is. absurd (true≢false (sym is ∙ born.0)))

    now_from : (u : ℕ) → (u ≡ t) ⊎ (u ≢ t) → Now u
    now_from u (inl e) = (h.own, subst (λ v. Fits parts x (parts.up h.shared) v h.own) (sym e) h.fits, λ ne is. absurd (ne e))
    now_from u (inr ne) = now_other u ne (h.others u ne)

    now_own : (d : (t ≡ t) ⊎ (t ≢ t)) → (now_from t d).0 ≡ h.own
    unfolding now_from
    now_own (inl e) = refl
    now_own (inr ne) = absurd (ne refl)

    own_matches : StepMatches lower upper (pairs_of parts) there c w t x
    own_matches = record {
      next = record {
        shared = h.shared;
        own = λ u. (now_from u (same_or_not u t)).0;
        fits = λ u. rw h.low (now_from u (same_or_not u t)).1;
      };
      low = h.low;
      answer = h.answer;
      no_more_inits = h.no_more_inits;
      silent = λ z. rw (now_own (same_or_not t t)) (h.silent z);
      others = λ z u ne is. (now_from u (same_or_not u t)).2 ne is;
    }

  part_matches : (w : Related parts) (t : ℕ) (n : Next A) → PartMatches lower upper parts there c w t n → ThreadMatches lower upper (pairs_of parts) there c w t n
  part_matches w t (Goes x) h = own_matches w t x h
  part_matches w t Waits h = h
  part_matches w t Ended h = h
  part_matches w t Stuck h = h

  pub parts_match : Matches lower upper (pairs_of parts) there c
  parts_match = record {
    first = m.first;
    first_low = m.first_low;
    first_up = m.first_up;
    small = λ w t. m.small (w.own t);
    trace = m.trace;
    threads = m.threads;
    thread = λ w reached t. part_matches w t (lower.next (parts.low w.shared) t) (m.thread w reached t);
    moves_there = m.moves_there;
    stays_there = m.stays_there;
  }

  pub parts_refine : Refines lower upper (c + 1)
  parts_refine = matches_refine lower upper (pairs_of parts) there c parts_match
