-- Refinements compose.
use Rattle.std.proofs.Common.{ℕ, ◌+◌, ◌*◌, ◌≤◌, List, ◌↔◌, ◌∙◌, inl, inr, ⊎_elim, arith, mul-le-mul_left}
use Rattle.runs.specs.declared.turn.Turn.{Turn}
use Rattle.runs.specs.System.{System, Reached, reach}
use Rattle.runs.specs.Refines.{Pace, Agree, Follows, Refines}
use Rattle.runs.specs.Waiting.{AllWait}

both_ways : {X Y Z : Type 0} → X ↔ Y → Y ↔ Z → X ↔ Z
both_ways f g = (λ x. g.0 (f.0 x), λ z. f.1 (g.1 z))

-- where all unfinished threads wait below, they wait above
pub all_wait_above : {Event Place S T : Type 0} (lower : System Event Place S) (upper : System Event Place T) (x : S) (y : T) → Agree lower upper x y → AllWait lower x → AllWait upper y
all_wait_above lower upper x y h all t ne =
    ⊎_elim
    (λ w. w)
    (λ f. absurd (f.1.0 (all f.0 f.1.1)))
    (h.waits t (all t (λ e. ne ((h.ended t).0 e))))

pub agree_trans : {Event Place A B C : Type 0} (low : System Event Place A) (mid : System Event Place B) (up : System Event Place C) (x : A) (y : B) (z : C) → Agree low mid x y → Agree mid up y z → Agree low up x z
agree_trans low mid up x y z h k = record {
  trace = h.trace ∙ k.trace;
  threads = h.threads ∙ k.threads;
  ended = λ t. both_ways (h.ended t) (k.ended t);
  waits = λ t w. ⊎_elim (λ v. ⊎_elim inl (λ f. inr (h.freed t w f)) (k.waits t v)) inr (h.waits t w);
  freed = λ t w f. ⊎_elim (λ v. h.freed t w (k.freed t v f)) (λ g. g) (h.waits t w);
  cycles = λ all t u place. both_ways (h.cycles all t u place) (k.cycles (all_wait_above low mid x y h all) t u place);
  never_stuck = h.never_stuck;
}

-- the bounds, as numbers
far : (b c s m n i j : ℕ) → 1 ≤ b → 1 ≤ c → s ≤ b * (1 + m + i) → m ≤ c * (1 + n + j) → i ≤ j → s ≤ 2 * b * c * (1 + n + j)
far b c s m n i j pb pc hs hm hi =
    let h1 : b * (1 + m + i) ≤ b * (1 + c * (1 + n + j) + j) = mul-le-mul_left b (omega arith) in
    let h2 : 1 * (1 + j) ≤ c * (1 + n + j) = grind arith in
    let h3 : b * (1 + c * (1 + n + j) + j) ≤ b * (2 * (c * (1 + n + j))) = mul-le-mul_left b (omega arith) in
    omega arith

near : (b c s m n : ℕ) → 1 ≤ b → 1 ≤ c → m ≤ b * (1 + s) → n ≤ c * (1 + m) → n ≤ 2 * b * c * (1 + s)
near b c s m n pb pc hm hn =
    let h1 : 1 * 1 ≤ b * (1 + s) = grind arith in
    let h2 : c * (1 + m) ≤ c * (2 * (b * (1 + s))) = mul-le-mul_left c (omega arith) in
    omega arith

pub pace_trans : {A B C : Type 0} (b c : ℕ) (x : Reached A) (y : Reached B) (z : Reached C) → 1 ≤ b → 1 ≤ c → y.inits ≤ z.inits → Pace b x y → Pace c y z → Pace (2 * b * c) x z
pace_trans b c x y z pb pc hi h k = record {
  steps = λ t. far b c (x.moves t) (y.moves t) (z.moves t) y.inits z.inits pb pc (h.steps t) (k.steps t) hi;
  moves = λ t. near b c (x.moves t) (y.moves t) (z.moves t) pb pc (h.moves t) (k.moves t);
}

pub refines_trans : {Event Place A B C : Type 0} (low : System Event Place A) (mid : System Event Place B) (up : System Event Place C) (b c : ℕ) → 1 ≤ b → 1 ≤ c → Refines low mid b → Refines mid up c → Refines low up (2 * b * c)
refines_trans low mid up b c pb pc h k = record { run = both }
  where
    both : (turns : List Turn) → (above : List Turn) × Follows low up (2 * b * c) (reach low turns) (reach up above)
    both turns =
        let f = h.run turns in
        let g = k.run f.0 in (
          g.0,
          record {
            states = agree_trans low mid up _ _ _ f.1.states g.1.states;
            pace = pace_trans b c _ _ _ pb pc g.1.inits f.1.pace g.1.pace;
            inits = omega (arith, f.1.inits, g.1.inits);
          },
        )

-- a bound that needs no premise
far_any : (b c s m n i j : ℕ) → s ≤ b * (1 + m + i) → m ≤ c * (1 + n + j) → i ≤ j → s ≤ (b * c + b + c) * (1 + n + j)
far_any b c s m n i j hs hm hi =
    let h1 : b * (1 + m + i) ≤ b * (1 + c * (1 + n + j) + j) = mul-le-mul_left b (omega arith) in
    omega arith

near_any : (b c s m n : ℕ) → m ≤ b * (1 + s) → n ≤ c * (1 + m) → n ≤ (b * c + b + c) * (1 + s)
near_any b c s m n hm hn =
    let h1 : c * (1 + m) ≤ c * (1 + b * (1 + s)) = mul-le-mul_left c (omega arith) in
    omega arith

pub refines_always : {Event Place A B C : Type 0} (low : System Event Place A) (mid : System Event Place B) (up : System Event Place C) (b c : ℕ) → Refines low mid b → Refines mid up c → Refines low up (b * c + b + c)
refines_always low mid up b c h k = record { run = both }
  where
    both : (turns : List Turn) → (above : List Turn) × Follows low up (b * c + b + c) (reach low turns) (reach up above)
    both turns =
        let f = h.run turns in
        let g = k.run f.0 in (
          g.0,
          record {
            states = agree_trans low mid up _ _ _ f.1.states g.1.states;
            pace = record {
              steps = λ t. far_any b c _ _ _ _ _ (f.1.pace.steps t) (g.1.pace.steps t) g.1.inits;
              moves = λ t. near_any b c _ _ _ (f.1.pace.moves t) (g.1.pace.moves t);
            };
            inits = omega (arith, f.1.inits, g.1.inits);
          },
        )
