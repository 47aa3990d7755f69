-- Larger bounds, implementations, and a system beside itself.
use Rattle.std.proofs.Common.{◌≢◌, ℕ, ◌+◌, ◌^◌, ◌≤◌, List, inl, arith, mul-le-mul_right, refl}
use Rattle.runs.specs.declared.turn.Turn.{Turn}
use Rattle.runs.specs.System.{Stuck, System, reach}
use Rattle.runs.specs.Refines.{Follows, Refines, Implemented, Implements}
use Rattle.runs.specs.Waiting.{HasCycles}
use Rattle.runs.proofs.Composes.{all_wait_above}

-- a larger bound serves too
pub refines_more : {Event Place S T : Type 0} (lower : System Event Place S) (upper : System Event Place T) (b c : ℕ) → b ≤ c → Refines lower upper b → Refines lower upper c
refines_more lower upper b c le h = record { run = more }
  where
    more : (turns : List Turn) → (above : List Turn) × Follows lower upper c (reach lower turns) (reach upper above)
    more turns =
        let f = h.run turns in (
          f.0,
          record {
            states = f.1.states;
            pace = record {
              steps = λ t. omega (arith, f.1.pace.steps t, mul-le-mul_right (1 + (reach upper f.0).moves t + (reach upper f.0).inits) le);
              moves = λ t. omega (arith, f.1.pace.moves t, mul-le-mul_right (1 + (reach lower turns).moves t) le);
            };
            inits = f.1.inits;
          },
        )

-- what refines a system with the law of cycles implements it
pub refines_implements : {Event Place S T : Type 0} (lower : System Event Place S) (upper : System Event Place T) (b : ℕ) → b ≤ 2 ^ 56 → Refines lower upper b → HasCycles upper → Implements lower upper
refines_implements lower upper b le h cycles = record { run = one }
  where
    one : (turns : List Turn) → (above : List Turn) × Implemented lower upper (2 ^ 56) (reach lower turns) (reach upper above)
    one turns =
        let f = (refines_more lower upper b (2 ^ 56) le h).run turns in (
          f.0,
          record {
            follows = f.1;
            all_wait = all_wait_above lower upper _ _ f.1.states;
            cycle = λ all t ne. cycles f.0 (all_wait_above lower upper _ _ f.1.states all) t (λ e. ne ((f.1.states.ended t).1 e));
          },
        )

-- a system that is never stuck refines itself
pub refines_refl : {Event Place S : Type 0} (s : System Event Place S) → ((turns : List Turn) (t : ℕ) → s.next (reach s turns).state t ≢ Stuck) → Refines s s 1
refines_refl s safe = record {
  run = λ turns. (
    turns,
    record {
      states = record {
        trace = refl;
        threads = refl;
        ended = λ t. ((λ e. e), (λ e. e));
        waits = λ t w. inl w;
        freed = λ t w f. f;
        cycles = λ all t u place. ((λ f. f), (λ f. f));
        never_stuck = safe turns;
      };
      pace = record { steps = λ t. omega arith; moves = λ t. omega arith };
      inits = omega arith;
    },
  );
}
