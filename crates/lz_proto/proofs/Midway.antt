-- Many acts, one after another.
use Rattle.std.proofs.Common.{◌≡◌, ℕ, suc, ◌<◌, ◌≤◌, ◌+◌, List, [], ◌∷◌, length, sym, subst, refl, ◌∙◌, arith}
use Rattle.std.specs.List.{All}
use Rattle.std.proofs.lemmas.List.Elements.{All-head, All-tail}
use Rattle.lz_proto.specs.declared.stepped.Stepped.{Stepped}
use Rattle.lz_proto.specs.declared.stepped.Stepped.TheVariants as stepped
use Rattle.lz_proto.specs.declared.act.Act.{Act}
use Rattle.lz_proto.specs.Protocol.{Protocol}
use Rattle.lz_proto.specs.Steps.{Outcome, Moves, Waits, Refuses, acted}
use Rattle.lz_proto.specs.Kept.{IsKept}
use Rattle.lz_proto.specs.Promises.{Answers, after, ran, moves, if_moved, count_of, AllFollow}
use Rattle.lz_proto.proofs.Own.{step_keeps}
use Rattle.lz_proto.proofs.Rules.{act_follows}
use Rattle.lz_proto.proofs.Standing.{as_many, room_stays}

-- in the midst of a list of acts: where it will lead, how many moved, and what the rest finds
pub record Midway (p : Protocol) (acts : List (ℕ × Act)) (q : Protocol) (rest : List (ℕ × Act)) (made : ℕ) : Type 0 where
  pub state : ran q rest ≡ ran p acts
  pub count : made + moves q rest ≡ moves p acts
  pub accessors : length q.at ≡ length p.at
  pub room : length rest ≤ q.spare

pub at_most_one : (answer : Stepped) → count_of answer ≤ 1
at_most_one stepped.Moved = omega arith
at_most_one stepped.Waits = omega arith
at_most_one stepped.Wrong = omega arith

pub begun : (p : Protocol) (acts : List (ℕ × Act)) → length acts ≤ p.spare → Midway p acts p acts 0
begun p acts room = record { state = refl; count = omega arith; accessors = refl; room = room }

pub goes_on : (p : Protocol) (acts : List (ℕ × Act)) (q : Protocol) (who : ℕ) (act : Act) (rest : List (ℕ × Act)) (made : ℕ) → Midway p acts q ((who, act) ∷ rest) made → (answer : Stepped) (r : Protocol) → Answers answer (acted q who act) q r → Midway p acts r rest (made + count_of answer)
unfolding ran moves
goes_on p acts q who act rest made m answer r = go (acted q who act) refl m.state m.count
  where
    longer : length rest + 1 ≤ q.spare
    longer = let room : suc (length rest) ≤ q.spare = m.room in omega arith

    go : (o : Outcome) → acted q who act ≡ o → ran (after q o) rest ≡ ran p acts → made + (if_moved o + moves (after q o) rest) ≡ moves p acts → Answers answer o q r → Midway p acts r rest (made + count_of answer)
    go (Moves s) e state count answers =
        let room : q.spare ≤ s.spare + 1 = room_stays q who act s e in
        rw (answers.0, answers.1) (record { state = state; count = omega (arith, count); accessors = as_many q who act s e ∙ m.accessors; room = omega arith })
    go Waits e state count answers =
        rw (answers.0, answers.1) (record { state = state; count = omega (arith, count); accessors = m.accessors; room = omega arith })
    go Refuses e state count answers =
        rw (answers.0, answers.1) (record { state = state; count = omega (arith, count); accessors = m.accessors; room = omega arith })

pub over : (p : Protocol) (acts : List (ℕ × Act)) (q : Protocol) (made : ℕ) → Midway p acts q [] made → (q ≡ ran p acts) × (made ≡ moves p acts)
unfolding ran moves
over p acts q made m = (m.state, omega (arith, m.count))

-- each act that moves follows the rules
pub all_follow : (acts : List (ℕ × Act)) (p : Protocol) → IsKept p → All (λ a. a.0 < length p.at) acts → AllFollow p acts
unfolding AllFollow
all_follow [] p kept there = tt
all_follow (a ∷ acts) p kept there = (
  λ q e. act_follows p kept.0 kept.1 a.0 here a.1 q e,
  go (λ q k t. all_follow acts q k t) (acted p a.0 a.1) refl,
)
  where
    here : a.0 < length p.at
    here = All-head (λ a. a.0 < length p.at) a acts there

    others : All (λ a. a.0 < length p.at) acts
    others = All-tail (λ a. a.0 < length p.at) a acts there

    go : ((q : Protocol) → IsKept q → All (λ a. a.0 < length q.at) acts → AllFollow q acts) → (o : Outcome) → acted p a.0 a.1 ≡ o → AllFollow (after p o) acts
    go rec (Moves q) e = rec q (step_keeps p q kept a.0 here a.1 e) (subst (λ n. All (λ a. a.0 < n) acts) (sym (as_many p a.0 a.1 q e)) others)
    go rec Waits e = rec p kept others
    go rec Refuses e = rec p kept others
