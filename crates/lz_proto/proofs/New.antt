-- A new state keeps what every state keeps.
use Rattle.std.proofs.Common.{◌≡◌, ℕ, ◌<◌, ◌≤◌, List, [], length, get_or, replicate, ◌⊎◌, inl, inr, sym, ap, subst, refl, ◌∙◌, arith, true≢false}
use Rattle.std.proofs.lemmas.List.{get_or-replicate, length-replicate, get_or_past}
use Rattle.lz_proto.specs.declared.state.State.TheVariants.{Empty}
use Rattle.lz_proto.specs.declared.pos.Pos.{Pos}
use Rattle.lz_proto.specs.declared.pos.Pos.TheVariants.{Idle, Sleep}
use Rattle.lz_proto.specs.Protocol.{Protocol}
use Rattle.lz_proto.specs.Once.{is_inside}
use Rattle.lz_proto.specs.Kept.{Over, IsLatched, Keeps, IsRun, IsKept}
use Rattle.lz_proto.proofs.Writing.{IsSet}
use Rattle.lz_proto.proofs.Latches.{IsGoing}

-- what a list of one item holds everywhere
everywhere_same : {A : Type 0} (n i : ℕ) (x : A) → get_or (replicate n x) i x ≡ x
everywhere_same n i x = go (cases i n)
  where
    cases : (a b : ℕ) → (a < b) ⊎ (b ≤ a)
    cases a b = grind arith

    go : (i < n) ⊎ (n ≤ i) → get_or (replicate n x) i x ≡ x
    go (inl within) = get_or-replicate n i x x within
    go (inr past) = get_or_past (replicate n x) i x (omega (arith, length-replicate n x))

abbrev IsAsleep : Pos → Type 0
IsAsleep (Sleep c latch) = Unit {0}
IsAsleep other = ⊥

abbrev pub new : ℕ → List ℕ → Protocol
new n threads = record { cells = replicate n Empty; opened = []; owner = []; at = replicate (length threads) Idle; threads = threads; spare = 0 }

pub new_kept : (n : ℕ) (threads : List ℕ) → IsKept (new n threads)
new_kept n threads = (
  λ latch. Over,
  record {
    threads = sym (length-replicate (length threads) Idle);
    owners = refl;
    keeps = λ who. subst (Keeps (replicate n Empty) 0 (λ latch. Over) who) (sym (idle who)) tt;
    runs = λ c. subst (IsRun (new n threads) c) (sym (everywhere_same n c Empty)) (λ who. ap (is_inside c) (idle who));
    one = λ c who u a b. absurd (true≢false (sym a ∙ ap (is_inside c) (idle who)));
    set = λ latch c e. absurd (subst IsSet (sym e) tt);
    held = λ c latch e. absurd (subst IsLatched (sym e ∙ everywhere_same n c Empty) tt);
    going = λ latch who e. absurd (subst IsGoing (sym e) tt);
    over = λ latch. refl;
  },
  λ who c latch asleep own. subst IsAsleep (sym asleep ∙ idle who) tt,
)
  where
    idle : (who : ℕ) → get_or (replicate (length threads) Idle) who Idle ≡ Idle
    idle who = everywhere_same (length threads) who Idle
