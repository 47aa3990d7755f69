use Rattle.std.proofs.Common.{◌≡◌, ℕ, List, ◌++◌, Option, Some, None, Result, Ok, Err, OnOk, OnErr, ap, ◌∙◌, sym, append_assoc}
use Rattle.std.specs.Option.{option_map}
use Rattle.sl_io.specs.Gains.{Gains, GainsFront}

-- one piece after another
pub gains_both : (old mid new : Option (List ℕ)) (a b : List ℕ) → Gains old a mid → Gains mid b new → Gains old (a ++ b) new
gains_both None mid new a b g h = rw g at h
gains_both (Some held) mid new a b g h = let k : new ≡ option_map (λ held. held ++ b) (Some (held ++ a)) = rw g at h in rw (← append_assoc) k

-- a front of a piece is a front of what begins with the piece
pub front_of_more : (old new : Option (List ℕ)) (a b : List ℕ) → GainsFront old a new → GainsFront old (a ++ b) new
front_of_more old new a b f = record { front = f.front; back = f.back ++ b; joined = sym (append_assoc f.front f.back b) ∙ ap (λ xs. xs ++ b) f.joined; gained = f.gained }

-- a front of the second piece, after the first
pub front_after : (old mid new : Option (List ℕ)) (a b : List ℕ) → Gains old a mid → GainsFront mid b new → GainsFront old (a ++ b) new
front_after old mid new a b g f = record { front = a ++ f.front; back = f.back; joined = append_assoc a f.front f.back ∙ ap (λ xs. a ++ xs) f.joined; gained = gains_both old mid new a f.front g f.gained }

-- what holds anyway holds at an Err
pub on_err : {T E : Type 0} (r : Result T E) (P : Type 0) → P → OnErr r P
on_err (Ok x) P p = tt
on_err (Err e) P p = p

-- what follows from a fact at an Err
pub on_err_from : {T E : Type 0} (r : Result T E) (P Q : Type 0) → (P → Q) → OnErr r P → OnErr r Q
on_err_from (Ok x) P Q f p = tt
on_err_from (Err e) P Q f p = f p

-- what follows from a fact at an Ok
pub on_ok_from : {T E : Type 0} (r : Result T E) (P Q : Type 0) → (P → Q) → OnOk r P → OnOk r Q
on_ok_from (Ok x) P Q f p = f p
on_ok_from (Err e) P Q f p = tt
