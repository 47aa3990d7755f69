-- What a sink gains, piece after piece.
use Rattle.std.proofs.Common.{◌≡◌, ℕ, ◌+◌, ◌≤◌, List, [], ◌++◌, Option, None, Some, length, take, drop, refl, sym, ap, ◌∙◌, append_assoc, arith, length-take, subst}
use Rattle.std.specs.Option.{option_map}
use Rattle.std.proofs.lemmas.List.{append-nil, take-append-drop, drop-take, take-take}
use Rattle.sl_io.specs.Gains.{Gains, GainsFront}

-- an empty piece changes nothing
pub gains_nothing : (held : Option (List ℕ)) → Gains held [] held
gains_nothing None = refl
gains_nothing (Some bytes) = ap Some (sym (append-nil bytes))

-- two pieces that were gained one after the other are one piece
gains_more : (first second third : Option (List ℕ)) (xs ys : List ℕ) → Gains first xs second → Gains second ys third → Gains first (xs ++ ys) third
gains_more None second third xs ys gained more = more ∙ ap (option_map (λ held. held ++ ys)) gained
gains_more (Some bytes) second third xs ys gained more = more ∙ ap (option_map (λ held. held ++ ys)) gained ∙ ap Some (append_assoc bytes xs ys)

-- the next items after a front make a longer front
take_further : (i j : ℕ) (xs : List ℕ) → take i xs ++ take j (drop i xs) ≡ take (i + j) xs
take_further i j xs =
    ap (λ front. front ++ take j (drop i xs)) (sym (take-take i (i + j) xs (omega arith)))
    ∙ ap (λ back. take i (take (i + j) xs) ++ back) (sym (drop-take i j xs))
    ∙ take-append-drop i (take (i + j) xs)

-- a front that was gained grows by what a write took of the rest
pub gains_further : (first second third : Option (List ℕ)) (piece : List ℕ) (i n j : ℕ)
    → j ≤ length (take n (drop i piece)) → Gains first (take i piece) second → Gains second (take j (take n (drop i piece))) third → Gains first (take (i + j) piece) third
gains_further first second third piece i n j within gained more =
    let short : j ≤ n = omega (arith, length-take n (drop i piece)) in
    let rest : take j (take n (drop i piece)) ≡ take j (drop i piece) = take-take j n (drop i piece) short in
    let joined : take i piece ++ take j (take n (drop i piece)) ≡ take (i + j) piece = ap (λ back. take i piece ++ back) rest ∙ take_further i j piece in
    let P : List ℕ → Type 0 = λ xs. Gains first xs third in
    subst P joined (gains_more first second third (take i piece) (take j (take n (drop i piece))) gained more)

-- what was gained so far is a front of the piece
pub gains_front : (old new : Option (List ℕ)) (piece : List ℕ) (n : ℕ) → Gains old (take n piece) new → GainsFront old piece new
gains_front old new piece n gained = record { front = take n piece; back = drop n piece; joined = take-append-drop n piece; gained = gained }
