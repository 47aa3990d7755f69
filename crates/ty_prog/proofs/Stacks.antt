-- Parts on a stack.
use Rattle.std.proofs.Common.{◌≡◌, ℕ, suc, ◌<◌, List, [], ◌∷◌, ◌++◌, map, reverse, take, drop, length, refl, ap, sym, ◌∙◌, arith, append_assoc}
use Rattle.std.proofs.lemmas.List.{reverse-append, length-append}
use Rattle.ty_prog.specs.declared.part.Part.{Part}
use Rattle.ty_prog.specs.Tree.{Tree}
use Rattle.ty_prog.specs.Part.{part_tree, in_order}

-- the last one is the first in order
pub popped : (old new : List Part) (last : Part) → old ≡ new ++ last ∷ [] → in_order old ≡ part_tree last ∷ in_order new
popped old new last is = ap in_order is ∙ ap (map part_tree) (reverse-append new (last ∷ []))

-- one more item made of the last part
pub one_more : {A : Type 0} (of : Tree → A) (made : List A) (old new : List Part) (last : Part) → old ≡ new ++ last ∷ []
    → (made ++ of (part_tree last) ∷ []) ++ map of (in_order new) ≡ made ++ map of (in_order old)
one_more of made old new last is = rw (popped old new last is) (append_assoc made (of (part_tree last) ∷ []) (map of (in_order new)))

-- one part fewer
pub one_fewer : (old new : List Part) (last : Part) → old ≡ new ++ last ∷ [] → length new < length old
one_fewer old new last is = omega (arith, ap length is ∙ length-append new (last ∷ []))

-- one more item of so many
pub one_more_of : {A : Type 0} (of : Tree → A) (made : List A) (n : ℕ) (old new : List Part) (last : Part) → old ≡ new ++ last ∷ []
    → (made ++ of (part_tree last) ∷ []) ++ map of (take n (in_order new)) ≡ made ++ map of (take (suc n) (in_order old))
one_more_of of made n old new last is = rw (popped old new last is) (append_assoc made (of (part_tree last) ∷ []) (map of (take n (in_order new))))

pub one_dropped : (n : ℕ) (old new : List Part) (last : Part) → old ≡ new ++ last ∷ [] → drop n (in_order new) ≡ drop (suc n) (in_order old)
one_dropped n old new last is = rw (popped old new last is) refl

-- a part goes from one stack to another
pub turned_more : (made old new : List Part) (last : Part) → old ≡ new ++ last ∷ [] → new ++ reverse (made ++ last ∷ []) ≡ old ++ reverse made
turned_more made old new last is =
    ap (λ l. new ++ l) (reverse-append made (last ∷ [])) ∙ sym (append_assoc new (last ∷ []) (reverse made)) ∙ ap (λ l. l ++ reverse made) (sym is)
