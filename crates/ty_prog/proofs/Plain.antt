-- ASCII texts.
use Rattle.std.proofs.Common.{ℕ, List, [], ◌∷◌, Bool, true, false, zero, suc, refl, arith}
use Rattle.std.specs.Prelude.{IsTrue, ◌≡◌, ◌&&◌}
use Rattle.std.specs.Char.{is_ascii}
use Rattle.std.specs.List.{list_all}
use Rattle.std.specs.Str.{IsAscii, chars}
use Rattle.std.proofs.lemmas.Bool.{ltb-true}
use Rattle.std.proofs.lemmas.Str.{chars-IsAscii}

both : (a b : Bool) → IsTrue (a && b) → IsTrue a × IsTrue b
both true true h = (refl, refl)
both true false h = absurd (cc)
both false b h = absurd (cc)

all_ascii : (bs : List ℕ) → IsTrue (list_all is_ascii bs) → IsAscii bs
all_ascii [] all i = omega arith
all_ascii (b ∷ bs) all zero = ltb-true b 128 ((both (is_ascii b) (list_all is_ascii bs) all).0)
all_ascii (b ∷ bs) all (suc i) = all_ascii bs (both (is_ascii b) (list_all is_ascii bs) all).1 i

pub plain_chars : (bs : List ℕ) → IsTrue (list_all is_ascii bs) → chars bs ≡ bs
plain_chars bs all = chars-IsAscii bs (all_ascii bs all)
