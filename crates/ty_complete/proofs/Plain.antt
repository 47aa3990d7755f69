-- The characters of `main` are its bytes.
use Rattle.std.proofs.Common.{◌≡◌, ℕ, List, [], ◌∷◌, zero, suc, arith}
use Rattle.std.specs.Str.{IsAscii, chars}
use Rattle.std.proofs.lemmas.Str.{chars-IsAscii}

abbrev pub main : List ℕ
main = 109 ∷ 97 ∷ 105 ∷ 110 ∷ []

ascii : IsAscii main
ascii zero = omega arith
ascii (suc zero) = omega arith
ascii (suc (suc zero)) = omega arith
ascii (suc (suc (suc zero))) = omega arith
ascii (suc (suc (suc (suc i)))) = omega arith

pub main_chars : chars main ≡ main
main_chars = chars-IsAscii main ascii
