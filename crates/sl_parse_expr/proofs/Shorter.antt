-- The combinators with the parts left out that can be read off.
use Rattle.std.proofs.Common.{◌≡◌, ℕ, Bool, true, false, List, [], ◌∷◌, Some, refl}
use Rattle.sl_ast.specs.declared.token.Token.{Token}
use Rattle.sl_parse_expr.specs.declared.ahead.Ahead.{Ahead}
use Rattle.sl_parse_expr.specs.Reading.{Reader, expect, word, ahead, choose, option}
use Rattle.sl_parse_expr.proofs.Theory.{Good, always, needs, good_one, good_sub}
use Rattle.sl_parse_expr.proofs.Choices.{good_left, good_right, good_option}

-- a word or a mark
pub tk : {n : ℕ} (what : Ahead) (t : Token) → word what t ≡ Some t.span → Good always (t ∷ []) n (λ _. expect what)
unfolding expect
tk {n} what t is = good_one n (word what) t t.span is

-- the same, as the last part of a rule
pub last : {ends : Ahead → Bool} {n : ℕ} (what : Ahead) (t : Token) → word what t ≡ Some t.span → Good ends (t ∷ []) n (λ _. expect what)
last {ends} {n} what t is = good_sub always ends (t ∷ []) n (λ _. expect what) (λ u h. refl) (tk what t is)

pub pick : {A : Type 0} {ends : Ahead → Bool} {v w : List Token} {n : ℕ} {P Q : ℕ → Reader A} (test : Ahead → Bool) → Good ends v n P → Good ends w n Q → needs v ≡ true → needs w ≡ true → test (ahead v) ≡ true → Good ends v n (λ m. choose test (P m) (Q m))
pick {A} {ends} {v} {w} {n} {P} {Q} test g h some other i = good_left ends v w n test P Q g h some other i

pub else_pick : {A : Type 0} {ends : Ahead → Bool} {v w : List Token} {n : ℕ} {P Q : ℕ → Reader A} (test : Ahead → Bool) → Good ends v n P → Good ends w n Q → needs v ≡ true → needs w ≡ true → test (ahead w) ≡ false → Good ends w n (λ m. choose test (P m) (Q m))
else_pick {A} {ends} {v} {w} {n} {P} {Q} test g h some other i = good_right ends v w n test P Q g h some other i

pub perhaps : {A : Type 0} {ends : Ahead → Bool} {v : List Token} {n : ℕ} {P : ℕ → Reader A} (test : Ahead → Bool) (x : A) → Good ends v n P → needs v ≡ true → ((o : Ahead) → ends o ≡ true → test o ≡ false) → Good ends [] n (λ m. option test (P m) x)
perhaps {A} {ends} {v} {n} {P} test x g some stays = good_option ends v n test P x g some stays

pub fewer : {A : Type 0} {big small : Ahead → Bool} {w : List Token} {n : ℕ} {P : ℕ → Reader A} → ((o : Ahead) → small o ≡ true → big o ≡ true) → Good big w n P → Good small w n P
fewer {A} {big} {small} {w} {n} {P} sub g = good_sub big small w n P sub g
