-- Each level depends on the tokens that it takes and on the next one; deeper levels agree with it on what is not too
-- deep; and what stops it can be completed.
use Rattle.std.proofs.Common.{◌≡◌, ℕ, zero, suc, ◌+◌, ◌≤◌, true, List, [], ◌∷◌, ◌++◌, refl, arith}
use Rattle.sl_ast.specs.declared.token.Token.{Token}
use Rattle.sl_ast.specs.declared.expr.Expr.{Expr}
use Rattle.sl_ast.specs.declared.pattern.Pattern.{Pattern}
use Rattle.sl_parse_expr.specs.Ahead.{sort}
use Rattle.sl_parse_expr.specs.Starts.{begins_expr}
use Rattle.sl_parse_expr.specs.Reading.{ahead}
use Rattle.sl_parse_expr.specs.Rules.{any, too_deep}
use Rattle.sl_parse_expr.specs.PatternRules.{any_pattern, pattern, begins_pattern}
use Rattle.sl_parse_expr.specs.Levels.{expr}
use Rattle.sl_parse_expr.proofs.Theory.{Good, good_up, ok_of}
use Rattle.sl_parse_expr.proofs.Words.{lit, under}
use Rattle.sl_parse_expr.proofs.Ends.{closers, arrows}
use Rattle.sl_parse_expr.proofs.Refusals.{held_any, held_pattern, no_any, no_pattern}
use Rattle.sl_parse_expr.proofs.Begun.{reads_lit, lit_tree}
use Rattle.sl_parse_expr.proofs.Wholes.{begun, word_of}
use Rattle.sl_parse_expr.proofs.PatternBegun.{reads_under, begun_pattern, pattern_word, under_tree}
use Rattle.sl_parse_expr.proofs.Ground.{good_ground}
use Rattle.sl_parse_expr.proofs.Good.{good_any}
use Rattle.sl_parse_expr.proofs.PatternGood.{good_any_pattern}

-- ---- patterns

pattern_can : (m : ℕ) → 0 + 2 ≤ m → (follow : List Token) → arrows (ahead follow) ≡ true → (x : Pattern) × (pattern m ([], under ++ follow) ≡ ok_of x [] follow)
unfolding pattern
pattern_can zero l follow end = absurd (omega arith)
pattern_can (suc m) l follow end = (under_tree, reads_under (pattern m) follow end)

pattern_begun : (b : Token) → begins_pattern (sort b) ≡ true → (v : List Token) × ((m : ℕ) → 0 + 2 ≤ m → (follow : List Token) → arrows (ahead follow) ≡ true → (x : Pattern) × (pattern m ([], b ∷ (v ++ follow)) ≡ ok_of x [] follow))
unfolding pattern
pattern_begun b g = (pattern_word (sort b), go)
  where
    go : (m : ℕ) → 0 + 2 ≤ m → (follow : List Token) → arrows (ahead follow) ≡ true → (x : Pattern) × (pattern m ([], b ∷ (pattern_word (sort b) ++ follow)) ≡ ok_of x [] follow)
    go zero l follow end = absurd (omega arith)
    go (suc zero) l follow end = absurd (omega arith)
    go (suc (suc k)) l follow end = begun_pattern (pattern (suc k)) (λ follow end. reads_under (pattern k) follow end) b (sort b) refl g follow end

pub pattern_level : (n : ℕ) → Good arrows under n pattern
unfolding pattern too_deep
pattern_level zero = good_ground arrows under begins_pattern pattern (λ st. refl) (λ m u d ts. (held_pattern (expr 0) (pattern m) u d ts).is) (λ m ts h. (no_pattern (expr 0) (pattern m) ts h).is) refl pattern_begun pattern_can
pattern_level (suc n) = good_up arrows under n (λ m. any_pattern (pattern m)) pattern (λ m. refl) (good_any_pattern n pattern (pattern_level n))

-- ---- expressions

expr_can : (m : ℕ) → 0 + 2 ≤ m → (follow : List Token) → closers (ahead follow) ≡ true → (x : Expr) × (expr m ([], lit ++ follow) ≡ ok_of x [] follow)
unfolding expr
expr_can zero l follow end = absurd (omega arith)
expr_can (suc m) l follow end = (lit_tree, reads_lit (expr m) (pattern m) follow end)

expr_begun : (b : Token) → begins_expr (sort b) ≡ true → (v : List Token) × ((m : ℕ) → 0 + 2 ≤ m → (follow : List Token) → closers (ahead follow) ≡ true → (x : Expr) × (expr m ([], b ∷ (v ++ follow)) ≡ ok_of x [] follow))
unfolding expr
expr_begun b g = (word_of (sort b), go)
  where
    go : (m : ℕ) → 0 + 2 ≤ m → (follow : List Token) → closers (ahead follow) ≡ true → (x : Expr) × (expr m ([], b ∷ (word_of (sort b) ++ follow)) ≡ ok_of x [] follow)
    go zero l follow end = absurd (omega arith)
    go (suc zero) l follow end = absurd (omega arith)
    go (suc (suc k)) l follow end = begun (expr (suc k)) (pattern (suc k)) (λ follow end. reads_lit (expr k) (pattern k) follow end) b (sort b) refl g follow end

pub level : (n : ℕ) → Good closers lit n expr
unfolding expr too_deep
level zero = good_ground closers lit begins_expr expr (λ st. refl) (λ m u d ts. (held_any (expr m) (pattern m) u d ts).is) (λ m ts h. (no_any (expr m) (pattern m) ts h).is) refl expr_begun expr_can
level (suc n) = good_up closers lit n (λ m. any (expr m) (pattern m)) expr (λ m. refl) (good_any n expr pattern (level n) (pattern_level n))
