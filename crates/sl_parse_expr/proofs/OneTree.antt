-- Tokens have one tree as an expression.
use Rattle.std.proofs.Common.{◌≡◌, ℕ, ◌+◌, ◌≤◌, List, [], ◌++◌, Ok, sym, ap, ◌∙◌, arith, inl, refl}
use Rattle.sl_ast.specs.declared.token.Token.{Token}
use Rattle.sl_ast.specs.declared.expr.Expr.{Expr}
use Rattle.sl_parse_expr.specs.Levels.{expr}
use Rattle.sl_parse_expr.specs.Phrases.{Pending}
use Rattle.sl_parse_expr.specs.Grammar.{IsExpr}
use Rattle.sl_parse_expr.proofs.Theory.{Held, ok_of, ok_0, ok_1, ok_2}
use Rattle.sl_parse_expr.proofs.Level.{level}
use Rattle.sl_parse_expr.proofs.ExprComplete.{reads_expr}

pub is_read : (n : ℕ) (x : Expr) (a r : List Token) → IsExpr n x a r → (held : List Token) × (left : List Token) × Pending held × (held ++ left ≡ r) × (expr n ([], a) ≡ Ok (x, (held, left)))
is_read n x a r h = let g = reads_expr n x a r h in (g.held, g.left, g.pending, g.whole, g.reads)

-- the deeper level reads it too
deeper : (n m : ℕ) → n ≤ m → (x : Expr) (a r : List Token) → IsExpr n x a r → (e : Held) × (b : List Token) × (e ++ b ≡ r) × (expr m ([], a) ≡ ok_of x e b)
deeper n m l x a r h =
    let g = reads_expr n x a r h in
    let t = (level n).takes [] a x g.held g.left g.reads in
    (g.held, g.left, g.whole, ap (λ (z : List Token). expr m ([], z)) t.is ∙ t.again m l g.left (inl refl))

same_rest : (d e b c r s : List Token) → d ≡ e → b ≡ c → d ++ b ≡ r → e ++ c ≡ s → r ≡ s
same_rest d e b c r s i j k l = sym k ∙ ap (λ (z : List Token). z ++ b) i ∙ ap (λ (z : List Token). e ++ z) j ∙ l

both_read : (x y : Expr) (d e b c r s : List Token) → d ++ b ≡ r → e ++ c ≡ s → ok_of x d b ≡ ok_of y e c → (x ≡ y) × (r ≡ s)
both_read x y d e b c r s k l i = (ok_0 i, same_rest d e b c r s (ok_1 i) (ok_2 i) k l)

pub one_tree : (n m : ℕ) (x y : Expr) (a r s : List Token) → IsExpr n x a r → IsExpr m y a s → (x ≡ y) × (r ≡ s)
one_tree n m x y a r s h k =
    let i = deeper n (n + m) (omega arith) x a r h in
    let j = deeper m (n + m) (omega arith) y a s k in
    both_read x y i.0 j.0 i.1 j.1 r s i.2 j.2 (sym i.3 ∙ j.3)
