-- What the rules ask of the readers of the expressions and patterns inside, and of what these are by the grammar.
use Rattle.std.proofs.Common.{◌≡◌, ℕ, Bool, true, List, [], ◌++◌, refl}
use Rattle.sl_ast.specs.declared.token.Token.{Token}
use Rattle.sl_ast.specs.declared.expr.Expr.{Expr}
use Rattle.sl_ast.specs.declared.pattern.Pattern.{Pattern}
use Rattle.sl_parse_expr.specs.declared.ahead.Ahead.{Ahead}
use Rattle.sl_parse_expr.specs.declared.ahead.Ahead.TheVariants as see
use Rattle.sl_parse_expr.specs.Reading.{Reader, ahead}
use Rattle.sl_parse_expr.specs.Rules.{next_arg, block_item, suffix, operation, case_reader}
use Rattle.sl_parse_expr.specs.PatternRules.{pattern, next_part, next_alternative}
use Rattle.sl_parse_expr.specs.Starts.{begins_expr}
use Rattle.sl_parse_expr.specs.Levels.{expr}
use Rattle.sl_parse_expr.proofs.Theory.{Held}
use Rattle.sl_parse_expr.proofs.Level.{level, pattern_level}
use Rattle.sl_parse_expr.proofs.Good.{good_next_arg, good_block_item, good_suffix, good_operation, good_case}
use Rattle.sl_parse_expr.proofs.PatternGood.{good_next_part, good_next_alternative}
use Rattle.sl_parse_expr.proofs.Loops.{Eats, eats_of}
use Rattle.sl_parse_expr.proofs.Gives.{Gives, Loose}
use Rattle.sl_parse_expr.proofs.Reaches.{Reaches}

-- the items of the loops take a token each
pub record PatternItems (patterns : Reader Pattern) : Type 0 where
  pub part : Eats (next_part patterns)
  pub alternative : Eats (next_alternative patterns)

pub record ExprItems (exprs : Reader Expr) (patterns : Reader Pattern) : Type 0 where
  pub arg : Eats (next_arg exprs patterns)
  pub item : Eats (block_item exprs patterns)
  pub suffixed : Eats (suffix exprs patterns)
  pub operated : Eats (operation exprs patterns)
  pub a_case : Eats (case_reader exprs patterns)

pub pattern_items : (n : ℕ) → PatternItems (pattern n)
pattern_items n = record { part = eats_of n (good_next_part n pattern (pattern_level n)) refl; alternative = eats_of n (good_next_alternative n pattern (pattern_level n)) refl }

pub expr_items : (n : ℕ) → ExprItems (expr n) (pattern n)
expr_items n = record {
  arg = eats_of n (good_next_arg n expr pattern (level n) (pattern_level n)) refl;
  item = eats_of n (good_block_item n expr pattern (level n) (pattern_level n)) refl;
  suffixed = eats_of n (good_suffix n expr pattern (level n) (pattern_level n)) refl;
  operated = eats_of n (good_operation n expr pattern (level n) (pattern_level n)) refl;
  a_case = eats_of n (good_case n expr pattern (level n) (pattern_level n)) refl;
}

-- ---- what is read is by the grammar

pub record SoundPatterns (patterns : Reader Pattern) (Q : Pattern → List Token → List Token → Type 0) : Type 0 where
  pub items : PatternItems patterns
  pub is : (d : Held) (a : List Token) → Gives patterns d a (Loose (λ x r. Q x (d ++ a) r))

pub record SoundExprs (exprs : Reader Expr) (patterns : Reader Pattern) (E : Expr → List Token → List Token → Type 0) (Q : Pattern → List Token → List Token → Type 0) : Type 0 where
  pub items : ExprItems exprs patterns
  pub is : (d : Held) (a : List Token) → Gives exprs d a (Loose (λ x r. E x (d ++ a) r))
  pub inside : SoundPatterns patterns Q

-- ---- what is by the grammar is read

-- the tests that tell nothing of the tokens that begin a pattern
pub record Untold (test : Ahead → Bool) (v : Bool) : Type 0 where
  pub id : test see.Id ≡ v
  pub underscore : test see.Underscore ≡ v
  pub paren : test see.OpenParen ≡ v
  pub minus : test see.Minus ≡ v
  pub literal : test see.Literal ≡ v

pub record CompletePatterns (patterns : Reader Pattern) (Q : Pattern → List Token → List Token → Type 0) : Type 0 where
  pub items : PatternItems patterns
  pub fronts : (p : Pattern) (a r : List Token) (test : Ahead → Bool) (v : Bool) → Untold test v → Q p a r → test (ahead a) ≡ v
  pub reads : (p : Pattern) (a r : List Token) → Q p a r → Reaches patterns [] a p r

pub record CompleteExprs (exprs : Reader Expr) (patterns : Reader Pattern) (E : Expr → List Token → List Token → Type 0) (Q : Pattern → List Token → List Token → Type 0) : Type 0 where
  pub items : ExprItems exprs patterns
  pub fronts : (x : Expr) (a r : List Token) → E x a r → begins_expr (ahead a) ≡ true
  pub reads : (x : Expr) (a r : List Token) → E x a r → Reaches exprs [] a x r
  pub inside : CompletePatterns patterns Q
