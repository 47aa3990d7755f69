-- The grammar of expressions and patterns (SLS 6, 8). What is in the tokens where an optional part can be read is read.
use Rattle.std.specs.Prelude.{◌≡◌, ℕ, zero, suc, Bool, true, false, ◌&&◌, ◌||◌, List, [], ◌∷◌, Option, Some, None}
use Rattle.sl_text.specs.declared.span.Span.{Span}
use Rattle.sl_ast.specs.declared.token.Token.{Token}
use Rattle.sl_ast.specs.declared.ident.Ident.{Ident}
use Rattle.sl_ast.specs.declared.literal.Literal.{Literal}
use Rattle.sl_ast.specs.declared.operator.Operator.{Operator}
use Rattle.sl_ast.specs.declared.operator.Sign.{Sign}
use Rattle.sl_ast.specs.declared.binding.Binding.{Binding}
use Rattle.sl_ast.specs.declared.type_tree.TypeTree.{TypeTree}
use Rattle.sl_ast.specs.declared.expr.Expr.{Expr}
use Rattle.sl_ast.specs.declared.infix.Infix.{Infix}
use Rattle.sl_ast.specs.declared.infix.Operation.{Operation}
use Rattle.sl_ast.specs.declared.infix.Prefix.{Prefix}
use Rattle.sl_ast.specs.declared.simple.Simple.{Simple}
use Rattle.sl_ast.specs.declared.simple.Head.{Head}
use Rattle.sl_ast.specs.declared.simple.Suffix.{Suffix}
use Rattle.sl_ast.specs.declared.args.ParArgs.{ParArgs}
use Rattle.sl_ast.specs.declared.block.Block.{Block}
use Rattle.sl_ast.specs.declared.block.Stat.{Stat}
use Rattle.sl_ast.specs.declared.cases.Case.{Case}
use Rattle.sl_ast.specs.declared.cases.Cases.{Cases}
use Rattle.sl_ast.specs.declared.pattern.Pattern.{Pattern}
use Rattle.sl_ast.specs.declared.pattern.Pat.{Pat}
use Rattle.sl_ast.specs.declared.pattern.PatS.{PatS}
use Rattle.sl_ast.specs.declared.pattern.Wildcard.TheVariants as wildcard
use Rattle.sl_parse_expr.specs.declared.ahead.Ahead.TheVariants as see
use Rattle.sl_parse_expr.specs.Ahead.{same}
use Rattle.sl_parse_expr.specs.Reading.{ahead, rest}
use Rattle.sl_parse_expr.specs.Tokens.{ident_of, operator_of, sign_of, literal_of, binding_of}
use Rattle.sl_parse_expr.specs.Spans.{join}
use Rattle.sl_parse_expr.specs.Trees.{par_args_tree, new_tree, super_tree, simple_tree, prefix_tree, operation_tree, infix_tree, if_tree, while_tree, try_tree, throw_tree, match_tree, assign_tree, local_tree, case_tree, cases_tree, block_tree, parens_tree, block_head, name_head, literal_head, this_head, select, apply, apply_block, applied_type, named_type, plain_expr, expr_stat}
use Rattle.sl_parse_expr.specs.PatternTrees.{typed_tree, named_tree, any_tree, literal_tree, minus_tree, name_tree, constructor_tree, inside_tree, simple_as_pat, pattern_tree}
use Rattle.sl_parse_expr.specs.Starts.{begins_stat, is_operator}
use Rattle.sl_parse_expr.specs.LastNew.{stat_ends_in_new}
use Rattle.sl_parse_expr.specs.Phrases.{IsOne, IsWord, IsMore, IsListed, IsOption, IsLines, IsLine, IsSemi, IsSeq}

-- id
abbrev pub IsName : Ident → List Token → List Token → Type 0
IsName = IsOne ident_of

-- Type ::= id | id '[' id ']'
pub data IsType : TypeTree → List Token → List Token → Type 0 where
  named : {x : Ident} {a r : List Token} → IsName x a r → same see.OpenBracket (ahead r) ≡ false → IsType (named_type x) a r
  applied : {x y : Ident} {s t : Span} {a b c d r : List Token} → IsName x a b → IsWord see.OpenBracket s b c → IsName y c d → IsWord see.CloseBracket t d r → IsType (applied_type x y t) a r

-- ':' Type
pub data IsTyped : TypeTree → List Token → List Token → Type 0 where
  typed : {t : TypeTree} {s : Span} {a b r : List Token} → IsWord see.Colon s a b → IsType t b r → IsTyped t a r

-- ---- patterns, over those inside

module _ (Q : Pattern → List Token → List Token → Type 0) where
  -- ['-'] literal | '(' Pattern ')'
  pub data IsClosed : PatS → List Token → List Token → Type 0 where
    negative : {s : Span} {x : Literal} {a b r : List Token} → IsWord see.Minus s a b → IsOne literal_of x b r → IsClosed (minus_tree s x) a r
    literal : {x : Literal} {a r : List Token} → IsOne literal_of x a r → IsClosed (literal_tree x) a r
    inside : {s t : Span} {p : Pattern} {a b c r : List Token} → IsWord see.OpenParen s a b → Q p b c → IsWord see.CloseParen t c r → IsClosed (inside_tree s p t) a r

  -- id '(' [Pattern {',' Pattern}] ')'
  pub data IsConstructor : PatS → List Token → List Token → Type 0 where
    constructor : {x : Ident} {s t : Span} {ps : List Pattern} {a b c r : List Token} → IsName x a b → IsWord see.OpenParen s b c → IsListed Q ps t c r → IsConstructor (constructor_tree x ps t) a r

  -- PatS ::= '_' | ['-'] literal | id ['(' [Pattern {',' Pattern}] ')'] | '(' Pattern ')'
  pub data IsPatS : PatS → List Token → List Token → Type 0 where
    anything : {s : Span} {a r : List Token} → IsWord see.Underscore s a r → IsPatS (any_tree s) a r
    closed : {p : PatS} {a r : List Token} → IsClosed p a r → IsPatS p a r
    name : {x : Ident} {a r : List Token} → IsName x a r → same see.OpenParen (ahead r) ≡ false → IsPatS (name_tree x) a r
    built : {p : PatS} {a r : List Token} → IsConstructor p a r → IsPatS p a r

  -- Pat ::= (id | '_') ':' Type | id '@' PatS | PatS
  pub data IsPat : Pat → List Token → List Token → Type 0 where
    typed_name : {x : Ident} {t : TypeTree} {a b r : List Token} → IsName x a b → IsTyped t b r → IsPat (typed_tree (wildcard.Id x) t) a r
    typed_any : {s : Span} {t : TypeTree} {a b r : List Token} → IsWord see.Underscore s a b → IsTyped t b r → IsPat (typed_tree (wildcard.Any s) t) a r
    bound : {x : Ident} {s : Span} {p : PatS} {a b c r : List Token} → IsName x a b → IsWord see.At s b c → IsPatS p c r → IsPat (named_tree x p) a r
    -- the alternatives of PatS, where neither ':' nor '@' follows
    only_any : {s : Span} {a r : List Token} → IsWord see.Underscore s a r → same see.Colon (ahead r) ≡ false → IsPat (simple_as_pat (any_tree s)) a r
    only_closed : {p : PatS} {a r : List Token} → IsClosed p a r → IsPat (simple_as_pat p) a r
    only_name : {x : Ident} {a r : List Token} → IsName x a r → (same see.Colon (ahead r) || same see.At (ahead r) || same see.OpenParen (ahead r)) ≡ false → IsPat (simple_as_pat (name_tree x)) a r
    only_built : {p : PatS} {a r : List Token} → IsConstructor p a r → IsPat (simple_as_pat p) a r

  -- Pattern ::= Pat {'|' Pat}
  pub data IsAnyPattern : Pattern → List Token → List Token → Type 0 where
    alternatives : {p : Pat} {ps : List Pat} {a b r : List Token} → IsPat p a b → IsMore see.Bar IsPat ps b r → IsAnyPattern (pattern_tree p ps) a r

-- a pattern in which patterns nest at most so deep
abbrev pub IsPattern : ℕ → Pattern → List Token → List Token → Type 0
IsPattern zero p a r = ⊥
IsPattern (suc n) p a r = IsAnyPattern (IsPattern n) p a r

-- ---- expressions, over the expressions and patterns inside

-- a suffix follows; `.id` alone where not all may
abbrev pub suffix_follows : Bool → List Token → Bool
suffix_follows all r = same see.Dot (ahead r) || (all && (same see.OpenParen (ahead r) || same see.OpenBrace (ahead r) || (same see.Newline (ahead r) && same see.OpenBrace (ahead (rest r)))))

-- [semi] 'else'
abbrev pub else_follows : List Token → Bool
else_follows r = same see.Else (ahead r) || ((same see.Semicolon (ahead r) || same see.Newline (ahead r)) && same see.Else (ahead (rest r))) || (same see.Newline (ahead r) && same see.Newline (ahead (rest r)) && same see.Else (ahead (rest (rest r))))

module _ (E : Expr → List Token → List Token → Type 0) (Q : Pattern → List Token → List Token → Type 0) where
  -- ParArgs ::= '(' [Expr {',' Expr}] ')'
  pub data IsParArgs : ParArgs → List Token → List Token → Type 0 where
    par_args : {s t : Span} {xs : List Expr} {a b r : List Token} → IsWord see.OpenParen s a b → IsListed E xs t b r → IsParArgs (par_args_tree s xs t) a r

  -- Stat ::= ('val' | 'var') id [':' Type] '=' Expr | Expr
  pub data IsStat : Stat → List Token → List Token → Type 0 where
    local : {b : Binding × Span} {x : Ident} {t : Option TypeTree} {s : Span} {e : Expr} {a a1 a2 a3 a4 r : List Token} → IsOne binding_of b a a1 → IsName x a1 a2 → IsOption (same see.Colon) IsTyped t a2 a3 → IsWord see.Equals s a3 a4 → E e a4 r → IsStat (local_tree b.0 b.1 x t e) a r
    expression : {e : Expr} {a r : List Token} → E e a r → IsStat (expr_stat e) a r

  -- Block ::= Seq(Stat)
  pub data IsBlock : Block → List Token → List Token → Type 0 where
    block : {xs : List Stat} {a r : List Token} → IsSeq begins_stat stat_ends_in_new IsStat true xs a r → IsBlock (block_tree xs) a r

  -- '{' Block '}'
  pub data IsBraces : Block → Span → List Token → List Token → Type 0 where
    braces : {s t : Span} {b : Block} {a c d r : List Token} → IsWord see.OpenBrace s a c → IsBlock b c d → IsWord see.CloseBrace t d r → IsBraces b (join s t) a r

  -- Head ::= literal | id | 'this' | 'super' '.' id | 'new' id [ParArgs] | '(' [Expr] ')' | '{' Block '}'; and whether all
  -- suffixes may follow at once
  pub data IsHead : Head → Bool → List Token → List Token → Type 0 where
    by_literal : {x : Literal} {a r : List Token} → IsOne literal_of x a r → IsHead (literal_head x) true a r
    by_name : {x : Ident} {a r : List Token} → IsName x a r → IsHead (name_head x) true a r
    this : {s : Span} {a r : List Token} → IsWord see.This s a r → IsHead (this_head s) true a r
    «super» : {s t : Span} {x : Ident} {a b c r : List Token} → IsWord see.Super s a b → IsWord see.Dot t b c → IsName x c r → IsHead (super_tree s x) true a r
    new : {s : Span} {x : Ident} {p : Option ParArgs} {a b c r : List Token} → IsWord see.New s a b → IsName x b c → IsOption (same see.OpenParen) IsParArgs p c r → IsHead (new_tree s x p) false a r
    unit : {s t : Span} {a b r : List Token} → IsWord see.OpenParen s a b → IsWord see.CloseParen t b r → IsHead (parens_tree s None t) true a r
    parens : {s t : Span} {e : Expr} {a b c r : List Token} → IsWord see.OpenParen s a b → E e b c → IsWord see.CloseParen t c r → IsHead (parens_tree s (Some e) t) true a r
    by_block : {b : Block} {s : Span} {a r : List Token} → IsBraces b s a r → IsHead (block_head b s) false a r

  -- {'.' id | ParArgs | [nl] '{' Block '}'}
  pub data IsSuffixes : Bool → List Suffix → List Token → List Token → Type 0 where
    no_suffix : {all : Bool} {r : List Token} → suffix_follows all r ≡ false → IsSuffixes all [] r r
    selection : {all : Bool} {s : Span} {x : Ident} {xs : List Suffix} {a b c r : List Token} → IsWord see.Dot s a b → IsName x b c → IsSuffixes true xs c r → IsSuffixes all (select x ∷ xs) a r
    call : {x : ParArgs} {xs : List Suffix} {a b r : List Token} → IsParArgs x a b → IsSuffixes true xs b r → IsSuffixes true (apply x ∷ xs) a r
    block_call : {x : Block} {s : Span} {xs : List Suffix} {a b c r : List Token} → IsLine a b → IsBraces x s b c → IsSuffixes true xs c r → IsSuffixes true (apply_block x s ∷ xs) a r

  -- Simple ::= Head {'.' id | Args}
  pub data IsSimple : Simple → List Token → List Token → Type 0 where
    simple : {x : Head} {all : Bool} {xs : List Suffix} {a b r : List Token} → IsHead x all a b → IsSuffixes all xs b r → IsSimple (simple_tree x xs) a r

  -- Prefix ::= ['-' | '+' | '!' | '~'] Simple
  pub data IsPrefix : Prefix → List Token → List Token → Type 0 where
    unsigned : {x : Simple} {a r : List Token} → IsSimple x a r → IsPrefix (prefix_tree None x) a r
    signed : {g : Sign × Span} {x : Simple} {a b r : List Token} → IsOne sign_of g a b → IsSimple x b r → IsPrefix (prefix_tree (Some g) x) a r

  -- {op [nl] Prefix}
  pub data IsOperations : List Operation → List Token → List Token → Type 0 where
    no_operation : {r : List Token} → is_operator (ahead r) ≡ false → IsOperations [] r r
    operation : {o : Operator} {x : Prefix} {xs : List Operation} {a b c d r : List Token} → IsOne operator_of o a b → IsLine b c → IsPrefix x c d → IsOperations xs d r → IsOperations (operation_tree o x ∷ xs) a r

  -- Infix ::= Prefix {op [nl] Prefix}
  pub data IsInfix : Infix → List Token → List Token → Type 0 where
    «infix» : {x : Prefix} {xs : List Operation} {a b r : List Token} → IsPrefix x a b → IsOperations xs b r → IsInfix (infix_tree x xs) a r

  -- 'if' Infix
  pub data IsGuard : Infix → List Token → List Token → Type 0 where
    guard : {x : Infix} {s : Span} {a b r : List Token} → IsWord see.If s a b → IsInfix x b r → IsGuard x a r

  -- Case ::= 'case' Pattern ['if' Infix] '=>' Block
  pub data IsCase : Case → List Token → List Token → Type 0 where
    «case» : {s t : Span} {p : Pattern} {g : Option Infix} {b : Block} {a a1 a2 a3 a4 r : List Token} → IsWord see.Case s a a1 → Q p a1 a2 → IsOption (same see.If) IsGuard g a2 a3 → IsWord see.Arrow t a3 a4 → IsBlock b a4 r → IsCase (case_tree s p g t b) a r

  -- {Case}
  pub data IsMoreCases : List Case → List Token → List Token → Type 0 where
    no_case : {r : List Token} → same see.Case (ahead r) ≡ false → IsMoreCases [] r r
    a_case : {x : Case} {xs : List Case} {a b r : List Token} → IsCase x a b → IsMoreCases xs b r → IsMoreCases (x ∷ xs) a r

  -- '{' Cases '}', and where the brace stands that closes it
  pub data IsCases : Cases → Span → List Token → List Token → Type 0 where
    cases : {s t : Span} {x : Case} {xs : List Case} {a b c d r : List Token} → IsWord see.OpenBrace s a b → IsCase x b c → IsMoreCases xs c d → IsWord see.CloseBrace t d r → IsCases (cases_tree x xs) t a r

  -- 'catch' '{' Cases '}'
  pub data IsHandler : Cases × Span → List Token → List Token → Type 0 where
    handler : {c : Cases × Span} {s : Span} {a b r : List Token} → IsWord see.Catch s a b → IsCases c.0 c.1 b r → IsHandler c a r

  -- 'finally' Expr
  pub data IsFinalizer : Expr → List Token → List Token → Type 0 where
    finalizer : {e : Expr} {s : Span} {a b r : List Token} → IsWord see.Finally s a b → E e b r → IsFinalizer e a r

  -- [[semi] 'else' Expr]
  pub data IsOther : Option Expr → List Token → List Token → Type 0 where
    no_else : {r : List Token} → else_follows r ≡ false → IsOther None r r
    an_else : {e : Expr} {s : Span} {a b c r : List Token} → IsSemi a b → IsWord see.Else s b c → E e c r → IsOther (Some e) a r

  -- '(' Expr ')' {nl}
  pub data IsCondition : Expr → List Token → List Token → Type 0 where
    condition : {e : Expr} {s t : Span} {a b c d r : List Token} → IsWord see.OpenParen s a b → E e b c → IsWord see.CloseParen t c d → IsLines d r → IsCondition e a r

  -- Expr ::= 'if' '(' Expr ')' {nl} Expr [[semi] 'else' Expr] | 'while' '(' Expr ')' {nl} Expr
  --        | 'try' Expr ['catch' '{' Cases '}'] ['finally' Expr] | 'throw' Expr | Infix ['match' '{' Cases '}' | '=' Expr]
  pub data IsAnyExpr : Expr → List Token → List Token → Type 0 where
    «if» : {s : Span} {c x : Expr} {y : Option Expr} {a a1 a2 a3 r : List Token} → IsWord see.If s a a1 → IsCondition c a1 a2 → E x a2 a3 → IsOther y a3 r → IsAnyExpr (if_tree s c x y) a r
    while : {s : Span} {c x : Expr} {a a1 a2 r : List Token} → IsWord see.While s a a1 → IsCondition c a1 a2 → E x a2 r → IsAnyExpr (while_tree s c x) a r
    try : {s : Span} {x : Expr} {c : Option (Cases × Span)} {f : Option Expr} {a a1 a2 a3 r : List Token} → IsWord see.Try s a a1 → E x a1 a2 → IsOption (same see.Catch) IsHandler c a2 a3 → IsOption (same see.Finally) IsFinalizer f a3 r → IsAnyExpr (try_tree s x c f) a r
    throw : {s : Span} {x : Expr} {a b r : List Token} → IsWord see.Throw s a b → E x b r → IsAnyExpr (throw_tree s x) a r
    plain : {i : Infix} {a r : List Token} → IsInfix i a r → (same see.Match (ahead r) || same see.Equals (ahead r)) ≡ false → IsAnyExpr (plain_expr i) a r
    match : {i : Infix} {c : Cases} {s t : Span} {a b d r : List Token} → IsInfix i a b → IsWord see.Match s b d → IsCases c t d r → IsAnyExpr (match_tree i c t) a r
    assign : {i : Infix} {e : Expr} {s : Span} {a b c r : List Token} → IsInfix i a b → IsWord see.Equals s b c → E e c r → IsAnyExpr (assign_tree i e) a r

-- an expression in which expressions and patterns nest at most so deep
abbrev pub IsExpr : ℕ → Expr → List Token → List Token → Type 0
IsExpr zero e a r = ⊥
IsExpr (suc n) e a r = IsAnyExpr (IsExpr n) (IsPattern n) e a r
