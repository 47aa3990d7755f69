-- The grammar of files, templates and members (SLS 4, 5, 9). What is in the tokens where an optional part can be read is
-- read.
use Rattle.std.specs.Prelude.{◌≡◌, ℕ, Bool, true, false, ◌&&◌, ◌||◌, List, [], ◌∷◌, Option, Some, None}
use Rattle.sl_text.specs.declared.span.Span.{Span}
use Rattle.sl_ast.specs.declared.token.Token.{Token}
use Rattle.sl_ast.specs.declared.ident.Ident.{Ident}
use Rattle.sl_ast.specs.declared.binding.Binding.{Binding}
use Rattle.sl_ast.specs.declared.type_tree.TypeTree.{TypeTree}
use Rattle.sl_ast.specs.declared.expr.Expr.{Expr}
use Rattle.sl_ast.specs.declared.args.ParArgs.{ParArgs}
use Rattle.sl_ast.specs.declared.definition.Def.{Def}
use Rattle.sl_ast.specs.declared.definition.Param.{Param}
use Rattle.sl_ast.specs.declared.template.Template.{Template}
use Rattle.sl_ast.specs.declared.template.Parents.{Parents}
use Rattle.sl_ast.specs.declared.template.Member.{Member}
use Rattle.sl_ast.specs.declared.template.MemberModifier.{MemberModifier}
use Rattle.sl_ast.specs.declared.unit.TopDef.{TopDef}
use Rattle.sl_ast.specs.declared.unit.ClassModifier.{ClassModifier}
use Rattle.sl_ast.specs.declared.unit.ClassModifier.TheVariants as words
use Rattle.sl_ast.specs.declared.unit.ClassParam.{ClassParam}
use Rattle.sl_ast.specs.declared.unit.Params.{Params}
use Rattle.sl_ast.specs.declared.unit.Unit as file
use Rattle.sl_parse_expr.specs.declared.ahead.Ahead.{Ahead}
use Rattle.sl_parse_expr.specs.declared.ahead.Ahead.TheVariants as see
use Rattle.sl_parse_expr.specs.Ahead.{same}
use Rattle.sl_parse_expr.specs.Reading.{ahead, rest}
use Rattle.sl_parse_expr.specs.Tokens.{binding_of}
use Rattle.sl_parse_expr.specs.Spans.{span_or}
use Rattle.sl_parse_tmpl.specs.LastNew.{member_ends_in_new, never}
use Rattle.sl_parse_expr.specs.Phrases.{IsOne, IsWord, IsMore, IsListed, IsOption, IsLine, IsSeq}
use Rattle.sl_parse_expr.specs.Grammar.{IsName, IsTyped, IsParArgs, IsExpr, IsPattern}
use Rattle.sl_parse_tmpl.specs.Words.{modifier_of, class_modifier_of, is_modifier, is_class_modifier, begins_member, begins_top}
use Rattle.sl_parse_tmpl.specs.Trees.{param_tree, val_tree, var_tree, lazy_tree, def_tree, member_tree, expr_tree, parents_tree, template_tree, param_member, class_param_tree, params_tree, params_span, class_tree, trait_tree, object_tree, unit_tree}

-- {X}, as far as it goes
pub data IsRun {A : Type 0} (begins : Ahead → Bool) (X : A → List Token → List Token → Type 0) : List A → List Token → List Token → Type 0 where
  no_further : {r : List Token} → begins (ahead r) ≡ false → IsRun begins X [] r r
  further : {x : A} {xs : List A} {a b r : List Token} → X x a b → IsRun begins X xs b r → IsRun begins X (x ∷ xs) a r

-- ---- parameters

-- id ':' Type
pub data IsParam : Param → List Token → List Token → Type 0 where
  param : {x : Ident} {t : TypeTree} {a b r : List Token} → IsName x a b → IsTyped t b r → IsParam (param_tree x t) a r

-- '(' [id ':' Type {',' id ':' Type}] ')'
pub data IsParams : List Param → List Token → List Token → Type 0 where
  params : {s t : Span} {xs : List Param} {a b r : List Token} → IsWord see.OpenParen s a b → IsListed IsParam xs t b r → IsParams xs a r

-- ClassParam ::= [['private'] ('val' | 'var')] id ':' Type
pub data IsClassParam : ClassParam → List Token → List Token → Type 0 where
  plain : {x : Ident} {t : TypeTree} {a b r : List Token} → IsName x a b → IsTyped t b r → IsClassParam (class_param_tree None x t) a r
  member : {m : Binding × Span} {x : Ident} {t : TypeTree} {a b c r : List Token} → IsOne binding_of m a b → IsName x b c → IsTyped t c r → IsClassParam (class_param_tree (Some (param_member false m.0, m.1)) x t) a r
  private : {s : Span} {m : Binding × Span} {x : Ident} {t : TypeTree} {a b c d r : List Token} → IsWord see.Private s a b → IsOne binding_of m b c → IsName x c d → IsTyped t d r → IsClassParam (class_param_tree (Some (param_member true m.0, s)) x t) a r

-- Params ::= '(' [ClassParam {',' ClassParam}] ')'
pub data IsClassParams : Params → List Token → List Token → Type 0 where
  class_params : {s t : Span} {xs : List ClassParam} {a b r : List Token} → IsWord see.OpenParen s a b → IsListed IsClassParam xs t b r → IsClassParams (params_tree s xs t) a r

-- [nl] '{'
abbrev pub body_follows : List Token → Bool
body_follows r = same see.OpenBrace (ahead r) || (same see.Newline (ahead r) && same see.OpenBrace (ahead (rest r)))

-- ---- over expressions and arguments

module _ (E : Expr → List Token → List Token → Type 0) (P : ParArgs → List Token → List Token → Type 0) where
  -- '=' Expr
  pub data IsValue : Expr → List Token → List Token → Type 0 where
    value : {s : Span} {e : Expr} {a b r : List Token} → IsWord see.Equals s a b → E e b r → IsValue e a r

  -- Def ::= 'val' id [':' Type] ['=' Expr] | 'var' id [':' Type] '=' Expr | 'lazy' 'val' id [':' Type] '=' Expr
  --       | 'def' id ['(' [id ':' Type {',' id ':' Type}] ')'] ':' Type ['=' Expr]
  pub data IsDef : Def → List Token → List Token → Type 0 where
    val : {s : Span} {x : Ident} {t : Option TypeTree} {e : Option Expr} {a a1 a2 a3 r : List Token} → IsWord see.Val s a a1 → IsName x a1 a2 → IsOption (same see.Colon) IsTyped t a2 a3 → IsOption (same see.Equals) IsValue e a3 r → IsDef (val_tree s x t e) a r
    var : {s : Span} {x : Ident} {t : Option TypeTree} {e : Expr} {a a1 a2 a3 r : List Token} → IsWord see.Var s a a1 → IsName x a1 a2 → IsOption (same see.Colon) IsTyped t a2 a3 → IsValue e a3 r → IsDef (var_tree s x t e) a r
    «lazy» : {s v : Span} {x : Ident} {t : Option TypeTree} {e : Expr} {a a1 a2 a3 a4 r : List Token} → IsWord see.Lazy s a a1 → IsWord see.Val v a1 a2 → IsName x a2 a3 → IsOption (same see.Colon) IsTyped t a3 a4 → IsValue e a4 r → IsDef (lazy_tree s x t e) a r
    def : {s : Span} {x : Ident} {ps : Option (List Param)} {t : TypeTree} {e : Option Expr} {a a1 a2 a3 a4 r : List Token} → IsWord see.Def s a a1 → IsName x a1 a2 → IsOption (same see.OpenParen) IsParams ps a2 a3 → IsTyped t a3 a4 → IsOption (same see.Equals) IsValue e a4 r → IsDef (def_tree s x ps t e) a r

  -- Member ::= {'override' | 'private'} Def | Expr
  pub data IsMember : Member → List Token → List Token → Type 0 where
    definition : {ms : List MemberModifier} {d : Def} {a b r : List Token} → IsRun is_modifier (IsOne modifier_of) ms a b → IsDef d b r → IsMember (member_tree ms d) a r
    expression : {e : Expr} {a r : List Token} → E e a r → IsMember (expr_tree e) a r

  -- [[nl] '{' Seq(Member) '}'], and where the brace stands that closes it
  pub data IsBody : Option (List Member × Span) → List Token → List Token → Type 0 where
    no_body : {r : List Token} → body_follows r ≡ false → IsBody None r r
    body : {s t : Span} {xs : List Member} {a b c d r : List Token} → IsLine a b → IsWord see.OpenBrace s b c → IsSeq begins_member member_ends_in_new IsMember true xs c d → IsWord see.CloseBrace t d r → IsBody (Some (xs, t)) a r

  -- 'extends' id [ParArgs] {'with' id}
  pub data IsParents : Parents → List Token → List Token → Type 0 where
    parents : {s : Span} {x : Ident} {p : Option ParArgs} {xs : List Ident} {a a1 a2 a3 r : List Token} → IsWord see.Extends s a a1 → IsName x a1 a2 → IsOption (same see.OpenParen) P p a2 a3 → IsMore see.With IsName xs a3 r → IsParents (parents_tree x p xs) a r

  -- Template ::= ['extends' id [ParArgs] {'with' id}] [[nl] '{' Seq(Member) '}'], behind what ends there, and where it ends
  pub data IsTemplate (before : Span) : Template × Span → List Token → List Token → Type 0 where
    template : {p : Option Parents} {c : Option (List Member × Span)} {a b r : List Token} → IsOption (same see.Extends) IsParents p a b → IsBody c b r → IsTemplate before (template_tree before p c) a r

  -- TopDef ::= {'sealed' | 'abstract'} ['case'] 'class' id [Params] Template | ['sealed'] 'trait' id Template
  --          | 'object' id Template
  pub data IsTopDef : TopDef → List Token → List Token → Type 0 where
    class : {ms : List ClassModifier} {c : Option Span} {s : Span} {x : Ident} {ps : Option Params} {t : Template × Span} {a a1 a2 a3 a4 a5 r : List Token} → IsRun is_class_modifier (IsOne class_modifier_of) ms a a1 → IsOption (same see.Case) (IsWord see.Case) c a1 a2 → IsWord see.Class s a2 a3 → IsName x a3 a4 → IsOption (same see.OpenParen) IsClassParams ps a4 a5 → IsTemplate (span_or params_span x.span ps) t a5 r → IsTopDef (class_tree ms c s x ps t) a r
    trait : {s : Span} {x : Ident} {t : Template × Span} {a b c r : List Token} → IsWord see.Trait s a b → IsName x b c → IsTemplate x.span t c r → IsTopDef (trait_tree [] s x t) a r
    sealed_trait : {q s : Span} {x : Ident} {t : Template × Span} {a b c d r : List Token} → IsWord see.Sealed q a b → IsWord see.Trait s b c → IsName x c d → IsTemplate x.span t d r → IsTopDef (trait_tree (words.Sealed q ∷ []) s x t) a r
    object : {s : Span} {x : Ident} {t : Template × Span} {a b c r : List Token} → IsWord see.Object s a b → IsName x b c → IsTemplate x.span t c r → IsTopDef (object_tree s x t) a r

  -- Unit ::= Seq(TopDef), to the last token
  pub data IsUnit : file.Unit → List Token → Type 0 where
    unit : {xs : List TopDef} {a : List Token} → IsSeq begins_top never IsTopDef true xs a [] → IsUnit (unit_tree xs) a

-- a tree of these tokens, with expressions and patterns nested no deeper than the number
abbrev pub Derives : ℕ → file.Unit → List Token → Type 0
Derives n = IsUnit (IsExpr n) (IsParArgs (IsExpr n) (IsPattern n))
