-- Where reading a file stops: at a rest of its tokens, so a fault begins within their characters.
use Rattle.std.proofs.Common.{◌≡◌, ◌≤◌, ◌⊎◌, inl, inr, ℕ, zero, suc, Bool, List, [], ◌∷◌, ◌++◌, ◌-◌, length, Option, Some, None, Ok, Err, refl, ap, subst, ◌∙◌, arith}
use Rattle.std.specs.Prelude.{slice_get}
use Rattle.std.specs.List.{AllByRecursion}
use Rattle.sl_ast.specs.declared.token.Token.{Token}
use Rattle.sl_ast.specs.declared.unit.TopDef.{TopDef}
use Rattle.sl_ast.specs.declared.unit.Unit as file
use Rattle.sl_parse_expr.specs.Reading.{Stop, Outcome, and_then, ◌>>◌, pure, head}
use Rattle.sl_parse_expr.proofs.Theory.{bind_err, err_is, ok_of}
use Rattle.sl_parse_tmpl.specs.declared.fault.ParseFault.{ParseFault}
use Rattle.sl_parse_tmpl.specs.Faults.{nesting, behind, next_span, fault_at, kind_of, tree_of, fault_of}
use Rattle.sl_parse_expr.specs.Levels.{expr}
use Rattle.sl_parse_expr.specs.PatternRules.{pattern}
use Rattle.sl_parse_tmpl.specs.Rules.{over, over_by, top_defs, unit_to, unit}
use Rattle.sl_parse_tmpl.specs.Trees.{unit_tree}
use Rattle.sl_parse_tmpl.proofs.Good.{good_top_defs}

-- ---- trees and faults of an outcome

pub tree_or_fault : (tokens : List Token) (o : Outcome file.Unit) → ((tree : file.Unit) × (Some tree ≡ tree_of o)) ⊎ ((fault : ParseFault) × (Some fault ≡ fault_of tokens o))
tree_or_fault tokens (Ok q) = inl (q.0, refl)
tree_or_fault tokens (Err s) = inr (fault_at tokens s.at (kind_of s.deep), refl)

pub never_both : (tokens : List Token) (o : Outcome file.Unit) (tree : file.Unit) (fault : ParseFault) → Some tree ≡ tree_of o → Some fault ≡ fault_of tokens o → ⊥
never_both tokens (Ok q) tree fault e f = absurd cc
never_both tokens (Err s) tree fault e f = absurd cc

-- ---- where reading stops

-- these of the tokens are left
abbrev IsLeft : List Token → List Token → Type 0
IsLeft tokens left = (front : List Token) × (tokens ≡ front ++ left)

over_at : (x : file.Unit) (held left : List Token) (s : Stop) → and_then (over_by held left) (λ _. pure x) ≡ Err s → left ≡ s.at
over_at x [] [] s e = absurd cc
over_at x [] (t ∷ ts) s e = ap (λ z. z.at) (err_is e)
over_at x (t ∷ held) left s e = ap (λ z. z.at) (err_is e)

left_at : (tokens : List Token) (s : Stop) → unit_to nesting ([], tokens) ≡ Err s → IsLeft tokens s.at
unfolding unit over
left_at tokens s e = by_part (bind_err (top_defs (expr nesting) (pattern nesting) ([], tokens)) (λ q. over >> pure (unit_tree q.1)) s e) where
  by_part : (top_defs (expr nesting) (pattern nesting) ([], tokens) ≡ Err s) ⊎ ((q : Bool × List TopDef) × (held : List Token) × (left : List Token) × (top_defs (expr nesting) (pattern nesting) ([], tokens) ≡ ok_of q held left) × ((over >> pure (unit_tree q.1)) (held, left) ≡ Err s)) → IsLeft tokens s.at
  by_part (inl e) = let h = (good_top_defs nesting).fails [] tokens s e in (h.front, h.is)
  by_part (inr (q, held, left, e, f)) =
      let h = (good_top_defs nesting).takes [] tokens q held left e in
      (h.front, h.is ∙ ap (λ (z : List Token). h.front ++ z) (over_at (unit_tree q.1) held left s f))

-- ---- where a fault begins

abbrev Ends : ℕ → Token → Type 0
Ends n t = (t.span.from ≤ n) × (t.span.to ≤ n)

at_index : (n : ℕ) (ts : List Token) (i : ℕ) (t : Token) → AllByRecursion (Ends n) ts → slice_get ts i ≡ Some t → Ends n t
at_index n [] i t a e = absurd cc
at_index n (u ∷ ts) zero t a e = let h : u ≡ t = cc in subst (λ (z : Token). Ends n z) h a.0
at_index n (u ∷ ts) (suc i) t a e = at_index n ts i t a.1 e

at_head : (n : ℕ) (front left : List Token) (t : Token) → AllByRecursion (Ends n) (front ++ left) → head left ≡ Some t → Ends n t
at_head n [] [] t a e = absurd cc
at_head n [] (u ∷ left) t a e = let h : u ≡ t = cc in subst (λ (z : Token). Ends n z) h a.0
at_head n (u ∷ front) left t a e = at_head n front left t a.1 e

behind_within : (n : ℕ) (o : Option Token) → ((t : Token) → o ≡ Some t → Ends n t) → (behind o).from ≤ n
behind_within n None h = omega arith
behind_within n (Some t) h = (h t refl).1

next_span_within : (n : ℕ) (tokens : List Token) (o : Option Token) → AllByRecursion (Ends n) tokens → ((t : Token) → o ≡ Some t → Ends n t) → (next_span tokens o).from ≤ n
next_span_within n tokens (Some t) a h = (h t refl).0
next_span_within n tokens None a h = behind_within n (slice_get tokens (length tokens - 1)) (λ t e. at_index n tokens (length tokens - 1) t a e)

-- a fault at a token, or behind all
pub token_within : (n : ℕ) (tokens : List Token) (i : ℕ) → AllByRecursion (Ends n) tokens → (next_span tokens (slice_get tokens i)).from ≤ n
token_within n tokens i a = next_span_within n tokens (slice_get tokens i) a (λ t e. at_index n tokens i t a e)

left_within : (n : ℕ) (tokens left : List Token) → IsLeft tokens left → AllByRecursion (Ends n) tokens → (next_span tokens (head left)).from ≤ n
left_within n tokens left l a =
    let b : AllByRecursion (Ends n) (l.0 ++ left) = subst (λ (z : List Token). AllByRecursion (Ends n) z) l.1 a in
    next_span_within n tokens (head left) a (λ t e. at_head n l.0 left t b e)

by_outcome : (n : ℕ) (tokens : List Token) (fault : ParseFault) (o : Outcome file.Unit) → ((s : Stop) → o ≡ Err s → IsLeft tokens s.at) → Some fault ≡ fault_of tokens o → AllByRecursion (Ends n) tokens → fault.span.from ≤ n
by_outcome n tokens fault (Ok q) l e a = absurd cc
by_outcome n tokens fault (Err s) l e a =
    let h : fault_at tokens s.at (kind_of s.deep) ≡ fault = cc in
    subst (λ (z : ParseFault). z.span.from ≤ n) h (left_within n tokens s.at (l s refl) a)

pub fault_within : (tokens : List Token) (fault : ParseFault) (n : ℕ) → Some fault ≡ fault_of tokens (unit_to nesting ([], tokens)) → AllByRecursion (Ends n) tokens → fault.span.from ≤ n
fault_within tokens fault n e a = by_outcome n tokens fault (unit_to nesting ([], tokens)) (left_at tokens) e a
