-- Bytes have one tree or one first fault, and not both, by what the parts of the front end say.
use Rattle.std.proofs.Common.{◌≡◌, ℕ, List, ap, subst, ◌∙◌}
use Rattle.sl_text.specs.Utf8.{Spells, IsWellFormed, IsIllFormedAt}
use Rattle.sl_text.specs.Spot.{IsSpot}
use Rattle.sl_text.specs.declared.span.Span.{Span}
use Rattle.sl_text.specs.declared.spot.Spot.{Spot}
use Rattle.sl_ast.specs.declared.token.Token.{Token}
use Rattle.sl_ast.specs.declared.unit.Unit as file
use Rattle.sl_lexer.specs.declared.fault.LexKind.{LexKind}
use Rattle.sl_lexer.specs.declared.fault.LexFault.{LexFault}
use Rattle.sl_lexer.specs.Lex.{Lex, Fault}
use Rattle.sl_newline.specs.Regions.{Separated}
use Rattle.sl_parse_tmpl.specs.declared.fault.ParseFault.{ParseFault}
use Rattle.sl_parse_tmpl.specs.Faults.{nesting}
use Rattle.sl_parse_tmpl.specs.Grammar.{Derives}
use Rattle.sl_source.specs.declared.refusal.Refusal.{Refusal}
use Rattle.sl_source.specs.declared.refusal.Refusal.TheVariants as refusal
use Rattle.sl_source.specs.Source.{AreTokens, IsTree, IsParseFault, HasTree, IsSource, FirstInText, lexical, syntactic, FirstFault, not_utf8, in_text}

abbrev spot_at : ℕ → ℕ → Spot
spot_at line column = record { line = line; column = column }

abbrev fault_at : LexKind → Span → LexFault
fault_at kind span = record { kind = kind; span = span }

-- ---- of texts

module _ (lexed_once : (text : List ℕ) (ts us : List Token) → Lex text ts → Lex text us → ts ≡ us)
    (lexed_or_not : (text : List ℕ) (tokens : List Token) (kind : LexKind) (span : Span) → Lex text tokens → Fault text kind span → ⊥)
    (fault_once : (text : List ℕ) (k l : LexKind) (s t : Span) → Fault text k s → Fault text l t → (k ≡ l) × (s ≡ t))
    (separated_once : (text : List ℕ) (ts a b : List Token) → Separated text ts a → Separated text ts b → a ≡ b)
    (line_once : (text : List ℕ) (at l c m d : ℕ) → IsSpot text at l c → IsSpot text at m d → l ≡ m)
    (column_once : (text : List ℕ) (at l c m d : ℕ) → IsSpot text at l c → IsSpot text at m d → c ≡ d)
    (parsed_once : (n m : ℕ) (tree other : file.Unit) (tokens : List Token) → Derives n tree tokens → Derives m other tokens → tree ≡ other)
    (refused_once : (tokens : List Token) (fault other : ParseFault) → IsParseFault tokens fault → IsParseFault tokens other → fault ≡ other)
    (parsed_or_not : (tokens : List Token) (tree : file.Unit) (fault : ParseFault) → IsTree tokens tree → IsParseFault tokens fault → ⊥)
    (spelled_once : (bytes xs ys : List ℕ) → Spells bytes xs → Spells bytes ys → xs ≡ ys)
    (place_once : (bytes : List ℕ) (i j : ℕ) → IsIllFormedAt bytes i → IsIllFormedAt bytes j → i ≡ j)
    (formed_or_not : (bytes : List ℕ) (i : ℕ) → IsIllFormedAt bytes i → IsWellFormed bytes → ⊥) where
  one_list : (text : List ℕ) (a b : List Token) → AreTokens text a → AreTokens text b → a ≡ b
  one_list text a b x y =
      let e : x.read ≡ y.read = lexed_once text x.read y.read x.lexed y.lexed in
      separated_once text y.read a b (subst (λ (z : List Token). Separated text z a) e x.separated) y.separated

  one_in : (text : List ℕ) (a b : file.Unit) → HasTree text a → HasTree text b → a ≡ b
  one_in text a b x y =
      let e : x.tokens ≡ y.tokens = one_list text x.tokens y.tokens x.are_tokens y.are_tokens in
      let h : IsTree y.tokens a = subst (λ (z : List Token). IsTree z a) e x.is_tree in
      parsed_once nesting nesting a b y.tokens h y.is_tree

  one_spot : (text : List ℕ) (at : ℕ) (x y : Spot) → IsSpot text at x.line x.column → IsSpot text at y.line y.column → x ≡ y
  one_spot text at x y i j =
      ap (λ (z : ℕ). spot_at z x.column) (line_once text at x.line x.column y.line y.column i j)
      ∙ ap (λ (z : ℕ). spot_at y.line z) (column_once text at x.line x.column y.line y.column i j)

  one_lexical : (text : List ℕ) (f g : LexFault) → Fault text f.kind f.span → Fault text g.kind g.span → f ≡ g
  one_lexical text f g i j =
      let w = fault_once text f.kind g.kind f.span g.span i j in
      ap (λ (z : LexKind). fault_at z f.span) w.0 ∙ ap (λ (z : Span). fault_at g.kind z) w.1

  one_in_text : {text : List ℕ} {r : Refusal} → FirstInText text r → (q : Refusal) → FirstInText text q → r ≡ q
  one_in_text {text = text} (lexical {fault = f} {spot = x} a i) q (lexical {fault = g} {spot = y} b j) =
      let e : f ≡ g = one_lexical text f g a b in
      let h : IsSpot text g.span.from x.line x.column = subst (λ (z : LexFault). IsSpot text z.span.from x.line x.column) e i in
      ap (λ (z : LexFault). refusal.Lex z x) e ∙ ap (λ (z : Spot). refusal.Lex g z) (one_spot text g.span.from x y h j)
  one_in_text {text = text} (lexical {fault = f} a i) q (syntactic tokens t b j) = absurd (lexed_or_not text t.read f.kind f.span t.lexed a)
  one_in_text {text = text} (syntactic tokens t b j) q (lexical {fault = f} a i) = absurd (lexed_or_not text t.read f.kind f.span t.lexed a)
  one_in_text {text = text} (syntactic {fault = f} {spot = x} ts t a i) q (syntactic {fault = g} {spot = y} us u b j) =
      let l : ts ≡ us = one_list text ts us t u in
      let k : IsParseFault us f = subst (λ (z : List Token). IsParseFault z f) l a in
      let e : f ≡ g = refused_once us f g k b in
      let h : IsSpot text g.span.from x.line x.column = subst (λ (z : ParseFault). IsSpot text z.span.from x.line x.column) e i in
      ap (λ (z : ParseFault). refusal.Parse z x) e ∙ ap (λ (z : Spot). refusal.Parse g z) (one_spot text g.span.from x y h j)

  in_text_or_not : {text : List ℕ} {r : Refusal} → FirstInText text r → (tree : file.Unit) → HasTree text tree → ⊥
  in_text_or_not {text = text} (lexical {fault = f} a i) tree h = lexed_or_not text h.are_tokens.read f.kind f.span h.are_tokens.lexed a
  in_text_or_not {text = text} (syntactic {fault = f} ts t a i) tree h =
      let l : ts ≡ h.tokens = one_list text ts h.tokens t h.are_tokens in
      parsed_or_not h.tokens tree f h.is_tree (subst (λ (z : List Token). IsParseFault z f) l a)

  -- ---- of bytes

  pub one_of_bytes : (bytes : List ℕ) (u v : file.Unit) → IsSource bytes u → IsSource bytes v → u ≡ v
  one_of_bytes bytes u v s t = one_in t.0 u v (subst (λ (z : List ℕ). HasTree z u) (spelled_once bytes s.0 t.0 s.1 t.1) s.2) t.2

  pub one_first : {bytes : List ℕ} {r : Refusal} → FirstFault bytes r → (q : Refusal) → FirstFault bytes q → r ≡ q
  one_first {bytes = bytes} (not_utf8 {at = i} f) q (not_utf8 {at = j} g) = ap (λ (z : ℕ). refusal.NotUtf8 z) (place_once bytes i j f g)
  one_first {bytes = bytes} (not_utf8 {at = i} f) q (in_text {text = x} s g) = absurd (formed_or_not bytes i f (x, s))
  one_first {bytes = bytes} (in_text {text = x} s g) q (not_utf8 {at = i} f) = absurd (formed_or_not bytes i f (x, s))
  one_first {bytes = bytes} (in_text {text = x} {r = r} s f) q (in_text {text = y} t g) =
      one_in_text (subst (λ (z : List ℕ). FirstInText z r) (spelled_once bytes x y s t) f) q g

  pub tree_or_first : {bytes : List ℕ} {r : Refusal} → FirstFault bytes r → (tree : file.Unit) → IsSource bytes tree → ⊥
  tree_or_first {bytes = bytes} (not_utf8 {at = i} f) tree t = formed_or_not bytes i f (t.0, t.1)
  tree_or_first {bytes = bytes} (in_text {text = x} s f) tree t =
      in_text_or_not f tree (subst (λ (z : List ℕ). HasTree z tree) (spelled_once bytes t.0 x t.1 s) t.2)
