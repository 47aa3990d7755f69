-- A line, from its indentation to its LF.
use Rattle.std.proofs.Common.{◌≡◌, ◌≢◌, ℕ, zero, suc, ◌<◌, ◌≤◌, ◌↔◌, Bool, true, false, cond, eqb, ne_eqb, List, [], ◌∷◌, ◌++◌, length, get_or, replicate, refl, sym, ap, subst, ◌∙◌, append_assoc, arith, eqb-true, length-append}
use Rattle.std.proofs.lemmas.List.{append_cancel_left}
use Rattle.sl_top.specs.Listing.{line, AreLines}
use Rattle.sl_top.specs.Reading.{unindented}

pub unindented_space : (bytes : List ℕ) → unindented (32 ∷ bytes) ≡ unindented bytes
unfolding unindented
unindented_space bytes = refl

pub unindented_there : (bytes : List ℕ) → ((rest : List ℕ) → bytes ≢ 32 ∷ rest) → unindented bytes ≡ bytes
unfolding unindented
unindented_there [] h = refl
unindented_there (b ∷ bytes) h = rw (ne_eqb b 32 (λ e. h bytes (ap (λ (x : ℕ). x ∷ bytes) e))) refl

indent_by : (b : ℕ) (bytes : List ℕ) (t : Bool) → eqb b 32 ≡ t → (indent : ℕ) × (bytes ≡ replicate indent 32 ++ unindented bytes) → (indent : ℕ) × (b ∷ bytes ≡ replicate indent 32 ++ cond t (unindented bytes) (b ∷ bytes))
indent_by b bytes true e i = (suc i.0, ap (λ (x : ℕ). x ∷ bytes) (eqb-true b 32 e) ∙ ap (λ (xs : List ℕ). 32 ∷ xs) i.1)
indent_by b bytes false e i = (0, refl)

indent_of : (bytes : List ℕ) → (indent : ℕ) × (bytes ≡ replicate indent 32 ++ unindented bytes)
unfolding unindented
indent_of [] = (0, refl)
indent_of (b ∷ bytes) = indent_by b bytes (eqb b 32) refl (indent_of bytes)

unindented_line : (indent : ℕ) (bytes : List ℕ) → unindented (replicate indent 32 ++ bytes) ≡ unindented bytes
unindented_line zero bytes = refl
unindented_line (suc n) bytes = unindented_space (replicate n 32 ++ bytes) ∙ unindented_line n bytes

line_parts : (indent : ℕ) (text rest : List ℕ) → line indent text ++ rest ≡ replicate indent 32 ++ (text ++ (10 ∷ rest))
line_parts indent text rest = append_assoc (replicate indent 32) (text ++ 10 ∷ []) rest ∙ ap (λ (x : List ℕ). replicate indent 32 ++ x) (append_assoc text (10 ∷ []) rest)

-- what stands without its indentation is a line
pub to_line : (bytes text rest : List ℕ) → unindented bytes ≡ text ++ (10 ∷ rest) → (indent : ℕ) × (bytes ≡ line indent text ++ rest)
to_line bytes text rest e = let i = indent_of bytes in (i.0, i.1 ∙ ap (λ (x : List ℕ). replicate i.0 32 ++ x) e ∙ sym (line_parts i.0 text rest))

no_space : (text rest after : List ℕ) → 0 < length text → get_or text 0 0 ≢ 32 → text ++ rest ≢ 32 ∷ after
no_space [] rest after some other e = absurd (omega arith)
no_space (b ∷ text) rest after some other e = other (ap (λ (x : List ℕ). get_or x 0 0) e)

-- a line stands without its indentation, if its text begins with no space
pub from_line : (bytes : List ℕ) (indent : ℕ) (text rest : List ℕ) → 0 < length text → get_or text 0 0 ≢ 32 → bytes ≡ line indent text ++ rest → unindented bytes ≡ text ++ (10 ∷ rest)
from_line bytes indent text rest some other e =
    ap unindented (e ∙ line_parts indent text rest) ∙ unindented_line indent (text ++ (10 ∷ rest)) ∙ unindented_there (text ++ (10 ∷ rest)) (λ after. no_space text (10 ∷ rest) after some other)

-- ---- one line

pub no_text : (bytes text : List ℕ) → 0 < length text → get_or text 0 0 ≢ 32 → ((rest : List ℕ) → unindented bytes ≢ text ++ rest) → (texts : List (List ℕ)) → AreLines (text ∷ texts) bytes → ⊥
no_text bytes text some other none texts h = none (10 ∷ h.1) (from_line bytes h.0 text h.1 some other h.2)

pub no_end : (bytes text mid : List ℕ) → 0 < length text → get_or text 0 0 ≢ 32 → unindented bytes ≡ text ++ mid → ((rest : List ℕ) → mid ≢ 10 ∷ rest) → (texts : List (List ℕ)) → AreLines (text ∷ texts) bytes → ⊥
no_end bytes text mid some other e none texts h = none h.1 (append_cancel_left text mid (10 ∷ h.1) (sym e ∙ from_line bytes h.0 text h.1 some other h.2))

pub one_line : (bytes text mid rest : List ℕ) → 0 < length text → get_or text 0 0 ≢ 32 → unindented bytes ≡ text ++ mid → mid ≡ 10 ∷ rest → (texts : List (List ℕ)) → AreLines (text ∷ texts) bytes ↔ AreLines texts rest
one_line bytes text mid rest some other e f texts = (
  (λ h.
      let same : 10 ∷ h.1 ≡ 10 ∷ rest = append_cancel_left text (10 ∷ h.1) (10 ∷ rest) (sym (from_line bytes h.0 text h.1 some other h.2) ∙ e ∙ ap (λ (x : List ℕ). text ++ x) f) in
      let there : h.1 ≡ rest = cc in
      subst (AreLines texts) there h.3),
  (λ m. let l = to_line bytes text rest (e ∙ ap (λ (x : List ℕ). text ++ x) f) in (l.0, rest, l.1, m)),
)

pub unindented-le : (bytes : List ℕ) → length (unindented bytes) ≤ length bytes
unindented-le bytes = let i = indent_of bytes in omega (arith, ap length i.1, length-append (replicate i.0 32) (unindented bytes))
