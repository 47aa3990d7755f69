-- Comments between `/*` and `*/`, which nest (SLS 1.4).
use Rattle.std.specs.Prelude.{◌≡◌, ℕ, ◌+◌, ◌-◌, ◌==◌, ◌&&◌, Bool, false, List, [], ◌∷◌, length, Option, Some, None, if◌then◌else◌}
use Rattle.std.specs.Option.{option_map}
use Rattle.sl_lexer.specs.Characters.{first}

-- the two are `/*`
abbrev pub opens : ℕ → Option ℕ → Bool
opens c None = false
opens c (Some d) = (c == 47) && (d == 42)

-- the two are `*/`
abbrev pub closes : ℕ → Option ℕ → Bool
closes c None = false
closes c (Some d) = (c == 42) && (d == 47)

-- from behind its `/*` a comment goes up to r, which stands behind its own `*/`
pub data IsComment : List ℕ → List ℕ → Type 0 where
  closed : {r : List ℕ} → IsComment (42 ∷ 47 ∷ r) r
  nested : {a b r : List ℕ} → IsComment a b → IsComment b r → IsComment (47 ∷ 42 ∷ a) r
  inside : {c : ℕ} {a r : List ℕ} → opens c (first a) ≡ false → closes c (first a) ≡ false → IsComment a r → IsComment (c ∷ a) r

-- what stands behind a comment and as many around it; the law `nesting` ties it to the relation
unfoldable pub comment_end : ℕ → List ℕ → Option (List ℕ)
comment_end n [] = None
comment_end n (c ∷ []) = None
comment_end n (c ∷ d ∷ a) =
    if closes c (Some d) then (if n == 0 then Some a else comment_end (n - 1) a)
    else (if opens c (Some d) then comment_end (n + 1) a else comment_end n (d ∷ a))

-- how many characters a comment has behind its `/*`
abbrev pub comment_len : List ℕ → Option ℕ
comment_len a = option_map (λ r. length a - length r) (comment_end 0 a)
