-- Texts that tell whether something holds.
use mathlib.Core.Bool.{true≢false}
use Rattle.std.proofs.Common.{◌≡◌, refl, sym, ap, ◌∙◌, ℕ, Bool, true, false, List, ◌++◌, ◌↔◌, IsTrue, take}
use Rattle.std.specs.Prelude.{codes}
use Rattle.ty_cases.specs.Tells.{told, Tells}

-- a text that tells a decision
pub tells : (P : Type 0) (decided : Bool) (text : List ℕ) → (IsTrue decided ↔ P) → text ≡ told decided → Tells P text
tells P true text iff is = record { holds = λ _. is; fails = λ n. absurd (n (iff.0 refl)) }
tells P false text iff is = record { holds = λ p. absurd (true≢false (sym (iff.1 p))); fails = λ _. ap (take 2) is }

-- a text that says yes
pub tells_yes : (P : Type 0) (decided : Bool) (text : List ℕ) → (IsTrue decided ↔ P) → decided ≡ true → text ≡ codes "yes" → Tells P text
tells_yes P decided text iff is same = record { holds = λ _. same; fails = λ n. absurd (n (iff.0 is)) }

-- one that says no, and more behind it
pub tells_no : (P : Type 0) (decided : Bool) (text more : List ℕ) → (IsTrue decided ↔ P) → decided ≡ false → text ≡ codes "no" ++ more → Tells P text
tells_no P decided text more iff is same =
    record { holds = λ p. absurd (true≢false (sym (iff.1 p) ∙ is)); fails = λ _. ap (take 2) same }
