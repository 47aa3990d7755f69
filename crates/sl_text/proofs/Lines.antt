-- One character further, and that an offset has one line and one column.
use Rattle.std.proofs.Common.{◌≡◌, ◌≢◌, refl, ℕ, ◌+◌, ◌-◌, ◌<◌, ◌≤◌, List, length, get_or, ap, sym, ◌∙◌, arith, inl, inr, ◌⊎◌, eq-eqb}
use Rattle.std.proofs.lemmas.Bool.{ne_eqb}
use Rattle.std.proofs.lemmas.List.Sums.{count_by_more_no, count_by_more_yes}
use Rattle.std.specs.Prelude.{◌==◌}
use Rattle.sl_text.specs.Spot.{IsSpot}

pub at_start : (text : List ℕ) → IsSpot text 0 1 1
at_start text = record { lines = refl; start = 0; starts = inl refl; columns = refl; before = omega arith; same_line = λ k a b. absurd (omega arith) }

pub step_lf : (text : List ℕ) (i line column : ℕ) → i < length text → get_or text i 0 ≡ 10
    → IsSpot text i line column → IsSpot text (i + 1) (line + 1) 1
step_lf text i line column lt e h =
    let more = count_by_more_yes (λ c. c == 10) text i 0 lt (eq-eqb (get_or text i 0) 10 e) in
    let back : (i + 1) - 1 ≡ i = omega arith in
    record {
      lines = let l = h.lines in omega arith;
      start = i + 1;
      starts = inr (omega arith, ap (λ j. get_or text j 0) back ∙ e);
      columns = omega arith;
      before = omega arith;
      same_line = λ k a b. absurd (omega arith);
    }

pub step_on : (text : List ℕ) (i line column : ℕ) → i < length text → get_or text i 0 ≢ 10
    → IsSpot text i line column → IsSpot text (i + 1) line (column + 1)
step_on text i line column lt n h =
    let more = count_by_more_no (λ c. c == 10) text i 0 lt (ne_eqb (get_or text i 0) 10 n) in
    record {
      lines = let l = h.lines in omega arith;
      start = h.start;
      starts = h.starts;
      columns = let e = h.columns in omega arith;
      before = let e = h.before in omega arith;
      same_line = λ k a b. elim (cases k (omega arith)) [ inl lt ↦ h.same_line k a lt | inr e ↦ λ x. n (ap (λ j. get_or text j 0) (sym e) ∙ x) ];
    }
  where
    cases : (k : ℕ) → k ≤ i → (k < i) ⊎ (k ≡ i)
    cases k le = grind arith

pub line_one : (text : List ℕ) (at l c m d : ℕ) → IsSpot text at l c → IsSpot text at m d → l ≡ m
line_one text at l c m d h k = h.lines ∙ sym k.lines

-- no line begins behind the start of the line of an offset
not_behind : (text : List ℕ) (at l c m d : ℕ) (h : IsSpot text at l c) (k : IsSpot text at m d) → ¬ (h.start < k.start)
not_behind text at l c m d h k lt = elim k.starts [
  | inl e ↦ omega arith
  | inr e ↦ h.same_line (k.start - 1) (omega arith) (let b = k.before in omega arith) e.1
]

pub column_one : (text : List ℕ) (at l c m d : ℕ) → IsSpot text at l c → IsSpot text at m d → c ≡ d
column_one text at l c m d h k =
    let a = not_behind text at l c m d h k in
    let b = not_behind text at m d l c k h in
    let x = h.columns in
    let y = k.columns in
    omega arith
