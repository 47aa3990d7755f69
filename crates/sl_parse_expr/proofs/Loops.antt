-- A loop that reads items as long as one begins, and adds each to what it found.
use Rattle.std.proofs.Common.{◌≡◌, ℕ, suc, ◌-◌, arith, ◌<◌, Bool, true, false, List, length, Ok, Err, ap, ◌∙◌}
use Rattle.sl_ast.specs.declared.token.Token.{Token}
use Rattle.sl_parse_expr.specs.declared.ahead.Ahead.{Ahead}
use Rattle.sl_parse_expr.specs.declared.ahead.Ahead.TheVariants as see
use Rattle.sl_parse_expr.specs.declared.stopped.Stopped.{Stopped}
use Rattle.sl_parse_expr.specs.declared.stopped.Stopped.TheVariants as stopped
use Rattle.sl_parse_expr.specs.Reading.{Reads, Stop, State, Outcome, Reader, ahead, fold, clean, nothing}
use Rattle.sl_parse_expr.proofs.Theory.{Good, needs, fold_goes, fold_stays, fold_fails}
use Rattle.sl_parse_expr.proofs.Choices.{both_false}

pub record Eats {A : Type 0} (q : Reader A) : Type 0 where
  pub eats : (st : State) (x : A) (st' : State) → q st ≡ Ok (x, st') → length st'.1 < length st.1

pub eats_of : {A : Type 0} {ends : Ahead → Bool} {w : List Token} {P : ℕ → Reader A} (n : ℕ) → Good ends w n P → needs w ≡ true → Eats (P n)
eats_of n g some = record { eats = λ st x st' e. (g.takes st.0 st.1 x st'.0 st'.1 e).eats some }

module _ {S A : Type 0} (more : S → Ahead → Bool) (item : Reader A) (add : S → A → S) (stays : (s : S) → more s see.End ≡ false) (eats : Eats item)
    (total : Outcome S) (s : S) (st : State) (so_far : total ≡ fold (clean more) item add s st) where
  never : (s : S) (d : List Token) → clean more s see.End d ≡ false
  never s d = ap (λ (z : Bool). clean (λ _ _. z) s see.End d) (stays s) ∙ both_false (nothing d)

  pub goes_on : clean more s (ahead st.1) st.0 ≡ true → (x : A) (st' : State) → item st ≡ Ok (x, st') → total ≡ fold (clean more) item add (add s x) st'
  goes_on h x st' e = so_far ∙ fold_goes (clean more) item add never s st.0 st.1 x st'.0 st'.1 h e (eats.eats st x st' e)

  pub ends : clean more s (ahead st.1) st.0 ≡ false → total ≡ Ok (s, st)
  ends h = so_far ∙ fold_stays (clean more) item add never s st.0 st.1 h

  fails : clean more s (ahead st.1) st.0 ≡ true → (e : Stop) → item st ≡ Err e → total ≡ Err e
  fails h e f = so_far ∙ fold_fails (clean more) item add never s st.0 st.1 e h f

  pub fails_as : clean more s (ahead st.1) st.0 ≡ true → (e : Stopped) (new : State) → Reads (item st) (Err e) new → Reads total (Err e) new
  fails_as h stopped.Memory new r = tt
  fails_as h stopped.Unexpected new r = fails h (record { deep = false; at = new.1 }) r
  fails_as h stopped.TooDeep new r = fails h (record { deep = true; at = new.1 }) r

pub deeper : {X : Type 0} (f : ℕ → X) (n : ℕ) → 0 < n → f n ≡ f (suc (n - 1))
deeper f n some = let e : n ≡ suc (n - 1) = omega arith in ap f e
