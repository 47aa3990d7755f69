-- Where nothing may nest any more.
use Rattle.std.proofs.Common.{◌≡◌, ℕ, zero, suc, ◌+◌, ◌≤◌, Bool, true, false, List, [], ◌∷◌, ◌++◌, Option, Some, refl, sym, ap, ◌∙◌, inl, inr, ◌⊎◌, arith}
use Rattle.std.specs.Prelude.{◌&&◌}
use Rattle.sl_ast.specs.declared.token.Token.{Token}
use Rattle.sl_parse_expr.specs.declared.ahead.Ahead.{Ahead}
use Rattle.sl_parse_expr.specs.declared.ahead.Ahead.TheVariants as see
use Rattle.sl_parse_expr.specs.Ahead.{sort}
use Rattle.sl_parse_expr.specs.Reading.{Stop, State, Reader, head, seen, ahead, nothing}
use Rattle.sl_parse_expr.proofs.Theory.{Held, Good, Stops, Completes, stop, ok_of, err_of, err_is}

module _ {A : Type 0} (ends : Ahead → Bool) (w : List Token) (begins : Ahead → Bool) (P : ℕ → Reader A)
    (zero_is : (st : State) → P 0 st ≡ err_of (stop (begins (ahead st.1) && nothing st.0) st.1))
    (held : (m : ℕ) (u : Token) (d ts : List Token) → P (suc m) (u ∷ d, ts) ≡ err_of (stop false ts))
    (none : (m : ℕ) (ts : List Token) → begins (ahead ts) ≡ false → P (suc m) ([], ts) ≡ err_of (stop false ts))
    (no_end : begins see.End ≡ false)
    (begun : (b : Token) → begins (sort b) ≡ true → (v : List Token) × ((m : ℕ) → 0 + 2 ≤ m → (follow : List Token) → ends (ahead follow) ≡ true → (x : A) × (P m ([], b ∷ (v ++ follow)) ≡ ok_of x [] follow)))
    (can : (m : ℕ) → 0 + 2 ≤ m → (follow : List Token) → ends (ahead follow) ≡ true → (x : A) × (P m ([], w ++ follow) ≡ ok_of x [] follow)) where
  never : (m : ℕ) (d ts : List Token) → (begins (ahead ts) && nothing d) ≡ false → P (suc m) (d, ts) ≡ err_of (stop false ts)
  never m (u ∷ d) ts h = held m u d ts
  never m [] ts h = none m ts (and_true (begins (ahead ts)) h)
    where
      and_true : (b : Bool) → (b && true) ≡ false → b ≡ false
      and_true true h = absurd cc
      and_true false h = refl

  same_head : (d ts at' : List Token) (v : Bool) → head ts ≡ head at' → (begins (ahead ts) && nothing d) ≡ v → (begins (ahead at') && nothing d) ≡ v
  same_head d ts at' v q h = ap (λ (o : Option Token). begins (seen o) && nothing d) (sym q) ∙ h

  again : (d ts : List Token) (v : Bool) → (begins (ahead ts) && nothing d) ≡ v → (m : ℕ) → (v ≡ false) ⊎ (m ≡ 0) → (at' : List Token) → head ts ≡ head at' → P m (d, at') ≡ err_of (stop v at')
  again d ts v g zero k at' q = zero_is (d, at') ∙ ap (λ (z : Bool). err_of (stop z at')) (same_head d ts at' v q g)
  again d ts v g (suc m) (inr k) at' q = absurd (omega arith)
  again d ts v g (suc m) (inl k) at' q = never m d at' (same_head d ts at' false q (g ∙ k)) ∙ ap (λ (z : Bool). err_of (stop z at')) (sym k)

  further : (d ts : List Token) → (begins (ahead ts) && nothing d) ≡ true → (b : Token) × (head ts ≡ Some b) × Completes ends 0 P d (b ∷ [])
  further (u ∷ d) ts h = absurd (no (begins (ahead ts)) h)
    where
      no : (b : Bool) → (b && false) ≡ true → ⊥
      no true h = absurd cc
      no false h = absurd cc
  further [] [] h = absurd (let i : (begins see.End && true) ≡ (false && true) = ap (λ (z : Bool). z && true) no_end in let j : false ≡ true = sym i ∙ h in cc)
  further [] (b ∷ ts) h = let c = begun b (and_true (begins (sort b)) h) in (b, refl, (c.0, c.1))
    where
      and_true : (b : Bool) → (b && true) ≡ true → b ≡ true
      and_true true h = refl
      and_true false h = absurd cc

  pub good_ground : Good ends w 0 P
  good_ground = record { takes = λ d ts x d' r e. let i : err_of (stop (begins (ahead ts) && nothing d) ts) ≡ ok_of x d' r = sym (zero_is (d, ts)) ∙ e in absurd cc; fails = failed; can = can }
    where
      failed : (d : Held) (ts : List Token) (s : Stop) → P 0 (d, ts) ≡ err_of s → Stops ends 0 P d ts s
      failed d ts s e =
          let i : stop (begins (ahead ts) && nothing d) ts ≡ s = err_is (sym (zero_is (d, ts)) ∙ e) in
          let is : ts ≡ s.at = ap (λ (z : Stop). z.at) i in
          let deep : (begins (ahead ts) && nothing d) ≡ s.deep = ap (λ (z : Stop). z.deep) i in
          record {
            front = [];
            is = is;
            again = λ m l k at' q. again d ts s.deep deep m k at' (ap head is ∙ q);
            goes_on = inl refl;
            further = λ k. let f = further d ts (deep ∙ k) in (f.0, ap head (sym is) ∙ f.1, f.2);
          }
