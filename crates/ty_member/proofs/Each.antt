-- Loops that go over a list in order.
use Rattle.std.proofs.Common.{get_or, ◌≡◌, ◌≤◌, ◌<◌, ℕ, zero, suc, ◌+◌, List, [], ◌∷◌, length, drop, refl, sym, ◌∙◌, ap, subst, arith, add-one}
use Rattle.std.specs.Prelude.{Some, Ok, Err, slice_get}
use Rattle.sl_ast.specs.declared.type_fault.TypeFault.{TypeFault}
use Rattle.ty_member.specs.declared.stopped.Stopped.{Stopped}
use Rattle.ty_member.specs.declared.stopped.Stopped.TheVariants as stopped
use Rattle.ty_member.specs.Checked.{Outcome, ◌>>=◌, each, Gives}

pub drop_next : {A : Type 0} (xs : List A) (k : ℕ) (x : A) → slice_get xs k ≡ Some x → drop k xs ≡ x ∷ drop (k + 1) xs
drop_next [] k x h = absurd (cc)
drop_next (y ∷ ys) zero x h = let e : y ≡ x = cc in rw e refl
drop_next (y ∷ ys) (suc k) x h = rw add-one (rw (drop_next ys k x h) (rw add-one refl))

drop_end : {A : Type 0} (xs : List A) (k : ℕ) → length xs ≤ k → drop k xs ≡ []
drop_end [] zero le = refl
drop_end [] (suc k) le = refl
drop_end (x ∷ xs) zero le = absurd (omega arith)
drop_end (x ∷ xs) (suc k) le = drop_end xs k (omega arith)

drop_item : {A : Type 0} (xs : List A) (k : ℕ) (x : A) → k < length xs → x ≡ get_or xs k x → drop k xs ≡ x ∷ drop (suc k) xs
drop_item [] k x lt is = absurd (omega arith)
drop_item (y ∷ ys) zero x lt is = ap (λ z. z ∷ ys) (sym is)
drop_item (y ∷ ys) (suc k) x lt is = drop_item ys k x (omega arith) is

-- the same, as a loop over items that own memory tells it
pub drop_here : {A : Type 0} (xs : List A) (k : ℕ) (x : A) → k < length xs → x ≡ get_or xs k x → drop k xs ≡ x ∷ drop (k + 1) xs
drop_here xs k x lt is = let count : suc k ≡ k + 1 = omega arith in drop_item xs k x lt is ∙ ap (λ n. x ∷ drop n xs) count

drop_got : {A : Type 0} (xs : List A) (k : ℕ) (d : A) → k < length xs → drop k xs ≡ get_or xs k d ∷ drop (suc k) xs
drop_got [] k d lt = absurd (omega arith)
drop_got (y ∷ ys) zero d lt = refl
drop_got (y ∷ ys) (suc k) d lt = drop_got ys k d (omega arith)

-- the same, as a loop over items that are copied tells it
pub drop_read : {A : Type 0} (xs : List A) (k : ℕ) (d : A) → k < length xs → drop k xs ≡ get_or xs k d ∷ drop (k + 1) xs
drop_read xs k d lt = let count : suc k ≡ k + 1 = omega arith in drop_got xs k d lt ∙ ap (λ n. get_or xs k d ∷ drop n xs) count

module _ {A S : Type 0} (f : A → S → Outcome S) (xs : List A) (k : ℕ) (s : S) (o : Outcome S) where
  -- the first of what is left, and then the others
  one : (x : A) → each f (drop k xs) s ≡ o → drop k xs ≡ x ∷ drop (k + 1) xs → (f x s >>= each f (drop (k + 1) xs)) ≡ o
  unfolding each
  one x h e = subst (λ (ys : List A). each f ys s ≡ o) e h

  pub each_goes : (x : A) → each f (drop k xs) s ≡ o → drop k xs ≡ x ∷ drop (k + 1) xs → (t : S) → f x s ≡ Ok t → each f (drop (k + 1) xs) t ≡ o
  each_goes x h e t q = subst (λ (r : Outcome S). (r >>= each f (drop (k + 1) xs)) ≡ o) q (one x h e)

  stops : (x : A) → each f (drop k xs) s ≡ o → drop k xs ≡ x ∷ drop (k + 1) xs → (e : TypeFault) → f x s ≡ Err e → o ≡ Err e
  stops x h d e q = sym (subst (λ (r : Outcome S). (r >>= each f (drop (k + 1) xs)) ≡ o) q (one x h d))

  pub each_stops : (x : A) → each f (drop k xs) s ≡ o → drop k xs ≡ x ∷ drop (k + 1) xs → (e : Stopped) → Gives (f x s) (Err e) → Gives o (Err e)
  each_stops x h d stopped.Memory m = tt
  each_stops x h d (stopped.Broken e) m = stops x h d e m

  pub each_ends : each f (drop k xs) s ≡ o → length xs ≤ k → o ≡ Ok s
  unfolding each
  each_ends h le = sym (subst (λ (ys : List A). each f ys s ≡ o) (drop_end xs k le) h)
