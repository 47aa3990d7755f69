-- Walks through a table of waits.
use Rattle.std.proofs.Common.{◌≡◌, ◌≢◌, ℕ, zero, suc, ◌+◌, ◌-◌, ◌<◌, ◌≤◌, ◌⊎◌, List, [], ◌∷◌, Option, None, Some, length, get_or, slice_set, length-set, get_or-set_same, get_or-set_other, refl, sym, subst, arith, ap, ◌∙◌, ⊎_elim, inl, inr}
use Rattle.std.proofs.lemmas.Bool.{cases_lt, cases_eq}
use Rattle.std.proofs.lemmas.Option.{slice_get_past}
use Rattle.runs.specs.declared.walk.Circuit.{Circuit}
use Rattle.runs.specs.WaitTable.{awaited_by, told}
use Rattle.runs.specs.Walks.{Leads, Returns, zeros, Marked, IsCircuitOf}

awaits_past : (table : List (Option ℕ)) (t : ℕ) → length table < t → awaited_by table t ≡ None
awaits_past table zero lt = refl
awaits_past table (suc i) lt = ap told (slice_get_past table i (omega arith))

pub some_once : (o : Option ℕ) (u v : ℕ) → o ≡ Some u → o ≡ Some v → u ≡ v
some_once o u v e f = let s : Some u ≡ Some v = sym e ∙ f in cc

pub none_some : (o : Option ℕ) (u : ℕ) → o ≡ None → o ≡ Some u → ⊥
none_some o u e f = let s : None ≡ Some u = sym e ∙ f in cc

module _ (table : List (Option ℕ)) where
  pub leads_more : (k t u v : ℕ) → Leads table k t u → awaited_by table u ≡ Some v → Leads table (suc k) t v
  leads_more zero t u v h e = (v, subst (λ w. awaited_by table w ≡ Some v) (sym h) e, refl)
  leads_more (suc k) t u v h e = (h.0, h.1, leads_more k h.0 u v h.2 e)

  pub leads_add : (j k t u v : ℕ) → Leads table j t u → Leads table k u v → Leads table (j + k) t v
  leads_add zero k t u v h g = let e : 0 + k ≡ k = omega arith in rw (e, h) g
  leads_add (suc j) k t u v h g = let e : suc j + k ≡ suc (j + k) = omega arith in rw e (h.0, h.1, leads_add j k h.0 u v h.2 g)

  -- what is left of a way, where its front leads to u
  pub leads_rest : (j k t u v : ℕ) → Leads table (j + k) t v → Leads table j t u → Leads table k u v
  leads_rest zero k t u v h g = let e : 0 + k ≡ k = omega arith in let h' : Leads table k t v = subst (λ n. Leads table n t v) e h in subst (λ w. Leads table k w v) g h'
  leads_rest (suc j) k t u v h g =
      let e : suc j + k ≡ suc (j + k) = omega arith in
      let h' : Leads table (suc (j + k)) t v = subst (λ n. Leads table n t v) e h in
      let same : h'.0 ≡ g.0 = some_once (awaited_by table t) h'.0 g.0 h'.1 g.1 in
      leads_rest j k g.0 u v (subst (λ w. Leads table (j + k) w v) same h'.2) g.2

  pub leads_once : (k t u v : ℕ) → Leads table k t u → Leads table k t v → u ≡ v
  leads_once zero t u v h g = sym h ∙ g
  leads_once (suc k) t u v h g = leads_once k h.0 u v h.2 (subst (λ w. Leads table k w v) (some_once (awaited_by table t) g.0 h.0 g.1 h.1) g.2)

  -- what a thread that returns leads to leads back
  pub comes_back : (j u t : ℕ) → Returns table u → Leads table j u t → (i : ℕ) × Leads table i t u
  comes_back zero u t back h = (0, sym h)
  comes_back (suc j) u t back h =
      let v = h.0 in
      let same : back.1.0 ≡ v = some_once (awaited_by table u) back.1.0 v back.1.1 h.1 in
      let home : Leads table back.0 v u = subst (λ w. Leads table back.0 w u) same back.1.2 in
      let round : Leads table (suc back.0) v v = leads_more back.0 v u v home h.1 in
      let on = comes_back j v t (back.0, round) h.2 in
      (on.0 + back.0, leads_add on.0 back.0 t v u on.1 home)

  outside : (k t u : ℕ) → length table < t → Leads table (suc k) t u → ⊥
  outside k t u lt h = none_some (awaited_by table t) h.0 (awaits_past table t lt) h.1

  -- a thread that returns is in the table
  pub returns_inside : (t : ℕ) → Returns table t → t < length table + 1
  returns_inside t h = ⊎_elim (λ (lt : t < length table + 1). lt) (λ (ge : length table + 1 ≤ t). absurd (outside h.0 t t (omega arith) h.1)) (cases_lt t (length table + 1))

  -- what was met leads only to what was met
  pub leads_marked : (marks : List ℕ) (met : ℕ) → Marked table marks met → (k t u : ℕ) → 0 < get_or marks t 0 → u < length marks → Leads table k t u → 0 < get_or marks u 0
  leads_marked marks met m zero t u pos lt h = subst (λ w. 0 < get_or marks w 0) h pos
  leads_marked marks met m (suc k) t u pos lt h =
      ⊎_elim
      (λ (inside : h.0 < length marks). leads_marked marks met m k h.0 u (m.closed t h.0 pos h.1 inside) lt h.2)
      (λ (past : length marks ≤ h.0). absurd (none_beyond k past h.2))
      (cases_lt h.0 (length marks))
    where
      none_beyond : (j : ℕ) → length marks ≤ h.0 → Leads table j h.0 u → ⊥
      none_beyond zero past e = absurd (omega arith)
      none_beyond (suc j) past e = let size = m.size in outside j h.0 u (omega arith) e

pub zeros_set : (marks : List ℕ) (i mark : ℕ) → i < length marks → get_or marks i 0 ≡ 0 → zeros (slice_set marks i (suc mark)) + 1 ≡ zeros marks
zeros_set [] i mark lt e = absurd (omega arith)
zeros_set (zero ∷ marks) zero mark lt e = omega arith
zeros_set (suc m ∷ marks) zero mark lt e = absurd (omega arith)
zeros_set (zero ∷ marks) (suc i) mark lt e = let k = zeros_set marks i mark (omega arith) e in omega arith
zeros_set (suc m ∷ marks) (suc i) mark lt e = zeros_set marks i mark (omega arith) e

pub zeros_some : (marks : List ℕ) (i : ℕ) → i < length marks → get_or marks i 0 ≡ 0 → 0 < zeros marks
zeros_some marks i lt e = let k = zeros_set marks i 0 lt e in omega arith

marked_inside : (marks : List ℕ) (t : ℕ) → 0 < get_or marks t 0 → t < length marks
marked_inside [] zero pos = absurd (omega arith)
marked_inside [] (suc t) pos = absurd (omega arith)
marked_inside (m ∷ marks) zero pos = omega arith
marked_inside (m ∷ marks) (suc t) pos = let k = marked_inside marks t pos in omega arith

-- a walk is to meet t, and has met what is marked above `before`
pub record OnWalk (table : List (Option ℕ)) (old : List ℕ) (before start : ℕ) (marks : List ℕ) (met t : ℕ) : Type 0 where
  pub size : length marks ≡ length table + 1
  pub same : length marks ≡ length old
  pub unmet : met + zeros marks ≡ length marks
  pub below : (u : ℕ) → get_or marks u 0 ≤ met
  pub kept : (u : ℕ) → 0 < get_or old u 0 → get_or marks u 0 ≡ get_or old u 0
  pub fresh : (u : ℕ) → get_or old u 0 ≡ 0 → (get_or marks u 0 ≡ 0) ⊎ (before < get_or marks u 0)
  pub closed : (u v : ℕ) → 0 < get_or marks u 0 → awaited_by table u ≡ Some v → v < length marks → (0 < get_or marks v 0) ⊎ (v ≡ t)
  pub ways : (u : ℕ) → before < get_or marks u 0 → Leads table (suc (met - get_or marks u 0)) u t
  pub rises : before ≤ met
  pub at : t < length marks
  pub here : get_or marks t 0 ≡ 0
  pub begun : (start ≡ t) ⊎ (0 < get_or marks start 0)

-- a walk has met t last
record HasMet (table : List (Option ℕ)) (old : List ℕ) (before start : ℕ) (marks : List ℕ) (met t : ℕ) : Type 0 where
  size : length marks ≡ length table + 1
  same : length marks ≡ length old
  unmet : met + zeros marks ≡ length marks
  below : (u : ℕ) → get_or marks u 0 ≤ met
  kept : (u : ℕ) → 0 < get_or old u 0 → get_or marks u 0 ≡ get_or old u 0
  fresh : (u : ℕ) → get_or old u 0 ≡ 0 → (get_or marks u 0 ≡ 0) ⊎ (before < get_or marks u 0)
  closed : (u v : ℕ) → 0 < get_or marks u 0 → awaited_by table u ≡ Some v → v < length marks → (0 < get_or marks v 0) ⊎ (u ≡ t)
  ways : (u : ℕ) → before < get_or marks u 0 → Leads table (met - get_or marks u 0) u t
  rises : before < met
  at : t < length marks
  here : get_or marks t 0 ≡ met
  begun : 0 < get_or marks start 0

pub walk_starts : (table : List (Option ℕ)) (old : List ℕ) (before t : ℕ) → Marked table old before → t < length old → get_or old t 0 ≡ 0 → OnWalk table old before t old before t
walk_starts table old before t m at here = record {
  size = m.size;
  same = refl;
  unmet = m.unmet;
  below = m.below;
  kept = λ u pos. refl;
  fresh = λ u e. inl e;
  closed = λ u v pos e lt. inl (m.closed u v pos e lt);
  ways = λ u lt. absurd (let le : get_or old u 0 ≤ before = m.below u in omega arith);
  rises = omega arith;
  at = at;
  here = here;
  begun = inl refl;
}

module _ (table : List (Option ℕ)) (old : List ℕ) (before start : ℕ) where
  -- marks after t was met
  at_set : (marks : List ℕ) (t mark : ℕ) (P : ℕ → ℕ → Type 0) → t < length marks → P t mark → ((u : ℕ) → u ≢ t → P u (get_or marks u 0)) → (u : ℕ) → P u (get_or (slice_set marks t mark) u 0)
  at_set marks t mark P lt here others u =
      ⊎_elim
      (λ (e : u ≡ t). subst (λ w. P w (get_or (slice_set marks t mark) w 0)) (sym e) (subst (P t) (sym (get_or-set_same marks t mark 0 lt)) here))
      (λ (ne : u ≢ t). subst (P u) (sym (get_or-set_other marks t u mark 0 ne)) (others u ne))
      (cases_eq u t)

  meets : (marks : List ℕ) (met t : ℕ) → OnWalk table old before start marks met t → HasMet table old before start (slice_set marks t (met + 1)) (met + 1) t
  meets marks met t w =
      let at = w.at in
      let here = w.here in
      let rises = w.rises in
      let long : length (slice_set marks t (met + 1)) ≡ length marks = length-set marks t (met + 1) in
      let now : get_or (slice_set marks t (met + 1)) t 0 ≡ met + 1 = get_or-set_same marks t (met + 1) 0 at in
      record {
        size = long ∙ w.size;
        same = long ∙ w.same;
        unmet =
            let one : met + 1 ≡ suc met = omega arith in
            let fewer : zeros (slice_set marks t (met + 1)) + 1 ≡ zeros marks = rw one (zeros_set marks t met at here) in
            let was = w.unmet in
            omega arith;
        below = at_set marks t (met + 1) (λ u m. m ≤ met + 1) at (omega arith) (λ u ne. let le = w.below u in omega arith);
        kept = at_set marks t (met + 1) (λ u m. 0 < get_or old u 0 → m ≡ get_or old u 0) at
            (λ pos. absurd (let e : get_or marks t 0 ≡ get_or old t 0 = w.kept t pos in omega arith))
            (λ u ne. w.kept u);
        fresh = at_set marks t (met + 1) (λ u m. get_or old u 0 ≡ 0 → (m ≡ 0) ⊎ (before < m)) at (λ e. inr (omega arith)) (λ u ne. w.fresh u);
        closed = λ u v pos e lt. ⊎_elim
            (λ (is : u ≡ t). inr is)
            (λ (ne : u ≢ t).
            let still : get_or (slice_set marks t (met + 1)) u 0 ≡ get_or marks u 0 = get_or-set_other marks t u (met + 1) 0 ne in
            ⊎_elim
            (λ (is : v ≡ t). inl (let n : get_or (slice_set marks t (met + 1)) v 0 ≡ met + 1 = ap (λ x. get_or (slice_set marks t (met + 1)) x 0) is ∙ now in omega arith))
            (λ (other : v ≢ t).
            let kept : get_or (slice_set marks t (met + 1)) v 0 ≡ get_or marks v 0 = get_or-set_other marks t v (met + 1) 0 other in
            ⊎_elim
            (λ (p : 0 < get_or marks v 0). inl (omega arith))
            (λ (is : v ≡ t). absurd (other is))
            (w.closed u v (omega arith) e (omega arith)))
            (cases_eq v t))
            (cases_eq u t);
        ways = at_set marks t (met + 1) (λ u m. before < m → Leads table (met + 1 - m) u t) at
            (λ lt. let none : met + 1 - (met + 1) ≡ 0 = omega arith in rw none refl)
            (λ u ne lt.
            let le : get_or marks u 0 ≤ met = w.below u in
            let e : met + 1 - get_or marks u 0 ≡ suc (met - get_or marks u 0) = omega arith in
            rw e (w.ways u lt));
        rises = omega arith;
        at = rw long at;
        here = now;
        begun = ⊎_elim
            (λ (is : start ≡ t). let n : get_or (slice_set marks t (met + 1)) start 0 ≡ met + 1 = ap (λ x. get_or (slice_set marks t (met + 1)) x 0) is ∙ now in omega arith)
            (λ (pos : 0 < get_or marks start 0). at_set marks t (met + 1) (λ u m. u ≡ start → 0 < m) at (λ e. omega arith) (λ u ne e. let same : get_or marks u 0 ≡ get_or marks start 0 = ap (λ x. get_or marks x 0) e in omega arith) start refl)
            w.begun;
      }

  pub walks_on : (marks : List ℕ) (met t v : ℕ) → OnWalk table old before start marks met t → awaited_by table t ≡ Some v → v < length marks → get_or (slice_set marks t (met + 1)) v 0 ≡ 0 → OnWalk table old before start (slice_set marks t (met + 1)) (met + 1) v
  walks_on marks met t v w e lt none =
      let m = meets marks met t w in
      record {
        size = m.size;
        same = m.same;
        unmet = m.unmet;
        below = m.below;
        kept = m.kept;
        fresh = m.fresh;
        closed = λ u x pos f inside. ⊎_elim
            (λ (p : 0 < get_or (slice_set marks t (met + 1)) x 0). inl p)
            (λ (is : u ≡ t). inr (some_once (awaited_by table t) x v (subst (λ y. awaited_by table y ≡ Some x) is f) e))
            (m.closed u x pos f inside);
        ways = λ u above. leads_more table _ u t v (m.ways u above) e;
        rises = let r = m.rises in omega arith;
        at = let long = length-set marks t (met + 1) in omega arith;
        here = none;
        begun = inr m.begun;
      }

  -- what holds where a walk ends, having met t last
  pub record WalkEnds (marks : List ℕ) (met : ℕ) (circuit : Option Circuit) : Type 0 where
    pub marked : Marked table marks met
    pub grows : (u : ℕ) → 0 < get_or old u 0 → 0 < get_or marks u 0
    pub begun : 0 < get_or marks start 0
    pub on : IsCircuitOf table old marks circuit

  module _ (marks : List ℕ) (met t : ℕ) (m : HasMet table old before start marks met t) where
    is_marked : ((v : ℕ) → awaited_by table t ≡ Some v → v < length marks → 0 < get_or marks v 0) → Marked table marks met
    is_marked last = record {
      size = m.size;
      unmet = m.unmet;
      below = m.below;
      closed = λ u v pos e lt. ⊎_elim
          (λ (p : 0 < get_or marks v 0). p)
          (λ (is : u ≡ t). last v (subst (λ w. awaited_by table w ≡ Some v) is e) lt)
          (m.closed u v pos e lt);
    }

    grown : (u : ℕ) → 0 < get_or old u 0 → 0 < get_or marks u 0
    grown u pos = let e = m.kept u pos in omega arith

    -- a thread that was met now leads to t, and t to it where it returns
    way_to : (u : ℕ) → get_or old u 0 ≡ 0 → 0 < get_or marks u 0 → Leads table (met - get_or marks u 0) u t
    way_to u new pos = m.ways u (⊎_elim (λ (z : get_or marks u 0 ≡ 0). absurd (omega arith)) (λ (lt : before < get_or marks u 0). lt) (m.fresh u new))

    way_back : (v u : ℕ) → awaited_by table t ≡ Some v → get_or old u 0 ≡ 0 → 0 < get_or marks u 0 → Returns table u → (i : ℕ) × Leads table i v u
    way_back v u e new pos returns = comes_back table (suc (met - get_or marks u 0)) u v returns (leads_more table (met - get_or marks u 0) u t v (way_to u new pos) e)

    ends_dead : awaited_by table t ≡ None → WalkEnds marks met None
    ends_dead e = record {
      marked = is_marked (λ v f lt. absurd (none_some (awaited_by table t) v e f));
      grows = grown;
      begun = m.begun;
      on = λ u new pos returns. go u returns (comes_back table _ u t returns (way_to u new pos));
    }
      where
        go : (u : ℕ) → Returns table u → ((i : ℕ) × Leads table i t u) → ⊥
        go u returns (zero, is) = none_some (awaited_by table t) _ e (subst (λ w. awaited_by table w ≡ Some returns.1.0) (sym is) returns.1.1)
        go u returns (suc i, way) = none_some (awaited_by table t) way.0 e way.1

    ends_outside : (v : ℕ) → awaited_by table t ≡ Some v → length marks ≤ v → WalkEnds marks met None
    ends_outside v e past = record {
      marked = is_marked (λ w f lt. absurd (let same : w ≡ v = some_once (awaited_by table t) w v f e in omega arith));
      grows = grown;
      begun = m.begun;
      on = λ u new pos returns. go u pos (way_back v u e new pos returns);
    }
      where
        go : (u : ℕ) → 0 < get_or marks u 0 → ((i : ℕ) × Leads table i v u) → ⊥
        go u pos (zero, is) = let inside = marked_inside marks u pos in omega arith
        go u pos (suc i, way) = let size = m.size in outside table i v u (omega arith) way

    -- it comes to a thread that was met before
    ends_old : (v : ℕ) → Marked table old before → awaited_by table t ≡ Some v → 0 < get_or marks v 0 → get_or marks v 0 ≤ before → WalkEnds marks met None
    ends_old v was e pos low = record {
      marked = is_marked (λ w f lt. subst (λ x. 0 < get_or marks x 0) (some_once (awaited_by table t) v w e f) pos);
      grows = grown;
      begun = m.begun;
      on = λ u new p returns.
          let back = way_back v u e new p returns in
          let here : 0 < get_or old v 0 = ⊎_elim
          (λ (z : get_or old v 0 < 1). absurd (⊎_elim (λ (n : get_or marks v 0 ≡ 0). let k : ⊥ = omega arith in k) (λ (h : before < get_or marks v 0). let k : ⊥ = omega arith in k) (m.fresh v (omega arith))))
          (λ (ge : 1 ≤ get_or old v 0). ge)
          (cases_lt (get_or old v 0) 1) in
          let inside : u < length old = (let same = m.same in let lt = marked_inside marks u p in omega arith) in
          let there : 0 < get_or old u 0 = leads_marked table old before was back.0 v u here inside back.1 in
          let k : ⊥ = omega arith in k;
    }

    -- it comes to a thread that it met itself
    ends_circle : (v length : ℕ) → awaited_by table t ≡ Some v → before < get_or marks v 0 → length ≡ met - get_or marks v 0 + 1 → WalkEnds marks met (Some (record { thread = v; length = length }))
    ends_circle v length e above is =
        let more : length ≡ suc (met - get_or marks v 0) = omega arith in
        let way : Leads table (suc (met - get_or marks v 0)) v v = leads_more table _ v t v (m.ways v above) e in
        record {
          marked = is_marked (λ w f lt. subst (λ x. 0 < get_or marks x 0) (some_once (awaited_by table t) v w e f) (omega arith));
          grows = grown;
          begun = m.begun;
          on = ((omega arith, rw more way), λ u new p returns. way_back v u e new p returns);
        }

  -- the ends of a walk that stands before t
  module _ (marks : List ℕ) (met t : ℕ) (w : OnWalk table old before start marks met t) where
    abbrev now : List ℕ
    now = slice_set marks t (met + 1)

    pub dead : awaited_by table t ≡ None → WalkEnds now (met + 1) None
    dead = ends_dead now (met + 1) t (meets marks met t w)

    pub left_table : (v : ℕ) → awaited_by table t ≡ Some v → length now ≤ v → WalkEnds now (met + 1) None
    left_table = ends_outside now (met + 1) t (meets marks met t w)

    pub came_to_old : (v : ℕ) → Marked table old before → awaited_by table t ≡ Some v → 0 < get_or now v 0 → get_or now v 0 ≤ before → WalkEnds now (met + 1) None
    came_to_old = ends_old now (met + 1) t (meets marks met t w)

    pub came_round : (v : ℕ) → awaited_by table t ≡ Some v → before < get_or now v 0 → WalkEnds now (met + 1) (Some (record { thread = v; length = met + 1 - get_or now v 0 + 1 }))
    came_round v e above = ends_circle now (met + 1) t (meets marks met t w) v (met + 1 - get_or now v 0 + 1) e above refl

    pub zeros_fall : zeros now < zeros marks
    zeros_fall = let k = zeros_set marks t met w.at w.here in let one : met + 1 ≡ suc met = omega arith in rw one (omega arith)
