-- Where reading a file stops, in the words of the grammar.
use Rattle.std.proofs.Common.{◌≡◌, ◌≤◌, ◌<◌, ◌+◌, ◌-◌, ◌⊎◌, inl, inr, ℕ, zero, suc, Bool, true, false, List, [], ◌∷◌, ◌++◌, length, take, drop, Option, Some, None, Ok, Err, refl, sym, ap, subst, ◌∙◌, append_assoc, arith}
use Rattle.std.specs.Prelude.{slice_get, Result, IfOk, IfErr}
use Rattle.std.specs.List.{AllByRecursion}
use Rattle.std.proofs.lemmas.List.{length-append}
use Rattle.sl_ast.specs.declared.token.Token.{Token}
use Rattle.sl_ast.specs.declared.unit.TopDef.{TopDef}
use Rattle.sl_ast.specs.declared.unit.Unit as file
use Rattle.sl_parse_expr.specs.Reading.{Stop, Outcome, and_then, ◌>>◌, pure, head, first}
use Rattle.sl_parse_expr.specs.Reading.{Reader}
use Rattle.sl_parse_expr.specs.Levels.{expr}
use Rattle.sl_parse_expr.specs.PatternRules.{pattern}
use Rattle.sl_parse_expr.proofs.Sound.{sound_exprs}
use Rattle.sl_parse_expr.proofs.ExprComplete.{complete_exprs}
use Rattle.sl_parse_expr.proofs.Tied.{Tied, AtOne, eats_too, reads_too}
use Rattle.sl_parse_expr.proofs.Tied as tied
use Rattle.sl_parse_expr.proofs.Until.{expr_until, pattern_until, raised, raised_is, tied_expr, tied_pattern, sound_until, complete_until}
use Rattle.sl_parse_expr.proofs.Theory.{Held, ok_of, err_of, stop, bind_err, err_is, ok_0, ok_2, decide}
use Rattle.sl_parse_tmpl.specs.declared.fault.ParseFault.{ParseFault}
use Rattle.sl_parse_tmpl.specs.declared.fault.ParseKind.{ParseKind}
use Rattle.sl_parse_tmpl.specs.declared.fault.ParseKind.TheVariants as kinds
use Rattle.sl_parse_tmpl.specs.Faults.{nesting, number, next_span, fault_at, kind_of, tree_of, fault_of}
use Rattle.sl_parse_tmpl.specs.Grammar.{Derives}
use Rattle.sl_parse_tmpl.specs.Refusals.{Continues, ContinuesWithin, DerivesUntil, IsUnexpected, IsTooDeep, Refuses, fault_of_token}
use Rattle.sl_parse_tmpl.specs.Refusals as spec
use Rattle.sl_parse_tmpl.specs.Rules as rules_
use Rattle.sl_parse_tmpl.specs.Rules.{over, over_by, unit_to}
use Rattle.sl_parse_tmpl.specs.Trees.{unit_tree}
use Rattle.sl_parse_tmpl.proofs.Good.{good_top_defs}
use Rattle.sl_parse_tmpl.proofs.Within.{never_both, token_within}
use Rattle.sl_parse_tmpl.proofs.Items.{FileItems, file_items}
use Rattle.sl_parse_tmpl.proofs.Sound as sound
use Rattle.sl_parse_tmpl.proofs.Complete as complete
use Rattle.sl_parse_tmpl.proofs.Tied.{tied_body_item, tied_unit_item, tied_top_defs}

-- ---- stretches of tokens

take_front : (front at more : List Token) → take (suc (length front)) (front ++ at) ++ more ≡ front ++ (first at ++ more)
take_front [] [] more = refl
take_front [] (t ∷ ts) more = refl
take_front (u ∷ front) at more = ap (λ (z : List Token). u ∷ z) (take_front front at more)

take_within : (k : ℕ) (front at more : List Token) → k ≤ length front → take k (front ++ at) ++ (drop k front ++ more) ≡ front ++ more
take_within zero front at more l = refl
take_within (suc k) [] at more l = absurd (omega arith)
take_within (suc k) (u ∷ front) at more l = ap (λ (z : List Token). u ∷ z) (take_within k front at more (omega arith))

get_front : (front at : List Token) → slice_get (front ++ at) (length front) ≡ head at
get_front [] [] = refl
get_front [] (t ∷ ts) = refl
get_front (u ∷ front) at = get_front front at

first_head : (at more : List Token) → 0 < length at → head at ≡ head (first at ++ more)
first_head [] more l = absurd (omega arith)
first_head (t ∷ ts) more l = refl

first_is : (at : List Token) (b : Token) → head at ≡ Some b → first at ≡ b ∷ []
first_is [] b e = absurd cc
first_is (t ∷ ts) b e = let h : t ≡ b = cc in ap (λ (z : Token). z ∷ []) h

some_left : (at : List Token) (b : Token) → head at ≡ Some b → 0 < length at
some_left [] b e = absurd cc
some_left (t ∷ ts) b e = omega arith

empty_head : (at : List Token) (t : Token) → Some t ≡ head at → at ≡ [] → ⊥
empty_head at t e i = let h : Some t ≡ None = e ∙ ap head i in absurd cc

length_take : (k : ℕ) (ts : List Token) → k ≤ length ts → length (take k ts) ≡ k
length_take zero ts l = refl
length_take (suc k) [] l = absurd (omega arith)
length_take (suc k) (t ∷ ts) l = ap (λ (z : ℕ). suc z) (length_take k ts (omega arith))

first_one : (at : List Token) → 0 < length at → length (first at) ≡ 1
first_one [] l = absurd (omega arith)
first_one (t ∷ ts) l = refl

cons_0 : {t u : Token} {ts us : List Token} → t ∷ ts ≡ u ∷ us → t ≡ u
cons_0 e = cc

cons_1 : {t u : Token} {ts us : List Token} → t ∷ ts ≡ u ∷ us → ts ≡ us
cons_1 e = cc

-- the shorter of two beginnings begins the other
cut_front : (front begun w at : List Token) → length begun < length front → front ++ w ≡ begun ++ at → (b : Token) × (mid : List Token) × (front ≡ begun ++ (b ∷ mid)) × (at ≡ b ∷ (mid ++ w))
cut_front [] begun w at l e = absurd (omega arith)
cut_front (t ∷ front) [] w at l e = (t, front, refl, sym e)
cut_front (t ∷ front) (u ∷ begun) w at l e =
    let c = cut_front front begun w at (omega (arith, l)) (cons_1 e) in
    (c.0, c.1, ap (λ (z : List Token). t ∷ z) c.2 ∙ ap (λ (z : Token). z ∷ (begun ++ (c.0 ∷ c.1))) (cons_0 e), c.3)

-- ---- files of all depths

-- the definitions of a file to a depth
abbrev top_defs : ℕ → Reader (Bool × List TopDef)
top_defs n = rules_.top_defs (expr n) (pattern n)

-- these readers read all tokens
abbrev ReadsAll : ℕ → List Token → Type 0
ReadsAll m ts = (last : Bool) × (xs : List TopDef) × (top_defs m ([], ts) ≡ ok_of (last, xs) [] [])

derives : (m : ℕ) (ts : List Token) (last : Bool) (xs : List TopDef) → top_defs m ([], ts) ≡ ok_of (last, xs) [] [] → Derives m (unit_tree xs) ts
derives m ts last xs e = sound.file_is (sound_exprs m) (file_items m) ts (unit_tree xs) [] [] (complete.ends_there (complete_exprs m) (file_items m) ts (last, xs) e)

-- a deeper level reads it too
deeper : (n m : ℕ) → n ≤ m → (tokens : List Token) (tree : file.Unit) → Derives n tree tokens → (last : Bool) × (xs : List TopDef) × (tree ≡ unit_tree xs) × (top_defs m ([], tokens) ≡ ok_of (last, xs) [] [])
deeper n m l tokens tree h =
    let g = complete.reads_all (complete_exprs n) (file_items n) tokens tree h in
    let t = (good_top_defs n).takes [] tokens (g.0, g.1) [] [] g.3 in
    (g.0, g.1, g.2, ap (λ (z : List Token). top_defs m ([], z)) t.is ∙ t.again m l [] (inl refl))

pub one_file : (n m : ℕ) (tree other : file.Unit) (tokens : List Token) → Derives n tree tokens → Derives m other tokens → tree ≡ other
one_file n m tree other tokens h k =
    let i = deeper n (n + m) (omega arith) tokens tree h in
    let j = deeper m (n + m) (omega arith) tokens other k in
    let e : ok_of (i.0, i.1) [] [] ≡ ok_of (j.0, j.1) [] [] = sym i.3 ∙ j.3 in
    i.2 ∙ ap (λ (z : Bool × List TopDef). unit_tree z.1) (ok_0 e) ∙ sym j.2

-- ---- files whose nesting is bounded up to a place

module _ (k m n : ℕ) where
  -- as deep as n until k tokens are left, and m deeper there
  abbrev until_defs : Reader (Bool × List TopDef)
  until_defs = rules_.top_defs (expr_until k m n) (pattern_until k m n)

  tied_defs : Tied k (top_defs n) until_defs (top_defs (raised m n))
  tied_defs = tied_top_defs (tied_expr k m n) (tied_pattern k m n)

  items_until : FileItems (expr_until k m n) (pattern_until k m n)
  items_until = record { member = eats_too (tied_body_item (tied_expr k m n) (tied_pattern k m n)) (file_items (raised m n)).member; top = eats_too (tied_unit_item (tied_expr k m n) (tied_pattern k m n)) (file_items (raised m n)).top }

  until_reads : (tokens : List Token) (tree : file.Unit) → DerivesUntil k m n tree tokens → (last : Bool) × (xs : List TopDef) × (tree ≡ unit_tree xs) × (until_defs ([], tokens) ≡ ok_of (last, xs) [] [])
  until_reads tokens tree h = complete.reads_all (complete_until k m n) items_until tokens tree h

  until_derives : (tokens : List Token) (last : Bool) (xs : List TopDef) → until_defs ([], tokens) ≡ ok_of (last, xs) [] [] → DerivesUntil k m n (unit_tree xs) tokens
  until_derives tokens last xs e = sound.file_is (sound_until k m n) items_until tokens (unit_tree xs) [] [] (complete.ends_there (complete_until k m n) items_until tokens (last, xs) e)

within_continues : (n : ℕ) (tokens : List Token) (i : ℕ) → ContinuesWithin n tokens i → Continues tokens i
within_continues n tokens i (l, m, tree, more, d) =
    let ts = take (suc i) tokens ++ more in
    let r = until_reads (length more) m n ts tree d in
    (l, raised m n, unit_tree r.1, more, derives (raised m n) ts r.0 r.1 (reads_too (tied_defs (length more) m n) ([], ts) ((r.0, r.1), ([], [])) r.3))

-- ---- where a reader stops

pub record StopsAt (n : ℕ) (tokens : List Token) (s : Stop) : Type 0 where
  pub front : List Token
  pub is : tokens ≡ front ++ s.at
  -- no deeper reader goes on, or, where it was for depth, this one doesn't
  pub refuses : (m : ℕ) → n ≤ m → (s.deep ≡ false) ⊎ (m ≡ n) → (at' : List Token) → head s.at ≡ head at' → ReadsAll m (front ++ at') → ⊥
  -- what was read can be completed, with what was too deep
  pub before : (front ≡ []) ⊎ ((w : List Token) × ReadsAll (raised 2 n) (front ++ w))
  pub further : s.deep ≡ true → (b : Token) × (head s.at ≡ Some b) × (m : ℕ) × (w : List Token) × ReadsAll m (front ++ (b ∷ w))
  -- what is too deep stays so whatever stands behind it, and the definitions stop nowhere else
  pub stays : s.deep ≡ true → (at' : List Token) → head s.at ≡ head at' → top_defs n ([], front ++ at') ≡ err_of (stop true at')
  pub there : (e : Stop) → top_defs n ([], tokens) ≡ err_of e → e.at ≡ s.at

module _ (n : ℕ) (tokens : List Token) (s : Stop) where
  within_defs : top_defs n ([], tokens) ≡ err_of s → StopsAt n tokens s
  within_defs e =
      let h = (good_top_defs n).fails [] tokens s e in
      record {
        front = h.front;
        is = h.is;
        refuses = λ m l q at' i r. let k : ok_of (r.0, r.1) [] [] ≡ err_of (stop s.deep at') = sym r.2 ∙ h.again m l q at' i in absurd cc;
        before = elim h.goes_on [
          | inl k ↦ inl k
          | inr c ↦ inr (let x = c.1 (raised 2 n) (omega (arith, raised_is 2 n)) [] refl in (c.0 ++ [], (x.0.0, x.0.1, x.1)))
        ];
        further = λ d. let f = h.further d in let x = f.2.1 (n + 2) (omega arith) [] refl in
            (f.0, f.1, n + 2, f.2.0 ++ [], (x.0.0, x.0.1, ap (λ (z : List Token). top_defs (n + 2) ([], z)) (sym (append_assoc h.front (f.0 ∷ []) (f.2.0 ++ []))) ∙ x.1));
        stays = λ d at' i. h.again n (omega arith) (inr refl) at' i ∙ ap (λ (b : Bool). err_of (stop b at')) d;
        there = λ u j. ap (λ (z : Stop). z.at) (err_is (sym j ∙ e));
      }

  -- the definitions are over, and something is left
  left_over : (x : file.Unit) (left : List Token) → and_then (over_by [] left) (λ _. pure x) ≡ err_of s → (t : Token) × (Some t ≡ head left) × (stop false left ≡ s)
  left_over x [] e = absurd cc
  left_over x (t ∷ ts) e = (t, refl, err_is e)

  behind_defs : (last : Bool) (xs : List TopDef) (left : List Token) → top_defs n ([], tokens) ≡ ok_of (last, xs) [] left → and_then (over_by [] left) (λ _. pure (unit_tree xs)) ≡ err_of s → StopsAt n tokens s
  behind_defs last xs left e f =
      let h = (good_top_defs n).takes [] tokens (last, xs) [] left e in
      let o = left_over (unit_tree xs) left f in
      let at : left ≡ s.at = ap (λ (z : Stop). z.at) o.2 in
      record {
        front = h.front;
        is = h.is ∙ ap (λ (z : List Token). h.front ++ z) at;
        refuses = λ m l q at' i r. empty_head at' o.0 (o.1 ∙ ap head at ∙ i) (ok_2 (sym (h.again m l at' (inl (ap head at ∙ i))) ∙ r.2));
        before = inr ([], (last, xs, h.again (raised 2 n) (omega (arith, raised_is 2 n)) [] (inr refl)));
        further = λ d. let k : false ≡ true = ap (λ (z : Stop). z.deep) o.2 ∙ d in absurd cc;
        stays = λ d. let k : false ≡ true = ap (λ (z : Stop). z.deep) o.2 ∙ d in absurd cc;
        there = λ u j. let k : ok_of (last, xs) [] left ≡ err_of u = sym e ∙ j in absurd cc;
      }

  pub stops_at : unit_to n ([], tokens) ≡ err_of s → StopsAt n tokens s
  unfolding rules_.unit over
  stops_at e = by_part (bind_err (top_defs n ([], tokens)) (λ q. over >> pure (unit_tree q.1)) s e) where
    by_part : (top_defs n ([], tokens) ≡ err_of s) ⊎ ((q : Bool × List TopDef) × (held : Held) × (left : List Token) × (top_defs n ([], tokens) ≡ ok_of q held left) × ((over >> pure (unit_tree q.1)) (held, left) ≡ Err s)) → StopsAt n tokens s
    by_part (inl e) = within_defs e
    by_part (inr (q, held, left, e, f)) =
        let none : held ≡ [] = ((sound.top_defs_is (sound_exprs n) (file_items n) tokens).gives q held left e).none in
        behind_defs q.0 q.1 left (subst (λ (z : Held). top_defs n ([], tokens) ≡ ok_of q z left) none e) (subst (λ (z : Held). and_then (over_by z left) (λ _. pure (unit_tree q.1)) ≡ err_of s) none f)

-- ---- the same in the words of the grammar

module _ (n : ℕ) (tokens : List Token) (s : Stop) (h : StopsAt n tokens s) where
  count : length tokens ≡ length h.front + length s.at
  count = ap length h.is ∙ length-append h.front s.at

  -- no file of a depth at which reading stops too
  no_file : (m : ℕ) → n ≤ m → (s.deep ≡ false) ⊎ (m ≡ n) → (k : ℕ) (tree : file.Unit) → k ≤ m → Derives k tree tokens → ⊥
  no_file m l q k tree j d =
      let r = deeper k m j tokens tree d in
      h.refuses m l q s.at refl (r.0, r.1, ap (λ (z : List Token). top_defs m ([], z)) (sym h.is) ∙ r.3)

  begun : (more : List Token) → take (suc (length h.front)) tokens ++ more ≡ h.front ++ (first s.at ++ more)
  begun more = ap (λ (z : List Token). take (suc (length h.front)) z ++ more) h.is ∙ take_front h.front s.at more

  no_begin : (m : ℕ) → n ≤ m → (s.deep ≡ false) ⊎ (m ≡ n) → (k : ℕ) (tree : file.Unit) (more : List Token) → k ≤ m → length h.front < length tokens → Derives k tree (take (suc (length h.front)) tokens ++ more) → ⊥
  no_begin m l q k tree more j some d =
      let r = deeper k m j (take (suc (length h.front)) tokens ++ more) tree d in
      h.refuses m l q (first s.at ++ more) (first_head s.at more (omega (arith, count))) (r.0, r.1, ap (λ (z : List Token). top_defs m ([], z)) (sym (begun more)) ∙ r.3)

  -- reading stops no sooner where the front stands before other tokens
  sooner : (w at : List Token) → length w < length at → top_defs n ([], h.front ++ w) ≡ err_of (stop true at) → ⊥
  sooner w at l e =
      let t = (good_top_defs n).fails [] (h.front ++ w) (stop true at) e in
      let c = cut_front h.front t.front w at (omega (arith, l, ap length t.is, length-append h.front w, length-append t.front at)) t.is in
      let is : tokens ≡ t.front ++ (c.0 ∷ (c.1 ++ s.at)) = h.is ∙ ap (λ (z : List Token). z ++ s.at) c.2 ∙ append_assoc t.front (c.0 ∷ c.1) s.at in
      let stop_there = ap (λ (z : List Token). top_defs n ([], z)) is ∙ t.again n (omega arith) (inr refl) (c.0 ∷ (c.1 ++ s.at)) (ap head c.3) in
      let at_there = h.there (stop true (c.0 ∷ (c.1 ++ s.at))) stop_there in
      omega (arith, ap length at_there, length-append c.1 s.at)

  goes_on : (j : ℕ) → j < length h.front → (h.front ≡ []) ⊎ ((w : List Token) × ReadsAll (raised 2 n) (h.front ++ w)) → ContinuesWithin n tokens j
  goes_on j l (inl e) = absurd (let k = ap length e in omega arith)
  goes_on j l (inr (w, c)) =
      let more = drop (suc j) h.front ++ w in
      let cut : take (suc j) tokens ++ more ≡ h.front ++ w = ap (λ (z : List Token). take (suc j) z ++ more) h.is ∙ take_within (suc j) h.front s.at w (omega (arith, l)) in
      let long : length (h.front ++ w) ≡ suc j + length more = sym (ap length cut) ∙ length-append (take (suc j) tokens) more ∙ ap (λ (z : ℕ). z + length more) (length_take (suc j) tokens (omega (arith, l, count))) in (
        omega (arith, l, count),
        2,
        unit_tree c.1,
        more,
        subst (λ (z : List Token). DerivesUntil (length more) 2 n (unit_tree c.1) z) (sym cut)
            (until_derives (length more) 2 n (h.front ++ w) c.0 c.1 (goes j l w more long ((c.0, c.1), ([], [])) c.2 ((tied_defs (length more) 2 n).tied ([], h.front ++ w)))),
      )
    where
      goes : (j : ℕ) → j < length h.front → (w more : List Token) → length (h.front ++ w) ≡ suc j + length more → (q : (Bool × List TopDef) × (List Token × List Token)) → top_defs (raised 2 n) ([], h.front ++ w) ≡ Ok q
          → AtOne (length more) (top_defs n ([], h.front ++ w)) (until_defs (length more) 2 n ([], h.front ++ w)) (top_defs (raised 2 n) ([], h.front ++ w)) → until_defs (length more) 2 n ([], h.front ++ w) ≡ Ok q
      goes j l w more long q r (tied.alike a b) = b ∙ r
      goes j l w more long q r (tied.passed at a b c few) = c ∙ r
      goes j l w more long q r (tied.stopped at a b c) = absurd (sooner w at (omega (arith, l, long, c, length-append h.front w)) a)

  is_unexpected : s.deep ≡ false → IsUnexpected n tokens (length h.front)
  is_unexpected flat = record {
    within = omega (arith, count);
    none = λ m tree d. no_file (n + m) (omega arith) (inl flat) m tree (omega arith) d;
    refused = λ c. no_begin (n + c.1) (omega arith) (inl flat) c.1 c.2 c.3 (omega arith) c.0 c.4;
    before = λ j l. goes_on j l h.before;
  }

  not_within : s.deep ≡ true → ContinuesWithin n tokens (length h.front) → ⊥
  not_within deep (l, m, tree, more, d) =
      let r = until_reads (length more) m n (h.front ++ (first s.at ++ more)) tree (subst (λ (z : List Token). DerivesUntil (length more) m n tree z) (begun more) d) in
      let one : length (first s.at) ≡ 1 = first_one s.at (omega (arith, l, count)) in
      never more (first s.at ++ more) (omega (arith, one, length-append (first s.at) more)) (h.stays deep (first s.at ++ more) (first_head s.at more (omega (arith, l, count)))) ((r.0, r.1), ([], [])) r.3 ((tied_defs (length more) m n).tied ([], h.front ++ (first s.at ++ more)))
    where
      never : {x u y : Outcome (Bool × List TopDef)} (more at' : List Token) → length more < length at' → x ≡ err_of (stop true at') → (q : (Bool × List TopDef) × (List Token × List Token)) → u ≡ Ok q → AtOne (length more) x u y → ⊥
      never more at' l e q r (tied.alike a b) = let i = sym e ∙ a ∙ r in absurd cc
      never more at' l e q r (tied.passed at a b c few) = let i = ap (λ (z : Stop). length z.at) (err_is (sym e ∙ a)) in omega (arith, l, b, i)
      never more at' l e q r (tied.stopped at a b c) = let i = sym b ∙ r in absurd cc

  is_too_deep : s.deep ≡ true → IsTooDeep n tokens (length h.front)
  is_too_deep deep =
      let f = h.further deep in
      let some : 0 < length s.at = some_left s.at f.0 f.1 in
      record {
        none = λ tree d. no_file n (omega arith) (inr refl) n tree (omega arith) d;
        continued = (
          omega (arith, count, some),
          f.2,
          unit_tree f.4.1,
          f.3,
          subst (λ (z : List Token). Derives f.2 (unit_tree f.4.1) z) (ap (λ (z : List Token). h.front ++ (z ++ f.3)) (sym (first_is s.at f.0 f.1)) ∙ sym (begun f.3)) (derives f.2 (h.front ++ (f.0 ∷ f.3)) f.4.0 f.4.1 f.4.2),
        );
        refused = λ c. not_within deep c;
        before = λ j l. goes_on j l h.before;
      }

  placed : (kind : ParseKind) → fault_of_token tokens (length h.front) kind ≡ fault_at tokens s.at kind
  placed kind =
      let i : length h.front ≡ length tokens - length s.at = omega (arith, count) in
      let j : slice_get tokens (length h.front) ≡ head s.at = ap (λ (z : List Token). slice_get z (length h.front)) h.is ∙ get_front h.front s.at in
      ap (λ (z : ℕ). record { kind = kind; at = number z; span = next_span tokens (slice_get tokens (length h.front)) }) i ∙ ap (λ (z : Option Token). record { kind = kind; at = number (length tokens - length s.at); span = next_span tokens z }) j

pub refuses_there : (tokens : List Token) (s : Stop) → StopsAt nesting tokens s → Refuses tokens (fault_at tokens s.at (kind_of s.deep))
refuses_there tokens s h = elim (decide s.deep) [
  | inl deep ↦ subst (λ (z : Bool). Refuses tokens (fault_at tokens s.at (kind_of z))) (sym deep) (subst (λ (z : ParseFault). Refuses tokens z) (placed nesting tokens s h kinds.TooDeep) (spec.too_deep (is_too_deep nesting tokens s h deep)))
  | inr flat ↦ subst (λ (z : Bool). Refuses tokens (fault_at tokens s.at (kind_of z))) (sym flat) (subst (λ (z : ParseFault). Refuses tokens z) (placed nesting tokens s h kinds.Unexpected) (spec.unexpected (is_unexpected nesting tokens s h flat)))
]

-- ---- files

by_fault : (tokens : List Token) (o : Outcome file.Unit) (fault : ParseFault) → ((s : Stop) → o ≡ Err s → Refuses tokens (fault_at tokens s.at (kind_of s.deep))) → Some fault ≡ fault_of tokens o → Refuses tokens fault
by_fault tokens (Ok q) fault f e = absurd cc
by_fault tokens (Err s) fault f e = let h : fault_at tokens s.at (kind_of s.deep) ≡ fault = cc in subst (λ (z : ParseFault). Refuses tokens z) h (f s refl)

pub is_refused : (tokens : List Token) (fault : ParseFault) → Some fault ≡ fault_of tokens (unit_to nesting ([], tokens)) → Refuses tokens fault
is_refused tokens fault e = by_fault tokens (unit_to nesting ([], tokens)) fault (λ s i. refuses_there tokens s (stops_at nesting tokens s i)) e

by_tree : (tokens : List Token) (o : Outcome file.Unit) (tree : file.Unit) → ((d r : List Token) → o ≡ ok_of tree d r → Derives nesting tree tokens) → Some tree ≡ tree_of o → Derives nesting tree tokens
by_tree tokens (Ok q) tree f e = let h : q.0 ≡ tree = cc in f q.1.0 q.1.1 (ap (λ (z : file.Unit). ok_of z q.1.0 q.1.1) h)
by_tree tokens (Err s) tree f e = absurd cc

pub is_file : (tokens : List Token) (tree : file.Unit) → Some tree ≡ tree_of (unit_to nesting ([], tokens)) → Derives nesting tree tokens
is_file tokens tree e = by_tree tokens (unit_to nesting ([], tokens)) tree (λ d r i. sound.file_is (sound_exprs nesting) (file_items nesting) tokens tree d r i) e

pub file_reads : (tokens : List Token) (tree : file.Unit) → Derives nesting tree tokens → Some tree ≡ tree_of (unit_to nesting ([], tokens))
file_reads tokens tree h = sym (ap (λ (o : Outcome file.Unit). tree_of o) (complete.reads_file (complete_exprs nesting) (file_items nesting) tokens tree h))

-- ---- what is answered

pub file_given : (tokens : List Token) (result : Result file.Unit ParseFault) → IfOk result (λ tree. Some tree ≡ tree_of (unit_to nesting ([], tokens))) → IfOk result (λ tree. Derives nesting tree tokens)
file_given tokens (Ok tree) h = is_file tokens tree h
file_given tokens (Err fault) h = tt

pub only_file : (tokens : List Token) (result : Result file.Unit ParseFault) → IfOk result (λ tree. Some tree ≡ tree_of (unit_to nesting ([], tokens))) → IfOk result (λ tree. (n : ℕ) (other : file.Unit) → Derives n other tokens → other ≡ tree)
only_file tokens (Ok tree) h = λ n other k. one_file n nesting other tree tokens k (is_file tokens tree h)
only_file tokens (Err fault) h = tt

pub all_files : (tokens : List Token) (result : Result file.Unit ParseFault) → IfErr result (λ fault. (fault.kind ≡ kinds.Memory) ⊎ (Some fault ≡ fault_of tokens (unit_to nesting ([], tokens)))) → IfErr result (λ fault. (tree : file.Unit) → Derives nesting tree tokens → fault.kind ≡ kinds.Memory)
all_files tokens (Ok tree) h = tt
all_files tokens (Err fault) (inl i) = λ tree h. i
all_files tokens (Err fault) (inr e) = λ tree h. absurd (never_both tokens (unit_to nesting ([], tokens)) tree fault (file_reads tokens tree h) e)

pub refused : (tokens : List Token) (result : Result file.Unit ParseFault) → IfErr result (λ fault. (fault.kind ≡ kinds.Memory) ⊎ (Some fault ≡ fault_of tokens (unit_to nesting ([], tokens)))) → IfErr result (λ fault. (fault.kind ≡ kinds.Memory) ⊎ Refuses tokens fault)
refused tokens (Ok tree) h = tt
refused tokens (Err fault) (inl i) = inl i
refused tokens (Err fault) (inr e) = inr (is_refused tokens fault e)

-- ---- one fault

abbrev Apart : ℕ → ℕ → Type 0
Apart i j = (i < j) ⊎ (j < i) ⊎ (i ≡ j)

which : (i j : ℕ) → Apart i j
which zero zero = inr (inr refl)
which zero (suc j) = inl (omega arith)
which (suc i) zero = inr (inl (omega arith))
which (suc i) (suc j) = elim (which i j) [ inl l ↦ inl (omega (arith, l)) | inr (inl l) ↦ inr (inl (omega (arith, l))) | inr (inr e) ↦ inr (inr (ap (λ (z : ℕ). suc z) e)) ]

one_unexpected : (n : ℕ) (tokens : List Token) (i j : ℕ) → IsUnexpected n tokens i → IsUnexpected n tokens j → Apart i j → i ≡ j
one_unexpected n tokens i j h k (inl l) = absurd (h.refused (within_continues n tokens i (k.before i l)))
one_unexpected n tokens i j h k (inr (inl l)) = absurd (k.refused (within_continues n tokens j (h.before j l)))
one_unexpected n tokens i j h k (inr (inr e)) = e

one_too_deep : (n : ℕ) (tokens : List Token) (i j : ℕ) → IsTooDeep n tokens i → IsTooDeep n tokens j → Apart i j → i ≡ j
one_too_deep n tokens i j h k (inl l) = absurd (h.refused (k.before i l))
one_too_deep n tokens i j h k (inr (inl l)) = absurd (k.refused (h.before j l))
one_too_deep n tokens i j h k (inr (inr e)) = e

never_two : (n : ℕ) (tokens : List Token) (i j : ℕ) → IsUnexpected n tokens i → IsTooDeep n tokens j → Apart i j → ⊥
never_two n tokens i j h k (inl l) = h.refused (within_continues n tokens i (k.before i l))
never_two n tokens i j h k (inr (inl l)) = k.refused (h.before j l)
never_two n tokens i j h k (inr (inr e)) = h.refused (subst (λ (z : ℕ). Continues tokens z) (sym e) k.continued)

pub one_fault : (tokens : List Token) (fault other : ParseFault) → Refuses tokens fault → Refuses tokens other → fault ≡ other
one_fault tokens fault other (spec.unexpected {i = i} h) (spec.unexpected {i = j} k) = ap (λ (z : ℕ). fault_of_token tokens z kinds.Unexpected) (one_unexpected nesting tokens i j h k (which i j))
one_fault tokens fault other (spec.too_deep {i = i} h) (spec.too_deep {i = j} k) = ap (λ (z : ℕ). fault_of_token tokens z kinds.TooDeep) (one_too_deep nesting tokens i j h k (which i j))
one_fault tokens fault other (spec.unexpected {i = i} h) (spec.too_deep {i = j} k) = absurd (never_two nesting tokens i j h k (which i j))
one_fault tokens fault other (spec.too_deep {i = i} h) (spec.unexpected {i = j} k) = absurd (never_two nesting tokens j i k h (which j i))

pub tree_or_fault : (tokens : List Token) (tree : file.Unit) (fault : ParseFault) → Derives nesting tree tokens → Refuses tokens fault → ⊥
tree_or_fault tokens tree fault d (spec.unexpected h) = h.none nesting tree d
tree_or_fault tokens tree fault d (spec.too_deep h) = h.none tree d

pub fault_within : (tokens : List Token) (fault : ParseFault) (n : ℕ) → Refuses tokens fault → AllByRecursion (λ (t : Token). (t.span.from ≤ n) × (t.span.to ≤ n)) tokens → fault.span.from ≤ n
fault_within tokens fault n (spec.unexpected {i = i} h) a = token_within n tokens i a
fault_within tokens fault n (spec.too_deep {i = i} h) a = token_within n tokens i a
