-- Cases, patterns, matches and handlers of source.
use Rattle.std.proofs.Common.{◌≡◌, ◌≤◌, ◌+◌, ◌*◌, ℕ, false, List, [], ◌∷◌, Some, None, fold, length, refl, arith}
use Rattle.ty_prog.specs.declared.catch.Catch.TheOpen.{Expr-F, Pattern-F}
use Rattle.ty_room.specs.declared.size.Size.{Size}
use Rattle.ty_room.specs.Sizing.{nothing, beside, merged, together, node_size, heavier, trying, deciding_size, make_size, case_size, pattern_step}
use Rattle.ty_room.specs.Forms.{tree}
use Rattle.ty_room.specs.Source.{all_nodes, ExprWorth, CaseWorth, PatternWorth, AllWorth}
use Rattle.ty_room.proofs.FormsWorth.{total, all_sum}

pub a_guarded_case : (n m l : ℕ) (p g b : Size) → PatternWorth n p → ExprWorth m g → ExprWorth l b → CaseWorth (n + m + l + 1) (case_size p (Some g) b)
unfolding beside merged node_size heavier trying deciding_size make_size
a_guarded_case n m l p g b x y z = record { bytes = omega (arith, x.bytes, y.bytes, y.test, z.bytes); test = omega arith; entries = omega (arith, x.entries, y.entries, z.entries) }

pub a_case : (n l : ℕ) (p b : Size) → PatternWorth n p → ExprWorth l b → CaseWorth (n + l + 1) (case_size p None b)
unfolding beside merged node_size heavier trying deciding_size make_size
a_case n l p b x z = record { bytes = omega (arith, x.bytes, z.bytes); test = omega arith; entries = omega (arith, x.entries, z.entries) }

pub a_name : (n : ℕ) (p : Size) → PatternWorth n p → PatternWorth (n + 1) (pattern_step (Pattern-F.Bind 0 p))
unfolding beside merged node_size heavier trying deciding_size make_size
a_name n p x = record { bytes = omega (arith, x.bytes); test = omega arith; entries = omega (arith, x.entries) }

either_by : (nodes : ℕ) (parts : Size) → parts.value ≤ 31 * nodes → parts.entries ≤ 5 * nodes → PatternWorth (nodes + 1) (node_size (record { bytes = 17; jump = 20; entries = 3; supers = 0; keeps = false; more = 0 }) parts)
unfolding beside merged node_size heavier trying deciding_size make_size
either_by nodes parts bytes entries = record { bytes = omega (arith, bytes); test = omega arith; entries = omega (arith, entries) }

pub alternatives : (ns : List ℕ) (parts : List Size) → AllWorth PatternWorth ns parts → PatternWorth (all_nodes ns + 1) (pattern_step (Pattern-F.Either parts))
alternatives ns parts h =
    let s = all_sum 2 0 ns parts h in
    either_by (all_nodes ns) (together parts) (omega (arith, s.bytes)) (omega (arith, s.entries))

twos : (parts : List Size) → total 2 parts ≡ 2 * length parts
twos [] = refl
twos (part ∷ parts) = omega (arith, twos parts)

threes : (parts : List Size) → total 3 parts ≡ 3 * length parts
threes [] = refl
threes (part ∷ parts) = omega (arith, threes parts)

-- as tests, parts take three bytes more each
record TestsFrom (start : Size) (parts : List Size) : Type 0 where
  test : (fold beside start parts).test + start.value ≤ (fold beside start parts).value + start.test + total 3 parts

next_tests : (start part : Size) (parts : List Size) → part.test ≤ part.value + 3 → TestsFrom (beside start part) parts → TestsFrom start (part ∷ parts)
unfolding beside
next_tests start part parts h x = record { test = omega (arith, x.test, h) }

tests_from : (ns : List ℕ) (parts : List Size) (start : Size) → AllWorth PatternWorth ns parts → TestsFrom start parts
tests_from [] [] start h = record { test = omega arith }
tests_from (n ∷ ns) (part ∷ parts) start h = next_tests start part parts h.0.test (tests_from ns parts (beside start part) h.1)
tests_from [] (part ∷ parts) start h = elim h [ ]
tests_from (n ∷ ns) [] start h = elim h [ ]

make_by : (nodes count : ℕ) (parts : Size) → parts.value + 2 * count ≤ 31 * nodes → parts.test ≤ parts.value + 3 * count → parts.entries ≤ 5 * nodes → PatternWorth (nodes + 1) (make_size parts)
unfolding make_size
make_by nodes count parts bytes test entries = record { bytes = omega arith; test = omega arith; entries = omega arith }

pub made : (ns : List ℕ) (parts : List Size) → AllWorth PatternWorth ns parts → PatternWorth (all_nodes ns + 1) (pattern_step (Pattern-F.Make 0 parts))
made ns parts h =
    let s = all_sum 2 0 ns parts h in
    let t = tests_from ns parts nothing h in
    make_by (all_nodes ns) (length parts) (together parts) (omega (arith, s.bytes, twos parts)) (omega (arith, t.test, threes parts)) (omega (arith, s.entries))

match_by : (n nodes : ℕ) (of cases : Size) → ExprWorth n of → cases.value ≤ 31 * nodes → cases.entries ≤ 5 * nodes
    → ExprWorth (n + nodes + 1) (node_size (record { bytes = 29; jump = 32; entries = 3; supers = 0; keeps = false; more = 0 }) (merged (beside nothing of) cases))
unfolding beside merged node_size heavier trying deciding_size make_size
match_by n nodes of cases x bytes entries = record { bytes = omega (arith, x.bytes); test = omega arith; entries = omega (arith, x.entries) }

pub a_match : (n : ℕ) (of : Size) (ns : List ℕ) (cases : List Size) → ExprWorth n of → AllWorth CaseWorth ns cases → ExprWorth (n + all_nodes ns + 1) (tree (Expr-F.Match of cases))
a_match n of ns cases x h =
    let s = all_sum 20 0 ns cases h in
    match_by n (all_nodes ns) of (together cases) x (omega (arith, s.bytes)) (omega (arith, s.entries))

pub a_try : (n : ℕ) (body : Size) → ExprWorth n body → ExprWorth (n + 1) (tree (Expr-F.Try body None None))
unfolding beside merged node_size heavier trying deciding_size make_size
a_try n body x = record { bytes = omega (arith, x.bytes); test = omega arith; entries = omega (arith, x.entries) }

pub a_finally : (n m : ℕ) (body last : Size) → ExprWorth n body → ExprWorth m last → ExprWorth (n + m + 1) (tree (Expr-F.Try body None (Some last)))
unfolding beside merged node_size heavier trying deciding_size make_size
a_finally n m body last x y = record { bytes = omega (arith, x.bytes, y.bytes); test = omega arith; entries = omega (arith, x.entries, y.entries) }

catch_by : (n nodes : ℕ) (body cases : Size) → ExprWorth n body → cases.value ≤ 31 * nodes → cases.entries ≤ 5 * nodes → ExprWorth (n + nodes + 1) (tree (Expr-F.Try body (Some cases) None))
unfolding beside merged node_size heavier trying deciding_size make_size
catch_by n nodes body cases x bytes entries = record { bytes = omega (arith, x.bytes); test = omega arith; entries = omega (arith, x.entries) }

pub a_catch : (n : ℕ) (body : Size) (ns : List ℕ) (cases : List Size) → ExprWorth n body → AllWorth CaseWorth ns cases → ExprWorth (n + all_nodes ns + 1) (tree (Expr-F.Try body (Some (together cases)) None))
a_catch n body ns cases x h =
    let s = all_sum 20 0 ns cases h in
    catch_by n (all_nodes ns) body (together cases) x (omega (arith, s.bytes)) (omega (arith, s.entries))

both_by : (n nodes m : ℕ) (body cases last : Size) → ExprWorth n body → ExprWorth m last → cases.value + 20 ≤ 31 * nodes → cases.entries ≤ 5 * nodes → ExprWorth (n + nodes + m + 1) (tree (Expr-F.Try body (Some cases) (Some last)))
unfolding beside merged node_size heavier trying deciding_size make_size
both_by n nodes m body cases last x y bytes entries = record { bytes = omega (arith, x.bytes, y.bytes); test = omega arith; entries = omega (arith, x.entries, y.entries) }

pub a_catch_finally : (n l m : ℕ) (body case last : Size) (ns : List ℕ) (cases : List Size) → ExprWorth n body → CaseWorth l case → AllWorth CaseWorth ns cases → ExprWorth m last
    → ExprWorth (n + (l + all_nodes ns) + m + 1) (tree (Expr-F.Try body (Some (together (case ∷ cases))) (Some last)))
a_catch_finally n l m body case last ns cases x c h y =
    let s = all_sum 20 0 (l ∷ ns) (case ∷ cases) (c, h) in
    both_by n (l + all_nodes ns) m body (together (case ∷ cases)) last x y (omega (arith, s.bytes)) (omega (arith, s.entries))
