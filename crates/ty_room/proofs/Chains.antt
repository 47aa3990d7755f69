-- Patterns with parts, cases, matches and handlers, over what stands for their parts.
use Rattle.std.proofs.Common.{◌≡◌, ◌≤◌, ◌+◌, ℕ, Bool, true, false, List, [], ◌∷◌, Option, Some, None, refl, arith}
use Rattle.ty_prog.specs.declared.catch.Catch.TheOpen.{Expr-F, Pattern-F}
use Rattle.ty_room.specs.declared.size.Size.{Size}
use Rattle.ty_room.specs.Sizing.{nothing, beside, merged, together, node_size, bool_size, choice_test, choice_size, loop_size, behind, covered, heavier, trying, deciding_size, make_size, case_size, pattern_step}
use Rattle.ty_room.specs.Forms.{tree_at, always, local, joined, bound}
use Rattle.ty_room.specs.NoMore.{NoMore}
use Rattle.ty_room.specs.Replaced.{Reads, Tests, ChainFits, kept_first, few_made, many_made, one_of, match_end, matching, catching}
use Rattle.ty_room.proofs.Rows.{from_start}

pub named : (read : ℕ) (value inner pattern rest : Size) → Reads read value → Tests 0 inner pattern (bound local rest)
    → Tests read (kept_first value inner) (pattern_step (Pattern-F.Bind 0 pattern)) rest
unfolding beside merged node_size bool_size choice_size loop_size behind covered heavier trying deciding_size make_size
named read value inner pattern rest reads tests = record { test = omega arith; tries = omega arith; entries = omega arith; supers = omega arith }

pub no_parts : (rest : Size) → Tests 0 rest (together []) rest
no_parts rest = record { test = omega arith; tries = omega arith; entries = omega arith; supers = omega arith }

more_parts : (a b : ℕ) (made inner rest pattern all others : Size) → Tests a made pattern inner → Tests b inner others rest
    → all.value ≡ pattern.value + others.value → all.tries ≡ pattern.tries + others.tries → all.entries ≡ pattern.entries + others.entries
    → all.supers ≡ pattern.supers + others.supers → Tests (a + b) made all rest
more_parts a b made inner rest pattern all others first follows value tries entries supers = record { test = omega arith; tries = omega arith; entries = omega arith; supers = omega arith }

record Summed (pattern : Size) (patterns : List Size) : Type 0 where
  value : (together (pattern ∷ patterns)).value ≡ pattern.value + (together patterns).value
  tries : (together (pattern ∷ patterns)).tries ≡ pattern.tries + (together patterns).tries
  entries : (together (pattern ∷ patterns)).entries ≡ pattern.entries + (together patterns).entries
  supers : (together (pattern ∷ patterns)).supers ≡ pattern.supers + (together patterns).supers

-- what is put together is the first and the others
summed : (pattern : Size) (patterns : List Size) → Summed pattern patterns
unfolding beside
summed pattern patterns =
    let x = from_start patterns (beside nothing pattern) in
    record { value = omega (arith, x.value); tries = omega (arith, x.tries); entries = omega (arith, x.entries); supers = omega (arith, x.supers) }

pub one_part_more : (a b : ℕ) (made inner rest pattern : Size) (patterns : List Size) → Tests a made pattern inner → Tests b inner (together patterns) rest
    → Tests (a + b) made (together (pattern ∷ patterns)) rest
one_part_more a b made inner rest pattern patterns first follows =
    let sums = summed pattern patterns in
    more_parts a b made inner rest pattern (together (pattern ∷ patterns)) (together patterns) first follows sums.value sums.tries sums.entries sums.supers

pub few_parts : (read more : ℕ) (value chain parts rest : Size) → Reads read value → Tests more chain parts rest → parts.value + more ≤ parts.test → more ≤ 14
    → Tests read (few_made value chain) (make_size parts) rest
unfolding beside merged node_size bool_size choice_size loop_size behind covered heavier trying deciding_size make_size
few_parts read more value chain parts rest reads tests less few = record { test = omega arith; tries = omega arith; entries = omega arith; supers = omega arith }

pub many_parts : (read : ℕ) (value chain parts rest : Size) → Reads read value → Tests 0 chain parts rest → parts.value + 14 ≤ parts.test
    → Tests read (many_made value chain) (make_size parts) rest
unfolding beside merged node_size bool_size choice_size loop_size behind covered heavier trying deciding_size make_size
many_parts read value chain parts rest reads tests many = record { test = omega arith; tries = omega arith; entries = omega arith; supers = omega arith }

pub alternatives : (read : ℕ) (value tests patterns rest : Size) → Reads read value → Tests 0 tests patterns nothing
    → Tests read (kept_first value (joined tests rest)) (node_size (record { bytes = 17; jump = 20; entries = 3; supers = 0; keeps = false; more = 0 }) patterns) rest
unfolding beside merged node_size bool_size choice_size loop_size behind covered heavier trying deciding_size make_size
alternatives read value tests patterns rest reads fits = record { test = omega arith; tries = omega arith; entries = omega arith; supers = omega arith }

either : (n : ℕ) (c a b : Size) (f : Option Bool) → a.test ≡ 0 → choice_test n c a b (Some true) f ≤ c.test + 3 + b.test
either n c a b (Some false) e = omega (arith, e)
either n c a b (Some true) e = omega arith
either n c a b None e = omega arith

one_of_two : (test others pattern all patterns : Size) → test.test + 3 ≤ pattern.value → test.tries ≤ pattern.tries → test.entries ≤ pattern.entries → test.supers ≤ pattern.supers
    → Tests 0 others patterns nothing
    → all.value ≡ pattern.value + patterns.value → all.tries ≡ pattern.tries + patterns.tries → all.entries ≡ pattern.entries + patterns.entries
    → all.supers ≡ pattern.supers + patterns.supers → Tests 0 (one_of test others) all nothing
unfolding beside merged node_size bool_size choice_size loop_size behind covered heavier trying deciding_size make_size
one_of_two test others pattern all patterns bytes tries entries supers fits value' tries' entries' supers' = record {
  test = omega (arith, either (test.test + 1 + others.value + 3) test always others others.fixed refl);
  tries = omega arith;
  entries = omega arith;
  supers = omega arith;
}

pub one_pattern_more : (test others pattern : Size) (patterns : List Size) → Tests 0 test pattern nothing → test.test + 3 ≤ pattern.value
    → Tests 0 others (together patterns) nothing → Tests 0 (one_of test others) (together (pattern ∷ patterns)) nothing
one_pattern_more test others pattern patterns fits bytes follows =
    let sums = summed pattern patterns in
    one_of_two test others pattern (together (pattern ∷ patterns)) (together patterns) bytes (omega (arith, fits.tries)) (omega (arith, fits.entries)) (omega (arith, fits.supers)) follows sums.value sums.tries sums.entries sums.supers

pub match_ends : ChainFits 19 3 match_end (together [])
unfolding beside merged node_size bool_size choice_size loop_size behind covered heavier trying deciding_size make_size
match_ends = record { value = omega arith; test = omega arith; tries = omega arith; entries = omega arith; supers = omega arith }

pub decided : (n : ℕ) (c a b : Size) (f g : Option Bool) → n ≡ c.test + a.value + b.value + 3 → a.test ≤ a.value + 3 → b.test ≤ b.value + 3 → choice_test n c a b f g ≤ n + 3
decided n c a b f (Some false) e h k = omega (arith, e, h)
decided n c a b (Some true) (Some true) e h k = omega (arith, e, k)
decided n c a b (Some true) None e h k = omega (arith, e, k)
decided n c a b (Some false) (Some true) e h k = omega arith
decided n c a b (Some false) None e h k = omega arith
decided n c a b None (Some true) e h k = omega arith
decided n c a b None None e h k = omega arith

case_more : (end more : ℕ) (test body next whole cases all : Size) → body.test ≤ body.value + 3 → test.test + body.value + 3 ≤ whole.value
    → test.tries + body.tries ≤ whole.tries → test.entries + body.entries ≤ whole.entries → test.supers + body.supers ≤ whole.supers
    → ChainFits end more next cases → all.value ≡ whole.value + cases.value → all.tries ≡ whole.tries + cases.tries → all.entries ≡ whole.entries + cases.entries
    → all.supers ≡ whole.supers + cases.supers → ChainFits end more (tree_at 3 (Expr-F.If test body next)) all
unfolding beside merged node_size bool_size choice_size loop_size behind covered heavier trying deciding_size make_size
case_more end more test body next whole cases all small bytes tries entries supers fits value' tries' entries' supers' = record {
  value = omega arith;
  test = decided (test.test + body.value + next.value + 3) test body next body.fixed next.fixed refl small fits.test;
  tries = omega arith;
  entries = omega arith;
  supers = omega arith;
}

guarded_whole : (test pattern guard body : Size) → Tests 0 test pattern guard → Tests 0 test (case_size pattern (Some guard) body) nothing × (test.test + body.value + 3 ≤ (case_size pattern (Some guard) body).value)
    × (test.tries + body.tries ≤ (case_size pattern (Some guard) body).tries) × (test.entries + body.entries ≤ (case_size pattern (Some guard) body).entries) × (test.supers + body.supers ≤ (case_size pattern (Some guard) body).supers)
unfolding beside merged node_size bool_size choice_size loop_size behind covered heavier trying deciding_size make_size
guarded_whole test pattern guard body fits = (record { test = omega arith; tries = omega arith; entries = omega arith; supers = omega arith }, omega arith, omega arith, omega arith, omega arith)

plain_whole : (test pattern body : Size) → Tests 0 test pattern always → Tests 0 test (case_size pattern None body) nothing × (test.test + body.value + 3 ≤ (case_size pattern None body).value)
    × (test.tries + body.tries ≤ (case_size pattern None body).tries) × (test.entries + body.entries ≤ (case_size pattern None body).entries) × (test.supers + body.supers ≤ (case_size pattern None body).supers)
unfolding beside merged node_size bool_size choice_size loop_size behind covered heavier trying deciding_size make_size
plain_whole test pattern body fits = (record { test = omega arith; tries = omega arith; entries = omega arith; supers = omega arith }, omega arith, omega arith, omega arith, omega arith)

pub guarded_case : (end more : ℕ) (test pattern guard body next : Size) (cases : List Size) → Tests 0 test pattern guard → body.test ≤ body.value + 3
    → ChainFits end more next (together cases) → ChainFits end more (tree_at 3 (Expr-F.If test body next)) (together (case_size pattern (Some guard) body ∷ cases))
guarded_case end more test pattern guard body next cases fits small follows =
    let sums = summed (case_size pattern (Some guard) body) cases in
    let w = guarded_whole test pattern guard body fits in
    case_more end more test body next (case_size pattern (Some guard) body) (together cases) (together (case_size pattern (Some guard) body ∷ cases)) small w.1 w.2 w.3 w.4 follows sums.value sums.tries sums.entries sums.supers

pub plain_case : (end more : ℕ) (test pattern body next : Size) (cases : List Size) → Tests 0 test pattern always → body.test ≤ body.value + 3
    → ChainFits end more next (together cases) → ChainFits end more (tree_at 3 (Expr-F.If test body next)) (together (case_size pattern None body ∷ cases))
plain_case end more test pattern body next cases fits small follows =
    let sums = summed (case_size pattern None body) cases in
    let w = plain_whole test pattern body fits in
    case_more end more test body next (case_size pattern None body) (together cases) (together (case_size pattern None body ∷ cases)) small w.1 w.2 w.3 w.4 follows sums.value sums.tries sums.entries sums.supers

matched_by : (value chain cases : Size) → ChainFits 19 3 chain cases
    → NoMore (matching value chain) (node_size (record { bytes = 29; jump = 32; entries = 3; supers = 0; keeps = false; more = 0 }) (merged (beside nothing value) cases))
unfolding beside merged node_size bool_size choice_size loop_size behind covered heavier trying deciding_size make_size
matched_by value chain cases fits = record { value = omega arith; test = omega arith; fixed = refl; tries = omega arith; kept = refl; entries = omega arith; supers = omega arith }

pub matched : (value chain : Size) (cases : List Size) → ChainFits 19 3 chain (together cases) → NoMore (matching value chain) (tree_at 2 (Expr-F.Match value cases))
matched value chain cases fits = matched_by value chain (together cases) fits

pub caught : (body chain cases : Size) (last : Option Size) → ChainFits 5 0 chain cases → NoMore (catching body chain last) (tree_at 2 (Expr-F.Try body (Some cases) last))
unfolding beside merged node_size bool_size choice_size loop_size behind covered heavier trying deciding_size make_size
caught body chain cases None fits = record { value = omega arith; test = omega arith; fixed = refl; tries = omega arith; kept = refl; entries = omega arith; supers = omega arith }
caught body chain cases (Some last) fits = record { value = omega arith; test = omega arith; fixed = refl; tries = omega arith; kept = refl; entries = omega arith; supers = omega arith }
