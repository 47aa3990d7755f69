-- What is put together of sizes that are no more is no more.
use Rattle.std.proofs.Common.{◌≡◌, ◌≤◌, ◌+◌, ◌∙◌, ℕ, Bool, true, false, nat_eq, if◌then◌else◌, List, [], ◌∷◌, Option, Some, None, map, fold, refl, ap, sym, subst, arith}
use Rattle.std.proofs.lemmas.Grind.{common_steps}
use Rattle.ty_room.specs.declared.size.Size.{Size}
use Rattle.ty_room.specs.declared.numbers.Numbers.{Numbers}
use Rattle.ty_room.specs.Numbers.{kept_bytes}
use Rattle.ty_room.specs.Sizing.{nothing, beside, merged, keeping, node_size, choice_test, choice_size, loop_size, behind, covered, closed, heavier, trying, deciding_size, make_size}
use Rattle.ty_room.specs.NoMore.{NoMore, Part, low_of, high_of}

pub itself : (s : Size) → NoMore s s
itself s = record { value = omega arith; test = omega arith; fixed = refl; tries = omega arith; kept = refl; entries = omega arith; supers = omega arith }

pub through : {a b c : Size} → NoMore a b → NoMore b c → NoMore a c
through x y = record {
  value = omega (arith, x.value, y.value);
  test = omega (arith, x.test, y.test);
  fixed = x.fixed ∙ y.fixed;
  tries = omega (arith, x.tries, y.tries);
  kept = x.kept ∙ y.kept;
  entries = omega (arith, x.entries, y.entries);
  supers = omega (arith, x.supers, y.supers);
}

pub beside_no_more : {a a' b b' : Size} → NoMore a a' → NoMore b b' → NoMore (beside a b) (beside a' b')
unfolding beside
beside_no_more x y = record {
  value = omega (arith, x.value, y.value, x.test, y.test, x.kept);
  test = omega (arith, x.value, y.value, x.test, y.test, x.kept);
  fixed = refl;
  tries = omega (arith, x.tries, y.tries);
  kept = ap (λ n. n + 8) x.kept;
  entries = omega (arith, x.entries, y.entries);
  supers = omega (arith, x.supers, y.supers);
}

pub merged_no_more : {a a' b b' : Size} → NoMore a a' → NoMore b b' → NoMore (merged a b) (merged a' b')
unfolding merged
merged_no_more x y = record {
  value = omega (arith, x.value, y.value, x.test, y.test, x.kept);
  test = omega (arith, x.value, y.value, x.test, y.test, x.kept);
  fixed = refl;
  tries = omega (arith, x.tries, y.tries);
  kept = omega (arith, x.kept, y.kept);
  entries = omega (arith, x.entries, y.entries);
  supers = omega (arith, x.supers, y.supers);
}

pub behind_no_more : {a a' b b' : Size} → NoMore a a' → NoMore b b' → NoMore (behind a b) (behind a' b')
unfolding behind
behind_no_more x y = record {
  value = omega (arith, x.value, y.value, x.test, y.test, x.kept);
  test = omega (arith, x.value, y.value, x.test, y.test, x.kept);
  fixed = refl;
  tries = omega (arith, x.tries, y.tries);
  kept = refl;
  entries = omega (arith, x.entries, y.entries);
  supers = omega (arith, x.supers, y.supers);
}

pub loop_size_no_more : {a a' b b' : Size} → NoMore a a' → NoMore b b' → NoMore (loop_size a b) (loop_size a' b')
unfolding loop_size
loop_size_no_more x y = record {
  value = omega (arith, x.value, y.value, x.test, y.test, x.kept);
  test = omega (arith, x.value, y.value, x.test, y.test, x.kept);
  fixed = refl;
  tries = omega (arith, x.tries, y.tries);
  kept = refl;
  entries = omega (arith, x.entries, y.entries);
  supers = omega (arith, x.supers, y.supers);
}

pub covered_no_more : {a a' : Size} → NoMore a a' → NoMore (covered a) (covered a')
unfolding covered
covered_no_more x = record {
  value = omega (arith, x.value, x.test);
  test = omega (arith, x.value, x.test);
  fixed = refl;
  tries = omega (arith, x.tries);
  kept = refl;
  entries = omega (arith, x.entries);
  supers = omega (arith, x.supers);
}

pub trying_no_more : {a a' : Size} → NoMore a a' → NoMore (trying a) (trying a')
unfolding trying
trying_no_more x = record {
  value = omega (arith, x.value, x.test);
  test = omega (arith, x.value, x.test);
  fixed = refl;
  tries = omega (arith, x.tries);
  kept = refl;
  entries = omega (arith, x.entries);
  supers = omega (arith, x.supers);
}

pub deciding_size_no_more : {a a' : Size} → NoMore a a' → NoMore (deciding_size a) (deciding_size a')
unfolding deciding_size
deciding_size_no_more x = record {
  value = omega (arith, x.value, x.test);
  test = omega (arith, x.value, x.test);
  fixed = refl;
  tries = omega (arith, x.tries);
  kept = refl;
  entries = omega (arith, x.entries);
  supers = omega (arith, x.supers);
}

pub make_size_no_more : {a a' : Size} → NoMore a a' → NoMore (make_size a) (make_size a')
unfolding make_size
make_size_no_more x = record {
  value = omega (arith, x.value, x.test);
  test = omega (arith, x.value, x.test);
  fixed = refl;
  tries = omega (arith, x.tries);
  kept = refl;
  entries = omega (arith, x.entries);
  supers = omega (arith, x.supers);
}

pub heavier_no_more : (n m : ℕ) → n ≤ m → {a a' : Size} → NoMore a a' → NoMore (heavier n a) (heavier m a')
unfolding heavier
heavier_no_more n m le x = record {
  value = omega (arith, x.value, le);
  test = omega (arith, x.test);
  fixed = refl;
  tries = omega (arith, x.tries);
  kept = x.kept;
  entries = omega (arith, x.entries);
  supers = omega (arith, x.supers);
}

pub choice_no_more : {a a' b b' c c' : Size} → NoMore a a' → NoMore b b' → NoMore c c' → NoMore (choice_size a b c) (choice_size a' b' c')
unfolding choice_size
choice_no_more {a = a} {a' = a'} {b = b} {b' = b'} {c = c} {c' = c'} x y z = record {
  value = omega (arith, x.test, y.value, z.value);
  test = subst (λ f. choice_test (a.test + b.value + c.value + 3) a b c f c.fixed ≤ choice_test (a'.test + b'.value + c'.value + 3) a' b' c' b'.fixed c'.fixed) (sym y.fixed)
      (subst (λ f. choice_test (a.test + b.value + c.value + 3) a b c b'.fixed f ≤ choice_test (a'.test + b'.value + c'.value + 3) a' b' c' b'.fixed c'.fixed) (sym z.fixed)
      (decided b'.fixed c'.fixed));
  fixed = refl;
  tries = omega (arith, x.tries, y.tries, z.tries);
  kept = refl;
  entries = omega (arith, x.entries, y.entries, z.entries);
  supers = omega (arith, x.supers, y.supers, z.supers);
} where
  decided : (f g : Option Bool) → choice_test (a.test + b.value + c.value + 3) a b c f g ≤ choice_test (a'.test + b'.value + c'.value + 3) a' b' c' f g
  decided f (Some false) = omega (arith, x.test, y.test)
  decided (Some true) (Some true) = omega (arith, x.test, z.test)
  decided (Some true) None = omega (arith, x.test, z.test)
  decided (Some false) (Some true) = omega (arith, x.test, y.value, z.value)
  decided (Some false) None = omega (arith, x.test, y.value, z.value)
  decided None (Some true) = omega (arith, x.test, y.value, z.value)
  decided None None = omega (arith, x.test, y.value, z.value)

-- the numbers of a form are no more
pub record FewerOf (low high : Numbers) : Type 0 where
  pub bytes : low.bytes ≤ high.bytes
  pub jump : low.jump ≤ high.jump
  pub entries : low.entries ≤ high.entries
  pub supers : low.supers ≤ high.supers
  pub keeps : low.keeps ≡ high.keeps
  pub more : low.more ≡ high.more

pub same_numbers : (f : Numbers) → FewerOf f f
same_numbers f = record { bytes = omega arith; jump = omega arith; entries = omega arith; supers = omega arith; keeps = refl; more = refl }

keeping_by : (keeps none none' : Bool) (all : ℕ) → (none' ≡ true → none ≡ true)
    → (if keeps then (if none then 0 else kept_bytes all) else 0) ≤ (if keeps then (if none' then 0 else kept_bytes all) else 0)
keeping_by false none none' all h = omega arith
keeping_by true true none' all h = omega arith
keeping_by true false false all h = omega arith
keeping_by true false true all h = absurd (cc (h refl))

none_by : (tries tries' : ℕ) → tries ≤ tries' → nat_eq tries' 0 ≡ true → nat_eq tries 0 ≡ true
none_by tries tries' le h = grind (arith, common_steps)

keeping_no_more : {f f' : Numbers} {a a' : Size} → FewerOf f f' → NoMore a a' → keeping f a ≤ keeping f' a'
keeping_no_more {f = f} {f' = f'} {a = a} {a' = a'} n x =
    subst (λ k. keeping f a ≤ (if k then (if nat_eq a'.tries 0 then 0 else kept_bytes (a'.kept + f'.more)) else 0)) n.keeps
    (subst (λ m. keeping f a ≤ (if f.keeps then (if nat_eq a'.tries 0 then 0 else kept_bytes (a'.kept + m)) else 0)) n.more
    (subst (λ t. keeping f a ≤ (if f.keeps then (if nat_eq a'.tries 0 then 0 else kept_bytes (t + f.more)) else 0)) x.kept
    (keeping_by f.keeps (nat_eq a.tries 0) (nat_eq a'.tries 0) (a.kept + f.more) (none_by a.tries a'.tries x.tries))))

pub node_no_more : {f f' : Numbers} {a a' : Size} → FewerOf f f' → NoMore a a' → NoMore (node_size f a) (node_size f' a')
unfolding node_size
node_no_more n x = record {
  value = omega (arith, n.bytes, keeping_no_more n x, x.value);
  test = omega (arith, n.jump, keeping_no_more n x, x.value);
  fixed = refl;
  tries = x.tries;
  kept = refl;
  entries = omega (arith, n.entries, x.entries);
  supers = omega (arith, n.supers, x.supers);
}

closed_by : (none : Bool) (a a' : Size) → NoMore a a'
    → NoMore (if none then node_size (record { bytes = 1; jump = 4; entries = 0; supers = 0; keeps = false; more = 0 }) nothing else covered a) (if none then node_size (record { bytes = 1; jump = 4; entries = 0; supers = 0; keeps = false; more = 0 }) nothing else covered a')
closed_by true a a' x = itself _
closed_by false a a' x = covered_no_more x

pub closed_no_more : {a a' : Size} → NoMore a a' → NoMore (closed a) (closed a')
closed_no_more {a = a} {a' = a'} x = subst (λ n. NoMore (closed a) (if nat_eq n 0 then node_size (record { bytes = 1; jump = 4; entries = 0; supers = 0; keeps = false; more = 0 }) nothing else covered a')) x.kept (closed_by (nat_eq a.kept 0) a a' x)

-- all of some parts
from_on : (grow : Size → Size → Size) → ((a a' b b' : Size) → NoMore a a' → NoMore b b' → NoMore (grow a b) (grow a' b'))
    → (parts : List Part) (a a' : Size) → NoMore a a' → NoMore (fold grow a (map low_of parts)) (fold grow a' (map high_of parts))
from_on grow grows [] a a' x = x
from_on grow grows (part ∷ parts) a a' x = from_on grow grows parts (grow a part.low) (grow a' part.high) (grows a a' part.low part.high x part.no_more)

pub together_no_more : (parts : List Part) → NoMore (fold beside nothing (map low_of parts)) (fold beside nothing (map high_of parts))
together_no_more parts = from_on beside (λ a a' b b' x y. beside_no_more x y) parts nothing nothing (itself nothing)

pub statements_no_more : (parts : List Part) → NoMore (fold behind nothing (map low_of parts)) (fold behind nothing (map high_of parts))
statements_no_more parts = from_on behind (λ a a' b b' x y. behind_no_more x y) parts nothing nothing (itself nothing)
