-- Each row of the tables of what lowerings put in place of forms.
use Rattle.std.proofs.Common.{◌≡◌, ◌≤◌, ◌+◌, ℕ, Bool, true, false, nat_eq, if◌then◌else◌, List, [], ◌∷◌, fold, refl, ap, subst, arith}
use Rattle.ty_prog.specs.declared.catch.Catch.TheOpen.{Expr-F, Pattern-F}
use Rattle.ty_prog.specs.declared.ty.Ty.TheVariants as ty
use Rattle.ty_room.specs.declared.size.Size.{Size}
use Rattle.ty_room.specs.declared.numbers.Numbers.{Numbers}
use Rattle.ty_room.specs.Numbers.{kept_bytes, operation, making}
use Rattle.ty_room.specs.Sizing.{nothing, beside, merged, together, keeping, pattern_step, node_size, bool_size, choice_size, loop_size, behind, covered, heavier, trying, deciding_size, make_size}
use Rattle.ty_room.specs.Forms.{tree_at, local, part, type_test, bound}
use Rattle.ty_room.specs.NoMore.{NoMore}
use Rattle.ty_room.specs.Replaced.{each, TakesNoMore, IsTest, of_objects, of_traits, of_lazy_members, of_conversions, of_variables, int_bound, Tests, of_patterns, cast_part}
use Rattle.ty_room.proofs.Monotone.{same_numbers, node_no_more}

-- what is put together from some start on is the start and what is put together
pub record FromStart (start : Size) (parts : List Size) : Type 0 where
  pub value : (fold beside start parts).value ≡ start.value + (fold beside nothing parts).value
  pub tries : (fold beside start parts).tries ≡ start.tries + (fold beside nothing parts).tries
  pub kept : (fold beside start parts).kept ≡ start.kept + (fold beside nothing parts).kept
  pub entries : (fold beside start parts).entries ≡ start.entries + (fold beside nothing parts).entries
  pub supers : (fold beside start parts).supers ≡ start.supers + (fold beside nothing parts).supers

next_start : (start part : Size) (parts : List Size) → FromStart (beside start part) parts → FromStart (beside nothing part) parts → FromStart start (part ∷ parts)
unfolding beside
next_start start part parts x y = record {
  value = omega (arith, x.value, y.value);
  tries = omega (arith, x.tries, y.tries);
  kept = omega (arith, x.kept, y.kept);
  entries = omega (arith, x.entries, y.entries);
  supers = omega (arith, x.supers, y.supers);
}

pub from_start : (parts : List Size) (start : Size) → FromStart start parts
from_start [] start = record { value = omega arith; tries = omega arith; kept = omega arith; entries = omega arith; supers = omega arith }
from_start (part ∷ parts) start = next_start start part parts (from_start parts (beside start part)) (from_start parts (beside nothing part))

pub objects_replaced : each TakesNoMore of_objects
unfolding node_size
objects_replaced = (record { value = omega arith; test = omega arith; fixed = refl; tries = omega arith; kept = refl; entries = omega arith; supers = omega arith }, tt)

-- the parts of a call in place of a read or a write of a field
called_parts : (of : Size) → NoMore (merged (beside nothing of) nothing) (beside nothing of)
unfolding beside merged
called_parts of = record { value = omega arith; test = omega arith; fixed = refl; tries = omega arith; kept = omega arith; entries = omega arith; supers = omega arith }

stored_parts : (of value : Size) → NoMore (merged (beside nothing of) (beside nothing value)) (beside (beside nothing of) value)
unfolding beside merged
stored_parts of value = record { value = omega arith; test = omega arith; fixed = refl; tries = omega arith; kept = omega arith; entries = omega arith; supers = omega arith }

-- a call in place of a read or a write of a field
called_no_more : (n : Numbers) (of : Size) → NoMore (node_size n (merged (beside nothing of) nothing)) (node_size n (beside nothing of))
called_no_more n of = node_no_more (same_numbers n) (called_parts of)

stored_no_more : (n : Numbers) (of value : Size) → NoMore (node_size n (merged (beside nothing of) (beside nothing value))) (node_size n (beside (beside nothing of) value))
stored_no_more n of value = node_no_more (same_numbers n) (stored_parts of value)

-- an operand more in place of the object that no part is
kept_alike : (none none' : Bool) (all all' : ℕ) → none ≡ none' → all ≡ all' → (if none then 0 else kept_bytes all) ≤ (if none' then 0 else kept_bytes all')
kept_alike none none' all all' e f = subst (λ n. (if none then 0 else kept_bytes all) ≤ (if n then 0 else kept_bytes all')) e (subst (λ n. (if none then 0 else kept_bytes all) ≤ (if none then 0 else kept_bytes n)) f (omega arith))

-- a call with the object as an operand in place of one by `super`
by_super : (n : ℕ) (parts args : Size) → n ≤ 6 → parts.value ≡ 1 + args.value → parts.tries ≡ args.tries → parts.kept ≡ 8 + args.kept
    → parts.entries ≡ args.entries → parts.supers ≡ args.supers → NoMore (node_size (operation n 4) parts) (node_size (making 10 4 1) args)
unfolding node_size
by_super n parts args le value tries kept entries supers =
    let same : keeping (operation n 4) parts ≤ keeping (making 10 4 1) args =
    kept_alike (nat_eq parts.tries 0) (nat_eq args.tries 0) (parts.kept + 0) (args.kept + 8) (ap (λ t. nat_eq t 0) tries) (omega (arith, kept)) in
    record {
      value = omega (arith, same, value, le);
      test = omega (arith, same, value, le);
      fixed = refl;
      tries = omega (arith, tries);
      kept = refl;
      entries = omega (arith, entries);
      supers = omega (arith, supers);
    }

static_value : (args : List Size) → (together (tree_at 2 Expr-F.This ∷ args)).value ≡ 1 + (together args).value
unfolding beside node_size
static_value args = omega (arith, (from_start args (beside nothing (tree_at 2 Expr-F.This))).value)

static_tries : (args : List Size) → (together (tree_at 2 Expr-F.This ∷ args)).tries ≡ (together args).tries
unfolding beside node_size
static_tries args = omega (arith, (from_start args (beside nothing (tree_at 2 Expr-F.This))).tries)

static_kept : (args : List Size) → (together (tree_at 2 Expr-F.This ∷ args)).kept ≡ 8 + (together args).kept
unfolding beside node_size
static_kept args = omega (arith, (from_start args (beside nothing (tree_at 2 Expr-F.This))).kept)

static_entries : (args : List Size) → (together (tree_at 2 Expr-F.This ∷ args)).entries ≡ (together args).entries
unfolding beside node_size
static_entries args = omega (arith, (from_start args (beside nothing (tree_at 2 Expr-F.This))).entries)

static_supers : (args : List Size) → (together (tree_at 2 Expr-F.This ∷ args)).supers ≡ (together args).supers
unfolding beside node_size
static_supers args = omega (arith, (from_start args (beside nothing (tree_at 2 Expr-F.This))).supers)

static_no_more : (args : List Size) → NoMore (tree_at 2 (Expr-F.StaticCall 0 0 (tree_at 2 Expr-F.This ∷ args))) (tree_at 1 (Expr-F.SuperCall 0 [] args))
static_no_more args = by_super 4 (together (tree_at 2 Expr-F.This ∷ args)) (together args) (omega arith) (static_value args) (static_tries args) (static_kept args) (static_entries args) (static_supers args)

virtual_value : (args : Size) → (merged (beside nothing (tree_at 2 (Expr-F.Local 0))) args).value ≡ 1 + args.value
unfolding beside merged node_size
virtual_value args = omega arith

virtual_tries : (args : Size) → (merged (beside nothing (tree_at 2 (Expr-F.Local 0))) args).tries ≡ args.tries
unfolding beside merged node_size
virtual_tries args = omega arith

virtual_kept : (args : Size) → (merged (beside nothing (tree_at 2 (Expr-F.Local 0))) args).kept ≡ 8 + args.kept
unfolding beside merged node_size
virtual_kept args = omega arith

virtual_entries : (args : Size) → (merged (beside nothing (tree_at 2 (Expr-F.Local 0))) args).entries ≡ args.entries
unfolding beside merged node_size
virtual_entries args = omega arith

virtual_supers : (args : Size) → (merged (beside nothing (tree_at 2 (Expr-F.Local 0))) args).supers ≡ args.supers
unfolding beside merged node_size
virtual_supers args = omega arith

virtual_no_more : (args : List Size) → NoMore (tree_at 2 (Expr-F.Call (tree_at 2 (Expr-F.Local 0)) 0 0 args)) (tree_at 1 (Expr-F.SuperCall 0 [] args))
virtual_no_more args = by_super 6 (merged (beside nothing (tree_at 2 (Expr-F.Local 0))) (together args)) (together args) (omega arith) (virtual_value (together args)) (virtual_tries (together args)) (virtual_kept (together args)) (virtual_entries (together args)) (virtual_supers (together args))

moved_by : (number : ℕ) (first : Bool) → NoMore (node_size (record { bytes = if first then 1 else 4; jump = (if first then 1 else 4) + 3; entries = 0; supers = 0; keeps = false; more = 0 }) nothing) (tree_at 1 (Expr-F.Local number))
unfolding node_size
moved_by number true = record { value = omega arith; test = omega arith; fixed = refl; tries = omega arith; kept = refl; entries = omega arith; supers = omega arith }
moved_by number false = record { value = omega arith; test = omega arith; fixed = refl; tries = omega arith; kept = refl; entries = omega arith; supers = omega arith }

moved_local : (number : ℕ) → NoMore (tree_at 2 (Expr-F.Local (number + 1))) (tree_at 1 (Expr-F.Local number))
moved_local number = moved_by number (nat_eq (number + 1) 0)

object_local : NoMore (tree_at 2 (Expr-F.Local 0)) (tree_at 1 Expr-F.This)
unfolding node_size
object_local = record { value = omega arith; test = omega arith; fixed = refl; tries = omega arith; kept = refl; entries = omega arith; supers = omega arith }

pub traits_replaced : (number : ℕ) (of value : Size) (args : List Size) → each TakesNoMore (of_traits number of value args)
traits_replaced number of value args =
    (object_local, (moved_local number, (called_no_more (operation 6 4) of, (stored_no_more (operation 6 4) of value, (static_no_more args, (virtual_no_more args, tt))))))

pub lazies_replaced : (of : Size) → each TakesNoMore (of_lazy_members of)
lazies_replaced of = (called_no_more (operation 6 4) of, tt)

pub conversions_replaced : (k : ℕ) (e : Size) → each TakesNoMore (of_conversions k e)
unfolding beside node_size behind covered
conversions_replaced k e = (
  record { value = omega arith; test = omega arith; fixed = refl; tries = omega arith; kept = refl; entries = omega arith; supers = omega arith },
  (
    record { value = omega arith; test = omega arith; fixed = refl; tries = omega arith; kept = refl; entries = omega arith; supers = omega arith },
    (
      record { value = omega arith; test = omega arith; fixed = refl; tries = omega arith; kept = refl; entries = omega arith; supers = omega arith },
      (
        record { value = omega arith; test = omega arith; fixed = refl; tries = omega arith; kept = refl; entries = omega arith; supers = omega arith },
        (record { value = omega arith; test = omega arith; fixed = refl; tries = omega arith; kept = refl; entries = omega arith; supers = omega arith }, tt),
      ),
    ),
  ),
)

pub variables_replaced : (rest : Size) → each TakesNoMore (of_variables rest)
unfolding beside node_size behind covered
variables_replaced rest = (
  record { value = omega arith; test = omega arith; fixed = refl; tries = omega arith; kept = refl; entries = omega arith; supers = omega arith },
  (record { value = omega arith; test = omega arith; fixed = refl; tries = omega arith; kept = refl; entries = omega arith; supers = omega arith }, tt),
)

pub int_variable : (rest : Size) → Tests 0 (type_test local (int_bound rest)) (pattern_step (Pattern-F.OfType ty.Int)) (bound local rest)
unfolding beside merged node_size bool_size choice_size loop_size behind covered heavier
int_variable rest = record { test = omega arith; tries = omega arith; entries = omega arith; supers = omega arith }

pub read_local : (rest : Size) → each (IsTest 0 rest) (of_patterns local rest)
unfolding beside merged node_size bool_size choice_size loop_size behind covered heavier trying deciding_size make_size
read_local rest = (record { test = omega arith; tries = omega arith; entries = omega arith; supers = omega arith }, (record { test = omega arith; tries = omega arith; entries = omega arith; supers = omega arith }, (record { test = omega arith; tries = omega arith; entries = omega arith; supers = omega arith }, (record { test = omega arith; tries = omega arith; entries = omega arith; supers = omega arith }, (record { test = omega arith; tries = omega arith; entries = omega arith; supers = omega arith }, (record { test = omega arith; tries = omega arith; entries = omega arith; supers = omega arith }, (record { test = omega arith; tries = omega arith; entries = omega arith; supers = omega arith }, (record { test = omega arith; tries = omega arith; entries = omega arith; supers = omega arith }, (record { test = omega arith; tries = omega arith; entries = omega arith; supers = omega arith }, (record { test = omega arith; tries = omega arith; entries = omega arith; supers = omega arith }, tt))))))))))

pub read_part : (rest : Size) → each (IsTest 0 rest) (of_patterns part rest)
unfolding beside merged node_size bool_size choice_size loop_size behind covered heavier trying deciding_size make_size
read_part rest = (record { test = omega arith; tries = omega arith; entries = omega arith; supers = omega arith }, (record { test = omega arith; tries = omega arith; entries = omega arith; supers = omega arith }, (record { test = omega arith; tries = omega arith; entries = omega arith; supers = omega arith }, (record { test = omega arith; tries = omega arith; entries = omega arith; supers = omega arith }, (record { test = omega arith; tries = omega arith; entries = omega arith; supers = omega arith }, (record { test = omega arith; tries = omega arith; entries = omega arith; supers = omega arith }, (record { test = omega arith; tries = omega arith; entries = omega arith; supers = omega arith }, (record { test = omega arith; tries = omega arith; entries = omega arith; supers = omega arith }, (record { test = omega arith; tries = omega arith; entries = omega arith; supers = omega arith }, (record { test = omega arith; tries = omega arith; entries = omega arith; supers = omega arith }, tt))))))))))

pub read_cast : (rest : Size) → each (IsTest 3 rest) (of_patterns cast_part rest)
unfolding beside merged node_size bool_size choice_size loop_size behind covered heavier trying deciding_size make_size
read_cast rest = (record { test = omega arith; tries = omega arith; entries = omega arith; supers = omega arith }, (record { test = omega arith; tries = omega arith; entries = omega arith; supers = omega arith }, (record { test = omega arith; tries = omega arith; entries = omega arith; supers = omega arith }, (record { test = omega arith; tries = omega arith; entries = omega arith; supers = omega arith }, (record { test = omega arith; tries = omega arith; entries = omega arith; supers = omega arith }, (record { test = omega arith; tries = omega arith; entries = omega arith; supers = omega arith }, (record { test = omega arith; tries = omega arith; entries = omega arith; supers = omega arith }, (record { test = omega arith; tries = omega arith; entries = omega arith; supers = omega arith }, (record { test = omega arith; tries = omega arith; entries = omega arith; supers = omega arith }, (record { test = omega arith; tries = omega arith; entries = omega arith; supers = omega arith }, tt))))))))))
