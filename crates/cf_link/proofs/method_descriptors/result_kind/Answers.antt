use Rattle.std.proofs.Common.{rules, ◌≡◌, ◌≢◌, List, Some, None, ℕ, length, [], ◌∷◌, true, false, refl, sym, ap, subst, arith}
use Rattle.cf_link.specs.Descriptors.{IsResult, void, type}
use Rattle.cf_link.specs.Parsing.{is_void}
use Rattle.cf_link.proofs.Types.{whole_given}
use Rattle.cf_link.proofs.Methods.{result_same, result_void, void_given, void_not}
use Rattle.cf_link.proofs.method_descriptors.result_kind.Goals as goal

nil_from_length : (xs : List ℕ) → length xs ≡ 0 → xs ≡ []
nil_from_length [] none = refl
nil_from_length (x ∷ xs) none = absurd (omega arith)

pub returns-then-is_empty-clause-kind : goal.returns-then-is_empty-clause-kind
returns-then-is_empty-clause-kind c =
    let zero : length c.in-Some.after.now ≡ 0 = search rules in
    type c.args.bytes.now c.in-Some.kind (whole_given c.args.bytes.now c.in-Some.kind c.in-Some.after.now c.in-Some.ensures (nil_from_length c.in-Some.after.now zero))

pub returns-then-is_empty-clause-only : goal.returns-then-is_empty-clause-only
returns-then-is_empty-clause-only c = λ returned is.
    ap Some (result_same c.args.bytes.now c.in-Some.kind c.in-Some.after.now returned c.in-Some.ensures is).1

pub returns-else-is_empty-clause-only : goal.returns-else-is_empty-clause-only
returns-else-is_empty-clause-only c = λ returned is.
    let some : c.in-Some.after.now ≢ [] = search rules in
    absurd (some (result_same c.args.bytes.now c.in-Some.kind c.in-Some.after.now returned c.in-Some.ensures is).0)

pub returns-then-is_void-clause-kind : goal.returns-then-is_void-clause-kind
returns-then-is_void-clause-kind c =
    let is : is_void c.args.bytes.now ≡ true = search rules in
    subst (λ xs. IsResult xs None) (sym (void_given c.args.bytes.now is)) void

pub returns-then-is_void-clause-only : goal.returns-then-is_void-clause-only
returns-then-is_void-clause-only c = λ returned is.
    ap Some (result_void c.args.bytes.now returned c.in-None.ensures is).1

pub returns-else-is_void-clause-only : goal.returns-else-is_void-clause-only
returns-else-is_void-clause-only c = λ returned is.
    let isnt : is_void c.args.bytes.now ≡ false = search rules in
    absurd (void_not c.args.bytes.now isnt (result_void c.args.bytes.now returned c.in-None.ensures is).0)
