use Rattle.std.proofs.Common.{◌≡◌, ◌+◌, ◌∙◌, ℕ, Bool, true, false, nat_eq, refl, ap, sym, arith}
use Rattle.std.proofs.lemmas.Grind.{common_steps}
use Rattle.ty_room.specs.declared.size.Size.{Size}
use Rattle.ty_room.specs.declared.numbers.Numbers.{Numbers}
use Rattle.ty_room.specs.Capped.{capped}
use Rattle.ty_room.specs.Numbers.{kept_bytes}
use Rattle.ty_room.specs.Sizing.{keeping}
use Rattle.ty_room.proofs.combining.keeping.Goals as goal

is_zero : (n : ℕ) → nat_eq n 0 ≡ true → n ≡ 0
is_zero n h = grind (arith, common_steps)

is_false : (b : Bool) → (b ≡ true → ⊥) → b ≡ false
is_false true h = absurd (h refl)
is_false false h = refl

some : (n m : ℕ) → m ≡ capped n → (m ≡ 0 → ⊥) → nat_eq n 0 ≡ false
some n m is h = is_false (nat_eq n 0) (λ e. h (omega (arith, is, is_zero n e)))

all_kept : (f : Numbers) (x : Size) → f.keeps ≡ true → nat_eq x.tries 0 ≡ false → keeping f x ≡ kept_bytes (x.kept + f.more)
all_kept f x k t = rw (k, t) refl

pub returns-then-parts-ne0 : goal.returns-then-parts-ne0
returns-then-parts-ne0 c = λ f x e s.
    let keeps : f.keeps ≡ true = sym (ap (λ n. n.keeps) e) ∙ c.if-form.true in
    let more : c.args.form.more ≡ f.more = ap (λ n. n.more) e in
    let sum : c.plus.result ≡ capped (x.kept + f.more) = omega (arith, c.plus.ensures.sum, s.kept, more) in
    rw (all_kept f x keeps (some x.tries c.args.parts.tries s.tries c.if-parts-ne0.true)) (c.kept_bytes.ensures (x.kept + f.more) sum)
