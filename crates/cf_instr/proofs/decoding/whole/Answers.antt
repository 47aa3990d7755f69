use Rattle.std.proofs.Common.{◌≡◌, ◌≤◌, ◌<◌, ◌^◌, get_or, length, subst, sym, ap, ◌∙◌, arith, rules, ℕ, List}
use Rattle.cf_form.specs.declared.instr.Instr.{Instr}
use Rattle.cf_instr.specs.Raws.{AreApart, AreSettled}
use Rattle.cf_instr.proofs.Sizes.{starts_apart, starts_few, raws_few, starts_low}
use Rattle.cf_instr.proofs.Excluding.{found, written_back}
use Rattle.cf_instr.proofs.decoding.whole.Goals as goal

abbrev IsLow : ℕ → List ℕ → Type 0
IsLow len xs = (k : ℕ) → k < length xs → get_or xs k 0 < len

pub numbers_of-requires-clause-apart : goal.numbers_of-requires-clause-apart
numbers_of-requires-clause-apart c = subst AreApart (sym c.deref-3.ensures.value) (starts_apart c.args.bytes.now c.in_ok-raws.raws.items c.in_ok-raws.starts.items c.in_ok-raws.ensures)

pub numbers_of-requires-clause-few : goal.numbers_of-requires-clause-few
numbers_of-requires-clause-few c =
    let few : length c.in_ok-raws.starts.items ≤ length c.args.bytes.now = starts_few c.args.bytes.now c.in_ok-raws.raws.items c.in_ok-raws.starts.items c.in_ok-raws.ensures in
    subst (λ (l : List ℕ). length l < 2 ^ 31) (sym c.deref-3.ensures.value) (omega arith)

pub numbers_of-requires-clause-within : goal.numbers_of-requires-clause-within
numbers_of-requires-clause-within c =
    subst (IsLow (length c.args.bytes.now)) (sym c.deref-3.ensures.value) (λ k lt. starts_low c.args.bytes.now c.in_ok-raws.raws.items c.in_ok-raws.starts.items k c.in_ok-raws.ensures lt)

pub settle-requires-clause-many : goal.settle-requires-clause-many
settle-requires-clause-many c =
    let few : length c.in_ok-raws.raws.items ≤ length c.args.bytes.now = raws_few c.args.bytes.now c.in_ok-raws.raws.items c.in_ok-raws.starts.items c.in_ok-raws.ensures in
    subst (λ (l : List Instr). length l < 2 ^ 31) (sym c.deref_mut.ensures.value) (omega arith)

pub settle-requires-clause-low : goal.settle-requires-clause-low
settle-requires-clause-low c =
    let long : length c.deref-5.result.now ≡ length c.args.bytes.now = ap length c.deref-5.ensures.value ∙ c.in-Ok.ensures.many in
    subst (λ n. IsLow n c.deref-4.result.now) (sym long)
    (subst (IsLow (length c.args.bytes.now)) (sym c.deref-4.ensures.value) (λ k lt. starts_low c.args.bytes.now c.in_ok-raws.raws.items c.in_ok-raws.starts.items k c.in_ok-raws.ensures lt))

pub returns-in-Ok-settle-clause-found : goal.returns-in-Ok-settle-clause-found
returns-in-Ok-settle-clause-found c =
    let some : 1 ≤ length c.args.bytes.now = search rules in
    let old = c.in_ok-raws.raws.items in
    let new = c.settle.new.raws in
    let is : c.deref_mut.result.now ≡ old = c.deref_mut.ensures.value in
    let long : length new ≡ length old = c.settle.auto.raws ∙ ap length is in
    let settled : AreSettled old (length old) new = subst (λ (t : List Instr). AreSettled t (length t) new) is c.in-Ok-settle.ensures in
    rw (written_back old new c.in_ok-raws.raws.len long (sym c.deref_mut.ensures.len ∙ ap length is)) (found c.args.bytes.now old c.in_ok-raws.starts.items new some c.in_ok-raws.ensures settled)

pub returns-then-is_settled-clause-found : goal.returns-then-is_settled-clause-found
returns-then-is_settled-clause-found c =
    let some : 1 ≤ length c.args.bytes.now = search rules in
    let old = c.in_ok-raws.raws.items in
    let settled : AreSettled old (length old) old = subst (λ (t : List Instr). AreSettled t (length t) t) c.deref.ensures.value (c.is_settled.ensures (c.if-is_settled.true)) in
    found c.args.bytes.now old c.in_ok-raws.starts.items old some c.in_ok-raws.ensures settled
