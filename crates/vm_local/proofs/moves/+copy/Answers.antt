use Rattle.std.proofs.Common.{◌≡◌, ◌-◌, suc, length, take, Some, sym, ap, ◌∙◌, arith}
use Rattle.std.specs.Prelude.{slice_get}
use Rattle.std.proofs.lemmas.Option.{slice_get-get_or}
use Rattle.vm_state.specs.Held.{Held}
use Rattle.vm_state.specs.declared.value.Value.TheVariants.{Null}
use Rattle.vm_state.specs.Values.{depth}
use Rattle.vm_state.specs.Instructions.{with_copies}
use Rattle.vm_local.proofs.Copies.{held, depth_insert, length_insert, take_insert, depth_one_more, copied}
use Rattle.vm_local.proofs.moves.+copy.Goals as goal

pub copy-requires : goal.copy-requires
copy-requires t c =
    let vs = c.args.stack.now.values in
    let n = c.args.under in
    let k = c.args.count - 1 in
    let v = c.in-Some.v in
    let is : slice_get vs k ≡ Some v = sym c.in-Some.ensures in
    let one : suc k ≡ c.args.count = omega arith in
    let values = ap (λ (h : Held). h.values) c.insert.ensures in
    let room = ap (λ (h : Held). h.room) c.insert.ensures in
    let kept = take_insert k n v vs (omega arith) c.requires.there in
    let more = depth_one_more k v vs is in (
      omega arith,
      (
        omega arith,
        (
          omega (arith, ap length values, length_insert n v vs),
          omega (arith, ap depth values, depth_insert n v vs, ap (λ l. depth (take k l)) values, ap depth kept, room, more, ap (λ m. depth (take m vs)) one),
        ),
      ),
    )

pub returns-in-Some : goal.returns-in-Some
returns-in-Some t c =
    let vs = c.args.stack.now.values in
    let n = c.args.under in
    let k = c.args.count - 1 in
    let v = c.in-Some.v in
    let is : slice_get vs k ≡ Some v = sym c.in-Some.ensures in
    let one : suc k ≡ c.args.count = omega arith in
    c.copy.ensures
    ∙ ap (λ (h : Held). held (with_copies k n h.values) h.room) c.insert.ensures
    ∙ ap (λ l. held l c.args.stack.now.room) (copied k n v vs is (omega arith) c.requires.there ∙ ap (λ m. with_copies m n vs) one)

pub returns-in_default : goal.returns-in_default
returns-in_default t c =
    let vs = c.args.stack.now.values in
    let k = c.args.count - 1 in
    absurd (c.in_default.not-Some _ (c.get.ensures ∙ slice_get-get_or vs k Null (omega arith)))
