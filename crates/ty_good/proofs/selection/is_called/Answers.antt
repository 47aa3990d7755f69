use Rattle.std.proofs.Common.{◌≡◌, Bool, true, false, refl, sym}
use Rattle.std.specs.Prelude.{Decides}
use Rattle.std.specs.Str.{bytes_eq}
use Rattle.std.proofs.lemmas.Slice.Eq.{bytes_eq-Decides}
use Rattle.ty_good.proofs.selection.is_called.Goals as goal

-- two tests that decide the same have one answer
same_answer : (one other : Bool) (P : Type 0) → Decides one P → Decides other P → one ≡ other
same_answer true true P first second = refl
same_answer true false P first second = sym (second.1 (first.0 refl))
same_answer false true P first second = first.1 (second.0 refl)
same_answer false false P first second = refl

pub returns : goal.returns
returns c =
    same_answer c.is_text.result (bytes_eq c.args.name.now c.args.text.now) (c.args.name.now ≡ c.args.text.now) c.is_text.ensures
    (bytes_eq-Decides c.args.name.now c.args.text.now)
