use Rattle.std.proofs.Common.{◌∙◌, List, ℕ, Some, Vec, map, sym, ap, subst}
use Rattle.std.specs.declared.alloc.Global.{Global}
use Rattle.sl_io.specs.Held.{stored, file_in, IsNumberOf, Held}
use Rattle.sl_io.proofs.Numbers.{kept_at}
use Rattle.sl_io.proofs.mem_shelf.MemShelf.get.Goals as goal

pub returns-in-Some : goal.returns-in-Some
returns-in-Some c =
    let P : List (List ℕ × Vec ℕ Global) → Type 0 = λ files. IsNumberOf (map stored files) c.args.name.now c.in-Some.i in
    let here = subst P c.deref.ensures.value c.in-Some.ensures in
    let found = kept_at c.self.inside.files.items c.in-Some.i c.args.name.now c.index.result.now here c.index.ensures in
    ap Some c.as_slice.ensures.value ∙ sym found ∙ ap (λ (held : Held). file_in held.files c.args.name.now) c.self.view_is
