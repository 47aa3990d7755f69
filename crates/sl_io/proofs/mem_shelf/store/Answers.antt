use Rattle.std.proofs.Common.{◌≡◌, List, ℕ, None, Vec, map, subst}
use Rattle.std.specs.declared.alloc.Global.{Global}
use Rattle.sl_io.specs.Held.{stored, file_in, IsNumberOf}
use Rattle.sl_io.proofs.Numbers.{replaced_at, added_last}
use Rattle.sl_io.proofs.mem_shelf.store.Goals as goal

pub returns-in-Some-clause-ok : goal.returns-in-Some-clause-ok
returns-in-Some-clause-ok c =
    let P : List (List ℕ × Vec ℕ Global) → Type 0 = λ files. IsNumberOf (map stored files) c.args.name.now c.in-Some.i in
    let here = subst P c.deref.ensures.value c.in-Some.ensures in
    replaced_at c.args.files.now.items c.in-Some.i c.args.name.now c.args.bytes.now c.index_mut.result.now c.in_ok-copy.copy here c.index_mut.ensures.value c.in_ok-copy.ensures.items

pub returns-in_ok-push-in-None-clause-ok : goal.returns-in_ok-push-in-None-clause-ok
returns-in_ok-push-in-None-clause-ok c =
    let P : List (List ℕ × Vec ℕ Global) → Type 0 = λ files. file_in (map stored files) c.args.name.now ≡ None in
    let none = subst P c.deref.ensures.value c.in-None.ensures in
    added_last c.args.files.now.items c.push.new.self.items c.args.name.now c.args.bytes.now c.in_ok-from_text-in-None.field-0 c.in_ok-copy.copy
    c.utf8.name none c.in_ok-from_text-in-None.ensures c.in_ok-copy.ensures.items c.in_ok-push-in-None.ensures.items
