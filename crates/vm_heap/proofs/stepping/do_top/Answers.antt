use Rattle.std.proofs.Common.{◌∷◌, drop, subst, sym}
use Rattle.vm_heap.specs.Deeds.{ComesTop}
use Rattle.vm_heap.proofs.Joins.{top_is, deed_comes}
use Rattle.vm_heap.proofs.stepping.do_top.Goals as goal

pub returns : goal.returns
returns c =
    let t = c.args.t.now in
    let f = c.top_mut.result.now in
    let is = top_is t.frames f c.top_mut.ensures.value in
    subst (ComesTop c.args.k.now c.args.h.now c.do_next-done.new.h t (record t { frames = c.do_next-done.new.f ∷ drop 1 t.frames })) (sym c.top_of.ensures)
    (deed_comes c.args.k.now c.args.h.now c.do_next-done.new.h t f c.do_next-done.new.f (drop 1 t.frames) c.do_next-done.result is c.requires.thrown c.do_next-done.ensures)
