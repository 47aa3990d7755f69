use Rattle.std.proofs.Common.{subst}
use Rattle.vm_native.specs.Acts.{Acts}
use Rattle.vm_state.specs.Shared.{rests, needing}
use Rattle.vm_heap.proofs.calls.call_static.Goals as goal

pub returns : goal.returns
returns c =
    subst
    (λ e. Acts (needing c.args.k.now c.args.h.now c.args.f.now c.args.thread c.args.class (λ g. rests g c.args.f.now e)) c.with_class.result c.args.h.now c.with_class.new.h c.args.f.now c.with_class.new.f)
    c.static_effect-effect.ensures c.with_class.ensures
