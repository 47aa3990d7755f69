use Rattle.std.proofs.Common.{◌∷◌, drop, refl, sym, ap, ◌∙◌, arith}
use Rattle.vm_local.specs.Batches.{top_code}
use Rattle.vm_local.proofs.Staying.{with_frames, frames_run}
use Rattle.vm_local.proofs.Leaving.{top_is, leaves_top}
use Rattle.vm_local.proofs.batch.run_top.Goals as goal

pub run_frame-requires : goal.run_frame-requires
run_frame-requires c =
    let frames = c.args.t.now.frames in
    let f = c.top_mut.result.now in
    sym (ap (top_code c.args.k.now) (top_is frames f c.top_mut.ensures.value)) ∙ c.requires.code

pub returns : goal.returns
returns c =
    let t = c.args.t.now in
    let f = c.top_mut.result.now in
    let fs = drop 1 t.frames in
    let g = c.run_frame.new.f in
    let count = c.run_frame.result.count in
    let is = top_is t.frames f c.top_mut.ensures.value in
    let run = frames_run c.args.k.now count t f fs is c.requires.thrown c.run_frame.ensures.stay in
    record {
      few = c.run_frame.ensures.few;
      all = run.1;
      thread = ap (λ h. with_frames t (h ∷ fs)) c.run_frame.ensures.frame ∙ sym run.0;
      frames = omega arith;
      leaves = leaves_top c.args.k.now (with_frames t (g ∷ fs)) g fs c.run_frame.result.left refl c.requires.thrown c.run_frame.ensures.leaves;
    }
