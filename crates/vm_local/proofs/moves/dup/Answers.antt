use Rattle.std.proofs.Common.{sym, ◌∙◌}
use Rattle.vm_local.proofs.Copies.{whole_depth, whole_more}
use Rattle.vm_local.proofs.moves.dup.Goals as goal

pub dup_under-requires : goal.dup_under-requires
dup_under-requires c =
    let vs = c.args.f.now.stack.values in
    let count = c.in-Some.count in
    let is = sym c.whole.ensures.value ∙ c.in-Some.is in
    record {
      pc = c.requires;
      count = whole_depth c.args.units vs count is;
      few = c.in-Some.ensures.few;
      more = whole_more c.args.units c.args.under vs count c.whole-more.result is c.whole-more.ensures.value c.whole-more.ensures.few;
    }
