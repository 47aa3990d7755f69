use Rattle.std.proofs.Common.{rules, ◌≡◌, length, replicate, arith, []}
use Rattle.std.proofs.lemmas.List.{length-replicate}
use Rattle.lz_proto.specs.declared.state.State.TheVariants as state
use Rattle.lz_proto.specs.declared.pos.Pos.TheVariants as pos
use Rattle.lz_proto.proofs.New.{new_kept}
use Rattle.lz_proto.proofs.proto.Proto.new.Goals as goal

pub invariant_of-result : goal.invariant_of-result
invariant_of-result c =
    let cells : c.in_ok-vec.field-0.items ≡ replicate c.args.cells state.Empty = search rules in
    let at : c.in_ok-vec-2.field-0.items ≡ replicate (length c.args.threads.now) pos.Idle = search rules in
    let threads : c.in_ok-to_vec.field-0.items ≡ c.args.threads.now = search rules in
    let opened : c.new.result.items ≡ [] = search rules in
    let owner : c.new-2.result.items ≡ [] = search rules in (
      rw (cells, at, threads, opened, owner) (new_kept c.args.cells c.args.threads.now),
      rw (at, length-replicate (length c.args.threads.now) pos.Idle) omega (arith, c.if-threads.false),
      rw opened (omega arith),
      rw opened (omega arith),
      rw opened (omega arith),
    )
