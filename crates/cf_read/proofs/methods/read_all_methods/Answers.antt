use Rattle.std.proofs.Common.{◌≡◌, ◌++◌, ◌∷◌, [], map, ap, length, arith, length-append}
use Rattle.std.proofs.lemmas.Result.{err_from_is_err_and}
use Rattle.std.proofs.lemmas.List.{map_push}
use Rattle.cf_read.specs.Reading.{members_at, method_at, method_key}
use Rattle.cf_read.specs.Views.{key_at, method_of}
use Rattle.cf_read.proofs.SeenKeys.{numbers_before}
use Rattle.cf_read.proofs.InTurn.{members_begin, members_go, members_end, members_done}
use Rattle.cf_read.proofs.methods.read_all_methods.Goals as goal

pub returns-in_err-method : goal.returns-in_err-method
returns-in_err-method c =
    let p = err_from_is_err_and c.from_residual-in_err-method.result c.from_residual-in_err-method.ensures.1 in
    let pool = c.args.pool.now in
    rw (p.1, p.2) (members_end (method_at pool) (method_key pool) c.in_err-method.field-0.0 (map method_of c.loop.methods.items) c.args.count c.loop.counter (map (key_at pool) c.loop.members.keys.items) c.loop.rest.now (members_at (method_at pool) (method_key pool) c.args.count [] c.args.bytes.now) c.loop-test.true c.in_err-method.ensures c.loop.invariant.read)

pub loop-init : goal.loop-init
loop-init c =
    let pool = c.args.pool.now in
    let keys = c.in_ok-members.ensures.keys in
    record {
      read = members_begin (method_at pool) (method_key pool) (map method_of c.in_ok-methods.methods.items) c.args.count (map (key_at pool) c.in_ok-members.members.keys.items) c.args.bytes.now (ap (map method_of) c.in_ok-methods.ensures.items) (ap (map (key_at pool)) keys);
      seen = rw keys (c.in_ok-members.ensures.seen c.args.texts.now);
      many = ap length keys;
    }

pub method_at-requires : goal.method_at-requires
method_at-requires c = record {
  numbered = numbers_before c.args.pool.now c.args.texts.now c.loop.members.keys.items c.args.count c.loop.counter c.loop-test.true c.loop.invariant.many c.requires;
  seen = c.loop.invariant.seen;
}

pub loop-preserved : goal.loop-preserved
loop-preserved c =
    let pool = c.args.pool.now in
    let method = method_of c.in_ok-method.method in
    let keys : map (key_at pool) c.keep.new.members.keys.items ≡ map (key_at pool) c.loop.members.keys.items ++ method_key pool method ∷ [] = rw c.in_ok-keep.ensures.keys (map_push (key_at pool) c.loop.members.keys.items (method.name, method.descriptor)) in
    let more : map method_of c.push.new.self.items ≡ map method_of c.loop.methods.items ++ method ∷ [] = rw c.in_ok-push.ensures.items (map_push method_of c.loop.methods.items c.in_ok-method.method) in
    record {
      read = rw (keys, more) (members_go (method_at pool) (method_key pool) (map method_of c.loop.methods.items) c.args.count c.loop.counter (map (key_at pool) c.loop.members.keys.items) c.loop.rest.now c.in_ok-method.after.now method (members_at (method_at pool) (method_key pool) c.args.count [] c.args.bytes.now) c.loop-test.true c.in_ok-method.ensures c.loop.invariant.read);
      seen = c.in_ok-keep.ensures.seen c.loop.invariant.seen;
      many = rw c.in_ok-keep.ensures.keys (omega (arith, length-append c.loop.members.keys.items ((method.name, method.descriptor) ∷ []), c.loop.invariant.many));
    }

pub returns : goal.returns
returns c =
    let pool = c.args.pool.now in
    members_done (method_at pool) (method_key pool) (map method_of c.loop.methods.items) c.args.count c.loop.counter (map (key_at pool) c.loop.members.keys.items) c.loop.rest.now (members_at (method_at pool) (method_key pool) c.args.count [] c.args.bytes.now) c.loop-test.false c.loop.invariant.read
