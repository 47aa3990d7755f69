use Rattle.std.proofs.Common.{◌≡◌, ◌++◌, ◌∷◌, [], map, ap, length, arith, length-append}
use Rattle.std.proofs.lemmas.Result.{err_from_is_err_and}
use Rattle.std.proofs.lemmas.List.{map_push}
use Rattle.cf_read.specs.Reading.{members_at, field_at, field_key}
use Rattle.cf_read.specs.Views.{key_at}
use Rattle.cf_read.proofs.SeenKeys.{numbers_before}
use Rattle.cf_read.proofs.InTurn.{members_begin, members_go, members_end, members_done}
use Rattle.cf_read.proofs.members.read_all_fields.Goals as goal

pub returns-in_err-field : goal.returns-in_err-field
returns-in_err-field c =
    let p = err_from_is_err_and c.from_residual-in_err-field.result c.from_residual-in_err-field.ensures.1 in
    let pool = c.args.pool.now in
    rw (p.1, p.2) (members_end (field_at pool) (field_key pool) c.in_err-field.field-0.0 c.loop.fields.items c.args.count c.loop.counter (map (key_at pool) c.loop.members.keys.items) c.loop.rest.now (members_at (field_at pool) (field_key pool) c.args.count [] c.args.bytes.now) c.loop-test.true c.in_err-field.ensures c.loop.invariant.read)

pub loop-init : goal.loop-init
loop-init c =
    let pool = c.args.pool.now in
    let keys = c.in_ok-members.ensures.keys in
    record {
      read = members_begin (field_at pool) (field_key pool) c.in_ok-fields.fields.items c.args.count (map (key_at pool) c.in_ok-members.members.keys.items) c.args.bytes.now c.in_ok-fields.ensures.items (ap (map (key_at pool)) keys);
      seen = rw keys (c.in_ok-members.ensures.seen c.args.texts.now);
      many = ap length keys;
    }

pub field_at-requires : goal.field_at-requires
field_at-requires c = record {
  numbered = numbers_before c.args.pool.now c.args.texts.now c.loop.members.keys.items c.args.count c.loop.counter c.loop-test.true c.loop.invariant.many c.requires;
  seen = c.loop.invariant.seen;
}

pub loop-preserved : goal.loop-preserved
loop-preserved c =
    let pool = c.args.pool.now in
    let field = c.in_ok-field.field in
    let keys : map (key_at pool) c.keep.new.members.keys.items ≡ map (key_at pool) c.loop.members.keys.items ++ field_key pool field ∷ [] = rw c.in_ok-keep.ensures.keys (map_push (key_at pool) c.loop.members.keys.items (field.name, field.descriptor)) in
    record {
      read = rw (keys, c.in_ok-push.ensures.items) (members_go (field_at pool) (field_key pool) c.loop.fields.items c.args.count c.loop.counter (map (key_at pool) c.loop.members.keys.items) c.loop.rest.now c.in_ok-field.after.now field (members_at (field_at pool) (field_key pool) c.args.count [] c.args.bytes.now) c.loop-test.true c.in_ok-field.ensures c.loop.invariant.read);
      seen = c.in_ok-keep.ensures.seen c.loop.invariant.seen;
      many = rw c.in_ok-keep.ensures.keys (omega (arith, length-append c.loop.members.keys.items ((field.name, field.descriptor) ∷ []), c.loop.invariant.many));
    }

pub returns : goal.returns
returns c =
    let pool = c.args.pool.now in
    members_done (field_at pool) (field_key pool) c.loop.fields.items c.args.count c.loop.counter (map (key_at pool) c.loop.members.keys.items) c.loop.rest.now (members_at (field_at pool) (field_key pool) c.args.count [] c.args.bytes.now) c.loop-test.false c.loop.invariant.read
