use Rattle.std.proofs.Common.{refl, rules}
use Rattle.sl_io.proofs.Rising.{rose_at_fetch, rose_at_put, same_at_fetch, same_at_put, at_failed, at_memory}
use Rattle.sl_io.proofs.std_shelf.StdShelfShelf.TheImpl.Goals as goal

pub fetch-tells : goal.fetch-tells
fetch-tells g c = record {
  telling = refl;
  files = λ _. refl;
  counts = λ _. c.ensures.counts;
  bound = c.ensures.bound;
  bytes = λ told. search rules;
  missing = λ told. search rules;
  long = λ told. search rules;
  failed = rose_at_fetch c.result _ _ c.ensures.count;
  quiet = same_at_fetch c.result _ _ c.ensures.count;
}

pub put-tells : goal.put-tells
put-tells g c = record {
  telling = refl;
  counts = λ _. c.ensures.counts;
  done = λ told. search rules;
  failed = rose_at_put c.result _ _ c.ensures.count;
  others = at_failed c.result _ (λ _ _. refl);
  memory = at_memory c.result _ (λ _. refl);
  quiet = same_at_put c.result _ _ c.ensures.count;
}
