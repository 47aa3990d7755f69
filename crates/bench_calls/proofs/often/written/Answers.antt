use Rattle.bench_calls.proofs.often.written.Goals as goal

pub write-requires : goal.write-requires
write-requires c = c.rewriting.ensures c.args.file.now c.requires.0 c.requires.1
