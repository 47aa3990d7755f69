use Rattle.std.proofs.Common.{◌<◌, ◌≤◌, length, arith}
use Rattle.sl_lexer.specs.Lex.{most}
use Rattle.sl_lexer.proofs.Steps.{token_read, too_many_here}
use Rattle.sl_lexer.proofs.front.take_token.Goals as goal

pub returns-then-count_of-ge-MOST_TOKENS-clause-err : goal.returns-then-count_of-ge-MOST_TOKENS-clause-err
returns-then-count_of-ge-MOST_TOKENS-clause-err c =
    let l : most ≤ length c.args.front.now.tokens.items = omega (arith, c.count_of.ensures, c.if-count_of-ge-MOST_TOKENS.true) in
    too_many_here c.args.chars.now c.args.front.now.tokens.items c.args.front.now.low c.args.front.now.at c.args.count c.args.kind c.span_at-span.result c.requires.read.read c.requires.here l c.span_at-span.ensures.from c.span_at-span.ensures.to

pub returns-in-Ok-clause-ok : goal.returns-in-Ok-clause-ok
returns-in-Ok-clause-ok c =
    let l : length c.args.front.now.tokens.items < most = omega (arith, c.count_of.ensures, c.if-count_of-ge-MOST_TOKENS.false) in
    record {
      read = token_read c.args.chars.now c.args.front.now.tokens.items c.push.new.tokens.items c.args.front.now.low c.is_low-low.result c.args.front.now.at c.args.count c.args.kind c.span_at-span.result c.requires.read.read c.requires.here l c.in-Ok.ensures c.span_at-span.ensures.from c.span_at-span.ensures.to c.is_low-low.ensures;
      within = c.requires.within;
    }
