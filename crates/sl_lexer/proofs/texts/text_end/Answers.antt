use Rattle.std.proofs.Common.{◌≡◌, ◌<◌, ◌+◌, ◌-◌, length, drop, sym, ap, ◌∙◌, arith, length-drop}
use Rattle.sl_lexer.specs.TextLiteral.{part_of}
use Rattle.sl_lexer.specs.declared.texts.Part.TheVariants as p
use Rattle.sl_lexer.proofs.Parts.{part_size, close_size, started, more, at_close, at_wrong, at_open}
use Rattle.sl_lexer.proofs.texts.text_end.Goals as goal

pub overflow_add-at : goal.overflow_add-at
overflow_add-at c =
    let here : part_of (drop c.part.at c.args.left.now) ≡ p.Char c.in-Char.c c.in-Char.count = ap part_of (sym c.behind.ensures.value) ∙ sym c.in-Char.ensures in
    let s = part_size (drop c.part.at c.args.left.now) c.in-Char.c c.in-Char.count here in
    omega (arith, s, c.part.invariant.within, length-drop c.part.at c.args.left.now, c.requires)

pub part-init : goal.part-init
part-init c = rw c.new-letters.ensures (record { within = omega arith; so_far = started c.args.left.now })

pub part-smaller : goal.part-smaller
part-smaller c =
    let here : part_of (drop c.part.at c.args.left.now) ≡ p.Char c.in-Char.c c.in-Char.count = ap part_of (sym c.behind.ensures.value) ∙ sym c.in-Char.ensures in
    let s = part_size (drop c.part.at c.args.left.now) c.in-Char.c c.in-Char.count here in
    let l : length c.args.left.now - (c.part.at + c.in-Char.count) < length c.args.left.now - c.part.at = omega (arith, s, c.part.invariant.within, length-drop c.part.at c.args.left.now) in
    l

pub part-preserved : goal.part-preserved
part-preserved c =
    let here : part_of (drop c.part.at c.args.left.now) ≡ p.Char c.in-Char.c c.in-Char.count = ap part_of (sym c.behind.ensures.value) ∙ sym c.in-Char.ensures in
    let s = part_size (drop c.part.at c.args.left.now) c.in-Char.c c.in-Char.count here in
    rw c.in_ok-push-in-Char.ensures (record {
      within = omega (arith, s, c.part.invariant.within, length-drop c.part.at c.args.left.now);
      so_far = more c.args.left.now c.part.letters c.part.at c.in-Char.c c.in-Char.count c.part.invariant.so_far here;
    })

pub returns-in-Close-clause-value : goal.returns-in-Close-clause-value
returns-in-Close-clause-value c = rw c.into_name.ensures (at_close c.args.left.now c.part.letters c.part.at c.part.invariant.so_far (ap part_of (sym c.behind.ensures.value) ∙ sym c.in-Close.ensures))

pub returns-in-Wrong-clause-value : goal.returns-in-Wrong-clause-value
returns-in-Wrong-clause-value c = at_wrong c.args.left.now c.part.letters c.part.at c.part.invariant.so_far (ap part_of (sym c.behind.ensures.value) ∙ sym c.in-Wrong.ensures)

pub returns-in-End-clause-value : goal.returns-in-End-clause-value
returns-in-End-clause-value c = at_open c.args.left.now c.part.letters c.part.at c.part.invariant.so_far (ap part_of (sym c.behind.ensures.value) ∙ sym c.in-End.ensures)

pub returns-in-Close-clause-within : goal.returns-in-Close-clause-within
returns-in-Close-clause-within c =
    let here : part_of (drop c.part.at c.args.left.now) ≡ p.Close = ap part_of (sym c.behind.ensures.value) ∙ sym c.in-Close.ensures in
    let s = close_size (drop c.part.at c.args.left.now) here in
    omega (arith, s, c.part.invariant.within, length-drop c.part.at c.args.left.now)
