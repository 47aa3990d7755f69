use Rattle.std.proofs.Common.{◌≡◌, ◌⊎◌, inl, inr, ℕ, List, Bool, true, false, true≢false, refl, sym, ◌∙◌}
use Rattle.sl_text.specs.declared.span.Span.{Span}
use Rattle.sl_lexer.specs.declared.fault.LexKind.{LexKind}
use Rattle.sl_lexer.specs.declared.fault.LexKind.TheVariants.{Memory}
use Rattle.sl_lexer.specs.Lex.{Fault}
use Rattle.sl_source.specs.Source.{lexical}
use Rattle.sl_source.proofs.reading.refused.Goals as goal

real : (text : List ℕ) (k : LexKind) (s : Span) (b : Bool) → (k ≡ Memory) ⊎ Fault text k s → (k ≡ Memory → b ≡ true) → b ≡ false → Fault text k s
real text k s b (inl e) t f = absurd (true≢false (sym (t e) ∙ f))
real text k s b (inr x) t f = x

pub spot_at-requires : goal.spot_at-requires
spot_at-requires c =
    c.lexing.ensures.begins c.args.text.now c.args.fault.kind c.args.fault.span
    (real c.args.text.now c.args.fault.kind c.args.fault.span c.eq.result c.requires.found (λ e. c.eq.ensures ∙ rw e refl) c.if-eq.false)

pub returns : goal.returns
returns c = lexical (real c.args.text.now c.args.fault.kind c.args.fault.span c.eq.result c.requires.found (λ e. c.eq.ensures ∙ rw e refl) c.if-eq.false) c.spot_at.ensures
