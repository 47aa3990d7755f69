use Rattle.std.proofs.Common.{◌≡◌, ◌⊎◌, inl, inr, List, Bool, true, false, true≢false, refl, sym, ◌∙◌, length}
use Rattle.sl_ast.specs.declared.token.Token.{Token}
use Rattle.sl_parse_tmpl.specs.declared.fault.ParseFault.{ParseFault}
use Rattle.sl_parse_tmpl.specs.declared.fault.ParseKind.TheVariants.{Memory}
use Rattle.sl_source.specs.Source.{IsParseFault, syntactic}
use Rattle.sl_source.proofs.trees.refused.Goals as goal

real : (tokens : List Token) (fault : ParseFault) (b : Bool) → (fault.kind ≡ Memory) ⊎ IsParseFault tokens fault → (fault.kind ≡ Memory → b ≡ true) → b ≡ false → IsParseFault tokens fault
real tokens fault b (inl e) t f = absurd (true≢false (sym (t e) ∙ f))
real tokens fault b (inr x) t f = x

pub spot_at-requires : goal.spot_at-requires
spot_at-requires c =
    let tokens = c.requires.tokens in
    let read = c.lexing.ensures.within c.args.text.now tokens.read tokens.lexed in
    let all = c.separated.ensures.within c.args.text.now tokens.read c.args.tokens.now (length c.args.text.now) tokens.separated read in
    c.refusals.ensures.within c.args.tokens.now c.args.fault (length c.args.text.now)
    (real c.args.tokens.now c.args.fault c.eq.result c.requires.found (λ e. c.eq.ensures ∙ rw e refl) c.if-eq.false) all

pub returns : goal.returns
returns c = syntactic c.args.tokens.now c.requires.tokens (real c.args.tokens.now c.args.fault c.eq.result c.requires.found (λ e. c.eq.ensures ∙ rw e refl) c.if-eq.false) c.spot_at.ensures
