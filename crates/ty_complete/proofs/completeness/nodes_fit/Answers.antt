use Rattle.ty_complete.proofs.completeness.nodes_fit.Goals as goal

pub returns : goal.returns
returns c = (
  λ fits. (
    c.texts_fit.ensures.0 c.if-not-texts_fit.false,
    c.new_is_concrete.ensures.0 c.if-not-new_is_concrete.false,
    c.prelude_is_closed.ensures.0 c.if-not-prelude_is_closed.false,
    c.locals_are_set_first.ensures.0 fits,
  ),
  λ parts. c.locals_are_set_first.ensures.1 parts.3,
)
