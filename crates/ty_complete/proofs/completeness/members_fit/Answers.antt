use Rattle.ty_complete.proofs.completeness.members_fit.Goals as goal

pub returns : goal.returns
returns c = (
  λ fits. (
    c.names_fit.ensures.0 c.if-not-names_fit.false,
    c.parameters_fit.ensures.0 c.if-not-parameters_fit.false,
    c.only_classes_have_parameters.ensures.0 c.if-not-only_classes_have_parameters.false,
    c.methods_fit_any_ref.ensures.0 c.if-not-methods_fit_any_ref.false,
    c.members_differ.ensures.0 fits,
  ),
  λ parts. c.members_differ.ensures.1 parts.4,
)
