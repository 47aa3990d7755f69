use Rattle.ty_complete.proofs.is_complete.Goals as goal

pub returns : goal.returns
returns c = (
  λ fits.
      let members = c.members_fit.ensures.0 c.if-not-members_fit.false in
      let parents = c.parents_are_right.ensures.0 c.if-not-parents_are_right.false in
      let names = c.in_ok-names_are_right.ensures.0 c.if-not-branch.false in
      let classes = c.in_ok-classes_fit.ensures.0 c.if-not-branch-2.false in
      let nodes = c.nodes_fit.ensures.0 fits in
      record {
        begins = names.0;
        files = names.2;
        names = members.0;
        words = names.1;
        texts = nodes.0;
        parameters = members.1;
        only_classes = members.2;
        types = names.3;
        any_ref = members.3;
        members = members.4;
        linearisations = classes.0;
        parents_differ = parents.0;
        parents = parents.1;
        no_objects = parents.2;
        no_threads = parents.3;
        concrete = nodes.1;
        closed = nodes.2;
        agree = classes.2;
        found = classes.3;
        set = nodes.3;
        main = classes.1;
      },
  λ all. c.nodes_fit.ensures.1 (all.texts, all.concrete, all.closed, all.set),
)
