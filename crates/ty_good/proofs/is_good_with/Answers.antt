use Rattle.std.proofs.lemmas.Result.{IfOk-weaker}
use Rattle.ty_good.proofs.is_good_with.Goals as goal

pub returns : goal.returns
returns c =
    IfOk-weaker c.traits_fit.result _ _
    (λ answer told. (
      λ fits.
          let traits = told.0 fits in
          let members = c.in_ok-members_fit.ensures.0 c.if-not-branch-3.false in
          let lazies = c.in_ok-lazy_members_fit.ensures.0 c.if-not-branch-4.false in
          let accesses = c.in_ok-accesses_fit.ensures.0 c.if-not-branch-5.false in
          record {
            numbers = c.numbers_in_range.ensures.0 c.if-not-numbers_in_range.false;
            typed = c.in_ok-is_typed_with.ensures.0 c.if-not-branch.false;
            complete = c.in_ok-is_complete.ensures.0 c.if-not-branch-2.false;
            forms = c.has_forms.ensures.0 c.if-not-has_forms.false;
            names = members.0;
            mixins = traits.0;
            supers = traits.1;
            room = c.traits_have_room.ensures.0 c.if-not-traits_have_room.false;
            traits = traits.2;
            modules = members.1;
            lazy_gets = lazies.0;
            cells = lazies.1;
            lazy_members = lazies.2;
            trait_fields = accesses.0;
            accessors = accesses.1;
            selection = members.2;
          },
      λ all. told.1 (all.mixins, all.supers, all.traits),
    ))
    c.traits_fit.ensures
