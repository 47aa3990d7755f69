use Rattle.std.proofs.Common.{rules, ◌≡◌, ◌∙◌, sym, ap, ◌++◌, ℕ, Bool, true, false, [], ◌∷◌, ◌&&◌}
use Rattle.ty_linear.specs.Linear.{is_in}
use Rattle.cf_link.specs.Classes.{is_interface, line_of}
use Rattle.cf_link.proofs.Numbering.{filter_in, filter_out}
use Rattle.cf_link.proofs.tables.interfaces_of.Goals as goal
use Rattle.cf_link.proofs.tables.interfaces_of.Goals.{then-is_above+in_ok-push, else-is_above}

pub loop-i-preserved : goal.loop-i-preserved
loop-i-preserved c =
    let classes = c.args.classes.now in
    let test : ℕ → Bool = λ i. is_interface classes i && is_in (line_of classes c.args.class) i in
    elim c.if-is_above.branch [
      | then-is_above+in_ok-push w ↦
          let is : test c.loop-i.i ≡ true = search rules in
          let pushed : c.if-is_above.interfaces ≡ c.loop-i.interfaces ++ c.loop-i.i ∷ [] = search rules in
          pushed ∙ ap (λ xs. xs ++ c.loop-i.i ∷ []) c.loop-i.invariant ∙ sym (filter_in test c.loop-i.i is)
      | else-is_above w ↦
          let is : test c.loop-i.i ≡ false = search rules in
          let kept : c.if-is_above.interfaces ≡ c.loop-i.interfaces = search rules in
          kept ∙ c.loop-i.invariant ∙ sym (filter_out test c.loop-i.i is)
    ]
