use Rattle.std.proofs.Common.{◌≡◌, ◌∙◌, sym, subst, ℕ, Vec, [], length, get_or, arith}
use Rattle.std.specs.declared.alloc.Global.{Global}
use Rattle.std.specs.List.{All}
use Rattle.std.proofs.lemmas.List.{length-map}
use Rattle.std.proofs.lemmas.List.Elements.{All-contains}
use Rattle.std.proofs.lemmas.Result.{err_from_is_err_and}
use Rattle.ty_linear.specs.Linear.{rows, IsLinearisation, IsAcyclic}
use Rattle.ty_linear.proofs.Members.{Contains-from_In}
use Rattle.ty_linear.proofs.Merges.{linear_acyclic}
use Rattle.ty_linear.proofs.Within.{Within-rows, ancestor_within}
use Rattle.ty_linear.proofs.Whole.{whole_has, acyclic_whole}
use Rattle.ty_linear.proofs.linearise.Goals as goal

pub returns-in_err-order-clause-cyclic : goal.returns-in_err-order-clause-cyclic
returns-in_err-order-clause-cyclic c = let p = err_from_is_err_and c.from_residual.result c.from_residual.ensures.1 in rw (p.1, p.2) tt

pub returns-in_err-lists_of-clause-cyclic : goal.returns-in_err-lists_of-clause-cyclic
returns-in_err-lists_of-clause-cyclic c =
    let p = err_from_is_err_and c.from_residual-in_err-lists_of.result c.from_residual-in_err-lists_of.ensures.1 in rw (p.1, p.2) tt

pub returns-in_err-class-clause-cyclic : goal.returns-in_err-class-clause-cyclic
returns-in_err-class-clause-cyclic c =
    let p = err_from_is_err_and c.from_residual-in_err-class.result c.from_residual-in_err-class.ensures.1 in rw (p.1, p.2) tt

pub returns-then-len-parents-clause-ok : goal.returns-then-len-parents-clause-ok
returns-then-len-parents-clause-ok c =
    let parents = rows c.args.parents.now in
    let lists = rows c.in_ok-lists_of.field-0.items in
    let count : length parents ≡ length c.args.parents.now = length-map c.args.parents.now (λ (r : Vec ℕ Global). r.items) in
    let long : length lists ≡ length c.in_ok-lists_of.field-0.items = length-map c.in_ok-lists_of.field-0.items (λ (r : Vec ℕ Global). r.items) in
    let order = c.in_ok-order.order.items in
    let each = c.in_ok-lists_of.ensures.each in
    record {
      count = long ∙ c.in_ok-lists_of.ensures.count ∙ sym count;
      each = λ class h.
          let has = Contains-from_In order class (whole_has parents order c.in_ok-order.ensures.order c.in_ok-order.ensures.distinct (omega (arith, count)) class h) in
          let all = subst (All (λ (x : ℕ). IsLinearisation parents x (get_or lists x []))) c.deref.ensures.value each in
          All-contains (λ (x : ℕ). IsLinearisation parents x (get_or lists x [])) order class all has;
    }

pub returns-then-len-parents-clause-acyclic : goal.returns-then-len-parents-clause-acyclic
returns-then-len-parents-clause-acyclic c = λ class a.
    let parents = rows c.args.parents.now in
    let lists = rows c.in_ok-lists_of.field-0.items in
    let count : length parents ≡ length c.args.parents.now = length-map c.args.parents.now (λ (r : Vec ℕ Global). r.items) in
    let order = c.in_ok-order.order.items in
    let low = ancestor_within parents (Within-rows c.args.parents.now c.requires) class class a in
    let has = Contains-from_In order class (whole_has parents order c.in_ok-order.ensures.order c.in_ok-order.ensures.distinct (omega (arith, count)) class low) in
    let all = subst (All (λ (x : ℕ). IsLinearisation parents x (get_or lists x []))) c.deref.ensures.value c.in_ok-lists_of.ensures.each in
    linear_acyclic parents class (get_or lists class []) (All-contains (λ (x : ℕ). IsLinearisation parents x (get_or lists x [])) order class all has) a

pub unreachable-requires : goal.unreachable-requires
unreachable-requires c =
    let parents = rows c.args.parents.now in
    let count : length parents ≡ length c.args.parents.now = length-map c.args.parents.now (λ (r : Vec ℕ Global). r.items) in
    let acyclic : IsAcyclic parents = rw c.in-None.is at c.in_ok-class.ensures in
    let same = acyclic_whole parents (Within-rows c.args.parents.now c.requires) c.in_ok-order.order.items c.in_ok-order.ensures.order c.in_ok-order.ensures.distinct
    c.in_ok-order.ensures.left acyclic in
    absurd (omega (arith, same, count))
