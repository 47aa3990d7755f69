use Rattle.std.proofs.Common.{sym, subst, Option}
use Rattle.std.specs.Prelude.{IsTrue, ◌↔◌}
use Rattle.ty_prog.specs.declared.expr.Expr.{Expr}
use Rattle.ty_typed.specs.Bodies.{Gives, SomeBodyTyped, this_of}
use Rattle.ty_typed.proofs.typing.method_typed.Goals as goal

pub returns-in-Some : goal.returns-in-Some
returns-in-Some c =
    let method = c.args.method.now in
    let told : IsTrue c.gives.result ↔ Gives c.args.p.now (this_of c.args.class method) method.params method.locals c.args.locals.now c.in-Some.body method.result =
    rw (c.this_of.ensures, c.as_slice.ensures) at c.gives.ensures in
    let P : Option Expr → Type 0 = λ body. IsTrue c.gives.result ↔ SomeBodyTyped c.args.p.now c.args.class method c.args.locals.now body in
    subst P (sym c.in-Some.is) told
