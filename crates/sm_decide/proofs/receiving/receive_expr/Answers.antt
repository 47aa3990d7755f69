use Rattle.std.proofs.Common.{◌≡◌, ◌∙◌, sym, subst}
use Rattle.std.specs.Prelude.{IfOk}
use Rattle.ty_prog.specs.declared.expr.Expr.TheVariants as expr
use Rattle.sm_decide.proofs.Received.{received_of, try_received_of}
use Rattle.sm_decide.proofs.receiving.receive_expr.Goals as goal

pub returns-in-SetLocal : goal.returns-in-SetLocal
returns-in-SetLocal c =
    subst (λ target. IfOk c.store.result (λ m. m ≡ target))
    (sym (received_of c.args.this.now c.args.child c.args.v.now c.args.operands.now c.args.e.now _ _ c.in-SetLocal.is (expr.rolls-SetLocal _ _)))
    c.store.ensures

pub returns-in-Get : goal.returns-in-Get
returns-in-Get c =
    subst (λ target. IfOk c.get.result (λ m. m ≡ target))
    (sym (received_of c.args.this.now c.args.child c.args.v.now c.args.operands.now c.args.e.now _ _ c.in-Get.is (expr.rolls-Get _ _ _)))
    c.get.ensures

pub returns-in-Put : goal.returns-in-Put
returns-in-Put c =
    subst (λ target. IfOk c.receive_put.result (λ m. m ≡ target))
    (sym (received_of c.args.this.now c.args.child c.args.v.now c.args.operands.now c.args.e.now _ _ c.in-Put.is (expr.rolls-Put _ _ _ _)))
    c.receive_put.ensures

pub returns-in-Call : goal.returns-in-Call
returns-in-Call c =
    subst (λ target. IfOk c.receive_call.result (λ m. m ≡ target))
    (sym (received_of c.args.this.now c.args.child c.args.v.now c.args.operands.now c.args.e.now _ _ c.in-Call.is (expr.rolls-Call _ _ _ _)))
    c.receive_call.ensures

pub returns-in-Prim : goal.returns-in-Prim
returns-in-Prim c =
    subst (λ target. IfOk c.receive_prim.result (λ m. m ≡ target))
    (sym (received_of c.args.this.now c.args.child c.args.v.now c.args.operands.now c.args.e.now _ _ c.in-Prim.is (expr.rolls-Prim _ _)))
    c.receive_prim.ensures

pub returns-in-Convert : goal.returns-in-Convert
returns-in-Convert c =
    subst (λ target. IfOk c.convert.result (λ m. m ≡ target))
    (sym (received_of c.args.this.now c.args.child c.args.v.now c.args.operands.now c.args.e.now _ _ c.in-Convert.is (expr.rolls-Convert _ _)))
    c.convert.ensures

pub returns-in-Equal : goal.returns-in-Equal
returns-in-Equal c =
    subst (λ target. IfOk c.receive_equal.result (λ m. m ≡ target))
    (sym (received_of c.args.this.now c.args.child c.args.v.now c.args.operands.now c.args.e.now _ _ c.in-Equal.is (expr.rolls-Equal _ _)))
    c.receive_equal.ensures

pub returns-in-TextOf : goal.returns-in-TextOf
returns-in-TextOf c =
    subst (λ target. IfOk c.receive_text.result (λ m. m ≡ target))
    (sym (received_of c.args.this.now c.args.child c.args.v.now c.args.operands.now c.args.e.now _ _ c.in-TextOf.is (expr.rolls-TextOf _)))
    c.receive_text.ensures

pub returns-in-Println : goal.returns-in-Println
returns-in-Println c =
    subst (λ target. IfOk c.receive_println.result (λ m. m ≡ target))
    (sym (received_of c.args.this.now c.args.child c.args.v.now c.args.operands.now c.args.e.now _ _ c.in-Println.is (expr.rolls-Println _)))
    c.receive_println.ensures

pub returns-in-If : goal.returns-in-If
returns-in-If c =
    subst (λ target. IfOk c.receive_if.result (λ m. m ≡ target))
    (sym (received_of c.args.this.now c.args.child c.args.v.now c.args.operands.now c.args.e.now _ _ c.in-If.is (expr.rolls-If _ _ _)))
    c.receive_if.ensures

pub returns-in-While : goal.returns-in-While
returns-in-While c =
    subst (λ target. IfOk c.receive_while.result (λ m. m ≡ target))
    (sym (received_of c.args.this.now c.args.child c.args.v.now c.args.operands.now c.args.e.now _ _ c.in-While.is (expr.rolls-While _ _)))
    c.receive_while.ensures

pub returns-in-Block : goal.returns-in-Block
returns-in-Block c =
    subst (λ target. IfOk c.receive_block.result (λ m. m ≡ target))
    (sym (received_of c.args.this.now c.args.child c.args.v.now c.args.operands.now c.args.e.now _ _ c.in-Block.is (expr.rolls-Block _)))
    c.receive_block.ensures

pub returns-in-Try : goal.returns-in-Try
returns-in-Try c =
    subst (λ target. IfOk c.receive_try.result (λ m. m ≡ target))
    (sym
    (received_of c.args.this.now c.args.child c.args.v.now c.args.operands.now c.args.e.now _ _ c.in-Try.is (expr.rolls-Try _ _ _)
    ∙ try_received_of c.args.this.now c.args.child c.args.v.now c.args.operands.now c.in-Try.body c.in-Try.handler c.in-Try.last))
    c.receive_try.ensures

pub returns-in-Throw : goal.returns-in-Throw
returns-in-Throw c =
    subst (λ target. IfOk c.receive_throw.result (λ m. m ≡ target))
    (sym (received_of c.args.this.now c.args.child c.args.v.now c.args.operands.now c.args.e.now _ _ c.in-Throw.is (expr.rolls-Throw _)))
    c.receive_throw.ensures

pub returns-in-Start : goal.returns-in-Start
returns-in-Start c =
    subst (λ target. IfOk c.start.result (λ m. m ≡ target))
    (sym (received_of c.args.this.now c.args.child c.args.v.now c.args.operands.now c.args.e.now _ _ c.in-Start.is (expr.rolls-Start _)))
    c.start.ensures

pub returns-in-Match : goal.returns-in-Match
returns-in-Match c =
    subst (λ target. IfOk c.receive_match.result (λ m. m ≡ target))
    (sym (received_of c.args.this.now c.args.child c.args.v.now c.args.operands.now c.args.e.now _ _ c.in-Match.is (expr.rolls-Match _ _)))
    c.receive_match.ensures

pub returns-in-LazyGet : goal.returns-in-LazyGet
returns-in-LazyGet c =
    subst (λ target. IfOk c.lazy_get.result (λ m. m ≡ target))
    (sym (received_of c.args.this.now c.args.child c.args.v.now c.args.operands.now c.args.e.now _ _ c.in-LazyGet.is (expr.rolls-LazyGet _ _ _)))
    c.lazy_get.ensures

pub returns-in-SuperCall : goal.returns-in-SuperCall
returns-in-SuperCall c =
    subst (λ target. IfOk c.receive_super.result (λ m. m ≡ target))
    (sym (received_of c.args.this.now c.args.child c.args.v.now c.args.operands.now c.args.e.now _ _ c.in-SuperCall.is (expr.rolls-SuperCall _ _ _)))
    c.receive_super.ensures

pub returns-in-Test : goal.returns-in-Test
returns-in-Test c =
    subst (λ target. IfOk c.test_value.result (λ m. m ≡ target))
    (sym (received_of c.args.this.now c.args.child c.args.v.now c.args.operands.now c.args.e.now _ _ c.in-Test.is (expr.rolls-Test _ _)))
    c.test_value.ensures

pub returns-in-Cas : goal.returns-in-Cas
returns-in-Cas c =
    subst (λ target. IfOk c.receive_cas.result (λ m. m ≡ target))
    (sym (received_of c.args.this.now c.args.child c.args.v.now c.args.operands.now c.args.e.now _ _ c.in-Cas.is (expr.rolls-Cas _ _ _ _ _)))
    c.receive_cas.ensures

pub returns-in-NewLatch : goal.returns-in-NewLatch
returns-in-NewLatch c =
    subst (λ target. IfOk c.make_latch.result (λ m. m ≡ target))
    (sym (received_of c.args.this.now c.args.child c.args.v.now c.args.operands.now c.args.e.now _ _ c.in-NewLatch.is (expr.rolls-NewLatch _)))
    c.make_latch.ensures

pub returns-in-OwnedHere : goal.returns-in-OwnedHere
returns-in-OwnedHere c =
    subst (λ target. IfOk c.is_mine.result (λ m. m ≡ target))
    (sym (received_of c.args.this.now c.args.child c.args.v.now c.args.operands.now c.args.e.now _ _ c.in-OwnedHere.is (expr.rolls-OwnedHere _)))
    c.is_mine.ensures

pub returns-in-Await : goal.returns-in-Await
returns-in-Await c =
    subst (λ target. IfOk c.await_latch.result (λ m. m ≡ target))
    (sym (received_of c.args.this.now c.args.child c.args.v.now c.args.operands.now c.args.e.now _ _ c.in-Await.is (expr.rolls-Await _)))
    c.await_latch.ensures

pub returns-in-CountDown : goal.returns-in-CountDown
returns-in-CountDown c =
    subst (λ target. IfOk c.count_down.result (λ m. m ≡ target))
    (sym (received_of c.args.this.now c.args.child c.args.v.now c.args.operands.now c.args.e.now _ _ c.in-CountDown.is (expr.rolls-CountDown _)))
    c.count_down.ensures

pub returns-in-StaticCall : goal.returns-in-StaticCall
returns-in-StaticCall c =
    subst (λ target. IfOk c.receive_static.result (λ m. m ≡ target))
    (sym (received_of c.args.this.now c.args.child c.args.v.now c.args.operands.now c.args.e.now _ _ c.in-StaticCall.is (expr.rolls-StaticCall _ _ _)))
    c.receive_static.ensures

pub returns-in-SetModule : goal.returns-in-SetModule
returns-in-SetModule c =
    subst (λ target. IfOk c.set_module.result (λ m. m ≡ target))
    (sym (received_of c.args.this.now c.args.child c.args.v.now c.args.operands.now c.args.e.now _ _ c.in-SetModule.is (expr.rolls-SetModule _ _)))
    c.set_module.ensures

pub returns-in-New : goal.returns-in-New
returns-in-New c =
    subst (λ target. IfOk c.receive_new.result (λ m. m ≡ target))
    (sym (received_of c.args.this.now c.args.child c.args.v.now c.args.operands.now c.args.e.now _ _ c.in-New.is (expr.rolls-New _ _)))
    c.receive_new.ensures
