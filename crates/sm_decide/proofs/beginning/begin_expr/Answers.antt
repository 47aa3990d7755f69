use Rattle.std.proofs.Common.{◌≡◌, [], map, sym, ap, subst, ◌∙◌}
use Rattle.std.specs.Prelude.{IfOk}
use Rattle.ty_prog.specs.Shape.{to_one}
use Rattle.ty_prog.specs.declared.expr.Expr.TheVariants as expr
use Rattle.ty_prog.specs.declared.catch.Catch.TheOpen.{Expr-F}
use Rattle.sm_rule.specs.Moves.{first_or, making}
use Rattle.sm_rule.specs.Step.{sight}
use Rattle.sm_rule.specs.declared.moves.Move.TheVariants as move
use Rattle.sm_rule.specs.declared.act.Act.TheVariants as act
use Rattle.sm_decide.proofs.Levels.{begun_of, prim_level, new_level, println_level, printing_of, super_call_level, static_call_level, object_get_level, module_get_level}
use Rattle.sm_decide.proofs.beginning.begin_expr.Goals as goal

pub returns-in-Prim : goal.returns-in-Prim
returns-in-Prim c =
    c.first_or-in-Prim.ensures
    ∙ ap (λ xs. first_or (map to_one xs) c.lone.result) c.as_slice-in-Prim.ensures
    ∙ ap (first_or (map to_one c.in-Prim.args)) c.lone.ensures
    ∙ sym (begun_of (sight c.args.c.now) c.args.e.now (expr.Prim c.in-Prim.op c.in-Prim.args) (Expr-F.Prim c.in-Prim.op c.in-Prim.args) c.in-Prim.is (prim_level c.in-Prim.op c.in-Prim.args))

pub returns-in-New : goal.returns-in-New
returns-in-New c =
    c.making.ensures
    ∙ ap (λ xs. making c.in-New.class (map to_one xs)) c.as_slice-in-New.ensures
    ∙ sym (begun_of (sight c.args.c.now) c.args.e.now (expr.New c.in-New.class c.in-New.args) (Expr-F.New c.in-New.class c.in-New.args) c.in-New.is (new_level c.in-New.class c.in-New.args))

pub returns-in-Println : goal.returns-in-Println
returns-in-Println c =
    subst (λ target. IfOk c.printing.result (λ m. m ≡ target))
    (sym (begun_of (sight c.args.c.now) c.args.e.now (expr.Println c.in-Println.e) (Expr-F.Println c.in-Println.e) c.in-Println.is (println_level c.in-Println.e)
    ∙ printing_of (sight c.args.c.now) c.in-Println.e))
    c.printing.ensures

pub returns-in_ok-alone-in-SuperCall : goal.returns-in_ok-alone-in-SuperCall
returns-in_ok-alone-in-SuperCall c =
    c.first_or-in-SuperCall.ensures
    ∙ ap (λ xs. first_or (map to_one xs) c.in_ok-alone-in-SuperCall.alone) c.as_slice-in-SuperCall.ensures
    ∙ ap (first_or (map to_one c.in-SuperCall.args)) c.in_ok-alone-in-SuperCall.ensures
    ∙ sym (begun_of (sight c.args.c.now) c.args.e.now (expr.SuperCall c.in-SuperCall.after c.in-SuperCall.name c.in-SuperCall.args) (Expr-F.SuperCall c.in-SuperCall.after c.in-SuperCall.name c.in-SuperCall.args) c.in-SuperCall.is (super_call_level c.in-SuperCall.after c.in-SuperCall.name c.in-SuperCall.args))

pub returns-in-StaticCall : goal.returns-in-StaticCall
returns-in-StaticCall c =
    c.first_or-in-StaticCall.ensures
    ∙ ap (λ xs. first_or (map to_one xs) (move.Do (act.CallDirectly c.in-StaticCall.class c.in-StaticCall.method c.new.result))) c.as_slice-in-StaticCall.ensures
    ∙ ap (λ l. first_or (map to_one c.in-StaticCall.args) (move.Do (act.CallDirectly c.in-StaticCall.class c.in-StaticCall.method l))) c.new.ensures
    ∙ sym (begun_of (sight c.args.c.now) c.args.e.now (expr.StaticCall c.in-StaticCall.class c.in-StaticCall.method c.in-StaticCall.args) (Expr-F.StaticCall c.in-StaticCall.class c.in-StaticCall.method c.in-StaticCall.args) c.in-StaticCall.is (static_call_level c.in-StaticCall.class c.in-StaticCall.method c.in-StaticCall.args))

pub returns-in-ObjectGet : goal.returns-in-ObjectGet
returns-in-ObjectGet c = sym (begun_of (sight c.args.c.now) c.args.e.now (expr.ObjectGet c.in-ObjectGet.class) (Expr-F.ObjectGet c.in-ObjectGet.class) c.in-ObjectGet.is (object_get_level c.in-ObjectGet.class))

pub returns-in-ModuleGet : goal.returns-in-ModuleGet
returns-in-ModuleGet c = sym (begun_of (sight c.args.c.now) c.args.e.now (expr.ModuleGet c.in-ModuleGet.class) (Expr-F.ModuleGet c.in-ModuleGet.class) c.in-ModuleGet.is (module_get_level c.in-ModuleGet.class))
