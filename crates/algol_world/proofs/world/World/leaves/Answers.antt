use Rattle.std.proofs.Common.{◌≡◌, [], ◌∷◌, ap, sym, ◌∙◌}
use Rattle.b67_num.specs.declared.FaultKind.TheVariants as fault
use Rattle.algol_meaning.specs.Instances.{leave}
use Rattle.algol_cells.specs.SeenScope.{scoped}
use Rattle.algol_rest_expr.specs.SeenExpression.{rest_answered}
use Rattle.algol_world.specs.SeenWorld.{world_of}
use Rattle.algol_world.specs.SeenActed.{acted_choice}
use Rattle.algol_world.specs.Leaving.{leaving_with, failing}
use Rattle.algol_world.specs.declared.acted.Acted.{Acted}
use Rattle.algol_world.proofs.Exits.{leaves_none, leaves_evaluation, leaves_critical, leaves_last, leaves_further}
use Rattle.algol_world.proofs.world.World.leaves.Goals as goal

pub returns-in-None-clause-left : goal.returns-in-None-clause-left
returns-in-None-clause-left c =
    let w = world_of c.args.self.now in
    ap (λ (x : Acted). acted_choice x w) c.alone.ensures
    ∙ leaves_none (scoped c.args.self.now.scopes) w c.args.number (rest_answered c.args.answer) c.in-None.ensures

pub returns-in_ok-end_part-in-Some-clause-left : goal.returns-in_ok-end_part-in-Some-clause-left
returns-in_ok-end_part-in-Some-clause-left c =
    let sc = scoped c.args.self.now.scopes in
    let w = world_of c.args.self.now in
    let a = rest_answered c.args.answer in
    ap (acted_choice c.alone-then-part.result) c.in_ok-end_part-in-Some.ensures.went
    ∙ ap (λ (x : Acted). acted_choice x (leaving_with sc w c.args.number a)) c.alone-then-part.ensures
    ∙ leaves_evaluation sc w c.args.number a c.in-Some.part c.in-Some.ensures c.if-part.true

pub returns-then-some_depends-clause-left : goal.returns-then-some_depends-clause-left
returns-then-some_depends-clause-left c =
    let w = world_of c.args.self.now in
    ap (acted_choice c.alone-then-some_depends.result) c.fail.ensures.failed
    ∙ ap (λ (x : Acted). acted_choice x (failing w c.args.number fault.CriticalBlockExit)) c.alone-then-some_depends.ensures
    ∙ leaves_critical (scoped c.args.self.now.scopes) w c.args.number (rest_answered c.args.answer) c.in-Some.part c.in-Some.ensures c.if-part.false
    (sym c.if-some_depends.ensures)

pub returns-then-part-2-clause-left : goal.returns-then-part-2-clause-left
returns-then-part-2-clause-left c =
    c.end.ensures.ended
    ∙ leaves_last (scoped c.args.self.now.scopes) (world_of c.args.self.now) c.args.number (rest_answered c.args.answer) c.in-Some.part c.requires
    c.in-Some.ensures c.if-part.false (sym c.if-some_depends.ensures) c.if-part-2.true

pub returns-in_ok-end_part-in-Some-2-clause-left : goal.returns-in_ok-end_part-in-Some-2-clause-left
returns-in_ok-end_part-in-Some-2-clause-left c =
    let sc = scoped c.args.self.now.scopes in
    let w = world_of c.args.self.now in
    let a = rest_answered c.args.answer in
    let p = c.args.number in
    let left : world_of c.end_part-else-part-2.new.self ≡ leaving_with sc (leave w (c.in-Some.part.instance ∷ [])) p a =
    c.in_ok-end_part-in-Some-2.ensures.went
    ∙ ap (λ (s : _). leaving_with (scoped s) (world_of c.leave.new.self) p a) c.leave.ensures.same
    ∙ ap (λ (v : _). leaving_with sc v p a) c.leave.ensures.left in
    ap (acted_choice c.alone-else-part-2.result) left
    ∙ ap (λ (x : Acted). acted_choice x (leaving_with sc (leave w (c.in-Some.part.instance ∷ [])) p a)) c.alone-else-part-2.ensures
    ∙ leaves_further sc w p a c.in-Some.part c.in-Some.ensures c.if-part.false (sym c.if-some_depends.ensures) c.if-part-2.false
