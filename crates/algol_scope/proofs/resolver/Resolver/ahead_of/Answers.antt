use Rattle.std.proofs.Common.{refl}
use Rattle.b67_list.proofs.Answered.{on_ok}
use Rattle.algol_scope.proofs.Walking.{if_ok}
use Rattle.algol_scope.proofs.Bodies.{simple_is, files_is, events_is, tasks_is, labels_is, arrays_is, forward_is, procedure_is}
use Rattle.algol_scope.proofs.Looking.{ahead_by, bodies_by, bodies_extends, bodies_more, bodies_of}
use Rattle.algol_scope.proofs.resolver.Resolver.ahead_of.Goals as goal

pub returns-in-Simple-clause-ahead : goal.returns-in-Simple-clause-ahead
returns-in-Simple-clause-ahead c = λ later b. ahead_by _ c.args.d.now _ later _ (simple_is _ _ _ c.in-Simple.is) tt

pub returns-in-Simple-clause-bodies : goal.returns-in-Simple-clause-bodies
returns-in-Simple-clause-bodies c =
    λ later b. bodies_by _ _ c.args.d.now _ later (simple_is _ _ _ c.in-Simple.is) (bodies_of _ _ _ later b (λ q. refl))

pub returns-in-Files-clause-ahead : goal.returns-in-Files-clause-ahead
returns-in-Files-clause-ahead c = λ later b. ahead_by _ c.args.d.now _ later _ (files_is _ _ c.in-Files.is) tt

pub returns-in-Files-clause-bodies : goal.returns-in-Files-clause-bodies
returns-in-Files-clause-bodies c =
    λ later b. bodies_by _ _ c.args.d.now _ later (files_is _ _ c.in-Files.is) (bodies_of _ _ _ later b (λ q. refl))

pub returns-in-Events-clause-ahead : goal.returns-in-Events-clause-ahead
returns-in-Events-clause-ahead c = λ later b. ahead_by _ c.args.d.now _ later _ (events_is _ _ c.in-Events.is) tt

pub returns-in-Events-clause-bodies : goal.returns-in-Events-clause-bodies
returns-in-Events-clause-bodies c =
    λ later b. bodies_by _ _ c.args.d.now _ later (events_is _ _ c.in-Events.is) (bodies_of _ _ _ later b (λ q. refl))

pub returns-in-Tasks-clause-ahead : goal.returns-in-Tasks-clause-ahead
returns-in-Tasks-clause-ahead c = λ later b. ahead_by _ c.args.d.now _ later _ (tasks_is _ _ c.in-Tasks.is) tt

pub returns-in-Tasks-clause-bodies : goal.returns-in-Tasks-clause-bodies
returns-in-Tasks-clause-bodies c =
    λ later b. bodies_by _ _ c.args.d.now _ later (tasks_is _ _ c.in-Tasks.is) (bodies_of _ _ _ later b (λ q. refl))

pub returns-in-Labels-clause-ahead : goal.returns-in-Labels-clause-ahead
returns-in-Labels-clause-ahead c = λ later b. ahead_by _ c.args.d.now _ later _ (labels_is _ _ c.in-Labels.is) tt

pub returns-in-Labels-clause-bodies : goal.returns-in-Labels-clause-bodies
returns-in-Labels-clause-bodies c =
    λ later b. bodies_by _ _ c.args.d.now _ later (labels_is _ _ c.in-Labels.is) (bodies_of _ _ _ later b (λ q. refl))

pub returns-in-Arrays-clause-ahead : goal.returns-in-Arrays-clause-ahead
returns-in-Arrays-clause-ahead c = λ later b. ahead_by _ c.args.d.now _ later _ (arrays_is _ _ _ _ c.in-Arrays.is) tt

pub returns-in-Arrays-clause-bodies : goal.returns-in-Arrays-clause-bodies
returns-in-Arrays-clause-bodies c =
    λ later b. bodies_by _ _ c.args.d.now _ later (arrays_is _ _ _ _ c.in-Arrays.is) (bodies_of _ _ _ later b (λ q. refl))

pub returns-in-Forward-clause-ahead : goal.returns-in-Forward-clause-ahead
returns-in-Forward-clause-ahead c =
    if_ok c.announced.result (λ x h later b. ahead_by _ c.args.d.now _ later x (forward_is _ _ c.in-Forward.is) (h later b)) c.announced.ensures.ahead

pub returns-in-Forward-clause-bodies : goal.returns-in-Forward-clause-bodies
returns-in-Forward-clause-bodies c =
    on_ok c.announced.result
    (λ more later b.
    bodies_by _ _ c.args.d.now _ later (forward_is _ _ c.in-Forward.is)
    (bodies_of _ _ _ later (bodies_extends c.args.self.now.around.procedures.items c.announced.new.self.around.procedures.items c.args.bodies.now later more b)
    (λ q. refl)))
    c.announced.ensures.more

pub returns-in_ok-remember-in-Procedure-clause-ahead : goal.returns-in_ok-remember-in-Procedure-clause-ahead
returns-in_ok-remember-in-Procedure-clause-ahead c =
    λ later b. ahead_by _ c.args.d.now _ later _ (procedure_is _ _ _ c.in-Procedure.is) c.in_ok-ahead-in-Procedure.ensures.ahead.0

pub returns-in_ok-remember-in-Procedure-clause-bodies : goal.returns-in_ok-remember-in-Procedure-clause-bodies
returns-in_ok-remember-in-Procedure-clause-bodies c =
    λ later b.
    bodies_by _ _ c.args.d.now _ later (procedure_is _ _ _ c.in-Procedure.is)
    (bodies_more c.args.self.now.around.procedures.items c.heading_ahead.new.self.around.procedures.items c.args.bodies.now c.remember.new.bodies later
    c.in-Procedure.h _ c.bytes.result.now _ c.in_ok-ahead-in-Procedure.ensures.more b c.in_ok-ahead-in-Procedure.ensures.ahead.0
    c.in_ok-ahead-in-Procedure.ensures.ahead.1 c.bytes.ensures c.in_ok-remember-in-Procedure.ensures)
