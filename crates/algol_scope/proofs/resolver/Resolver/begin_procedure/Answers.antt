use Rattle.std.proofs.Common.{refl}
use Rattle.b67_list.proofs.Answered.{on_ok}
use Rattle.algol_scope.proofs.Faults.{modes_open, procedure_starts}
use Rattle.algol_scope.proofs.resolver.Resolver.begin_procedure.Goals as goal

pub returns : goal.returns
returns c =
    on_ok c.enter_heading.result
    (λ h modes.
    procedure_starts c.args.self.now c.open.new.self _ _ c.args.h.now c.is_named.result c.in_ok-open.ensures.opens c.result_name.result
    c.in_ok-open.ensures.typed c.result_name.ensures c.is_named.ensures c.in_ok-open.ensures.begins c.in_ok-open.ensures.findings
    (c.in_ok-declare_parameters.ensures
    (modes_open c.args.self.now.around c.open.new.self.around c.args.ahead.procedure c.args.h.now c.in_ok-open.ensures.opens.procedures modes))
    refl refl h refl refl)
    c.enter_heading.ensures
