use Rattle.std.proofs.Common.{◌≡◌, ◌++◌, drop}
use Rattle.algol_tree.specs.Image.{exprs}
use Rattle.b67_templates.specs.Paying.{modes_of}
use Rattle.b67_emitter.specs.Values.{meanings, meant}
use Rattle.b67_emit_stmt.specs.Actuals.{images, cells_among, cells_given}
use Rattle.b67_emit_stmt.proofs.actuals.+actuals.Given as goal

-- those in the expressions that are done
abbrev pub invariant-in_exprs-exprs : goal.invariant-in_exprs-exprs
invariant-in_exprs-exprs l =
    images l.to.items ++ cells_among (meanings l.names) (exprs (drop l.e-index l.es)) ≡ images l.fn.to.items ++ cells_among (meanings l.names) (exprs l.es)

-- .. in the actuals that are done
abbrev pub invariant-in_call-actuals : goal.invariant-in_call-actuals
invariant-in_call-actuals l =
    images l.to.items ++ cells_given (meanings l.names) (drop l.number (modes_of (meant l.names l.c.name.spot))) (exprs (drop l.number l.actual-items))
    ≡ images l.fn.to.items ++ cells_given (meanings l.names) (modes_of (meant l.names l.c.name.spot)) (exprs l.c.actuals)
