use Rattle.std.proofs.Common.{◌∙◌, ap}
use Rattle.std.proofs.lemmas.Result.{on_ok_weaker}
use Rattle.std.specs.Prelude.{Option, is_some}
use Rattle.algol_tree.specs.Image.{call, exprs}
use Rattle.algol_tree.proofs.Images.{call_is}
use Rattle.b67_ops.specs.declared.Couple.{Couple}
use Rattle.b67_segment.specs.Building.{level_set}
use Rattle.b67_emit_stmt.proofs.Calls.{call_has, call_part}
use Rattle.b67_emit_stmt.proofs.draft.StmtEmitter.call.Goals as goal

pub call-requires-clause-code : goal.call-requires-clause-code
call-requires-clause-code g c =
    let s = c.args.self.now.known.now in
    let k = c.args.c.now in
    call_has s k.name (exprs k.actuals) (call k) (call_is k) c.requires.fits.0 (level_set c.args.out.now) c.requires.fits.1

pub returns-clause-code : goal.returns-clause-code
returns-clause-code g c =
    let s = c.args.self.now.known.now in
    let k = c.args.c.now in
    let typed = c.is_some.ensures ∙ ap (λ (o : Option Couple). is_some o) c.result_of.ensures in
    on_ok_weaker c.append_dropped.result
    (λ h sc later fit.
    call_part s k.name (exprs k.actuals) (call k) (call_is k) sc later c.is_some.result c.args.out.now c.call.new.out c.append_dropped.new.out c.in_ok-call.ensures.level typed
    c.in_ok-call.ensures.code h fit)
    c.append_dropped.ensures.code
