use Rattle.std.proofs.Common.{◌≡◌, ℕ, ◌∙◌, subst, sym, arith}
use Rattle.std.proofs.lemmas.Result.{on_ok_weaker}
use Rattle.algol_tree.specs.Image.{call, exprs}
use Rattle.algol_tree.specs.Blocks.{block_numbered}
use Rattle.algol_tree.proofs.Images.{call_is}
use Rattle.algol_meaning.specs.Settle.{sorts_of}
use Rattle.b67_ops.specs.declared.Operator.TheVariants as ops
use Rattle.b67_ops.specs.declared.PlainKind.TheVariants as kinds
use Rattle.b67_segment.specs.Operators.{size}
use Rattle.b67_segment.specs.Building.{level_set}
use Rattle.b67_templates.specs.Cells.{parameter_wants}
use Rattle.b67_templates.specs.Code.{ActualsAt}
use Rattle.b67_templates.specs.Events.{TaskAt}
use Rattle.b67_templates.specs.Fragments.{Has}
use Rattle.b67_emitter.proofs.Appends.{same_level}
use Rattle.b67_emit_stmt.specs.Places.{context_in}
use Rattle.b67_emit_stmt.proofs.Parts.{leveled}
use Rattle.b67_emit_stmt.proofs.Starts.{filled_less, started_known, started_seen, actuals_have, task_has, start_part}
use Rattle.b67_emit_stmt.proofs.draft.StmtEmitter.start.Goals as goal

pub couple_of-requires : goal.couple_of-requires
couple_of-requires g c =
    let k = c.args.c.now in
    started_known c.args.self.now.known.now c.requires.fits.0 (level_set c.args.out.now) k.name (exprs k.actuals) c.args.task.now c.requires.fits.1

pub append_reference-requires-clause-seen : goal.append_reference-requires-clause-seen
append_reference-requires-clause-seen g c =
    let k = c.args.c.now in
    rw (same_level c.args.out.now c.append_intrinsic.new.out c.in_ok-append_intrinsic.ensures.level)
    (started_seen c.args.self.now.known.now c.requires.fits.0 (level_set c.args.out.now) k.name (exprs k.actuals) c.args.task.now c.requires.fits.1 c.couple_of.result c.requires.near c.couple_of.ensures)

pub append_task-requires-clause-code : goal.append_task-requires-clause-code
append_task-requires-clause-code g c =
    let k = c.args.c.now in
    let a = c.args.out.now in
    let b = c.append_intrinsic.new.out in
    let d = c.append_reference.new.out in
    task_has c.args.self.now.known.now c.requires.fits.0 (level_set a) k.name (exprs k.actuals) c.args.task.now c.requires.fits.1 (level_set d)
    (same_level b d c.in_ok-append_reference.ensures.level ∙ same_level a b c.in_ok-append_intrinsic.ensures.level)

pub append_task-requires-clause-room : goal.append_task-requires-clause-room
append_task-requires-clause-room g c =
    let k = c.args.c.now in
    omega (arith, filled_less c.args.self.now.known.now (call k) k.name (exprs k.actuals) (call_is k), c.in_ok-append_intrinsic.ensures.size, c.in_ok-append_reference.ensures.size, c.requires.room)

pub filled-requires-clause-code : goal.filled-requires-clause-code
filled-requires-clause-code g c =
    let k = c.args.c.now in
    let a = c.args.out.now in
    let b = c.append_intrinsic.new.out in
    let d = c.append_reference.new.out in
    let e = c.append_task.new.out in
    actuals_have c.args.self.now.known.now c.requires.fits.0 (level_set a) k.name (exprs k.actuals) c.args.task.now c.requires.fits.1 (level_set e) (call k)
    (same_level d e c.in_ok-append_task.ensures.level ∙ same_level b d c.in_ok-append_reference.ensures.level ∙ same_level a b c.in_ok-append_intrinsic.ensures.level) (call_is k)

pub filled-requires-clause-room : goal.filled-requires-clause-room
filled-requires-clause-room g c =
    let k = c.args.c.now in
    omega (
      arith,
      filled_less c.args.self.now.known.now (call k) k.name (exprs k.actuals) (call_is k),
      c.in_ok-append_intrinsic.ensures.size,
      c.in_ok-append_reference.ensures.size,
      c.in_ok-append_task.ensures.size,
      c.requires.room,
    )

pub returns-clause-size : goal.returns-clause-size
returns-clause-size g c =
    let k = c.args.c.now in
    on_ok_weaker c.filled.result
    (λ wide. omega (
      arith,
      filled_less c.args.self.now.known.now (call k) k.name (exprs k.actuals) (call_is k),
      c.in_ok-append_intrinsic.ensures.size,
      c.in_ok-append_reference.ensures.size,
      c.in_ok-append_task.ensures.size,
      wide,
    ))
    c.filled.ensures.size

pub returns-clause-code : goal.returns-clause-code
returns-clause-code g c =
    let s = c.args.self.now.known.now in
    let k = c.args.c.now in
    let task = c.args.task.now in
    let a = c.args.out.now in
    let b = c.append_intrinsic.new.out in
    let d = c.append_reference.new.out in
    let e = c.append_task.new.out in
    let f = c.filled.new.out in
    let level = level_set a in
    let q = same_level a b c.in_ok-append_intrinsic.ensures.level in
    let r = same_level b d c.in_ok-append_reference.ensures.level ∙ q in
    let u = same_level d e c.in_ok-append_task.ensures.level ∙ r in
    on_ok_weaker c.filled.result
    (λ h sc later fit.
    let sorts = sorts_of ((block_numbered sc.scopes.blocks fit.0).parameters) in
    let wanted = parameter_wants sc.scopes fit.0 in
    let context = context_in sc later level in
    start_part s sc level k.name (exprs k.actuals) task fit later c.couple_of.result a b d e f c.couple_of.ensures c.in_ok-append_intrinsic.ensures.code
    (leveled (λ l qs. Has qs l (size b.operators) (ops.Namc c.couple_of.result) (size d.operators)) level q c.in_ok-append_reference.ensures.code)
    (leveled (λ l qs. TaskAt sc.scopes context qs l task (size d.operators) (size e.operators)) level r (c.in_ok-append_task.ensures.code.code sc.scopes context fit.4))
    (leveled (λ l qs. (filled : ℕ) × ActualsAt sc.scopes context qs l sorts wanted (exprs k.actuals) (size e.operators) filled
    × Has qs l filled (ops.Plain kinds.Entr) (size f.operators)) level u (h.code sc.scopes context k.name (exprs k.actuals) fit.0 (call_is k) fit.1 fit.2)))
    c.filled.ensures.code
