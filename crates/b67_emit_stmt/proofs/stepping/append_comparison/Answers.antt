use Rattle.std.proofs.Common.{refl, arith}
use Rattle.std.proofs.lemmas.Result.{on_ok_weaker}
use Rattle.b67_ops.specs.declared.BranchKind.TheVariants.{Brtr}
use Rattle.b67_segment.specs.Building.{level_set}
use Rattle.b67_segment.specs.Operators.{size}
use Rattle.b67_templates.specs.Fragments.{BranchAt}
use Rattle.b67_emitter.proofs.Appends.{same_level}
use Rattle.b67_emit_stmt.specs.declared.draft.Draft.{Draft}
use Rattle.b67_emit_stmt.proofs.Drafts.{at_level, exit_piece, piece}
use Rattle.b67_emit_stmt.proofs.Parts.{on_ok_two}
use Rattle.b67_emit_stmt.proofs.Steps.{comparison_part}
use Rattle.b67_emit_stmt.proofs.stepping.append_comparison.Goals as goal

pub returns-clause-code : goal.returns-clause-code
returns-clause-code c =
    let a = c.args.to.now in
    let b : Draft = record a { out = c.append_all.new.out } in
    let d : Draft = record a { out = c.append_exit.new.out; exits = c.append_exit.new.exits } in
    on_ok_two c.append_exit.result
    (λ h wide.
    comparison_part (level_set a.out) a b d c.args.kind
    (piece {n = 2} {d = a} {e = b} refl refl c.requires.few (λ later. c.in_ok-append_all.ensures.code) (omega (arith, c.in_ok-append_all.ensures.size)))
    (at_level (level_set a.out) (λ l later qs target. BranchAt qs l Brtr (size b.out.operators) target (size d.out.operators)) (same_level a.out b.out c.in_ok-append_all.ensures.level)
    (exit_piece {n = 3} {d = b} {e = d} refl (omega (arith, c.requires.few, c.in_ok-append_all.ensures.size)) h (omega (arith, wide)))))
    c.append_exit.ensures.code c.append_exit.ensures.size

pub returns-clause-notes : goal.returns-clause-notes
returns-clause-notes c = on_ok_weaker c.append_exit.result (λ h. refl) c.append_exit.ensures.size
