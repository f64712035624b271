use Rattle.std.proofs.Common.{refl, arith}
use Rattle.std.proofs.lemmas.Int.{to_z-of_z}
use Rattle.std.proofs.lemmas.Result.{on_ok_weaker}
use Rattle.b67_segment.specs.Building.{level_set}
use Rattle.b67_emit_stmt.specs.declared.draft.Draft.{Draft}
use Rattle.b67_emit_stmt.proofs.Drafts.{piece}
use Rattle.b67_emit_stmt.proofs.Parts.{on_ok_two}
use Rattle.b67_emit_stmt.proofs.Steps.{is_zero, up_part, down_part, still_part}
use Rattle.b67_emit_stmt.proofs.stepping.append_signed.Goals as goal

pub returns-then-step-gt0-clause-code : goal.returns-then-step-gt0-clause-code
returns-then-step-gt0-clause-code c =
    let f = c.ranges.step in
    let above = simp to_z-of_z at c.if-step-gt0.true in
    on_ok_weaker c.append_comparison.result (λ h sc. up_part sc (level_set c.args.to.now.out) c.args.to.now c.append_comparison.new.to c.args.step above h)
    c.append_comparison.ensures.code

pub returns-then-step-lt0-clause-code : goal.returns-then-step-lt0-clause-code
returns-then-step-lt0-clause-code c =
    let f = c.ranges.step in
    let below = simp to_z-of_z at c.if-step-lt0.true in
    on_ok_weaker c.append_comparison-then-step-lt0.result
    (λ h sc. down_part sc (level_set c.args.to.now.out) c.args.to.now c.append_comparison-then-step-lt0.new.to c.args.step below h)
    c.append_comparison-then-step-lt0.ensures.code

pub returns-else-step-lt0-clause-code : goal.returns-else-step-lt0-clause-code
returns-else-step-lt0-clause-code c =
    let f = c.ranges.step in
    let above = simp to_z-of_z at c.if-step-gt0.false in
    let below = simp to_z-of_z at c.if-step-lt0.false in
    let a = c.args.to.now in
    let b : Draft = record a { out = c.append_plain.new.out } in
    on_ok_two c.append_plain.result
    (λ h wide sc. still_part sc (level_set a.out) a b c.args.step (is_zero c.args.step above below) (piece {n = 1} {d = a} {e = b} refl refl c.requires.few (λ later. h) (omega (arith, wide))))
    c.append_plain.ensures.code c.append_plain.ensures.size

pub returns-else-step-lt0-clause-notes : goal.returns-else-step-lt0-clause-notes
returns-else-step-lt0-clause-notes c = on_ok_weaker c.append_plain.result (λ h. refl) c.append_plain.ensures.size
