use Rattle.std.proofs.Common.{◌∙◌, arith}
use Rattle.std.proofs.lemmas.Result.{on_ok_weaker}
use Rattle.algol_tree.specs.Image.{expr}
use Rattle.b67_ops.specs.declared.PlainKind.TheVariants as kinds
use Rattle.b67_segment.specs.Building.{level_set}
use Rattle.b67_emitter.proofs.Appends.{same_level}
use Rattle.b67_emit_stmt.proofs.Parts.{assign_part, code_at, plain_at, value_at}
use Rattle.b67_emit_stmt.proofs.draft.StmtEmitter.assign.Goals as goal

pub value-requires-clause-code : goal.value-requires-clause-code
value-requires-clause-code g c =
    let a = c.args.out.now in
    let b = c.reference.new.out in
    code_at c.args.self.now.known.now (level_set b) (level_set a) c.requires.fits.0 c.requires.fits.1.0 (expr c.args.e.now) (same_level a b c.in_ok-reference.ensures.level) c.requires.fits.1.2

pub returns-clause-code : goal.returns-clause-code
returns-clause-code g c =
    let a = c.args.out.now in
    let b = c.reference.new.out in
    let d = c.value.new.out in
    let q = same_level a b c.in_ok-reference.ensures.level in
    on_ok_weaker c.append_plain.result
    (λ h sc later fit.
    assign_part sc later (level_set a) fit.0 c.args.v.now (expr c.args.e.now) a b d c.append_plain.new.out (c.in_ok-reference.ensures.code sc fit.0 later fit.1)
    (value_at c.args.self.now.known.now b d (level_set a) sc later fit.0 (expr c.args.e.now) q c.in_ok-value.ensures.code fit.2)
    (plain_at kinds.Stod (level_set a) (same_level b d c.in_ok-value.ensures.level ∙ q) h))
    c.append_plain.ensures.code

pub reference-requires : goal.reference-requires
reference-requires g c = record {
  set = c.requires.set;
  near = c.requires.near;
  fits = (c.requires.fits.0, c.requires.fits.1.0, c.requires.fits.1.1);
  room = omega (arith, c.requires.room);
}
