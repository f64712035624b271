use Rattle.std.proofs.Common.{◌∙◌, arith}
use Rattle.std.proofs.lemmas.Result.{on_ok_weaker}
use Rattle.algol_tree.specs.declared.tree.Kind.TheVariants as types
use Rattle.algol_tree.specs.Image.{expr}
use Rattle.b67_ops.specs.declared.PlainKind.TheVariants as kinds
use Rattle.b67_segment.specs.Building.{level_set}
use Rattle.b67_emitter.proofs.Appends.{same_level}
use Rattle.b67_emit_stmt.proofs.Parts.{code_at, difference_part, plain_at, value_at}
use Rattle.b67_emit_stmt.proofs.draft.StmtEmitter.difference.Goals as goal

pub value-requires-clause-code : goal.value-requires-clause-code
value-requires-clause-code g c =
    let a = c.args.out.now in
    let b = c.read.new.out in
    code_at c.args.self.now.known.now (level_set b) (level_set a) c.requires.fits.0 types.Number (expr c.args.l.now) (same_level a b c.in_ok-read.ensures.level) c.requires.fits.2

pub returns-clause-code : goal.returns-clause-code
returns-clause-code g c =
    let a = c.args.out.now in
    let b = c.read.new.out in
    let d = c.value.new.out in
    let q = same_level a b c.in_ok-read.ensures.level in
    on_ok_weaker c.append_plain.result
    (λ h sc later name fit.
    difference_part sc later (level_set a) c.args.v.now (expr c.args.l.now) a b d c.append_plain.new.out (c.in_ok-read.ensures.code sc types.Number later name)
    (value_at c.args.self.now.known.now b d (level_set a) sc later types.Number (expr c.args.l.now) q c.in_ok-value.ensures.code fit)
    (plain_at kinds.Subt (level_set a) (same_level b d c.in_ok-value.ensures.level ∙ q) h))
    c.append_plain.ensures.code

pub read-requires : goal.read-requires
read-requires g c = record {
  set = c.requires.set;
  near = c.requires.near;
  fits = (c.requires.fits.0, types.Number, c.requires.fits.1);
  room = omega (arith, c.requires.room);
}
