use Rattle.std.proofs.Common.{◌∙◌, arith}
use Rattle.std.proofs.lemmas.Result.{on_ok_weaker}
use Rattle.algol_tree.specs.declared.tree.Kind.TheVariants as types
use Rattle.algol_tree.specs.Image.{expr}
use Rattle.b67_ops.specs.declared.PlainKind.TheVariants as kinds
use Rattle.b67_segment.specs.Building.{level_set}
use Rattle.b67_emitter.proofs.Appends.{same_level}
use Rattle.b67_emit_stmt.specs.Places.{ReadAt}
use Rattle.b67_segment.specs.Operators.{size}
use Rattle.b67_segment.proofs.Cited.{set_after}
use Rattle.b67_emit_stmt.proofs.Parts.{advance_part, code_at, leveled, variable_at, plain_at, value_at}
use Rattle.b67_emit_stmt.proofs.draft.StmtEmitter.advance.Goals as goal

pub value-requires-clause-code : goal.value-requires-clause-code
value-requires-clause-code g c =
    let a = c.args.out.now in
    let b = c.read.new.out in
    code_at c.args.self.now.known.now (level_set b) (level_set a) c.requires.fits.0 types.Number (expr c.args.s.now) (same_level a b (c.in_ok-read.ensures.level ∙ c.in_ok-reference.ensures.level)) c.requires.fits.2

pub returns-clause-code : goal.returns-clause-code
returns-clause-code g c =
    let s = c.args.self.now.known.now in
    let a = c.args.out.now in
    let b = c.reference.new.out in
    let d = c.read.new.out in
    let e = c.value.new.out in
    let x = c.append_plain.new.out in
    let q = same_level a b c.in_ok-reference.ensures.level in
    let r = same_level b d c.in_ok-read.ensures.level ∙ q in
    let t = same_level d e c.in_ok-value.ensures.level ∙ r in
    on_ok_weaker c.append_plain-2.result
    (λ h sc later name fit.
    advance_part sc later (level_set a) c.args.v.now (expr c.args.s.now) a b d e x c.append_plain-2.new.out (c.in_ok-reference.ensures.code sc types.Number later name.1)
    (leveled (λ l qs. ReadAt sc later qs l c.args.v.now types.Number (size b.operators) (size d.operators)) (level_set a) q
    (c.in_ok-read.ensures.code sc types.Number later (variable_at s (level_set b) (level_set a) sc c.args.v.now q name).0))
    (value_at s d e (level_set a) sc later types.Number (expr c.args.s.now) r c.in_ok-value.ensures.code fit)
    (plain_at kinds.Add (level_set a) t c.in_ok-append_plain.ensures.code)
    (plain_at kinds.Stod (level_set a) (same_level e x c.in_ok-append_plain.ensures.level ∙ t) h))
    c.append_plain-2.ensures.code

pub reference-requires : goal.reference-requires
reference-requires g c = record {
  set = c.requires.set;
  near = c.requires.near;
  fits = (c.requires.fits.0, types.Number, c.requires.fits.1.1);
  room = omega (arith, c.requires.room);
}

pub read-requires : goal.read-requires
read-requires g c =
    let a = c.args.out.now in
    let b = c.reference.new.out in
    let sc = c.requires.fits.0 in
    record {
      set = set_after a b c.in_ok-reference.ensures.level c.requires.set;
      near = c.requires.near;
      fits = (sc, types.Number, (variable_at c.args.self.now.known.now (level_set b) (level_set a) sc c.args.v.now (same_level a b c.in_ok-reference.ensures.level) c.requires.fits.1).0);
      room = omega (arith, c.in_ok-reference.ensures.size, c.requires.room);
    }

pub returns-clause-level : goal.returns-clause-level
returns-clause-level g c =
    on_ok_weaker c.append_plain-2.result
    (λ h. h ∙ c.in_ok-append_plain.ensures.level ∙ c.in_ok-value.ensures.level ∙ c.in_ok-read.ensures.level ∙ c.in_ok-reference.ensures.level)
    c.append_plain-2.ensures.level

pub returns-clause-size : goal.returns-clause-size
returns-clause-size g c =
    on_ok_weaker c.append_plain-2.result
    (λ h. omega (arith, h, c.in_ok-append_plain.ensures.size, c.in_ok-value.ensures.size, c.in_ok-read.ensures.size, c.in_ok-reference.ensures.size))
    c.append_plain-2.ensures.size
