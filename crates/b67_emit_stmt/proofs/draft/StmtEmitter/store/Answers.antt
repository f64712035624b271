use Rattle.std.proofs.lemmas.Result.{on_ok_weaker}
use Rattle.algol_tree.specs.Image.{expr, variable}
use Rattle.b67_segment.specs.Building.{level_set}
use Rattle.b67_emitter.proofs.Appends.{same_level}
use Rattle.b67_emit_stmt.proofs.Parts.{code_at}
use Rattle.b67_emit_stmt.proofs.Stores.{store_has, store_part, store_value}
use Rattle.b67_emit_stmt.proofs.draft.StmtEmitter.store.Goals as goal

pub name-requires-clause-code : goal.name-requires-clause-code
name-requires-clause-code g c =
    store_has c.args.self.now.known.now c.requires.fits.0 (level_set c.args.out.now) (variable c.args.v.now) (expr c.args.e.now) c.requires.fits.1

pub value-requires-clause-code : goal.value-requires-clause-code
value-requires-clause-code g c =
    let s = c.args.self.now.known.now in
    let a = c.args.out.now in
    let b = c.name.new.out in
    let value = store_value s c.requires.fits.0 (level_set a) (variable c.args.v.now) (expr c.args.e.now) c.requires.fits.1 in
    code_at s (level_set b) (level_set a) c.requires.fits.0 value.0 (expr c.args.e.now) (same_level a b c.in_ok-name.ensures.level) value.1

pub returns-clause-code : goal.returns-clause-code
returns-clause-code g c =
    on_ok_weaker c.append_plain.result
    (λ h sc later fit.
    store_part c.args.self.now.known.now sc later (variable c.args.v.now) (expr c.args.e.now) c.args.out.now c.name.new.out c.value.new.out c.append_plain.new.out c.in_ok-name.ensures.code
    c.in_ok-name.ensures.level c.in_ok-value.ensures.code c.in_ok-value.ensures.level h fit)
    c.append_plain.ensures.code
