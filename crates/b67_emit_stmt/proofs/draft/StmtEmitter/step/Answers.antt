use Rattle.std.proofs.Common.{rules, ◌∙◌, ◌+◌, Some, FitsSigned, w64, ap, refl, sym, arith}
use Rattle.std.proofs.lemmas.Int.{to_z-of_z}
use Rattle.std.proofs.lemmas.Result.{on_ok_weaker}
use Rattle.algol_tree.specs.declared.tree.Kind.TheVariants as types
use Rattle.algol_tree.specs.Image.{expr}
use Rattle.b67_segment.specs.Building.{level_set}
use Rattle.b67_segment.specs.Operators.{size}
use Rattle.b67_emitter.proofs.Appends.{same_level}
use Rattle.b67_emit_stmt.specs.Places.{PastAt, context_in}
use Rattle.b67_emit_stmt.specs.Lengths.{expr_syllables}
use Rattle.b67_emit_stmt.specs.declared.draft.Draft.{Draft}
use Rattle.b67_emit_stmt.proofs.Drafts.{at_level, piece}
use Rattle.b67_emit_stmt.proofs.Notes.{unknown}
use Rattle.b67_emit_stmt.proofs.Parts.{value_at}
use Rattle.b67_emit_stmt.proofs.Steps.{any_part, literal_part}
use Rattle.b67_emit_stmt.proofs.draft.StmtEmitter.step.Goals as goal

pub append_past-requires-clause-few : goal.append_past-requires-clause-few
append_past-requires-clause-few g c =
    let grown = (c.in_ok-value-in-None.ensures.code.code c.requires.fits.0.scopes (context_in c.requires.fits.0 unknown (level_set c.args.to.now.out)) types.Number c.requires.fits.1).grown in
    omega (arith, c.requires.ready.few, grown)

pub returns-in-Some-clause-code : goal.returns-in-Some-clause-code
returns-in-Some-clause-code g c =
    let f : FitsSigned w64 c.number.result = search rules in
    on_ok_weaker c.append_signed.result
    (λ h sc fit.
    let signed = simp to_z-of_z at (h sc) in
    literal_part sc (level_set c.args.to.now.out) c.args.to.now c.append_signed.new.to (expr c.args.s.now) c.number.result (sym c.literal_of.ensures ∙ c.in-Some.is ∙ ap Some (sym c.number.ensures.value)) (omega arith) signed)
    c.append_signed.ensures.code

pub returns-in_ok-value-in-None-clause-code : goal.returns-in_ok-value-in-None-clause-code
returns-in_ok-value-in-None-clause-code g c =
    let a = c.args.to.now in
    let b : Draft = record a { out = c.value.new.out } in
    let d = c.append_past.new.to in
    let q = same_level a.out b.out c.in_ok-value-in-None.ensures.level in
    on_ok_weaker c.append_past.result
    (λ h sc fit.
    any_part sc (level_set a.out) a b d (13 + expr_syllables c.args.self.now.known.now (expr c.args.s.now)) (expr c.args.s.now) (omega arith)
    (piece {n = expr_syllables c.args.self.now.known.now (expr c.args.s.now)} {d = a} {e = b} refl refl c.requires.ready.few
    (λ later. value_at c.args.self.now.known.now a.out b.out (level_set a.out) sc later types.Number (expr c.args.s.now) refl c.in_ok-value-in-None.ensures.code fit)
    c.in_ok-value-in-None.ensures.size)
    (at_level (level_set a.out) (λ l later qs target. PastAt sc later qs l (size b.out.operators) target (size d.out.operators)) q (h sc)))
    c.append_past.ensures.code
