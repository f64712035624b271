use Rattle.std.proofs.Common.{ap, ◌∙◌, ◌*◌, ◌++◌, arith, length}
use Rattle.std.proofs.lemmas.Result.{IfOk-weaker}
use Rattle.std.specs.Prelude.{None}
use Rattle.algol_tree.specs.Image.{body, decls, stmts}
use Rattle.b67_faithful.specs.Lines.{formats_for, stmts_lines}
use Rattle.b67_emit_text.specs.Texts.{outer_text}
use Rattle.b67_emit_text.proofs.TextParts.{fits_found, room_found, segment_own, short_own, small_found}
use Rattle.b67_emit_text.proofs.TextProgram.{outer_decls, outer_level, outer_returned, outer_stmts}
use Rattle.b67_emit_text.proofs.program.emit_outer.Goals as goal

pub emit_text-requires-clause-small : goal.emit_text-requires-clause-small
emit_text-requires-clause-small g c =
    let b = c.args.body.now in
    small_found (outer_text (body b)) None 2 (decls c.deref.result.now) (stmts c.deref-2.result.now) (outer_returned b) (outer_level b)
    (outer_decls b c.deref.result.now (c.deref.ensures.value ∙ c.items.ensures)) (outer_stmts b c.deref-2.result.now (c.deref-2.ensures.value ∙ c.items-2.ensures)) c.args.known.now c.requires.text

pub emit_text-requires-clause-fits : goal.emit_text-requires-clause-fits
emit_text-requires-clause-fits g c =
    let b = c.args.body.now in
    fits_found (outer_text (body b)) None 2 (decls c.deref.result.now) (stmts c.deref-2.result.now) (outer_returned b) (outer_level b)
    (outer_decls b c.deref.result.now (c.deref.ensures.value ∙ c.items.ensures)) (outer_stmts b c.deref-2.result.now (c.deref-2.ensures.value ∙ c.items-2.ensures)) c.args.known.now c.requires.text

pub emit_text-requires-clause-room : goal.emit_text-requires-clause-room
emit_text-requires-clause-room g c =
    let b = c.args.body.now in
    room_found (outer_text (body b)) None 2 (decls c.deref.result.now) (stmts c.deref-2.result.now) (outer_returned b) (outer_level b)
    (outer_decls b c.deref.result.now (c.deref.ensures.value ∙ c.items.ensures)) (outer_stmts b c.deref-2.result.now (c.deref-2.ensures.value ∙ c.items-2.ensures)) c.args.known.now c.requires.text

pub returns-clause-code : goal.returns-clause-code
returns-clause-code g c =
    let b = c.args.body.now in
    IfOk-weaker c.emit_text.result _ _
    (λ made h.
    segment_own (outer_text (body b)) None 2 (decls c.deref.result.now) (stmts c.deref-2.result.now) (outer_returned b) (outer_level b)
    (outer_decls b c.deref.result.now (c.deref.ensures.value ∙ c.items.ensures)) (outer_stmts b c.deref-2.result.now (c.deref-2.ensures.value ∙ c.items-2.ensures)) c.args.known.now c.requires.text
    made.0 made.1.items h)
    c.emit_text.ensures.code

pub returns-clause-listed : goal.returns-clause-listed
returns-clause-listed g c =
    IfOk-weaker c.emit_text.result _ _ (λ made h. h (λ k d lo. absurd (omega (arith, lo, ap length c.new-none.ensures.items)))) c.emit_text.ensures.listed

pub returns-clause-few : goal.returns-clause-few
returns-clause-few g c = IfOk-weaker c.emit_text.result _ _ (λ made few. omega (arith, few, ap length c.new-none.ensures.items)) c.emit_text.ensures.few

pub returns-clause-short : goal.returns-clause-short
returns-clause-short g c =
    let b = c.args.body.now in
    IfOk-weaker c.emit_text.result _ _
    (λ made short.
    short_own (outer_text (body b)) None 2 (decls c.deref.result.now) (stmts c.deref-2.result.now) (outer_returned b) (outer_level b)
    (outer_decls b c.deref.result.now (c.deref.ensures.value ∙ c.items.ensures)) (outer_stmts b c.deref-2.result.now (c.deref-2.ensures.value ∙ c.items-2.ensures)) c.args.known.now (6 * length made.0.words) short)
    c.emit_text.ensures.short

pub returns-clause-lines : goal.returns-clause-lines
returns-clause-lines g c =
    let b = c.args.body.now in
    IfOk-weaker c.emit_text.result _ _
    (λ made lines.
    lines ∙ ap (λ none. none ++ formats_for (stmts_lines (stmts c.deref-2.result.now))) c.new-none.ensures.items
    ∙ ap (λ ss. formats_for (stmts_lines ss)) (outer_stmts b c.deref-2.result.now (c.deref-2.ensures.value ∙ c.items-2.ensures)))
    c.emit_text.ensures.lines
