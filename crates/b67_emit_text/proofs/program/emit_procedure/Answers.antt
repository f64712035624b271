use Rattle.std.proofs.Common.{◌*◌, ◌++◌, ◌∙◌, length, refl, ap}
use Rattle.std.proofs.lemmas.Result.{IfOk-weaker}
use Rattle.algol_tree.specs.Image.{decls, stmts}
use Rattle.b67_faithful.specs.Lines.{formats_for, stmts_lines}
use Rattle.b67_emit_text.specs.Texts.{text_of_procedure}
use Rattle.b67_emit_text.proofs.TextParts.{cell_found, fits_found, room_found, segment_own, short_own, small_found}
use Rattle.b67_emit_text.proofs.program.emit_procedure.Goals as goal

pub emit_text-requires : goal.emit_text-requires
emit_text-requires g c =
    let p = c.args.procedure.now in
    let s = c.args.known.now in
    let returned = c.returned_by-returned.result in
    let ds = decls c.parts.result.0.now in
    let ss = stmts c.parts.result.1.now in
    let can = c.requires.text in
    record {
      near = c.requires.near;
      inner = c.requires.inner;
      cell = cell_found (text_of_procedure p) returned p.level ds ss c.returned_by-returned.ensures refl c.parts.ensures.decls c.parts.ensures.stmts s can;
      many = c.requires.many;
      segment = c.requires.segment;
      formats = c.requires.formats;
      outer = can.outer;
      most = can.most;
      small = small_found (text_of_procedure p) returned p.level ds ss c.returned_by-returned.ensures refl c.parts.ensures.decls c.parts.ensures.stmts s can;
      fits = fits_found (text_of_procedure p) returned p.level ds ss c.returned_by-returned.ensures refl c.parts.ensures.decls c.parts.ensures.stmts s can;
      room = room_found (text_of_procedure p) returned p.level ds ss c.returned_by-returned.ensures refl c.parts.ensures.decls c.parts.ensures.stmts s can;
    }

pub returns-clause-code : goal.returns-clause-code
returns-clause-code g c =
    let p = c.args.procedure.now in
    IfOk-weaker c.emit_text.result _ _
    (λ made h.
    segment_own (text_of_procedure p) c.returned_by-returned.result p.level (decls c.parts.result.0.now) (stmts c.parts.result.1.now) c.returned_by-returned.ensures refl c.parts.ensures.decls
    c.parts.ensures.stmts c.args.known.now c.requires.text made.0 made.1.items h)
    c.emit_text.ensures.code

pub returns-clause-short : goal.returns-clause-short
returns-clause-short g c =
    let p = c.args.procedure.now in
    IfOk-weaker c.emit_text.result _ _
    (λ made short.
    short_own (text_of_procedure p) c.returned_by-returned.result p.level (decls c.parts.result.0.now) (stmts c.parts.result.1.now) c.returned_by-returned.ensures refl c.parts.ensures.decls
    c.parts.ensures.stmts c.args.known.now (6 * length made.0.words) short)
    c.emit_text.ensures.short

pub returns-clause-lines : goal.returns-clause-lines
returns-clause-lines g c =
    IfOk-weaker c.emit_text.result _ _ (λ made lines. lines ∙ ap (λ ss. c.args.formats.items ++ formats_for (stmts_lines ss)) c.parts.ensures.stmts) c.emit_text.ensures.lines
