use Rattle.std.proofs.Common.{ap, ◌∙◌}
use Rattle.std.proofs.lemmas.Result.{IfOk-weaker}
use Rattle.algol_tree.specs.Image.{body}
use Rattle.b67_faithful.specs.Lines.{formats_for}
use Rattle.b67_emit_text.proofs.TextLines.{texts_are_lines}
use Rattle.b67_emit_text.proofs.TextNumbers.{levels_there}
use Rattle.b67_emit_text.proofs.TextProgram.{places_found, texts_found}
use Rattle.b67_emit_text.proofs.program.emit_program.Goals as goal

pub within_body-requires : goal.within_body-requires
within_body-requires g c = levels_there c.requires.due.0 c.args.names.now (body c.args.body.now) c.requires.due.1

pub emit_texts-requires-clause-found : goal.emit_texts-requires-clause-found
emit_texts-requires-clause-found g c =
    texts_found (body c.args.body.now) c.new-procedures.result.items c.within_body.new.to.items c.deref-2.result.now c.new-procedures.ensures.items c.in_ok-within_body.ensures
    c.deref-2.ensures.value

pub emit_texts-requires-clause-places : goal.emit_texts-requires-clause-places
emit_texts-requires-clause-places g c =
    places_found (body c.args.body.now) c.new-procedures.result.items c.within_body.new.to.items c.deref.result.now c.in_ok-places.places c.new-procedures.ensures.items c.in_ok-within_body.ensures
    c.deref.ensures.value c.in_ok-places.ensures

pub returns-clause-lines : goal.returns-clause-lines
returns-clause-lines g c =
    IfOk-weaker c.emit_texts.result _ _ (λ made lines. lines ∙ ap formats_for (texts_are_lines (body c.args.body.now))) c.emit_texts.ensures.lines
