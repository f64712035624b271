use Rattle.std.proofs.Common.{refl}
use Rattle.std.proofs.lemmas.Result.{on_ok_weaker}
use Rattle.algol_tree.specs.Image.{decls, stmts}
use Rattle.b67_emit_stmt.specs.Actuals.{images}
use Rattle.b67_emit_text.specs.Codes.{zeros_for}
use Rattle.b67_emit_stmt.proofs.Blocks.{small_there}
use Rattle.b67_emit_stmt.proofs.Parts.{on_ok_two}
use Rattle.b67_emit_text.proofs.TextSegments.{end_at, end_room, end_set, end_stands, inside_ready}
use Rattle.b67_emit_text.proofs.segments.text_end.Goals as goal

pub inside-requires : goal.inside-requires
inside-requires g c =
    let s = c.args.emitter.now.known.now in
    let level = c.args.emitter.now.level in
    let ds = decls c.args.ds.now in
    let ss = stmts c.args.ss.now in
    let es = images c.args.actuals.now in
    record {
      level = c.requires.level;
      ready = inside_ready s level c.args.returned ds ss es c.args.to.now c.zeros.result c.zeros.ensures c.requires.ready;
      few = small_there c.zeros.result (zeros_for c.args.returned ds) ds es es c.zeros.ensures refl c.requires.few;
      inner = c.requires.inner;
      placed = c.requires.placed;
      places = c.requires.places;
      fits = c.requires.fits;
    }

pub append_end-requires-clause-set : goal.append_end-requires-clause-set
append_end-requires-clause-set g c =
    let s = c.args.emitter.now.known.now in
    let level = c.args.emitter.now.level in
    let ds = decls c.args.ds.now in
    let ss = stmts c.args.ss.now in
    end_set s level c.args.returned ds ss (images c.args.actuals.now) c.args.to.now c.zeros.result c.zeros.ensures c.args.places.now c.inside.new.to c.requires.level c.requires.fits c.in_ok-inside.ensures.code
    c.requires.ready.set

pub append_end-requires-clause-level : goal.append_end-requires-clause-level
append_end-requires-clause-level g c =
    let s = c.args.emitter.now.known.now in
    let level = c.args.emitter.now.level in
    let ds = decls c.args.ds.now in
    let ss = stmts c.args.ss.now in
    end_at s level c.args.returned ds ss (images c.args.actuals.now) c.args.to.now c.zeros.result c.zeros.ensures c.args.places.now c.inside.new.to c.requires.level c.requires.fits c.in_ok-inside.ensures.code

pub append_end-requires-clause-room : goal.append_end-requires-clause-room
append_end-requires-clause-room g c =
    let s = c.args.emitter.now.known.now in
    let level = c.args.emitter.now.level in
    let ds = decls c.args.ds.now in
    let ss = stmts c.args.ss.now in
    end_room s level c.args.returned ds ss (images c.args.actuals.now) c.args.to.now c.zeros.result c.zeros.ensures c.args.places.now c.inside.new.to c.requires.level c.requires.fits c.in_ok-inside.ensures.code
    c.requires.ready

pub returns-clause-code : goal.returns-clause-code
returns-clause-code g c =
    let s = c.args.emitter.now.known.now in
    let level = c.args.emitter.now.level in
    let ds = decls c.args.ds.now in
    let ss = stmts c.args.ss.now in
    on_ok_two c.append_end.result
    (end_stands s level c.args.returned ds ss (images c.args.actuals.now) c.args.to.now c.zeros.result c.zeros.ensures c.args.places.now c.inside.new.to c.requires.level c.requires.fits c.in_ok-inside.ensures.code
    c.append_end.new.out) c.append_end.ensures.code c.append_end.ensures.size

pub returns-clause-exits : goal.returns-clause-exits
returns-clause-exits g c = on_ok_weaker c.append_end.result (λ h. c.in_ok-inside.ensures.exits) c.append_end.ensures.size

pub returns-clause-lines : goal.returns-clause-lines
returns-clause-lines g c = on_ok_weaker c.append_end.result (λ h. c.in_ok-inside.ensures.lines) c.append_end.ensures.size
