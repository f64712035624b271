use Rattle.std.proofs.Common.{◌≡◌, ◌∙◌, ◌<◌, ℕ, List, length, ap, refl, subst, sym, arith}
use Rattle.std.specs.List.{All}
use Rattle.algol_tree.specs.Image.{decls, stmts}
use Rattle.b67_segment.specs.declared.TheConstants.{MOST_SEGMENT_SYLLABLES}
use Rattle.b67_emit_stmt.specs.Actuals.{images}
use Rattle.b67_emit_stmt.specs.Bodies.{EmitsRoutines}
use Rattle.b67_emit_stmt.specs.Lengths.{celled_in}
use Rattle.b67_emit_stmt.proofs.Added.{all_then_added}
use Rattle.b67_emit_stmt.proofs.Blocks.{images_long, own_level, small_there}
use Rattle.b67_emit_text.specs.Codes.{zeros_for}
use Rattle.b67_emit_text.proofs.TextSegments.{routines_ready, text_fit, text_level, text_made, text_ready}
use Rattle.b67_emit_text.proofs.segments.text_code.Goals as goal

pub routines-requires : goal.routines-requires
routines-requires g c =
    let s = c.args.emitter.now.known.now in
    let level = c.args.emitter.now.level in
    let ds = decls c.args.ds.now in
    let ss = stmts c.args.ss.now in
    let es = images c.args.actuals.now in
    let a = c.args.to.now in
    let inner = c.requires.ready.inner in
    record {
      level = c.requires.level;
      ready = routines_ready s inner level c.args.returned ds ss es a c.requires.own c.requires.ready;
      fits = text_fit s inner level c.args.returned ds ss es a c.requires.own c.requires.fits;
    }

pub text_end-requires : goal.text_end-requires
text_end-requires g c =
    let s = c.args.emitter.now.known.now in
    let level = c.args.emitter.now.level in
    let ds = decls c.args.ds.now in
    let ss = stmts c.args.ss.now in
    let es = images c.args.actuals.now in
    let a = c.args.to.now in
    let inner = c.requires.ready.inner in
    let r = c.routines.new.to in
    let ats = c.deref.result.now in
    let placed : ats ≡ c.in_ok-places.places.items = c.deref.ensures.value in
    let E : List ℕ → Type 0 = λ l. EmitsRoutines s level a r es l in
    let routines = subst E (sym placed) c.in_ok-places.ensures.code in
    record {
      cell = c.requires.cell;
      level = text_level s inner level c.args.returned ds ss es a c.requires.own ats r routines c.requires.fits c.requires.level;
      ready = text_ready s inner level c.args.returned ds ss es a c.requires.own ats r routines c.requires.fits c.requires.ready;
      few = small_there (zeros_for c.args.returned ds) (zeros_for c.args.returned ds) ds es (celled_in s ds ss) refl c.requires.own c.requires.few;
      inner = λ some. own_level s inner level c.requires.fits.0 ds ss c.requires.fits.2 es c.requires.own (omega (arith, some, images_long c.args.actuals.now));
      placed = ap (λ (l : List ℕ). length l) placed ∙ c.in_ok-places.ensures.many;
      places = subst (λ l. All (λ (at : ℕ). at < MOST_SEGMENT_SYLLABLES) l) (sym placed) c.in_ok-places.ensures.places;
      fits = c.requires.fits;
    }

pub returns-clause-code : goal.returns-clause-code
returns-clause-code g c =
    let s = c.args.emitter.now.known.now in
    let level = c.args.emitter.now.level in
    let ds = decls c.args.ds.now in
    let ss = stmts c.args.ss.now in
    let es = images c.args.actuals.now in
    let a = c.args.to.now in
    let r = c.routines.new.to in
    let ats = c.deref.result.now in
    let placed : ats ≡ c.in_ok-places.places.items = c.deref.ensures.value in
    let E : List ℕ → Type 0 = λ l. EmitsRoutines s level a r es l in
    let routines = subst E (sym placed) c.in_ok-places.ensures.code in
    text_made s c.requires.ready.inner level c.args.returned ds ss es a c.requires.own ats r routines c.place-begin.result c.place-begin.ensures c.requires.fits c.text_end.new.to
    c.in_ok-text_end.ensures.code

pub returns-clause-exits : goal.returns-clause-exits
returns-clause-exits g c = c.in_ok-text_end.ensures.exits ∙ c.in_ok-places.ensures.exits

pub returns-clause-lines : goal.returns-clause-lines
returns-clause-lines g c =
    all_then_added c.args.to.now c.routines.new.to c.text_end.new.to (stmts c.args.ss.now) c.in_ok-places.ensures.notes c.in_ok-text_end.ensures.lines
