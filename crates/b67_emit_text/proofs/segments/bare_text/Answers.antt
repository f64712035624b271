use Rattle.std.proofs.Common.{arith}
use Rattle.algol_tree.specs.Image.{decls, stmts}
use Rattle.b67_emit_stmt.specs.Actuals.{images}
use Rattle.b67_emit_stmt.proofs.Blocks.{images_long}
use Rattle.b67_emit_text.proofs.TextHeads.{bare_ready, none_celled}
use Rattle.b67_emit_text.proofs.TextSegments.{plain_whole}
use Rattle.b67_emit_text.proofs.segments.bare_text.Goals as goal

pub text_code-requires : goal.text_code-requires
text_code-requires g c =
    let s = c.args.emitter.now.known.now in
    let level = c.args.emitter.now.level in
    record {
      cell = c.requires.begins.cell;
      level = c.requires.begins.set;
      ready = bare_ready s level c.args.returned (decls c.args.ds.now) (stmts c.args.ss.now) c.args.to.now c.requires.begins.ready;
      own = c.requires.own;
      few = c.requires.begins.few;
      fits = c.requires.begins.fits;
    }

pub returns : goal.returns
returns g c =
    let s = c.args.emitter.now.known.now in
    let level = c.args.emitter.now.level in
    let ds = decls c.args.ds.now in
    let ss = stmts c.args.ss.now in
    let none = none_celled (images c.args.actuals.now) _ c.requires.own (omega (arith, images_long c.args.actuals.now, c.requires.bare.1)) in
    record {
      code = plain_whole s level c.args.returned ds ss c.args.to.now c.requires.begins.start c.requires.bare.0 none c.text_code.new.to c.in_ok-_begin._begin c.in_ok-_begin.ensures.code;
      exits = c.in_ok-_begin.ensures.exits;
      lines = c.in_ok-_begin.ensures.lines;
    }
