use Rattle.std.proofs.Common.{◌∙◌, refl, arith}
use Rattle.algol_tree.specs.Image.{decls, stmts}
use Rattle.b67_segment.proofs.Filling.{words_few}
use Rattle.b67_emit_stmt.specs.declared.draft.Draft.{Draft}
use Rattle.b67_emit_text.specs.Codes.{segment_syllables}
use Rattle.b67_emit_text.proofs.TextSegments.{at_new, few_after, is_new, listed_after, ready_new, short_after, text_stands}
use Rattle.b67_emit_text.proofs.segments.emit_text.Goals as goal

pub text_whole-requires : goal.text_whole-requires
text_whole-requires g c =
    let s = c.args.emitter.now.known.now in
    let level = c.args.emitter.now.level in
    let ds = decls c.args.ds.now in
    let ss = stmts c.args.ss.now in
    let a : Draft = record { out = c.level.new.self; exits = c.new-2.result; formats = c.args.formats; labels = c.new-3.result } in
    let new = is_new level c.args.formats.items c.new.result a c.new.ensures c.in_ok-level.ensures.ok c.new-2.ensures.items refl c.new-3.ensures.items in
    record {
      cell = c.requires.cell;
      set = at_new new c.requires.outer;
      most = c.requires.most;
      start = new.start;
      ready = ready_new new s (segment_syllables s level c.args.returned ds ss) c.requires.near c.requires.inner c.requires.many c.requires.segment c.requires.formats (omega (arith, c.requires.room));
      few = c.requires.small;
      fits = c.requires.fits;
      bare = new.exits;
      unlabelled = new.labels;
    }

pub returns-clause-code : goal.returns-clause-code
returns-clause-code g c =
    let s = c.args.emitter.now.known.now in
    let level = c.args.emitter.now.level in
    let ds = decls c.args.ds.now in
    let ss = stmts c.args.ss.now in
    let a : Draft = record { out = c.level.new.self; exits = c.new-2.result; formats = c.args.formats; labels = c.new-3.result } in
    let new = is_new level c.args.formats.items c.new.result a c.new.ensures c.in_ok-level.ensures.ok c.new-2.ensures.items refl c.new-3.ensures.items in
    text_stands s level c.args.formats.items c.args.returned ds ss a c.text_whole.new.to new c.in_ok-text_whole.ensures.code c.requires.fits c.in_ok-finish.field-0 (c.in_ok-text_whole.ensures.exits ∙ new.exits) c.in_ok-text_whole.ensures.lines
    c.in_ok-finish.ensures

pub returns-clause-listed : goal.returns-clause-listed
returns-clause-listed g c =
    let s = c.args.emitter.now.known.now in
    let level = c.args.emitter.now.level in
    let ds = decls c.args.ds.now in
    let ss = stmts c.args.ss.now in
    let a : Draft = record { out = c.level.new.self; exits = c.new-2.result; formats = c.args.formats; labels = c.new-3.result } in
    let new = is_new level c.args.formats.items c.new.result a c.new.ensures c.in_ok-level.ensures.ok c.new-2.ensures.items refl c.new-3.ensures.items in
    listed_after s level c.args.formats.items c.args.returned ds ss a c.text_whole.new.to new c.in_ok-text_whole.ensures.code c.requires.fits

pub returns-clause-few : goal.returns-clause-few
returns-clause-few g c =
    let s = c.args.emitter.now.known.now in
    let level = c.args.emitter.now.level in
    let ds = decls c.args.ds.now in
    let ss = stmts c.args.ss.now in
    let a : Draft = record { out = c.level.new.self; exits = c.new-2.result; formats = c.args.formats; labels = c.new-3.result } in
    let new = is_new level c.args.formats.items c.new.result a c.new.ensures c.in_ok-level.ensures.ok c.new-2.ensures.items refl c.new-3.ensures.items in
    few_after s level c.args.formats.items c.args.returned ds ss a c.text_whole.new.to new c.in_ok-text_whole.ensures.code c.requires.fits c.requires.room

pub returns-clause-short : goal.returns-clause-short
returns-clause-short g c =
    let s = c.args.emitter.now.known.now in
    let level = c.args.emitter.now.level in
    let ds = decls c.args.ds.now in
    let ss = stmts c.args.ss.now in
    let a : Draft = record { out = c.level.new.self; exits = c.new-2.result; formats = c.args.formats; labels = c.new-3.result } in
    let new = is_new level c.args.formats.items c.new.result a c.new.ensures c.in_ok-level.ensures.ok c.new-2.ensures.items refl c.new-3.ensures.items in
    let short = short_after s level c.args.formats.items c.args.returned ds ss a c.text_whole.new.to new c.in_ok-text_whole.ensures.code c.requires.fits in
    omega (arith, short, words_few c.text_whole.new.to.out.operators c.in_ok-finish.field-0 c.in_ok-finish.ensures)

pub returns-clause-lines : goal.returns-clause-lines
returns-clause-lines g c = c.in_ok-text_whole.ensures.lines.formats
