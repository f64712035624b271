use Rattle.std.proofs.Common.{List, map, subst}
use Rattle.algol_tree.specs.Image.{decls, stmts}
use Rattle.b67_emit_stmt.specs.declared.draft.Label.{Label}
use Rattle.b67_emit_text.specs.Entries.{HeadAimed, entry_of}
use Rattle.b67_emit_text.proofs.TextHeads.{found_leveled, head_room, head_wide, low_inside}
use Rattle.b67_emit_text.proofs.TextSegments.{begun_at, begun_ready, head_there, head_whole}
use Rattle.b67_emit_text.proofs.segments.headed_text.Goals as goal

pub append_head-requires : goal.append_head-requires
append_head-requires g c =
    let s = c.args.emitter.now.known.now in
    let level = c.args.emitter.now.level in
    let ds = decls c.args.ds.now in
    let ss = stmts c.args.ss.now in
    record {
      start = c.requires.begins.start;
      set = c.requires.begins.set.set;
      outer = c.requires.begins.set.outer;
      most = c.requires.begins.most;
      levels = found_leveled s level c.args.returned ds ss c.args.entries.now c.requires.found c.requires.begins.set.outer c.requires.begins.most (low_inside s level ds ss c.requires.begins.fits);
      room = head_room s level c.args.returned ds ss c.args.entries.now c.requires.found c.args.to.now c.requires.begins.ready;
    }

pub text_code-requires : goal.text_code-requires
text_code-requires g c =
    let s = c.args.emitter.now.known.now in
    let level = c.args.emitter.now.level in
    let ds = decls c.args.ds.now in
    let ss = stmts c.args.ss.now in
    let es = map entry_of c.args.entries.now in
    let wide = head_wide s level c.args.returned ds ss c.args.entries.now c.requires.found _ c.in_ok-append_head.ensures.size in
    record {
      cell = c.requires.begins.cell;
      level = begun_at s level c.args.returned ds ss c.args.to.now c.requires.begins.start c.requires.begins.set c.requires.begins.bare c.requires.begins.unlabelled es c.requires.found c.append_head.new.out
          c.in_ok-append_head.ensures.head c.in_ok-append_head.ensures.level wide;
      ready = begun_ready s level c.args.returned ds ss c.args.to.now c.requires.begins.start c.requires.begins.set c.requires.begins.bare c.requires.begins.unlabelled es c.requires.found c.append_head.new.out
          c.in_ok-append_head.ensures.head c.in_ok-append_head.ensures.level wide c.requires.begins.ready;
      own = c.requires.own;
      few = c.requires.begins.few;
      fits = c.requires.begins.fits;
    }

pub aim_head-requires : goal.aim_head-requires
aim_head-requires g c =
    let s = c.args.emitter.now.known.now in
    let level = c.args.emitter.now.level in
    let ds = decls c.args.ds.now in
    let ss = stmts c.args.ss.now in
    let es = map entry_of c.args.entries.now in
    let wide = head_wide s level c.args.returned ds ss c.args.entries.now c.requires.found _ c.in_ok-append_head.ensures.size in
    record {
      head = head_there s level c.args.returned ds ss c.args.to.now c.requires.begins.start c.requires.begins.set c.requires.begins.bare c.requires.begins.unlabelled es c.requires.found c.append_head.new.out
          c.in_ok-append_head.ensures.head c.in_ok-append_head.ensures.level wide c.text_code.new.to c.in_ok-begin.begin c.in_ok-begin.ensures.code c.requires.begins.fits;
      room = head_room s level c.args.returned ds ss c.args.entries.now c.requires.found c.args.to.now c.requires.begins.ready;
    }

pub returns : goal.returns
returns g c =
    let s = c.args.emitter.now.known.now in
    let level = c.args.emitter.now.level in
    let ds = decls c.args.ds.now in
    let ss = stmts c.args.ss.now in
    let es = map entry_of c.args.entries.now in
    let wide = head_wide s level c.args.returned ds ss c.args.entries.now c.requires.found _ c.in_ok-append_head.ensures.size in
    let A : List Label → Type 0 = λ l. HeadAimed es c.in_ok-begin.begin l c.text_code.new.to.out c.aim_head.new.out in
    record {
      code = head_whole s level c.args.returned ds ss c.args.to.now c.requires.begins.start c.requires.begins.set c.requires.begins.bare c.requires.begins.unlabelled es c.requires.found c.append_head.new.out
          c.in_ok-append_head.ensures.head c.in_ok-append_head.ensures.level wide c.text_code.new.to c.in_ok-begin.begin c.in_ok-begin.ensures.code c.in_ok-begin.ensures.exits
          c.in_ok-begin.ensures.lines c.aim_head.new.out (subst A c.deref.ensures.value c.aim_head.ensures);
      exits = c.in_ok-begin.ensures.exits;
      lines = record { formats = c.in_ok-begin.ensures.lines.formats; labels = c.in_ok-begin.ensures.lines.labels };
    }
