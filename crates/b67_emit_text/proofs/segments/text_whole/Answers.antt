use Rattle.algol_tree.specs.Image.{decls, stmts}
use Rattle.b67_emit_text.proofs.TextHeads.{low_inside}
use Rattle.b67_emit_text.proofs.segments.text_whole.Goals as goal

pub entries_of-requires : goal.entries_of-requires
entries_of-requires g c = low_inside c.args.emitter.now.known.now c.args.emitter.now.level (decls c.args.ds.now) (stmts c.args.ss.now) c.requires.fits
