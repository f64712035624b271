use Rattle.std.proofs.Common.{◌≡◌, ◌∙◌, ℕ, ap, subst, sym, arith}
use Rattle.std.proofs.lemmas.Result.{on_ok_weaker}
use Rattle.std.specs.Prelude.{unwrap_or, Option}
use Rattle.algol_tree.specs.Image.{decls}
use Rattle.b67_segment.specs.Building.{level_set}
use Rattle.b67_emit_stmt.specs.Actuals.{images}
use Rattle.b67_emit_stmt.specs.Fits.{DeclsFit}
use Rattle.b67_emit_stmt.proofs.Begins.{made_behind}
use Rattle.b67_emit_stmt.proofs.Blocks.{some_of, some_are}
use Rattle.b67_emit_stmt.proofs.Drafts.{level_after, set_after}
use Rattle.b67_emit_stmt.proofs.draft.StmtEmitter.begin.Goals as goal

pub make_all-requires : goal.make_all-requires
make_all-requires g c =
    let s = c.args.self.now.known.now in
    let a = c.args.to.now in
    let es = images c.args.actuals.now in
    let fits = c.requires.fits in
    let cells = c.in_ok-cells.ensures.code fits.0 (some_of es) fits.1 (some_are es) fits.2 in
    let set : level_set a.out ≡ c.args.self.now.level = ap (λ (o : Option ℕ). unwrap_or o 0) c.requires.level.set in
    let F : ℕ → Type 0 = λ l. DeclsFit fits.0 s l (decls c.args.ds.now) in
    record {
      set = set_after cells c.requires.ready.set;
      near = c.requires.ready.near;
      few = omega (arith, c.requires.few);
      fits = (fits.0, subst F (sym (level_after cells ∙ set)) fits.3);
      room = omega (arith, cells.short, c.requires.ready.room);
    }

pub returns-clause-code : goal.returns-clause-code
returns-clause-code g c =
    made_behind c.args.self.now.known.now c.args.self.now.level c.args.many (decls c.args.ds.now) (images c.args.actuals.now) c.args.places.now c.args.to.now c.cells.new.to c.requires.level c.in_ok-cells.ensures.code c.make_all.result
    c.make_all.new.out c.make_all.ensures.code c.make_all.ensures.size

pub returns-clause-notes : goal.returns-clause-notes
returns-clause-notes g c = on_ok_weaker c.make_all.result (λ h. c.in_ok-cells.ensures.notes) c.make_all.ensures.size
