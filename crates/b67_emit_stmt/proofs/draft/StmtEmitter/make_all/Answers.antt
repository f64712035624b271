use Rattle.std.proofs.Common.{◌≡◌, ◌∙◌, ℕ, ◌+◌, ◌∷◌, drop, refl, sym, ap, subst, arith}
use Rattle.std.proofs.Math.ListN.{drop_of_length-le}
use Rattle.std.proofs.lemmas.List.{drop_more}
use Rattle.algol_tree.specs.Image.{decl}
use Rattle.b67_segment.specs.Operators.{size}
use Rattle.b67_segment.specs.Building.{level_set}
use Rattle.b67_segment.proofs.Cited.{set_after}
use Rattle.b67_emitter.proofs.Appends.{same_level}
use Rattle.b67_emit_stmt.specs.Fits.{DeclsFit}
use Rattle.b67_emit_stmt.specs.Places.{DeclsAt, only}
use Rattle.b67_emit_stmt.proofs.Made.{DeclsLeft, decls_more, decls_whole, left_many, left_room, next_fits}
use Rattle.b67_emit_stmt.proofs.Parts.{emitted_none, leveled}
use Rattle.b67_emit_stmt.proofs.draft.StmtEmitter.make_all.Goals as goal

pub decls-init : goal.decls-init
decls-init g c =
    let a = c.args.out.now in
    let ds = c.args.ds.now in
    record { level_is = refl; few = c.requires.few; short = omega arith; code = λ sc later fit. emitted_none a (DeclsLeft sc later (level_set a) ds ds a a) (λ qs t k. k) }

pub make-requires : goal.make-requires
make-requires g c =
    let s = c.args.self.now.known.now in
    let a = c.args.out.now in
    let b = c.decls.out in
    let ds = c.args.ds.now in
    let i = c.decls.d-index in
    let d = c.d-item.result in
    let rest = drop (i + 1) ds in
    let next : drop i ds ≡ d ∷ rest = drop_more ds i d c.decls-test.true ∙ ap (λ x. x ∷ rest) (sym c.d-item.is) in
    let sc = c.requires.fits.0 in
    let F : ℕ → Type 0 = λ l. DeclsFit sc s l (only (decl d)) in
    record {
      set = set_after a b c.decls.invariant.level_is c.requires.set;
      near = c.requires.near;
      few = omega (arith, left_many d (drop i ds) rest next, c.decls.invariant.few);
      fits = (sc, subst F (sym (same_level a b c.decls.invariant.level_is)) (next_fits sc s (level_set a) i ds d rest next c.requires.fits.1));
      room = omega (arith, left_room d (drop i ds) rest next s, c.decls.invariant.short, c.requires.room);
    }

pub decls-preserved : goal.decls-preserved
decls-preserved g c =
    let s = c.args.self.now.known.now in
    let a = c.args.out.now in
    let b = c.decls.out in
    let x = c.make.new.out in
    let level = level_set a in
    let ds = c.args.ds.now in
    let i = c.decls.d-index in
    let d = c.d-item.result in
    let rest = drop (i + 1) ds in
    let next : drop i ds ≡ d ∷ rest = drop_more ds i d c.decls-test.true ∙ ap (λ x. x ∷ rest) (sym c.d-item.is) in
    let q = same_level a b c.decls.invariant.level_is in
    let made = c.in_ok-make.ensures in
    record {
      level_is = made.level ∙ c.decls.invariant.level_is;
      few = omega (arith, left_many d (drop i ds) rest next, c.decls.invariant.few);
      short = omega (arith, left_room d (drop i ds) rest next s, c.decls.invariant.short, made.size);
      code = λ sc later fit.
          let F : ℕ → Type 0 = λ l. DeclsFit sc s l (only (decl d)) in
          decls_more sc later level ds (drop i ds) d rest a b x next (c.decls.invariant.code sc later fit)
          (leveled (λ l qs. DeclsAt sc later qs l (only (decl d)) (size b.operators) (size x.operators)) level q
          (made.code sc later (subst F (sym q) (next_fits sc s level i ds d rest next fit))));
    }

pub returns-clause-code : goal.returns-clause-code
returns-clause-code g c =
    let ds = c.args.ds.now in
    λ sc later fit.
    decls_whole sc later (level_set c.args.out.now) ds c.decls.d-index c.args.out.now c.decls.out (drop_of_length-le ds c.decls-test.false) (c.decls.invariant.code sc later fit)

pub returns-clause-size : goal.returns-clause-size
returns-clause-size g c = omega (arith, c.decls.invariant.short)
