use Rattle.std.proofs.Common.{◌≡◌, ◌∙◌, ℤ, pos, subst, sym, arith}
use Rattle.std.proofs.lemmas.Int.{ints}
use Rattle.std.proofs.lemmas.Result.{on_ok_weaker}
use Rattle.std.specs.Prelude.{[], ◌∷◌, ℕ}
use Rattle.algol_tree.specs.Image.{pairs}
use Rattle.b67_ops.specs.declared.PlainKind.TheVariants as kinds
use Rattle.b67_segment.specs.Operators.{size}
use Rattle.b67_segment.specs.Building.{level_set}
use Rattle.b67_templates.specs.Emitting.{Emitted}
use Rattle.b67_templates.specs.Fragments.{AllAt, NumberAt}
use Rattle.b67_emitter.proofs.Appends.{same_level}
use Rattle.b67_emit_stmt.specs.Fits.{BoundsFit}
use Rattle.b67_emit_stmt.specs.Places.{BoundsAt}
use Rattle.b67_emit_stmt.proofs.Bounds.{arrays_part}
use Rattle.b67_emit_stmt.proofs.Parts.{leveled}
use Rattle.b67_emit_stmt.proofs.draft.StmtEmitter.alike.Goals as goal

pub bounds-requires-clause-fits : goal.bounds-requires-clause-fits
bounds-requires-clause-fits g c =
    let s = c.args.self.now.known.now in
    let a = c.args.out.now in
    let d = c.append_number.new.out in
    let same = c.in_ok-append_number.ensures.level ∙ c.in_ok-append_intrinsic.ensures.code.level in
    let F : ℕ → Type 0 = λ l. BoundsFit c.requires.fits.0 s l (pairs c.args.pairs.now) in
    (c.requires.fits.0, subst F (sym (same_level a d same)) c.requires.fits.1)

pub returns-clause-code : goal.returns-clause-code
returns-clause-code g c =
    let s = c.args.self.now.known.now in
    let ps = pairs c.args.pairs.now in
    let many = c.args.many in
    let a = c.args.out.now in
    let b = c.append_intrinsic.new.out in
    let d = c.append_number.new.out in
    let x = c.bounds.new.out in
    let y = c.append_all.new.out in
    let level = level_set a in
    let q = same_level a b c.in_ok-append_intrinsic.ensures.code.level in
    let r = same_level b d c.in_ok-append_number.ensures.level ∙ q in
    let t = same_level d x c.in_ok-bounds.ensures.level ∙ r in
    let number : c.fitting.result ≡ pos many = omega (arith, ints, c.fitting.ensures, c.requires.few) in
    let N : ℤ → Type 0 = λ z. Emitted b d (λ qs. NumberAt qs level z (size b.operators) (size d.operators)) in
    on_ok_weaker c.append_all.result
    (λ h sc later fit.
    let F : ℕ → Type 0 = λ l. BoundsFit sc s l ps in
    arrays_part sc later level many ps a b d x y c.requires.dimensions c.requires.some c.in_ok-append_intrinsic.ensures.code
    (subst N number (leveled (λ l qs. NumberAt qs l c.fitting.result (size b.operators) (size d.operators)) level q c.in_ok-append_number.ensures.code))
    (leveled (λ l qs. BoundsAt sc later qs l ps (size d.operators) (size x.operators)) level r (c.in_ok-bounds.ensures.code sc later (subst F (sym r) fit)))
    (leveled (λ l qs. AllAt qs l (kinds.Entr ∷ kinds.Push ∷ []) (size x.operators) (size y.operators)) level t h))
    c.append_all.ensures.code
