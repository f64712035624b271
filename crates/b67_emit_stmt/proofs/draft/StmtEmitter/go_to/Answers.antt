use Rattle.std.proofs.Common.{◌≡◌, ◌∙◌, ℤ, pos, subst, arith}
use Rattle.std.proofs.lemmas.Int.{ints}
use Rattle.std.proofs.lemmas.Result.{on_ok_weaker}
use Rattle.b67_ops.specs.declared.PlainKind.TheVariants as kinds
use Rattle.b67_segment.specs.Operators.{size}
use Rattle.b67_segment.specs.Building.{Built, level_set}
use Rattle.b67_templates.specs.Emitting.{Emitted}
use Rattle.b67_templates.specs.Fragments.{NumberAt}
use Rattle.b67_emitter.proofs.Appends.{same_level}
use Rattle.b67_emit_stmt.proofs.Going.{go_to_part, target_known}
use Rattle.b67_emit_stmt.proofs.Parts.{leveled, plain_at}
use Rattle.b67_emit_stmt.proofs.draft.StmtEmitter.go_to.Goals as goal

pub target_of-target-requires : goal.target_of-target-requires
target_of-target-requires g c = target_known c.args.self.now.known.now c.requires.fits.0 (level_set c.args.out.now) c.args.n.now c.requires.fits.1

pub returns-clause-code : goal.returns-clause-code
returns-clause-code g c =
    let a = c.args.out.now in
    let b = c.append_intrinsic.new.out in
    let d = c.append_number.new.out in
    let e = c.append_number-2.new.out in
    let f = c.append_number-3.new.out in
    let level = level_set a in
    let target = c.target_of-target.result in
    let q = same_level a b c.in_ok-append_intrinsic.ensures.level in
    let r = same_level b d c.in_ok-append_number.ensures.level ∙ q in
    let t = same_level d e c.in_ok-append_number-2.ensures.level ∙ r in
    let u = same_level e f c.in_ok-append_number-3.ensures.level ∙ t in
    let first : c.fitting.result ≡ pos target.level = omega (arith, ints, c.fitting.ensures) in
    let second : c.fitting-2.result ≡ pos target.segment = omega (arith, ints, c.fitting-2.ensures) in
    let third : c.fitting-3.result ≡ pos target.entry = omega (arith, ints, c.fitting-3.ensures) in
    let N : Built → Built → ℤ → Type 0 = λ x y z. Emitted x y (λ qs. NumberAt qs level z (size x.operators) (size y.operators)) in
    on_ok_weaker c.append_plain.result
    (λ h sc later fit.
    go_to_part c.args.self.now.known.now sc later level c.args.n.now target a b d e f c.append_plain.new.out fit c.target_of-target.ensures c.in_ok-append_intrinsic.ensures.code
    (subst (N b d) first (leveled (λ l qs. NumberAt qs l c.fitting.result (size b.operators) (size d.operators)) level q c.in_ok-append_number.ensures.code))
    (subst (N d e) second (leveled (λ l qs. NumberAt qs l c.fitting-2.result (size d.operators) (size e.operators)) level r c.in_ok-append_number-2.ensures.code))
    (subst (N e f) third (leveled (λ l qs. NumberAt qs l c.fitting-3.result (size e.operators) (size f.operators)) level t c.in_ok-append_number-3.ensures.code))
    (plain_at kinds.Entr level u h))
    c.append_plain.ensures.code

pub returns-clause-size : goal.returns-clause-size
returns-clause-size g c =
    on_ok_weaker c.append_plain.result
    (λ h. omega (arith, h, c.in_ok-append_number-3.ensures.size, c.in_ok-append_number-2.ensures.size, c.in_ok-append_number.ensures.size, c.in_ok-append_intrinsic.ensures.size))
    c.append_plain.ensures.size
