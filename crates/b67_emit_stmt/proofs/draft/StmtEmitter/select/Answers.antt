use Rattle.std.proofs.Common.{◌≡◌, ◌+◌, ◌∙◌, ℤ, pos, length, refl, subst, arith}
use Rattle.std.proofs.lemmas.Int.{ints}
use Rattle.std.proofs.lemmas.Result.{on_ok_weaker}
use Rattle.algol_tree.specs.declared.tree.Kind.TheVariants as types
use Rattle.algol_tree.specs.Image.{expr}
use Rattle.b67_ops.specs.declared.Operator.TheVariants as ops
use Rattle.b67_ops.specs.declared.PlainKind.TheVariants as kinds
use Rattle.b67_ops.specs.Spelling.{spelling}
use Rattle.b67_segment.specs.Operators.{size}
use Rattle.b67_segment.specs.Building.{level_set}
use Rattle.b67_segment.proofs.Cited.{set_after}
use Rattle.b67_templates.specs.Fragments.{Has, NumberAt}
use Rattle.b67_templates.specs.Emitting.{Emitted}
use Rattle.b67_emitter.proofs.Appends.{same_level}
use Rattle.b67_emit_stmt.proofs.Parts.{code_at, leveled, on_ok_two, plain_at, value_at}
use Rattle.b67_emit_stmt.proofs.Tables.{select_part}
use Rattle.b67_emit_stmt.proofs.draft.StmtEmitter.select.Goals as goal

pub value-requires-clause-set : goal.value-requires-clause-set
value-requires-clause-set g c = set_after c.args.out.now c.append_intrinsic.new.out c.in_ok-append_intrinsic.ensures.code.level c.requires.set

pub value-requires-clause-code : goal.value-requires-clause-code
value-requires-clause-code g c =
    let a = c.args.out.now in
    let b = c.append_intrinsic.new.out in
    code_at c.args.self.now.known.now (level_set b) (level_set a) c.requires.fits.0 types.Number (expr c.args.e.now) (same_level a b c.in_ok-append_intrinsic.ensures.code.level)
    c.requires.fits.1

pub returns-clause-code : goal.returns-clause-code
returns-clause-code g c =
    let s = c.args.self.now.known.now in
    let a = c.args.out.now in
    let b = c.append_intrinsic.new.out in
    let d = c.value.new.out in
    let x = c.append_number.new.out in
    let y = c.append_operator.new.out in
    let z = c.append_plain.new.out in
    let e = expr c.args.e.now in
    let many = c.args.many in
    let place = c.place-table.result + 4 in
    let level = level_set a in
    let q = same_level a b c.in_ok-append_intrinsic.ensures.code.level in
    let r = same_level b d c.in_ok-value.ensures.level ∙ q in
    let t = same_level d x c.in_ok-append_number.ensures.level ∙ r in
    let u = same_level x y c.in_ok-append_operator.ensures.level ∙ t in
    let number : c.fitting.result ≡ pos many = omega (arith, ints, c.fitting.ensures, c.requires.few) in
    let three : length (spelling (size x.operators) (level_set x) (ops.Lt16 place)) ≡ 3 = refl in
    let N : ℤ → Type 0 = λ v. Emitted d x (λ qs. NumberAt qs level v (size d.operators) (size x.operators)) in
    on_ok_two c.append_plain.result
    (λ h wide sc later fit.
    select_part sc later level many e a b d x y z place (omega (arith, c.place-table.ensures, three, c.in_ok-append_operator.ensures.size, wide))
    (omega (arith, c.place-table.ensures, c.in_ok-append_number.ensures.size, c.in_ok-value.ensures.size, c.in_ok-append_intrinsic.ensures.size, c.requires.room))
    c.in_ok-append_intrinsic.ensures.code (value_at s b d level sc later types.Number e q c.in_ok-value.ensures.code fit)
    (subst N number (leveled (λ l qs. NumberAt qs l c.fitting.result (size d.operators) (size x.operators)) level r c.in_ok-append_number.ensures.code))
    (leveled (λ l qs. Has qs l (size x.operators) (ops.Lt16 place) (size y.operators)) level t c.in_ok-append_operator.ensures.code)
    (plain_at kinds.Entr level u h))
    c.append_plain.ensures.code c.append_plain.ensures.size

pub returns-clause-size : goal.returns-clause-size
returns-clause-size g c =
    on_ok_weaker c.append_plain.result
    (λ h. omega (arith, h, c.in_ok-append_operator.ensures.size, c.in_ok-append_number.ensures.size, c.in_ok-value.ensures.size, c.in_ok-append_intrinsic.ensures.size))
    c.append_plain.ensures.size
