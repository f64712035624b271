use Rattle.std.proofs.Common.{◌≡◌, ◌-◌, ◌≤◌, ◌∙◌, ◌%◌, length, ap, sym, subst, refl, arith}
use Rattle.std.proofs.lemmas.List.{length-take}
use Rattle.b67_ops.specs.Spelling.{OperatorStands}
use Rattle.b67_listing_reader.specs.Reading.{LinesTell}
use Rattle.b67_listing_reader.proofs.Telling.{no_syllables, no_end, tells}
use Rattle.b67_listing_reader.proofs.operators.read_operator.Goals as goal

pub returns-in_default-decode-clause-tells : goal.returns-in_default-decode-clause-tells
returns-in_default-decode-clause-tells c =
    let old = c.in_ok-syllables.syllables.items in
    let new = c.push_syllables_in.new.syllables.items in
    let level = c.in-Some.level in
    let before : length old ≡ c.args.place % 6 = omega (arith, simp length-take at (ap length c.in_ok-syllables.ensures.items), c.from-before.ensures) in
    let same : length old ≡ c.from-before.result = omega (arith, before, c.from-before.ensures) in
    no_syllables c.args.line.now old new c.in-Some.digits.now level c.args.place before c.in-Some.ensures.value c.in_ok-push_syllables_in.ensures
    (λ op next stands.
    let s : OperatorStands c.as_slice.result.now c.from-before.result level op next =
    subst (λ k. OperatorStands c.as_slice.result.now k level op next) same (subst (λ bs. OperatorStands bs (length old) level op next) (sym c.as_slice.ensures.value) stands) in
    let e = (c.decode.ensures.ok op next).1 s in
    let f = sym c.in_default-decode.is ∙ e in
    cc)

pub returns-then-next-len-clause-tells : goal.returns-then-next-len-clause-tells
returns-then-next-len-clause-tells c =
    let old = c.in_ok-syllables.syllables.items in
    let new = c.push_syllables_in.new.syllables.items in
    let level = c.in-Some.level in
    let op = c.in-Ok.operator in
    let next = c.in-Ok.next in
    let before : length old ≡ c.args.place % 6 = omega (arith, simp length-take at (ap length c.in_ok-syllables.ensures.items), c.from-before.ensures) in
    let same : c.from-before.result ≡ length old = omega (arith, before, c.from-before.ensures) in
    let s : OperatorStands c.as_slice.result.now c.from-before.result level op next = (c.decode.ensures.ok op next).0 c.in-Ok.is in
    let stands : OperatorStands new (length old) level op next =
    subst (λ k. OperatorStands new k level op next) same (subst (λ bs. OperatorStands bs c.from-before.result level op next) c.as_slice.ensures.value s) in
    no_end c.args.line.now old new c.in-Some.digits.now level c.args.place op next before c.in-Some.ensures.most c.in-Some.ensures.value c.in_ok-push_syllables_in.ensures stands
    (λ e. omega (arith, c.if-next-len.true, c.len.ensures, c.push_syllables_in.new.syllables.ok.0))

pub returns-clause-tells : goal.returns-clause-tells
returns-clause-tells c =
    let old = c.in_ok-syllables.syllables.items in
    let new = c.push_syllables_in.new.syllables.items in
    let level = c.in-Some.level in
    let op = c.in-Ok.operator in
    let next = c.in-Ok.next in
    let before : length old ≡ c.args.place % 6 = omega (arith, simp length-take at (ap length c.in_ok-syllables.ensures.items), c.from-before.ensures) in
    let same : c.from-before.result ≡ length old = omega (arith, before, c.from-before.ensures) in
    let s : OperatorStands c.as_slice.result.now c.from-before.result level op next = (c.decode.ensures.ok op next).0 c.in-Ok.is in
    let stands : OperatorStands new (length old) level op next =
    subst (λ k. OperatorStands new k level op next) same (subst (λ bs. OperatorStands bs c.from-before.result level op next) c.as_slice.ensures.value s) in
    let within : next ≤ length new = omega (arith, c.in-Ok.ensures.within, ap length c.as_slice.ensures.value) in
    let ends : next ≡ length new = omega (arith, within, c.if-next-len.false, c.len.ensures, c.push_syllables_in.new.syllables.ok.0) in
    subst (λ k. LinesTell c.args.line.now c.args.place (record { level = level; operator = op; width = next - k })) (sym same)
    (tells c.args.line.now old new c.in-Some.digits.now level c.args.place op next _ before c.in-Some.ensures.least c.in-Some.ensures.most c.in-Some.ensures.value c.in_ok-push_syllables_in.ensures stands ends refl)
