use Rattle.std.proofs.Common.{◌≡◌, ◌+◌, ◌-◌, ◌∷◌, [], ◌++◌, ap, sym, subst, refl, ◌∙◌, arith}
use Rattle.std.specs.Fmt.{decimal}
use Rattle.b67_text.specs.Numerals.{spelled, BeginsOne, lengthened}
use Rattle.b67_text.proofs.Beginnings.{next_digit, lengthens, not_lengthened, begins_by, can_begin_by}
use Rattle.b67_text.proofs.number.Numbers.with_digit.Goals as goal

pub returns-then-not-is_ascii_digit : goal.returns-then-not-is_ascii_digit
returns-then-not-is_ascii_digit c h =
    let d = next_digit c.args.self.now (spelled c.args.before) c.args.byte h in
    let f = c.if-not-is_ascii_digit.ensures.cases in omega (arith, f, d.0, d.1)

pub returns-in-Some : goal.returns-in-Some
returns-in-Some c =
    let digit = c.args.byte - 48 in
    let f = c.if-not-is_ascii_digit.ensures.cases in
    let same : c.from.result ≡ digit = c.from.ensures in
    let l = lengthens c.args.before digit c.in-Some.number (omega arith) (ap (lengthened c.args.before) (sym same) ∙ sym c.in-Some.ensures) in
    (l.small, (l.spelled_is ∙ ap (λ d. spelled c.args.before ++ d ∷ []) (omega arith)), begins_by c.args.self.now c.in-Some.number (c.if-can_begin.ensures.0 refl))

pub returns-in_default : goal.returns-in_default
returns-in_default c h =
    let digit = c.args.byte - 48 in
    let f = c.if-not-is_ascii_digit.ensures.cases in
    let same : c.from.result ≡ digit = c.from.ensures in
    let l = lengthens c.args.before digit c.in-Some.number (omega arith) (ap (lengthened c.args.before) (sym same) ∙ sym c.in-Some.ensures) in
    let is : spelled c.args.before ++ c.args.byte ∷ [] ≡ decimal c.in-Some.number = ap (λ d. spelled c.args.before ++ d ∷ []) (omega arith) ∙ sym l.spelled_is in
    let wrong = c.if-can_begin.ensures.1 (can_begin_by c.args.self.now c.in-Some.number c.requires.least l.small (subst (BeginsOne c.args.self.now) is h)) in cc

pub returns-in_default-2 : goal.returns-in_default-2
returns-in_default-2 c h =
    let digit = c.args.byte - 48 in
    let f = c.if-not-is_ascii_digit.ensures.cases in
    let same : c.from.result ≡ digit = c.from.ensures in
    let is : spelled c.args.before ++ c.args.byte ∷ [] ≡ spelled c.args.before ++ (48 + digit) ∷ [] = ap (λ d. spelled c.args.before ++ d ∷ []) (omega arith) in
    not_lengthened c.args.self.now c.args.before digit (omega arith) c.requires.before (ap (lengthened c.args.before) (sym same) ∙ sym c.in_default.ensures) (subst (BeginsOne c.args.self.now) is h)
