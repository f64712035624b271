use Rattle.std.proofs.Common.{◌≡◌, refl, true, false}
use Rattle.b67_words.proofs.number_of.Goals as goal
use Rattle.b67_words.proofs.Numbers.{first_digit, reads, kept}

pub returns-then-not-begins_with_digit : goal.returns-then-not-begins_with_digit
returns-then-not-begins_with_digit c =
    λ n is. let wrong : false ≡ true = c.if-not-begins_with_digit.ensures.1 (first_digit c.args.most c.args.text.now n c.ranges.most.fits is) in cc

pub returns-in_default : goal.returns-in_default
returns-in_default c = λ n is. let e = reads c.args.most c.args.text.now n c.parse.result c.ranges.most.fits c.parse.ensures.value.0 is in let f = c.in_default.is in cc

pub returns : goal.returns
returns c =
    kept c.args.most c.args.text.now c.in-Ok.number c.parse.result _ c.then_some.result c.ranges.most.fits c.parse.ensures.value.0 c.in-Ok.is
    (c.if-not-begins_with_digit.ensures.0 refl).0 refl c.then_some.ensures
