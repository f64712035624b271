use Rattle.std.proofs.Common.{◌≡◌, subst, refl}
use Rattle.std.specs.Fmt.{decimal}
use Rattle.b67_text.specs.Texts.{PartStands}
use Rattle.b67_text.specs.Numerals.{NumberIsIn, spelled}
use Rattle.b67_text.proofs.Fronts.{stands_more, field_stops}
use Rattle.b67_text.proofs.number.read_number.Goals as goal

pub returns-in-Some-clause-read : goal.returns-in-Some-clause-read
returns-in-Some-clause-read c = (
  c.if-contains.ensures.0 refl,
  stands_more (decimal c.in-Some.number) c.args.bytes.now c.args.at c.read_digits-digits.result.1 c.args.end
      (subst (λ o. PartStands (spelled o) c.args.bytes.now c.args.at c.read_digits-digits.result.1) c.in-Some.is c.read_digits-digits.ensures.stand)
      (c.if-stands_at.ensures.0 refl),
)

pub returns-in_default-clause-refused : goal.returns-in_default-clause-refused
returns-in_default-clause-refused c =
    field_stops c.args.numbers.now c.args.bytes.now c.args.at c.read_digits-digits.result.1 c.args.end c.read_digits-digits.result.0 c.requires.end c.read_digits-digits.ensures
    (λ n e is here. let wrong = c.if-stands_at.ensures.1 here in cc)

pub returns-in_default-2-clause-refused : goal.returns-in_default-2-clause-refused
returns-in_default-2-clause-refused c =
    field_stops c.args.numbers.now c.args.bytes.now c.args.at c.read_digits-digits.result.1 c.args.end c.read_digits-digits.result.0 c.requires.end c.read_digits-digits.ensures
    (λ n e is here. let same : n ≡ c.in-Some.number = (let s = c.in-Some.is in cc) in let wrong = c.if-contains.ensures.1 (subst (NumberIsIn c.args.numbers.now) same is) in cc)

pub returns-in_default-3-clause-refused : goal.returns-in_default-3-clause-refused
returns-in_default-3-clause-refused c =
    field_stops c.args.numbers.now c.args.bytes.now c.args.at c.read_digits-digits.result.1 c.args.end c.read_digits-digits.result.0 c.requires.end c.read_digits-digits.ensures
    (λ n e is here. let s = c.in_default.is in cc)
