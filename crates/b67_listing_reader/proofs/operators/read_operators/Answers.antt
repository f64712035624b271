use Rattle.std.proofs.Common.{◌∷◌, [], ◌++◌, ◌∙◌, ap, arith}
use Rattle.b67_segment.specs.Building.{Built, level_set}
use Rattle.b67_listing_reader.specs.Reading.{TellsNone, LinesTell}
use Rattle.b67_listing_reader.proofs.Bodies.{line_at, tells_all, tells_no_more, tells_too_much, tell_more}
use Rattle.b67_listing_reader.proofs.operators.read_operators.Goals as goal

pub returns-in_default : goal.returns-in_default
returns-in_default c =
    let line = c.bytes.result.now in
    let place = c.place-place.result in
    let none : TellsNone line place = rw c.in_default.is at c.in_ok-told.ensures.tells in
    tells_all c.args.lines.now c.args.at c.args.most c.operators.builder.operators c.operators.next place line c.operators.invariant c.place-place.ensures
    (line_at c.args.lines.now c.operators.next line c.index-lines-next.result c.operators-test.true c.bytes.ensures c.index-lines-next.is) (tells_no_more line place c.args.most none)

pub returns-then-from-told : goal.returns-then-from-told
returns-then-from-told c =
    let line = c.bytes.result.now in
    let place = c.place-place.result in
    let one : LinesTell line place c.in-Some.told = rw c.in-Some.is at c.in_ok-told.ensures.tells in
    tells_all c.args.lines.now c.args.at c.args.most c.operators.builder.operators c.operators.next place line c.operators.invariant c.place-place.ensures
    (line_at c.args.lines.now c.operators.next line c.index-lines-next.result c.operators-test.true c.bytes.ensures c.index-lines-next.is)
    (tells_too_much line place c.args.most c.in-Some.told one (λ fits. omega (arith, c.if-from-told.true, c.from.ensures)))

pub operators-preserved : goal.operators-preserved
operators-preserved c =
    let line = c.bytes.result.now in
    let place = c.place-place.result in
    let told = c.in-Some.told in
    let one : LinesTell line place told = rw c.in-Some.is at c.in_ok-told.ensures.tells in
    tell_more c.args.lines.now c.args.at c.args.most c.operators.builder.operators c.append.new.self.operators c.operators.next line place told c.operators.invariant c.operators-test.true
    (line_at c.args.lines.now c.operators.next line c.index-lines-next.result c.operators-test.true c.bytes.ensures c.index-lines-next.is) c.place-place.ensures one (omega (arith, c.if-from-told.false, c.from.ensures))
    (ap (λ (b : Built). b.operators) c.in_ok-append.ensures.ok ∙ ap (λ (b : Built). b.operators ++ record { level = level_set b; operator = told.operator } ∷ []) c.in_ok-level.ensures.ok)
