use Rattle.std.proofs.Common.{arith, refl}
use Rattle.b67_text.proofs.Fronts.{stands_more}
use Rattle.b67_schedule.specs.Letters.{bytes_of}
use Rattle.b67_schedule.proofs.LetterLines.{letters_stop}
use Rattle.b67_schedule.proofs.lines.read_letters.Goals as goal

pub returns-then-times-eq0-clause-refused : goal.returns-then-times-eq0-clause-refused
returns-then-times-eq0-clause-refused c =
    letters_stop c.args.bytes.now c.args.at c.in_ok-times.next c.in_ok-times.times c.args.letters.now.items c.read_most.new.letters.items c.in_ok-times.ensures (λ least here. omega arith)

pub returns-then-not-ends_at-clause-refused : goal.returns-then-not-ends_at-clause-refused
returns-then-not-ends_at-clause-refused c =
    letters_stop c.args.bytes.now c.args.at c.in_ok-times.next c.in_ok-times.times c.args.letters.now.items c.read_most.new.letters.items c.in_ok-times.ensures
    (λ least here. let wrong = c.if-not-ends_at.ensures.1 here in cc)

pub returns-clause-read : goal.returns-clause-read
returns-clause-read c =
    let m = c.in_ok-times.ensures in (
      m.letters,
      omega (arith, m.times_are),
      m.few,
      m.times_are,
      m.added,
      stands_more (bytes_of m.letters) c.args.bytes.now c.args.at c.in_ok-times.next 10 m.stand (c.if-not-ends_at.ensures.0 refl),
    )
