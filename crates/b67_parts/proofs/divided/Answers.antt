use Rattle.std.proofs.Common.{refl, ℕ, ◌≢◌, ◌<◌, List, length, get_or, subst}
use Rattle.b67_parts.specs.Parts.{RecordBegins, IsFirstLineFeed}
use Rattle.b67_parts.proofs.divided.Goals as goal
use Rattle.b67_parts.proofs.Marks.{rest_at, first_at, nowhere, later, next_records}

pub returns-in-Some : goal.returns-in-Some
returns-in-Some c =
    let kept = c.records.invariant in
    let rest = rest_at c.args.bytes.now c.records.from in
    first_at c.args.mark.now c.args.bytes.now c.in-Some.text.now c.records.from kept.0 kept.1 kept.2
    (subst (λ bytes. RecordBegins c.args.mark.now bytes c.in-Some.text.now) rest c.in-Some.ensures)

pub returns-in_default-first_line_feed : goal.returns-in_default-first_line_feed
returns-in_default-first_line_feed c =
    let rest = rest_at c.args.bytes.now c.records.from in (
      refl,
      nowhere c.args.mark.now c.args.bytes.now c.records.from c.records.invariant.2
          (subst (λ bytes. (text : List ℕ) → RecordBegins c.args.mark.now bytes text → ⊥) rest c.in_default.ensures)
          (subst (λ bytes. (k : ℕ) → k < length bytes → get_or bytes k 0 ≢ 10) rest c.in_default-first_line_feed.ensures),
    )

pub records-preserved : goal.records-preserved
records-preserved c =
    let kept = c.records.invariant in
    let rest = rest_at c.args.bytes.now c.records.from in
    let first = subst (λ bytes. IsFirstLineFeed bytes c.in-Some-first_line_feed.place) rest c.in-Some-first_line_feed.ensures in
    let next = next_records c.args.bytes.now c.records.from c.in-Some-first_line_feed.place kept.0 first in (
      next.0,
      next.1,
      later c.args.mark.now c.args.bytes.now c.records.from c.in-Some-first_line_feed.place kept.2
          (subst (λ bytes. (text : List ℕ) → RecordBegins c.args.mark.now bytes text → ⊥) rest c.in_default.ensures) first,
    )
