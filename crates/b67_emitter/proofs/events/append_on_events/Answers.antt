use Rattle.std.proofs.Common.{ℕ, Option, sym, subst, ◌∙◌, arith}
use Rattle.std.specs.Prelude.{IsSome}
use Rattle.std.proofs.lemmas.List.{length-take-le}
use Rattle.std.proofs.lemmas.Result.{on_ok_weaker}
use Rattle.b67_ops.specs.Spelling.{CoupleIsSeen}
use Rattle.b67_segment.specs.Building.{level_set}
use Rattle.b67_emitter.proofs.Appends.{same_level}
use Rattle.b67_emitter.proofs.OnEvents.{known_event, seen_event, has_at, referred_first, referred_more, referred_whole, events_form}
use Rattle.b67_emitter.proofs.events.append_on_events.Goals as goal

pub events-init : goal.events-init
events-init c = referred_first c.args.names.now c.append_intrinsic.new.out

pub couple_of-requires : goal.couple_of-requires
couple_of-requires c =
    let level = level_set c.args.out.now in
    let e = c.event-item.result in
    known_event c.args.names.now level e.name (has_at c.args.names.now level c.args.events.now c.events.event-index e e c.events-test.true c.event-item.is c.requires.code)

pub append_reference-requires-clause-set : goal.append_reference-requires-clause-set
append_reference-requires-clause-set c =
    subst (λ (o : Option ℕ). IsSome o) (sym (c.events.invariant.level ∙ c.in_ok-append_intrinsic.ensures.level)) c.requires.set

pub append_reference-requires-clause-seen : goal.append_reference-requires-clause-seen
append_reference-requires-clause-seen c =
    let level = level_set c.args.out.now in
    let e = c.event-item.result in
    let same = same_level c.args.out.now c.events.out (c.events.invariant.level ∙ c.in_ok-append_intrinsic.ensures.level) in
    let has = has_at c.args.names.now level c.args.events.now c.events.event-index e e c.events-test.true c.event-item.is c.requires.code in
    subst (λ (n : ℕ). CoupleIsSeen n c.couple_of.result) (sym same) (seen_event c.args.names.now level e.name c.couple_of.result c.requires.near c.couple_of.ensures has)

pub append_reference-requires-clause-room : goal.append_reference-requires-clause-room
append_reference-requires-clause-room c =
    omega (
      arith,
      c.events.invariant.wide,
      length-take-le c.events.event-index c.args.events.now (omega (arith, c.events-test.true)),
      c.events-test.true,
      c.in_ok-append_intrinsic.ensures.size,
      c.requires.room,
    )

pub events-preserved : goal.events-preserved
events-preserved c =
    referred_more c.args.names.now c.args.events.now c.events.event-index c.event-item.result c.couple_of.result c.append_intrinsic.new.out c.events.out c.append_reference.new.out
    c.events-test.true c.event-item.is c.couple_of.ensures c.events.invariant c.in_ok-append_reference.ensures.code c.in_ok-append_reference.ensures.level
    c.in_ok-append_reference.ensures.size

pub append_plain-requires-clause-set : goal.append_plain-requires-clause-set
append_plain-requires-clause-set c =
    subst (λ (o : Option ℕ). IsSome o) (sym (c.events.invariant.level ∙ c.in_ok-append_intrinsic.ensures.level)) c.requires.set

pub append_plain-requires-clause-room : goal.append_plain-requires-clause-room
append_plain-requires-clause-room c =
    let all = referred_whole c.args.names.now c.args.events.now c.events.event-index c.append_intrinsic.new.out c.events.out c.events-test.false c.events.invariant in
    omega (arith, all.wide, c.in_ok-append_intrinsic.ensures.size, c.requires.room)

pub returns-clause-code : goal.returns-clause-code
returns-clause-code c =
    let all = referred_whole c.args.names.now c.args.events.now c.events.event-index c.append_intrinsic.new.out c.events.out c.events-test.false c.events.invariant in
    on_ok_weaker c.append_plain.result
    (events_form c.args.names.now c.args.intrinsic c.args.events.now c.args.out.now c.append_intrinsic.new.out c.events.out c.append_plain.new.out
    c.in_ok-append_intrinsic.ensures.level c.in_ok-append_intrinsic.ensures.code all)
    c.append_plain.ensures.code

pub returns-clause-level : goal.returns-clause-level
returns-clause-level c =
    on_ok_weaker c.append_plain.result (λ l. l ∙ c.events.invariant.level ∙ c.in_ok-append_intrinsic.ensures.level) c.append_plain.ensures.level

pub returns-clause-size : goal.returns-clause-size
returns-clause-size c =
    let all = referred_whole c.args.names.now c.args.events.now c.events.event-index c.append_intrinsic.new.out c.events.out c.events-test.false c.events.invariant in
    on_ok_weaker c.append_plain.result (λ wide. omega (arith, all.wide, c.in_ok-append_intrinsic.ensures.size, wide)) c.append_plain.ensures.size
