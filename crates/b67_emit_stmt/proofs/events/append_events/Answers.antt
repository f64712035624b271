use Rattle.std.proofs.Common.{◌≡◌, ◌∙◌, [], ◌∷◌, refl, arith}
use Rattle.b67_ops.specs.declared.PlainKind.TheVariants as kinds
use Rattle.b67_ops.specs.declared.intrinsic.Intrinsic.TheVariants.{Event}
use Rattle.b67_segment.specs.Operators.{size}
use Rattle.b67_segment.specs.Building.{level_set}
use Rattle.b67_segment.proofs.Cited.{set_after}
use Rattle.b67_templates.specs.Fragments.{AllAt, IntrinsicAt}
use Rattle.b67_emitter.proofs.Appends.{same_level}
use Rattle.b67_emit_stmt.proofs.Eventful.{events_more, none_made}
use Rattle.b67_emit_stmt.proofs.Parts.{leveled}
use Rattle.b67_emit_stmt.proofs.events.append_events.Goals as goal

pub events-init : goal.events-init
events-init c =
    let a = c.args.out.now in
    record {
      within = omega arith;
      level = refl;
      wide = omega arith;
      code = λ sc later ns none. none_made sc later (level_set a) a ns none;
    }

pub append_intrinsic-requires : goal.append_intrinsic-requires
append_intrinsic-requires c =
    record {
      set = set_after c.args.out.now c.events.out c.events.invariant.level c.requires.set;
      room = omega (arith, c.events-test.true, c.events.invariant.wide, c.requires.room);
    }

pub append_all-requires-clause-room : goal.append_all-requires-clause-room
append_all-requires-clause-room c = omega (arith, c.in_ok-append_intrinsic.ensures.size, c.events-test.true, c.events.invariant.wide, c.requires.room)

pub events-preserved : goal.events-preserved
events-preserved c =
    let a = c.args.out.now in
    let b = c.events.out in
    let d = c.append_intrinsic.new.out in
    let e = c.append_all.new.out in
    let level = level_set a in
    let q = same_level a b c.events.invariant.level in
    let first = c.in_ok-append_intrinsic.ensures in
    let last = c.in_ok-append_all.ensures in
    record {
      within = omega (arith, c.events-test.true);
      level = last.level ∙ first.level ∙ c.events.invariant.level;
      wide = omega (arith, first.size, last.size, c.events.invariant.wide);
      code = λ sc later ns count.
          events_more sc later level a b d e c.events.counter (c.events.invariant.code sc later)
          (leveled (λ l qs. IntrinsicAt qs l Event (size b.operators) (size d.operators)) level q first.code)
          (leveled (λ l qs. AllAt qs l (kinds.Entr ∷ kinds.Push ∷ []) (size d.operators) (size e.operators)) level (same_level b d first.level ∙ q) last.code) ns count;
    }

pub returns-clause-code : goal.returns-clause-code
returns-clause-code c =
    let all : c.events.counter ≡ c.args.many = omega (arith, c.events-test.false, c.events.invariant.within) in
    λ sc later ns count. c.events.invariant.code sc later ns (omega (arith, count, all))

pub returns-clause-size : goal.returns-clause-size
returns-clause-size c = omega (arith, c.events-test.false, c.events.invariant.within, c.events.invariant.wide)
