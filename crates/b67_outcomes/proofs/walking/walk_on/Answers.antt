use Rattle.std.proofs.Common.{◌≡◌, refl, ap, subst, ◌∙◌, ℕ, ◌+◌, ◌<◌, List, length, take, get_or, arith}
use Rattle.std.proofs.Math.Seq.{take-length}
use Rattle.b67_segment.specs.declared.code.Code.{Code}
use Rattle.b67_outcomes.specs.Entering.{HasRoom, ProcessEnters}
use Rattle.b67_outcomes.specs.Finding.{IsAfter}
use Rattle.b67_outcomes.proofs.Histories.{after_none, part_leads, path_may, path_after, path_entered}
use Rattle.b67_outcomes.proofs.Rooms.{for_one, after_one, after_more}
use Rattle.b67_outcomes.proofs.walking.walk_on.Goals as goal

pub walk-requires : goal.walk-requires
walk-requires g c =
    let begun = part_leads (g.W.Walker.code c.args.walker.now) c.args.steps.now c.args.number c.args.path.now 0 c.requires.leads.0 c.requires.leads.1 in
    record {
      known = c.requires.known;
      led = record { history = begun.1.history; image = begun.0; is = begun.1.is; leads = begun.1.leads };
      short = omega (arith, c.requires.short);
    }

pub entries-init : goal.entries-init
entries-init g c = (
  c.walk.ensures.code,
  omega arith,
  after_none (g.W.Walker.code c.args.walker.now) c.args.steps.now c.args.number _ (g.W.Walker.image c.walk.new.walker) refl c.in_ok-walk.ensures.at,
  after_more (g.W.Walker.Room c.walk.new.walker) c.args.number (c.args.number + 0) (omega arith) c.in_ok-walk.ensures.room,
)

pub enter-requires-clause-room : goal.enter-requires-clause-room
enter-requires-clause-room g c =
    let i = c.entries.invariant in
    for_one (g.W.Walker.Room c.entries.walker) (c.args.number + c.entries.done) (omega (arith, c.entries-test.true, c.requires.short)) i.3

pub enter-requires-clause-may : goal.enter-requires-clause-may
enter-requires-clause-may g c =
    let i = c.entries.invariant in
    path_may (g.W.Walker.code c.args.walker.now) c.args.steps.now c.args.number c.args.path.now c.entries.done c.requires.leads.0
    (g.W.Walker.image c.entries.walker) (omega (arith, c.entries-test.true)) c.requires.leads.1 i.2

pub entries-preserved : goal.entries-preserved
entries-preserved g c =
    let i = c.entries.invariant in
    let below : c.entries.done < length c.args.path.now = omega (arith, c.entries-test.true) in (
      c.enter.ensures.code ∙ i.0,
      omega (arith, below),
      path_after (g.W.Walker.code c.args.walker.now) c.args.steps.now c.args.number c.args.path.now c.entries.done c.requires.leads.0
          (g.W.Walker.image c.entries.walker) (g.W.Walker.image c.enter.new.self) c.in_ok-enter.field-0 below c.requires.leads.1 i.2
          (subst (λ (k : Code). ProcessEnters k (get_or c.args.path.now c.entries.done 0) (g.W.Walker.image c.entries.walker) c.in_ok-enter.field-0
          (g.W.Walker.image c.enter.new.self)) i.0 c.in_ok-enter.ensures.entered),
      let is =
          path_entered (g.W.Walker.code c.args.walker.now) c.args.steps.now c.args.number c.args.path.now c.entries.done c.requires.leads.0
          (g.W.Walker.image c.entries.walker) (g.W.Walker.image c.enter.new.self) c.in_ok-enter.field-0 below c.requires.leads.1 i.2
          (subst (λ (k : Code). ProcessEnters k (get_or c.args.path.now c.entries.done 0) (g.W.Walker.image c.entries.walker) c.in_ok-enter.field-0
          (g.W.Walker.image c.enter.new.self)) i.0 c.in_ok-enter.ensures.entered) in
          let next : c.args.number + c.entries.done + 1 ≡ c.args.number + (c.entries.done + 1) = omega arith in
          subst (λ (n : ℕ). HasRoom (g.W.Walker.Room c.enter.new.self) n) next
          (after_one (g.W.Walker.Room c.entries.walker) (g.W.Walker.Room c.enter.new.self) (c.args.number + c.entries.done)
          (omega (arith, below, c.requires.short)) i.3 (c.in_ok-enter.ensures.room is)),
    )

pub returns-clause-room : goal.returns-clause-room
returns-clause-room g c =
    let i = c.entries.invariant in
    after_more (g.W.Walker.Room c.entries.walker) (c.args.number + c.entries.done) (c.args.number + length c.args.path.now) (omega (arith, i.1)) i.3

pub returns-clause-after : goal.returns-clause-after
returns-clause-after g c =
    let i = c.entries.invariant in
    let all : c.entries.done ≡ length c.args.path.now = omega (arith, c.entries-test.false, i.1) in
    subst (λ (z : List ℕ). IsAfter (g.W.Walker.code c.args.walker.now) c.args.steps.now c.args.number z (g.W.Walker.image c.entries.walker))
    (ap (λ (k : ℕ). take k c.args.path.now) all ∙ take-length c.args.path.now) i.2
