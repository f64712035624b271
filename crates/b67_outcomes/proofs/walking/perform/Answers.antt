use Rattle.std.proofs.Common.{◌≡◌, sym, subst, ◌∙◌, ℕ, ◌+◌, ◌-◌, List, length, drop, get_or, arith}
use Rattle.std.specs.List.{All}
use Rattle.b67_segment.specs.declared.code.Code.{Code}
use Rattle.b67_table.specs.Image.{Image}
use Rattle.b67_outcomes.specs.Entering.{HasRoom, IsProcessNumber, IsReached, HistoryLeads, HistoryLeadsTo, Repeats}
use Rattle.b67_outcomes.proofs.Histories.{led_begun, numbers_begun}
use Rattle.b67_outcomes.proofs.Rooms.{begun, for_run, after_run, after_more}
use Rattle.b67_outcomes.proofs.Repeating.{has_repeats, led_repeats, numbers_repeat, part_leads}
use Rattle.b67_outcomes.proofs.walking.perform.Goals as goal

pub runs-init : goal.runs-init
runs-init g c = (
  c.restart.ensures.code,
  omega arith,
  led_begun (g.W.Walker.code c.args.walker.now) c.args.history.now (g.W.Walker.image c.restart.new.self) c.in_ok-restart.ensures.first,
  numbers_begun c.args.history.now,
  begun (g.W.Walker.Room c.restart.new.self) _ c.in_ok-restart.ensures.room,
)

pub enter_run-requires : goal.enter_run-requires
enter_run-requires g c =
    let i = c.runs.invariant in
    let code = g.W.Walker.code c.args.walker.now in
    let h = c.args.history.now in
    let here = g.W.Walker.image c.runs.walker in
    let p = get_or h (c.runs.left - 1) 0 in
    let rest = drop c.runs.left h in
    let leads = subst (λ (z : List ℕ). HistoryLeads code z) c.times-count.ensures.same (part_leads code h (c.runs.left - c.times-count.result) c.requires.leads) in
    let has = has_repeats code p c.times-count.result rest here leads i.2 in
    record {
      some = c.times-count.ensures.some;
      known = subst (λ (k : Code). g.W.Walker.Known k) (sym i.0) c.requires.known;
      has = subst (λ (k : Code). (img : Image) × Repeats k p c.times-count.result here img) (sym i.0) has;
      reached = subst (λ (k : Code). IsReached k here) (sym i.0) (rest, i.2);
      room = for_run (g.W.Walker.Room c.runs.walker) (length h - c.runs.left) c.times-count.result
          (omega (arith, i.1, c.times-count.ensures.within, c.requires.short)) i.4;
    }

pub runs-preserved : goal.runs-preserved
runs-preserved g c =
    let i = c.runs.invariant in
    let code = g.W.Walker.code c.args.walker.now in
    let h = c.args.history.now in
    let here = g.W.Walker.image c.runs.walker in
    let there = g.W.Walker.image c.enter_run.new.self in
    let p = get_or h (c.runs.left - 1) 0 in
    let rest = drop c.runs.left h in
    let count = c.times-count.result in
    let entered = subst (λ (k : Code). Repeats k p count here there) i.0 c.in_ok-enter_run.ensures.entered in (
      c.enter_run.ensures.code ∙ i.0,
      omega (arith, i.1),
      subst (λ (z : List ℕ). HistoryLeadsTo code z there) (sym c.times-count.ensures.same) (led_repeats code p count rest here there i.2 entered),
      subst (λ (z : List ℕ). All IsProcessNumber z) (sym c.times-count.ensures.same) (numbers_repeat count p rest c.enter_run.ensures.number i.3),
      let performed : length h - c.runs.left + count ≡ length h - (c.runs.left - count) = omega (arith, i.1, c.times-count.ensures.within) in
          subst (λ (n : ℕ). HasRoom (g.W.Walker.Room c.enter_run.new.self) n) performed
          (after_run (g.W.Walker.Room c.runs.walker) (g.W.Walker.Room c.enter_run.new.self) (length h - c.runs.left) count
          (omega (arith, i.1, c.times-count.ensures.within, c.requires.short)) i.4 c.in_ok-enter_run.ensures.room),
    )

pub returns-clause-room : goal.returns-clause-room
returns-clause-room g c =
    let i = c.runs.invariant in
    after_more (g.W.Walker.Room c.runs.walker) (length c.args.history.now - c.runs.left) (length c.args.history.now) (omega arith) i.4
