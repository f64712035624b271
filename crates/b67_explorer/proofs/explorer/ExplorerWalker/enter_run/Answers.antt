use Rattle.std.proofs.Common.{◌≡◌, refl, sym, ◌∙◌, subst, ℕ, ◌+◌, ◌-◌, ◌++◌, arith}
use Rattle.std.specs.Prelude.{replicate}
use Rattle.b67_segment.specs.declared.code.Code.{Code}
use Rattle.b67_faithful.specs.Faithful.{Faithful}
use Rattle.b67_outcomes.specs.Entering.{IsReached, Repeats, none}
use Rattle.b67_outcomes.proofs.Repeating.{joined, led_repeats, left_over}
use Rattle.b67_explorer.specs.Entries.{EntriesFit}
use Rattle.b67_explorer.proofs.Performed.{repeats_number}
use Rattle.b67_explorer.proofs.explorer.ExplorerWalker.enter_run.Goals as goal

pub entries-init : goal.entries-init
entries-init g c = (
  refl,
  omega arith,
  none,
  λ k fit.
      let all : c.args.count + k ≡ c.args.count - 0 + k = omega arith in
      subst (λ (n : ℕ). EntriesFit c.args.self.now.machine n) all fit,
)

pub go_some-requires-clause-known : goal.go_some-requires-clause-known
go_some-requires-clause-known g c =
    (c.requires.known.0, subst (λ (k : Code). Faithful c.requires.known.0 k) (sym c.entries.invariant.0) c.requires.known.1)

pub go_some-requires-clause-reached : goal.go_some-requires-clause-reached
go_some-requires-clause-reached g c =
    let i = c.entries.invariant in
    let old = c.args.self.now.machine in
    let r = c.requires.reached in
    subst (λ (k : Code). IsReached k c.entries.self.machine.image) (sym i.0) (
      replicate c.entries.done c.args.process ++ r.0,
      led_repeats old.code c.args.process c.entries.done r.0 old.image c.entries.self.machine.image r.1 i.2,
    )

pub go_some-requires-clause-room : goal.go_some-requires-clause-room
go_some-requires-clause-room g c = let room = c.requires.room in (room.0, c.entries.invariant.3 room.0 room.1)

pub go_some-requires-clause-has : goal.go_some-requires-clause-has
go_some-requires-clause-has g c =
    let i = c.entries.invariant in
    let old = c.args.self.now.machine in
    let here = c.entries.self.machine.image in
    let p = c.args.process in (
      c.requires.has.0,
      subst (λ (k : Code). Repeats k p (c.args.count - c.entries.done) here c.requires.has.0) (sym i.0)
          (left_over old.code p c.entries.done c.args.count old.image here c.requires.has.0 i.1 c.requires.has.1 i.2),
    )

pub entries-preserved : goal.entries-preserved
entries-preserved g c =
    let i = c.entries.invariant in
    let old = c.args.self.now.machine in
    let here = c.entries.self.machine.image in
    let there = c.go_some.new.self.machine.image in
    let p = c.args.process in
    let more = c.in_ok-done.field-0 in
    let within = c.in_ok-done.ensures.within in (
      c.go_some.ensures.code ∙ i.0,
      omega (arith, within, i.1),
      joined old.code p c.entries.done more (c.entries.done + more) old.image here there refl i.2
          (subst (λ (k : Code). Repeats k p more here there) i.0 c.in_ok-done.ensures.entered),
      λ k fit.
          let split : c.args.count - c.entries.done + k ≡ more + (c.args.count - (c.entries.done + more) + k) = omega (arith, within, i.1) in
          c.in_ok-done.ensures.room (c.args.count - (c.entries.done + more) + k)
          (subst (λ (n : ℕ). EntriesFit c.entries.self.machine n) split (i.3 k fit)),
    )

pub returns-clause-room : goal.returns-clause-room
returns-clause-room g c = λ k fit.
    let i = c.entries.invariant in
    let none_left : c.args.count - c.entries.done + k ≡ k = omega (arith, c.entries-test.false, i.1) in
    subst (λ (n : ℕ). EntriesFit c.entries.self.machine n) none_left (i.3 k fit)

pub returns-in_err-done-clause-number : goal.returns-in_err-done-clause-number
returns-in_err-done-clause-number g c =
    let old = c.args.self.now.machine in
    repeats_number old.code c.args.process c.args.count c.last_process-last.result old.image c.requires.has.0 c.requires.some c.requires.has.1 c.last_process-last.ensures.few
    c.last_process-last.ensures.all

pub returns-clause-number : goal.returns-clause-number
returns-clause-number g c =
    let old = c.args.self.now.machine in
    repeats_number old.code c.args.process c.args.count c.last_process-last.result old.image c.requires.has.0 c.requires.some c.requires.has.1 c.last_process-last.ensures.few
    c.last_process-last.ensures.all

pub returns-clause-entered : goal.returns-clause-entered
returns-clause-entered g c =
    let i = c.entries.invariant in
    let old = c.args.self.now.machine in
    let all : c.entries.done ≡ c.args.count = omega (arith, c.entries-test.false, i.1) in
    subst (λ (k : ℕ). Repeats old.code c.args.process k old.image c.entries.self.machine.image) all i.2
