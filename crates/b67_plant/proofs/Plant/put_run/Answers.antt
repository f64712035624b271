use Rattle.b67_deeds.specs.declared.Letter.{Letter}
use Rattle.std.proofs.Common.{List, length, ◌≡◌, ◌^◌, true, ◌+◌, ◌≤◌, ◌<◌, ℕ, sym, ap, subst, ◌∙◌, None, arith}
use Rattle.std.proofs.lemmas.List.{length-take-le}
use Rattle.b67_schedule.specs.Schedules.{ScheduleModel}
use Rattle.b67_segment.specs.declared.code.Code.{Code}
use Rattle.b67_list.specs.Numbered.{numbered}
use Rattle.b67_table.specs.Image.{is_able}
use Rattle.b67_action.specs.declared.running.Ran.{Ran}
use Rattle.b67_machine.specs.Chaining.{ChainRuns}
use Rattle.b67_machine.specs.Kept.{MachineModel, operators_counted}
use Rattle.b67_machine.specs.Parts.{IsFull}
use Rattle.b67_stands.specs.Running.{Running, answer_of}
use Rattle.b67_stands.specs.Placing.{holder_of}
use Rattle.b67_stands.specs.Stands.{Stands}
use Rattle.b67_stands.proofs.Ends.{goes_on}
use Rattle.b67_limits.specs.declared.TheConstants.{MOST_RUN}
use Rattle.b67_parcel.specs.Parcels.{Stretch, IsRun, StartsAs}
use Rattle.b67_plant.specs.Calls.{PutsRun}
use Rattle.b67_plant.proofs.Entered.{budget_is, held_number}
use Rattle.b67_plant.proofs.Putting.{able, count_fits, has_run, has_run_as, runs_as, keeps_as, added_as, letters_as, letters_are, entries_noted, letters_fit, acts_fit, run_put, puts, stands_put, lacks_put, ends_put}
use Rattle.b67_plant.proofs.Plant.put_run.Goals as goal

pub put_run-requires-clause-able : goal.put_run-requires-clause-able
put_run-requires-clause-able g c =
    let old : Running = record {
      machine = c.self.inside.machine;
      waiting = c.self.inside.ready.waiting;
      takes = c.self.inside.ready.takes;
      out = c.self.inside.out.items;
      schedule = c.self.inside.schedule;
      spent = c.self.inside.spent;
      acts = c.self.inside.acts.total;
      leaves = c.self.inside.leaves.total;
    } in
    let i = c.self.invariant in
    let code : Code = g.N.Named.code in
    let budget : ℕ = g.N.Named.budget in
    let s : Stretch = c.args.parcel.now in
    let going : answer_of budget old ≡ None = subst (λ (r : Running). answer_of budget r ≡ None) (sym c.self.view_is) c.requires.going in
    let held : 1 ≤ holder_of old.out s.process = subst (λ (r : Running). 1 ≤ holder_of r.out s.process) (sym c.self.view_is) c.requires.out in
    let starts : StartsAs old.machine.image s = subst (λ (r : Running). StartsAs r.machine.image s) (sym c.self.view_is) c.requires.starts in
    let is : IsRun code s = c.requires.run in
    let less : old.spent + (s.ran.operators + s.ran.plain) < budget =
    subst (λ (r : Running). r.spent + (s.ran.operators + s.ran.plain) < budget) (sym c.self.view_is) c.requires.less in
    subst (λ (q : ℕ). is_able (numbered old.machine.image.states q) ≡ true) (sym c.process-process.ensures) (able code budget old s i.0 going held c.requires.room starts is less)

pub put_run-requires-clause-going : goal.put_run-requires-clause-going
put_run-requires-clause-going g c =
    let old : Running = record {
      machine = c.self.inside.machine;
      waiting = c.self.inside.ready.waiting;
      takes = c.self.inside.ready.takes;
      out = c.self.inside.out.items;
      schedule = c.self.inside.schedule;
      spent = c.self.inside.spent;
      acts = c.self.inside.acts.total;
      leaves = c.self.inside.leaves.total;
    } in
    let i = c.self.invariant in
    let code : Code = g.N.Named.code in
    let budget : ℕ = g.N.Named.budget in
    let s : Stretch = c.args.parcel.now in
    let going : answer_of budget old ≡ None = subst (λ (r : Running). answer_of budget r ≡ None) (sym c.self.view_is) c.requires.going in
    let held : 1 ≤ holder_of old.out s.process = subst (λ (r : Running). 1 ≤ holder_of r.out s.process) (sym c.self.view_is) c.requires.out in
    let starts : StartsAs old.machine.image s = subst (λ (r : Running). StartsAs r.machine.image s) (sym c.self.view_is) c.requires.starts in
    let is : IsRun code s = c.requires.run in
    let less : old.spent + (s.ran.operators + s.ran.plain) < budget =
    subst (λ (r : Running). r.spent + (s.ran.operators + s.ran.plain) < budget) (sym c.self.view_is) c.requires.less in
    (goes_on budget old going).end

pub put_run-requires-clause-count : goal.put_run-requires-clause-count
put_run-requires-clause-count g c =
    let old : Running = record {
      machine = c.self.inside.machine;
      waiting = c.self.inside.ready.waiting;
      takes = c.self.inside.ready.takes;
      out = c.self.inside.out.items;
      schedule = c.self.inside.schedule;
      spent = c.self.inside.spent;
      acts = c.self.inside.acts.total;
      leaves = c.self.inside.leaves.total;
    } in
    let i = c.self.invariant in
    let code : Code = g.N.Named.code in
    let budget : ℕ = g.N.Named.budget in
    let s : Stretch = c.args.parcel.now in
    let going : answer_of budget old ≡ None = subst (λ (r : Running). answer_of budget r ≡ None) (sym c.self.view_is) c.requires.going in
    let held : 1 ≤ holder_of old.out s.process = subst (λ (r : Running). 1 ≤ holder_of r.out s.process) (sym c.self.view_is) c.requires.out in
    let starts : StartsAs old.machine.image s = subst (λ (r : Running). StartsAs r.machine.image s) (sym c.self.view_is) c.requires.starts in
    let is : IsRun code s = c.requires.run in
    let less : old.spent + (s.ran.operators + s.ran.plain) < budget =
    subst (λ (r : Running). r.spent + (s.ran.operators + s.ran.plain) < budget) (sym c.self.view_is) c.requires.less in
    subst (λ (q : ℕ). operators_counted old.machine.counts q + (c.ran-ran.result.operators + c.ran-ran.result.plain) < 2 ^ 64) (sym c.process-process.ensures)
    (subst (λ (r : Ran). operators_counted old.machine.counts s.process + (r.operators + r.plain) < 2 ^ 64) (sym c.ran-ran.ensures) (count_fits code budget old s i.0 going held c.requires.room starts is less c.self.inside.budget i.2 i.3))

pub put_run-requires-clause-full : goal.put_run-requires-clause-full
put_run-requires-clause-full g c =
    let old : Running = record {
      machine = c.self.inside.machine;
      waiting = c.self.inside.ready.waiting;
      takes = c.self.inside.ready.takes;
      out = c.self.inside.out.items;
      schedule = c.self.inside.schedule;
      spent = c.self.inside.spent;
      acts = c.self.inside.acts.total;
      leaves = c.self.inside.leaves.total;
    } in
    let i = c.self.invariant in
    let code : Code = g.N.Named.code in
    let budget : ℕ = g.N.Named.budget in
    let s : Stretch = c.args.parcel.now in
    let going : answer_of budget old ≡ None = subst (λ (r : Running). answer_of budget r ≡ None) (sym c.self.view_is) c.requires.going in
    let held : 1 ≤ holder_of old.out s.process = subst (λ (r : Running). 1 ≤ holder_of r.out s.process) (sym c.self.view_is) c.requires.out in
    let starts : StartsAs old.machine.image s = subst (λ (r : Running). StartsAs r.machine.image s) (sym c.self.view_is) c.requires.starts in
    let is : IsRun code s = c.requires.run in
    let less : old.spent + (s.ran.operators + s.ran.plain) < budget =
    subst (λ (r : Running). r.spent + (s.ran.operators + s.ran.plain) < budget) (sym c.self.view_is) c.requires.less in
    subst IsFull (sym c.end.ensures.value) is.full

pub put_run-requires-clause-keeps : goal.put_run-requires-clause-keeps
put_run-requires-clause-keeps g c =
    let old : Running = record {
      machine = c.self.inside.machine;
      waiting = c.self.inside.ready.waiting;
      takes = c.self.inside.ready.takes;
      out = c.self.inside.out.items;
      schedule = c.self.inside.schedule;
      spent = c.self.inside.spent;
      acts = c.self.inside.acts.total;
      leaves = c.self.inside.leaves.total;
    } in
    let i = c.self.invariant in
    let code : Code = g.N.Named.code in
    let budget : ℕ = g.N.Named.budget in
    let s : Stretch = c.args.parcel.now in
    let going : answer_of budget old ≡ None = subst (λ (r : Running). answer_of budget r ≡ None) (sym c.self.view_is) c.requires.going in
    let held : 1 ≤ holder_of old.out s.process = subst (λ (r : Running). 1 ≤ holder_of r.out s.process) (sym c.self.view_is) c.requires.out in
    let starts : StartsAs old.machine.image s = subst (λ (r : Running). StartsAs r.machine.image s) (sym c.self.view_is) c.requires.starts in
    let is : IsRun code s = c.requires.run in
    let less : old.spent + (s.ran.operators + s.ran.plain) < budget =
    subst (λ (r : Running). r.spent + (s.ran.operators + s.ran.plain) < budget) (sym c.self.view_is) c.requires.less in
    keeps_as code budget old s i.0 going held c.requires.room starts is less c.process-process.result c.ran-ran.result c.letters-letters.result.now c.end.result.now c.process-process.ensures c.ran-ran.ensures c.letters-letters.ensures c.end.ensures.value

pub put_run-requires-clause-run : goal.put_run-requires-clause-run
put_run-requires-clause-run g c =
    let old : Running = record {
      machine = c.self.inside.machine;
      waiting = c.self.inside.ready.waiting;
      takes = c.self.inside.ready.takes;
      out = c.self.inside.out.items;
      schedule = c.self.inside.schedule;
      spent = c.self.inside.spent;
      acts = c.self.inside.acts.total;
      leaves = c.self.inside.leaves.total;
    } in
    let i = c.self.invariant in
    let code : Code = g.N.Named.code in
    let budget : ℕ = g.N.Named.budget in
    let s : Stretch = c.args.parcel.now in
    let going : answer_of budget old ≡ None = subst (λ (r : Running). answer_of budget r ≡ None) (sym c.self.view_is) c.requires.going in
    let held : 1 ≤ holder_of old.out s.process = subst (λ (r : Running). 1 ≤ holder_of r.out s.process) (sym c.self.view_is) c.requires.out in
    let starts : StartsAs old.machine.image s = subst (λ (r : Running). StartsAs r.machine.image s) (sym c.self.view_is) c.requires.starts in
    let is : IsRun code s = c.requires.run in
    let less : old.spent + (s.ran.operators + s.ran.plain) < budget =
    subst (λ (r : Running). r.spent + (s.ran.operators + s.ran.plain) < budget) (sym c.self.view_is) c.requires.less in
    (MOST_RUN, has_run_as code budget old s i.0 going held c.requires.room starts is less c.process-process.result c.ran-ran.result c.letters-letters.result.now c.end.result.now c.process-process.ensures c.ran-ran.ensures c.letters-letters.ensures c.end.ensures.value)

pub overflow_add-self : goal.overflow_add-self
overflow_add-self g c =
    let old : Running = record {
      machine = c.self.inside.machine;
      waiting = c.self.inside.ready.waiting;
      takes = c.self.inside.ready.takes;
      out = c.self.inside.out.items;
      schedule = c.self.inside.schedule;
      spent = c.self.inside.spent;
      acts = c.self.inside.acts.total;
      leaves = c.self.inside.leaves.total;
    } in
    let i = c.self.invariant in
    let code : Code = g.N.Named.code in
    let budget : ℕ = g.N.Named.budget in
    let s : Stretch = c.args.parcel.now in
    let going : answer_of budget old ≡ None = subst (λ (r : Running). answer_of budget r ≡ None) (sym c.self.view_is) c.requires.going in
    let held : 1 ≤ holder_of old.out s.process = subst (λ (r : Running). 1 ≤ holder_of r.out s.process) (sym c.self.view_is) c.requires.out in
    let starts : StartsAs old.machine.image s = subst (λ (r : Running). StartsAs r.machine.image s) (sym c.self.view_is) c.requires.starts in
    let is : IsRun code s = c.requires.run in
    let less : old.spent + (s.ran.operators + s.ran.plain) < budget =
    subst (λ (r : Running). r.spent + (s.ran.operators + s.ran.plain) < budget) (sym c.self.view_is) c.requires.less in
    omega (arith, less, i.2, i.3, budget_is, ap (λ (r : Ran). r.operators) c.ran-ran.ensures)

pub overflow_add-self-2 : goal.overflow_add-self-2
overflow_add-self-2 g c =
    let old : Running = record {
      machine = c.self.inside.machine;
      waiting = c.self.inside.ready.waiting;
      takes = c.self.inside.ready.takes;
      out = c.self.inside.out.items;
      schedule = c.self.inside.schedule;
      spent = c.self.inside.spent;
      acts = c.self.inside.acts.total;
      leaves = c.self.inside.leaves.total;
    } in
    let i = c.self.invariant in
    let code : Code = g.N.Named.code in
    let budget : ℕ = g.N.Named.budget in
    let s : Stretch = c.args.parcel.now in
    let going : answer_of budget old ≡ None = subst (λ (r : Running). answer_of budget r ≡ None) (sym c.self.view_is) c.requires.going in
    let held : 1 ≤ holder_of old.out s.process = subst (λ (r : Running). 1 ≤ holder_of r.out s.process) (sym c.self.view_is) c.requires.out in
    let starts : StartsAs old.machine.image s = subst (λ (r : Running). StartsAs r.machine.image s) (sym c.self.view_is) c.requires.starts in
    let is : IsRun code s = c.requires.run in
    let less : old.spent + (s.ran.operators + s.ran.plain) < budget =
    subst (λ (r : Running). r.spent + (s.ran.operators + s.ran.plain) < budget) (sym c.self.view_is) c.requires.less in
    omega (arith, less, i.2, i.3, budget_is, ap (λ (r : Ran). r.operators) c.ran-ran.ensures, ap (λ (r : Ran). r.plain) c.ran-ran.ensures)

pub slice_bounds-push_many-end : goal.slice_bounds-push_many-end
slice_bounds-push_many-end g c =
    let old : Running = record {
      machine = c.self.inside.machine;
      waiting = c.self.inside.ready.waiting;
      takes = c.self.inside.ready.takes;
      out = c.self.inside.out.items;
      schedule = c.self.inside.schedule;
      spent = c.self.inside.spent;
      acts = c.self.inside.acts.total;
      leaves = c.self.inside.leaves.total;
    } in
    let i = c.self.invariant in
    let code : Code = g.N.Named.code in
    let budget : ℕ = g.N.Named.budget in
    let s : Stretch = c.args.parcel.now in
    let going : answer_of budget old ≡ None = subst (λ (r : Running). answer_of budget r ≡ None) (sym c.self.view_is) c.requires.going in
    let held : 1 ≤ holder_of old.out s.process = subst (λ (r : Running). 1 ≤ holder_of r.out s.process) (sym c.self.view_is) c.requires.out in
    let starts : StartsAs old.machine.image s = subst (λ (r : Running). StartsAs r.machine.image s) (sym c.self.view_is) c.requires.starts in
    let is : IsRun code s = c.requires.run in
    let less : old.spent + (s.ran.operators + s.ran.plain) < budget =
    subst (λ (r : Running). r.spent + (s.ran.operators + s.ran.plain) < budget) (sym c.self.view_is) c.requires.less in
    sym (length-take-le c.ran-ran.result.entries c.letters-letters.result.now (omega (arith, (has_run code budget old s i.0 going held c.requires.room starts is less).few, ap (λ (r : Ran). r.entries) c.ran-ran.ensures, ap (λ (xs : List Letter). length xs) c.letters-letters.ensures)))

pub push_many-requires-clause-room : goal.push_many-requires-clause-room
push_many-requires-clause-room g c =
    let old : Running = record {
      machine = c.self.inside.machine;
      waiting = c.self.inside.ready.waiting;
      takes = c.self.inside.ready.takes;
      out = c.self.inside.out.items;
      schedule = c.self.inside.schedule;
      spent = c.self.inside.spent;
      acts = c.self.inside.acts.total;
      leaves = c.self.inside.leaves.total;
    } in
    let i = c.self.invariant in
    let code : Code = g.N.Named.code in
    let budget : ℕ = g.N.Named.budget in
    let s : Stretch = c.args.parcel.now in
    let going : answer_of budget old ≡ None = subst (λ (r : Running). answer_of budget r ≡ None) (sym c.self.view_is) c.requires.going in
    let held : 1 ≤ holder_of old.out s.process = subst (λ (r : Running). 1 ≤ holder_of r.out s.process) (sym c.self.view_is) c.requires.out in
    let starts : StartsAs old.machine.image s = subst (λ (r : Running). StartsAs r.machine.image s) (sym c.self.view_is) c.requires.starts in
    let is : IsRun code s = c.requires.run in
    let less : old.spent + (s.ran.operators + s.ran.plain) < budget =
    subst (λ (r : Running). r.spent + (s.ran.operators + s.ran.plain) < budget) (sym c.self.view_is) c.requires.less in
    omega (arith, letters_fit code budget old s i.0 going held c.requires.room starts is less, i.2, i.6, ap (λ (xs : List Letter). length xs) (letters_are code budget old s i.0 going held c.requires.room starts is less c.process-process.result c.ran-ran.result c.letters-letters.result.now c.end.result.now c.process-process.ensures c.ran-ran.ensures c.letters-letters.ensures c.end.ensures.value), entries_noted code budget old s i.0 going held c.requires.room starts is less)

pub push_many-requires-clause-least : goal.push_many-requires-clause-least
push_many-requires-clause-least g c =
    let old : Running = record {
      machine = c.self.inside.machine;
      waiting = c.self.inside.ready.waiting;
      takes = c.self.inside.ready.takes;
      out = c.self.inside.out.items;
      schedule = c.self.inside.schedule;
      spent = c.self.inside.spent;
      acts = c.self.inside.acts.total;
      leaves = c.self.inside.leaves.total;
    } in
    let i = c.self.invariant in
    let code : Code = g.N.Named.code in
    let budget : ℕ = g.N.Named.budget in
    let s : Stretch = c.args.parcel.now in
    let going : answer_of budget old ≡ None = subst (λ (r : Running). answer_of budget r ≡ None) (sym c.self.view_is) c.requires.going in
    let held : 1 ≤ holder_of old.out s.process = subst (λ (r : Running). 1 ≤ holder_of r.out s.process) (sym c.self.view_is) c.requires.out in
    let starts : StartsAs old.machine.image s = subst (λ (r : Running). StartsAs r.machine.image s) (sym c.self.view_is) c.requires.starts in
    let is : IsRun code s = c.requires.run in
    let less : old.spent + (s.ran.operators + s.ran.plain) < budget =
    subst (λ (r : Running). r.spent + (s.ran.operators + s.ran.plain) < budget) (sym c.self.view_is) c.requires.less in
    omega (arith, (held_number code budget old s.process i.0 going held).0, c.process-process.ensures)

pub push_many-requires-clause-greatest : goal.push_many-requires-clause-greatest
push_many-requires-clause-greatest g c =
    let old : Running = record {
      machine = c.self.inside.machine;
      waiting = c.self.inside.ready.waiting;
      takes = c.self.inside.ready.takes;
      out = c.self.inside.out.items;
      schedule = c.self.inside.schedule;
      spent = c.self.inside.spent;
      acts = c.self.inside.acts.total;
      leaves = c.self.inside.leaves.total;
    } in
    let i = c.self.invariant in
    let code : Code = g.N.Named.code in
    let budget : ℕ = g.N.Named.budget in
    let s : Stretch = c.args.parcel.now in
    let going : answer_of budget old ≡ None = subst (λ (r : Running). answer_of budget r ≡ None) (sym c.self.view_is) c.requires.going in
    let held : 1 ≤ holder_of old.out s.process = subst (λ (r : Running). 1 ≤ holder_of r.out s.process) (sym c.self.view_is) c.requires.out in
    let starts : StartsAs old.machine.image s = subst (λ (r : Running). StartsAs r.machine.image s) (sym c.self.view_is) c.requires.starts in
    let is : IsRun code s = c.requires.run in
    let less : old.spent + (s.ran.operators + s.ran.plain) < budget =
    subst (λ (r : Running). r.spent + (s.ran.operators + s.ran.plain) < budget) (sym c.self.view_is) c.requires.less in
    omega (arith, (held_number code budget old s.process i.0 going held).1, c.process-process.ensures)

pub push_many-requires-clause-actions : goal.push_many-requires-clause-actions
push_many-requires-clause-actions g c =
    let old : Running = record {
      machine = c.self.inside.machine;
      waiting = c.self.inside.ready.waiting;
      takes = c.self.inside.ready.takes;
      out = c.self.inside.out.items;
      schedule = c.self.inside.schedule;
      spent = c.self.inside.spent;
      acts = c.self.inside.acts.total;
      leaves = c.self.inside.leaves.total;
    } in
    let i = c.self.invariant in
    let code : Code = g.N.Named.code in
    let budget : ℕ = g.N.Named.budget in
    let s : Stretch = c.args.parcel.now in
    let going : answer_of budget old ≡ None = subst (λ (r : Running). answer_of budget r ≡ None) (sym c.self.view_is) c.requires.going in
    let held : 1 ≤ holder_of old.out s.process = subst (λ (r : Running). 1 ≤ holder_of r.out s.process) (sym c.self.view_is) c.requires.out in
    let starts : StartsAs old.machine.image s = subst (λ (r : Running). StartsAs r.machine.image s) (sym c.self.view_is) c.requires.starts in
    let is : IsRun code s = c.requires.run in
    let less : old.spent + (s.ran.operators + s.ran.plain) < budget =
    subst (λ (r : Running). r.spent + (s.ran.operators + s.ran.plain) < budget) (sym c.self.view_is) c.requires.less in
    omega (arith, letters_fit code budget old s i.0 going held c.requires.room starts is less, i.2, i.3, budget_is, ap (λ (xs : List Letter). length xs) (letters_are code budget old s i.0 going held c.requires.room starts is less c.process-process.result c.ran-ran.result c.letters-letters.result.now c.end.result.now c.process-process.ensures c.ran-ran.ensures c.letters-letters.ensures c.end.ensures.value), entries_noted code budget old s i.0 going held c.requires.room starts is less)

pub overflow_add-seat : goal.overflow_add-seat
overflow_add-seat g c =
    let old : Running = record {
      machine = c.self.inside.machine;
      waiting = c.self.inside.ready.waiting;
      takes = c.self.inside.ready.takes;
      out = c.self.inside.out.items;
      schedule = c.self.inside.schedule;
      spent = c.self.inside.spent;
      acts = c.self.inside.acts.total;
      leaves = c.self.inside.leaves.total;
    } in
    let i = c.self.invariant in
    let code : Code = g.N.Named.code in
    let budget : ℕ = g.N.Named.budget in
    let s : Stretch = c.args.parcel.now in
    let going : answer_of budget old ≡ None = subst (λ (r : Running). answer_of budget r ≡ None) (sym c.self.view_is) c.requires.going in
    let held : 1 ≤ holder_of old.out s.process = subst (λ (r : Running). 1 ≤ holder_of r.out s.process) (sym c.self.view_is) c.requires.out in
    let starts : StartsAs old.machine.image s = subst (λ (r : Running). StartsAs r.machine.image s) (sym c.self.view_is) c.requires.starts in
    let is : IsRun code s = c.requires.run in
    let less : old.spent + (s.ran.operators + s.ran.plain) < budget =
    subst (λ (r : Running). r.spent + (s.ran.operators + s.ran.plain) < budget) (sym c.self.view_is) c.requires.less in
    omega (arith, c.args.seat.now.counted, c.audit.ensures.bound, acts_fit code budget old s i.0 going held c.requires.room starts is less, i.2, i.3, budget_is, ap (λ (r : Ran). r.entries) c.ran-ran.ensures, c.from-2.ensures)

pub invariant_of-self : goal.invariant_of-self
invariant_of-self g c =
    let old : Running = record {
      machine = c.self.inside.machine;
      waiting = c.self.inside.ready.waiting;
      takes = c.self.inside.ready.takes;
      out = c.self.inside.out.items;
      schedule = c.self.inside.schedule;
      spent = c.self.inside.spent;
      acts = c.self.inside.acts.total;
      leaves = c.self.inside.leaves.total;
    } in
    let i = c.self.invariant in
    let code : Code = g.N.Named.code in
    let budget : ℕ = g.N.Named.budget in
    let s : Stretch = c.args.parcel.now in
    let going : answer_of budget old ≡ None = subst (λ (r : Running). answer_of budget r ≡ None) (sym c.self.view_is) c.requires.going in
    let held : 1 ≤ holder_of old.out s.process = subst (λ (r : Running). 1 ≤ holder_of r.out s.process) (sym c.self.view_is) c.requires.out in
    let starts : StartsAs old.machine.image s = subst (λ (r : Running). StartsAs r.machine.image s) (sym c.self.view_is) c.requires.starts in
    let is : IsRun code s = c.requires.run in
    let less : old.spent + (s.ran.operators + s.ran.plain) < budget =
    subst (λ (r : Running). r.spent + (s.ran.operators + s.ran.plain) < budget) (sym c.self.view_is) c.requires.less in
    let m : MachineModel = c.put_run.new.self in
    let runs : ChainRuns old.machine s.process MOST_RUN s.ran s.noted m =
    runs_as code budget old s i.0 going held c.requires.room starts is less c.process-process.result c.ran-ran.result c.letters-letters.result.now c.end.result.now c.process-process.ensures c.ran-ran.ensures c.letters-letters.ensures c.end.ensures.value m (c.put_run.ensures.runs MOST_RUN (has_run_as code budget old s i.0 going held c.requires.room starts is less c.process-process.result c.ran-ran.result c.letters-letters.result.now c.end.result.now c.process-process.ensures c.ran-ran.ensures c.letters-letters.ensures c.end.ensures.value)) in
    let t : ScheduleModel = c.push_many.new.self in
    let added = added_as code budget old s i.0 going held c.requires.room starts is less c.process-process.result c.ran-ran.result c.letters-letters.result.now c.end.result.now c.process-process.ensures c.ran-ran.ensures c.letters-letters.ensures c.end.ensures.value old.schedule t c.push_many.ensures.added in
    let letters = letters_as code budget old s i.0 going held c.requires.room starts is less c.process-process.result c.ran-ran.result c.letters-letters.result.now c.end.result.now c.process-process.ensures c.ran-ran.ensures c.letters-letters.ensures c.end.ensures.value old.schedule t c.push_many.ensures.letters in
    let new : Running = run_put code budget old s i.0 going held c.requires.room starts is less i.1 m runs t added letters in
    let written : Running = record old {
      machine = m;
      schedule = t;
      spent = c.self.inside.spent + c.ran-ran.result.operators + c.ran-ran.result.plain;
      acts = c.add.new.self.total;
    } in
    let same_spent : written.spent ≡ new.spent = ap (λ (r : Ran). old.spent + r.operators + r.plain) c.ran-ran.ensures in
    let same_acts : c.add.new.self.total ≡ new.acts =
    omega (arith, c.add.ensures.total, c.audit.ensures.total, c.from.ensures, ap (λ (r : Ran). r.entries) c.ran-ran.ensures, entries_noted code budget old s i.0 going held c.requires.room starts is less) in
    let same : written ≡ new = ap (λ (k : ℕ). record written { spent = k }) same_spent ∙ ap (λ (k : ℕ). record new { acts = k }) same_acts in (
      subst (Stands code budget) (sym same) (stands_put code budget old s i.0 going held c.requires.room starts is less i.1 m runs t added letters),
      i.1,
      i.2,
      i.3,
      i.4,
      i.5,
      omega (arith, i.6, c.push_many.ensures.room),
      i.7,
      i.8 ∙ sym (lacks_put code budget old s i.0 going held c.requires.room starts is less i.1 m runs t added letters),
      i.9,
      λ on. ends_put code budget old s i.0 going held c.requires.room starts is less i.1 m runs t added letters,
    )

pub returns-clause-puts : goal.returns-clause-puts
returns-clause-puts g c =
    let old : Running = record {
      machine = c.self.inside.machine;
      waiting = c.self.inside.ready.waiting;
      takes = c.self.inside.ready.takes;
      out = c.self.inside.out.items;
      schedule = c.self.inside.schedule;
      spent = c.self.inside.spent;
      acts = c.self.inside.acts.total;
      leaves = c.self.inside.leaves.total;
    } in
    let i = c.self.invariant in
    let code : Code = g.N.Named.code in
    let budget : ℕ = g.N.Named.budget in
    let s : Stretch = c.args.parcel.now in
    let going : answer_of budget old ≡ None = subst (λ (r : Running). answer_of budget r ≡ None) (sym c.self.view_is) c.requires.going in
    let held : 1 ≤ holder_of old.out s.process = subst (λ (r : Running). 1 ≤ holder_of r.out s.process) (sym c.self.view_is) c.requires.out in
    let starts : StartsAs old.machine.image s = subst (λ (r : Running). StartsAs r.machine.image s) (sym c.self.view_is) c.requires.starts in
    let is : IsRun code s = c.requires.run in
    let less : old.spent + (s.ran.operators + s.ran.plain) < budget =
    subst (λ (r : Running). r.spent + (s.ran.operators + s.ran.plain) < budget) (sym c.self.view_is) c.requires.less in
    let m : MachineModel = c.put_run.new.self in
    let runs : ChainRuns old.machine s.process MOST_RUN s.ran s.noted m =
    runs_as code budget old s i.0 going held c.requires.room starts is less c.process-process.result c.ran-ran.result c.letters-letters.result.now c.end.result.now c.process-process.ensures c.ran-ran.ensures c.letters-letters.ensures c.end.ensures.value m (c.put_run.ensures.runs MOST_RUN (has_run_as code budget old s i.0 going held c.requires.room starts is less c.process-process.result c.ran-ran.result c.letters-letters.result.now c.end.result.now c.process-process.ensures c.ran-ran.ensures c.letters-letters.ensures c.end.ensures.value)) in
    let t : ScheduleModel = c.push_many.new.self in
    let added = added_as code budget old s i.0 going held c.requires.room starts is less c.process-process.result c.ran-ran.result c.letters-letters.result.now c.end.result.now c.process-process.ensures c.ran-ran.ensures c.letters-letters.ensures c.end.ensures.value old.schedule t c.push_many.ensures.added in
    let letters = letters_as code budget old s i.0 going held c.requires.room starts is less c.process-process.result c.ran-ran.result c.letters-letters.result.now c.end.result.now c.process-process.ensures c.ran-ran.ensures c.letters-letters.ensures c.end.ensures.value old.schedule t c.push_many.ensures.letters in
    let new : Running = run_put code budget old s i.0 going held c.requires.room starts is less i.1 m runs t added letters in
    let written : Running = record old {
      machine = m;
      schedule = t;
      spent = c.self.inside.spent + c.ran-ran.result.operators + c.ran-ran.result.plain;
      acts = c.add.new.self.total;
    } in
    let same_spent : written.spent ≡ new.spent = ap (λ (r : Ran). old.spent + r.operators + r.plain) c.ran-ran.ensures in
    let same_acts : c.add.new.self.total ≡ new.acts =
    omega (arith, c.add.ensures.total, c.audit.ensures.total, c.from.ensures, ap (λ (r : Ran). r.entries) c.ran-ran.ensures, entries_noted code budget old s i.0 going held c.requires.room starts is less) in
    let same : written ≡ new = ap (λ (k : ℕ). record written { spent = k }) same_spent ∙ ap (λ (k : ℕ). record new { acts = k }) same_acts in
    subst (λ (r : Running). PutsRun budget s r written) c.self.view_is (subst (PutsRun budget s old) (sym same) (puts code budget old s i.0 going held c.requires.room starts is less i.1 m runs t added letters))

pub returns-clause-count : goal.returns-clause-count
returns-clause-count g c =
    let old : Running = record {
      machine = c.self.inside.machine;
      waiting = c.self.inside.ready.waiting;
      takes = c.self.inside.ready.takes;
      out = c.self.inside.out.items;
      schedule = c.self.inside.schedule;
      spent = c.self.inside.spent;
      acts = c.self.inside.acts.total;
      leaves = c.self.inside.leaves.total;
    } in
    let i = c.self.invariant in
    let code : Code = g.N.Named.code in
    let budget : ℕ = g.N.Named.budget in
    let s : Stretch = c.args.parcel.now in
    let going : answer_of budget old ≡ None = subst (λ (r : Running). answer_of budget r ≡ None) (sym c.self.view_is) c.requires.going in
    let held : 1 ≤ holder_of old.out s.process = subst (λ (r : Running). 1 ≤ holder_of r.out s.process) (sym c.self.view_is) c.requires.out in
    let starts : StartsAs old.machine.image s = subst (λ (r : Running). StartsAs r.machine.image s) (sym c.self.view_is) c.requires.starts in
    let is : IsRun code s = c.requires.run in
    let less : old.spent + (s.ran.operators + s.ran.plain) < budget =
    subst (λ (r : Running). r.spent + (s.ran.operators + s.ran.plain) < budget) (sym c.self.view_is) c.requires.less in
    (omega arith, omega (arith, ap (λ (r : Running). r.acts) c.self.view_is, c.add.ensures.total, c.audit.ensures.total, c.from.ensures, c.from-2.ensures))

pub returns-clause-fits : goal.returns-clause-fits
returns-clause-fits g c =
    let old : Running = record {
      machine = c.self.inside.machine;
      waiting = c.self.inside.ready.waiting;
      takes = c.self.inside.ready.takes;
      out = c.self.inside.out.items;
      schedule = c.self.inside.schedule;
      spent = c.self.inside.spent;
      acts = c.self.inside.acts.total;
      leaves = c.self.inside.leaves.total;
    } in
    let i = c.self.invariant in
    let code : Code = g.N.Named.code in
    let budget : ℕ = g.N.Named.budget in
    let s : Stretch = c.args.parcel.now in
    let going : answer_of budget old ≡ None = subst (λ (r : Running). answer_of budget r ≡ None) (sym c.self.view_is) c.requires.going in
    let held : 1 ≤ holder_of old.out s.process = subst (λ (r : Running). 1 ≤ holder_of r.out s.process) (sym c.self.view_is) c.requires.out in
    let starts : StartsAs old.machine.image s = subst (λ (r : Running). StartsAs r.machine.image s) (sym c.self.view_is) c.requires.starts in
    let is : IsRun code s = c.requires.run in
    let less : old.spent + (s.ran.operators + s.ran.plain) < budget =
    subst (λ (r : Running). r.spent + (s.ran.operators + s.ran.plain) < budget) (sym c.self.view_is) c.requires.less in
    omega (arith, c.args.seat.now.counted, c.audit.ensures.bound, acts_fit code budget old s i.0 going held c.requires.room starts is less, i.2, i.3, budget_is, ap (λ (r : Ran). r.entries) c.ran-ran.ensures, c.from-2.ensures)
