-- A run of a parcel that is put: its entries, and then the plain operators after them.
use Rattle.std.proofs.Common.{◌≡◌, refl, sym, ap, subst, ◌∙◌, ℕ, ◌+◌, ◌-◌, ◌<◌, ◌≤◌, ◌^◌, true, List, ◌++◌, length, take, replicate, Option, Some, None, arith}
use Rattle.std.specs.Prelude.{IfSome}
use Rattle.std.proofs.lemmas.List.{length-take-le}
use Rattle.b67_list.specs.Numbered.{numbered}
use Rattle.b67_control.specs.declared.Registers.{Registers}
use Rattle.b67_deeds.specs.declared.Letter.{Letter}
use Rattle.b67_schedule.specs.Schedules.{entries, ScheduleModel}
use Rattle.b67_segment.specs.declared.code.Code.{Code}
use Rattle.b67_limits.specs.declared.TheConstants.{MOST_BUDGET}
use Rattle.b67_table.specs.declared.Private.{Private}
use Rattle.b67_table.specs.Image.{Image, is_able, with_private}
use Rattle.b67_table.specs.Privacy.{RegistersStay}
use Rattle.b67_table.specs.Sound.{Sound}
use Rattle.b67_table.specs.Valid.{IsValid}
use Rattle.b67_action.specs.declared.running.Ran.{Ran}
use Rattle.b67_action.specs.Running.{HasRun}
use Rattle.b67_machine.specs.Chaining.{ChainRuns, Passing}
use Rattle.b67_machine.specs.Kept.{MachineModel, operators_counted}
use Rattle.b67_machine.specs.Parts.{whole_part, kept_from, bottom}
use Rattle.b67_machine.specs.Reads.{machine_end}
use Rattle.b67_machine.proofs.Chains.{runs_pass}
use Rattle.b67_machine.proofs.Going.{still_goes}
use Rattle.b67_stands.specs.Running.{Running, answer_of}
use Rattle.b67_stands.specs.Placing.{IsOut}
use Rattle.b67_stands.specs.Stands.{Stands}
use Rattle.b67_stands.specs.Calls.{RunsOn, LandsOnce}
use Rattle.b67_stands.proofs.Ends.{GoesOn, goes_on}
use Rattle.b67_stands.proofs.Landing.{lands_keep}
use Rattle.b67_stands.proofs.Places.{held_able}
use Rattle.b67_stands.proofs.Staying.{runs_keep, runs_go_on}
use Rattle.b67_limits.specs.declared.TheConstants.{MOST_RUN}
use Rattle.b67_parcel.specs.Parcels.{Stretch, IsRun, StartsAs}
use Rattle.b67_parcel.proofs.Stretching.{whole_of}
use Rattle.b67_plant.specs.Calls.{entries_in, PutsRun}
use Rattle.b67_plant.proofs.Entered.{budget_is, counted_spent, entries_spent, letters_entries}

-- the registers of a whole part are those of its process
keeps_by : (img : Image) (o : Option Registers) (start : Private) (r : Registers) → kept_from bottom img o ≡ Some start → RegistersStay start.regs r → IfSome o (λ q. RegistersStay q r)
keeps_by img None start r e k = cc
keeps_by img (Some q) start r e k =
    let same : q ≡ start.regs = cc in
    subst (λ (x : Registers). RegistersStay x r) (sym same) k

module _ (code : Code) (budget : ℕ) (old : Running) (s : Stretch) (stands : Stands code budget old) (going : answer_of budget old ≡ None) (held : IsOut old.out s.process)
    (some : 1 ≤ s.room) (starts : StartsAs old.machine.image s) (is : IsRun code s) (less : old.spent + (s.ran.operators + s.ran.plain) < budget) where
  whole : whole_part old.machine.image s.process ≡ Some s.start
  whole = whole_of s.room old.machine.image s.process s.start some starts

  pub able : is_able (numbered old.machine.image.states s.process) ≡ true
  able = held_able old.machine.image old.waiting old.out s.process (stands.placed going) held

  pub count_fits : (b : ℕ) → b ≡ budget → b ≤ MOST_BUDGET → operators_counted old.machine.counts s.process + (s.ran.operators + s.ran.plain) < 2 ^ 64
  count_fits b e small = omega (arith, counted_spent code budget old s.process stands, less, e, small, budget_is)

  pub keeps : IfSome (numbered old.machine.image.regs s.process) (λ r. RegistersStay r s.end.regs)
  keeps = keeps_by old.machine.image (numbered old.machine.image.regs s.process) s.start s.end.regs whole is.keeps

  valid : IsValid code old.machine.image
  valid = stands.valid

  pub has_run : HasRun old.machine.code s.process MOST_RUN old.machine.image s.ran s.noted (with_private old.machine.image s.process 0 s.end)
  has_run =
      subst (λ (c : Code). HasRun c s.process MOST_RUN old.machine.image s.ran s.noted (with_private old.machine.image s.process 0 s.end)) (sym stands.same)
      (is.runs old.machine.image valid able whole)

  -- and as what a parcel answers says it
  module _ (p : ℕ) (ran : Ran) (noted : List Letter) (end : Private) (e : p ≡ s.process) (f : ran ≡ s.ran) (g : noted ≡ s.noted) (h : end ≡ s.end) where
    pub has_run_as : HasRun old.machine.code p MOST_RUN old.machine.image ran noted (with_private old.machine.image p 0 end)
    has_run_as =
        subst (λ (q : ℕ). HasRun old.machine.code q MOST_RUN old.machine.image ran noted (with_private old.machine.image q 0 end)) (sym e)
        (subst (λ (r : Ran). HasRun old.machine.code s.process MOST_RUN old.machine.image r noted (with_private old.machine.image s.process 0 end)) (sym f)
        (subst (λ (ls : List Letter). HasRun old.machine.code s.process MOST_RUN old.machine.image s.ran ls (with_private old.machine.image s.process 0 end)) (sym g)
        (subst (λ (x : Private). HasRun old.machine.code s.process MOST_RUN old.machine.image s.ran s.noted (with_private old.machine.image s.process 0 x)) (sym h) has_run)))

    pub runs_as : (m : MachineModel) → ChainRuns old.machine p MOST_RUN ran noted m → ChainRuns old.machine s.process MOST_RUN s.ran s.noted m
    runs_as m runs =
        subst (λ (q : ℕ). ChainRuns old.machine q MOST_RUN s.ran s.noted m) e
        (subst (λ (r : Ran). ChainRuns old.machine p MOST_RUN r s.noted m) f (subst (λ (ls : List Letter). ChainRuns old.machine p MOST_RUN ran ls m) g runs))

    pub keeps_as : IfSome (numbered old.machine.image.regs p) (λ r. RegistersStay r end.regs)
    keeps_as =
        subst (λ (q : ℕ). IfSome (numbered old.machine.image.regs q) (λ r. RegistersStay r end.regs)) (sym e)
        (subst (λ (x : Private). IfSome (numbered old.machine.image.regs s.process) (λ r. RegistersStay r x.regs)) (sym h) keeps)

    -- the letters of its entries
    pub letters_are : take ran.entries noted ≡ entries_in s
    letters_are = ap (λ (r : Ran). take r.entries noted) f ∙ ap (λ (ls : List Letter). take s.ran.entries ls) g

    -- the entries that are put on the schedule
    pub added_as : (t u : ScheduleModel) → entries u.runs ≡ entries t.runs ++ replicate (length (take ran.entries noted)) p
        → entries u.runs ≡ entries t.runs ++ replicate (length (entries_in s)) s.process
    added_as t u is =
        is ∙ ap (λ (ls : List Letter). entries t.runs ++ replicate (length ls) p) letters_are ∙ ap (λ (q : ℕ). entries t.runs ++ replicate (length (entries_in s)) q) e

    pub letters_as : (t u : ScheduleModel) → u.letters ≡ t.letters ++ take ran.entries noted → u.letters ≡ t.letters ++ entries_in s
    letters_as t u is = is ∙ ap (λ (ls : List Letter). t.letters ++ ls) letters_are

  -- its entries are as many as were performed
  pub entries_noted : length (entries_in s) ≡ s.ran.entries
  entries_noted = length-take-le s.ran.entries s.noted (omega (arith, has_run.few))

  -- and there is room for them
  pub letters_fit : length old.schedule.letters + s.ran.entries ≤ budget
  letters_fit = omega (arith, letters_entries code budget old stands, entries_spent code budget old stands, is.counted, less)

  pub acts_fit : old.acts + s.ran.entries ≤ budget
  acts_fit = omega (arith, stands.acts, entries_spent code budget old stands, is.counted, less)

  module _ (sound : Sound code) (m : MachineModel) (runs : ChainRuns old.machine s.process MOST_RUN s.ran s.noted m) (t : ScheduleModel)
      (added : entries t.runs ≡ entries old.schedule.runs ++ replicate (length (entries_in s)) s.process) (letters : t.letters ≡ old.schedule.letters ++ entries_in s) where
    on : GoesOn budget old
    on = goes_on budget old going

    pub pass : Passing old.machine s.process (budget - old.spent) s.ran s.noted m
    pass = runs_pass old.machine m s.process MOST_RUN s.ran s.noted runs (budget - old.spent) on.end on.lacked able (omega (arith, less))

    abbrev pub between : Running
    between = record old { machine = pass.between; schedule = t; spent = old.spent + s.ran.operators; acts = old.acts + length (entries_in s) }

    abbrev pub run_put : Running
    run_put = record old { machine = m; schedule = t; spent = old.spent + s.ran.operators + s.ran.plain; acts = old.acts + length (entries_in s) }

    runs_on : RunsOn budget old s.process (entries_in s) s.ran.operators between
    runs_on = record { machine = pass.enters; within = omega (arith, less); order = added; noted = letters; new_is = refl }

    lands : LandsOnce between s.process s.ran.plain run_put
    lands = record { machine = pass.goes; new_is = refl }

    pub puts : PutsRun budget s old run_put
    puts = record { between = between; runs = runs_on; lands = lands }

    pub stands_put : Stands code budget run_put
    stands_put =
        lands_keep code budget between run_put s.process s.ran.plain
        (runs_keep code budget old between s.process (entries_in s) s.ran.operators sound stands going held runs_on)
        (runs_go_on budget old between s.process (entries_in s) s.ran.operators going runs_on) held (omega (arith, less)) lands

    pub lacks_put : m.lacked ≡ old.machine.lacked
    lacks_put = ap (λ (k : MachineModel). k.lacked) runs.others

    -- and the run goes on
    pub ends_put : machine_end m ≡ None
    ends_put =
        still_goes pass.between m s.process s.ran.plain (goes_on budget between (runs_go_on budget old between s.process (entries_in s) s.ran.operators going runs_on)).end pass.goes
