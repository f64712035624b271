use Rattle.std.proofs.Common.{◌≡◌, ◌∙◌, ap, subst, arith, ℕ, ◌+◌, ◌<◌, List, [], length, length-append, drop, drop_of_length-le, get_or, replicate}
use Rattle.std.proofs.lemmas.List.{length-replicate}
use Rattle.algol_cells.specs.SeenScope.{scoped}
use Rattle.algol_world.specs.SeenWorld.{world_of}
use Rattle.b67_schedule.specs.declared.Run.{Run}
use Rattle.b67_schedule.specs.Schedules.{entries}
use Rattle.b67_schedule.proofs.Cited.{entries_drop}
use Rattle.b67_storing.specs.Walking.{StandsNoted}
use Rattle.b67_storing.proofs.Standing.{run_goes}
use Rattle.b67_storing.proofs.walking.note_all.Goals as goal

abbrev no_run : Run
no_run = record { process = 0; times = 0 }

-- so many entries are in the runs that are left
counted : (runs : List Run) (i : ℕ) → i < length runs → length (entries (drop i runs)) ≡ (get_or runs i no_run).times + length (entries (drop (i + 1) runs))
counted runs i less =
    omega (
      arith,
      ap length (entries_drop runs i no_run less),
      length-append (replicate ((get_or runs i no_run).times) ((get_or runs i no_run).process)) (entries (drop (i + 1) runs)),
      length-replicate ((get_or runs i no_run).times) ((get_or runs i no_run).process),
    )

pub go_run-requires : goal.go_run-requires
go_run-requires c =
    let some = counted c.args.runs.now c.runs.run-index c.runs-test.true in
    record { few = omega (arith, some, c.runs.invariant.1, c.requires.few) }

pub runs-preserved : goal.runs-preserved
runs-preserved c =
    let some = counted c.args.runs.now c.runs.run-index c.runs-test.true in (
      λ w end given legal s.
          run_goes (scoped c.args.world.now.scopes) (scoped c.runs.world.scopes) c.args.commands.now w end given (world_of c.runs.world) (world_of c.go_run.new.world) c.runs.notes.items
          c.go_run.new.notes.items c.runs.before (c.runs.before + c.from-before.result) c.runs.run-index c.args.runs.now no_run (ap scoped c.runs.invariant.2)
          (omega (arith, c.from-before.ensures)) c.runs-test.true legal (c.runs.invariant.0 w end given legal s)
          c.in_ok-go_run.ensures.goes,
      omega (arith, some, c.from-before.ensures, c.runs.invariant.1),
      c.in_ok-go_run.ensures.same ∙ c.runs.invariant.2,
    )

pub returns : goal.returns
returns c =
    let none : entries (drop c.runs.run-index c.args.runs.now) ≡ [] = ap entries (drop_of_length-le c.args.runs.now (omega (arith, c.runs-test.false))) in
    record {
      goes = λ w end given legal s.
          subst (λ (xs : List ℕ). StandsNoted (scoped c.args.world.now.scopes) c.args.commands.now w given (world_of c.runs.world) c.runs.notes.items c.runs.before xs) none
          (c.runs.invariant.0 w end given legal s);
    }
