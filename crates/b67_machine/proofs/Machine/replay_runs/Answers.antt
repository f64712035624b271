use Rattle.std.specs.Prelude.{option_copied, IfSome}
use Rattle.std.proofs.Common.{◌≡◌, ◌<◌, ◌≤◌, ◌⊎◌, sym, ap, subst, ◌∙◌, ℕ, suc, ◌+◌, ◌-◌, List, [], ◌++◌, length, length-append, replicate, take, refl, get_or, Option, Some, arith}
use Rattle.std.proofs.lemmas.List.{length-replicate}
use Rattle.b67_deeds.specs.declared.Letter.{Letter}
use Rattle.b67_schedule.specs.declared.Run.{Run}
use Rattle.b67_schedule.specs.Schedules.{entries, most_in_schedule}
use Rattle.b67_segment.specs.declared.code.Code.{Code}
use Rattle.b67_machine.specs.Kept.{MachineModel}
use Rattle.b67_machine.specs.Replaying.{ReplaysEntries, Between, LettersAgree, GoOnAs, first_of, rest_of}
use Rattle.b67_machine.proofs.Agreeing.{noted_length, ends_by, goes_none, goes_after, agrees_after, agrees_first, agrees_whole, agrees_at_end, rest_of_all, rest_after, rest_long, some_long, theirs_long}
use Rattle.b67_machine.proofs.Finishing.{begins, finishes}
use Rattle.b67_machine.proofs.Following.{next_within, room_next, ends_in, entries_end, entries_then}
use Rattle.b67_machine.proofs.Machine.replay_runs.Goals as goal

abbrev no_run : Run
no_run = record { process = 0; times = 0 }

pub runs-init : goal.runs-init
runs-init g c =
    let given = option_copied c.args.letters in
    let code = c.args.self.now.code in
    let runs = ap entries c.requires.empty.0 in
    let letters = c.requires.empty.1 in
    record {
      performed = runs;
      between = subst (λ (xs : List ℕ). Between code xs c.args.done.now.letters 0 c.args.self.now) (sym runs)
          (subst (λ (ls : List Letter). Between code [] ls 0 c.args.self.now) (sym letters) (begins c.args.self.now c.requires.fresh));
      within = omega arith;
      room = omega arith;
      notes = refl;
      letters = subst (λ (ls : List Letter). GoOnAs (first_of (length ls) given) [] ls) (sym letters) (goes_none given []);
      left = subst (λ (ls : List Letter). given ≡ rest_of (length ls) given) (sym letters) (rest_of_all given);
    }

-- so many letters and those of the next run are within all
next_few : (code : Code) (budget : ℕ) (runs : List Run) (i : ℕ) → i < length runs → (its : Code) (m : MachineModel) (performed : List ℕ) (noted : List Letter) (spent : ℕ) → Between its performed noted spent m
    → performed ≡ entries (take i runs) → length noted + (get_or runs i no_run).times ≤ length (entries runs)
next_few code budget runs i less its m performed noted spent b e =
    omega (arith, next_within code budget runs i no_run less performed e, noted_length its performed noted spent m b)

pub split-requires : goal.split-requires
split-requires g c =
    let inv = c.runs.invariant in
    let given = option_copied c.args.letters in
    let n = length c.runs.done.letters in
    let all = length (entries c.args.runs.now) in
    let times = (get_or c.args.runs.now c.runs.run-index no_run).times in
    subst (λ (o : Option (List Letter)). IfSome o (λ ls. times ≤ length ls)) (sym inv.left)
    (some_long (rest_of n given) times (all - n)
    (omega (arith, next_few c.args.self.now.code c.args.budget c.args.runs.now c.runs.run-index c.runs-test.true _ c.runs.self (entries c.runs.done.runs) c.runs.done.letters c.runs.spent inv.between inv.performed))
    (rest_long given n all c.requires.each))

pub replay_run-requires-clause-between : goal.replay_run-requires-clause-between
replay_run-requires-clause-between g c =
    let inv = c.runs.invariant in
    subst (λ (code : Code). Between code (entries c.runs.done.runs) c.runs.done.letters c.runs.spent c.runs.self) (sym inv.between.same) inv.between

pub replay_run-requires-clause-each : goal.replay_run-requires-clause-each
replay_run-requires-clause-each g c =
    let inv = c.runs.invariant in
    let given = option_copied c.args.letters in
    theirs_long given (option_copied c.runs.left) _ (length c.runs.done.letters) (get_or c.args.runs.now c.runs.run-index no_run).times (length (entries c.args.runs.now)) inv.left
    (next_few c.args.self.now.code c.args.budget c.args.runs.now c.runs.run-index c.runs-test.true _ c.runs.self (entries c.runs.done.runs) c.runs.done.letters c.runs.spent inv.between inv.performed)
    c.requires.each c.split.ensures.first

pub replay_run-requires-clause-room : goal.replay_run-requires-clause-room
replay_run-requires-clause-room g c =
    let inv = c.runs.invariant in
    subst (λ (n : ℕ). (n + (get_or c.args.runs.now c.runs.run-index no_run).times ≤ c.runs.done.room) ⊎ (c.args.budget ≤ c.runs.done.room))
    (sym (noted_length _ (entries c.runs.done.runs) c.runs.done.letters c.runs.spent c.runs.self inv.between))
    (room_next c.args.self.now.code c.args.budget c.args.runs.now c.runs.run-index no_run c.runs-test.true (entries c.runs.done.runs) c.args.done.now.room c.runs.done.room
    inv.performed inv.room c.requires.room)

pub replay_run-requires-clause-few : goal.replay_run-requires-clause-few
replay_run-requires-clause-few g c =
    let inv = c.runs.invariant in
    subst (λ (n : ℕ). (n + (get_or c.args.runs.now c.runs.run-index no_run).times ≤ most_in_schedule) ⊎ (c.args.budget ≤ most_in_schedule))
    (sym (noted_length _ (entries c.runs.done.runs) c.runs.done.letters c.runs.spent c.runs.self inv.between))
    (room_next c.args.self.now.code c.args.budget c.args.runs.now c.runs.run-index no_run c.runs-test.true (entries c.runs.done.runs) most_in_schedule most_in_schedule inv.performed (omega arith) c.requires.few)

pub runs-preserved : goal.runs-preserved
runs-preserved g c =
    let inv = c.runs.invariant in
    let given = option_copied c.args.letters in
    let code = c.args.self.now.code in
    let run = get_or c.args.runs.now c.runs.run-index no_run in
    let k = c.in_default.ensures.entries in
    let one : suc c.runs.run-index ≡ c.runs.run-index + 1 = omega arith in
    let new = c.replay_run.new in
    let before = c.runs.done.letters in
    let between : Between code (entries new.done.runs) new.done.letters new.spent new.self =
    subst (λ (x : Code). Between x (entries new.done.runs) new.done.letters new.spent new.self) inv.between.same k.1 in
    let added : entries new.done.runs ≡ entries c.runs.done.runs ++ replicate run.times run.process = k.0 in
    let count : length before + run.times ≡ length new.done.letters =
    omega (
      arith,
      noted_length code (entries new.done.runs) new.done.letters new.spent new.self between,
      noted_length code (entries c.runs.done.runs) before c.runs.spent c.runs.self inv.between,
      ap length added,
      length-append (entries c.runs.done.runs) (replicate run.times run.process),
      length-replicate run.times run.process,
    ) in
    record {
      performed = added ∙ entries_then code c.args.budget c.args.runs.now c.runs.run-index no_run c.runs-test.true (entries c.runs.done.runs) inv.performed
          ∙ ap (λ (n : ℕ). entries (take n c.args.runs.now)) one;
      between = between;
      within = k.2;
      room = omega (arith, c.in_default.ensures.room, inv.room);
      notes = c.in_default.ensures.notes;
      letters = subst (λ (n : ℕ). GoOnAs (first_of n given) [] new.done.letters) count
          (goes_after given (length before) run.times [] before new.done.letters inv.letters
          (subst (λ (o : Option (List Letter)). GoOnAs o before new.done.letters) (c.split.ensures.first ∙ ap (first_of run.times) inv.left) c.in_default.ensures.letters));
      left = c.split.ensures.rest ∙ ap (rest_of run.times) inv.left ∙ rest_after given (length before) run.times ∙ ap (λ (n : ℕ). rest_of n given) count;
    }

pub returns-in-Some : goal.returns-in-Some
returns-in-Some g c =
    let inv = c.runs.invariant in
    let given = option_copied c.args.letters in
    let run = get_or c.args.runs.now c.runs.run-index no_run in
    let before = c.runs.done.letters in
    let noted = c.replay_run.new.done.letters in
    let answer = c.in-Some.answer in
    record {
      replays = (
        ends_in c.args.self.now.code c.args.budget c.args.runs.now c.runs.run-index no_run c.runs-test.true c.runs.self.code inv.between.same (entries c.runs.done.runs)
            (entries c.replay_run.new.done.runs) noted c.replay_run.new.self answer inv.performed c.in-Some.ensures.entries,
        agrees_whole answer given noted (agrees_after given (length before) [] before noted answer inv.letters (agrees_first (rest_of (length before) given) run.times before noted answer
            (subst (λ (o : Option (List Letter)). LettersAgree o before noted (Some answer)) (c.split.ensures.first ∙ ap (first_of run.times) inv.left) c.in-Some.ensures.letters))),
      );
    }

pub returns : goal.returns
returns g c =
    let inv = c.runs.invariant in
    let given = option_copied c.args.letters in
    let code = c.args.self.now.code in
    let answer = c.after_all.result in
    let all = inv.performed ∙ entries_end c.args.runs.now c.runs.run-index c.runs-test.false in
    record {
      replays = (
        subst (λ (xs : List ℕ). ReplaysEntries code xs c.args.budget (entries c.runs.done.runs) c.runs.done.letters c.runs.self answer) all
            (finishes code c.args.budget (entries c.runs.done.runs) c.runs.done.letters c.runs.spent c.runs.self inv.between inv.within answer c.after_all.ensures),
        agrees_at_end answer (ends_by c.runs.self c.args.budget c.runs.spent answer c.after_all.ensures) given (length c.runs.done.letters) c.runs.done.letters inv.letters,
      );
    }
