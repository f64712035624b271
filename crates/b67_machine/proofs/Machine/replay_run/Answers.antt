use Rattle.std.specs.Prelude.{option_copied, IfSome}
use Rattle.std.proofs.Common.{◌≡◌, ◌≤◌, sym, ap, subst, ◌∙◌, ℕ, ◌+◌, ◌-◌, List, ◌++◌, length, length-append, append-nil, replicate, refl, Option, Some, arith}
use Rattle.std.proofs.lemmas.List.{length-replicate}
use Rattle.b67_deeds.specs.declared.Letter.{Letter}
use Rattle.b67_schedule.specs.Schedules.{entries, most_in_schedule}
use Rattle.b67_segment.specs.declared.code.Code.{Code}
use Rattle.b67_machine.specs.Replaying.{Between, LettersAgree, GoOnAs, first_of, rest_of}
use Rattle.b67_machine.proofs.Agreeing.{noted_length, goes_none, goes_whole, goes_after, agrees_after, rest_of_all, rest_after, rest_long, some_long}
use Rattle.b67_machine.proofs.Following.{more_of_run, ends_in_run, room_left}
use Rattle.b67_machine.proofs.Machine.replay_run.Goals as goal

pub times-init : goal.times-init
times-init g c = record {
  few = omega arith;
  added = sym (append-nil (entries c.args.done.now.runs));
  between = c.requires.between;
  within = c.requires.within;
  room = omega arith;
  notes = c.requires.notes;
  letters = goes_none (option_copied c.args.letters) c.args.done.now.letters;
  left = rest_of_all (option_copied c.args.letters);
}

pub replay_entries-requires-clause-each : goal.replay_entries-requires-clause-each
replay_entries-requires-clause-each g c =
    let inv = c.times.invariant in
    subst (λ (o : Option (List Letter)). IfSome o (λ ls. length ls ≡ c.args.run.now.times - c.times.times)) (sym inv.left)
    (rest_long (option_copied c.args.letters) c.times.times c.args.run.now.times c.requires.each)

pub replay_entries-requires-clause-room : goal.replay_entries-requires-clause-room
replay_entries-requires-clause-room g c =
    let inv = c.times.invariant in
    room_left (length c.args.done.now.letters) (length c.times.done.letters) c.args.run.now.times c.times.times c.args.done.now.room c.times.done.room c.args.budget c.requires.room
    (omega (
      arith,
      noted_length _ _ _ _ _ inv.between,
      noted_length _ _ _ _ _ c.requires.between,
      ap length inv.added,
      length-append (entries c.args.done.now.runs) (replicate c.times.times c.args.run.now.process),
      length-replicate c.times.times c.args.run.now.process,
    )) inv.few inv.room

pub replay_entries-requires-clause-few : goal.replay_entries-requires-clause-few
replay_entries-requires-clause-few g c =
    let inv = c.times.invariant in
    room_left (length c.args.done.now.letters) (length c.times.done.letters) c.args.run.now.times c.times.times most_in_schedule most_in_schedule c.args.budget c.requires.few
    (omega (
      arith,
      noted_length _ _ _ _ _ inv.between,
      noted_length _ _ _ _ _ c.requires.between,
      ap length inv.added,
      length-append (entries c.args.done.now.runs) (replicate c.times.times c.args.run.now.process),
      length-replicate c.times.times c.args.run.now.process,
    )) inv.few (omega arith)

pub split-requires : goal.split-requires
split-requires g c =
    let inv = c.times.invariant in
    subst (λ (o : Option (List Letter)). IfSome o (λ ls. c.in-Ok.entries ≤ length ls)) (sym inv.left)
    (some_long (rest_of c.times.times (option_copied c.args.letters)) c.in-Ok.entries (c.args.run.now.times - c.times.times) c.in-Ok.ensures.entries.1
    (rest_long (option_copied c.args.letters) c.times.times c.args.run.now.times c.requires.each))

pub times-preserved : goal.times-preserved
times-preserved g c =
    let inv = c.times.invariant in
    let k = c.in-Ok.ensures.entries in
    let given = option_copied c.args.letters in
    let n = c.in-Ok.entries in
    record {
      few = omega (arith, k.1, c.times-test.true);
      added = k.2.0 ∙ more_of_run (entries c.args.done.now.runs) (entries c.times.done.runs) c.args.run.now.process c.times.times n (c.times.times + n) inv.added refl;
      between = subst (λ (code : Code). Between code (entries c.replay_entries.new.done.runs) c.replay_entries.new.done.letters c.replay_entries.new.spent c.replay_entries.new.self)
          inv.between.same k.2.1;
      within = k.2.2;
      room = omega (arith, c.in-Ok.ensures.room, inv.room);
      notes = c.in-Ok.ensures.notes;
      letters = goes_after given c.times.times n c.args.done.now.letters c.times.done.letters c.replay_entries.new.done.letters inv.letters
          (subst (λ (o : Option (List Letter)). GoOnAs (first_of n o) c.times.done.letters c.replay_entries.new.done.letters) inv.left c.in-Ok.ensures.letters);
      left = c.split.ensures.rest ∙ ap (rest_of n) inv.left ∙ rest_after given c.times.times n;
    }

pub returns-in-Err-clause-entries : goal.returns-in-Err-clause-entries
returns-in-Err-clause-entries g c =
    let inv = c.times.invariant in
    let p = c.args.run.now.process in
    let times = c.args.run.now.times in
    let before = entries c.times.done.runs ++ replicate (times - c.times.times) p in
    ends_in_run c.args.self.now.code c.args.budget (entries c.args.done.now.runs) p times times (omega arith) before
    (more_of_run (entries c.args.done.now.runs) (entries c.times.done.runs) p c.times.times (times - c.times.times) times inv.added (omega (arith, inv.few)))
    c.times.self.code inv.between.same (entries c.replay_entries.new.done.runs) c.replay_entries.new.done.letters c.replay_entries.new.self c.in-Err.answer c.in-Err.ensures.entries

pub returns-in-Err-clause-letters : goal.returns-in-Err-clause-letters
returns-in-Err-clause-letters g c =
    let inv = c.times.invariant in
    agrees_after (option_copied c.args.letters) c.times.times c.args.done.now.letters c.times.done.letters c.replay_entries.new.done.letters c.in-Err.answer inv.letters
    (subst (λ (o : Option (List Letter)). LettersAgree o c.times.done.letters c.replay_entries.new.done.letters (Some c.in-Err.answer)) inv.left c.in-Err.ensures.letters)

pub returns-clause-letters : goal.returns-clause-letters
returns-clause-letters g c =
    let inv = c.times.invariant in
    let given = option_copied c.args.letters in
    let all : c.times.times ≡ c.args.run.now.times = omega (arith, inv.few, c.times-test.false) in
    goes_whole given c.args.run.now.times c.args.done.now.letters c.times.done.letters c.requires.each
    (subst (λ (n : ℕ). GoOnAs (first_of n given) c.args.done.now.letters c.times.done.letters) all inv.letters)
