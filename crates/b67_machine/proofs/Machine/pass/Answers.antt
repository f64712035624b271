use Rattle.std.specs.Prelude.{IfSome}
use Rattle.std.proofs.Common.{◌≡◌, refl, sym, ap, subst, ◌∙◌, ℕ, ◌+◌, ◌-◌, ◌<◌, ◌≤◌, List, [], ◌∷◌, ◌++◌, length, take, drop, set, Option, arith}
use Rattle.std.proofs.lemmas.List.{drop-drop, length-drop, length-set, length-take-le, take-set-le}
use Rattle.b67_deeds.specs.declared.Letter.{Letter}
use Rattle.b67_action.specs.declared.done.Done.{Done}
use Rattle.b67_action.specs.declared.done.Done.TheVariants.{Went}
use Rattle.b67_machine.specs.Entries as entries
use Rattle.b67_machine.specs.Entries.{EntryPasses, EntriesFollow}
use Rattle.b67_machine.specs.Stepping.{MachineActs, Steps}
use Rattle.b67_machine.proofs.Chains.{acts, passes_by, passing_more, performs_after, able_then_from, runs_able, runs_going, runs_here, runs_action}
use Rattle.b67_machine.proofs.Enabling.{able_after}
use Rattle.b67_machine.proofs.Noting.{steps_named, follows_named, noted_last, noted_if, first_noted, noted_on, whole_again}
use Rattle.b67_machine.proofs.Machine.pass.Goals as goal

pub passing-init : goal.passing-init
passing-init g c =
    let p = c.args.process in
    let most = c.args.most in
    let a = c.args.self.now in
    let ran = c.run_process-ran.result in
    let new = c.run_process-ran.new.self in
    let part = c.run_process-ran.new.letters in
    let room = length c.args.letters.now - 1 in
    let rest = drop room c.args.letters.now in
    let h = c.run_process-ran.ensures.runs in
    let zero_less : room ≡ room - 0 = omega arith in
    let whole = whole_again c.args.letters.now part rest 0 room (omega arith) (omega arith)
    (c.run_process-ran.ensures.size ∙ ap (λ (n : ℕ). length (take n c.args.letters.now)) zero_less) refl in
    record {
      passes = passing_more p most a [] 0 a entries.stay c.requires.going c.requires.here h.begun c.requires.able h.number h.known (most - 1) ran part (part ++ rest) new h
          (omega (arith, c.run_process-ran.ensures.most)) ran.entries ran.operators (first_noted part rest ran.entries c.run_process-ran.ensures.entries) (omega arith);
      size = whole;
      room = omega (arith, whole, c.requires.room);
      entries = omega (arith, c.run_process-ran.ensures.entries, c.run_process-ran.ensures.size, length-take-le room c.args.letters.now (omega arith));
      few = c.run_process-ran.ensures.counted;
      less = omega (arith, c.run_process-ran.ensures.most, c.requires.some);
      stops = λ less before. runs_action a new p (most - 1) ran part h (omega (arith, less)) (λ some. omega (arith, before, c.run_process-ran.ensures.size, length-take-le room c.args.letters.now (omega arith)));
      counts = h.counts.own;
      able = runs_able a new p (most - 1) ran part h c.requires.able;
      going = runs_going a new p (most - 1) ran part h c.requires.going;
      here = runs_here a new p (most - 1) ran part h c.requires.here;
      started = h.run.calm.started ∙ sym c.started-before.ensures;
    }

pub run_process-more-requires-clause-going : goal.run_process-more-requires-clause-going
run_process-more-requires-clause-going g c =
    let inv = c.passing.invariant in
    let ran = c.passing.ran in
    let b = c.passing.self in
    let a = c.act-done.new.self in
    let k = c.is_passed.ensures c.if-not-is_passed.false in
    let steps : Steps b c.args.process Went a = subst (λ (d : Done). Steps b c.args.process d a) k.0 c.act-done.ensures.steps in
    let named = steps_named b a c.args.process Went steps (inv.stops (omega (arith, c.passing-test.true)) (omega (arith, c.passing-test.true))) refl in
    (passes_by inv.passes.between b a c.args.process (c.args.most - ran.operators) ran.plain inv.going inv.passes.goes (omega (arith, c.passing-test.true))
    (inv.stops (omega (arith, c.passing-test.true)) (omega (arith, c.passing-test.true))) steps (k.1 ∙ sym inv.started) k.2 inv.here c.act-done.ensures.valid named.l named.kept).ends

pub run_process-more-requires-clause-able : goal.run_process-more-requires-clause-able
run_process-more-requires-clause-able g c =
    let inv = c.passing.invariant in
    let ran = c.passing.ran in
    let b = c.passing.self in
    let a = c.act-done.new.self in
    let k = c.is_passed.ensures c.if-not-is_passed.false in
    let steps : Steps b c.args.process Went a = subst (λ (d : Done). Steps b c.args.process d a) k.0 c.act-done.ensures.steps in
    let named = steps_named b a c.args.process Went steps (inv.stops (omega (arith, c.passing-test.true)) (omega (arith, c.passing-test.true))) refl in
    (passes_by inv.passes.between b a c.args.process (c.args.most - ran.operators) ran.plain inv.going inv.passes.goes (omega (arith, c.passing-test.true))
    (inv.stops (omega (arith, c.passing-test.true)) (omega (arith, c.passing-test.true))) steps (k.1 ∙ sym inv.started) k.2 inv.here c.act-done.ensures.valid named.l named.kept).still

pub passing-preserved : goal.passing-preserved
passing-preserved g c =
    let p = c.args.process in
    let most = c.args.most in
    let inv = c.passing.invariant in
    let ran = c.passing.ran in
    let b = c.passing.self in
    let a = c.act-done.new.self in
    let more = c.run_process-more.result in
    let new = c.run_process-more.new.self in
    let h = c.run_process-more.ensures.runs in
    let k = c.is_passed.ensures c.if-not-is_passed.false in
    let steps : Steps b p Went a = subst (λ (d : Done). Steps b p d a) k.0 c.act-done.ensures.steps in
    let action = inv.stops (omega (arith, c.passing-test.true)) (omega (arith, c.passing-test.true)) in
    let few : ran.plain < most - ran.operators = omega (arith, c.passing-test.true) in
    let named = steps_named b a p Went steps action refl in
    let pass : EntryPasses inv.passes.between p (most - ran.operators) ran.plain named.l a =
    passes_by inv.passes.between b a p (most - ran.operators) ran.plain inv.going inv.passes.goes few action steps (k.1 ∙ sym inv.started) k.2 inv.here c.act-done.ensures.valid named.l
    named.kept in
    let one : MachineActs b p Went a =
    acts inv.passes.between b a p (most - ran.operators) ran.plain inv.going inv.passes.goes few action steps (k.1 ∙ sym inv.started) k.2 inv.here c.act-done.ensures.valid in
    let limit : ℕ = most - 1 - (ran.operators + ran.plain + 1) in
    let room = length c.args.letters.now - 1 in
    let n = ran.entries in
    let first = c.passing.letters in
    let place = c.write_letter.new.place in
    let noted = set first n place in
    let part = c.run_process-more.new.letters in
    let upto : n + 1 + (room - (n + 1)) ≡ room = omega (arith, inv.entries, c.passing-test.true) in
    let rest = drop (room - (n + 1)) (drop (n + 1) noted) in
    let less : n < length first = omega (arith, inv.entries, inv.room) in
    let is_noted : place ≡ named.l = subst (λ (o : Option Letter). IfSome o (λ l. place ≡ l)) (c.letter.ensures ∙ named.kept) c.write_letter.ensures in
    let long : n + 1 ≤ room = omega (arith, inv.entries, c.passing-test.true) in
    let size = length-set first n place in
    let whole = whole_again noted part rest (n + 1) room long (omega (arith, inv.room, size)) c.run_process-more.ensures.size
    (drop-drop (room - (n + 1)) (n + 1) noted ∙ ap (λ (k : ℕ). drop k noted) upto) in
    let fits = length-take-le (room - (n + 1)) (drop (n + 1) noted) (omega (arith, length-drop (n + 1) noted, inv.room, size)) in
    record {
      passes = passing_more p most c.args.self.now (take n first ++ named.l ∷ []) (ran.operators + (ran.plain + 1)) a (entries.go inv.passes.enters pass) pass.ends pass.lacked h.begun
          pass.still h.number h.known limit more part (take (n + 1) noted ++ (part ++ rest)) new h (omega (arith, c.run_process-more.ensures.most, c.passing-test.true)) (n + 1 + more.entries)
          (ran.operators + ran.plain + 1 + more.operators) (noted_on first part rest place named.l n more.entries less c.run_process-more.ensures.entries is_noted) (omega arith);
      size = whole ∙ size ∙ inv.size;
      room = omega (arith, whole, size, inv.room);
      entries = omega (arith, c.run_process-more.ensures.entries, c.run_process-more.ensures.size, fits, long);
      few = omega (arith, inv.few, c.run_process-more.ensures.counted, c.passing-test.true);
      less = omega (arith, c.run_process-more.ensures.most, c.passing-test.true);
      stops = λ less before. runs_action a new p limit more part h (omega (arith, less, c.passing-test.true)) (λ some. omega (arith, before, c.run_process-more.ensures.size, fits, long));
      counts = omega (arith, h.counts.own, one.counts.own, inv.counts);
      able = runs_able a new p limit more part h pass.still;
      going = runs_going a new p limit more part h pass.ends;
      here = runs_here a new p limit more part h pass.lacked;
      started = h.run.calm.started ∙ k.1;
    }

-- the entry that goes on no further is the last one
pub returns-then-not-is_passed-clause-performs : goal.returns-then-not-is_passed-clause-performs
returns-then-not-is_passed-clause-performs g c =
    let inv = c.passing.invariant in
    let ran = c.passing.ran in
    let steps = c.act-done.ensures.steps in
    record {
      between = inv.passes.between;
      few = omega (arith, inv.entries, inv.room, length-set c.passing.letters ran.entries c.write_letter.new.place);
      enters = subst (λ (ls : List Letter). EntriesFollow c.args.process c.args.most c.args.self.now ls ran.operators inv.passes.between)
          (sym (take-set-le ran.entries c.passing.letters ran.entries c.write_letter.new.place (omega arith))) inv.passes.enters;
      within = omega (arith, inv.less);
      less = λ some. omega (arith, inv.less);
      performs = record {
        between = c.passing.self;
        plains = inv.passes.goes;
        then = (omega (arith, c.passing-test.true), inv.stops (omega (arith, c.passing-test.true)) (omega (arith, c.passing-test.true)), steps);
      };
      able = able_after inv.passes.between c.passing.self c.act-done.new.self c.args.process ran.plain c.act-done.result inv.passes.goes steps;
      last = λ one. noted_last c.passing.letters ran.entries c.write_letter.new.place c.letter.result c.passing.self c.args.process c.act-done.new.self (omega (arith, inv.entries, inv.room))
          c.letter.ensures c.write_letter.ensures (steps_named c.passing.self c.act-done.new.self c.args.process c.act-done.result steps (inv.stops (omega (arith, c.passing-test.true)) (omega (arith, c.passing-test.true))) one);
    }

pub returns-clause-performs : goal.returns-clause-performs
returns-clause-performs g c =
    let p = c.args.process in
    let inv = c.passing.invariant in
    let ran = c.passing.ran in
    let h = inv.passes in
    let mid = c.passing.self in
    let new = c.perform_entry-last.new.self in
    let f = c.perform_entry-last.result in
    record {
      between = h.between;
      few = omega (arith, inv.entries, inv.room, length-set c.passing.letters ran.entries c.write_letter-2.new.place);
      enters = subst (λ (ls : List Letter). EntriesFollow p c.args.most c.args.self.now ls ran.operators h.between)
          (sym (take-set-le ran.entries c.passing.letters ran.entries c.write_letter-2.new.place (omega arith))) h.enters;
      within = omega (arith, inv.less);
      less = λ some. omega (arith, inv.less);
      performs = performs_after h.between mid new p ran.plain (c.args.most - ran.operators - ran.plain) (c.args.most - ran.operators) (f.plain + ran.plain) f h.goes
          c.perform_entry-last.ensures.performs (omega arith) (omega (arith, inv.less));
      able = able_then_from h.between mid new p ran.plain f.done h.goes c.perform_entry-last.ensures.able;
      last = noted_if c.passing.letters ran.entries c.write_letter-2.new.place c.letter-2.result c.perform_entry-last.ensures.performs.between p new f.done (omega (arith, inv.entries, inv.room))
          c.letter-2.ensures c.write_letter-2.ensures
          (follows_named c.perform_entry-last.ensures.performs.between new p f.plain (c.args.most - ran.operators - ran.plain) f.done c.perform_entry-last.ensures.performs.then);
    }

pub returns-then-not-is_passed-clause-size : goal.returns-then-not-is_passed-clause-size
returns-then-not-is_passed-clause-size g c = length-set c.passing.letters c.passing.ran.entries c.write_letter.new.place ∙ c.passing.invariant.size

pub returns-clause-size : goal.returns-clause-size
returns-clause-size g c = length-set c.passing.letters c.passing.ran.entries c.write_letter-2.new.place ∙ c.passing.invariant.size
