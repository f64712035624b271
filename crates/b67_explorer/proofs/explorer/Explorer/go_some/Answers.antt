use Rattle.std.proofs.Common.{rules, ◌≡◌, ap, subst, ◌∙◌, ℕ, ◌+◌, ◌-◌, ◌≤◌, Bool, Some, arith}
use Rattle.b67_outcomes.proofs.Repeating.{first_may}
use Rattle.b67_table.proofs.Cited.{may_able, number_there}
use Rattle.b67_explorer.specs.Entries.{EntriesFit}
use Rattle.b67_explorer.proofs.Performed.{repeated_all, repeated_code}
use Rattle.b67_explorer.proofs.Fitting.{fits_all, has_no_end, last_come, last_goes}
use Rattle.b67_explorer.proofs.explorer.Explorer.go_some.Goals as goal

pub perform_entries-entered-requires-clause-able : goal.perform_entries-entered-requires-clause-able
perform_entries-entered-requires-clause-able g c =
    let old = c.args.self.now.machine in
    may_able old.image c.args.process (first_may old.code c.args.process c.args.most old.image c.requires.has.0 c.requires.some c.requires.has.1)

pub perform_entries-entered-requires-clause-going : goal.perform_entries-entered-requires-clause-going
perform_entries-entered-requires-clause-going g c =
    let old = c.args.self.now.machine in
    has_no_end old c.args.process _ (first_may old.code c.args.process c.args.most old.image c.requires.has.0 c.requires.some c.requires.has.1) c.requires.room.1

pub perform_entries-entered-requires-clause-count : goal.perform_entries-entered-requires-clause-count
perform_entries-entered-requires-clause-count g c = let few = c.requires.room.1.counts c.args.process in omega (arith, few)

pub entered_by-requires : goal.entered_by-requires
entered_by-requires g c =
    let old = c.args.self.now.machine in
    let n = c.perform_entries-entered.result.entries in
    let p = c.args.process in
    let may = first_may old.code p c.args.most old.image c.requires.has.0 c.requires.some c.requires.has.1 in
    let below : n + 1 ≤ 256 = search rules in
    let within : n + 1 ≤ c.args.most = search rules in
    let room = c.requires.room in
    let split : c.args.most + room.0 ≡ n + 1 + (c.args.most - (n + 1) + room.0) = omega (arith, within) in
    last_come old p 4294967295 c.perform_entries-entered.result c.perform_entries-entered.new.letters c.perform_entries-entered.new.self may
    c.perform_entries-entered.ensures.performs (c.args.most - (n + 1) + room.0) (subst (λ (k : ℕ). EntriesFit old k) split room.1) c.requires.known.1.follows.sound
    c.requires.reached (number_there old.image p may) (omega (arith, below)) (omega arith)

pub unreachable-requires : goal.unreachable-requires
unreachable-requires g c =
    let old = c.args.self.now.machine in
    let n = c.perform_entries-entered.result.entries in
    let p = c.args.process in
    let may = first_may old.code p c.args.most old.image c.requires.has.0 c.requires.some c.requires.has.1 in
    let within : n + 1 ≤ c.args.most = search rules in
    last_goes old p 4294967295 c.perform_entries-entered.result c.perform_entries-entered.new.letters c.perform_entries-entered.new.self may
    c.perform_entries-entered.ensures.performs c.args.most c.requires.has.0 (omega (arith, within)) c.requires.has.1
    (c.in_ok-entered_by.ensures ∙ ap (λ (b : Bool). Some b) c.if-branch.false)

pub returns-in_err-entered_by-clause-code : goal.returns-in_err-entered_by-clause-code
returns-in_err-entered_by-clause-code g c =
    let old = c.args.self.now.machine in
    repeated_code c.args.process 4294967295 old c.perform_entries-entered.new.self c.perform_entries-entered.result c.perform_entries-entered.new.letters
    (first_may old.code c.args.process c.args.most old.image c.requires.has.0 c.requires.some c.requires.has.1) c.perform_entries-entered.ensures.performs

pub returns-clause-code : goal.returns-clause-code
returns-clause-code g c =
    let old = c.args.self.now.machine in
    repeated_code c.args.process 4294967295 old c.perform_entries-entered.new.self c.perform_entries-entered.result c.perform_entries-entered.new.letters
    (first_may old.code c.args.process c.args.most old.image c.requires.has.0 c.requires.some c.requires.has.1) c.perform_entries-entered.ensures.performs

pub returns-clause-entered : goal.returns-clause-entered
returns-clause-entered g c =
    let old = c.args.self.now.machine in
    repeated_all c.args.process 4294967295 old c.perform_entries-entered.new.self c.perform_entries-entered.result c.perform_entries-entered.new.letters
    (first_may old.code c.args.process c.args.most old.image c.requires.has.0 c.requires.some c.requires.has.1) c.perform_entries-entered.ensures.performs
    (c.in_ok-entered_by.ensures ∙ ap (λ (b : Bool). Some b) c.if-branch.true)

pub returns-clause-room : goal.returns-clause-room
returns-clause-room g c = λ k fit.
    let old = c.args.self.now.machine in
    fits_all old c.args.process 4294967295 c.perform_entries-entered.result c.perform_entries-entered.new.letters c.perform_entries-entered.new.self
    (first_may old.code c.args.process c.args.most old.image c.requires.has.0 c.requires.some c.requires.has.1) c.perform_entries-entered.ensures.performs k fit
    c.perform_entries-entered.ensures.valid (c.in_ok-entered_by.ensures ∙ ap (λ (b : Bool). Some b) c.if-branch.true)
