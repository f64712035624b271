use Rattle.std.proofs.Common.{◌≡◌, ap, ◌∙◌, ℕ, suc, Bool, true, false, Some, arith}
use Rattle.b67_outcomes.specs.Entering.{ProcessEnters}
use Rattle.b67_outcomes.proofs.Histories.{ok_map}
use Rattle.b67_table.proofs.Cited.{may_able}
use Rattle.b67_explorer.specs.Entries.{entered_by, EntriesFit, IsAtLimit}
use Rattle.b67_explorer.proofs.Performed.{entered_as, performed_code}
use Rattle.b67_explorer.proofs.Fitting.{come, fits_after, has_no_end, limit_after}
use Rattle.b67_explorer.proofs.explorer.Explorer.go.Goals as goal

pub perform_entry-performed-requires-clause-able : goal.perform_entry-performed-requires-clause-able
perform_entry-performed-requires-clause-able g c = may_able c.args.self.now.machine.image c.args.process c.requires.may

pub perform_entry-performed-requires-clause-going : goal.perform_entry-performed-requires-clause-going
perform_entry-performed-requires-clause-going g c =
    has_no_end c.args.self.now.machine c.args.process _ c.requires.may c.requires.room.1

pub perform_entry-performed-requires-clause-count : goal.perform_entry-performed-requires-clause-count
perform_entry-performed-requires-clause-count g c = let few = c.requires.room.1.counts c.args.process in omega (arith, few)

pub entered_by-requires : goal.entered_by-requires
entered_by-requires g c =
    come c.args.self.now.machine c.args.process 4294967295 c.perform_entry-performed.result c.perform_entry-performed.new.self c.requires.room.1.valid c.requires.may
    c.perform_entry-performed.ensures.performs c.requires.known.1.follows.sound c.requires.reached (c.last_process-last.ensures.all c.args.process c.requires.may).0
    (omega arith)

pub returns-clause-code : goal.returns-clause-code
returns-clause-code g c =
    performed_code c.args.self.now.machine c.args.process 4294967295 c.perform_entry-performed.result c.perform_entry-performed.new.self c.requires.may
    c.perform_entry-performed.ensures.performs

pub returns-clause-entered : goal.returns-clause-entered
returns-clause-entered g c =
    let old = c.args.self.now.machine in
    let done = c.perform_entry-performed.result.done in
    ok_map c.entered_by.result (λ e. entered_by done ≡ Some e) (λ e. ProcessEnters old.code c.args.process old.image e c.perform_entry-performed.new.self.image)
    (λ e is.
    entered_as old c.args.process 4294967295 c.perform_entry-performed.result c.perform_entry-performed.new.self e c.requires.may
    c.perform_entry-performed.ensures.performs is)
    c.entered_by.ensures

pub returns-clause-room : goal.returns-clause-room
returns-clause-room g c =
    let old = c.args.self.now.machine in
    let new = c.perform_entry-performed.new.self in
    let done = c.perform_entry-performed.result.done in
    ok_map c.entered_by.result (λ e. entered_by done ≡ Some e) (λ e. e ≡ true → (k : ℕ) → EntriesFit old (suc k) → EntriesFit new k)
    (λ e is went k fit.
    fits_after old c.args.process 4294967295 c.perform_entry-performed.result new fit.valid c.requires.may c.perform_entry-performed.ensures.performs k fit
    c.perform_entry-performed.ensures.valid (is ∙ ap (λ (b : Bool). Some b) went))
    c.entered_by.ensures

pub returns-clause-limit : goal.returns-clause-limit
returns-clause-limit g c =
    let old = c.args.self.now.machine in
    let new = c.perform_entry-performed.new.self in
    let done = c.perform_entry-performed.result.done in
    ok_map c.entered_by.result (λ e. entered_by done ≡ Some e) (λ e. e ≡ false → IsAtLimit new c.args.process)
    (λ e is stopped.
    limit_after old c.args.process 4294967295 c.perform_entry-performed.result new c.requires.room.1.valid c.requires.may c.perform_entry-performed.ensures.performs
    (is ∙ ap (λ (b : Bool). Some b) stopped))
    c.entered_by.ensures
