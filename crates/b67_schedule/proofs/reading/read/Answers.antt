use Rattle.std.proofs.Common.{sym, subst}
use Rattle.std.proofs.lemmas.Result.{err_from_is_err_and}
use Rattle.b67_text.specs.Texts.{IsRefused}
use Rattle.b67_schedule.specs.declared.reading.Given.TheVariants.{One, Two}
use Rattle.b67_schedule.specs.declared.refusal.ReadSchedule.TheVariants.{Bad}
use Rattle.b67_schedule.specs.Reading.{IsGivenText}
use Rattle.b67_schedule.proofs.Versions.{one_refused, two_refused, given_same, given_not_refused}
use Rattle.b67_schedule.proofs.reading.read.Goals as goal
use Rattle.b67_schedule.proofs.reading.read.Goals.{After-max}

pub returns-in_err-read_old-in-Ok-clause-refused : goal.returns-in_err-read_old-in-Ok-clause-refused
returns-in_err-read_old-in-Ok-clause-refused c =
    let p = err_from_is_err_and c.from_residual.result c.from_residual.ensures.1 in
    rw (p.1, p.2) (one_refused c.in_err-read_old-in-Ok.field-0.0 c.args.bytes.now c.in-Ok.field-0 c.in-Ok.ensures.read c.in_err-read_old-in-Ok.ensures.refused)

pub returns-in_err-read_old-in-Ok-clause-again : goal.returns-in_err-read_old-in-Ok-clause-again
returns-in_err-read_old-in-Ok-clause-again c given is =
    let p = err_from_is_err_and c.from_residual.result c.from_residual.ensures.1 in
    rw (p.1, p.2) (given_not_refused c.in_err-read_old-in-Ok.field-0.0 given c.args.bytes.now
    (one_refused c.in_err-read_old-in-Ok.field-0.0 c.args.bytes.now c.in-Ok.field-0 c.in-Ok.ensures.read c.in_err-read_old-in-Ok.ensures.refused) is)

pub returns-in_ok-read_old-in-Ok-clause-again : goal.returns-in_ok-read_old-in-Ok-clause-again
returns-in_ok-read_old-in-Ok-clause-again c given is =
    given_same (One c.in_ok-read_old-in-Ok.field-0) given c.args.bytes.now c.in_ok-read_old-in-Ok.ensures.read is

pub returns-in-Ok-read_new-clause-again : goal.returns-in-Ok-read_new-clause-again
returns-in-Ok-read_new-clause-again c given is =
    given_same (Two c.in-Ok-read_new.schedule) given c.args.bytes.now c.in-Ok-read_new.ensures.read is

-- neither head stands, or what stands after the second one stops
refused : (c : After-max) → IsRefused IsGivenText c.args.bytes.now c.max.result
refused c =
    subst (IsRefused IsGivenText c.args.bytes.now) (sym c.max.ensures)
    (two_refused c.args.bytes.now c.in-Err.old.byte c.in-Err-Bad.new.byte c.in-Err.ensures.refused (rw c.in-Err-Bad.field-0-is at c.in-Err-Bad.ensures.refused))

pub returns-in-Err-Bad-clause-again : goal.returns-in-Err-Bad-clause-again
returns-in-Err-Bad-clause-again c given is = given_not_refused (Bad record { byte = c.max.result }) given c.args.bytes.now (refused c) is

pub returns-in-Err-Bad-clause-refused : goal.returns-in-Err-Bad-clause-refused
returns-in-Err-Bad-clause-refused c = refused c
