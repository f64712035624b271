use Rattle.b67_desk.specs.declared.asking.Unanswered.{Unanswered}
use Rattle.b67_desk.specs.Answers.{told, read_fault, no_memory}
use Rattle.b67_desk.specs.Calls.{CallAnswered}
use Rattle.b67_desk.proofs.Answering.{not_written}
use Rattle.std.proofs.Common.{Err, refl, subst, rules}
use Rattle.b67_desk.proofs.top.write_answer.Goals as goal

pub returns-in-Ok-write_all : goal.returns-in-Ok-write_all
returns-in-Ok-write_all g c = λ by words r answered.
    told c.in-Ok.answer.text.items c.in-Ok.answer.status (subst (CallAnswered by words r) c.in-Ok.is answered) (search rules)

pub returns-in-Ok : goal.returns-in-Ok
returns-in-Ok g c = λ by words r answered.
    not_written by words r _ c.in-Ok.answer.text.items c.in-Ok.answer.status c.in-Err-Failed.field-0 (subst (CallAnswered by words r) c.in-Ok.is answered) (search rules) (search rules)

pub returns-in-ReadFault : goal.returns-in-ReadFault
returns-in-ReadFault g c = λ by words r answered.
    read_fault
    (subst (λ (e : Unanswered). CallAnswered by words r (Err e)) c.in-ReadFault.is (subst (CallAnswered by words r) c.in-Err.is answered))
    (record { written = refl; faults = refl })

pub returns : goal.returns
returns g c = λ by words r answered.
    no_memory
    (subst (λ (e : Unanswered). CallAnswered by words r (Err e)) c.in-NoMemory.is (subst (CallAnswered by words r) c.in-Err.is answered))
    (record { written = refl; faults = refl })
