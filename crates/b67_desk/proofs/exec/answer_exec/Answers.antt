use Rattle.b67_desk.proofs.Executing.{refused_so, told_so}
use Rattle.b67_desk.proofs.exec.answer_exec.Goals as goal

pub returns-in_ok-told-in-Ok : goal.returns-in_ok-told-in-Ok
returns-in_ok-told-in-Ok c =
    told_so c.args.budget c.args.bytes.now c.in-Ok.code c.in_ok-told-in-Ok.told.text.items c.in_ok-told-in-Ok.told.why c.status_by.result c.in-Ok.ensures.assembled
    c.in_ok-told-in-Ok.ensures.text c.in_ok-told-in-Ok.ensures.why c.status_by.ensures

pub returns-in-Err-Refused : goal.returns-in-Err-Refused
returns-in-Err-Refused c =
    refused_so c.args.budget c.args.bytes.now c.in-Err-Refused.refusal c.refuse.result (rw c.in-Err-Refused.field-0-is at c.in-Err-Refused.ensures.refused) c.refuse.ensures
