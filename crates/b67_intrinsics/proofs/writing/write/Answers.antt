use Rattle.std.proofs.Common.{[], refl, subst, sym, Ok, List, ℕ}
use Rattle.b67_list.specs.Numbered.{numbered}
use Rattle.b67_table.specs.Intrinsics.{write}
use Rattle.b67_table.specs.Writes as writes
use Rattle.b67_table.specs.Writes.{write_made}
use Rattle.b67_reach.specs.Images.{image_of}
use Rattle.b67_reach.specs.Answers.{ProgramActs}
use Rattle.b67_intrinsics.specs.Called.{called_in, finished_in, ended}
use Rattle.b67_intrinsics.specs.Lines.{line_tests_in}
use Rattle.b67_intrinsics.proofs.Trying.{leads_on, tries_exit}
use Rattle.b67_intrinsics.proofs.LineTests.{adding, write_is, added_then}
use Rattle.b67_intrinsics.proofs.writing.write.Goals as goal

pub returns-in_err-line-clause-acts : goal.returns-in_err-line-clause-acts
returns-in_err-line-clause-acts g c = λ kernel.
    let img = image_of (g.C.Core.stacks c.args.core.now) (g.C.Core.rows c.args.core.now) kernel c.args.parts.now in
    let regs = numbered c.args.parts.now.regs.items c.args.process in
    let m = c.args.mark.now in
    let code = c.args.parts.now.code in
    tries_exit c.args.process img (called_in write code regs c.args.next m) (line_tests_in code regs m img.stacks) (adding regs m c.args.next) c.from_residual.result c.in_err-line.field-0.0
    (write_is img code c.args.next m regs) (c.in_err-line.ensures.leads img refl) c.from_residual.ensures.1

pub returns-clause-acts : goal.returns-clause-acts
returns-clause-acts g c = λ kernel.
    let p = c.args.process in
    let img = image_of (g.C.Core.stacks c.args.core.now) (g.C.Core.rows c.args.core.now) kernel c.args.parts.now in
    let regs = numbered c.args.parts.now.regs.items p in
    let m = c.args.mark.now in
    let code = c.args.parts.now.code in
    let bytes = c.in_ok-line.line in
    let w = writes.line bytes in
    let new = record (ended (g.C.Core.stacks c.end.new.core) (g.C.Core.rows c.end.new.core) c.end.new.all.items img) { output = c.add_line.new.output.items } in
    let q = c.end.ensures.acts (write_made p w img) refl refl refl in
    leads_on p img (called_in write code regs c.args.next m) (line_tests_in code regs m img.stacks) (adding regs m c.args.next) bytes new (Ok tt)
    (write_is img code c.args.next m regs) (c.in_ok-line.ensures.leads img refl)
    (added_then p img new m c.args.next bytes regs
    (subst (λ (lines : List (List ℕ)). ProgramActs p (finished_in regs m [] c.args.next) (write_made p w img) (record new { output = lines }) (Ok tt)) (sym c.in-Ok.ensures.ok) q))
