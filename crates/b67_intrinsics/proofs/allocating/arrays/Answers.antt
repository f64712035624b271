use Rattle.std.proofs.Common.{◌∙◌, refl, subst, sym, Ok, Err, Option, List, ℕ}
use Rattle.std.specs.Prelude.{map}
use Rattle.b67_list.specs.Numbered.{numbered}
use Rattle.b67_control.specs.declared.Descriptor.{Descriptor}
use Rattle.b67_control.specs.declared.Registers.{Registers}
use Rattle.b67_control.specs.Control.{descriptor_word}
use Rattle.b67_table.specs.Arrays.{Extents}
use Rattle.b67_table.specs.Image.{with_rows}
use Rattle.b67_table.specs.Intrinsics.{arrays}
use Rattle.b67_descriptor.specs.Sizes.{extents_of}
use Rattle.b67_reach.specs.declared.Stop.TheVariants.{StackLimit}
use Rattle.b67_reach.specs.Images.{image_of}
use Rattle.b67_reach.specs.Answers.{ProgramActs}
use Rattle.b67_intrinsics.specs.Called.{called_in, finished_in, ended}
use Rattle.b67_intrinsics.specs.Arrays.{array_tests_in}
use Rattle.b67_intrinsics.proofs.Trying.{leads_on, tries_exit}
use Rattle.b67_intrinsics.proofs.MakingArrays.{making, arrays_is, made_then, too_long}
use Rattle.b67_intrinsics.proofs.allocating.arrays.Goals as goal

pub returns-in_err-count-clause-acts : goal.returns-in_err-count-clause-acts
returns-in_err-count-clause-acts g c = λ kernel.
    let img = image_of (g.C.Core.stacks c.args.core.now) (g.C.Core.rows c.args.core.now) kernel c.args.parts.now in
    let regs = numbered c.args.parts.now.regs.items c.args.process in
    let m = c.args.mark.now in
    let code = c.args.parts.now.code in
    tries_exit c.args.process img (called_in arrays code regs c.args.next m) (array_tests_in regs m img.stacks) (making regs m c.args.next) c.from_residual.result c.in_err-count.field-0.0
    (arrays_is img code c.args.next m regs) (c.in_err-count.ensures.leads img refl refl) c.from_residual.ensures.1

pub returns-then-not-has_room-clause-acts : goal.returns-then-not-has_room-clause-acts
returns-then-not-has_room-clause-acts g c = λ kernel.
    let p = c.args.process in
    let img = image_of (g.C.Core.stacks c.args.core.now) (g.C.Core.rows c.args.core.now) kernel c.args.parts.now in
    let regs = numbered c.args.parts.now.regs.items p in
    let m = c.args.mark.now in
    let code = c.args.parts.now.code in
    let order : ℕ × Extents = (c.in_ok-count.count, extents_of c.in_ok-count.size) in
    leads_on p img (called_in arrays code regs c.args.next m) (array_tests_in regs m img.stacks) (making regs m c.args.next) order img (Err StackLimit)
    (arrays_is img code c.args.next m regs) (c.in_ok-count.ensures.leads img refl refl)
    (subst (λ (o : Option Registers). ProgramActs {A = Unit {0}} p (making o m c.args.next order) img img (Err StackLimit)) (sym c.registers.ensures)
    (too_long p img m c.args.next order c.registers.result.now c.registers.ensures (sym c.has_room.ensures ∙ c.if-not-has_room.true)))

pub returns-in-Ok-clause-acts : goal.returns-in-Ok-clause-acts
returns-in-Ok-clause-acts g c = λ kernel.
    let p = c.args.process in
    let img = image_of (g.C.Core.stacks c.args.core.now) (g.C.Core.rows c.args.core.now) kernel c.args.parts.now in
    let regs = numbered c.args.parts.now.regs.items p in
    let m = c.args.mark.now in
    let code = c.args.parts.now.code in
    let order : ℕ × Extents = (c.in_ok-count.count, extents_of c.in_ok-count.size) in
    let after = g.C.Core.rows c.make_arrays.new.core in
    let new = ended (g.C.Core.stacks c.end_with_all.new.core) (g.C.Core.rows c.end_with_all.new.core) c.end_with_all.new.all.items img in
    let q = c.end_with_all.ensures.acts (with_rows img after) (sym c.in-Ok.ensures.stacks) refl refl in
    leads_on p img (called_in arrays code regs c.args.next m) (array_tests_in regs m img.stacks) (making regs m c.args.next) order new (Ok tt)
    (arrays_is img code c.args.next m regs) (c.in_ok-count.ensures.leads img refl refl)
    (made_then p img new m c.args.next order c.in-Ok.made.items after regs c.in-Ok.ensures.made
    (subst (λ (ds : List Descriptor). ProgramActs {A = Unit {0}} p (finished_in regs m (map descriptor_word ds) c.args.next) (with_rows img after) new (Ok tt)) c.as_slice.ensures.value q))
