use Rattle.std.specs.Prelude.{IfSome, reverse}
use Rattle.std.proofs.Common.{◌≡◌, refl, sym, ap, ◌∙◌, ℕ, take, ◌++◌, ◌-◌, get_or, set, Option, Some, None}
use Rattle.b67_list.specs.Numbered.{numbered}
use Rattle.b67_control.specs.declared.Registers.{Registers}
use Rattle.b67_operators.specs.Leaves.{IsLinkedIn}
use Rattle.b67_store.specs.Store.{Stacks, Rows, words_of, with_stack}
use Rattle.b67_table.specs.declared.Private.{Private}
use Rattle.b67_table.specs.Image.{Image, with_private}
use Rattle.b67_table.specs.Privacy.{RegistersStay}
use Rattle.b67_reach.specs.Images.{image_of}
use Rattle.b67_machine.proofs.Plainly.{own_is}
use Rattle.b67_machine.proofs.Putting.{put_at}
use Rattle.b67_machine.proofs.parts.put_from.Goals as goal

-- registers with what the operators set
abbrev with_set : Registers → Registers → Registers
with_set own q = record own { s = q.s; f = q.f; cells = q.cells; place = q.place }

set_is : (own q : Registers) → RegistersStay own q → with_set own q ≡ q
set_is own q kept =
    ap (λ v. record own { stack = v; s = q.s; f = q.f; cells = q.cells; place = q.place }) (sym kept.0)
    ∙ ap (λ v. record q { ll = v; display = own.display; segment = own.segment; task = own.task; critical = own.critical }) (sym kept.1)
    ∙ ap (λ v. record q { display = v; segment = own.segment; task = own.task; critical = own.critical }) (sym kept.2)
    ∙ ap (λ v. record q { segment = v; task = own.task; critical = own.critical }) (sym kept.3)
    ∙ ap (λ v. record q { task = v; critical = own.critical }) (sym kept.4)
    ∙ ap (λ v. record q { critical = v }) (sym kept.5)

put_is : (img : Image) (p base : ℕ) (o : Option Registers) (own : Registers) (part : Private) (stacks : Stacks) (rows : Rows) → numbered img.regs p ≡ o → IsLinkedIn img.stacks img.rows o
    → own ≡ get_or img.regs (p - 1) own → IfSome o (λ r. RegistersStay r part.regs)
    → stacks ≡ with_stack img.stacks own.stack (take base (words_of img.stacks own.stack) ++ reverse part.words) → rows ≡ img.rows
    → record img { stacks = stacks; rows = rows; regs = set img.regs (p - 1) (with_set own part.regs) } ≡ with_private img p base part
put_is img p base None own part stacks rows has linked at keeps s w = absurd linked
put_is img p base (Some r) own part stacks rows has linked at keeps s w =
    let same : own ≡ r = own_is img.regs p r own has at in
    put_at img p r (with_set own part.regs) part stacks rows base has (ap (λ (z : Registers). with_set z part.regs) same ∙ set_is r part.regs keeps)
    (s ∙ ap (λ (m : ℕ). with_stack img.stacks m (take base (words_of img.stacks m) ++ reverse part.words)) (ap (λ (z : Registers). z.stack) same ∙ sym keeps.0))
    w

pub returns-then-entries-gt0-clause-put : goal.returns-then-entries-gt0-clause-put
returns-then-entries-gt0-clause-put g c = λ kernel.
    put_is (image_of (g.C.Core.stacks c.args.core.now) (g.C.Core.rows c.args.core.now) kernel c.args.parts.now) c.args.process c.args.base
    (numbered c.args.parts.now.regs.items c.args.process) c.index_mut-own.result.now c.args.end.now (g.C.Core.stacks c.put_words.new.core) (g.C.Core.rows c.put_words.new.core)
    refl c.requires.linked c.index_mut-own.ensures.value c.requires.keeps c.put_words.ensures.stacks c.put_words.ensures.rows

pub returns-else-entries-gt0-clause-put : goal.returns-else-entries-gt0-clause-put
returns-else-entries-gt0-clause-put g c = λ kernel.
    put_is (image_of (g.C.Core.stacks c.args.core.now) (g.C.Core.rows c.args.core.now) kernel c.args.parts.now) c.args.process c.args.base
    (numbered c.args.parts.now.regs.items c.args.process) c.index_mut-own.result.now c.args.end.now (g.C.Core.stacks c.put_words.new.core) (g.C.Core.rows c.put_words.new.core)
    refl c.requires.linked c.index_mut-own.ensures.value c.requires.keeps c.put_words.ensures.stacks c.put_words.ensures.rows
