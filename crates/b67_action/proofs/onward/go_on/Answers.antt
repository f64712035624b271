use Rattle.std.specs.Prelude.{IfSome}
use Rattle.std.proofs.Common.{◌≡◌, ◌∙◌, sym, ap, subst, List, ℕ, Some}
use Rattle.b67_list.specs.Numbered.{numbered}
use Rattle.b67_control.specs.declared.Registers.{Registers}
use Rattle.b67_segment.specs.Decoded.{found, AreDecoded}
use Rattle.b67_private.specs.Lettered.{row_letter}
use Rattle.b67_private.specs.Prepared.{IsRowOf}
use Rattle.b67_reach.specs.Images.{image_of}
use Rattle.b67_action.specs.Onward.{HasGone}
use Rattle.b67_action.proofs.Displayed.{shown_in}
use Rattle.b67_action.proofs.Coming.{operator_is}
use Rattle.b67_action.proofs.Gone.{row_stands, linked_in, gone, letter_by_row}
use Rattle.b67_action.proofs.Ready.{some_is}
use Rattle.b67_action.proofs.onward.go_on.Goals as goal

pub perform_ready-requires-clause-linked : goal.perform_ready-requires-clause-linked
perform_ready-requires-clause-linked g c =
    linked_in c.args.parts.now.code (image_of (g.C.Core.stacks c.args.core.now) (g.C.Core.rows c.args.core.now) c.args.kernel.now c.args.parts.now) c.args.process
    c.registers-regs.result.now c.requires.valid c.requires.able c.registers-regs.ensures

pub perform_ready-requires-clause-shown : goal.perform_ready-requires-clause-shown
perform_ready-requires-clause-shown g c =
    shown_in c.args.parts.now.code (image_of (g.C.Core.stacks c.args.core.now) (g.C.Core.rows c.args.core.now) c.args.kernel.now c.args.parts.now) c.args.process
    c.registers-regs.result.now c.requires.valid c.requires.able c.registers-regs.ensures

pub perform_ready-requires-clause-held : goal.perform_ready-requires-clause-held
perform_ready-requires-clause-held g c =
    let code = c.args.parts.now.code in
    let r = c.registers-regs.result.now in
    let o = found code r.segment r.ll r.place in
    let decoded = some_is (λ (r' : Registers). IfSome c.args.table (λ t. AreDecoded code r'.segment r'.ll t.now)) (numbered c.args.parts.now.regs.items c.args.process) r
    c.registers-regs.ensures c.requires.table in
    let is_row = some_is (λ r'. IsRowOf r.place o r') c.row_at.result (c.in-Some.row, c.in-Some.next) c.in-Some.is (c.row_at.ensures code r.segment r.ll decoded) in
    (row_stands r.place o c.in-Some.row c.in-Some.next is_row).held

pub returns-clause-went : goal.returns-clause-went
returns-clause-went g c =
    let code = c.args.parts.now.code in
    let p = c.args.process in
    let r = c.registers-regs.result.now in
    let o = found code r.segment r.ll r.place in
    let decoded = some_is (λ (r' : Registers). IfSome c.args.table (λ t. AreDecoded code r'.segment r'.ll t.now)) (numbered c.args.parts.now.regs.items p) r
    c.registers-regs.ensures c.requires.table in
    let is_row = some_is (λ r'. IsRowOf r.place o r') c.row_at.result (c.in-Some.row, c.in-Some.next) c.in-Some.is (c.row_at.ensures code r.segment r.ll decoded) in
    let stands = row_stands r.place o c.in-Some.row c.in-Some.next is_row in
    let old = image_of (g.C.Core.stacks c.args.core.now) (g.C.Core.rows c.args.core.now) c.args.kernel.now c.args.parts.now in
    let new = image_of (g.C.Core.stacks c.perform_ready.new.core) (g.C.Core.rows c.perform_ready.new.core) c.perform_ready.new.kernel c.perform_ready.new.parts in
    subst (λ (released : List ℕ). HasGone code old p new released) (sym c.clear.ensures.items)
    (gone code old new p r stands.op c.in-Some.next c.requires.valid c.requires.able c.registers-regs.ensures stands.here
    (ap (λ v. v.items) c.perform_ready.ensures.states) c.counted.ensures.few c.in-Some.row stands.is
    c.in-Some-perform_ready.ensures.goes)

pub returns-clause-letter : goal.returns-clause-letter
returns-clause-letter g c =
    let code = c.args.parts.now.code in
    let p = c.args.process in
    let r = c.registers-regs.result.now in
    let o = found code r.segment r.ll r.place in
    let decoded = some_is (λ (r' : Registers). IfSome c.args.table (λ t. AreDecoded code r'.segment r'.ll t.now)) (numbered c.args.parts.now.regs.items p) r
    c.registers-regs.ensures c.requires.table in
    let is_row = some_is (λ r'. IsRowOf r.place o r') c.row_at.result (c.in-Some.row, c.in-Some.next) c.in-Some.is (c.row_at.ensures code r.segment r.ll decoded) in
    let stands = row_stands r.place o c.in-Some.row c.in-Some.next is_row in
    let old = image_of (g.C.Core.stacks c.args.core.now) (g.C.Core.rows c.args.core.now) c.args.kernel.now c.args.parts.now in
    let new = image_of (g.C.Core.stacks c.perform_ready.new.core) (g.C.Core.rows c.perform_ready.new.core) c.perform_ready.new.kernel c.perform_ready.new.parts in
    letter_by_row code old new p r stands.op c.in-Some.next c.in-Some.row c.registers-regs.ensures
    (operator_is code old p r c.requires.able c.registers-regs.ensures (stands.op, c.in-Some.next) stands.here) stands.letter (returns-clause-went g c).came.0
    ∙ some_is (λ (q : Registers). row_letter c.in-Some.row old q ≡ Some c.in-Some-perform_ready.letter) (numbered c.args.parts.now.regs.items p) r c.registers-regs.ensures
    c.in-Some-perform_ready.ensures.letter
