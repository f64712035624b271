use Rattle.std.proofs.Common.{◌≡◌, refl, sym, ap, subst, ◌∙◌, ℕ, List, Some, None, Err, arith}
use Rattle.b67_list.specs.Numbered.{numbered}
use Rattle.b67_control.specs.declared.Registers.{Registers}
use Rattle.b67_segment.specs.Decoded.{found}
use Rattle.b67_private.proofs.Stepping.{held_operand}
use Rattle.b67_intrinsics.specs.declared.hindrance.Hindrance.{Hindrance}
use Rattle.b67_table.specs.Outcome.{Outcome}
use Rattle.b67_table.specs.Image.{Image}
use Rattle.b67_letters.specs.Letters.{registers_letter, letter}
use Rattle.b67_letters.specs.Letters as letters
use Rattle.b67_reach.specs.Images.{image_of}
use Rattle.b67_action.specs.declared.done.Done.{Done}
use Rattle.b67_action.specs.Acting.{row_effect, RowReleases, NextReleases}
use Rattle.b67_action.specs.Done.{Came, is_performed}
use Rattle.b67_action.specs.Lettered.{row_letter, letter_in}
use Rattle.b67_action.proofs.Coming.{table_row, table_bad, operator_is, not_performed, went_performed, not_done, makes_next, came_on, came_not, state_after}
use Rattle.b67_action.proofs.Gone.{letter_of_operator}
use Rattle.b67_action.proofs.Kept.{stays_valid}
use Rattle.b67_action.proofs.Lettering.{letter_went, letter_unperformed}
use Rattle.b67_action.proofs.MakeAble.{performed_able}
use Rattle.b67_action.proofs.Ready.{acting, level_known, part_known, state_at, some_is}
use Rattle.b67_action.proofs.Released.{performed_releases}
use Rattle.b67_action.proofs.next.action.Goals as goal

pub next_operator-requires-clause-level : goal.next_operator-requires-clause-level
next_operator-requires-clause-level g c =
    level_known (g.C.Core.stacks c.args.core.now) (g.C.Core.rows c.args.core.now) c.args.kernel.now c.args.parts.now c.args.process c.registers-regs.result.now
    c.requires.valid c.requires.able c.requires.room c.registers-regs.ensures

pub returns-in_default-clause-came : goal.returns-in_default-clause-came
returns-in_default-clause-came g c =
    let img = image_of (g.C.Core.stacks c.args.core.now) (g.C.Core.rows c.args.core.now) c.args.kernel.now c.args.parts.now in
    let r = c.registers-regs.result.now in
    let none : found c.args.parts.now.code r.segment r.ll r.place ≡ None = sym c.next_operator.ensures.value ∙ c.in_default.is in
    (table_bad c.args.parts.now.code img c.args.process r c.requires.able c.registers-regs.ensures none, refl)

pub row_of-row-requires : goal.row_of-row-requires
row_of-row-requires g c =
    let known = level_known (g.C.Core.stacks c.args.core.now) (g.C.Core.rows c.args.core.now) c.args.kernel.now c.args.parts.now c.args.process c.registers-regs.result.now
    c.requires.valid c.requires.able c.requires.room c.registers-regs.ensures in
    held_operand c.registers-regs.result.now.ll c.in-Some.op (omega (arith, known)) c.in-Some.ensures.fits

pub perform-answer-requires-clause-acting : goal.perform-answer-requires-clause-acting
perform-answer-requires-clause-acting g c =
    let now = acting (g.C.Core.stacks c.args.core.now) (g.C.Core.rows c.args.core.now) c.args.kernel.now c.args.parts.now c.args.process c.registers-regs.result.now
    c.requires.valid c.requires.able c.requires.room c.registers-regs.ensures in
    record {
      linked = now.linked;
      number = now.number;
      within = now.within;
      idle = now.idle;
      unlisted = now.unlisted;
      room = (omega (arith, now.room.0, c.clear.ensures.capacity), now.room.1);
      next = record { free = now.next.free; each = now.next.each; numbers = now.next.numbers; most = now.next.most };
    }

pub perform-answer-requires-clause-part : goal.perform-answer-requires-clause-part
perform-answer-requires-clause-part g c =
    part_known (g.C.Core.stacks c.args.core.now) (g.C.Core.rows c.args.core.now) c.args.kernel.now c.args.parts.now c.args.process c.registers-regs.result.now
    c.requires.valid c.requires.able c.requires.room c.registers-regs.ensures

pub index-requires : goal.index-requires
index-requires g c =
    let old = image_of (g.C.Core.stacks c.args.core.now) (g.C.Core.rows c.args.core.now) c.args.kernel.now c.args.parts.now in
    let new = image_of (g.C.Core.stacks c.perform-answer.new.core) (g.C.Core.rows c.perform-answer.new.core) c.perform-answer.new.kernel c.perform-answer.new.parts in
    let after = state_after c.args.parts.now.code old new c.args.process c.registers-regs.result.now c.in-Some.op c.in-Some.next c.row_of-row.result c.registers-regs.ensures
    c.row_of-row.ensures.row c.requires.able c.in-Ok.ensures.comes in
    omega (arith, after.0, after.1)

pub returns-in-Ok-clause-came : goal.returns-in-Ok-clause-came
returns-in-Ok-clause-came g c =
    let code = c.args.parts.now.code in
    let p = c.args.process in
    let r = c.registers-regs.result.now in
    let old = image_of (g.C.Core.stacks c.args.core.now) (g.C.Core.rows c.args.core.now) c.args.kernel.now c.args.parts.now in
    let new = image_of (g.C.Core.stacks c.perform-answer.new.core) (g.C.Core.rows c.perform-answer.new.core) c.perform-answer.new.kernel c.perform-answer.new.parts in
    let here : found code r.segment r.ll r.place ≡ Some (c.in-Some.op, c.in-Some.next) = sym c.next_operator.ensures.value ∙ c.in-Some.is in
    let after = state_after code old new p r c.in-Some.op c.in-Some.next c.row_of-row.result c.registers-regs.ensures c.row_of-row.ensures.row c.requires.able c.in-Ok.ensures.comes in
    subst (λ (d : Done). Came code old p d new) (sym c.went.ensures)
    (came_on code old new p (row_effect c.row_of-row.result code c.in-Some.op c.in-Some.next p (numbered old.regs p) old)
    (table_row code old p r c.registers-regs.ensures c.in-Some.op c.in-Some.next c.row_of-row.result c.row_of-row.ensures.row c.requires.able here)
    c.index.result.now c.in-Ok.ensures.comes (state_at new.states p c.index.result.now after.0 after.1 c.index.ensures))

pub returns-in-Ok-clause-valid : goal.returns-in-Ok-clause-valid
returns-in-Ok-clause-valid g c =
    let code = c.args.parts.now.code in
    let p = c.args.process in
    let r = c.registers-regs.result.now in
    let old = image_of (g.C.Core.stacks c.args.core.now) (g.C.Core.rows c.args.core.now) c.args.kernel.now c.args.parts.now in
    let new = image_of (g.C.Core.stacks c.perform-answer.new.core) (g.C.Core.rows c.perform-answer.new.core) c.perform-answer.new.kernel c.perform-answer.new.parts in
    let here : found code r.segment r.ll r.place ≡ Some (c.in-Some.op, c.in-Some.next) = sym c.next_operator.ensures.value ∙ c.in-Some.is in
    stays_valid code old new p (row_effect c.row_of-row.result code c.in-Some.op c.in-Some.next p (numbered old.regs p) old) c.perform-answer.result c.requires.valid c.requires.able
    (table_row code old p r c.registers-regs.ensures c.in-Some.op c.in-Some.next c.row_of-row.result c.row_of-row.ensures.row c.requires.able here)
    c.perform-answer.ensures.comes c.counted.ensures.few

pub returns-in-Err-clause-came : goal.returns-in-Err-clause-came
returns-in-Err-clause-came g c =
    let code = c.args.parts.now.code in
    let p = c.args.process in
    let r = c.registers-regs.result.now in
    let old = image_of (g.C.Core.stacks c.args.core.now) (g.C.Core.rows c.args.core.now) c.args.kernel.now c.args.parts.now in
    let new = image_of (g.C.Core.stacks c.perform-answer.new.core) (g.C.Core.rows c.perform-answer.new.core) c.perform-answer.new.kernel c.perform-answer.new.parts in
    let here : found code r.segment r.ll r.place ≡ Some (c.in-Some.op, c.in-Some.next) = sym c.next_operator.ensures.value ∙ c.in-Some.is in
    subst (λ (d : Done). Came code old p d new) (sym c.hindered_by-done.ensures)
    (came_not code old new p (row_effect c.row_of-row.result code c.in-Some.op c.in-Some.next p (numbered old.regs p) old)
    (table_row code old p r c.registers-regs.ensures c.in-Some.op c.in-Some.next c.row_of-row.result c.row_of-row.ensures.row c.requires.able here)
    c.in-Err.hindrance c.in-Err.ensures.comes
    (λ m. let making = c.perform-answer.ensures.making (c.in-Err.is ∙ ap (λ (h : Hindrance). Err h) m) in
    makes_next code old p r c.registers-regs.ensures c.in-Some.op c.in-Some.next c.row_of-row.result c.row_of-row.ensures.row c.requires.able here
    (c.row_of-row.ensures.enters making.0) making.1))

pub returns-in-Err-clause-valid : goal.returns-in-Err-clause-valid
returns-in-Err-clause-valid g c =
    let code = c.args.parts.now.code in
    let p = c.args.process in
    let r = c.registers-regs.result.now in
    let old = image_of (g.C.Core.stacks c.args.core.now) (g.C.Core.rows c.args.core.now) c.args.kernel.now c.args.parts.now in
    let new = image_of (g.C.Core.stacks c.perform-answer.new.core) (g.C.Core.rows c.perform-answer.new.core) c.perform-answer.new.kernel c.perform-answer.new.parts in
    let here : found code r.segment r.ll r.place ≡ Some (c.in-Some.op, c.in-Some.next) = sym c.next_operator.ensures.value ∙ c.in-Some.is in
    stays_valid code old new p (row_effect c.row_of-row.result code c.in-Some.op c.in-Some.next p (numbered old.regs p) old) c.perform-answer.result c.requires.valid c.requires.able
    (table_row code old p r c.registers-regs.ensures c.in-Some.op c.in-Some.next c.row_of-row.result c.row_of-row.ensures.row c.requires.able here)
    c.perform-answer.ensures.comes c.counted.ensures.few

pub returns-in-Ok-clause-woken : goal.returns-in-Ok-clause-woken
returns-in-Ok-clause-woken g c = λ performed.
    let old = image_of (g.C.Core.stacks c.args.core.now) (g.C.Core.rows c.args.core.now) c.args.kernel.now c.args.parts.now in
    let new = image_of (g.C.Core.stacks c.perform-answer.new.core) (g.C.Core.rows c.perform-answer.new.core) c.perform-answer.new.kernel c.perform-answer.new.parts in
    let released = c.perform-answer.new.parts.woken.processes.items in
    let r = c.registers-regs.result.now in
    let here : found c.args.parts.now.code r.segment r.ll r.place ≡ Some (c.in-Some.op, c.in-Some.next) = sym c.next_operator.ensures.value ∙ c.in-Some.is in
    let row : NextReleases c.args.parts.now.code old c.args.process released = record {
      regs = r;
      has = c.registers-regs.ensures;
      op = c.in-Some.op;
      next = c.in-Some.next;
      stands = operator_is c.args.parts.now.code old c.args.process r c.requires.able c.registers-regs.ensures (c.in-Some.op, c.in-Some.next) here;
      row = c.row_of-row.result;
      is = c.row_of-row.ensures.row;
      releases = subst (λ (before : List ℕ). RowReleases c.row_of-row.result old (numbered c.args.parts.now.regs.items c.args.process) before released)
          c.clear.ensures.items c.in-Ok.ensures.woken;
    } in
    performed_releases c.args.parts.now.code old new c.args.process released c.went.result (returns-in-Ok-clause-came g c) performed row

pub returns-in-Err-clause-woken : goal.returns-in-Err-clause-woken
returns-in-Err-clause-woken g c = λ performed.
    absurd (not_performed c.in-Err.hindrance (ap is_performed (sym c.hindered_by-done.ensures) ∙ performed))

pub returns-in-Ok-clause-able : goal.returns-in-Ok-clause-able
returns-in-Ok-clause-able g c = λ performed.
    let old = image_of (g.C.Core.stacks c.args.core.now) (g.C.Core.rows c.args.core.now) c.args.kernel.now c.args.parts.now in
    let new = image_of (g.C.Core.stacks c.perform-answer.new.core) (g.C.Core.rows c.perform-answer.new.core) c.perform-answer.new.kernel c.perform-answer.new.parts in
    let released = c.perform-answer.new.parts.woken.processes.items in
    let r = c.registers-regs.result.now in
    let here : found c.args.parts.now.code r.segment r.ll r.place ≡ Some (c.in-Some.op, c.in-Some.next) = sym c.next_operator.ensures.value ∙ c.in-Some.is in
    let row : NextReleases c.args.parts.now.code old c.args.process released = record {
      regs = r;
      has = c.registers-regs.ensures;
      op = c.in-Some.op;
      next = c.in-Some.next;
      stands = operator_is c.args.parts.now.code old c.args.process r c.requires.able c.registers-regs.ensures (c.in-Some.op, c.in-Some.next) here;
      row = c.row_of-row.result;
      is = c.row_of-row.ensures.row;
      releases = subst (λ (before : List ℕ). RowReleases c.row_of-row.result old (numbered c.args.parts.now.regs.items c.args.process) before released)
          c.clear.ensures.items c.in-Ok.ensures.woken;
    } in
    performed_able c.args.parts.now.code old new c.args.process released c.went.result c.requires.valid c.requires.able (returns-in-Ok-clause-came g c) performed row

pub returns-in-Err-clause-able : goal.returns-in-Err-clause-able
returns-in-Err-clause-able g c = λ performed.
    absurd (not_performed c.in-Err.hindrance (ap is_performed (sym c.hindered_by-done.ensures) ∙ performed))

pub returns-in-Ok-clause-nobody : goal.returns-in-Ok-clause-nobody
returns-in-Ok-clause-nobody g c = λ none. absurd (went_performed c.index.result.now (ap is_performed (sym c.went.ensures) ∙ none))

-- no operator stands there
pub returns-in_default-clause-letter : goal.returns-in_default-clause-letter
returns-in_default-clause-letter g c =
    let img = image_of (g.C.Core.stacks c.args.core.now) (g.C.Core.rows c.args.core.now) c.args.kernel.now c.args.parts.now in
    sym (ap (λ (o : Outcome Image). letters.letter_by o (registers_letter c.args.parts.now.code img (numbered img.regs c.args.process))) (returns-in_default-clause-came g c).0)

-- it was performed, so its letter is that of its row
pub returns-in-Ok-clause-letter : goal.returns-in-Ok-clause-letter
returns-in-Ok-clause-letter g c =
    let code = c.args.parts.now.code in
    let p = c.args.process in
    let r = c.registers-regs.result.now in
    let old = image_of (g.C.Core.stacks c.args.core.now) (g.C.Core.rows c.args.core.now) c.args.kernel.now c.args.parts.now in
    let new = image_of (g.C.Core.stacks c.perform-answer.new.core) (g.C.Core.rows c.perform-answer.new.core) c.perform-answer.new.kernel c.perform-answer.new.parts in
    let here : found code r.segment r.ll r.place ≡ Some (c.in-Some.op, c.in-Some.next) = sym c.next_operator.ensures.value ∙ c.in-Some.is in
    let stands = operator_is code old p r c.requires.able c.registers-regs.ensures (c.in-Some.op, c.in-Some.next) here in
    let noted = some_is (λ (q : Registers). c.perform-answer.new.letter ≡ row_letter c.row_of-row.result old q) (numbered old.regs p) r c.registers-regs.ensures c.in-Ok.ensures.letter in
    let given = table_row code old p r c.registers-regs.ensures c.in-Some.op c.in-Some.next c.row_of-row.result c.row_of-row.ensures.row c.requires.able here ∙ c.in-Ok.ensures.comes.outcome in
    subst (λ (d : Done). c.perform-answer.new.letter ≡ letter_in d (letter code old p)) (sym c.went.ensures)
    (noted ∙ c.row_of-row.ensures.letter old r refl ∙ sym (letter_of_operator code old new p r c.in-Some.op c.in-Some.next c.registers-regs.ensures stands given)
    ∙ sym (letter_went c.index.result.now (letter code old p)))

pub returns-in-Err-clause-letter : goal.returns-in-Err-clause-letter
returns-in-Err-clause-letter g c =
    let code = c.args.parts.now.code in
    let p = c.args.process in
    let old = image_of (g.C.Core.stacks c.args.core.now) (g.C.Core.rows c.args.core.now) c.args.kernel.now c.args.parts.now in
    let new = image_of (g.C.Core.stacks c.perform-answer.new.core) (g.C.Core.rows c.perform-answer.new.core) c.perform-answer.new.kernel c.perform-answer.new.parts in
    c.letter_by.ensures
    ∙ letter_unperformed code old new p c.hindered_by-done.result (returns-in-Err-clause-came g c) (ap is_performed c.hindered_by-done.ensures ∙ not_done c.in-Err.hindrance)
