use Rattle.std.specs.Prelude.{slice_get, is_some}
use Rattle.std.proofs.Common.{◌≡◌, sym, ap, subst, ◌∙◌, true, false, Ok}
use Rattle.b67_store.specs.Store.{Rows, row_words, with_cut}
use Rattle.b67_table.specs.Rows.{store}
use Rattle.b67_reach.specs.Answers.{ProgramPerforms}
use Rattle.b67_reach.specs.Images.{Own, own_of_image}
use Rattle.b67_action.proofs.Told.{element_stored, element_letter}
use Rattle.b67_action.proofs.Open.{store_left}
use Rattle.b67_action.proofs.elements.store_element.Goals as goal

pub returns-in-Ok-clause-done : goal.returns-in-Ok-clause-done
returns-in-Ok-clause-done g c = λ done.
    let st = g.C.Core.stacks c.args.core.now in
    let rows = g.C.Core.rows c.args.core.now in
    let r = c.args.regs.now in
    let d = c.in-Some.stored.element in
    let x = c.in-Some.stored.word in
    let same = c.in-Some.ensures.same in
    let there : is_some (slice_get (row_words rows d.address) d.length) ≡ true =
    ap (λ (z : Rows). is_some (slice_get (row_words z d.address) d.length)) (sym (ap (λ (o : Own). o.rows) same)) ∙ sym c.in-Ok.ensures.found in
    subst (λ (o : Own). ProgramPerforms {A = Unit {0}} (store false r c.args.next) (own_of_image (with_cut st r.stack r.s) rows r) o (Ok (tt {0})))
    (store_left st (g.C.Core.stacks c.to_store.new.core) (g.C.Core.stacks c.write_row.new.self) rows (g.C.Core.rows c.to_store.new.core) (g.C.Core.rows c.write_row.new.self) r c.args.next x
    d.address d.length c.in-Some.ensures.open same c.in-Ok.ensures.stacks c.in-Ok.ensures.rows)
    (element_stored (with_cut st r.stack r.s) rows r c.args.next x d c.in-Some.ensures.found there c.requires.open.room)

pub returns-in-Ok-clause-letter : goal.returns-in-Ok-clause-letter
returns-in-Ok-clause-letter g c = λ done.
    let rows = g.C.Core.rows c.args.core.now in
    let r = c.args.regs.now in
    let d = c.in-Some.stored.element in
    let there : is_some (slice_get (row_words rows d.address) d.length) ≡ true =
    ap (λ (z : Rows). is_some (slice_get (row_words z d.address) d.length)) (sym (ap (λ (o : Own). o.rows) c.in-Some.ensures.same)) ∙ sym c.in-Ok.ensures.found in
    element_letter (with_cut (g.C.Core.stacks c.args.core.now) r.stack r.s) rows r c.args.next c.in-Some.stored.word d c.in-Some.ensures.found there c.requires.open.room
