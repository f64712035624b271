use Rattle.std.specs.Prelude.{slice_get}
use Rattle.std.proofs.Common.{◌≡◌, sym, ap, subst, ◌∙◌, true, Some, Ok}
use Rattle.b67_word.specs.Word.{Word}
use Rattle.b67_control.specs.Control.{descriptor_word}
use Rattle.b67_store.specs.Store.{Rows, row_words, with_cut}
use Rattle.b67_table.specs.Moves.{replaced}
use Rattle.b67_table.specs.Program.{answer}
use Rattle.b67_reach.specs.Answers.{ProgramPerforms}
use Rattle.b67_reach.specs.Images.{Own}
use Rattle.b67_action.specs.Reaching.{own_of}
use Rattle.b67_action.proofs.Told.{row_loaded}
use Rattle.b67_action.proofs.elements.load_row.Goals as goal

pub returns-clause-done : goal.returns-clause-done
returns-clause-done g c = λ done.
    let st = g.C.Core.stacks c.args.core.now in
    let rows = g.C.Core.rows c.args.core.now in
    let r = c.args.regs.now in
    let d = c.in-Some.mother in
    let at = c.in-Some.at in
    let w = c.in-Some-read_row.word in
    let same = c.in-Some.ensures.same in
    let there : slice_get (row_words rows d.address) at ≡ Some w =
    ap (λ (z : Rows). slice_get (row_words z d.address) at) (sym (ap (λ (o : Own). o.rows) same)) ∙ sym c.in-Some-read_row.ensures in
    let new = own_of (g.C.Core.stacks c.put.new.core) (g.C.Core.rows c.put.new.core) c.put.new.regs in
    row_loaded (with_cut st r.stack r.s) rows r c.args.next d at w there new c.in-Some-unpack.row c.in-Some.ensures.found (sym c.unpack.ensures.value ∙ c.in-Some-unpack.is)
    (subst (λ (o : Own). ProgramPerforms {A = Unit {0}} (answer (replaced r c.args.next 2 (descriptor_word (record c.in-Some-unpack.row { copy = true })))) o new (Ok (tt {0}))) same
    (subst (λ (v : Word). ProgramPerforms {A = Unit {0}} (answer (replaced r c.args.next 2 v)) (own_of (g.C.Core.stacks c.named.new.core) (g.C.Core.rows c.named.new.core) r) new (Ok (tt {0}))) c.pack.ensures
    c.put.ensures.done))
