use Rattle.std.proofs.Common.{sym, ap, Some}
use Rattle.b67_table.specs.Look.{look_seen}
use Rattle.b67_table.specs.References.{popped_two}
use Rattle.b67_table.specs.Rows.{store}
use Rattle.b67_deeds.specs.declared.Letter.{Letter}
use Rattle.b67_letters.specs.Letters.{stored_letter}
use Rattle.b67_reach.specs.Images.{own_of_image}
use Rattle.b67_operators.proofs.Lettering.{told_two_on, lettered_as, two_of}
use Rattle.b67_operators.proofs.Loads.{store_goes}
use Rattle.b67_operators.proofs.storing.store.Goals as goal

pub returns-clause-letter : goal.returns-clause-letter
returns-clause-letter g c =
    let two = c.in_ok-two.two in
    told_two_on stored_letter (look_seen (g.C.Core.stacks c.args.core.now) (popped_two c.args.regs.now)) two.0 two.1 c.in_ok-two.ensures.value c.lettered.result
    (lettered_as c.lettered.result c.element_or_not-letter.result (stored_letter (two_of (two.0, two.1))) (ap (λ (l : Letter). Some l) (sym c.element_or_not-letter.ensures))
    c.lettered.ensures.letter)

pub returns-clause-performs : goal.returns-clause-performs
returns-clause-performs g c =
    let two = c.in_ok-two.two in
    let old = own_of_image (g.C.Core.stacks c.args.core.now) (g.C.Core.rows c.args.core.now) c.args.regs.now in
    let new = own_of_image (g.C.Core.stacks c.store_by-answer.new.core) (g.C.Core.rows c.store_by-answer.new.core) c.store_by-answer.new.regs in
    c.lettered.ensures.performs (store c.args.keeps c.args.regs.now c.args.next) old new
    (store_goes old new c.args.keeps c.args.next two.0 two.1 c.store_by-answer.result c.in_ok-two.ensures.value (sym c.if-not-is_operand.ensures) c.store_by-answer.ensures)
