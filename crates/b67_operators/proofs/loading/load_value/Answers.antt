use Rattle.std.proofs.Common.{sym, ap, Some}
use Rattle.b67_reach.specs.Images.{own_of_image}
use Rattle.b67_table.specs.Look.{look_seen}
use Rattle.b67_table.specs.References.{popped}
use Rattle.b67_deeds.specs.declared.Letter.{Letter}
use Rattle.b67_letters.specs.Letters.{loaded_letter}
use Rattle.b67_operators.proofs.Lettering.{told_on, lettered_as}
use Rattle.b67_operators.proofs.Loads.{load_goes, load_stops}
use Rattle.b67_operators.proofs.loading.load_value.Goals as goal

pub returns-in_err-word-clause-performs : goal.returns-in_err-word-clause-performs
returns-in_err-word-clause-performs g c =
    load_stops (own_of_image (g.C.Core.stacks c.args.core.now) (g.C.Core.rows c.args.core.now) c.args.regs.now) c.args.next c.in_ok-x.x c.in_ok-x.ensures.value
    c.from_residual-in_err-word.result c.in_err-word.field-0.0 c.in_err-word.ensures c.from_residual-in_err-word.ensures.1

pub returns-clause-performs : goal.returns-clause-performs
returns-clause-performs g c =
    load_goes (own_of_image (g.C.Core.stacks c.args.core.now) (g.C.Core.rows c.args.core.now) c.args.regs.now) c.args.next c.in_ok-x.x c.in_ok-x.ensures.value
    c.lettered.result (own_of_image (g.C.Core.stacks c.operand_replaces-answer.new.core) (g.C.Core.rows c.operand_replaces-answer.new.core) c.operand_replaces-answer.new.regs)
    c.in_ok-word.word c.in_ok-word.ensures (c.lettered.ensures.performs _ _ _ c.operand_replaces-answer.ensures)

pub returns-clause-letter : goal.returns-clause-letter
returns-clause-letter g c =
    told_on loaded_letter (look_seen (g.C.Core.stacks c.args.core.now) (popped c.args.regs.now)) c.in_ok-x.x c.in_ok-x.ensures.value c.lettered.result
    (lettered_as c.lettered.result c.element_or_not-letter.result (loaded_letter c.in_ok-x.x) (ap (λ (l : Letter). Some l) (sym c.element_or_not-letter.ensures)) c.lettered.ensures.letter)
