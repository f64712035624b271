use Rattle.std.proofs.Common.{sym, ap, ◌∙◌}
use Rattle.b67_private.specs.declared.operators.WordsRow.{WordsRow}
use Rattle.b67_private.specs.Lettered.{words_letter}
use Rattle.b67_action.proofs.letters.words_letter.Goals as goal

pub returns-in-ValueCall : goal.returns-in-ValueCall
returns-in-ValueCall g c = c.value_letter.ensures ∙ ap (λ (w : WordsRow). words_letter w (g.C.Core.stacks c.args.core.now) c.args.regs.now) (sym c.in-ValueCall.is)

pub returns-in-Evaluate : goal.returns-in-Evaluate
returns-in-Evaluate g c = c.place_letter.ensures ∙ ap (λ (w : WordsRow). words_letter w (g.C.Core.stacks c.args.core.now) c.args.regs.now) (sym c.in-Evaluate.is)

pub returns-in-LoadValue : goal.returns-in-LoadValue
returns-in-LoadValue g c = c.loaded_letter.ensures ∙ ap (λ (w : WordsRow). words_letter w (g.C.Core.stacks c.args.core.now) c.args.regs.now) (sym c.in-LoadValue.is)

pub returns-in-Store : goal.returns-in-Store
returns-in-Store g c = c.stored_letter.ensures ∙ ap (λ (w : WordsRow). words_letter w (g.C.Core.stacks c.args.core.now) c.args.regs.now) (sym c.in-Store.is)
