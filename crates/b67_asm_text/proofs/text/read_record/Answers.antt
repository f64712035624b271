use Rattle.std.proofs.Common.{sym, ◌∙◌}
use Rattle.std.proofs.lemmas.Bool.{eqb-true}
use Rattle.b67_list.proofs.Answered.{when_ok}
use Rattle.b67_asm_text.proofs.Splitting.{format_none}
use Rattle.b67_asm_text.proofs.text.read_record.Goals as goal

pub returns-then-is_empty-clause-formats : goal.returns-then-is_empty-clause-formats
returns-then-is_empty-clause-formats c =
    when_ok c.push.result _
    (format_none c.args.bytes.now c.code_part.result.now c.unblanked-code.result.now c.args.text.now.formats.items c.code_part.ensures c.unblanked-code.ensures
    (eqb-true _ _ (sym c.is_empty.ensures ∙ c.if-is_empty.true)))
