use Rattle.std.proofs.Common.{◌+◌, ap, ◌∙◌}
use Rattle.std.proofs.lemmas.Result.{on_ok_weaker}
use Rattle.b67_word.specs.Word.{Word}
use Rattle.b67_segment.specs.Building.{level_set}
use Rattle.b67_emitter.proofs.Entries.{routine_bits, routine_part, fits_named}
use Rattle.b67_emitter.proofs.entering.append_routine.Goals as goal

pub returns-clause-code : goal.returns-clause-code
returns-clause-code c =
    let a = c.args.out.now in
    let inner = level_set a + 1 in
    let bits = c.bits.ensures.value ∙ ap (λ (w : Word). w.bits) c.pack.ensures in
    on_ok_weaker c.append_operator.result
    (routine_part c.args.names c.args.segment c.args.place c.bits.result a c.append_operator.new.out
    (routine_bits c.bits.result c.args.names c.code_at.result c.args.segment c.args.place c.args.level inner bits c.code_at.ensures.code c.requires.inner)
    (fits_named c.args.names c.code_at.result c.args.segment c.args.place c.args.level inner c.code_at.ensures.code c.requires.inner c.code_at.ensures.fits))
    c.append_operator.ensures.code
