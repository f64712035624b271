use Rattle.std.proofs.Common.{◌+◌, ap, ◌∙◌}
use Rattle.std.proofs.lemmas.Result.{on_ok_weaker}
use Rattle.b67_word.specs.Word.{Word}
use Rattle.b67_segment.specs.Building.{level_set}
use Rattle.b67_emitter.proofs.Entries.{bits_are, entry_part, fits_as}
use Rattle.b67_emitter.proofs.entering.append_entry.Goals as goal

pub returns-clause-code : goal.returns-clause-code
returns-clause-code c =
    let a = c.args.out.now in
    let b = c.append_plain.new.out in
    let d = c.append_operator.new.out in
    let inner = level_set a + 1 in
    let bits = c.bits.ensures.value ∙ ap (λ (w : Word). w.bits) c.pack-control.ensures in
    on_ok_weaker c.append_plain-2.result
    (entry_part c.args.segment c.args.place c.bits.result a b d c.append_plain-2.new.out c.in_ok-append_plain.ensures.level c.in_ok-append_operator.ensures.level
    (bits_are c.bits.result c.code_at.result c.args.segment c.args.place c.args.level inner bits c.code_at.ensures.code c.requires.inner)
    (fits_as c.code_at.result c.args.segment c.args.place c.args.level inner c.code_at.ensures.code c.requires.inner c.code_at.ensures.fits)
    c.in_ok-append_plain.ensures.code c.in_ok-append_operator.ensures.code)
    c.append_plain-2.ensures.code
