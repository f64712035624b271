use Rattle.std.proofs.Common.{◌∙◌, refl, sym}
use Rattle.std.specs.Prelude.{option_copied}
use Rattle.b67_emit_text.proofs.Led.{label_first, label_next}
use Rattle.b67_emit_text.proofs.entries.+label_before.Goals as goal

pub returns-then-same_name : goal.returns-then-same_name
returns-then-same_name t c =
    let v = c.in-Label in label_first c.args.s.now v.s.value v.n v.s c.args.name.now.name v.is refl (sym c.same_name.ensures ∙ c.if-same_name.true)

pub returns-else-same_name : goal.returns-else-same_name
returns-else-same_name t c =
    let v = c.in-Label in
    label_next c.args.s.now c.deref.result.now v.n v.s c.args.name.now.name v.is c.deref.ensures (sym c.same_name.ensures ∙ c.if-same_name.false) (option_copied c.label_before.result)
    c.label_before.ensures
