use Rattle.std.proofs.Common.{refl}
use Rattle.b67_control.specs.Control.{irw_layout, irw_values, irw_word}
use Rattle.b67_control.proofs.LayoutLaws.{packed_set_fields}
use Rattle.b67_control.proofs.Irw.pack.Goals as goal

pub returns : goal.returns
unfolding irw_word
returns c =
    rw (c.with_field-2.ensures, c.with_field.ensures, c.blank.ensures, c.from.ensures, c.from-2.ensures)
    (packed_set_fields irw_layout (irw_values c.args.self.now) refl)
