use Rattle.std.proofs.Common.{refl}
use Rattle.b67_control.specs.Control.{sirw_layout, sirw_values, sirw_word}
use Rattle.b67_control.proofs.LayoutLaws.{packed_set_fields}
use Rattle.b67_control.proofs.Sirw.pack.Goals as goal

pub returns : goal.returns
unfolding sirw_word
returns c =
    rw (c.with_field-4.ensures, c.with_field-3.ensures, c.with_field-2.ensures, c.with_field.ensures, c.blank.ensures, c.from.ensures, c.from-2.ensures, c.from-3.ensures)
    (packed_set_fields sirw_layout (sirw_values c.args.self.now) refl)
