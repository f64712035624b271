use Rattle.std.proofs.Common.{refl}
use Rattle.b67_control.specs.Control.{pcw_layout, pcw_values, pcw_word}
use Rattle.b67_control.proofs.LayoutLaws.{packed_set_fields}
use Rattle.b67_control.proofs.Pcw.pack.Goals as goal

pub returns : goal.returns
unfolding pcw_word
returns c =
    rw (c.with_field-7.ensures, c.with_field-6.ensures, c.with_field-5.ensures, c.with_field-4.ensures, c.with_field-3.ensures, c.with_field-2.ensures, c.with_field.ensures, c.blank.ensures, c.from.ensures, c.from-2.ensures, c.from-3.ensures, c.from-4.ensures, c.from-5.ensures, c.from-6.ensures, c.from-7.ensures)
    (packed_set_fields pcw_layout (pcw_values c.args.self.now) refl)
