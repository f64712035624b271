use Rattle.std.proofs.Common.{refl}
use Rattle.b67_control.specs.Control.{rcw_layout, rcw_values, rcw_word}
use Rattle.b67_control.proofs.LayoutLaws.{packed_set_fields}
use Rattle.b67_control.proofs.Rcw.pack.Goals as goal

pub returns : goal.returns
unfolding rcw_word
returns c =
    rw (c.with_field-7.ensures, c.with_field-6.ensures, c.with_field-5.ensures, c.with_field-4.ensures, c.with_field-3.ensures, c.with_field-2.ensures, c.with_field.ensures, c.blank.ensures, c.from.ensures, c.from-2.ensures, c.from-3.ensures, c.from-4.ensures, c.from-5.ensures, c.from-6.ensures)
    (packed_set_fields rcw_layout (rcw_values c.args.self.now) refl)
