use Rattle.std.proofs.Common.{inl, refl}
use Rattle.b67_listing_reader.proofs.Widths.{reads_width, width_or_none}
use Rattle.b67_listing_reader.proofs.phrases.read_width.Goals as goal

pub returns-in-Some : goal.returns-in-Some
returns-in-Some c = reads_width c.args.text.now c.args.at 44 c.in-Some.found.0 c.in-Some.found.1 (inl refl) c.in-Some.ensures

pub returns-in-None : goal.returns-in-None
returns-in-None c = width_or_none c.args.text.now c.args.at c.width_before-in-None.result c.in-None.ensures c.width_before-in-None.ensures
