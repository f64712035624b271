use Rattle.std.proofs.Common.{subst}
use Rattle.std.specs.Prelude.{None}
use Rattle.b67_text.specs.Texts.{StopsAt}
use Rattle.b67_text.specs.Numerals.{IsField}
use Rattle.b67_text.specs.declared.number.Numbers.{Numbers}
use Rattle.b67_listing_reader.proofs.Widths.{no_width}
use Rattle.b67_listing_reader.proofs.phrases.width_before.Goals as goal

pub returns-in-Err : goal.returns-in-Err
returns-in-Err c =
    no_width c.args.text.now c.args.at c.args.end c.in-Err.field-0.byte
    (subst (λ m. let ns : Numbers = record { least = 0; most = m; except = None } in StopsAt (IsField ns c.args.end) c.args.text.now c.args.at c.in-Err.field-0.byte)
    c.from.ensures c.in-Err.ensures.refused)
