use Rattle.std.proofs.Common.{sym, ◌∙◌, ap, Some}
use Rattle.b67_segment.specs.Decoded.{if_good}
use Rattle.b67_private.proofs.Stepping.{fits_found, some_is}
use Rattle.b67_private.proofs.stretch.next_operator.Goals as goal

pub returns-in-Some-clause-fits : goal.returns-in-Some-clause-fits
returns-in-Some-clause-fits c =
    fits_found c.args.code.now c.args.at.segment c.args.level c.args.at.place c.requires.level c.at.result
    (c.at.ensures ∙ some_is _ c.args.table c.in-Some.operators c.requires.table c.in-Some.is c.args.at.place)

pub returns-in-Ok-clause-fits : goal.returns-in-Ok-clause-fits
returns-in-Ok-clause-fits c =
    fits_found c.args.code.now c.args.at.segment c.args.level c.args.at.place c.requires.level (Some c.in-Ok.found)
    (ap if_good (sym c.in-Ok.is ∙ c.fetch.ensures.value))
