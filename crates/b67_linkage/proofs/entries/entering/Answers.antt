use Rattle.std.proofs.Common.{◌≡◌, ap, sym, ◌∙◌, List, Option, Some, Result, Ok, arith}
use Rattle.b67_word.specs.declared.Place.{Place}
use Rattle.b67_table.specs.Look.{look_seen}
use Rattle.b67_table.specs.Chains.{linked}
use Rattle.b67_table.specs.Linkage.{entering}
use Rattle.b67_table.specs.declared.Entry.{Entry}
use Rattle.b67_table.specs.declared.InterruptKind.{InterruptKind}
use Rattle.b67_display.specs.Found.{chain_shown}
use Rattle.b67_display.proofs.Linking.{after}
use Rattle.b67_linkage.proofs.Looks.{entering_is, is_low}
use Rattle.b67_linkage.proofs.entries.entering.Goals as goal

pub returns-in-Ok-clause-value : goal.returns-in-Ok-clause-value
returns-in-Ok-clause-value g c =
    entering_is (g.C.Core.stacks c.args.core.now) c.args.regs.now c.args.fits c.args.mark c.args.pcw.now c.args.home (is_low c.args.regs.now.place c.requires.place)
    c.if-not-fits.false (sym c.is_home.ensures ∙ c.if-not-is_home.false)
    ∙ ap (λ (x : Result (List (Option Place)) InterruptKind). after x (λ (display : List (Option Place)). Ok (record { home = c.args.home; display = display })))
    (sym c.linked.ensures ∙ ap chain_shown c.in-Ok.is)

pub returns-in-Err-clause-value : goal.returns-in-Err-clause-value
returns-in-Err-clause-value g c =
    entering_is (g.C.Core.stacks c.args.core.now) c.args.regs.now c.args.fits c.args.mark c.args.pcw.now c.args.home (is_low c.args.regs.now.place c.requires.place)
    c.if-not-fits.false (sym c.is_home.ensures ∙ c.if-not-is_home.false)
    ∙ ap (λ (x : Result (List (Option Place)) InterruptKind). after x (λ (display : List (Option Place)). Ok (record { home = c.args.home; display = display })))
    (sym c.linked.ensures ∙ ap chain_shown c.in-Err.is)
