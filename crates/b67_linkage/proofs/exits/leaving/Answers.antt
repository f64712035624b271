use Rattle.std.proofs.Common.{◌≡◌, sym, ap, ◌∙◌, List, Option, Result, Ok, Err}
use Rattle.b67_word.specs.declared.Place.{Place}
use Rattle.b67_table.specs.declared.InterruptKind.{InterruptKind}
use Rattle.b67_table.specs.declared.InterruptKind.TheVariants.{BrokenChain}
use Rattle.b67_table.specs.Look.{look_seen}
use Rattle.b67_display.specs.Found.{chain_shown}
use Rattle.b67_linkage.proofs.Downwards.{leaving_nowhere, leaving_below, with_display}
use Rattle.b67_linkage.proofs.exits.leaving.Goals as goal

pub returns-in-Err-clause-value : goal.returns-in-Err-clause-value
returns-in-Err-clause-value g c =
    sym (leaving_nowhere (g.C.Core.stacks c.args.core.now) c.args.frame BrokenChain (sym c.left_to.ensures.value ∙ ap chain_shown c.in-Err.is))

pub returns-in-Ok-rebuild-clause-value : goal.returns-in-Ok-rebuild-clause-value
returns-in-Ok-rebuild-clause-value g c =
    sym (leaving_below (g.C.Core.stacks c.args.core.now) c.args.frame c.in-Ok.below (sym c.left_to.ensures.value ∙ ap chain_shown c.in-Ok.is)
    ∙ ap (λ (r : Result (List (Option Place)) InterruptKind). with_display c.in-Ok.below r) (sym c.rebuild.ensures ∙ ap chain_shown c.in-Ok-rebuild.is))

pub returns-in-Err-rebuild-clause-value : goal.returns-in-Err-rebuild-clause-value
returns-in-Err-rebuild-clause-value g c =
    sym (leaving_below (g.C.Core.stacks c.args.core.now) c.args.frame c.in-Ok.below (sym c.left_to.ensures.value ∙ ap chain_shown c.in-Ok.is)
    ∙ ap (λ (r : Result (List (Option Place)) InterruptKind). with_display c.in-Ok.below r) (sym c.rebuild.ensures ∙ ap chain_shown c.in-Err-rebuild.is))
