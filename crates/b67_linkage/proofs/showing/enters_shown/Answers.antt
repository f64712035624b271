use Rattle.std.proofs.Common.{refl, sym, ap, ◌∙◌, List, Option, Result, Ok}
use Rattle.b67_word.specs.declared.Place.{Place}
use Rattle.b67_table.specs.declared.InterruptKind.{InterruptKind}
use Rattle.b67_table.specs.Chains.{place}
use Rattle.b67_display.proofs.Linking.{after}
use Rattle.b67_linkage.proofs.Looks.{entering_is, is_low}
use Rattle.b67_linkage.proofs.showing.enters_shown.Goals as goal

pub returns-then-is_home : goal.returns-then-is_home
returns-then-is_home g c = λ done.
    let r = c.args.regs.now in
    entering_is (g.C.Core.stacks c.args.core.now) (record r { place = c.args.next }) _ c.args.mark c.args.pcw.now c.args.home (is_low c.args.next c.requires.place) refl (sym c.is_home.ensures ∙ c.if-is_home.true)
    ∙ ap (λ (d : Result (List (Option Place)) InterruptKind). after d (λ (display : List (Option Place)). Ok (record { home = c.args.home; display = display })))
    (c.links_as.ensures done (place r.stack c.args.mark))
