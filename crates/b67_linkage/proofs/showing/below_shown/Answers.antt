use Rattle.std.proofs.Common.{◌≡◌, sym, ap, ◌∙◌, ℕ, ◌≤◌, Bool, List, Option, Result, Ok, cond, arith}
use Rattle.std.proofs.lemmas.Bool.{le-leb}
use Rattle.b67_word.specs.declared.Place.{Place}
use Rattle.b67_control.specs.declared.Mscw.{Mscw}
use Rattle.b67_table.specs.declared.InterruptKind.{InterruptKind}
use Rattle.b67_table.specs.Look.{look_seen, ◌>->◌}
use Rattle.b67_table.specs.Chains.{place, chain_broken, mark_at, link_of, linked, rebuilt}
use Rattle.b67_display.specs.Found.{chain_shown}
use Rattle.b67_display.specs.Shown.{shown_at}
use Rattle.b67_display.proofs.Linking.{after, seen_then}
use Rattle.b67_linkage.proofs.Downwards.{leaving_below, with_display}
use Rattle.b67_linkage.proofs.showing.below_shown.Goals as goal

pub returns-then-links_as-clause-value : goal.returns-then-links_as-clause-value
returns-then-links_as-clause-value g c =
    let st = g.C.Core.stacks c.args.core.now in
    let b = c.in-Ok.below in
    let level = b.control.caller_level in
    let top = place c.args.frame.stack b.frame in
    let two : 2 ≤ level = omega (arith, c.if-level-lt2.false) in
    let marked : look_seen st (mark_at top) ≡ Ok c.in-Ok-mark_at.mark = sym c.mark_at.ensures.value ∙ ap chain_shown c.in-Ok-mark_at.is in
    let rebuilt_is : look_seen st (rebuilt top level) ≡ Ok (shown_at c.args.regs.now.display top level) =
    ap (λ (t : Bool). look_seen st (cond t (mark_at top >-> (λ (m : Mscw). linked top (link_of m) level)) chain_broken)) (le-leb 2 level two)
    ∙ seen_then st (mark_at top) (λ (m : Mscw). linked top (link_of m) level)
    ∙ ap (λ (m : Result Mscw InterruptKind). after m (λ (n : Mscw). look_seen st (linked top (link_of n) level))) marked
    ∙ c.links_as.ensures c.if-links_as.true top in
    leaving_below st c.args.frame b (sym c.left_to.ensures.value ∙ ap chain_shown c.in-Ok.is)
    ∙ ap (λ (r : Result (List (Option Place)) InterruptKind). with_display b r)
    (rebuilt_is ∙ ap (λ (n : ℕ). Ok (shown_at c.args.regs.now.display (place n b.frame) level)) c.requires.stack)
