use Rattle.std.proofs.Common.{◌≡◌, sym, ap, ◌∙◌, ℕ, suc, ◌+◌, ◌-◌, ◌≤◌, List, ◌∷◌, ◌++◌, drop, replicate, set, Option, Some, None, Ok, Err, arith}
use Rattle.b67_word.specs.declared.Place.{Place}
use Rattle.b67_table.specs.Look.{look_seen}
use Rattle.b67_table.specs.Chains.{links, link_of, linked_frame}
use Rattle.b67_display.specs.Found.{chain_shown}
use Rattle.b67_display.proofs.Linking.{step, stop, begun, unknown_set, first_known, split_known, drop_front}
use Rattle.b67_table.specs.declared.InterruptKind.TheVariants.{BrokenChain}
use Rattle.b67_display.proofs.linked.Goals as goal

pub linking-init : goal.linking-init
linking-init g c =
    let two : 2 ≤ c.args.level = omega (arith, c.if-level-lt2.false) in
    let known : c.set.new.self ≡ replicate c.args.level None ++ Some c.args.top ∷ replicate (31 - c.args.level) None =
    c.set.ensures.value ∙ ap (λ (d : List (Option Place)). set d c.args.level (Some c.args.top)) c.new-display.ensures
    ∙ first_known c.args.level (Some c.args.top) c.requires in
    let n_is : c.args.level - 1 + 1 ≡ c.args.level = omega (arith, two) in
    record {
      from = omega (arith, two);
      to = omega (arith, c.requires);
      len = c.set.ensures.len;
      unknown = split_known c.set.new.self (Some c.args.top ∷ replicate (31 - c.args.level) None) c.args.level (c.args.level - 1 + 1) known n_is;
      rest = begun (g.C.Core.stacks c.args.core.now) c.args.top c.args.link c.args.level c.set.new.self two c.requires known;
    }

pub returns-in-Err : goal.returns-in-Err
returns-in-Err g c =
    let two : 2 ≤ c.linking.below = omega (arith, c.linking-test.true) in
    let broken : look_seen (g.C.Core.stacks c.args.core.now) (linked_frame c.linking.link c.linking.below) ≡ Err BrokenChain =
    sym c.linked_frame.ensures ∙ ap chain_shown c.in-Err.is in
    sym (c.linking.invariant.rest
    ∙ stop (g.C.Core.stacks c.args.core.now) c.linking.link (drop (c.linking.below + 1) c.linking.display) c.linking.below BrokenChain two broken)

pub linking-preserved : goal.linking-preserved
linking-preserved g c =
    let two : 2 ≤ c.linking.below = omega (arith, c.linking-test.true) in
    let n_is : c.linking.below - 1 + 1 ≡ c.linking.below = omega (arith, two) in
    let framed : look_seen (g.C.Core.stacks c.args.core.now) (linked_frame c.linking.link c.linking.below) ≡ Ok c.in-Ok.mark =
    sym c.linked_frame.ensures ∙ ap chain_shown c.in-Ok.is in
    let suc_is : c.linking.below + 1 ≡ suc c.linking.below = omega arith in
    let unknown : c.linking.display ≡ replicate (suc c.linking.below) None ++ drop (c.linking.below + 1) c.linking.display =
    c.linking.invariant.unknown
    ∙ ap (λ (n : ℕ). replicate {A = Option Place} n None ++ drop (c.linking.below + 1) c.linking.display) suc_is in
    let known : c.set-in-linking.new.self ≡ replicate c.linking.below None ++ Some c.linking.link ∷ drop (c.linking.below + 1) c.linking.display =
    c.set-in-linking.ensures.value
    ∙ unknown_set c.linking.display (drop (c.linking.below + 1) c.linking.display) c.linking.below (Some c.linking.link) unknown in
    let left : Some c.linking.link ∷ drop (c.linking.below + 1) c.linking.display ≡ drop (c.linking.below - 1 + 1) c.set-in-linking.new.self =
    sym (drop_front c.linking.below (Some c.linking.link ∷ drop (c.linking.below + 1) c.linking.display))
    ∙ ap (λ (d : List (Option Place)). drop c.linking.below d) (sym known)
    ∙ ap (λ (n : ℕ). drop n c.set-in-linking.new.self) (sym n_is) in
    record {
      from = omega (arith, two);
      to = omega (arith, c.linking.invariant.to);
      len = c.set-in-linking.ensures.len;
      unknown = split_known c.set-in-linking.new.self (Some c.linking.link ∷ drop (c.linking.below + 1) c.linking.display) c.linking.below
          (c.linking.below - 1 + 1) known n_is;
      rest = c.linking.invariant.rest
          ∙ step (g.C.Core.stacks c.args.core.now) c.linking.link (drop (c.linking.below + 1) c.linking.display) c.linking.below
          c.in-Ok.mark two framed
          ∙ ap (λ (d : List (Option Place)). look_seen (g.C.Core.stacks c.args.core.now) (links (c.linking.below - 1 - 1) (link_of c.in-Ok.mark) d)) left;
    }
