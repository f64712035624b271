use Rattle.std.proofs.Common.{◌≡◌, refl, sym, ap, subst, ◌∙◌, ℕ, suc, ◌+◌, ◌<◌, List, length, take, get_or, arith}
use Rattle.std.proofs.Math.Seq.{take-suc, take-length}
use Rattle.std.proofs.lemmas.List.{length_push}
use Rattle.b67_outcomes.specs.declared.found.Step.{Step}
use Rattle.b67_outcomes.specs.Finding.{HoldsPath}
use Rattle.b67_outcomes.proofs.Histories.{held_none, held_next}
use Rattle.b67_outcomes.proofs.keep.add_steps.Goals as goal

pub entries-init : goal.entries-init
entries-init c = (omega arith, held_none c.args.steps.now.items c.args.number)

pub entries-preserved : goal.entries-preserved
entries-preserved c =
    let i = c.entries.invariant in
    let path = c.args.path.now in
    let below : c.entries.done < length path = omega (arith, c.entries-test.true) in
    let s : Step = record { before = c.entries.at; process = get_or path c.entries.done 0 } in
    let items = c.in_ok-push.ensures.items in
    let next =
    held_next c.args.steps.now.items c.entries.steps.items c.push.new.self.items c.args.number c.entries.at (take c.entries.done path) s i.1 refl items in
    let size : length c.push.new.self.items ≡ length c.entries.steps.items + 1 =
    ap (λ (z : List Step). length z) items ∙ length_push c.entries.steps.items s in
    let at : suc (length c.entries.steps.items) ≡ c.len-at.result = omega (arith, size, c.len-at.ensures) in
    let one : suc c.entries.done ≡ c.entries.done + 1 = omega arith in (
      omega (arith, below),
      subst (λ (k : ℕ). HoldsPath c.args.steps.now.items c.args.number (take (c.entries.done + 1) path) k c.push.new.self.items) at
          (subst (λ (z : List ℕ). HoldsPath c.args.steps.now.items c.args.number z (suc (length c.entries.steps.items)) c.push.new.self.items)
          (sym (ap (λ (k : ℕ). take k path) (sym one) ∙ take-suc path c.entries.done 0 below)) next),
    )

pub returns : goal.returns
returns c =
    let i = c.entries.invariant in
    let all : c.entries.done ≡ length c.args.path.now = omega (arith, c.entries-test.false, i.0) in
    subst (λ (z : List ℕ). HoldsPath c.args.steps.now.items c.args.number z c.entries.at c.entries.steps.items)
    (ap (λ (k : ℕ). take k c.args.path.now) all ∙ take-length c.args.path.now) i.1
