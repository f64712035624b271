use Rattle.std.proofs.Common.{◌≡◌, sym, ap, ◌∙◌, Option, Some, arith}
use Rattle.b67_word.specs.declared.Place.{Place}
use Rattle.b67_control.specs.Display.{place_at}
use Rattle.b67_machine.proofs.Differing.{next_same, all_same, named}
use Rattle.b67_machine.proofs.same.same_display.Goals as goal

pub levels-preserved : goal.levels-preserved
levels-preserved c =
    let same : c.get.result ≡ c.get-in-levels.result = c.same_name.ensures c.if-not-same_name.false in
    let here = named c.args.ours.now c.levels.level (omega (arith, c.get.ensures.len, c.levels-test.true)) in
    let there = named c.args.theirs.now c.levels.level (omega (arith, c.get-in-levels.ensures.len, c.levels-test.true)) in
    let other : place_at c.args.theirs.now c.levels.level ≡ place_at c.args.ours.now c.levels.level = sym c.get-in-levels.ensures.value ∙ sym same ∙ c.get.ensures.value in
    record {
      within = omega (arith, c.levels-test.true);
      length = λ more. (c.get.ensures.len, c.get-in-levels.ensures.len);
      before = next_same c.args.ours.now c.args.theirs.now c.levels.level (place_at c.args.ours.now c.levels.level) here
          (there ∙ ap (λ (o : Option Place). Some o) other) c.levels.invariant.before;
    }

pub returns : goal.returns
returns c = λ h.
    let level : c.levels.level ≡ 32 = omega (arith, c.levels.invariant.within, c.levels-test.false) in
    let long = c.levels.invariant.length (omega (arith, level)) in
    all_same c.args.ours.now c.args.theirs.now c.levels.level (long.0 ∙ sym level) (long.1 ∙ sym level) c.levels.invariant.before
