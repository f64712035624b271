use Rattle.std.proofs.Common.{◌≡◌, ◌≢◌, sym, ap, ◌∙◌, Option, Some, rules, arith}
use Rattle.b67_word.specs.declared.Place.{Place}
use Rattle.b67_control.specs.Display.{place_at}
use Rattle.b67_machine.specs.Parts.{place_word}
use Rattle.b67_machine.proofs.Differing.{next_same, all_same, place_back, named, displays_differ}
use Rattle.b67_machine.proofs.comparing.first_level.Goals as goal

pub returns-then-ne-clause-some : goal.returns-then-ne-clause-some
returns-then-ne-clause-some c =
    let apart : c.place_word-ours.result ≢ c.place_word-theirs.result = search rules in
    displays_differ c.args.kept.now c.args.given.now c.levels.level c.place_word-ours.result c.place_word-theirs.result
    (omega (arith, c.get.ensures.len, c.levels-test.true)) (omega (arith, c.get-in-levels.ensures.len, c.levels-test.true)) c.levels.invariant.before
    (c.place_word-ours.ensures.value ∙ ap place_word c.get.ensures.value) (c.place_word-theirs.ensures.value ∙ ap place_word c.get-in-levels.ensures.value) apart

pub levels-preserved : goal.levels-preserved
levels-preserved c =
    let words : c.place_word-ours.result ≡ c.place_word-theirs.result = search rules in
    let same : c.get.result ≡ c.get-in-levels.result =
    place_back c.get.result c.get-in-levels.result c.place_word-ours.ensures.fits c.place_word-theirs.ensures.fits
    (sym c.place_word-ours.ensures.value ∙ words ∙ c.place_word-theirs.ensures.value) in
    let here = named c.args.kept.now c.levels.level (omega (arith, c.get.ensures.len, c.levels-test.true)) in
    let there = named c.args.given.now c.levels.level (omega (arith, c.get-in-levels.ensures.len, c.levels-test.true)) in
    let other : place_at c.args.given.now c.levels.level ≡ place_at c.args.kept.now c.levels.level = sym c.get-in-levels.ensures.value ∙ sym same ∙ c.get.ensures.value in
    record {
      within = omega (arith, c.levels-test.true);
      length = λ more. (c.get.ensures.len, c.get-in-levels.ensures.len);
      before = next_same c.args.kept.now c.args.given.now c.levels.level (place_at c.args.kept.now c.levels.level) here
          (there ∙ ap (λ (o : Option Place). Some o) other) c.levels.invariant.before;
    }

pub returns-clause-none : goal.returns-clause-none
returns-clause-none c = λ none.
    let level : c.levels.level ≡ 32 = omega (arith, c.levels.invariant.within, c.levels-test.false) in
    let long = c.levels.invariant.length (omega (arith, level)) in
    all_same c.args.kept.now c.args.given.now c.levels.level (long.0 ∙ sym level) (long.1 ∙ sym level) c.levels.invariant.before

pub returns-clause-length : goal.returns-clause-length
returns-clause-length c = (c.levels.invariant.length (omega (arith, c.levels.invariant.within, c.levels-test.false))).0
