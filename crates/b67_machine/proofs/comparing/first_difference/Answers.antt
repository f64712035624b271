use Rattle.std.proofs.Common.{◌≡◌, refl, sym, ap, ◌∙◌, ◌<◌, length, slice_get, Some, rules, arith}
use Rattle.std.proofs.lemmas.Option.{slice_get_read}
use Rattle.b67_word.specs.Word.{Word}
use Rattle.b67_machine.proofs.Differing.{next_same}
use Rattle.b67_machine.proofs.comparing.first_difference.Goals as goal

pub words-preserved : goal.words-preserved
words-preserved c =
    let ours = c.index-kept-position.result in
    let theirs = c.index-given-position.result in
    let same : ours ≡ theirs = search (c.is_same.ensures, rules) in
    let here : slice_get c.args.kept.now c.words.position ≡ Some ours = slice_get_read c.args.kept.now (length c.args.kept.now) c.words.position ours refl c.words-test.true c.index-kept-position.is in
    let within : c.words.position < length c.args.given.now = omega (arith, c.words-test.true, c.requires.length) in
    let there : slice_get c.args.given.now c.words.position ≡ Some theirs = slice_get_read c.args.given.now (length c.args.given.now) c.words.position theirs refl within c.index-given-position.is in
    record {
      within = omega (arith, c.words-test.true);
      before = next_same c.args.kept.now c.args.given.now c.words.position ours here (there ∙ ap (λ (w : Word). Some w) (sym same)) c.words.invariant.before;
    }
