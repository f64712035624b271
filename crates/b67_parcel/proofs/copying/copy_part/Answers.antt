use Rattle.std.proofs.Common.{◌≡◌, sym, ap, ◌∙◌, ◌-◌, slice_get, List, Some, ◌∷◌, arith}
use Rattle.b67_word.specs.Word.{Word}
use Rattle.b67_parcel.proofs.Stretching.{next_copied}
use Rattle.b67_parcel.proofs.copying.copy_part.Goals as goal

pub copying-preserved : goal.copying-preserved
copying-preserved c =
    let ws = c.args.from.now.words in
    let there : slice_get ws (c.copying.at - 1) ≡ Some c.unwrap.result = sym c.from_top.ensures ∙ c.unwrap.ensures in
    record {
      high = omega (arith, c.copying.invariant.high);
      words = c.push.ensures ∙ ap (λ (z : List Word). c.unwrap.result ∷ z) c.copying.invariant.words ∙ next_copied ws c.copying.at c.unwrap.result (omega (arith, c.copying-test.true)) there;
    }
