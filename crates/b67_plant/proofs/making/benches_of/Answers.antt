use Rattle.std.proofs.Common.{◌≡◌, false, [], ◌∷◌, All, sym, ap, subst, length, length-append, arith}
use Rattle.std.proofs.lemmas.List.Elements.{All-push}
use Rattle.b67_plant.proofs.making.benches_of.Goals as goal

pub benches-preserved : goal.benches-preserved
benches-preserved g c =
    let benches = c.benches.benches.items in
    let bench = c.in_ok-first_bench.field-0 in
    let is = c.in_ok-push.ensures.items in (
      omega (arith, ap length is, length-append benches (bench ∷ []), c.benches.invariant.0, c.benches-test.true, c.len.ensures),
      subst (All (λ bench. bench.ahead.is_there ≡ false)) (sym is)
          (All-push (λ bench. bench.ahead.is_there ≡ false) benches bench c.benches.invariant.1 c.in_ok-first_bench.ensures),
    )
