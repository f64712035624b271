use Rattle.std.proofs.Common.{◌≡◌, ◌<◌, true, false, List, length, get_or, refl, sym, ap, ◌∙◌, arith}
use Rattle.std.proofs.lemmas.List.{take_more_same}
use Rattle.std.proofs.lemmas.Slice.Eq.{slice_eq-Decides}
use Rattle.b67_word.specs.declared.Place.{Place}
use Rattle.b67_list.proofs.Truths.{not_false_is}
use Rattle.b67_events.proofs.Same.{place_decides}
use Rattle.b67_events.proofs.again.same_lists.Goals as goal

pub lists-preserved : goal.lists-preserved
lists-preserved c =
    let xs = c.args.ours.now.items in
    let ys = c.args.theirs.now.items in
    let i = c.lists.index in
    let p = c.index.result.now in
    let q = c.index-in-lists.result.now in
    let places : c.places.result.now ≡ c.places-in-lists.result.now =
    (slice_eq-Decides place_decides c.places.result.now c.places-in-lists.result.now _ refl).0 (not_false_is _ (sym c.ne.ensures ∙ c.if-ne.false)) in
    let same : p ≡ q = sym c.places.ensures.places ∙ places ∙ c.places-in-lists.ensures.places in
    let ours : i < length xs = omega (arith, c.lists-test.true, c.len-index-end.ensures, c.args.ours.now.ok.0) in
    let theirs : i < length ys = omega (arith, ours, c.if-len.false, c.len.ensures, c.len-2.ensures, c.args.ours.now.ok.0, c.args.theirs.now.ok.0) in
    let here : get_or xs i p ≡ get_or ys i p = sym c.index.ensures ∙ same ∙ c.index-in-lists.ensures ∙ ap (λ (d : List Place). get_or ys i d) (sym same) in
    take_more_same xs ys i p ours theirs c.lists.invariant here
