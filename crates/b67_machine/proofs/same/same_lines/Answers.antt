use Rattle.std.proofs.Common.{◌≡◌, ℕ, true, false, List, get_or, refl, sym, ap, ◌∙◌, arith}
use Rattle.std.proofs.lemmas.Bool.Decides.{Decides-eqb}
use Rattle.std.proofs.lemmas.List.{take_more_same}
use Rattle.std.proofs.lemmas.Slice.Eq.{slice_eq-Decides}
use Rattle.b67_list.proofs.Truths.{not_false_is}
use Rattle.b67_machine.proofs.same.same_lines.Goals as goal

pub lines-preserved : goal.lines-preserved
lines-preserved c =
    let xs = c.args.ours.now in
    let ys = c.args.theirs.now in
    let i = c.lines.index in
    let p = c.index-ours-index.result in
    let q = c.index-theirs-index.result in
    let bytes : c.bytes.result.now ≡ c.bytes-in-lines.result.now =
    (slice_eq-Decides Decides-eqb c.bytes.result.now c.bytes-in-lines.result.now _ refl).0 (not_false_is _ (sym c.ne.ensures ∙ c.if-ne.false)) in
    let same : p ≡ q = sym c.bytes.ensures ∙ bytes ∙ c.bytes-in-lines.ensures in
    let here : get_or xs i p ≡ get_or ys i p = sym c.index-ours-index.is ∙ same ∙ c.index-theirs-index.is ∙ ap (λ (d : List ℕ). get_or ys i d) (sym same) in
    take_more_same xs ys i p c.lines-test.true (omega (arith, c.lines-test.true, c.if-ours-theirs.false)) c.lines.invariant here
