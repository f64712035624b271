use Rattle.std.proofs.Common.{◌≡◌, ◌+◌, ◌∙◌, ◌++◌, ◌∷◌, List, drop, ap, sym, append_assoc}
use Rattle.std.proofs.lemmas.List.{drop_more}
use Rattle.algol_tree.specs.Image.{decls, pairs}
use Rattle.algol_tree.specs.Plain.{PExpr}
use Rattle.b67_emitter.specs.Values.{meanings}
use Rattle.b67_emit_stmt.specs.Actuals.{images, cells_in_decls, cells_in_pairs}
use Rattle.b67_emit_stmt.proofs.Gathered.{decls_arrays, decls_other}
use Rattle.b67_emit_stmt.proofs.actuals.in_decls.Goals.{in-Arrays+in_ok-in_pairs, in_default}
use Rattle.b67_emit_stmt.proofs.actuals.in_decls.Goals as goal

pub decls-preserved : goal.decls-preserved
decls-preserved c =
    let told = meanings c.args.names.now in
    let ds = c.args.ds.now in
    let i = c.decls.d-index in
    let d = c.d-item.result in
    let rest = drop (i + 1) ds in
    let before = images c.decls.to.items in
    let later = cells_in_decls told (decls rest) in
    let next : drop i ds ≡ d ∷ rest = drop_more ds i d c.decls-test.true ∙ ap (λ x. x ∷ rest) (sym c.d-item.is) in
    elim c.match-d.branch [
      | in-Arrays+in_ok-in_pairs w ↦
          let v = w.in-Arrays in
          let ps = w.deref.result.now in
          ap (λ t. images t.items ++ later) w.to-is ∙ ap (λ (l : List PExpr). l ++ later) w.in_ok-in_pairs.ensures ∙ append_assoc before (cells_in_pairs told (pairs ps)) later
          ∙ ap (λ (l : List PExpr). before ++ l) (sym (decls_arrays told d (drop i ds) rest next v.field-0 v.field-1 v.pairs v.is ps (w.deref.ensures.value ∙ w.items.ensures))) ∙ c.decls.invariant
      | in_default w ↦
          ap (λ t. images t.items ++ later) w.to-is ∙ ap (λ (l : List PExpr). before ++ l) (sym (decls_other told d (drop i ds) rest next w.in_default.not-Arrays)) ∙ c.decls.invariant
    ]
