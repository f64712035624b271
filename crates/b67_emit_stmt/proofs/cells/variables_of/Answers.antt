use Rattle.std.proofs.Common.{◌≡◌, ◌+◌, ◌∙◌, ◌∷◌, length, drop, arith, sym, ap}
use Rattle.std.proofs.lemmas.List.{drop_more}
use Rattle.algol_tree.specs.Image.{decls}
use Rattle.b67_templates.specs.Cells.{variables}
use Rattle.b67_emit_stmt.proofs.Variables.{variables_more, variables_same}
use Rattle.b67_emit_stmt.proofs.cells.variables_of.Goals.{in-Simple, in_default}
use Rattle.b67_emit_stmt.proofs.cells.variables_of.Goals as goal

pub decls-preserved : goal.decls-preserved
decls-preserved c =
    let ds = c.args.decls.now in
    let i = c.decls.d-index in
    let d = c.d-item.result in
    let next : drop i ds ≡ d ∷ drop (i + 1) ds = drop_more ds i d c.decls-test.true ∙ ap (λ x. x ∷ drop (i + 1) ds) (sym c.d-item.is) in
    let before = ap (λ l. length (variables (decls l))) next in
    elim c.match-d.branch [
      | in-Simple w ↦
          omega (arith, c.decls.invariant, before, variables_more d w.in-Simple.field-0 w.in-Simple.ns (drop (i + 1) ds) w.in-Simple.is, w.many-is, w.len-many.ensures, ap length w.items.ensures)
      | in_default w ↦ omega (arith, c.decls.invariant, before, variables_same d (drop (i + 1) ds) w.in_default.not-Simple, w.many-is)
    ]
