use Rattle.std.proofs.Common.{◌≡◌, ◌+◌, ◌∷◌, ◌++◌, ap, drop, sym, ◌∙◌}
use Rattle.std.proofs.lemmas.List.{drop_more}
use Rattle.algol_tree.specs.Image.{decls}
use Rattle.b67_templates.specs.Cells.{procedures}
use Rattle.b67_emit_stmt.specs.Bodies.{procedure_numbers_of}
use Rattle.b67_emit_stmt.proofs.Numbered.{numbers_more}
use Rattle.b67_emit_stmt.proofs.Variables.{procedures_more, procedures_same}
use Rattle.b67_emit_stmt.proofs.draft.StmtEmitter.numbers.Goals.{in-Procedure+in_ok-push, in_default}
use Rattle.b67_emit_stmt.proofs.draft.StmtEmitter.numbers.Goals as goal

pub decls-preserved : goal.decls-preserved
decls-preserved g c =
    let s = c.args.self.now.known.now in
    let ds = c.args.ds.now in
    let i = c.decls.d-index in
    let d = c.d-item.result in
    let rest = drop (i + 1) ds in
    let next : drop i ds ≡ d ∷ rest = drop_more ds i d c.decls-test.true ∙ ap (λ x. x ∷ rest) (sym c.d-item.is) in
    let before = ap (λ l. procedure_numbers_of s (procedures (decls l))) next in
    elim c.match-d.branch [
      | in-Procedure+in_ok-push w ↦
          numbers_more s c.decls.numbers.items c.match-d.numbers.items (procedure_numbers_of s (procedures (decls ds))) (procedure_numbers_of s (procedures (decls (drop i ds)))) (procedure_numbers_of s (procedures (decls rest))) w.number_of.result
          c.decls.invariant (before ∙ ap (procedure_numbers_of s) (procedures_more d w.in-Procedure.heading w.in-Procedure.field-1 rest w.in-Procedure.is) ∙ ap (λ k. k ∷ procedure_numbers_of s (procedures (decls rest))) (sym w.number_of.ensures))
          (ap (λ v. v.items) w.numbers-is ∙ w.in_ok-push.ensures.items)
      | in_default w ↦
          ap (λ v. v.items ++ procedure_numbers_of s (procedures (decls rest))) w.numbers-is
          ∙ ap (λ l. c.decls.numbers.items ++ l) (sym (before ∙ ap (procedure_numbers_of s) (procedures_same d rest w.in_default.not-Procedure)))
          ∙ c.decls.invariant
    ]
