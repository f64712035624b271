use Rattle.std.proofs.Common.{◌≡◌, ◌+◌, ◌∙◌, ◌++◌, ◌∷◌, List, drop, map, ap, sym}
use Rattle.std.proofs.lemmas.List.{drop_more}
use Rattle.algol_tree.specs.declared.tree.Named.{Named}
use Rattle.algol_tree.specs.Image.{decls, stmts}
use Rattle.b67_templates.specs.Labels.{labels_in}
use Rattle.b67_emit_text.specs.Entries.{DeclaredLabel, entry_of, own_entries}
use Rattle.b67_emit_text.proofs.Entered.{carried, labels_more, labels_same, own_both}
use Rattle.b67_emit_text.proofs.entries.own.Goals.{in-Labels+in_ok-add, in_default}
use Rattle.b67_emit_text.proofs.entries.own.Goals as goal

pub decls-preserved : goal.decls-preserved
decls-preserved c =
    let ds = c.args.ds.now in
    let i = c.decls.d-index in
    let d = c.d-item.result in
    let level = c.args.level in
    let ss = stmts c.args.ss.now in
    let rest = drop (i + 1) ds in
    let old = map entry_of c.args.to.now.items in
    let before = map entry_of c.decls.to.items in
    let later = own_entries level ss (labels_in (decls rest)) in
    let all = own_entries level ss (labels_in (decls ds)) in
    let next : drop i ds ≡ d ∷ rest = drop_more ds i d c.decls-test.true ∙ ap (λ x. x ∷ rest) (sym c.d-item.is) in
    elim c.match-d.branch [
      | in-Labels+in_ok-add w ↦
          let v = w.in-Labels in
          let ns = w.deref.result.now in
          let are = w.deref.ensures.value ∙ w.items.ensures in
          let split = ap (own_entries level ss) (labels_more d (drop i ds) rest v.ns next v.is ∙ ap (λ (l : List Named). l ++ labels_in (decls rest)) (sym are))
          ∙ own_both level ss ns (labels_in (decls rest)) in
          ap (λ t. map entry_of t.items ++ later) w.to-is
          ∙ carried old before (map entry_of w.add.new.to.items) (own_entries level ss ns) later all w.in_ok-add.ensures
          (ap (λ (l : List DeclaredLabel). before ++ l) (sym split) ∙ c.decls.invariant)
      | in_default w ↦
          ap (λ t. map entry_of t.items ++ later) w.to-is
          ∙ ap (λ (l : List Named). before ++ own_entries level ss l) (sym (labels_same d (drop i ds) rest next w.in_default.not-Labels)) ∙ c.decls.invariant
    ]
