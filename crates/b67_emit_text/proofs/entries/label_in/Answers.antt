use Rattle.std.proofs.Common.{◌∙◌, ◌+◌, ◌∷◌, drop, ap, sym, is_some}
use Rattle.std.proofs.lemmas.List.{drop_more}
use Rattle.std.specs.Prelude.{Option}
use Rattle.algol_tree.specs.declared.tree.Named.{Named}
use Rattle.algol_tree.specs.declared.tree.Stmt.{Stmt}
use Rattle.b67_emit_text.proofs.Led.{copied_some, label_further, label_here}
use Rattle.b67_emit_text.proofs.entries.label_in.Goals as goal

pub returns-then-is_some : goal.returns-then-is_some
returns-then-is_some c =
    let ss = c.args.ss.now in
    let i = c.statements.s-index in
    let s = c.s-item.result in
    let next = drop_more ss i s c.statements-test.true ∙ ap (λ (x : Stmt). x ∷ drop (i + 1) ss) (sym c.s-item.is) in
    let found = ap (λ (o : Option Named). is_some o) (sym c.label_before-found.ensures) ∙ copied_some c.label_before-found.result ∙ sym c.is_some.ensures ∙ c.if-is_some.true in
    c.label_before-found.ensures ∙ sym (label_here (drop i ss) (drop (i + 1) ss) s c.args.name.now.name next found) ∙ c.statements.invariant

pub statements-preserved : goal.statements-preserved
statements-preserved c =
    let ss = c.args.ss.now in
    let i = c.statements.s-index in
    let s = c.s-item.result in
    let next = drop_more ss i s c.statements-test.true ∙ ap (λ (x : Stmt). x ∷ drop (i + 1) ss) (sym c.s-item.is) in
    let none = ap (λ (o : Option Named). is_some o) (sym c.label_before-found.ensures) ∙ copied_some c.label_before-found.result ∙ sym c.is_some.ensures ∙ c.if-is_some.false in
    sym (label_further (drop i ss) (drop (i + 1) ss) s c.args.name.now.name next none) ∙ c.statements.invariant
