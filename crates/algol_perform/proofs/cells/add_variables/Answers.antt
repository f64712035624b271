use Rattle.std.proofs.Common.{◌≡◌, ℕ, ◌+◌, ◌<◌, suc, List, ◌∷◌, ◌++◌, length, drop, get_or, drop-cons, append_assoc, sym, ap, ◌∙◌, arith}
use Rattle.algol_tree.specs.declared.tree.Decl.{Decl}
use Rattle.algol_meaning.specs.World.{NamedCell}
use Rattle.algol_meaning.specs.Instances.{variable_cells}
use Rattle.algol_meaning.specs.SeenTree.{decl, decls}
use Rattle.algol_instances.specs.SeenInstance.{named_cells}
use Rattle.algol_perform.specs.Making.{declared_cells}
use Rattle.algol_perform.proofs.Fresh.{variables_next}
use Rattle.algol_perform.proofs.cells.add_variables.Goals as goal

next_decl : (ds : List Decl) (i : ℕ) (d : Decl) → i < length ds → d ≡ get_or ds i d → drop i ds ≡ d ∷ drop (i + 1) ds
next_decl ds i d h is =
    let next : suc i ≡ i + 1 = omega arith in
    drop-cons ds i d h ∙ ap (λ (e : Decl). e ∷ drop (suc i) ds) (sym is) ∙ ap (λ (n : ℕ). d ∷ drop n ds) next

cells_next :
    (done new : List NamedCell) (ds : List Decl) (i : ℕ) (d : Decl) (all : List NamedCell) → i < length ds → d ≡ get_or ds i d
    → new ≡ done ++ declared_cells (decl d) → done ++ variable_cells (decls (drop i ds)) ≡ all → new ++ variable_cells (decls (drop (i + 1) ds)) ≡ all
cells_next done new ds i d all h is pushed inv =
    let r : List NamedCell = variable_cells (decls (drop (i + 1) ds)) in
    ap (λ (cs : List NamedCell). cs ++ r) pushed
    ∙ append_assoc done (declared_cells (decl d)) r
    ∙ ap (λ (cs : List NamedCell). done ++ cs) (sym (variables_next (decl d) (decls (drop (i + 1) ds))))
    ∙ ap (λ (es : List Decl). done ++ variable_cells (decls es)) (sym (next_decl ds i d h is))
    ∙ inv

pub declaring-preserved : goal.declaring-preserved
declaring-preserved c =
    cells_next (named_cells c.declaring.cells.items) (named_cells c.add_declared.new.cells.items) c.args.all.now c.declaring.d-index c.d-item.result _
    c.declaring-test.true c.d-item.is c.in_ok-add_declared.ensures c.declaring.invariant
