use Rattle.std.proofs.Common.{arith, ◌≡◌, ◌++◌, length, map, drop, List, ◌∷◌, ap, sym, ◌∙◌, refl, Some, None, slice_get}
use Rattle.std.specs.Vec.Iter.{into_iter_items}
use Rattle.algol_meaning.specs.Instances.{parameter_cells}
use Rattle.algol_cells.specs.SeenCell.{cell}
use Rattle.algol_cells.specs.SeenScope.{parameter}
use Rattle.algol_cells.specs.declared.cell.Cell.{Cell}
use Rattle.algol_instances.specs.SeenInstance.{named_cells}
use Rattle.algol_instances.specs.declared.instance.NamedCell.{NamedCell}
use Rattle.algol_perform.proofs.Fresh.{given_all, no_more, given_more}
use Rattle.algol_perform.proofs.cells.parameter_cells.Goals as goal

pub returns-in-None-parameter_at : goal.returns-in-None-parameter_at
returns-in-None-parameter_at c =
    let ps = c.args.parameters.now in
    let named = c.giving.named.items in
    let count = c.len.ensures ∙ c.giving.named.ok.0 in
    let none : None ≡ slice_get ps (length named) = c.in-None-parameter_at.ensures ∙ ap (slice_get ps) count in
    sym (no_more ps named (into_iter_items c.giving.cell-iterator) none) ∙ c.giving.invariant.0

pub giving-preserved : goal.giving-preserved
giving-preserved c =
    let ps = c.args.parameters.now in
    let named = c.giving.named.items in
    let count = c.len.ensures ∙ c.giving.named.ok.0 in
    let p = c.in-Some-parameter_at.parameter.now in
    let x = c.in-Some.cell in
    let some : Some p ≡ slice_get ps (length named) = c.in-Some-parameter_at.ensures ∙ ap (slice_get ps) count in
    let steps : into_iter_items c.giving.cell-iterator ≡ x ∷ into_iter_items c.next.new.self = c.in-Some.ensures.steps.0 in
    let n : NamedCell = record { name = p.name; cell = x } in (
      rw c.in_ok-push-in-Some-parameter_at.ensures.items
          (sym (given_more ps named p x n (into_iter_items c.next.new.self) some refl)
          ∙ ap (λ (cells : List Cell). named_cells named ++ parameter_cells (map parameter (drop (length named) ps)) (map cell cells)) (sym steps)
          ∙ c.giving.invariant.0),
      let was = c.giving.invariant.1 in
          let gone = c.in-Some.ensures.steps.1 in
          let short = ap length steps in
          omega arith,
    )

pub returns : goal.returns
returns c =
    let none = c.in-None.ensures.steps in
    let empty : length (into_iter_items c.giving.cell-iterator) ≡ 0 = sym c.giving.invariant.1 ∙ none.0 in
    sym (given_all c.args.parameters.now c.giving.named.items (into_iter_items c.giving.cell-iterator) empty) ∙ c.giving.invariant.0
