use Rattle.std.proofs.Common.{◌∙◌}
use Rattle.algol_tree.specs.declared.tree.Named.{Named}
use Rattle.algol_tree.specs.Classes.{is_unspecified}
use Rattle.algol_tree.specs.Sorts.{class_in}
use Rattle.algol_sites.specs.Headings.{is_reference}
use Rattle.algol_sites.proofs.Specs.{faulty_step, missing_told, referring_told}
use Rattle.algol_sites.proofs.heading.check_heading.Goals as goal

pub parameters-preserved : goal.parameters-preserved
parameters-preserved c =
    faulty_step (λ (n : Named). is_unspecified (class_in c.args.heading.now.specs n.name)) c.deref-named-items.result.now c.parameters.named-index c.named-item.result
    c.is_unspecified-is_missing.result c.parameters.faults.first c.note_if.new.faults.first c.parameters-test.true c.named-item.is
    (missing_told c.in_ok-specified.specified c.args.heading.now c.sort.result c.named-item.result.name c.bytes.result.now c.is_unspecified-is_missing.result
    c.in_ok-specified.ensures c.sort.ensures c.bytes.ensures c.is_unspecified-is_missing.ensures)
    c.note_if.ensures
    ∙ c.parameters.invariant

pub values-preserved : goal.values-preserved
values-preserved c =
    faulty_step (λ (n : Named). is_reference (class_in c.args.heading.now.specs n.name)) c.deref-named-items-2.result.now c.values.named-index c.named-item-in-values.result
    c.is_reference-refers.result c.values.faults.first c.note_if-in-values.new.faults.first c.values-test.true c.named-item-in-values.is
    (referring_told c.in_ok-specified.specified c.args.heading.now c.sort-in-values.result c.named-item-in-values.result.name c.bytes-in-values.result.now
    c.is_reference-refers.result c.in_ok-specified.ensures c.sort-in-values.ensures c.bytes-in-values.ensures c.is_reference-refers.ensures)
    c.note_if-in-values.ensures
    ∙ c.values.invariant
