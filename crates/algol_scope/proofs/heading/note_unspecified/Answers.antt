use Rattle.std.proofs.Common.{◌∙◌, ap, sym, drop}
use Rattle.std.proofs.lemmas.List.{drop_all}
use Rattle.algol_tree.specs.declared.refusal.Code.TheVariants as codes
use Rattle.algol_tree.specs.declared.tree.Spec.{Spec}
use Rattle.algol_tree.specs.Names.{is_no_parameter, names_of_spec, places_if}
use Rattle.algol_tree.specs.Accepted.{broken, noted_all}
use Rattle.algol_frames.proofs.Noting.{note_item, note_end}
use Rattle.algol_scope.proofs.Headings.{places_specs}
use Rattle.algol_scope.proofs.heading.note_unspecified.Goals as goal

pub specs-preserved : goal.specs-preserved
specs-preserved c =
    note_item codes.UnknownName (λ (s : Spec). places_if (is_no_parameter c.args.h.now) (names_of_spec s)) c.deref-spec-items.result.now c.specs.spec-index
    c.spec-item.result c.specs.faults.first c.note_unknown.new.faults.first _ c.specs-test.true c.spec-item.is
    (c.note_unknown.ensures c.args.h.now c.requires
    ∙ ap (λ z. noted_all c.specs.faults.first (broken codes.UnknownName (places_if (is_no_parameter c.args.h.now) z)))
    (c.as_slice.ensures.value ∙ c.names_of.ensures))
    c.specs.invariant

pub returns : goal.returns
returns c =
    note_end codes.UnknownName (λ (s : Spec). places_if (is_no_parameter c.args.h.now) (names_of_spec s)) (drop c.specs.spec-index c.deref-spec-items.result.now)
    c.specs.faults.first _ (drop_all c.specs.spec-index c.deref-spec-items.result.now c.specs-test.false) c.specs.invariant
    ∙ ap (λ z. noted_all c.args.faults.now.first (broken codes.UnknownName z)) (sym (places_specs (is_no_parameter c.args.h.now) c.args.h.now.specs))
