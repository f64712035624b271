use Rattle.std.proofs.Common.{ap, sym, ◌∙◌}
use Rattle.algol_tree.specs.declared.refusal.Code.TheVariants as codes
use Rattle.algol_tree.specs.Sorts.{is_named_in}
use Rattle.algol_tree.specs.Names.{is_no_parameter, places_if, specified}
use Rattle.algol_tree.specs.Accepted.{broken, noted_all}
use Rattle.algol_frames.proofs.Noting.{noted_broken}
use Rattle.algol_scope.proofs.heading.unknown_in_heading.Goals as goal

pub note_unspecified-requires : goal.note_unspecified-requires
note_unspecified-requires c = λ q. c.in_ok-params.ensures q ∙ ap (λ z. is_named_in z q) (c.as_slice.ensures.value ∙ c.items.ensures)

pub returns : goal.returns
returns c =
    c.note_unspecified.ensures
    ∙ ap (λ z. noted_all z (broken codes.UnknownName (places_if (is_no_parameter c.args.h.now) (specified c.args.h.now))))
    (c.note_unknown.ensures c.args.h.now
    (λ q. c.in_ok-params.ensures q ∙ ap (λ z. is_named_in z q) (c.as_slice.ensures.value ∙ c.items.ensures))
    ∙ ap (λ z. noted_all c.args.faults.now.first (broken codes.UnknownName (places_if (is_no_parameter c.args.h.now) z)))
    (c.as_slice-2.ensures.value ∙ c.items-2.ensures))
    ∙ sym (noted_broken c.args.faults.now.first codes.UnknownName (places_if (is_no_parameter c.args.h.now) c.args.h.now.values)
    (places_if (is_no_parameter c.args.h.now) (specified c.args.h.now)))
