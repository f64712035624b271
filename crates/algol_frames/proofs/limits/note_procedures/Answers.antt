use Rattle.std.proofs.Common.{◌++◌, sym, ap, ◌∙◌, append-nil}
use Rattle.std.specs.List.{flat_map}
use Rattle.std.proofs.lemmas.List.{drop_all}
use Rattle.algol_tree.specs.declared.TheConstants.{MOST_PROCEDURES}
use Rattle.algol_tree.specs.declared.refusal.Code.TheVariants as codes
use Rattle.algol_tree.specs.Accepted.{broken, noted_all}
use Rattle.algol_tree.specs.Names.{place_beyond}
use Rattle.algol_frames.specs.Framing.{procedure_place}
use Rattle.algol_frames.proofs.limits.note_procedures.Goals as goal

pub returns : goal.returns
returns c =
    c.note_place.ensures
    ∙ ap (λ z. noted_all c.args.faults.now.first (broken codes.TooManyProcedures (place_beyond MOST_PROCEDURES z)))
    (c.as_slice.ensures.value ∙ sym (append-nil c.procedures.spots.items)
    ∙ ap (λ z. c.procedures.spots.items ++ flat_map procedure_place z) (sym (drop_all c.procedures.block-index c.args.blocks.now c.procedures-test.false))
    ∙ c.procedures.invariant)
