use Rattle.std.proofs.Common.{ap, sym, ◌∙◌}
use Rattle.algol_tree.specs.declared.refusal.Code.TheVariants as codes
use Rattle.algol_tree.specs.Names.{repeated, result_names}
use Rattle.algol_tree.specs.Accepted.{broken, noted_all}
use Rattle.algol_known.specs.Naming.{is_typed, sort_named}
use Rattle.b67_list.proofs.Answered.{on_ok}
use Rattle.algol_scope.proofs.Headings.{bare_has}
use Rattle.algol_scope.proofs.heading.twice_in_params.Goals as goal

pub returns : goal.returns
returns c =
    on_ok c.note_repeated.result
    (λ note.
    note (result_names c.args.h.now)
    (λ q.
    sym (c.result_name.ensures q) ∙ ap (λ z. is_typed z q) (sym c.new-names.ensures.typed)
    ∙ sym (bare_has c.new-names.result.typed c.new-names.result.declared c.new-names.result.parameters (sort_named c.no_names-before.result q) q c.new-names.ensures.declared
    c.new-names.ensures.parameters (c.no_names-before.ensures q)))
    ∙ ap (λ z. noted_all c.args.faults.now.first (broken codes.DeclaredTwice (repeated (result_names c.args.h.now) z)))
    (c.as_slice.ensures.value ∙ c.items.ensures))
    c.note_repeated.ensures.noted
