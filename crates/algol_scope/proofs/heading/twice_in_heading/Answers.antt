use Rattle.std.proofs.Common.{[], ap, sym, ◌∙◌}
use Rattle.algol_tree.specs.declared.refusal.Code.TheVariants as codes
use Rattle.algol_tree.specs.Names.{repeated, result_names, specified}
use Rattle.algol_tree.specs.Accepted.{broken, noted_all}
use Rattle.algol_frames.proofs.Noting.{noted_broken}
use Rattle.b67_list.proofs.Answered.{on_ok}
use Rattle.algol_scope.proofs.heading.twice_in_heading.Goals as goal

pub returns : goal.returns
returns c =
    on_ok c.twice_in_specs.result
    (λ h.
    h ∙ ap (λ z. noted_all z (broken codes.DeclaredTwice (repeated [] (specified c.args.h.now)))) c.in_ok-twice_in_params.ensures
    ∙ sym (noted_broken c.args.faults.now.first codes.DeclaredTwice (repeated (result_names c.args.h.now) c.args.h.now.params)
    (repeated [] (specified c.args.h.now))))
    c.twice_in_specs.ensures
