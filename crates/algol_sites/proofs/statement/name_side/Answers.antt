use Rattle.std.proofs.Common.{◌∙◌, ap, None}
use Rattle.std.specs.Prelude.{if◌then◌else◌}
use Rattle.algol_tree.specs.Image.{expr}
use Rattle.algol_tree.specs.Surroundings.{class_of}
use Rattle.algol_sites.specs.Assigning.{can_take}
use Rattle.algol_sites.proofs.Seen.{read_by_told, taking_told}
use Rattle.algol_sites.proofs.Statements.{side_noted}
use Rattle.algol_sites.proofs.statement.name_side.Goals as goal

pub returns : goal.returns
returns c = λ a n t.
    side_noted (can_take c.args.place.now.block c.args.place.now.around.items (class_of a c.args.name.now)) c.is_assignable-is_taken.result c.kind_if.result c.args.name.now
    (expr c.args.value.now) a c.args.faults.now.first c.want_if.new.faults.first c.note_if.new.faults.first
    (taking_told c.args.scopes.now a c.args.name.now n c.args.place.now.block c.args.place.now.around.items c.told_at-sort.result.0 c.told_at-sort.result.1
    c.is_assignable-is_taken.result (ap (λ z. z.0) c.told_at-sort.ensures) (ap (λ z. z.1) c.told_at-sort.ensures) c.is_assignable-is_taken.ensures)
    (c.kind_if.ensures
    ∙ ap (λ k. if c.is_assignable-is_taken.result then k else None)
    (c.read_type.ensures ∙ read_by_told c.args.scopes.now a c.args.name.now n c.told_at-sort.result.0 (ap (λ z. z.0) c.told_at-sort.ensures)))
    (c.want_if.ensures a t) c.note_if.ensures
