use Rattle.std.proofs.Common.{◌∙◌, ap}
use Rattle.algol_tree.specs.Image as image
use Rattle.algol_frames.specs.Framing.{those_in}
use Rattle.algol_scope.proofs.Found.{first_told, no_refusal, refused_first, unrefused}
use Rattle.algol_scope.proofs.Scoped.{are_all, few}
use Rattle.algol_scope.proofs.whole.scopes_found.Goals as goal

pub returns-in-Err-clause-refused : goal.returns-in-Err-clause-refused
returns-in-Err-clause-refused c =
    refused_first (image.program c.args.program.now) c.note_limits.new.found.findings.faults.first c.refusal.result c.in-Err.refusal
    (first_told c.args.found.now c.note_limits.new.found (image.program c.args.program.now) c.in_ok-cells.cells c.requires.order c.requires.found
    (λ q. c.in_ok-cells.ensures q ∙ ap (λ z. those_in z q) c.as_slice.ensures.value) c.in_ok-note_limits.ensures.faults) c.refusal.ensures c.in-Err.is

pub scopes_of-requires : goal.scopes_of-requires
scopes_of-requires c =
    few (image.program c.args.program.now) c.args.found.now c.note_limits.new.found c.in_ok-cells.cells c.requires.order c.requires.found
    (unrefused (image.program c.args.program.now) c.note_limits.new.found.findings.faults.first c.refusal.result tt
    (first_told c.args.found.now c.note_limits.new.found (image.program c.args.program.now) c.in_ok-cells.cells c.requires.order c.requires.found
    (λ q. c.in_ok-cells.ensures q ∙ ap (λ z. those_in z q) c.as_slice.ensures.value) c.in_ok-note_limits.ensures.faults) c.refusal.ensures c.in-Ok.is)
    (λ q. c.in_ok-cells.ensures q ∙ ap (λ z. those_in z q) c.as_slice.ensures.value) c.note_limits.ensures.kept_blocks

pub returns-clause-refused : goal.returns-clause-refused
returns-clause-refused c = no_refusal (image.program c.args.program.now) c.scopes_of.result c.scopes_of.ensures.memory

pub returns-clause-are : goal.returns-clause-are
returns-clause-are c =
    are_all (image.program c.args.program.now) c.args.found.now c.note_limits.new.found c.in_ok-cells.cells c.scopes_of.result c.requires.order
    c.requires.found
    (unrefused (image.program c.args.program.now) c.note_limits.new.found.findings.faults.first c.refusal.result tt
    (first_told c.args.found.now c.note_limits.new.found (image.program c.args.program.now) c.in_ok-cells.cells c.requires.order c.requires.found
    (λ q. c.in_ok-cells.ensures q ∙ ap (λ z. those_in z q) c.as_slice.ensures.value) c.in_ok-note_limits.ensures.faults) c.refusal.ensures c.in-Ok.is)
    (λ q. c.in_ok-cells.ensures q ∙ ap (λ z. those_in z q) c.as_slice.ensures.value) c.note_limits.ensures.kept_blocks c.note_limits.ensures.kept_cells
    c.note_limits.ensures.kept_uses c.scopes_of.ensures.laid
