use Rattle.std.proofs.Common.{◌+◌, ◌*◌, length, drop}
use Rattle.algol_tree.specs.Image.{expr as plain}
use Rattle.algol_expr.proofs.Lists.{GoesOn}
use Rattle.algol_expr.proofs.Climbing.{Climbs}
use Rattle.algol_expr.proofs.Operands.{ReadsOn}
use Rattle.algol_expr.proofs.reader.+expressions.Given as goal

abbrev pub decreases-read_arms : goal.decreases-read_arms
decreases-read_arms l = 32 * length l.tokens.now + 31

abbrev pub decreases-read_behind_name : goal.decreases-read_behind_name
decreases-read_behind_name l = 32 * length l.tokens.now + 31

abbrev pub decreases-read_choice : goal.decreases-read_choice
decreases-read_choice l = 32 * length l.rest.now + 31

abbrev pub decreases-read_expression : goal.decreases-read_expression
decreases-read_expression l = 32 * length l.tokens.now + 26

abbrev pub decreases-read_group : goal.decreases-read_group
decreases-read_group l = 32 * length l.rest.now + 31

abbrev pub decreases-read_list : goal.decreases-read_list
decreases-read_list l = 32 * length l.tokens.now + 28

abbrev pub decreases-read_primary : goal.decreases-read_primary
decreases-read_primary l = 32 * length l.tokens.now + 6

abbrev pub decreases-read_up_to : goal.decreases-read_up_to
decreases-read_up_to l = 32 * length l.tokens.now + 20

abbrev pub decreases-read_beginning : goal.decreases-read_beginning
decreases-read_beginning l = 32 * length l.tokens.now + 18

abbrev pub decreases-read_not : goal.decreases-read_not
decreases-read_not l = 32 * length l.behind.now + 31

abbrev pub decreases-read_signed : goal.decreases-read_signed
decreases-read_signed l = 32 * length l.behind.now + 31

abbrev pub decreases-read_step : goal.decreases-read_step
decreases-read_step l = 32 * length l.tokens.now + 31

abbrev pub decreases-read_more : goal.decreases-read_more
decreases-read_more l = 32 * length l.tokens.now + 30

abbrev pub decreases-read_operand : goal.decreases-read_operand
decreases-read_operand l = 32 * length l.tokens.now + 22

abbrev pub decreases-read_relation : goal.decreases-read_relation
decreases-read_relation l = 32 * length l.tokens.now + 30

abbrev pub invariant-read_up_to-steps : goal.invariant-read_up_to-steps
invariant-read_up_to-steps l = Climbs l.fn.last l.depth l.tokens (drop l.step-index l.step-items) (plain l.left.value) l.rest

abbrev pub invariant-read_more-operands : goal.invariant-read_more-operands
invariant-read_more-operands l = ReadsOn l.level l.depth (plain l.fn.left.value) l.tokens (plain l.left.value) l.rest

abbrev pub decreases-read_more-operands : goal.decreases-read_more-operands
decreases-read_more-operands l = length l.rest

abbrev pub invariant-read_list-items : goal.invariant-read_list-items
invariant-read_list-items l = GoesOn l.depth l.closing l.tokens l.items.items l.rest

abbrev pub decreases-read_list-items : goal.decreases-read_list-items
decreases-read_list-items l = length l.rest
