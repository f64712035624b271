use Rattle.std.proofs.Common.{sym, ◌∙◌}
use Rattle.algol_rest.specs.SeenStatement.{following}
use Rattle.algol_rest.proofs.Asking.{ask_in}
use Rattle.algol_rest.proofs.statement.Point.ask.Goals as goal

pub returns-in-In : goal.returns-in-In
returns-in-In c =
    let i = c.in-In in λ sc fs k. rw i.is (c.ask_head.ensures sc ∙ sym (ask_in sc i.head i.field-1 fs (following k)))
