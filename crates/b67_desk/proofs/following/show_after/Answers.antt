use Rattle.std.proofs.Common.{ℕ, subst}
use Rattle.algol_tree.specs.Image.{program as plain}
use Rattle.b67_schedule.specs.Giving.{given_entries}
use Rattle.b67_dump.specs.Dumps.{Dumps}
use Rattle.b67_desk.proofs.Followed.{seen_answered}
use Rattle.b67_desk.proofs.following.show_after.Goals as goal

pub returns : goal.returns
returns c =
    let tree = plain c.args.checked.now.program in
    let seen = c.in_ok-dump.field-0 in
    seen_answered c.args.entries tree c.args.given.now seen c.show.result
    (subst (λ (k : ℕ). Dumps tree (given_entries c.args.given.now) k seen) c.from.ensures c.in_ok-dump.ensures) c.show.ensures
