use Rattle.std.proofs.Common.{inl, subst}
use Rattle.b67_segment.specs.declared.code.Code.{Code}
use Rattle.b67_settling.specs.Local.{Turns}
use Rattle.b67_explorer.proofs.local.is_own_next.Goals as goal

pub returns-then-turns : goal.returns-then-turns
returns-then-turns g c = λ t. inl (subst (λ (k : Code). Turns k c.args.part.now) c.code.ensures (c.turns.ensures t))
