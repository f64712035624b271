use Rattle.std.proofs.Common.{[], ◌∷◌, sym, append-nil}
use Rattle.algol_check.proofs.Stated.{label_kept}
use Rattle.algol_check.proofs.checker.Checker.label.Goals as goal

pub returns-in-None : goal.returns-in-None
returns-in-None c = λ s.
    label_kept c.args.scopes.now c.args.self.now c.want_name.new.faults c.args.self.now.standings c.args.name.now c.args.listed [] s
    c.want_name.ensures (sym (append-nil c.args.self.now.standings.items)) c.in-None.ensures

pub returns-in_ok-push-in-Some : goal.returns-in_ok-push-in-Some
returns-in_ok-push-in-Some c = λ s.
    label_kept c.args.scopes.now c.args.self.now c.want_name.new.faults c.push.new.self c.args.name.now c.args.listed (c.in-Some.standing ∷ []) s
    c.want_name.ensures c.in_ok-push-in-Some.ensures.items c.in-Some.ensures
