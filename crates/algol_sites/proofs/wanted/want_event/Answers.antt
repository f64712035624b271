use Rattle.std.proofs.Common.{◌∙◌, ap}
use Rattle.algol_tree.specs.declared.refusal.Code.TheVariants as codes
use Rattle.algol_tree.specs.Accepted.{noted_all}
use Rattle.algol_sites.specs.Wanting.{unfit}
use Rattle.algol_sites.proofs.wanted.want_event.Goals as goal

pub returns : goal.returns
returns c = λ a t.
    c.want_name.ensures a t ∙ ap (λ w. noted_all c.args.faults.now.first (unfit w codes.WrongType c.args.event.now.name a)) c.event_wanted.ensures
