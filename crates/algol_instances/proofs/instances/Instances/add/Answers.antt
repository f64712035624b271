use Rattle.std.proofs.Common.{List, [], ◌∷◌, ◌++◌, map, ap, sym, ◌∙◌}
use Rattle.algol_meaning.specs.Arrays.{live_elements}
use Rattle.algol_instances.specs.SeenArray.{capped}
use Rattle.algol_instances.specs.SeenInstance.{instance}
use Rattle.algol_instances.specs.declared.instance.Instance.{Instance}
use Rattle.algol_instances.proofs.Counting.{added_counts}
use Rattle.algol_instances.proofs.instances.Instances.add.Goals as goal

pub invariant_of-self-2 : goal.invariant_of-self-2
invariant_of-self-2 c =
    c.saturating_add-self-inside.ensures
    ∙ added_counts c.self.inside.list c.args.added c.self.inside.live_elements c.live_in-more.result c.self.invariant c.live_in-more.ensures
    ∙ ap (λ (is : List Instance). capped (live_elements (map instance is)))
    (sym (c.in_ok-push.ensures.items ∙ ap (λ (is : List Instance). is ++ c.args.added ∷ []) c.items_mut.ensures.shows))
