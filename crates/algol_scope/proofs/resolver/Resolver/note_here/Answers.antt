use Rattle.std.proofs.Common.{refl, ◌∙◌, ◌++◌}
use Rattle.algol_tree.specs.Blocks.{block_numbered}
use Rattle.algol_tree.specs.Names.{names_here, result_names_of}
use Rattle.b67_list.proofs.Answered.{on_ok}
use Rattle.algol_scope.proofs.Making.{has_told}
use Rattle.algol_scope.proofs.Faults.{makes_notes, or_none}
use Rattle.algol_scope.specs.Declaring.{twice_among}
use Rattle.algol_known.specs.Naming.{has_name, sort_named}
use Rattle.algol_scope.proofs.resolver.Resolver.note_here.Goals as goal

pub returns : goal.returns
returns c =
    on_ok c.note_repeated.result
    (λ note.
    makes_notes c.args.self.now _ (twice_among c.args.ns.now) refl refl refl refl
    (λ blocks a spots first s.
    note (result_names_of (block_numbered blocks a.block) ++ names_here a)
    (λ q.
    has_told blocks c.args.self.now a spots first q s
    ∙ or_none
    (has_name c.args.self.now.around.innermost.typed c.args.self.now.around.innermost.declared c.args.self.now.around.innermost.parameters q)
    (sort_named c.no_names-before.result q) (c.no_names-before.ensures q))))
    c.note_repeated.ensures.noted
