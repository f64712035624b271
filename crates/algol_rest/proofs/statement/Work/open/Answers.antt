use Rattle.std.proofs.Common.{rules, ◌≡◌, ap, sym, ◌∙◌, List}
use Rattle.std.proofs.lemmas.List.{nil_from_length}
use Rattle.algol_tree.specs.Plain as tree
use Rattle.algol_meaning.specs.SeenTree as seen
use Rattle.algol_meaning.specs.SeenTree.{stmts}
use Rattle.algol_rest.specs.SeenStatement.{ahead, following}
use Rattle.algol_meaning.specs.Statements.{settle_items}
use Rattle.algol_meaning.proofs.Cited.{settles_items}
use Rattle.algol_rest.specs.declared.statement.Next.{Next}
use Rattle.algol_rest.proofs.statement.Work.open.Goals as goal

pub returns-in_ok-push-in-None : goal.returns-in_ok-push-in-None
returns-in_ok-push-in-None c =
    let d : seen.decls c.args.ds.now ≡ tree.no_decls = ap seen.decls (nil_from_length c.args.ds.now c.in-None.ensures.cases) in
    λ sc. rw d (
      settles_items sc (stmts c.args.ss.now) (ahead c.args.self.now)
          ∙ ap (λ (k : List Next). settle_items sc (following k)) (sym c.in_ok-push-in-None.ensures),
      search (rules),
      search (rules),
    )
