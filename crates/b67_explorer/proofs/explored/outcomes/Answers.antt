use Rattle.std.proofs.Common.{sym, subst, ◌∙◌}
use Rattle.b67_segment.specs.declared.code.Code.{Code}
use Rattle.b67_outcomes.specs.Settling.{LocalsPass}
use Rattle.b67_explorer.specs.Cells.{IsLocalThere}
use Rattle.b67_outcomes.specs.Finding.{AreAll, AreNoted, IsClosed, IsSearched}
use Rattle.b67_outcomes.specs.Kept.{IsTree}
use Rattle.b67_outcomes.proofs.Keeping.{steps_few}
use Rattle.b67_teller.specs.Books.{IsBook, HasCause, AreTold}
use Rattle.b67_explorer.proofs.Assembled.{Explains, IsFound, answered}
use Rattle.b67_explorer.proofs.Owned.{locals_pass}
use Rattle.b67_explorer.proofs.explored.outcomes.Goals as goal

pub returns : goal.returns
returns c =
    let found = c.in_ok-found.found in
    let book = c.in_ok-book.book in
    let same = c.in_ok-explorer.ensures in
    let also = c.explore.ensures.code ∙ same in
    let laws =
    subst (λ (k : Code). LocalsPass k (IsLocalThere k)) (sym same) (locals_pass c.requires.faithful.0 c.args.code c.requires.faithful.1 c.requires.stacks) in
    let all : IsFound c.args.code c.args.most found =
    record {
      searched = subst (λ (k : Code). IsSearched k c.args.most found) same c.in_ok-found.ensures.searched;
      tree = subst (λ (k : Code). IsTree k (IsLocalThere k) found) same c.in_ok-found.ensures.kept.0;
      some = c.in_ok-found.ensures.kept.1;
      noted = subst (λ (k : Code). AreNoted k found) same c.in_ok-found.ensures.noted;
      closed = λ e. subst (λ (k : Code). IsClosed k (IsLocalThere k) found) same (c.in_ok-found.ensures.closed e);
      stacks = c.requires.stacks;
    } in
    answered c.args.code c.args.most found book c.text_of.result all
    (λ e. subst (λ (k : Code). AreAll k found) same (c.in_ok-found.ensures.all laws e)) (subst (λ (k : Code). IsBook Explains k book) also c.in_ok-book.ensures.book)
    (subst (λ (k : Code). HasCause Explains k found book) also c.in_ok-book.ensures.cause)
    (λ e. subst (λ (k : Code). AreTold k found book.told.items) also (c.in_ok-book.ensures.told e)) c.text_of.ensures

pub tell-requires-clause-few : goal.tell-requires-clause-few
tell-requires-clause-few c = steps_few _ c.args.most c.in_ok-found.found c.in_ok-found.ensures.searched
