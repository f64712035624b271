use Rattle.std.proofs.Common.{◌≡◌, sym, ap, ◌∙◌}
use Rattle.b67_control.specs.Control.{as_descriptor}
use Rattle.b67_store.specs.Store.{Rows, row_words}
use Rattle.b67_linkage.proofs.Closed.{own_daughter, words_stay}
use Rattle.b67_linkage.proofs.arrays.close_daughter.Goals as goal

pub returns-then-d-mother-clause-rows : goal.returns-then-d-mother-clause-rows
returns-then-d-mother-clause-rows g c =
    own_daughter (g.C.Core.rows c.args.core.now) (as_descriptor c.args.word) c.in-Some.d c.args.mother (sym c.unpack.ensures.value ∙ c.in-Some.is) c.if-d.false
    c.if-d-mother.true

pub returns-clause-mother : goal.returns-clause-mother
returns-clause-mother g c =
    ap (λ (z : Rows). row_words z c.args.mother) c.close_row.ensures.rows
    ∙ words_stay (g.C.Core.rows c.args.core.now) c.in-Some.d.address c.args.mother (λ e. c.if-d-mother.false (sym e))
