use Rattle.std.proofs.Common.{◌≡◌, ◌-◌, sym, ap, ◌∙◌, List, Some, None, take, arith, rules}
use Rattle.std.specs.Prelude.{slice_get}
use Rattle.std.proofs.lemmas.List.{take_all}
use Rattle.b67_word.specs.Word.{Word}
use Rattle.b67_store.specs.Store.{row_words, closed_at}
use Rattle.b67_list.proofs.Lists.{no_longer}
use Rattle.b67_linkage.specs.Closing.{without_rows}
use Rattle.b67_linkage.proofs.Closed.{next_daughter}
use Rattle.b67_linkage.proofs.arrays.close_daughters.Goals as goal

pub words-init : goal.words-init
words-init g c =
    let words = row_words (g.C.Core.rows c.args.core.now) c.args.mother in
    record {
      stacks = search rules;
      short = search rules;
      mother = search rules;
      within = omega (arith, c.row_length-at.ensures);
      rest = ap (λ (ws : List Word). closed_at (without_rows ws (g.C.Core.rows c.args.core.now)) c.args.mother) (take_all c.row_length-at.result words (omega (arith, c.row_length-at.ensures)));
    }

pub returns-in_default-clause-rows : goal.returns-in_default-clause-rows
returns-in_default-clause-rows g c =
    let words = row_words (g.C.Core.rows c.args.core.now) c.args.mother in
    let e : slice_get words (c.words.at - 1) ≡ None =
    ap (λ (ws : List Word). slice_get ws (c.words.at - 1)) (sym c.words.invariant.mother) ∙ sym c.read_row.ensures ∙ c.in_default.is in
    absurd (omega (arith, no_longer words (c.words.at - 1) e, c.words.invariant.within, c.words-test.true))

pub words-preserved : goal.words-preserved
words-preserved g c =
    let words = row_words (g.C.Core.rows c.args.core.now) c.args.mother in
    let e : slice_get words (c.words.at - 1) ≡ Some c.in-Some.word =
    ap (λ (ws : List Word). slice_get ws (c.words.at - 1)) (sym c.words.invariant.mother) ∙ sym c.read_row.ensures ∙ c.in-Some.is in
    record {
      stacks = c.close_daughter.ensures.stacks ∙ c.words.invariant.stacks;
      short = c.close_daughter.ensures.short;
      mother = c.close_daughter.ensures.mother ∙ c.words.invariant.mother;
      within = omega (arith, c.words.invariant.within);
      rest = next_daughter words (c.words.at - 1) c.words.at c.in-Some.word (g.C.Core.rows c.words.core) (g.C.Core.rows c.close_daughter.new.core) c.args.mother e (omega (arith, c.words-test.true))
          c.close_daughter.ensures.rows
          ∙ c.words.invariant.rest;
    }

pub returns-clause-rows : goal.returns-clause-rows
returns-clause-rows g c =
    let words = row_words (g.C.Core.rows c.args.core.now) c.args.mother in
    let none : 0 ≡ c.words.at = omega (arith, c.words-test.false) in
    ap (λ k. closed_at (without_rows (take k words) (g.C.Core.rows c.words.core)) c.args.mother) none ∙ c.words.invariant.rest
