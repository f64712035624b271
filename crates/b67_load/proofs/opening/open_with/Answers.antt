use Rattle.std.proofs.Common.{◌∙◌, ap, sym, List, ◌++◌, ◌∷◌, [], take, arith}
use Rattle.std.proofs.lemmas.List.{take_more, length-take-le}
use Rattle.b67_word.specs.Word.{Word}
use Rattle.b67_store.specs.Store.{opened_at}
use Rattle.b67_going.proofs.Opened.{opened_is, opened_length, opened_push}
use Rattle.b67_load.proofs.opening.open_with.Goals as goal

pub push_word-requires-clause-open : goal.push_word-requires-clause-open
push_word-requires-clause-open g c =
    opened_is c.args.stack (g.C.Core.stacks c.args.core.now) (g.C.Core.stacks c.words.core) (take c.words.index c.args.words.now) c.words.invariant.stacks

pub push_word-requires-clause-room : goal.push_word-requires-clause-room
push_word-requires-clause-room g c =
    let n = opened_length c.args.stack (g.C.Core.stacks c.args.core.now) (g.C.Core.stacks c.words.core) (take c.words.index c.args.words.now) c.words.invariant.stacks in
    let taken = length-take-le c.words.index c.args.words.now c.words.invariant.within in
    omega (arith, n, taken, c.words-test.true, c.requires.room)

pub words-preserved : goal.words-preserved
words-preserved g c =
    let st = g.C.Core.stacks c.args.core.now in
    let ws = c.args.words.now in
    let w = c.index-words-index.result in
    let more = ap (λ (x : Word). take c.words.index ws ++ x ∷ []) c.index-words-index.is ∙ sym (take_more ws c.words.index w c.words-test.true) in
    record {
      within = omega (arith, c.words-test.true);
      stacks = opened_push c.args.stack st (g.C.Core.stacks c.words.core) (g.C.Core.stacks c.push_word.new.core) (take c.words.index ws) w c.words.invariant.stacks c.push_word.ensures.stacks
          ∙ ap (λ (z : List Word). opened_at st c.args.stack z) more;
      rows = c.push_word.ensures.rows ∙ c.words.invariant.rows;
    }
