use Rattle.std.proofs.Common.{ap, ◌∙◌, ◌∷◌, [], arith}
use Rattle.b67_word.specs.Word.{Word}
use Rattle.b67_store.specs.Store.{opened_at}
use Rattle.b67_table.specs.Linkage.{entered_mark}
use Rattle.b67_going.proofs.Opened.{opened_is, opened_length, opened_push}
use Rattle.b67_going.proofs.opens.open_base.Goals as goal

pub push_word-requires-clause-open : goal.push_word-requires-clause-open
push_word-requires-clause-open g c =
    opened_is c.args.number (g.C.Core.stacks c.args.core.now) (g.C.Core.stacks c.open_stack.new.self) [] c.in-Ok.ensures.stacks

pub push_word-requires-clause-room : goal.push_word-requires-clause-room
push_word-requires-clause-room g c =
    let n = opened_length c.args.number (g.C.Core.stacks c.args.core.now) (g.C.Core.stacks c.open_stack.new.self) [] c.in-Ok.ensures.stacks in omega (arith, n)

pub push_word-requires-2-clause-open : goal.push_word-requires-2-clause-open
push_word-requires-2-clause-open g c =
    opened_is c.args.number (g.C.Core.stacks c.args.core.now) (g.C.Core.stacks c.push_word.new.core) (c.pack.result ∷ [])
    (opened_push c.args.number (g.C.Core.stacks c.args.core.now) (g.C.Core.stacks c.open_stack.new.self) (g.C.Core.stacks c.push_word.new.core) [] c.pack.result c.in-Ok.ensures.stacks
    c.push_word.ensures.stacks)

pub push_word-requires-2-clause-room : goal.push_word-requires-2-clause-room
push_word-requires-2-clause-room g c =
    let n = opened_length c.args.number (g.C.Core.stacks c.args.core.now) (g.C.Core.stacks c.push_word.new.core) (c.pack.result ∷ [])
    (opened_push c.args.number (g.C.Core.stacks c.args.core.now) (g.C.Core.stacks c.open_stack.new.self) (g.C.Core.stacks c.push_word.new.core) [] c.pack.result c.in-Ok.ensures.stacks
    c.push_word.ensures.stacks) in
    omega (arith, n)

pub returns-clause-opened : goal.returns-clause-opened
returns-clause-opened g c =
    opened_push c.args.number (g.C.Core.stacks c.args.core.now) (g.C.Core.stacks c.push_word.new.core) (g.C.Core.stacks c.push_word-2.new.core) (c.pack.result ∷ []) c.pack-2.result
    (opened_push c.args.number (g.C.Core.stacks c.args.core.now) (g.C.Core.stacks c.open_stack.new.self) (g.C.Core.stacks c.push_word.new.core) [] c.pack.result c.in-Ok.ensures.stacks
    c.push_word.ensures.stacks)
    c.push_word-2.ensures.stacks
    ∙ ap (λ (w : Word). opened_at (g.C.Core.stacks c.args.core.now) c.args.number (w ∷ c.pack-2.result ∷ [])) c.pack.ensures
    ∙ ap (λ (w : Word). opened_at (g.C.Core.stacks c.args.core.now) c.args.number (entered_mark c.args.home 0 ∷ w ∷ [])) c.pack-2.ensures
