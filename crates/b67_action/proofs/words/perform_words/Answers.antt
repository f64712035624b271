use Rattle.std.proofs.Common.{◌≡◌, Some}
use Rattle.b67_list.specs.Numbered.{numbered}
use Rattle.b67_deeds.specs.declared.Letter.{Letter}
use Rattle.b67_private.specs.Actions.{words_program}
use Rattle.b67_private.specs.Lettered.{words_letter}
use Rattle.b67_action.proofs.Among.{acts_in, has}
use Rattle.b67_action.proofs.Ready.{if_some}
use Rattle.b67_action.proofs.Went.{ok_map}
use Rattle.b67_action.proofs.words.perform_words.Goals as goal

pub returns-clause-acts : goal.returns-clause-acts
returns-clause-acts g c =
    acts_in (g.C.Core.stacks c.args.core.now) (g.C.Core.rows c.args.core.now) c.args.all.now.items c.args.process c.index_mut-regs.result.now c.requires.linked
    c.index_mut-regs.ensures.value (words_program c.args.row) c.args.next (g.C.Core.stacks c.perform.new.core) (g.C.Core.rows c.perform.new.core) c.perform.new.regs
    c.perform.result c.perform.ensures.performs

pub returns-clause-letter : goal.returns-clause-letter
returns-clause-letter g c =
    let st = g.C.Core.stacks c.args.core.now in
    ok_map _ _ c.perform.result
    (λ (l : Letter). if_some (λ r. words_letter c.args.row st r ≡ Some l) (numbered c.args.all.now.items c.args.process) c.index_mut-regs.result.now
    (has st (g.C.Core.rows c.args.core.now) c.args.all.now.items c.args.process c.index_mut-regs.result.now c.requires.linked c.index_mut-regs.ensures.value))
    c.perform.ensures.letter
