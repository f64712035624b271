use Rattle.std.proofs.Common.{◌≡◌, ◌-◌, ◌∙◌, take, pos, refl, rules}
use Rattle.std.proofs.lemmas.List.{take_all}
use Rattle.std.specs.Vec.{vec_len}
use Rattle.b67_word.specs.Word.{operand}
use Rattle.b67_flat.proofs.memory.reach.Goals as goal

pub returns-in_ok-resize-clause-words : goal.returns-in_ok-resize-clause-words
returns-in_ok-resize-clause-words c =
    let kept : take c.args.end c.args.words.now.items ≡ c.args.words.now.items = search (rules, take_all) in
    let zero : c.operand.result ≡ operand (pos 0) = search rules in
    (c.args.end - vec_len c.args.words.now, c.in_ok-resize.ensures.items ∙ rw (kept, zero) refl)
