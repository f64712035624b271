use Rattle.std.proofs.Common.{map, Global}
use Rattle.std.specs.String.{string_bytes}
use Rattle.std.proofs.lemmas.Result.{err_from_is_err_and}
use Rattle.b67_words.proofs.read_outcomes.Goals as goal
use Rattle.b67_words.proofs.Reading.{outcomes_broken, begin_outcomes_whole}

pub returns-in_err-most : goal.returns-in_err-most
returns-in_err-most c =
    let p = err_from_is_err_and c.from_residual.result c.from_residual.ensures.1 in
    rw (p.1, p.2) (outcomes_broken (map (string_bytes {Z = Global}) c.args.words.now) c.in_err-most.field-0.0 c.requires c.in_err-most.ensures)

pub whole-requires-clause-whole : goal.whole-requires-clause-whole
whole-requires-clause-whole c =
    begin_outcomes_whole (map (string_bytes {Z = Global}) c.args.words.now) c.in_ok-most.most c.requires c.in_ok-most.ensures
