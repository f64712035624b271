use Rattle.std.proofs.Common.{map, Global, arith}
use Rattle.std.specs.String.{string_bytes}
use Rattle.std.proofs.lemmas.List.{length-map}
use Rattle.std.proofs.lemmas.Result.{err_from_is_err_and}
use Rattle.b67_words.proofs.read_run.Goals as goal
use Rattle.b67_words.proofs.Reading.{run_first_broken, run_second_broken, run_rule_broken, run_extra, run_meant}

pub returns-in_err-processors : goal.returns-in_err-processors
returns-in_err-processors c =
    let p = err_from_is_err_and c.from_residual.result c.from_residual.ensures.1 in
    rw (p.1, p.2) (run_first_broken (map (string_bytes {Z = Global}) c.args.words.now) c.in_err-processors.field-0.0 c.requires c.in_err-processors.ensures)

pub returns-in_err-budget : goal.returns-in_err-budget
returns-in_err-budget c =
    let p = err_from_is_err_and c.from_residual-in_err-budget.result c.from_residual-in_err-budget.ensures.1 in
    rw (p.1, p.2) (run_second_broken (map (string_bytes {Z = Global}) c.args.words.now) c.in_ok-processors.processors c.in_err-budget.field-0.0 c.requires c.in_ok-processors.ensures c.in_err-budget.ensures)

pub returns-in_err-rule : goal.returns-in_err-rule
returns-in_err-rule c =
    let p = err_from_is_err_and c.from_residual-in_err-rule.result c.from_residual-in_err-rule.ensures.1 in
    rw (p.1, p.2) (run_rule_broken (map (string_bytes {Z = Global}) c.args.words.now) c.in_ok-processors.processors c.in_ok-budget.budget c.requires c.in_ok-processors.ensures
    c.in_ok-budget.ensures c.in_err-rule.field-0.0 c.in_err-rule.ensures)

pub returns-then-words-gt4 : goal.returns-then-words-gt4
returns-then-words-gt4 c =
    run_extra (map (string_bytes {Z = Global}) c.args.words.now) c.in_ok-processors.processors c.in_ok-budget.budget c.requires c.in_ok-processors.ensures c.in_ok-budget.ensures
    c.in_ok-rule.rule c.in_ok-rule.ensures (rw length-map (omega arith))

pub returns : goal.returns
returns c =
    run_meant (map (string_bytes {Z = Global}) c.args.words.now) c.in_ok-processors.processors c.in_ok-budget.budget c.requires c.in_ok-processors.ensures c.in_ok-budget.ensures
    c.in_ok-rule.rule c.in_ok-rule.ensures (rw length-map (omega arith))
