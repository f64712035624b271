use Rattle.std.proofs.Common.{sym, ◌∙◌}
use Rattle.std.specs.Prelude.{codes}
use Rattle.b67_words.proofs.read_words.Goals as goal
use Rattle.b67_words.proofs.Reading.{none_given_of, unknown_given_of, named, begin_check_whole, begin_list_whole, begin_judge_whole, begin_race_whole, begin_console_whole}

pub returns-in_default : goal.returns-in_default
returns-in_default c = none_given_of _ c.args.words.now (sym c.in_default.ensures.value)

pub returns-in_default-as_str : goal.returns-in_default-as_str
returns-in_default-as_str c =
    unknown_given_of _ c.args.words.now c.in-Some.command.now (sym c.in-Some.ensures.value) (record {
      not_run = λ e. c.in_default-as_str.not-run (c.as_str.ensures.value ∙ e);
      not_check = λ e. c.in_default-as_str.not-check (c.as_str.ensures.value ∙ e);
      not_list = λ e. c.in_default-as_str.not-list (c.as_str.ensures.value ∙ e);
      not_replay = λ e. c.in_default-as_str.not-replay (c.as_str.ensures.value ∙ e);
      not_judge = λ e. c.in_default-as_str.not-judge (c.as_str.ensures.value ∙ e);
      not_race = λ e. c.in_default-as_str.not-race (c.as_str.ensures.value ∙ e);
      not_dump = λ e. c.in_default-as_str.not-dump (c.as_str.ensures.value ∙ e);
      not_console = λ e. c.in_default-as_str.not-console (c.as_str.ensures.value ∙ e);
      not_outcomes = λ e. c.in_default-as_str.not-outcomes (c.as_str.ensures.value ∙ e);
      not_exec = λ e. c.in_default-as_str.not-exec (c.as_str.ensures.value ∙ e);
      not_trial = λ e. c.in_default-as_str.not-trial (c.as_str.ensures.value ∙ e);
    })

pub whole-requires-clause-whole : goal.whole-requires-clause-whole
whole-requires-clause-whole c =
    begin_check_whole _ (named _ c.args.words.now c.in-Some.command.now (codes "check") (sym c.in-Some.ensures.value) (sym c.as_str.ensures.value ∙ c.in-check.is))

pub whole-requires-in-list-clause-whole : goal.whole-requires-in-list-clause-whole
whole-requires-in-list-clause-whole c =
    begin_list_whole _ (named _ c.args.words.now c.in-Some.command.now (codes "list") (sym c.in-Some.ensures.value) (sym c.as_str.ensures.value ∙ c.in-list.is))

pub whole-requires-in-judge-clause-whole : goal.whole-requires-in-judge-clause-whole
whole-requires-in-judge-clause-whole c =
    begin_judge_whole _ (named _ c.args.words.now c.in-Some.command.now (codes "judge") (sym c.in-Some.ensures.value) (sym c.as_str.ensures.value ∙ c.in-judge.is))

pub whole-requires-in-race-clause-whole : goal.whole-requires-in-race-clause-whole
whole-requires-in-race-clause-whole c =
    begin_race_whole _ (named _ c.args.words.now c.in-Some.command.now (codes "race") (sym c.in-Some.ensures.value) (sym c.as_str.ensures.value ∙ c.in-race.is))

pub whole-requires-in-console-clause-whole : goal.whole-requires-in-console-clause-whole
whole-requires-in-console-clause-whole c =
    begin_console_whole _ (named _ c.args.words.now c.in-Some.command.now (codes "console") (sym c.in-Some.ensures.value) (sym c.as_str.ensures.value ∙ c.in-console.is))
