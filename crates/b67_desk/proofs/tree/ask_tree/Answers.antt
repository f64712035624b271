use Rattle.std.specs.Prelude.{option_copied}
use Rattle.algol_tree.specs.Image.{program as plain}
use Rattle.b67_words.specs.declared.Task.{Task}
use Rattle.b67_words.specs.declared.Task.TheVariants as tasks
use Rattle.b67_words.specs.declared.Words.TheVariants.{OnSource}
use Rattle.b67_desk.specs.Answers.{AnswersTree}
use Rattle.b67_desk.proofs.Answering.{settled_asks, task_asks}
use Rattle.b67_desk.proofs.tree.ask_tree.Goals as goal

pub returns-in-Run : goal.returns-in-Run
returns-in-Run c =
    task_asks c.args.task (tasks.Run c.in-Run.processors c.in-Run.budget c.in-Run.rule) (option_copied c.args.text) c.args.input (plain c.args.checked.now.program)
    c.ask_run.result c.in-Run.is c.ask_run.ensures

pub returns-in-Check : goal.returns-in-Check
returns-in-Check c =
    let beside = option_copied c.args.text in
    let tree = plain c.args.checked.now.program in
    task_asks c.args.task tasks.Check beside c.args.input tree c.settled.result c.in-Check.is
    (settled_asks (λ by. AnswersTree by (OnSource tasks.Check) beside c.args.input tree) c.accept_source.result c.settled.result c.settled.ensures (λ by. c.accept_source.ensures))

pub returns-in-List : goal.returns-in-List
returns-in-List c =
    let beside = option_copied c.args.text in
    let tree = plain c.args.checked.now.program in
    task_asks c.args.task tasks.List beside c.args.input tree c.settled-in-List.result c.in-List.is
    (settled_asks (λ by. AnswersTree by (OnSource tasks.List) beside c.args.input tree) c.answer_list.result c.settled-in-List.result c.settled-in-List.ensures
    (λ by. c.answer_list.ensures))

pub returns-in-Replay : goal.returns-in-Replay
returns-in-Replay c =
    let beside = option_copied c.args.text in
    let tree = plain c.args.checked.now.program in
    let task : Task = tasks.Replay c.in-Replay.budget in
    task_asks c.args.task task beside c.args.input tree c.settled-in-Replay.result c.in-Replay.is
    (settled_asks (λ by. AnswersTree by (OnSource task) beside c.args.input tree) c.answer_replay.result c.settled-in-Replay.result c.settled-in-Replay.ensures
    (λ by. c.answer_replay.ensures))

pub returns-in-Judge : goal.returns-in-Judge
returns-in-Judge c =
    let beside = option_copied c.args.text in
    let tree = plain c.args.checked.now.program in
    task_asks c.args.task tasks.Judge beside c.args.input tree c.settled-in-Judge.result c.in-Judge.is
    (settled_asks (λ by. AnswersTree by (OnSource tasks.Judge) beside c.args.input tree) c.answer_judge.result c.settled-in-Judge.result c.settled-in-Judge.ensures
    (λ by. c.answer_judge.ensures))

pub returns-in-Race : goal.returns-in-Race
returns-in-Race c =
    let beside = option_copied c.args.text in
    let tree = plain c.args.checked.now.program in
    task_asks c.args.task tasks.Race beside c.args.input tree c.settled-in-Race.result c.in-Race.is
    (settled_asks (λ by. AnswersTree by (OnSource tasks.Race) beside c.args.input tree) c.answer_race.result c.settled-in-Race.result c.settled-in-Race.ensures
    (λ by. c.answer_race.ensures))

pub returns-in-Dump : goal.returns-in-Dump
returns-in-Dump c =
    let beside = option_copied c.args.text in
    let tree = plain c.args.checked.now.program in
    let task : Task = tasks.Dump c.in-Dump.entries in
    task_asks c.args.task task beside c.args.input tree c.settled-in-Dump.result c.in-Dump.is
    (settled_asks (λ by. AnswersTree by (OnSource task) beside c.args.input tree) c.answer_dump.result c.settled-in-Dump.result c.settled-in-Dump.ensures
    (λ by. c.answer_dump.ensures))

pub returns-in-Console : goal.returns-in-Console
returns-in-Console c =
    let beside = option_copied c.args.text in
    let tree = plain c.args.checked.now.program in
    task_asks c.args.task tasks.Console beside c.args.input tree c.settled-in-Console.result c.in-Console.is
    (settled_asks (λ by. AnswersTree by (OnSource tasks.Console) beside c.args.input tree) c.answer_console.result c.settled-in-Console.result c.settled-in-Console.ensures
    (λ by. c.answer_console.ensures))

pub returns-in-Outcomes : goal.returns-in-Outcomes
returns-in-Outcomes c =
    let beside = option_copied c.args.text in
    let tree = plain c.args.checked.now.program in
    let task : Task = tasks.Outcomes c.in-Outcomes.most in
    task_asks c.args.task task beside c.args.input tree c.settled-in-Outcomes.result c.in-Outcomes.is
    (settled_asks (λ by. AnswersTree by (OnSource task) beside c.args.input tree) c.answer_outcomes.result c.settled-in-Outcomes.result c.settled-in-Outcomes.ensures
    (λ by. c.answer_outcomes.ensures))
