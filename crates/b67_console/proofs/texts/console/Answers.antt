use Rattle.std.proofs.Common.{◌≡◌, ap, sym, ◌∙◌, subst, ℕ, List, length}
use Rattle.std.specs.Prelude.{slice_get}
use Rattle.algol_tree.specs.Image.{program}
use Rattle.algol_tree.specs.Scopes.{scopes_of}
use Rattle.b67_schedule.specs.Giving.{given_entries}
use Rattle.b67_schedule.specs.Schedules.{entries}
use Rattle.b67_segment.specs.declared.code.Code.{Code}
use Rattle.b67_table.specs.Sound.{Sound}
use Rattle.b67_fronts.specs.Fronts.{GoesThrough}
use Rattle.b67_machine.proofs.Loading.{none_in}
use Rattle.b67_stops.specs.Answering.{AreAnswers}
use Rattle.b67_console.specs.Moments.{most_operators, CommandIsTold}
use Rattle.b67_console.proofs.Together.{goes_through}
use Rattle.b67_console.proofs.Whole.{segments_short, few_entries, legal_whole, at_each, at_within, console_so}
use Rattle.b67_console.proofs.texts.console.Goals as goal

pub positions_of-requires : goal.positions_of-requires
positions_of-requires c =
    record {
      few = few_entries c.runs_go_through_alike.ensures c.args.code (entries c.runs_of.result.now) (given_entries c.args.given.now) c.runs_of.ensures
          (goes_through c.args.code (given_entries c.args.given.now) c.requires.whole);
    }

pub load-requires-clause-stacks : goal.load-requires-clause-stacks
load-requires-clause-stacks c = none_in _ c.new.ensures.stacks

pub load-requires-clause-rows : goal.load-requires-clause-rows
load-requires-clause-rows c = none_in _ c.new.ensures.rows

pub load-requires-clause-segments : goal.load-requires-clause-segments
load-requires-clause-segments c = segments_short (program c.args.checked.now.program) c.args.code c.requires.faithful

pub tell_all-requires : goal.tell_all-requires
tell_all-requires c =
    let tree = program c.args.checked.now.program in
    let h = entries c.runs_of.result.now in
    let given = given_entries c.args.given.now in
    let kept : c.in_ok-machine.machine.code ≡ c.args.code = c.in_ok-machine.ensures.code in
    let found : c.as_slice-commands.result.now ≡ c.args.commands.now = c.as_slice-commands.ensures.value ∙ c.items.ensures in
    let whole = c.requires.whole in
    let faithful = c.requires.faithful in
    record {
      runs = c.requires.runs;
      fresh = c.in_ok-machine.ensures.fresh c.new.ensures.stacks c.new.ensures.rows;
      sound = subst Sound (sym kept) faithful.follows.sound;
      goes = subst (λ (k : Code). GoesThrough k given most_operators) (sym kept) (goes_through c.args.code given whole);
      legal = legal_whole tree c.args.code given faithful whole;
      places =
          ap length c.as_slice.ensures.value
          ∙ at_each tree c.args.code h given c.args.commands.now c.as_slice-commands.result.now c.in_ok-at.at.items c.runs_of.ensures found faithful whole c.in_ok-at.ensures;
      within = λ place here e.
          at_within tree c.args.code h given c.args.commands.now c.as_slice-commands.result.now c.in_ok-at.at.items c.runs_of.ensures found faithful whole c.in_ok-at.ensures
          c.positions_are_within.ensures place here (ap (λ (xs : List ℕ). slice_get xs place) (sym c.as_slice.ensures.value) ∙ e);
    }

pub returns : goal.returns
returns c =
    let tree = program c.args.checked.now.program in
    let h = entries c.runs_of.result.now in
    let given = given_entries c.args.given.now in
    let found : c.as_slice-commands.result.now ≡ c.args.commands.now = c.as_slice-commands.ensures.value ∙ c.items.ensures in
    console_so tree c.args.code h given c.args.commands.now c.as_slice-commands.result.now c.in_ok-at.at.items c.runs_of.ensures found c.requires.faithful c.requires.whole c.in_ok-at.ensures
    c.positions_are_within.ensures c.in_ok-machine.machine.code c.in_ok-texts.texts.items c.as_slice-2.result.now c.in_ok-text.text.items c.in_ok-machine.ensures.code
    (subst (λ (xs : List ℕ). AreAnswers (CommandIsTold (scopes_of tree) c.in_ok-machine.machine.code) given c.as_slice-commands.result.now xs c.in_ok-texts.texts.items) c.as_slice.ensures.value
    c.in_ok-texts.ensures) c.as_slice-2.ensures.value c.in_ok-text.ensures
