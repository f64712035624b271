-- A console of a schedule all entries of which can be performed.
use Rattle.std.proofs.Common.{arith, ◌≡◌, ap, sym, ◌∙◌, subst, ℕ, ◌-◌, ◌^◌, ◌<◌, ◌≤◌, List, [], length, Some}
use Rattle.std.specs.Prelude.{slice_get}
use Rattle.std.specs.List.{All, flat_map}
use Rattle.algol_tree.specs.Plain.{PProgram}
use Rattle.algol_tree.specs.Scopes.{scopes_of}
use Rattle.algol_meaning.specs.World.{World}
use Rattle.algol_meaning.specs.Run.{run, start}
use Rattle.b67_segment.specs.declared.TheConstants.{MOST_SEGMENT_WORDS}
use Rattle.b67_segment.specs.declared.code.Code.{Code}
use Rattle.b67_segment.specs.declared.code.Segment.{Segment}
use Rattle.b67_faithful.specs.Faithful.{Faithful}
use Rattle.b67_fronts.specs.Fronts.{GoesThrough, RunsGoThroughAlike}
use Rattle.b67_commands.specs.declared.command.Command.{Command}
use Rattle.b67_commands.specs.Positions.{positions, PositionsAreWithin}
use Rattle.b67_storing.specs.Stores.{stored_by}
use Rattle.b67_storing.proofs.Standing.{length_stored}
use Rattle.b67_stops.specs.Answering.{AreAnswers}
use Rattle.b67_console.specs.Telling.{RunsWhole, ConsoleText}
use Rattle.b67_console.specs.Moments.{most_operators, CommandIsTold}
use Rattle.b67_console.proofs.Assembling.{positions_each, positions_within, text_so}

-- its segments are short
pub segments_short : (tree : PProgram) (code : Code) → Faithful tree code → All (λ (segment : Segment). length segment.words ≤ MOST_SEGMENT_WORDS) code.segments
segments_short tree code faithful = λ k first inside. (faithful.listable.segments k first inside).1.few

-- the entries are at most as many as operators
pub few_entries : RunsGoThroughAlike → (code : Code) (h given : List ℕ) → h ≡ given → GoesThrough code given most_operators → length h < 2 ^ 64 - 1
few_entries alike code h given is through =
    let le : length given ≤ most_operators = (alike code most_operators given through.image through through.run).1 in omega (arith, le, ap length is)

-- they are legal for the source
pub legal_whole : (tree : PProgram) (code : Code) (h : List ℕ) → Faithful tree code → RunsWhole code h → (after : World) × (run tree h ≡ Some after)
legal_whole tree code h faithful whole = let a = faithful.follows.legal h [] whole.image whole.run in (a.world, a.is)

module _ (tree : PProgram) (code : Code) (h given : List ℕ) (commands found : List Command) (at : List ℕ) (is : h ≡ given) (same : found ≡ commands)
    (faithful : Faithful tree code) (whole : RunsWhole code given)
    (places : (after : World) → run tree h ≡ Some after → at ≡ positions (stored_by tree h) 0 found) where
  -- where the commands lead, in what is given
  pub at_is : at ≡ positions (stored_by tree given) 0 commands
  at_is =
      let legal = legal_whole tree code given faithful whole in
      places legal.0 (ap (λ (xs : List ℕ). run tree xs) is ∙ legal.1) ∙ ap (λ (xs : List ℕ). positions (stored_by tree xs) 0 found) is
      ∙ ap (λ (cs : List Command). positions (stored_by tree given) 0 cs) same

  pub at_each : length at ≡ length found
  at_each = ap length at_is ∙ positions_each (stored_by tree given) 0 commands ∙ ap length (sym same)

  pub at_within : PositionsAreWithin → (place here : ℕ) → slice_get at place ≡ Some here → here ≤ length given
  at_within within place here e =
      let le : here ≤ length (stored_by tree given) =
      positions_within within (stored_by tree given) 0 commands place here (omega arith) (sym (ap (λ (xs : List ℕ). slice_get xs place) at_is) ∙ e) in
      omega (arith, le, length_stored (scopes_of tree) (start (scopes_of tree)) given)

  pub console_so :
      PositionsAreWithin → (its : Code) (texts lines : List (List ℕ)) (text : List ℕ) → its ≡ code → AreAnswers (CommandIsTold (scopes_of tree) its) given found at texts → lines ≡ texts
      → text ≡ flat_map (λ (one : List ℕ). one) lines → ConsoleText tree code given commands text
  console_so within its texts lines text kept answers shown joined =
      subst (λ (t : List ℕ). ConsoleText tree code given commands t) (sym (joined ∙ ap (λ (ts : List (List ℕ)). flat_map (λ (one : List ℕ). one) ts) shown))
      (text_so tree code given within commands at texts at_is
      (subst (λ (cs : List Command). AreAnswers (CommandIsTold (scopes_of tree) code) given cs at texts) same
      (subst (λ (k : Code). AreAnswers (CommandIsTold (scopes_of tree) k) given found at texts) kept answers)))
