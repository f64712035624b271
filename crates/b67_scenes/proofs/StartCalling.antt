-- The call of START: what lies above the floor of the frame.
use Rattle.std.proofs.Common.{◌≡◌, refl, sym, ap, ◌∙◌, subst, ℕ, ◌+◌, ◌<◌, ◌≤◌, ◌^◌, List, [], ◌∷◌, ◌++◌, length, Option, Some, None, arith, append_assoc, length-append}
use Rattle.b67_scenes.proofs.Prelude.{reverse-append, reverse, block_numbered, level_of, PProgram, Scopes, scopes_of, Named, Given, segment_of, Word, Place, as_pcw_pcw_word, Fits_pcw, as_irw, pcw_word, Pcw, Code, word_at, place, gives, most_cells, display_at, frame, Context, code_at, Texts, given_slots, Slot, intrinsic, mark, newest, SlotsAre, FirstDown, Links, AreFit, Taken, taken_words, Top, top_slot, reference_read, pcw_refers_nothing}
use Rattle.std.proofs.lemmas.List.{length-reverse}
use Rattle.b67_ops.specs.declared.intrinsic.Intrinsic.TheVariants.{Start}
use Rattle.b67_table.specs.declared.Cell.{Cell}
use Rattle.b67_table.specs.Program.{asked}
use Rattle.b67_table.specs.Starting.{task_of, frames_with, named_frames}
use Rattle.b67_templates.specs.Cells.{parameter_wants}
use Rattle.b67_standing.specs.Stepping.{reference}
use Rattle.b67_standing.specs.Standing.{IsTask, StartsAt, start_begun}
use Rattle.b67_rows.proofs.GivenWords.{are_fit}
use Rattle.b67_rows.proofs.StartRow.{StartsProcess}
use Rattle.b67_scenes.proofs.Calling.{Lying, IsEntered, entered_with}
use Rattle.b67_scenes.proofs.Scene.{Actor}
use Rattle.b67_scenes.proofs.Staying.{text_in, level_in, context_in, most_in}

-- the slot of a task is no mark
pub task_plain : (sc : Scopes) (context : Context) (task : Option Named) (tasked : Slot) → IsTask sc context task tasked → (home base : ℕ) (below : List Slot) → newest home base (tasked ∷ below) ≡ newest home base below
task_plain sc context None tasked is home base below = ap (λ (t : Slot). newest home base (t ∷ below)) is
task_plain sc context (Some n) tasked is home base below = ap (λ (t : Slot). newest home base (t ∷ below)) is.2

module _ (tree : PProgram) (code : Code) (texts : Texts) (actor : Actor tree code texts) where
  open actor use {w, img, part, core, s}

  module _ (n : Named) (gs : List Given) (task : Option Named) (callee next : ℕ) (below : List Slot)
      (at : StartsAt (scopes_of tree) (context_in tree code texts w part s.stands.frame.gives) (text_in tree texts w part) (level_in tree w part) (most_in tree w part) n gs task callee s.stands.pc next s.stands.slots below) where
    abbrev sc : Scopes
    sc = scopes_of tree

    abbrev level : ℕ
    level = level_in tree w part

    abbrev own : ℕ
    own = frame core.registers

    abbrev base : ℕ
    base = length core.below

    abbrev context : Context
    context = context_in tree code texts w part s.stands.frame.gives

    -- the control word of the procedure's code
    abbrev pub started_code : Pcw
    started_code = code_at (segment_of (scopes_of tree).blocks callee) 0 (level_of (block_numbered (scopes_of tree).blocks callee))

    abbrev after_task : List Slot
    after_task = reference at.couple ∷ intrinsic Start ∷ mark ∷ below

    -- ---- the words

    fit : AreFit sc context (parameter_wants sc callee) gs
    fit = are_fit sc context (parameter_wants sc callee) gs at.fit

    pub given : Taken (scopes_of tree) s.stands.held (level_in tree w part) (frame core.registers) (length core.below) (parameter_wants (scopes_of tree) callee) gs (start_begun at.couple at.tasked below) core.words
    given =
        taken_words sc s.stands.held level own base context fit (start_begun at.couple at.tasked below) core.words
        (subst (λ (l : List Slot). SlotsAre sc s.stands.held level own base l core.words) at.lies s.stands.there.words_are)

    pub task_there : Top (scopes_of tree) s.stands.held (level_in tree w part) (frame core.registers) (length core.below) at.tasked (reference at.couple ∷ intrinsic Start ∷ mark ∷ below) given.others
    task_there = top_slot sc s.stands.held level own base (start_begun at.couple at.tasked below) at.tasked after_task given.others given.are refl

    pub procedure_there : Top (scopes_of tree) s.stands.held (level_in tree w part) (frame core.registers) (length core.below) (reference at.couple) (intrinsic Start ∷ mark ∷ below) task_there.words_below
    procedure_there = top_slot sc s.stands.held level own base after_task (reference at.couple) (intrinsic Start ∷ mark ∷ below) task_there.words_below task_there.are refl

    -- the actuals, the first one first
    abbrev pub parameters : List Word
    parameters = reverse given.arguments

    abbrev pub arguments : List Word
    arguments = given.arguments ++ task_there.word ∷ procedure_there.word ∷ []

    abbrev lying : Lying sc s.stands.held level own base (given_slots (parameter_wants sc callee) gs (start_begun at.couple at.tasked below)) (intrinsic Start ∷ mark ∷ below) core.words
    lying =
        record {
          arguments = arguments;
          others = procedure_there.words_below;
          is = given.is
              ∙ ap (λ (ws : List Word). given.arguments ++ ws) (task_there.is ∙ ap (λ (ws : List Word). task_there.word ∷ ws) procedure_there.is)
              ∙ sym (append_assoc given.arguments (task_there.word ∷ procedure_there.word ∷ []) procedure_there.words_below);
          are = procedure_there.are;
          mark_is = given.mark_is ∙ task_plain sc context task at.tasked at.task_is own base after_task;
          many = omega (arith, given.slots_many, given.many, length-append given.arguments (task_there.word ∷ procedure_there.word ∷ []));
        }

    pub start_entered : IsEntered tree code texts actor Start (given_slots (parameter_wants (scopes_of tree) callee) gs (start_begun at.couple at.tasked below)) below at.lies arguments
    start_entered = entered_with tree code texts actor Start (given_slots (parameter_wants sc callee) gs (start_begun at.couple at.tasked below)) below at.lies lying

    given_first : reverse arguments ≡ procedure_there.word ∷ task_there.word ∷ parameters
    given_first = reverse-append given.arguments (task_there.word ∷ procedure_there.word ∷ [])

    -- ---- what it refers to

    -- The procedure's control word lies in the frame home, from which links lead down these frames; the task's cell; and the first of the frames that
    -- all this refers to on the path down.
    pub record Refers (home : Place) (more : List Place) (cell : Option Cell) (critical : Place) : Type 0 where
      pub shows : display_at core.registers at.couple.level ≡ Some home
      pub lies : word_at img.stacks (record { stack = home.stack; at = home.at + at.couple.index }) ≡ Some (pcw_word started_code)
      pub links : Links img.stacks home more
      pub level_is : level_of (block_numbered (scopes_of tree).blocks callee) ≡ length more + 2
      pub couple_fits : (at.couple.level < 32) × (at.couple.index < 2 ^ 14)
      pub code_fits : Fits_pcw started_code
      pub few : length gs ≤ most_cells
      pub has_task : asked img (task_of core.registers task_there.word) ≡ gives cell
      pub first : FirstDown img (home ∷ frames_with cell (named_frames parameters)) (place core.registers.stack (frame core.registers)) critical

    pub starts_there : (home : Place) (more : List Place) (cell : Option Cell) (critical : Place) → Refers home more cell critical → StartsProcess img core arguments started_code home cell parameters more critical
    starts_there home more cell critical e =
        record {
          procedure = procedure_there.word;
          tasked = task_there.word;
          words = given_first;
          level = at.couple.level;
          index = at.couple.index;
          reads = ap as_irw procedure_there.slot_is ∙ reference_read at.couple e.couple_fits.0 e.couple_fits.1;
          shows = e.shows;
          entry = pcw_word started_code;
          lies = e.lies;
          no_sirw = pcw_refers_nothing started_code;
          reads_entry = as_pcw_pcw_word started_code e.code_fits;
          no_intrinsic = refl;
          has_task = e.has_task;
          few = omega (arith, e.few, given.many, length-reverse given.arguments);
          links = e.links;
          level_is = e.level_is;
          first = e.first;
        }
