-- ENTR on START: a process is begun, or there are as many as there may be.
use Rattle.std.proofs.Common.{◌≡◌, ◌≢◌, refl, sym, ap, ◌∙◌, ℕ, ◌+◌, ◌<◌, ◌≤◌, List, [], ◌∷◌, length, take, Option, Some, None, Bool, true, false, Ok, arith}
use Rattle.b67_list.proofs.Numbers.{ltb_less, ltb_not_less}
use Rattle.b67_rows.proofs.Prelude.{if◌then◌else◌, nat_lt, nat_le, reverse, pos, Word, Place, as_irw, as_sirw, as_pcw, event_word, place_at, Irw, Pcw, Registers, Sirw, Couple, Code, opened_others, words_of, words_or, word_at, with_stack, if_chained, finished_at, place, linked, chain_broken, Effect, gives, faults, Image, with_stacks, with_registers, most_cells, entered_mark, ◌>->◌, valid, look_seen, display_at, frame, at_or, reference, Test, answer, interrupt, fault, Program, effect_of, asked, see, ◌>>=◌, told, cell_place, cell_in, irw_or_sirw, reached, reached_in, one_sirw, on_path, Cell, Reached, see_found, Core, IsCore, with_core, stack_of}
use Rattle.std.specs.Prelude.{ℤ}
use Rattle.b67_num.specs.declared.FaultKind.TheVariants.{ProcessLimit}
use Rattle.b67_word.specs.Word.{as_whole, is_whole}
use Rattle.b67_control.specs.declared.EventWord.{EventWord}
use Rattle.b67_control.specs.Control.{irw_word}
use Rattle.b67_events.specs.Events.{is_open}
use Rattle.b67_ops.specs.declared.Operator.TheVariants as ops
use Rattle.b67_ops.specs.declared.PlainKind.TheVariants as kinds
use Rattle.b67_ops.specs.declared.intrinsic.Intrinsic.TheVariants.{Start}
use Rattle.b67_table.specs.Arguments.{no_such, if_open, reached_event_in, event_of}
use Rattle.b67_table.specs.Limits.{most_processes}
use Rattle.b67_table.specs.Linkage.{base_control}
use Rattle.b67_table.specs.Program.{ask, change_start, started, test_is_event}
use Rattle.b67_table.specs.Starting.{task_in, task_of, frames_with, named_frames, Starting, starting, first_display, first_words, process_begun, start_process}
use Rattle.b67_table.specs.Table.{raw}
use Rattle.b67_rows.proofs.Begun.{with_process, core_of, core_beside, numbered_few}
use Rattle.b67_rows.proofs.CriticalRow.{FirstDown, critical_found}
use Rattle.b67_rows.proofs.Displays.{Links, shown, linked_seen, shown_top}
use Rattle.b67_rows.proofs.IntrinsicRows.{CallsIntrinsic, without_call, entered, chained_asked, cut_words}
use Rattle.b67_rows.proofs.StoreRow.{most_is}
use Rattle.b67_rows.proofs.Words.{event_read, event_refers_nothing}
use Rattle.b67_rows.proofs.AtOperator.{AtOperator}

-- ---- tests, one after another

same_given : {A : Type 0} (x a : A) → ◌≡◌ {A = Effect A} (gives x) (gives a) → x ≡ a
same_given x a e = cc

-- what a test answers goes to what comes after
pub then_asked : {A B : Type 0} (img : Image) (t : Test A) (a : A) (next : A → Test B) → asked img t ≡ gives a → asked img (t >>= next) ≡ asked img (next a)
then_asked {A} img (answer x) a next e = ap (λ (y : A). asked img (next y)) (same_given x a e)
then_asked img (interrupt kind) a next e = cc
then_asked img (fault kind) a next e = cc
then_asked img (ask q more) a next e = then_asked img (more (told img q)) a next e

-- ---- the task

pub reference_no_number : (c : Couple) → as_whole (reference c) ≡ None
unfolding as_whole is_whole irw_word
reference_no_number c = refl

module _ (img : Image) (r : Registers) (w : Word) where
  -- the operand 0 stands for none
  pub no_task : as_whole w ≡ Some (pos 0) → asked img (task_of r w) ≡ gives None
  no_task e = ap (λ (z : Option ℤ). asked img (task_in z r w)) e

  pub task_there : (c : Cell) → as_whole w ≡ None → asked img (event_of r w) ≡ gives c → asked img (task_of r w) ≡ gives (Some c)
  task_there c none there =
      ap (λ (z : Option ℤ). asked img (task_in z r w)) none
      ∙ then_asked img (event_of r w) c (λ (d : Cell). answer (Some d)) there

  -- the reference of a declared event that is open
  pub declared_event : (c : Cell) (level : ℕ) → as_irw w ≡ Some (record { level = level; index = c.index }) → display_at r level ≡ Some c.frame → word_at img.stacks (cell_place c) ≡ Some (event_word (record {})) →
      is_open (cell_place c) img.events ≡ true → asked img (event_of r w) ≡ gives c
  declared_event c level names shows lies there =
      ap (λ (o : Option Irw). asked img (see (reached (irw_or_sirw r o (as_sirw w))) >>= reached_event_in)) names
      ∙ ap (λ (o : Option Place). asked img (see (reached (cell_in o c.index)) >>= reached_event_in)) shows
      ∙ ap (λ (o : Option Word). asked img (see (reached_in c o >-> (λ (v : Reached). one_sirw (as_sirw v.word) v)) >>= reached_event_in)) lies
      ∙ ap (λ (o : Option Sirw). asked img (see (one_sirw o (record { word = event_word (record {}); cell = c })) >>= reached_event_in)) event_refers_nothing
      ∙ ap (λ (o : Option EventWord). asked img (see (valid o) >>= (λ (e : EventWord). test_is_event (cell_place c) (λ (b : Bool). if_open b c)))) event_read
      ∙ ap (λ (b : Bool). asked img (if_open b c)) there

-- ---- what START is given

-- The words above the reference of START: that of the control word of a procedure, which lies in the frame home, a task, and actuals. From home
-- links lead down these frames. The critical frame is the first of those that all this refers to, on the path down from the starter's.
pub record StartsProcess (img : Image) (core : Core) (arguments : List Word) (pcw : Pcw) (home : Place) (task : Option Cell) (parameters : List Word) (more : List Place) (critical : Place) : Type 0 where
  pub procedure : Word
  pub tasked : Word
  pub words : reverse arguments ≡ procedure ∷ tasked ∷ parameters
  pub level : ℕ
  pub index : ℕ
  pub reads : as_irw procedure ≡ Some (record { level = level; index = index })
  pub shows : display_at core.registers level ≡ Some home
  pub entry : Word
  pub lies : word_at img.stacks (record { stack = home.stack; at = home.at + index }) ≡ Some entry
  pub no_sirw : as_sirw entry ≡ None
  pub reads_entry : as_pcw entry ≡ Some pcw
  pub no_intrinsic : pcw.intrinsic ≡ false
  pub has_task : asked img (task_of core.registers tasked) ≡ gives task
  pub few : length parameters ≤ most_cells
  pub links : Links img.stacks home more
  pub level_is : pcw.level ≡ length more + 2
  pub first : FirstDown img (home ∷ frames_with task (named_frames parameters)) (place core.registers.stack (frame core.registers)) critical

-- what is started
abbrev pub starting_of : Pcw → Place → Option Cell → List Word → Starting
starting_of pcw home task parameters = record { procedure = pcw; home = home; task = task; parameters = parameters }

-- the registers with which a process of this number begins, and the words of its stack
abbrev pub begins_with : ℕ → Pcw → Place → Option Cell → List Word → List Place → Place → Registers
begins_with n pcw home task parameters more critical = process_begun n (starting_of pcw home task parameters) (shown (place n 0) more) (Some critical)

abbrev pub first_stack : Pcw → Place → List Word → List Word
first_stack pcw home parameters = entered_mark home 0 ∷ base_control pcw.level ∷ parameters

-- they are a core: its floor lies above the parameters
pub begins_is : (n : ℕ) (pcw : Pcw) (home : Place) (task : Option Cell) (parameters : List Word) (more : List Place) (critical : Place) → pcw.level ≡ length more + 2 →
    IsCore (core_of (begins_with n pcw home task parameters more critical) (first_stack pcw home parameters))
begins_is n pcw home task parameters more critical level =
    let own : frame (begins_with n pcw home task parameters more critical) ≡ 0 =
    ap at_or (ap (λ (l : ℕ). place_at (shown (place n 0) more) l) level ∙ shown_top (place n 0) more) in
    record { bottom = omega (arith, own); top = omega arith }

module _ (code : Code) (here : AtOperator code (ops.Plain kinds.Entr)) (arguments : List Word) (reference marked : Word) (below : List Word) (c : CallsIntrinsic here.img here.core Start arguments reference marked below)
    (pcw : Pcw) (home : Place) (task : Option Cell) (parameters : List Word) (more : List Place) (critical : Place) (e : StartsProcess here.img here.core arguments pcw home task parameters more critical) where
  open here use {img, p, core, has, next}

  abbrev r : Registers
  r = core.registers

  abbrev number : ℕ
  number = img.started + 1

  abbrev tested : Program → Effect Image
  tested t = effect_of p img (asked img t)

  abbrev given : Starting
  given = starting_of pcw home task parameters

  -- ---- what is given

  abbrev cell : Cell
  cell = record { frame = home; index = e.index }

  abbrev with_task : Place → Pcw → Option Cell → Test Starting
  with_task h x t = if nat_le (length parameters) most_cells then answer (starting_of x h t parameters) else no_such

  abbrev on_pcw : Place → Pcw → Test Starting
  on_pcw h x = task_of r e.tasked >>= with_task h x

  abbrev on_reached : Reached → Test Starting
  on_reached v = see (valid (as_pcw v.word)) >>= on_pcw v.cell.frame

  given_asked : asked img (starting r (e.procedure ∷ e.tasked ∷ parameters)) ≡ gives given
  given_asked =
      ap (λ (i : Option Irw). asked img (see (reached (irw_or_sirw r i (as_sirw e.procedure))) >>= on_reached)) e.reads
      ∙ ap (λ (o : Option Place). asked img (see (reached (cell_in o e.index)) >>= on_reached)) e.shows
      ∙ ap (λ (o : Option Word). asked img (see (reached_in cell o >-> (λ (v : Reached). one_sirw (as_sirw v.word) v)) >>= on_reached)) e.lies
      ∙ ap (λ (o : Option Sirw). asked img (see (one_sirw o (record { word = e.entry; cell = cell })) >>= on_reached)) e.no_sirw
      ∙ ap (λ (o : Option Pcw). asked img (see (valid o) >>= on_pcw home)) e.reads_entry
      ∙ then_asked img (task_of r e.tasked) task (with_task home pcw) e.has_task
      ∙ ap (λ (b : Bool). asked img (if b then answer given else no_such)) (most_is (length parameters) most_cells e.few)

  -- ---- the display and the critical frame

  display_seen : look_seen img.stacks (first_display number given) ≡ Ok (shown (place number 0) more)
  display_seen =
      ap (λ (b : Bool). look_seen img.stacks (if b then chain_broken else linked (place number 0) home pcw.level)) e.no_intrinsic
      ∙ linked_seen (place number 0) home more pcw.level e.links e.level_is

  abbrev referred : List Place
  referred = home ∷ frames_with task (named_frames parameters)

  path_asked : asked img (on_path r.stack referred (place r.stack (frame r))) ≡ gives (Some critical)
  path_asked = critical_found img referred r.stack (place r.stack (frame r)) critical e.first some (omega arith)
    where
      some : 1 ≤ r.stack
      some = omega (arith, has.own, (numbered_few img.regs p r has.registers).0)

  -- ---- the row

  abbrev limited : List (Option Place) → Option Place → Bool → Program
  limited display depends few = if few then answer (change_start (process_begun number given display depends) (first_words given) (finished_at r c.m [] next)) else fault ProcessLimit

  abbrev on_critical : List (Option Place) → Option Place → Program
  on_critical display depends = limited display depends (nat_lt img.started most_processes)

  abbrev on_display : List (Option Place) → Program
  on_display display = on_path r.stack referred (place r.stack (frame r)) >>= on_critical display

  abbrev on_started : Starting → ℕ → Program
  on_started t n =
      see (first_display (n + 1) t) >>= (λ (display : List (Option Place)).
      on_path r.stack (t.home ∷ frames_with t.task (named_frames t.parameters)) (place r.stack (frame r)) >>= (λ (depends : Option Place).
      if nat_lt n most_processes then answer (change_start (process_begun (n + 1) t display depends) (first_words t) (finished_at r c.m [] next)) else fault ProcessLimit))

  abbrev on_given : Starting → Program
  on_given t = if_chained r c.m (started (on_started t))

  row_tested : raw code img p ≡ tested (limited (shown (place number 0) more) (Some critical) (nat_lt img.started most_processes))
  row_tested =
      entered code here Start arguments reference marked below c
      ∙ ap (λ (ws : List Word). tested (start_process code r next c.m ws)) e.words
      ∙ ap (effect_of p img)
      (then_asked img (starting r (e.procedure ∷ e.tasked ∷ parameters)) given on_given given_asked
      ∙ chained_asked code here Start arguments reference marked below c (started (on_started given))
      ∙ see_found img (first_display number given) (shown (place number 0) more) on_display display_seen
      ∙ then_asked img (on_path r.stack referred (place r.stack (frame r))) (Some critical) (on_critical (shown (place number 0) more)) path_asked)

  -- there are as many processes as there may be
  pub start_limit : most_processes ≤ img.started → raw code img p ≡ faults ProcessLimit
  start_limit full =
      row_tested
      ∙ ap (λ (b : Bool). tested (limited (shown (place number 0) more) (Some critical) b)) (ltb_not_less img.started most_processes full)

  abbrev begins : Registers
  begins = begins_with number pcw home task parameters more critical

  abbrev new : Image
  new = with_process img begins (first_stack pcw home parameters)

  -- or the process is begun, and the mark and all above it give way
  pub start_raw : img.started < most_processes → core.registers.stack ≤ img.started →
      raw code img p ≡ gives (with_process (with_core img p (without_call core below c.m.df next)) (begins_with (img.started + 1) pcw home task parameters more critical) (first_stack pcw home parameters))
  start_raw few old =
      row_tested
      ∙ ap (λ (b : Bool). tested (limited (shown (place number 0) more) (Some critical) b)) (ltb_less img.started most_processes few)
      ∙ ap (λ (ws : List Word). gives (with_registers (with_stacks new (with_stack new.stacks r.stack (take r.f ws))) p (without_call core below c.m.df next).registers)) same_words
      ∙ ap (λ (ws : List Word). gives (with_registers (with_stacks new (with_stack new.stacks r.stack ws)) p (without_call core below c.m.df next).registers))
      (cut_words code here Start arguments reference marked below c)
      ∙ ap (λ (i : Image). gives i) (core_beside img begins (first_stack pcw home parameters) p (without_call core below c.m.df next) (stack_of core) core.registers has.stack has.registers apart)
    where
      apart : number ≢ r.stack
      apart same = absurd (omega (arith, same, old))

      same_words : words_of new.stacks r.stack ≡ words_of img.stacks r.stack
      same_words = ap words_or (opened_others img.stacks number r.stack (first_stack pcw home parameters) (λ same. apart (sym same)))
