-- ENTR on the intrinsics of events: an event is made, told, or acted on.
use Rattle.std.proofs.Common.{◌≡◌, sym, ap, ◌∙◌, ℕ, ◌+◌, ◌-◌, List, [], ◌∷◌, ◌++◌, Option, Some, Bool, true, append-nil}
use Rattle.b67_frames.proofs.Prelude.{reverse-reverse, reverse, numbered, EventDeed, Word, Place, as_irw, as_sirw, event_word, Irw, Registers, Sirw, Intrinsic, Code, word_at, with_stack, is_open, event_opened, event_of, if_chained, finished_at, place, Effect, gives, Image, with_stacks, with_registers, with_events, Look, ◌>->◌, valid, pushed, display_at, Change, Program, answer, asked, changed, effect_of, see, ◌>>=◌, done, registers, event_deed, cell_place, irw_or_sirw, enter, raw, Core, stack_of, with_core, AtOperator, CallsIntrinsic, entered_asked, entered, chained_asked, chained_is, cut_words, raw_is, stack_over, pushed_do}
use Rattle.b67_word.specs.Word as words
use Rattle.b67_control.specs.declared.EventWord.{EventWord}
use Rattle.b67_events.specs.Events.{state_at, deed_at}
use Rattle.b67_ops.specs.declared.Operator.TheVariants as ops
use Rattle.b67_ops.specs.declared.PlainKind.TheVariants as kinds
use Rattle.b67_ops.specs.declared.intrinsic.Intrinsic.TheVariants.{Event}
use Rattle.b67_table.specs.declared.Cell.{Cell}
use Rattle.b67_table.specs.declared.Reached.{Reached}
use Rattle.b67_table.specs.Arguments.{IntrinsicRow, if_open, reached_event_in}
use Rattle.b67_table.specs.Intrinsics.{on_event, tell_event, row_of_intrinsic}
use Rattle.b67_table.specs.Program.{write, event_answer, test_is_event}
use Rattle.b67_table.specs.References.{cell_in, reached, reached_in, one_sirw, no_second}
use Rattle.b67_table.specs.Rows.{row}
use Rattle.b67_letters.specs.Releases.{effect_releases, fetched_releases, registers_releases}
use Rattle.b67_table.specs.Writes as writes
use Rattle.b67_table.specs.Writes.{with_deed}
use Rattle.b67_deeds.specs.declared.EventTest.{EventTest}
use Rattle.b67_deeds.specs.Deeds.{tests, answers}
use Rattle.b67_rows.proofs.IntrinsicRows.{without_call}
use Rattle.b67_rows.proofs.Words.{event_read, event_refers_nothing}
use Rattle.b67_frames.proofs.MakingRow.{with_descriptors}

-- ---- an event is made

module _ (code : Code) (standing : AtOperator code (ops.Plain kinds.Entr)) (reference marked : Word) (below : List Word) (none : below ≡ []) (c : CallsIntrinsic standing.img standing.core Event [] reference marked below) where
  open standing use {img, p, core, has, next}

  abbrev r : Registers
  r = core.registers

  abbrev here : Place
  here = place r.stack r.f

  abbrev after : Image
  after = with_events img (event_opened (place core.registers.stack core.registers.f) img.events)

  abbrev made : List Word
  made = event_word (record {}) ∷ []

  abbrev new : Core
  new = with_descriptors core (event_word (record {}) ∷ []) c.m.df next

  abbrev with_words : List Word → Effect Image
  with_words ws = gives (with_registers (with_stacks after (with_stack img.stacks r.stack ws)) p new.registers)

  -- it is there_open at the mark's place, where its word lies in place of the call
  pub event_raw : raw code img p ≡ gives (with_core (with_events img (event_opened (place core.registers.stack core.registers.f) img.events)) p (with_descriptors core (event_word (record {}) ∷ []) c.m.df next))
  event_raw =
      entered code standing Event [] reference marked below c
      ∙ chained_is code standing Event [] reference marked below c (answer (write (writes.open_event here) (finished_at r c.m made next)))
      ∙ ap (λ (ws : List Word). gives (changed p (pushed r.stack made (registers new.registers done)) (with_stacks after (with_stack img.stacks r.stack ws))))
      (cut_words code standing Event [] reference marked below c)
      ∙ ap (λ (o : Image). gives o) (pushed_do p after r.stack (stack_of core) has.stack made (core.below ++ reverse below) (registers new.registers done))
      ∙ ap (λ (ws : List Word). with_words ((core.below ++ reverse ws) ++ made)) none
      ∙ ap with_words (ap (λ (ws : List Word). ws ++ made) (append-nil core.below) ∙ ap (λ (ws : List Word). core.below ++ ws) (sym (reverse-reverse made)))

-- ---- what a reference to an event reaches

-- The reference names this cell, which has the word of an event, or one that has a reference to this cell.
pub data FindsEvent (img : Image) (p : ℕ) (r : Registers) (word : Word) (c : Cell) : Type 0 where
  directly : (level : ℕ) → as_irw word ≡ Some (record { level = level; index = c.index }) → display_at r level ≡ Some c.frame → word_at img.stacks (cell_place c) ≡ Some (event_word (record {})) →
      FindsEvent img p r word c
  by_reference : (level index : ℕ) (home : Place) (first : Word) → as_irw word ≡ Some (record { level = level; index = index }) → display_at r level ≡ Some home →
      word_at img.stacks (place home.stack (home.at + index)) ≡ Some first → as_sirw first ≡ Some (record { stack = c.frame.stack; displacement = c.frame.at; index = c.index }) →
      word_at img.stacks (cell_place c) ≡ Some (event_word (record {})) → FindsEvent img p r word c

module _ (code : Code) (img : Image) (p : ℕ) (r : Registers) (word : Word) where
  abbrev tested : Program → Effect Change
  tested t = asked img t

  abbrev on_reached : (Cell → Program) → Look Reached → Program
  on_reached goes l = see l >>= reached_event_in >>= goes

  -- the cell of an event that is there_open
  open_there : (c : Cell) (goes : Cell → Program) → is_open (cell_place c) img.events ≡ true → tested (reached_event_in (record { word = event_word (record {}); cell = c }) >>= goes) ≡ tested (goes c)
  open_there c goes there_open =
      ap (λ (o : Option EventWord). tested (see (valid o) >>= (λ (e : EventWord). test_is_event (cell_place c) (λ (b : Bool). if_open b c)) >>= goes)) event_read
      ∙ ap (λ (b : Bool). tested (if_open b c >>= goes)) there_open

  pub event_reached : (c : Cell) → FindsEvent img p r word c → (goes : Cell → Program) → is_open (cell_place c) img.events ≡ true → asked img (event_of r word >>= goes) ≡ asked img (goes c)
  event_reached c (directly level names shown lies) goes there_open =
      ap (λ (o : Option Irw). tested (on_reached goes (reached (irw_or_sirw r o (as_sirw word))))) names
      ∙ ap (λ (o : Option Place). tested (on_reached goes (reached (cell_in o c.index)))) shown
      ∙ ap (λ (o : Option Word). tested (on_reached goes (reached_in c o >-> (λ (w : Reached). one_sirw (as_sirw w.word) w)))) lies
      ∙ ap (λ (o : Option Sirw). tested (on_reached goes (one_sirw o (record { word = event_word (record {}); cell = c })))) event_refers_nothing
      ∙ open_there c goes there_open
  event_reached c (by_reference level index home first names shown lies refers there) goes there_open =
      ap (λ (o : Option Irw). tested (on_reached goes (reached (irw_or_sirw r o (as_sirw word))))) names
      ∙ ap (λ (o : Option Place). tested (on_reached goes (reached (cell_in o index)))) shown
      ∙ ap (λ (o : Option Word). tested (on_reached goes (reached_in (record { frame = home; index = index }) o >-> (λ (w : Reached). one_sirw (as_sirw w.word) w)))) lies
      ∙ ap (λ (o : Option Sirw). tested (on_reached goes (one_sirw o (record { word = first; cell = record { frame = home; index = index } })))) refers
      ∙ ap (λ (o : Option Word). tested (on_reached goes (reached_in c o >-> (λ (v : Reached). no_second (as_sirw v.word) v)))) there
      ∙ ap (λ (o : Option Sirw). tested (on_reached goes (no_second o (record { word = event_word (record {}); cell = c })))) event_refers_nothing
      ∙ open_there c goes there_open

-- ---- an event is told, or acted on

module _ (code : Code) (here : AtOperator code (ops.Plain kinds.Entr)) (name : Intrinsic) (word reference marked : Word) (below : List Word) (c : CallsIntrinsic here.img here.core name (word ∷ []) reference marked below)
    (cell : Cell) (reaches : FindsEvent here.img here.p here.core.registers word cell) (there_open : is_open (cell_place cell) here.img.events ≡ true) where
  open here use {img, p, core, has, next, there}

  abbrev pub acted_on : EventDeed → Change
  acted_on x = event_deed x (cell_place cell) (finished_at core.registers c.m [] next)

  -- the mark and what lies above it give way, after what is done with the event
  pub acted_asked : (x : EventDeed) → row_of_intrinsic name ≡ on_event x →
      asked img (enter code core.registers next) ≡ gives (event_deed x (cell_place cell) (finished_at core.registers c.m [] next))
  acted_asked x is =
      entered_asked code here name (word ∷ []) reference marked below c
      ∙ ap (λ (row : IntrinsicRow). asked img (row code core.registers next c.m (word ∷ []))) is
      ∙ event_reached code img p core.registers word cell reaches
      (λ (d : Cell). if_chained core.registers c.m (answer (event_deed x (cell_place d) (finished_at core.registers c.m [] next)))) there_open
      ∙ chained_asked code here name (word ∷ []) reference marked below c (answer (acted_on x))

  event_acted : (x : EventDeed) → row_of_intrinsic name ≡ on_event x → raw code img p ≡ gives (changed p (acted_on x) img)
  unfolding row
  event_acted x is = raw_is code (ops.Plain kinds.Entr) here ∙ ap (effect_of p img) (acted_asked x is)

  -- whom it releases
  pub acted_releases : (x : EventDeed) → row_of_intrinsic name ≡ on_event x →
      registers_releases code img p (numbered img.regs p) ≡ (deed_at x p (cell_place cell) img.events).frees
  unfolding row
  acted_releases x is =
      ap (registers_releases code img p) has.registers
      ∙ ap (fetched_releases code img p core.registers) there
      ∙ ap (effect_releases p img) (acted_asked x is)
      ∙ append-nil ((deed_at x p (cell_place cell) img.events).frees)

  -- what the event answers comes in their place
  abbrev told_there : EventTest → Bool
  told_there x = answers x (state_at (cell_place cell) img.events)

  -- asking it is a deed as well
  abbrev told_so : EventTest → Bool → Program
  told_so x told = answer (event_deed (tests x) (cell_place cell) (finished_at core.registers c.m (words.truth told ∷ []) next))

  told_asked : (x : EventTest) → row_of_intrinsic name ≡ tell_event x →
      asked img (enter code core.registers next) ≡ gives (event_deed (tests x) (cell_place cell) (finished_at core.registers c.m (words.truth (told_there x) ∷ []) next))
  told_asked x is =
      entered_asked code here name (word ∷ []) reference marked below c
      ∙ ap (λ (row : IntrinsicRow). asked img (row code core.registers next c.m (word ∷ []))) is
      ∙ event_reached code img p core.registers word cell reaches
      (λ (d : Cell). if_chained core.registers c.m (event_answer x (cell_place d)
      (λ (told : Bool). answer (event_deed (tests x) (cell_place d) (finished_at core.registers c.m (words.truth told ∷ []) next))))) there_open
      ∙ chained_asked code here name (word ∷ []) reference marked below c (event_answer x (cell_place cell) (told_so x))

  event_told : (x : EventTest) → row_of_intrinsic name ≡ tell_event x →
      raw code img p ≡ gives (changed p (event_deed (tests x) (cell_place cell) (finished_at core.registers c.m (words.truth (told_there x) ∷ []) next)) img)
  unfolding row
  event_told x is = raw_is code (ops.Plain kinds.Entr) here ∙ ap (effect_of p img) (told_asked x is)

  -- whom that releases
  pub told_releases : (x : EventTest) → row_of_intrinsic name ≡ tell_event x →
      registers_releases code img p (numbered img.regs p) ≡ (deed_at (tests x) p (cell_place cell) img.events).frees
  unfolding row
  told_releases x is =
      ap (registers_releases code img p) has.registers
      ∙ ap (fetched_releases code img p core.registers) there
      ∙ ap (effect_releases p img) (told_asked x is)
      ∙ append-nil ((deed_at (tests x) p (cell_place cell) img.events).frees)

  -- ---- the image after it

  abbrev r' : Registers
  r' = core.registers

  abbrev at : Place
  at = cell_place cell

  -- what is done changes no word and no registers of others
  pub acted_raw : (x : EventDeed) → row_of_intrinsic name ≡ on_event x →
      raw code img p ≡ gives (with_deed (deed_at x p (cell_place cell) img.events) (cell_place cell) p (with_core img p (without_call core below c.m.df next)))
  acted_raw x is =
      event_acted x is
      ∙ ap (λ (ws : List Word). gives (with_deed (deed_at x p at img.events) at p (with_registers (with_stacks img (with_stack img.stacks r'.stack ws)) p ((without_call core below c.m.df next).registers))))
      (cut_words code here name (word ∷ []) reference marked below c)

  -- the core with a truth value in place of the call
  abbrev pub told_core : Bool → Core
  told_core told =
      record core { words = words.truth told ∷ below; registers = record core.registers { s = core.registers.f + 1; f = core.registers.f - c.m.df; place = next } }

  pub told_raw : (x : EventTest) → row_of_intrinsic name ≡ tell_event x →
      raw code img p ≡ gives (with_deed (deed_at (tests x) p (cell_place cell) img.events) (cell_place cell) p (with_core img p (told_core (answers x (state_at (cell_place cell) img.events)))))
  told_raw x is =
      let told : Bool = told_there x in
      let after : Image = with_deed (deed_at (tests x) p at img.events) at p img in
      event_told x is
      ∙ ap (λ (ws : List Word). gives (changed p (pushed r'.stack (words.truth told ∷ []) (registers ((told_core told).registers) done)) (with_stacks after (with_stack img.stacks r'.stack ws))))
      (cut_words code here name (word ∷ []) reference marked below c)
      ∙ ap (λ (i : Image). gives i) (pushed_do p after r'.stack (stack_of core) has.stack (words.truth told ∷ []) (core.below ++ reverse below) (registers ((told_core told).registers) done))
      ∙ ap (λ (ws : List Word). gives (with_registers (with_stacks after (with_stack img.stacks r'.stack ws)) p ((told_core told).registers))) (sym (stack_over core.below (words.truth told ∷ []) below))
