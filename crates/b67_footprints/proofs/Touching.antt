-- What an operator reads and writes it reaches.
use Rattle.std.proofs.Common.{◌≡◌, ◌⊎◌, inl, inr, sym, ap, subst, ◌∙◌, ℕ, ◌+◌}
use Rattle.b67_word.specs.declared.Place.{Place}
use Rattle.b67_control.specs.declared.Registers.{Registers}
use Rattle.b67_ops.specs.declared.Operator.{Operator}
use Rattle.b67_segment.specs.declared.code.Code.{Code}
use Rattle.b67_table.specs.Effect.{Effect, gives, faults, interrupts}
use Rattle.b67_table.specs.Image.{Image}
use Rattle.b67_table.specs.Questions.{Question, told}
use Rattle.b67_table.specs.Questions as questions
use Rattle.b67_table.specs.Writes.{Write, write_made}
use Rattle.b67_table.specs.Writes as writes
use Rattle.b67_table.specs.Program.{Test, answer, interrupt, fault, ask, asked, Change, done, look_up, write, Program}
use Rattle.b67_table.specs.Rows.{TableRow, private_part, action, row}
use Rattle.b67_table.specs.Touches.{QuestionReads, Changes, TestReads, ChangeTouches, EffectTouches, Touches, RowTouches}
use Rattle.b67_table.proofs.Keeping.{Gives}
use Rattle.b67_footprints.specs.Reaching.{OperatorReaches, own_word, cell_word}
use Rattle.b67_footprints.specs.Keeping.{MayAsk, MayWrite, NamesOperand, TestKeeps, ChangeKeeps, ProgramKeeps, RowKeeps}
use Rattle.b67_footprints.specs.Laws.{OperatorsTouchWhatTheyReach}
use Rattle.b67_footprints.proofs.Every.{operators_keep}

-- what a test answers has the property
pub keeps_gives : {A : Type 0} (img : Image) (op : Operator) (r : Registers) (Q : A → Type 0) (t : Test A) → TestKeeps img op r Q t → Gives Q (asked img t)
keeps_gives img op r Q (answer a) k = k
keeps_gives img op r Q (interrupt kind) k = tt
keeps_gives img op r Q (fault kind) k = tt
keeps_gives img op r Q (ask q more) k = keeps_gives img op r Q (more (told img q)) k.1

module _ (img : Image) (op : Operator) (r : Registers) (p : ℕ) (x : Place) where
  abbrev Comes : Type 0
  Comes = OperatorReaches img op r x ⊎ (x.stack ≡ img.started + 1)

  stack_same : (y : Place) → x ≡ y → x.stack ≡ y.stack
  stack_same y e = ap (λ (z : Place). z.stack) e

  reads_reached : (q : Question) → QuestionReads q x → MayAsk img op r q → OperatorReaches img op r x
  reads_reached (questions.word y) e k = subst (OperatorReaches img op r) (sym e) k
  reads_reached (questions.words y n) e k = own_word (e.0 ∙ k)
  reads_reached (questions.row n) e k = absurd e
  reads_reached questions.free_row e k = absurd e
  reads_reached questions.counted e k = absurd e
  reads_reached (questions.is_event y) e k = absurd e
  reads_reached (questions.event_answer t y) e k = absurd e
  reads_reached (questions.first_happened places) e k = absurd e
  reads_reached (questions.woken n) e k = absurd e
  reads_reached questions.criticals e k = absurd e
  reads_reached (questions.critical n) e k = absurd e
  reads_reached questions.started e k = absurd e

  saved_reached : (y : Place) → x ≡ y → (y.stack ≡ r.stack) ⊎ NamesOperand img op r y → Comes
  saved_reached y e (inl own) = inl (own_word (stack_same y e ∙ own))
  saved_reached y e (inr k) = inl (subst (OperatorReaches img op r) (sym (e ∙ k.lies)) (cell_word k.cell k.names))

  changes_reached : (w : Write) (now : Image) → Changes w now x → MayWrite img op r w → Comes
  changes_reached (writes.save y w) now e k = saved_reached y e k
  changes_reached (writes.cut stack n) now e k = inl (own_word (e.0 ∙ k))
  changes_reached (writes.push stack w) now e k = inl (own_word (stack_same _ e ∙ k))
  changes_reached (writes.registers q) now e k = absurd e
  changes_reached (writes.open_row n count counted) now e k = absurd e
  changes_reached (writes.write_row n at w) now e k = absurd e
  changes_reached (writes.close_row n) now e k = absurd e
  changes_reached (writes.open_event y) now e k = absurd e
  changes_reached (writes.close_events stack at) now e k = absurd e
  changes_reached (writes.event_deed d y) now e k = absurd e
  changes_reached (writes.wait_any places) now e k = absurd e
  changes_reached writes.go_on now e k = absurd e
  changes_reached (writes.line bytes) now e k = absurd e
  changes_reached (writes.start q words) now e k = inr (e ∙ k)
  changes_reached (writes.end_process stack) now e k = inl (own_word (e ∙ k))

  test_reached : {A : Type 0} (Q : A → Type 0) (t : Test A) → TestReads img t x → TestKeeps img op r Q t → OperatorReaches img op r x
  test_reached Q (answer a) e k = absurd e
  test_reached Q (interrupt kind) e k = absurd e
  test_reached Q (fault kind) e k = absurd e
  test_reached Q (ask q more) (inl e) k = reads_reached q e k.0
  test_reached Q (ask q more) (inr e) k = test_reached Q (more (told img q)) e k.1

  change_reached : (c : Change) (now : Image) → ChangeTouches p c now x → ChangeKeeps img op r p c now → Comes
  change_reached done now e k = absurd e
  change_reached (look_up q more) now (inl e) k = inl (reads_reached q e k.0)
  change_reached (look_up q more) now (inr e) k = change_reached (more (told now q)) now e k.1
  change_reached (write w next) now (inl e) k = changes_reached w now e k.0
  change_reached (write w next) now (inr e) k = change_reached next (write_made p w now) e k.1

  effect_reached : (e : Effect Change) → EffectTouches p img e x → Gives (λ (change : Change). ChangeKeeps img op r p change img) e → Comes
  effect_reached (gives c) t k = change_reached c img t k
  effect_reached (faults kind) t k = absurd t
  effect_reached (interrupts kind) t k = absurd t

  program_reached : (program : Program) → Touches p img program x → ProgramKeeps img op r p program → Comes
  program_reached program (inl t) k = inl (test_reached (λ (change : Change). ChangeKeeps img op r p change img) program t k)
  program_reached program (inr t) k =
      effect_reached (asked img program) t (keeps_gives img op r (λ (change : Change). ChangeKeeps img op r p change img) program k)

  pub row_reached : (w : TableRow) (code : Code) (next : ℕ) → RowTouches w code img p r next x → RowKeeps w code img op p r next → OperatorReaches img op r x ⊎ (x.stack ≡ img.started + 1)
  row_reached (private_part f) code next t k = inl (own_word t.0)
  row_reached (action program) code next t k = program_reached (program code r next) t k

pub operators_touch_what_they_reach : OperatorsTouchWhatTheyReach
operators_touch_what_they_reach code img p x t =
    row_reached img t.op t.registers p x (row t.op t.registers.place) code t.next t.touches (operators_keep code img p t.registers t.op t.registers.place t.next)
