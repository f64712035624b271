-- The letters of what is performed, by the letter of its operator.
use Rattle.std.specs.Prelude.{IfSome, if◌then◌else◌}
use Rattle.std.proofs.Common.{◌≡◌, refl, sym, ap, ◌∙◌, ℕ, ◌+◌, Bool, false, Option, Some, None, Result, Ok, Err}
use Rattle.b67_word.specs.declared.Place.{Place}
use Rattle.b67_word.specs.Word.{Word}
use Rattle.b67_control.specs.declared.Mscw.{Mscw}
use Rattle.b67_control.specs.declared.Pcw.{Pcw}
use Rattle.b67_control.specs.declared.Registers.{Registers}
use Rattle.b67_control.specs.Control.{as_pcw}
use Rattle.b67_segment.specs.declared.code.Code.{Code}
use Rattle.b67_store.specs.Store.{Stacks}
use Rattle.b67_table.specs.declared.Cell.{Cell}
use Rattle.b67_table.specs.declared.InterruptKind.{InterruptKind}
use Rattle.b67_table.specs.declared.ProcessState.{ProcessState}
use Rattle.b67_table.specs.declared.ProcessState.TheVariants as states
use Rattle.b67_table.specs.declared.Reached.{Reached}
use Rattle.b67_table.specs.Chains.{place}
use Rattle.b67_table.specs.Image.{Image, woken_number}
use Rattle.b67_table.specs.Look.{Look, found, at, ◌>->◌, valid, look_seen}
use Rattle.b67_table.specs.Names.{intrinsic_numbered}
use Rattle.b67_table.specs.Outcome.{Outcome}
use Rattle.b67_table.specs.References.{cell_of, reached}
use Rattle.b67_table.specs.Rows.{level_below, marked}
use Rattle.b67_list.specs.Numbered.{numbered}
use Rattle.b67_deeds.specs.declared.Letter.{Letter}
use Rattle.b67_deeds.specs.declared.Letter.TheVariants.{Enter}
use Rattle.b67_letters.specs.Letters.{told_by, intrinsic_letter, called_letter, called_by, control_called, registers_letter, letter}
use Rattle.b67_letters.specs.Letters as letters
use Rattle.b67_letters.proofs.Looks.{then_seen}
use Rattle.b67_operators.specs.declared.calling.Called.{Called}
use Rattle.b67_operators.specs.Entries.{procedure_called, called_by as entered_by}
use Rattle.b67_ops.specs.declared.Operator.{Operator}
use Rattle.b67_private.specs.declared.operators.WordsRow.{WordsRow}
use Rattle.b67_private.specs.declared.operators.Row.{Row as Ready}
use Rattle.b67_private.specs.declared.operators.Row.TheVariants as ready
use Rattle.b67_private.specs.Lettered as made
use Rattle.b67_reach.specs.Answers.{looked}
use Rattle.b67_reach.proofs.Looking.{after_found, seen_then, looked_ok}
use Rattle.b67_action.specs.declared.done.Done.{Done}
use Rattle.b67_action.specs.declared.done.Done.TheVariants as dones
use Rattle.b67_action.specs.declared.rows.Row.{Row}
use Rattle.b67_action.specs.declared.rows.Row.TheVariants as rows
use Rattle.b67_action.specs.Acting.{EntersPlainly}
use Rattle.b67_action.specs.Done.{Came, went, is_performed}
use Rattle.b67_action.specs.Lettered.{HasLetter, by_called, enter_letter, row_letter, letter_in, letter_by_done}
use Rattle.b67_action.proofs.Ready.{if_some}

-- ---- what ENTR calls

abbrev the_ok : {A : Type 0} → A → Result A InterruptKind
the_ok a = Ok a

same_ok : {A : Type 0} (a b : A) → the_ok a ≡ the_ok b → a ≡ b
same_ok a b e = cc

first_found : {A B : Type 0} (x : Result A InterruptKind) (f : A → Result B InterruptKind) (b : B) → after_found x f ≡ Ok b → (a : A) × (x ≡ Ok a) × (f a ≡ Ok b)
first_found (Ok a) f b e = (a, refl, e)
first_found (Err kind) f b e = cc

-- what was found first, where both were found
parts : {A B : Type 0} (st : Stacks) (l : Look A) (k : A → Look B) (b : B) → look_seen st (l >-> k) ≡ Ok b → (a : A) × (look_seen st l ≡ Ok a) × (look_seen st (k a) ≡ Ok b)
parts st l k b e = first_found (look_seen st l) (λ a. look_seen st (k a)) b (sym (seen_then st l k) ∙ e)

abbrev called_as : Mscw → Option Place → Pcw → Called
called_as m home pcw = record { mark = m; pcw = pcw; home = home }

module _ (st : Stacks) (r : Registers) where
  abbrev above_mark : Look Word
  above_mark = at (place r.stack (r.f + 1)) (λ (w : Option Word). valid w)

  by_cell : (m : Mscw) (w : Word) (o : Option Cell) (c : Called) → look_seen st (entered_by r m w o) ≡ Ok c → look_seen st (called_by w o) ≡ Ok c.pcw
  by_cell m w None c e =
      let pcw = parts st (valid (as_pcw w)) (λ (x : Pcw). found (called_as m (level_below r x.level) x)) c e in
      pcw.1 ∙ ap (λ (x : Called). the_ok x.pcw) (same_ok (called_as m (level_below r pcw.0.level) pcw.0) c pcw.2)
  by_cell m w (Some cell) c e =
      let v = parts st (reached (Some cell)) (λ (u : Reached). valid (as_pcw u.word) >-> (λ (x : Pcw). found (called_as m (Some u.cell.frame) x))) c e in
      let pcw = parts st (valid (as_pcw v.0.word)) (λ (x : Pcw). found (called_as m (Some v.0.cell.frame) x)) c v.2 in
      then_seen st (reached (Some cell)) v.0 (λ (u : Reached). valid (as_pcw u.word)) v.1 ∙ pcw.1
      ∙ ap (λ (x : Called). the_ok x.pcw) (same_ok (called_as m (Some v.0.cell.frame) pcw.0) c pcw.2)

  -- the PCW that is entered is the one that its letter is told by
  pub called_is : (c : Called) → Ok c ≡ looked (look_seen st (procedure_called r)) → look_seen st (control_called r) ≡ Ok c.pcw
  called_is c e =
      let m = parts st (marked r) (λ (x : Mscw). above_mark >-> (λ (v : Word). entered_by r x v (cell_of r v))) c (looked_ok (look_seen st (procedure_called r)) c e) in
      let w = parts st above_mark (λ (v : Word). entered_by r m.0 v (cell_of r v)) c m.2 in
      then_seen st above_mark w.0 (λ (v : Word). called_by v (cell_of r v)) w.1 ∙ by_cell m.0 w.0 (cell_of r w.0) c w.2

-- a procedure that is no intrinsic's is entered
procedure_letter : (img : Image) (r : Registers) (c : Called) → Ok c ≡ looked (look_seen img.stacks (procedure_called r)) → c.pcw.intrinsic ≡ false → enter_letter img r ≡ Some Enter
procedure_letter img r c e none =
    ap (told_by (called_letter img r.stack)) (called_is img.stacks r c e)
    ∙ ap (λ (b : Bool). if b then intrinsic_letter (woken_number img.numbers r.stack) (intrinsic_numbered c.pcw.number) else Some Enter) none

pub enters_letter : (img : Image) (o : Option Registers) → EntersPlainly img.stacks o → IfSome o (λ r. made.row_letter ready.Enter img r ≡ Some Enter)
enters_letter img None k = absurd k
enters_letter img (Some r) k = procedure_letter img r k.0 k.1 k.2

-- so ENTR has the letter of what was found
pub entered_letter : (img : Image) (o : Option Registers) (r : Registers) (c : Called) (woken p : ℕ) (l : Option Letter) → o ≡ Some r → Ok c ≡ looked (look_seen img.stacks (procedure_called r))
    → p ≡ r.stack → woken ≡ woken_number img.numbers p → l ≡ by_called woken c.pcw → IfSome o (λ q. l ≡ enter_letter img q)
entered_letter img o r c woken p l has e s n h =
    if_some (λ q. l ≡ enter_letter img q) o r has
    (h ∙ ap (λ (m : ℕ). by_called m c.pcw) (n ∙ ap (woken_number img.numbers) s) ∙ sym (ap (told_by (called_letter img r.stack)) (called_is img.stacks r c e)))

pub row_lettered : (img : Image) (o : Option Registers) (r : Registers) (w v : Row) (l : Option Letter) → o ≡ Some r → w ≡ v → l ≡ row_letter v img r → IfSome o (λ q. l ≡ row_letter w img q)
row_lettered img o r w v l has i h = if_some (λ q. l ≡ row_letter w img q) o r has (h ∙ ap (λ (x : Row). row_letter x img r) (sym i))

-- ---- what an action came to

pub letter_went : (s : ProcessState) (o : Option Letter) → letter_in (went s) o ≡ o
letter_went states.Able o = refl
letter_went (states.WaitsFor event) o = refl
letter_went states.WaitsAny o = refl
letter_went (states.Procures event) o = refl
letter_went states.Ended o = refl

-- what was not performed is the fault, or has no letter
pub letter_unperformed : (code : Code) (img new : Image) (p : ℕ) (d : Done) → Came code img p d new → is_performed d ≡ false → letter_by_done d ≡ letter_in d (letter code img p)
letter_unperformed code img new p dones.Went k e = cc
letter_unperformed code img new p dones.Waits k e = cc
letter_unperformed code img new p dones.Ended k e = cc
letter_unperformed code img new p (dones.Fault kind) k e = sym (ap (λ (o : Outcome Image). letters.letter_by o (registers_letter code img (numbered img.regs p))) k.0)
letter_unperformed code img new p (dones.Interrupt kind) k e = sym (ap (λ (o : Outcome Image). letters.letter_by o (registers_letter code img (numbered img.regs p))) k.0)
letter_unperformed code img new p dones.StackLimit k e = sym (ap (λ (o : Outcome Image). letters.letter_by o (registers_letter code img (numbered img.regs p))) k.0)
letter_unperformed code img new p dones.NoMemory k e = refl

-- ---- rows

-- a row that is no action is a private operator's, which has no letter
pub own_letter : (op : Operator) (here : ℕ) (w : Ready) → made.HasLetter op here w → ((kind : WordsRow) → w ≡ ready.Words kind → ⊥) → (w ≡ ready.Exit → ⊥) → (w ≡ ready.ReturnValue → ⊥)
    → (w ≡ ready.Enter → ⊥) → HasLetter op here rows.Own
own_letter op here (ready.Words kind) h words exit value enter = absurd (words kind refl)
own_letter op here ready.Exit h words exit value enter = absurd (exit refl)
own_letter op here ready.ReturnValue h words exit value enter = absurd (value refl)
own_letter op here ready.Enter h words exit value enter = absurd (enter refl)
own_letter op here (ready.Push word) h words exit value enter = h
own_letter op here (ready.Calculate calculation) h words exit value enter = h
own_letter op here (ready.Compare relation) h words exit value enter = h
own_letter op here (ready.Combine logic) h words exit value enter = h
own_letter op here (ready.Top kind) h words exit value enter = h
own_letter op here ready.Mark h words exit value enter = h
own_letter op here ready.MakeCells h words exit value enter = h
own_letter op here ready.GoOn h words exit value enter = h
own_letter op here (ready.Branch kind target) h words exit value enter = h
