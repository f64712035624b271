-- The operator of each entry has a letter, and no plain operator has one.
use Rattle.std.proofs.Common.{◌≡◌, refl, sym, ap, ◌∙◌, ℕ, ◌+◌, Bool, true, false, List, Option, Some, None, Result, Ok, Err}
use Rattle.std.specs.Prelude.{◌&&◌, if◌then◌else◌, nat_lt}
use Rattle.b67_list.specs.Numbered.{numbered}
use Rattle.b67_word.specs.declared.Place.{Place}
use Rattle.b67_word.specs.Word.{Word}
use Rattle.b67_control.specs.declared.Registers.{Registers}
use Rattle.b67_control.specs.declared.Mscw.{Mscw}
use Rattle.b67_control.specs.declared.Pcw.{Pcw}
use Rattle.b67_control.specs.Control.{as_pcw}
use Rattle.b67_ops.specs.declared.BadCode.{BadCode}
use Rattle.b67_ops.specs.declared.BranchKind.{BranchKind}
use Rattle.b67_ops.specs.declared.Operator.{Operator}
use Rattle.b67_ops.specs.declared.Operator.TheVariants as ops
use Rattle.b67_ops.specs.declared.PlainKind.{PlainKind}
use Rattle.b67_ops.specs.declared.PlainKind.TheVariants as kinds
use Rattle.b67_ops.specs.declared.intrinsic.Intrinsic.{Intrinsic}
use Rattle.b67_segment.specs.declared.code.Code.{Code}
use Rattle.b67_table.specs.declared.Cell.{Cell}
use Rattle.b67_table.specs.declared.Reached.{Reached}
use Rattle.b67_table.specs.declared.InterruptKind.TheVariants.{BadCode as bad_code}
use Rattle.b67_table.specs.Effect.{Effect}
use Rattle.b67_table.specs.Effect as effects
use Rattle.b67_table.specs.Image.{Image, woken_number, is_live}
use Rattle.b67_table.specs.Names.{intrinsic_numbered}
use Rattle.b67_table.specs.Outcome.{Outcome, gives, faults, interrupts, limit}
use Rattle.b67_table.specs.PrivateRows.{branch}
use Rattle.b67_table.specs.Chains.{place}
use Rattle.b67_table.specs.References.{couple_cell, cell_of, reached, popped, popped_two}
use Rattle.b67_table.specs.Look.{Look, at, ◌>->◌, valid, look_seen}
use Rattle.b67_table.specs.Program.{asked, effect_of, Program}
use Rattle.b67_table.specs.Linkage.{entry}
use Rattle.b67_table.specs.Intrinsics.{intrinsic_row, intrinsic}
use Rattle.b67_table.specs.Rows.{private_part, acts as acts_by, row, plain_row, branch_turn, enter_procedure, enter_by, level_below, marked, enter}
use Rattle.b67_table.specs.Runs.{ProcessActs, acts, fails}
use Rattle.b67_table.specs.Table.{raw, table, plain, stack_length, by_row, by_operator, by_registers, operator_at, class_at, class_by, is_private, is_new, private_at, private_in, private_next}
use Rattle.b67_table.proofs.Limit.{new_of}
use Rattle.b67_deeds.specs.declared.Letter.{Letter}
use Rattle.b67_deeds.specs.declared.Letter.TheVariants.{Index, ElementRead, Pass, Enter, Leave, Turn, Fault}
use Rattle.b67_letters.specs.Letters.{told_by, value_letter, place_letter, loaded_letter, stored_letter, left_letter, letter_of, intrinsic_letter, called_letter, called_by, control_called, plain_letter, operator_letter, fetched_letter, registers_letter, letter_by, letter}
use Rattle.b67_letters.specs.Laws.{ActionsHaveLetters}
use Rattle.b67_letters.proofs.Looks.{then_seen}
use Rattle.b67_letters.proofs.Seen.{Goes, goes}

-- there is a letter
abbrev pub Has : Option Letter → Type 0
Has o = (l : Letter) × (o ≡ Some l)

-- ---- an operator that gives a new image

module _ (code : Code) (img after : Image) (p : ℕ) (r : Registers) (next : ℕ) where
  -- the program gives the new image
  abbrev Comes : Program → Type 0
  Comes t = effect_of p img (asked img t) ≡ effects.gives after

  -- what is found first decides
  told : {A : Type 0} (look : Look A) (f : A → Program) (kind : A → Option Letter) → ((a : A) → Has (kind a)) → Goes p img after look f → Has (told_by kind (look_seen img.stacks look))
  told look f kind h g = ((h g.value).0, ap (told_by kind) g.is ∙ (h g.value).1)

  -- ---- ENTR

  abbrev woken : ℕ
  woken = woken_number img.numbers r.stack

  callee_has : (m : Mscw) (pcw : Pcw) (home : Option Place) → Comes (enter_procedure code r next m pcw home) → Has (called_letter img r.stack pcw)
  callee_has m pcw home e = by pcw.intrinsic e
    where
      named : (o : Option Intrinsic) (ws : List Word) → Comes (intrinsic_row o code r next m ws) → Has (intrinsic_letter woken o)
      named None ws e = cc
      named (Some name) ws e = (letter_of woken name, refl)

      by : (b : Bool) → Comes (if b then intrinsic pcw.number code r next m else entry r next m.df pcw home)
          → Has (if b then intrinsic_letter woken (intrinsic_numbered pcw.number) else Some Enter)
      by true e = named (intrinsic_numbered pcw.number) _ e
      by false e = (Enter, refl)

  abbrev above_mark : Look Word
  above_mark = at (place r.stack (r.f + 1)) (λ (w : Option Word). valid w)

  found_has : (above : Word) → look_seen img.stacks above_mark ≡ Ok above → (o : Option Cell) → cell_of r above ≡ o → (pcw : Pcw) → look_seen img.stacks (called_by above o) ≡ Ok pcw
      → Has (called_letter img r.stack pcw) → Has (told_by (called_letter img r.stack) (look_seen img.stacks (control_called r)))
  found_has above is o c pcw v h =
      let here : look_seen img.stacks (control_called r) ≡ Ok pcw =
      then_seen img.stacks above_mark above (λ (a : Word). called_by a (cell_of r a)) is ∙ ap (λ (x : Option Cell). look_seen img.stacks (called_by above x)) c ∙ v in
      (h.0, ap (told_by (called_letter img r.stack)) here ∙ h.1)

  by_cell : (m : Mscw) (above : Word) → look_seen img.stacks above_mark ≡ Ok above → (o : Option Cell) → cell_of r above ≡ o → Comes (enter_by code r next m above o)
      → Has (told_by (called_letter img r.stack) (look_seen img.stacks (control_called r)))
  by_cell m above is None c e =
      let g = goes p img after (valid (as_pcw above)) (λ (pcw : Pcw). enter_procedure code r next m pcw (level_below r pcw.level)) e in
      found_has above is None c g.value g.is (callee_has m g.value (level_below r g.value.level) g.comes)
  by_cell m above is (Some x) c e =
      let g = goes p img after (reached (Some x)) _ e in
      let k = goes p img after (valid (as_pcw g.value.word)) (λ (pcw : Pcw). enter_procedure code r next m pcw (Some g.value.cell.frame)) g.comes in
      found_has above is (Some x) c k.value (then_seen img.stacks (reached (Some x)) g.value (λ (u : Reached). valid (as_pcw u.word)) g.is ∙ k.is)
      (callee_has m k.value (Some g.value.cell.frame) k.comes)

  enter_has : Comes (enter code r next) → Has (told_by (called_letter img r.stack) (look_seen img.stacks (control_called r)))
  enter_has e =
      let g = goes p img after (marked r) _ e in
      let k = goes p img after above_mark (λ (above : Word). enter_by code r next g.value above (cell_of r above)) g.comes in
      by_cell g.value k.value k.is (cell_of r k.value) refl k.comes

  -- ---- all of them

  private_only : {A : Type 0} → true ≡ false → A
  private_only n = cc

  plain_has : (kind : PlainKind) → is_private (class_by (plain_row kind)) ≡ false → by_row (plain_row kind) code img p r next ≡ effects.gives after → Has (plain_letter kind img r)
  plain_has kinds.Add n e = private_only n
  plain_has kinds.Subt n e = private_only n
  plain_has kinds.Mult n e = private_only n
  plain_has kinds.Divd n e = private_only n
  plain_has kinds.Idiv n e = private_only n
  plain_has kinds.Rdiv n e = private_only n
  plain_has kinds.Less n e = private_only n
  plain_has kinds.Greq n e = private_only n
  plain_has kinds.Grtr n e = private_only n
  plain_has kinds.Lseq n e = private_only n
  plain_has kinds.Equl n e = private_only n
  plain_has kinds.Neql n e = private_only n
  plain_has kinds.Chsn n e = private_only n
  plain_has kinds.Land n e = private_only n
  plain_has kinds.Lor n e = private_only n
  plain_has kinds.Lnot n e = private_only n
  plain_has kinds.Leqv n e = private_only n
  plain_has kinds.Exit n e = (left_letter _, refl)
  plain_has kinds.Nxln n e = (Index, refl)
  plain_has kinds.Indx n e = (Index, refl)
  plain_has kinds.Retn n e = (Leave, refl)
  plain_has kinds.Entr n e = enter_has e
  plain_has kinds.Eval n e = told (popped r >-> (λ (x : Word). reached (cell_of r x))) _ place_letter (λ w. (_, refl)) (goes p img after (popped r >-> (λ (x : Word). reached (cell_of r x))) _ e)
  plain_has kinds.Nxlv n e = (ElementRead, refl)
  plain_has kinds.Mkst n e = private_only n
  plain_has kinds.Stff n e = private_only n
  plain_has kinds.Zero n e = private_only n
  plain_has kinds.One n e = private_only n
  plain_has kinds.Push n e = private_only n
  plain_has kinds.Dlet n e = private_only n
  plain_has kinds.Exch n e = private_only n
  plain_has kinds.Dupl n e = private_only n
  plain_has kinds.Stod n e = told (popped_two r) _ stored_letter (λ t. (_, refl)) (goes p img after (popped_two r) _ e)
  plain_has kinds.Ston n e = told (popped_two r) _ stored_letter (λ t. (_, refl)) (goes p img after (popped_two r) _ e)
  plain_has kinds.Lodt n e = (Pass, refl)
  plain_has kinds.Load n e = told (popped r) _ loaded_letter (λ x. (_, refl)) (goes p img after (popped r) _ e)
  plain_has kinds.Noop n e = private_only n

  branch_has : (kind : BranchKind) (target : ℕ) (b : Bool) → is_private (class_by (if b then private_part (branch kind target) else acts_by (branch_turn kind target))) ≡ false
      → Has (if b then None else Some Turn)
  branch_has kind target true n = private_only n
  branch_has kind target false n = (Turn, refl)

  operator_has : (op : Operator) → is_private (class_at op r.place) ≡ false → by_row (row op r.place) code img p r next ≡ effects.gives after → Has (operator_letter op img r)
  unfolding row class_at
  operator_has (ops.Valc couple) n e =
      told (reached (couple_cell r couple.level couple.index)) _ value_letter (λ w. (_, refl)) (goes p img after (reached (couple_cell r couple.level couple.index)) _ e)
  operator_has (ops.Namc couple) n e = private_only n
  operator_has (ops.Lt8 k) n e = private_only n
  operator_has (ops.Lt16 k) n e = private_only n
  operator_has (ops.Lt48 k) n e = private_only n
  operator_has (ops.Mpcw k) n e = private_only n
  operator_has (ops.Branch kind target) n e = branch_has kind target (nat_lt r.place target) n
  operator_has (ops.Plain kind) n e = plain_has kind n e

module _ (code : Code) (img after : Image) (p : ℕ) where
  fetched_has : (r : Registers) (o : Result (Operator × ℕ) BadCode) → private_at r o ≡ false → by_operator code img p r o ≡ effects.gives after → Has (fetched_letter img r o)
  fetched_has r (Err bad) n e = cc
  fetched_has r (Ok f) n e = operator_has code img after p r f.1 f.0 n e

  registers_has : (live : Bool) (o : Option Registers) → private_in code o ≡ false
      → (if live then by_registers code img p o else effects.interrupts bad_code) ≡ effects.gives after → Has (registers_letter code img o)
  registers_has true None n e = cc
  registers_has true (Some r) n e = fetched_has r (operator_at code r) n e
  registers_has false o n e = cc

  acts_has : plain code img p ≡ false → table code img p ≡ gives after → Has (letter code img p)
  unfolding plain table raw
  acts_has np t =
      let g = new_of (stack_length p) (raw code img p) after t in
      let not_private : private_next code img p ≡ false = only (private_next code img p) (sym (ap (λ (o : Outcome Image). private_next code img p && is_new o) t) ∙ np) in
      let h = registers_has (is_live (numbered img.states p)) (numbered img.regs p) not_private g.0 in
      (h.0, ap (λ (o : Outcome Image). letter_by o (registers_letter code img (numbered img.regs p))) t ∙ h.1)
    where
      only : (b : Bool) → (b && true) ≡ false → b ≡ false
      only true e = e
      only false e = refl

has_letter : (code : Code) (img : Image) (p : ℕ) (after : Image) → ProcessActs code p img after → Has (letter code img p)
has_letter code img p after (acts np t) = acts_has code img after p np t
has_letter code img p after (fails kind t) = (Fault, ap (λ (o : Outcome Image). letter_by o (registers_letter code img (numbered img.regs p))) t)

-- ---- a plain operator

module _ (img : Image) (r : Registers) where
  action_only : {A : Type 0} → false ≡ true → A
  action_only n = cc

  plain_none : (kind : PlainKind) → is_private (class_by (plain_row kind)) ≡ true → plain_letter kind img r ≡ None
  plain_none kinds.Add n = refl
  plain_none kinds.Subt n = refl
  plain_none kinds.Mult n = refl
  plain_none kinds.Divd n = refl
  plain_none kinds.Idiv n = refl
  plain_none kinds.Rdiv n = refl
  plain_none kinds.Less n = refl
  plain_none kinds.Greq n = refl
  plain_none kinds.Grtr n = refl
  plain_none kinds.Lseq n = refl
  plain_none kinds.Equl n = refl
  plain_none kinds.Neql n = refl
  plain_none kinds.Chsn n = refl
  plain_none kinds.Land n = refl
  plain_none kinds.Lor n = refl
  plain_none kinds.Lnot n = refl
  plain_none kinds.Leqv n = refl
  plain_none kinds.Exit n = action_only n
  plain_none kinds.Nxln n = action_only n
  plain_none kinds.Indx n = action_only n
  plain_none kinds.Retn n = action_only n
  plain_none kinds.Entr n = action_only n
  plain_none kinds.Eval n = action_only n
  plain_none kinds.Nxlv n = action_only n
  plain_none kinds.Mkst n = refl
  plain_none kinds.Stff n = refl
  plain_none kinds.Zero n = refl
  plain_none kinds.One n = refl
  plain_none kinds.Push n = refl
  plain_none kinds.Dlet n = refl
  plain_none kinds.Exch n = refl
  plain_none kinds.Dupl n = refl
  plain_none kinds.Stod n = action_only n
  plain_none kinds.Ston n = action_only n
  plain_none kinds.Lodt n = action_only n
  plain_none kinds.Load n = action_only n
  plain_none kinds.Noop n = refl

  branch_none : (kind : BranchKind) (target : ℕ) (b : Bool) → is_private (class_by (if b then private_part (branch kind target) else acts_by (branch_turn kind target))) ≡ true
      → (if b then None else Some Turn) ≡ None
  branch_none kind target true n = refl
  branch_none kind target false n = action_only n

  operator_none : (op : Operator) → is_private (class_at op r.place) ≡ true → operator_letter op img r ≡ None
  unfolding row class_at
  operator_none (ops.Valc couple) n = action_only n
  operator_none (ops.Namc couple) n = refl
  operator_none (ops.Lt8 k) n = refl
  operator_none (ops.Lt16 k) n = refl
  operator_none (ops.Lt48 k) n = refl
  operator_none (ops.Mpcw k) n = refl
  operator_none (ops.Branch kind target) n = branch_none kind target (nat_lt r.place target) n
  operator_none (ops.Plain kind) n = plain_none kind n

  fetched_none : (o : Result (Operator × ℕ) BadCode) → private_at r o ≡ true → fetched_letter img r o ≡ None
  fetched_none (Err bad) n = refl
  fetched_none (Ok f) n = operator_none f.0 n

registers_none : (code : Code) (img : Image) (o : Option Registers) → private_in code o ≡ true → registers_letter code img o ≡ None
registers_none code img None n = refl
registers_none code img (Some r) n = fetched_none img r (operator_at code r) n

outcome_none : (t : Outcome Image) (b : Bool) (found : Option Letter) → (b && is_new t) ≡ true → (b ≡ true → found ≡ None) → letter_by t found ≡ None
outcome_none (gives new) true found e k = k refl
outcome_none (gives new) false found e k = cc
outcome_none (faults kind) true found e k = cc
outcome_none (faults kind) false found e k = cc
outcome_none (interrupts kind) b found e k = refl
outcome_none limit b found e k = refl

no_letter : (code : Code) (img : Image) (p : ℕ) → plain code img p ≡ true → letter code img p ≡ None
unfolding plain
no_letter code img p e =
    outcome_none (table code img p) (private_next code img p) (registers_letter code img (numbered img.regs p)) e (registers_none code img (numbered img.regs p))

pub actions_have_letters : ActionsHaveLetters
actions_have_letters = record { acts = λ code img after p x. has_letter code img p after x; plains = no_letter }
