-- The action of an operator without a result: the fault.
use Rattle.std.proofs.Common.{◌≡◌, refl, sym, ap, ◌∙◌, subst, List, [], ◌∷◌, length, Some, None, Ok, Err}
use Rattle.b67_pictures.proofs.Prelude.{Fault, PProgram, scopes_of, Ask, ask, Choice, choice, choice_of, Value, Word, Code, failed, frame, operator_at, operator_for, Texts, ActionAt, operand, ValueIs, at_operator, fault_not_plain, action_is, Top, top_slot, operator_there, Actor, faults_so, choice_is, faulted, text_in, level_in, context_in, most_in, Pictures, Does, failed_by}
use Rattle.algol_tree.specs.declared.tree.Op.{Op}
use Rattle.algol_tree.specs.declared.tree.Op.TheVariants as operators
use Rattle.algol_meaning.specs.Operators.{result_of}
use Rattle.algol_meaning.specs.Asks.{fails}
use Rattle.b67_num.specs.declared.NumFault.{NumFault}
use Rattle.b67_num.specs.Whole.{fault_of}
use Rattle.b67_ops.specs.declared.Operator.TheVariants as ops
use Rattle.b67_table.specs.Outcome as outcomes
use Rattle.b67_table.specs.Table.{table}
use Rattle.b67_standing.specs.Stepping.{ready}
use Rattle.b67_rows.proofs.Breaking.{break_raw}

-- of an operator without a result the first operand is as it stands
ready_same : (op : Op) (v w : Value) (f : NumFault) → result_of op v w ≡ Err f → ready op v ≡ v
ready_same operators.Imp v w f e = cc
ready_same operators.Add v w f e = refl
ready_same operators.Sub v w f e = refl
ready_same operators.Mul v w f e = refl
ready_same operators.Over v w f e = refl
ready_same operators.Div v w f e = refl
ready_same operators.Mod v w f e = refl
ready_same operators.Lss v w f e = refl
ready_same operators.Leq v w f e = refl
ready_same operators.Eql v w f e = refl
ready_same operators.Neq v w f e = refl
ready_same operators.Geq v w f e = refl
ready_same operators.Gtr v w f e = refl
ready_same operators.And v w f e = refl
ready_same operators.Or v w f e = refl
ready_same operators.Eqv v w f e = refl

module _ (tree : PProgram) (code : Code) (texts : Texts) (actor : Actor tree code texts) where
  open actor use {w, lay, img, p, q, part, outer, core, s}

  module _ (fault : NumFault) (asks : ask part.rest ≡ fails fault) (a : ActionAt (scopes_of tree) (context_in tree code texts w part s.stands.frame.gives) (text_in tree texts w part) (level_in tree w part) (most_in tree w part) (fails fault) s.stands.pc s.stands.slots) where
    there : operator_at code core.registers ≡ Ok (ops.Plain (operator_for a.0), a.3)
    there = operator_there (scopes_of tree) s.stands.held code (text_in tree texts w part) (level_in tree w part) s.stands.pc s.stands.slots core (ops.Plain (operator_for a.0)) a.3 s.stands.there a.5.stands

    table_is : table code img p ≡ outcomes.faults (fault_of fault)
    table_is =
        let second : Top (scopes_of tree) s.stands.held (level_in tree w part) (frame core.registers) (length core.below) (operand a.2) (operand (ready a.0 a.1) ∷ a.4) core.words =
        top_slot (scopes_of tree) s.stands.held (level_in tree w part) (frame core.registers) (length core.below) s.stands.slots (operand a.2) (operand (ready a.0 a.1) ∷ a.4) core.words s.stands.there.words_are a.5.lies in
        let first : Top (scopes_of tree) s.stands.held (level_in tree w part) (frame core.registers) (length core.below) (operand (ready a.0 a.1)) a.4 second.words_below =
        top_slot (scopes_of tree) s.stands.held (level_in tree w part) (frame core.registers) (length core.below) (operand (ready a.0 a.1) ∷ a.4) (operand (ready a.0 a.1)) a.4 second.words_below second.are refl in
        faults_so code img p (fault_of fault)
        (break_raw code a.0 (at_operator s.has there) (record {
          x = a.1;
          y = a.2;
          v = first.word;
          w = second.word;
          below = first.words_below;
          words = second.is ∙ ap (λ (ws : List Word). second.word ∷ ws) first.is;
          first_kind = a.5.first_fits;
          second_kind = a.5.second_fits;
          first_is = subst (λ (v : Value). ValueIs v first.word) (ready_same a.0 a.1 a.2 fault a.5.breaks) first.slot_is;
          second_is = second.slot_is;
          f = fault;
          breaks = a.5.breaks;
        }))

    chosen : choice (scopes_of tree) w p ≡ record { action = Fault; world = record w { fault = Some (record { kind = fault_of fault; process = p }) }; released = []; started = None }
    chosen = choice_is (scopes_of tree) w p q part outer s.at s.todo ∙ ap (λ (k : Ask). choice_of (scopes_of tree) w p q part outer k) asks

    pub failing : Does tree code texts w img p
    failing =
        failed_by (fault_of fault) (fault_not_plain code (ops.Plain (operator_for a.0)) (at_operator s.has there) (fault_of fault) table_is) table_is
        (action_is code (ops.Plain (operator_for a.0)) (at_operator s.has there) (outcomes.faults (fault_of fault)) table_is ∙ ap (λ (c : Choice). Some c.action) (sym chosen))
        (subst (λ (c : Choice). Pictures tree code texts c.world (failed img p (fault_of fault))) (sym chosen) (lay, faulted tree code texts w lay img s.by p q s.at s.ok (fault_of fault)))
