-- An action that nothing stops, by its row that was made ready.
use Rattle.std.proofs.Common.{◌≡◌, refl, sym, ap, subst, ◌∙◌, ℕ, ◌≤◌, Bool, true, List, [], length, Option, Some, None, Ok}
use Rattle.b67_list.specs.Numbered.{numbered}
use Rattle.b67_control.specs.declared.Registers.{Registers}
use Rattle.b67_ops.specs.declared.Operator.{Operator}
use Rattle.b67_segment.specs.declared.code.Code.{Code}
use Rattle.b67_segment.specs.Decoded.{found}
use Rattle.b67_store.specs.Store.{row_limit}
use Rattle.b67_table.specs.declared.ProcessState.{ProcessState}
use Rattle.b67_table.specs.Image.{Image, is_able}
use Rattle.b67_table.specs.Outcome.{Outcome, gives, limited}
use Rattle.b67_table.specs.Rows.{row}
use Rattle.b67_table.specs.Table.{table, operator_at, stack_length}
use Rattle.b67_table.specs.Valid.{IsValid}
use Rattle.b67_table.proofs.Waking.{able_live}
use Rattle.b67_letters.specs.Letters.{operator_letter, fetched_letter, registers_letter, letter_by, letter}
use Rattle.b67_linkage.proofs.Linked.{live_are_linked}
use Rattle.b67_operators.specs.Leaves.{IsLinkedIn}
use Rattle.b67_private.specs.declared.operators.Row.{Row as Ready}
use Rattle.b67_private.specs.declared.operators.Row.TheVariants as ready
use Rattle.b67_private.specs.Actions.{IsRow, IsHeldRow}
use Rattle.b67_private.specs.Lettered.{row_letter, HasLetter}
use Rattle.b67_private.specs.Prepared.{IsRowOf}
use Rattle.b67_action.specs.declared.done.Done.TheVariants.{Went}
use Rattle.b67_action.specs.declared.rows.Row.{Row}
use Rattle.b67_action.specs.declared.rows.Row.TheVariants as rows
use Rattle.b67_action.specs.Acting.{row_effect, NextReleases, RowReleases, EntersPlainly, EnterReleases, CalleeReleases}
use Rattle.b67_action.specs.Among.{EffectComes}
use Rattle.b67_action.specs.Done.{Came}
use Rattle.b67_action.specs.Onward.{HasGone, GoesBy, action_of}
use Rattle.b67_action.specs.Rows.{IsTableRow}
use Rattle.b67_action.proofs.Coming.{table_row, operator_is}
use Rattle.b67_action.proofs.Kept.{stays_valid}
use Rattle.b67_action.proofs.MakeAble.{performed_able}
use Rattle.b67_action.proofs.Released.{performed_releases}

-- where a row is made ready, an operator stands that has it
pub record Stands (place : ℕ) (o : Option (Operator × ℕ)) (w : Ready) (next : ℕ) : Type 0 where
  pub op : Operator
  pub here : o ≡ Some (op, next)
  pub is : IsRow op place w
  pub held : IsHeldRow w
  pub letter : HasLetter op place w

pub row_stands : (place : ℕ) (o : Option (Operator × ℕ)) (w : Ready) (next : ℕ) → IsRowOf place o (w, next) → Stands place o w next
row_stands place None w next k = absurd k
row_stands place (Some f) w next k = record { op = f.0; here = ap (λ (n : ℕ). Some (f.0, n)) (sym k.1); is = k.2; held = k.3; letter = k.4 }

-- the letter of an operator that is performed, and so that of its row
pub letter_of_operator : (code : Code) (img new : Image) (p : ℕ) (r : Registers) (op : Operator) (next : ℕ) → numbered img.regs p ≡ Some r → operator_at code r ≡ Ok (op, next)
    → table code img p ≡ gives new → letter code img p ≡ operator_letter op img r
letter_of_operator code img new p r op next has stands t =
    ap (λ (o : Outcome Image). letter_by o (registers_letter code img (numbered img.regs p))) t
    ∙ ap (registers_letter code img) has
    ∙ ap (fetched_letter img r) stands

pub letter_by_row : (code : Code) (img new : Image) (p : ℕ) (r : Registers) (op : Operator) (next : ℕ) (w : Ready) → numbered img.regs p ≡ Some r → operator_at code r ≡ Ok (op, next)
    → HasLetter op r.place w → table code img p ≡ gives new → letter code img p ≡ row_letter w img r
letter_by_row code img new p r op next w has stands is t = letter_of_operator code img new p r op next has stands t ∙ sym (is img r refl)

-- a live process of a valid image is linked among the others
pub linked_in : (code : Code) (img : Image) (p : ℕ) (r : Registers) → IsValid code img → is_able (numbered img.states p) ≡ true → numbered img.regs p ≡ Some r
    → IsLinkedIn img.stacks img.rows (numbered img.regs p)
linked_in code img p r v able has =
    subst (λ (o : Option Registers). IsLinkedIn img.stacks img.rows o) (sym has) (live_are_linked code img p r v (able_live (numbered img.states p) able) has)

-- an entry of what is no intrinsic releases nobody
pub enters_nobody : (img : Image) (o : Option Registers) → EntersPlainly img.stacks o → EnterReleases img o [] []
enters_nobody img None x = absurd x
enters_nobody img (Some r) x = (x.0, x.1, subst (λ (b : Bool). CalleeReleases b x.0 img (Some r) [] []) (sym x.2) refl)

module _ (code : Code) (old new : Image) (p : ℕ) (r : Registers) (op : Operator) (next : ℕ) (v : IsValid code old)
    (able : is_able (numbered old.states p) ≡ true) (has : numbered old.regs p ≡ Some r) (here : found code r.segment r.ll r.place ≡ Some (op, next))
    (states : new.states ≡ old.states) (few : length new.rows ≤ row_limit) where
  module _ (w : Row) (is : IsTableRow (row op r.place) w) (comes : EffectComes {A = Unit {0}} p (row_effect w code op next p (numbered old.regs p) old) old new (Ok (tt {0})))
      (nobody : RowReleases w old (numbered old.regs p) [] []) where
    by_table : table code old p ≡ limited (stack_length p) (row_effect w code op next p (numbered old.regs p) old)
    by_table = table_row code old p r has op next w is able here

    came_on : Came code old p Went new
    came_on = (by_table ∙ comes.outcome, ap (λ (ss : List ProcessState). is_able (numbered ss p)) states ∙ able)

    releases_nobody : NextReleases code old p []
    releases_nobody = record { regs = r; has = has; op = op; next = next; stands = operator_is code old p r able has (op, next) here; row = w; is = is; releases = nobody }

    goes : HasGone code old p new []
    goes = record {
      came = came_on;
      woken = performed_releases code old new p [] Went came_on refl releases_nobody;
      able = performed_able code old new p [] Went v able came_on refl releases_nobody;
      valid = stays_valid code old new p (row_effect w code op next p (numbered old.regs p) old) (Ok (tt {0})) v able by_table comes few;
    }

  pub gone : (q : Ready) → IsRow op r.place q → GoesBy (action_of q) code next p (numbered old.regs p) old new → HasGone code old p new []
  gone (ready.Words kind) is x = goes (rows.Words kind) is (x.0 op) x.1
  gone ready.Exit is x = goes rows.Exit is (x.0 op) x.1
  gone ready.ReturnValue is x = goes rows.ReturnValue is (x.0 op) x.1
  gone ready.Enter is x = goes rows.Enter is (x.0 op) x.1
  gone (ready.Push word) is x = absurd x
  gone (ready.Calculate calculation) is x = absurd x
  gone (ready.Compare relation) is x = absurd x
  gone (ready.Combine logic) is x = absurd x
  gone (ready.Top kind) is x = absurd x
  gone ready.Mark is x = absurd x
  gone ready.MakeCells is x = absurd x
  gone ready.GoOn is x = absurd x
  gone (ready.Branch kind target) is x = absurd x
