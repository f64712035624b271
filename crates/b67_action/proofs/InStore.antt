-- A process in its store: its room is lent and given back, and one run of it after another.
use Rattle.std.specs.Prelude.{is_ok}
use Rattle.std.proofs.Common.{◌≡◌, refl, sym, ap, subst, ◌∙◌, ℕ, ◌≤◌, true, false, List, [], length, take, Some, Result, Ok, Err}
use Rattle.b67_list.specs.Numbered.{numbered}
use Rattle.b67_list.proofs.Numbered.{numbered_same, numbered_twice}
use Rattle.b67_word.specs.Word.{Word}
use Rattle.b67_control.specs.declared.Registers.{Registers}
use Rattle.b67_ops.specs.declared.Operator.{Operator}
use Rattle.b67_segment.specs.declared.code.Code.{Code}
use Rattle.b67_segment.specs.Decoded.{found}
use Rattle.b67_store.specs.Store.{Stacks, Rows, with_stack, row_limit}
use Rattle.b67_table.specs.Image.{Image}
use Rattle.b67_table.specs.Program.{Program}
use Rattle.b67_table.specs.Rows.{row, acts}
use Rattle.b67_table.specs.Valid.{IsValid}
use Rattle.b67_table.proofs.FirstValid.{counted}
use Rattle.b67_table.proofs.Lists.{numbered_set, numbered_within}
use Rattle.b67_table.proofs.Waking.{able_live}
use Rattle.b67_linkage.specs.Held.{IsLinked}
use Rattle.b67_linkage.proofs.Linked.{live_are_linked}
use Rattle.b67_deeds.specs.declared.Letter.{Letter}
use Rattle.b67_operators.specs.Leaves.{program_in}
use Rattle.b67_operators.proofs.Leaves.{in_process}
use Rattle.b67_private.specs.declared.operators.Row.TheVariants as ready
use Rattle.b67_private.specs.declared.operators.WordsRow.{WordsRow}
use Rattle.b67_private.specs.Actions.{words_program}
use Rattle.b67_private.specs.Lettered.{words_letter, HasLetter}
use Rattle.b67_reach.specs.declared.Stop.{Stop}
use Rattle.b67_reach.specs.Answers.{ProgramPerforms, ProgramActs}
use Rattle.b67_reach.specs.Images.{Own, own_of_image, with_own}
use Rattle.b67_reach.proofs.Looking.{acts_by}
use Rattle.b67_action.specs.Onward.{HasGone}
use Rattle.b67_action.specs.Reaching.{ProcessIsIn}
use Rattle.b67_action.specs.Running.{given_back, ActionGoesOn}
use Rattle.b67_action.proofs.Coming.{comes_by, operator_is}
use Rattle.b67_action.proofs.Gone.{letter_by_row, gone}
use Rattle.b67_action.proofs.Lent.{not_plain}

pub own_twice : (img : Image) (p : ℕ) (a b : Own) → with_own b p (with_own a p img) ≡ with_own b p img
own_twice img p a b =
    ap (λ (rs : List Registers). record img { stacks = b.stacks; rows = b.rows; regs = rs }) (numbered_twice img.regs p a.regs b.regs)

-- an answer that is one
module _ (program : Program) (old new : Own) where
  pub performed : {A : Type 0} (res : Result A Stop) → is_ok res ≡ true → ProgramPerforms program old new res → ProgramPerforms {A = Unit {0}} program old new (Ok (tt {0}))
  performed (Ok u) e x = record { outcome = x.outcome; stays = tt }
  performed (Err stop) e x = cc

  pub unmoved : {A : Type 0} (res : Result A Stop) → is_ok res ≡ false → ProgramPerforms program old new res → new ≡ old
  unmoved (Ok u) e x = cc
  unmoved (Err stop) e x = x.stays

module _ (code : Code) (img : Image) (p : ℕ) (stacks : Stacks) (rows : Rows) (r : Registers) (h : ProcessIsIn code img p stacks rows r) where
  pub linked : IsLinked stacks rows r
  linked =
      subst (λ (z : Rows). IsLinked stacks z r) h.rows_are
      (subst (λ (z : Stacks). IsLinked z img.rows r) h.stacks_are (live_are_linked code img p r h.valid (able_live (numbered img.states p) h.able) h.has))

  pub given_of : (q : Registers) (left : List Word) (more : Stacks) (others : Rows) → q.stack ≡ r.stack → more ≡ with_stack stacks r.stack (take q.s left) → others ≡ rows
      → given_back q left p img ≡ with_own (own_of_image more others q) p img
  given_of q left more others e f g =
      ap (λ (n : ℕ). with_own (own_of_image (with_stack img.stacks n (take q.s left)) img.rows q) p img) e
      ∙ ap (λ (z : Stacks). with_own (own_of_image (with_stack z r.stack (take q.s left)) img.rows q) p img) h.stacks_are
      ∙ ap (λ (z : Stacks). with_own (own_of_image z img.rows q) p img) (sym f)
      ∙ ap (λ (z : Rows). with_own (own_of_image more z q) p img) (h.rows_are ∙ sym g)

  -- so it stands where it has these in place of its own, and the image is valid
  pub in_again : (new : Own) → IsValid code (with_own new p img) → ProcessIsIn code (with_own new p img) p new.stacks new.rows new.regs
  in_again new v = record {
    valid = v;
    able = h.able;
    has = numbered_set img.regs p new.regs (counted p r img.regs h.has) (numbered_within img.regs p r h.has);
    stacks_are = refl;
    rows_are = refl;
  }

  same : with_own (own_of_image stacks rows r) p img ≡ img
  same =
      ap (λ (z : Stacks). with_own (own_of_image z rows r) p img) (sym h.stacks_are)
      ∙ ap (λ (z : Rows). with_own (own_of_image img.stacks z r) p img) (sym h.rows_are)
      ∙ ap (λ (rs : List Registers). record img { regs = rs }) (numbered_same img.regs p r h.has)

  -- ---- an action on words and rows

  module _ (new : Own) (op : Operator) (next : ℕ) (kind : WordsRow) (here : found code r.segment r.ll r.place ≡ Some (op, next))
      (is : row op r.place ≡ acts (words_program kind)) (few : length new.rows ≤ row_limit) (x : ProgramPerforms {A = Unit {0}} (words_program kind r next) (own_of_image stacks rows r) new (Ok (tt {0}))) where
    acted : ProgramActs {A = Unit {0}} p (program_in (words_program kind) (numbered img.regs p) next) img (with_own new p img) (Ok (tt {0}))
    acted =
        in_process p (words_program kind) (numbered img.regs p) r next img (with_own new p img) (Ok (tt {0})) h.has
        (acts_by p (words_program kind r next) (own_of_image stacks rows r) new img (Ok (tt {0})) h.stacks_are h.rows_are h.has x same)

    went : HasGone code img p (with_own new p img) []
    went =
        gone code img (with_own new p img) p r op next h.valid h.able h.has here refl few (ready.Words kind) is
        ((λ o. comes_by p (program_in (words_program kind) (numbered img.regs p) next) img (with_own new p img) (Ok (tt {0})) acted), refl)

    pub goes_on : (named : Letter) → HasLetter op r.place (ready.Words kind) → words_letter kind stacks r ≡ Some named → ActionGoesOn code p named img (with_own new p img)
    goes_on named lettered is_named =
        let stands = operator_is code img p r h.able h.has (op, next) here in
        record {
          action = not_plain code img p r op next (words_program kind) h.has stands is;
          letter_is = letter_by_row code img (with_own new p img) p r op next (ready.Words kind) h.has stands lettered went.came.0
              ∙ ap (λ (z : Stacks). words_letter kind z r) h.stacks_are ∙ is_named;
          gone = went;
          calm = record { states = refl; started = refl; fault = refl };
        }
