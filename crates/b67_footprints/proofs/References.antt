-- The words on top, the cells that references name, and what they reach.
use Rattle.std.proofs.Common.{◌≡◌, refl, subst, ℕ, ◌+◌, ◌-◌, Option, Some, None, Bool, true, false, cond}
use Rattle.std.specs.Prelude.{nat_le, nat_eq}
use Rattle.std.proofs.lemmas.Bool.{eqb-true}
use Rattle.b67_word.specs.Word.{Word}
use Rattle.b67_control.specs.declared.Registers.{Registers}
use Rattle.b67_control.specs.declared.Descriptor.{Descriptor}
use Rattle.b67_control.specs.declared.Sirw.{Sirw}
use Rattle.b67_control.specs.Control.{as_sirw, as_descriptor}
use Rattle.b67_ops.specs.declared.Operator.{Operator}
use Rattle.b67_store.specs.Store.{word_at}
use Rattle.b67_table.specs.declared.Cell.{Cell}
use Rattle.b67_table.specs.declared.Reached.{Reached}
use Rattle.b67_table.specs.declared.InterruptKind.TheVariants.{InvalidOperand, StackUnderflow}
use Rattle.b67_table.specs.Private.{floor}
use Rattle.b67_table.specs.Image.{Image}
use Rattle.b67_table.specs.Look.{found, stops, valid}
use Rattle.b67_table.specs.Chains.{place}
use Rattle.b67_table.specs.References.{cell_place, sirw_cell, reached_in, named, no_second, one_sirw, reached, need, from_top, popped, Two, popped_two, operand_in, invalid}
use Rattle.b67_footprints.specs.Reaching.{OperatorFollows, NamesCell, by_reference, OperatorReaches, own_word, cell_word, ReachesRow, from_stack, from_cell}
use Rattle.b67_footprints.proofs.Going.{LookKeeps, look_then, look_by, look_there}

module _ (img : Image) (op : Operator) (r : Registers) where
  -- ---- words of the own stack

  -- the word lies at this displacement in the own stack
  abbrev pub IsAt : ℕ → Word → Type 0
  IsAt n w = word_at img.stacks (place r.stack n) ≡ Some w

  pub own_at : (n : ℕ) → OperatorReaches img op r (place r.stack n)
  own_at n = own_word refl

  top_kept : (n : ℕ) → LookKeeps img op r (IsAt (r.s - (n + 1))) (from_top r n)
  top_kept n =
      (own_at (r.s - (n + 1)), look_there img op r (IsAt (r.s - (n + 1))) InvalidOperand (word_at img.stacks (place r.stack (r.s - (n + 1)))) (λ w e. e))

  pub popped_kept : LookKeeps img op r (IsAt (r.s - 1)) (popped r)
  popped_kept = look_by img op r (IsAt (r.s - 1)) (nat_le (floor r + 1) r.s) (from_top r 0) (stops StackUnderflow) (top_kept 0) tt

  pub record AreTop (t : Two) : Type 0 where
    pub x : IsAt (r.s - 1) t.x
    pub y : IsAt (r.s - 2) t.y

  pub two_kept : LookKeeps img op r AreTop (popped_two r)
  two_kept =
      look_then img op r (IsAt (r.s - 1)) AreTop (need r 2 (from_top r 0)) _
      (look_by img op r (IsAt (r.s - 1)) (nat_le (floor r + 2) r.s) (from_top r 0) (stops StackUnderflow) (top_kept 0) tt) (λ x i.
      look_then img op r (IsAt (r.s - 2)) AreTop (from_top r 1) _ (top_kept 1) (λ y j. record { x = i; y = j }))

  -- ---- cells

  -- the word lies in a cell that is named
  pub record IsReached (v : Reached) : Type 0 where
    pub names : NamesCell img op r v.cell
    pub there : word_at img.stacks (cell_place v.cell) ≡ Some v.word

  in_cell : (c : Cell) (o : Option Word) → NamesCell img op r c → word_at img.stacks (cell_place c) ≡ o → LookKeeps img op r IsReached (reached_in c o)
  in_cell c None i e = tt
  in_cell c (Some w) i e = record { names = i; there = e }

  pub named_kept : (o : Option Cell) → ((c : Cell) → o ≡ Some c → NamesCell img op r c) → LookKeeps img op r IsReached (named o)
  named_kept None k = tt
  named_kept (Some c) k = (cell_word c (k c refl), in_cell c (word_at img.stacks (cell_place c)) (k c refl) refl)

  second_kept : (o : Option Sirw) (v : Reached) → IsReached v → LookKeeps img op r IsReached (no_second o v)
  second_kept None v i = i
  second_kept (Some s) v i = tt

  through : (s : Sirw) → NamesCell img op r (sirw_cell s) → (c : Cell) → Some (sirw_cell s) ≡ Some c → NamesCell img op r c
  through s i c e = let same : sirw_cell s ≡ c = cc in subst (NamesCell img op r) same i

  one_kept : OperatorFollows op → (o : Option Sirw) (v : Reached) → as_sirw v.word ≡ o → IsReached v → LookKeeps img op r IsReached (one_sirw o v)
  one_kept follows None v e i = i
  one_kept follows (Some s) v e i =
      look_then img op r IsReached IsReached (named (Some (sirw_cell s))) (λ (x : Reached). no_second (as_sirw x.word) x)
      (named_kept (Some (sirw_cell s)) (through s (by_reference v.word s follows i.names i.there e))) (λ x k. second_kept (as_sirw x.word) x k)

  pub reached_kept : OperatorFollows op → (o : Option Cell) → ((c : Cell) → o ≡ Some c → NamesCell img op r c) → LookKeeps img op r IsReached (reached o)
  reached_kept follows o k =
      look_then img op r IsReached IsReached (named o) (λ (v : Reached). one_sirw (as_sirw v.word) v) (named_kept o k)
      (λ v i. one_kept follows (as_sirw v.word) v refl i)

  -- ---- what words are

  pub operand_kept : (w : Word) → LookKeeps img op r (λ (v : Word). w.tag ≡ 0) (operand_in w)
  operand_kept w = by_tag (nat_eq w.tag 0) refl
    where
      by_tag : (b : Bool) → nat_eq w.tag 0 ≡ b → LookKeeps img op r (λ (v : Word). w.tag ≡ 0) (cond b (found w) invalid)
      by_tag true e = eqb-true w.tag 0 e
      by_tag false e = tt

  pub valid_kept : {A : Type 0} (o : Option A) → LookKeeps img op r (λ (a : A). o ≡ Some a) (valid o)
  valid_kept {A} o = look_there img op r (λ (a : A). o ≡ Some a) InvalidOperand o (λ a e. e)

  -- a word whose row the operator reaches, where it describes one
  abbrev pub IsDescribed : Word → Type 0
  IsDescribed w = (d : Descriptor) → as_descriptor w ≡ Some d → ReachesRow img op r d.address

  pub top_described : (n : ℕ) (w : Word) → IsAt n w → IsDescribed w
  top_described n w i d e = from_stack n w d i e

  pub reached_described : (v : Reached) → IsReached v → IsDescribed v.word
  reached_described v i d e = from_cell v.cell v.word d i.names i.there e
