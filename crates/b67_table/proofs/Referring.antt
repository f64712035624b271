-- What references lead to in a valid image, and the words on top.
use Rattle.std.proofs.Common.{◌≡◌, refl, subst, ◌∙◌, ℕ, ◌+◌, ◌-◌, ◌<◌, ◌≤◌, ◌^◌, true, Option, Some, None, Ok, Err}
use Rattle.std.specs.Prelude.{nat_le, nat_eq}
use Rattle.std.proofs.lemmas.Bool.{leb-true, eqb-true}
use Rattle.b67_list.specs.Numbered.{numbered}
use Rattle.b67_word.specs.declared.Place.{Place}
use Rattle.b67_word.specs.Word.{Word, IsWord}
use Rattle.b67_control.specs.declared.Registers.{Registers}
use Rattle.b67_control.specs.declared.Irw.{Irw}
use Rattle.b67_control.specs.declared.Sirw.{Sirw}
use Rattle.b67_control.specs.Control.{as_irw, as_sirw}
use Rattle.b67_control.proofs.ControlLaws.{Fits_as_irw, Fits_as_sirw}
use Rattle.b67_segment.specs.declared.code.Code.{Code}
use Rattle.b67_store.specs.Store.{word_at, words_of}
use Rattle.b67_table.specs.declared.Cell.{Cell}
use Rattle.b67_table.specs.declared.Reached.{Reached}
use Rattle.b67_table.specs.declared.InterruptKind.TheVariants.{InvalidOperand, StackUnderflow}
use Rattle.b67_table.specs.Private.{display_at, floor}
use Rattle.b67_table.specs.Look.{found, stops, look_seen, valid}
use Rattle.b67_table.specs.Chains.{place}
use Rattle.b67_table.specs.References.{cell_place, cell_in, couple_cell, sirw_cell, irw_or_sirw, cell_of, reached_in, named, no_second, one_sirw, reached, need, from_top, popped, Two, popped_two, operand_in, invalid}
use Rattle.b67_table.specs.Image.{Image, is_live}
use Rattle.b67_table.specs.Valid.{IsHeld, IsValid, IsProcess}
use Rattle.b67_table.proofs.Finding.{Found, look_then, there_found, found_by}
use Rattle.b67_table.proofs.PrivateValid.{get_all, display_held}

-- the numbers of a cell that a reference can hold
pub record IsCell (c : Cell) : Type 0 where
  pub frame : IsHeld c.frame
  pub index : c.index < 2 ^ 14

module _ (code : Code) (img : Image) (p : ℕ) (r : Registers) (v : IsValid code img) (live : is_live (numbered img.states p) ≡ true)
    (has : numbered img.regs p ≡ Some r) where
  own : IsProcess img p r
  own = v.processes p r live has

  pub word_is : (x : Place) (w : Word) → word_at img.stacks x ≡ Some w → IsWord w
  word_is x w e = get_all IsWord (words_of img.stacks x.stack) x.at w (v.words x.stack) e

  pub seen_held : (level : ℕ) (f : Place) → display_at r level ≡ Some f → IsHeld f
  seen_held level f e = display_held r.ll r.display own.display level f e

  -- ---- cells

  cell_in_is : (o : Option Place) (index : ℕ) (c : Cell) → ((f : Place) → o ≡ Some f → IsHeld f) → index < 2 ^ 14 → cell_in o index ≡ Some c → IsCell c
  cell_in_is None index c held h e = cc
  cell_in_is (Some f) index c held h e =
      let same : record { frame = f; index = index } ≡ c = cc in subst IsCell same (record { frame = held f refl; index = h })

  pub couple_is : (level index : ℕ) (c : Cell) → index < 2 ^ 14 → couple_cell r level index ≡ Some c → IsCell c
  couple_is level index c h e = cell_in_is (display_at r level) index c (seen_held level) h e

  sirw_is : (w : Word) (s : Sirw) → as_sirw w ≡ Some s → IsCell (sirw_cell s)
  sirw_is w s e = let f = Fits_as_sirw w e in record { frame = record { stack = f.0; displacement = f.1.0 }; index = f.1.1.0 }

  either_is : (w : Word) (i : Option Irw) (s : Option Sirw) (c : Cell) → as_irw w ≡ i → as_sirw w ≡ s → irw_or_sirw r i s ≡ Some c → IsCell c
  either_is w (Some i) s c j k e = couple_is i.level i.index c (Fits_as_irw w j).1.0 e
  either_is w None (Some s) c j k e = let same : sirw_cell s ≡ c = cc in subst IsCell same (sirw_is w s k)
  either_is w None None c j k e = cc

  pub cell_is : (w : Word) (c : Cell) → cell_of r w ≡ Some c → IsCell c
  cell_is w c e = either_is w (as_irw w) (as_sirw w) c refl refl e

  -- ---- what is reached

  pub record IsReached (w : Reached) : Type 0 where
    pub there : word_at img.stacks (cell_place w.cell) ≡ Some w.word
    pub cell : IsCell w.cell

  reached_by : (c : Cell) (o : Option Word) → IsCell c → word_at img.stacks (cell_place c) ≡ o → Found IsReached (look_seen img.stacks (reached_in c o))
  reached_by c None i e = tt
  reached_by c (Some w) i e = record { there = e; cell = i }

  pub named_found : (o : Option Cell) → ((c : Cell) → o ≡ Some c → IsCell c) → Found IsReached (look_seen img.stacks (named o))
  named_found None k = tt
  named_found (Some c) k = reached_by c (word_at img.stacks (cell_place c)) (k c refl) refl

  second_found : (o : Option Sirw) (w : Reached) → IsReached w → Found IsReached (look_seen img.stacks (no_second o w))
  second_found None w i = i
  second_found (Some s) w i = tt

  sirw_found : (o : Option Sirw) (w : Reached) → as_sirw w.word ≡ o → IsReached w → Found IsReached (look_seen img.stacks (one_sirw o w))
  sirw_found None w e i = i
  sirw_found (Some s) w e i =
      look_then img.stacks IsReached IsReached (named (Some (sirw_cell s))) (λ (x : Reached). no_second (as_sirw x.word) x)
      (reached_by (sirw_cell s) (word_at img.stacks (cell_place (sirw_cell s))) (sirw_is w.word s e) refl)
      (λ x k. second_found (as_sirw x.word) x k)

  pub reached_found : (o : Option Cell) → ((c : Cell) → o ≡ Some c → IsCell c) → Found IsReached (look_seen img.stacks (reached o))
  reached_found o k =
      look_then img.stacks IsReached IsReached (named o) (λ (w : Reached). one_sirw (as_sirw w.word) w) (named_found o k)
      (λ w i. sirw_found (as_sirw w.word) w refl i)

  -- ---- words on top

  valid_word : (x : Place) (o : Option Word) → word_at img.stacks x ≡ o → Found IsWord (look_seen img.stacks (valid o))
  valid_word x o e = there_found img.stacks IsWord InvalidOperand o (λ w i. word_is x w (e ∙ i))

  pub top_found : (n : ℕ) → Found IsWord (look_seen img.stacks (from_top r n))
  top_found n = valid_word (place r.stack (r.s - (n + 1))) (word_at img.stacks (place r.stack (r.s - (n + 1)))) refl

  with_room : (n : ℕ) (e : _) → floor r + n ≤ r.s → Found IsWord e → Found (λ (w : Word). IsWord w × (floor r + n ≤ r.s)) e
  with_room n (Ok w) h i = (i, h)
  with_room n (Err kind) h i = tt

  need_found : (n k : ℕ) → Found (λ (w : Word). IsWord w × (floor r + n ≤ r.s)) (look_seen img.stacks (need r n (from_top r k)))
  need_found n k =
      found_by img.stacks (λ (w : Word). IsWord w × (floor r + n ≤ r.s)) (nat_le (floor r + n) r.s) (from_top r k) (stops StackUnderflow)
      (λ b. with_room n _ (leb-true (floor r + n) r.s b) (top_found k)) (λ b. tt)

  pub popped_found : Found (λ (w : Word). IsWord w × (floor r + 1 ≤ r.s)) (look_seen img.stacks (popped r))
  popped_found = need_found 1 0

  pub record IsTwo (t : Two) : Type 0 where
    pub x : IsWord t.x
    pub y : IsWord t.y
    pub high : floor r + 2 ≤ r.s

  pub two_found : Found IsTwo (look_seen img.stacks (popped_two r))
  two_found =
      look_then img.stacks (λ (w : Word). IsWord w × (floor r + 2 ≤ r.s)) IsTwo (need r 2 (from_top r 0)) _ (need_found 2 0) (λ x i.
      look_then img.stacks IsWord IsTwo (from_top r 1) _ (top_found 1) (λ y j. record { x = i.0; y = j; high = i.1 }))

  -- an operand
  pub operand_found : (w : Word) → IsWord w → Found (λ (o : Word). IsWord o × (o.tag ≡ 0)) (look_seen img.stacks (operand_in w))
  operand_found w i =
      found_by img.stacks (λ (o : Word). IsWord o × (o.tag ≡ 0)) (nat_eq w.tag 0) (found w) invalid (λ b. (i, eqb-true w.tag 0 b)) (λ b. tt)
