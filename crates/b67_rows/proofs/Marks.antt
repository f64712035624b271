-- The marks that lie above the floor of a frame lead down to its own mark.
use Rattle.std.proofs.Common.{◌≡◌, refl, sym, ap, ◌∙◌, ℕ, zero, suc, ◌+◌, ◌-◌, ◌≤◌, ◌<◌, ◌^◌, List, [], ◌∷◌, ◌++◌, length, Option, Some, Bool, true, Ok, arith, append_assoc}
use Rattle.b67_rows.proofs.Prelude.{if◌then◌else◌, nat_le, ◌&&◌, slice_get, reverse, Scopes, Word, Place, as_mscw, as_rcw, Mscw, Rcw, Stacks, word_at, place, control_at, frame_below, left_to, chain_broken, Look, found, ◌>->◌, chained, read_as, look_seen, Below, then_seen, Slot, operand, Known, newest, SlotsAre}
use Rattle.b67_table.specs.Chains.{below, entered_from, entered_below, if_apart}
use Rattle.b67_standing.specs.Stepping.{reference, intrinsic, control, descriptor, mark}
use Rattle.b67_cores.proofs.Moving.{slots_length}
use Rattle.b67_cores.proofs.Operating.{newest_low}
use Rattle.b67_rows.proofs.StackWords.{word_under}
use Rattle.b67_rows.proofs.StoreRow.{most_is}
use Rattle.b67_rows.proofs.Words.{mark_read}

-- In a stack these words lie above a floor, and a frame's own mark, with a control word, lies below it.
pub record Above (stacks : Stacks) (stack home : ℕ) (lower words : List Word) : Type 0 where
  pub lies : (n : ℕ) (x : Word) → slice_get (lower ++ reverse words) n ≡ Some x → word_at stacks (place stack n) ≡ Some x
  pub own : Mscw
  pub marked : read_as as_mscw (word_at stacks (place stack home)) ≡ Some own
  pub entered : own.entered ≡ true
  pub control : Rcw
  pub controlled : read_as as_rcw (word_at stacks (place stack (home + 1))) ≡ Some control
  pub low : home < length lower

module _ (sc : Scopes) (known : List Known) (level : ℕ) (stacks : Stacks) (stack home : ℕ) (lower all : List Word) (above : Above stacks stack home lower all) where
  abbrev base : ℕ
  base = length lower

  abbrev on_mark : ℕ → ℕ → Mscw → Look ℕ
  on_mark here steps m = if m.entered then found here else below here m.df (entered_from steps stack)

  -- from the newest mark the marks lead to the frame's own
  walk : (slots : List Slot) (front words : List Word) → all ≡ front ++ words → SlotsAre sc known level home base slots words → base + length slots ≤ 2 ^ 16 → (steps : ℕ) → newest home base slots < steps →
      look_seen stacks (entered_from steps stack (newest home base slots)) ≡ Ok home
  walk slots front words is are small zero few = absurd (omega (arith, few))
  walk [] front words is are small (suc steps) few =
      ap (λ (o : Option Mscw). look_seen stacks (chained o >-> on_mark home steps)) above.marked
      ∙ ap (λ (b : Bool). look_seen stacks (if b then found home else below home above.own.df (entered_from steps stack))) above.entered
  walk (slot ∷ slots) front [] is are small (suc steps) few = absurd are
  walk (operand v ∷ slots) front (x ∷ ws) is are small (suc steps) few =
      walk slots (front ++ x ∷ []) ws (is ∙ sym (append_assoc front (x ∷ []) ws)) are.1 (omega (arith, small)) (suc steps) few
  walk (reference n ∷ slots) front (x ∷ ws) is are small (suc steps) few =
      walk slots (front ++ x ∷ []) ws (is ∙ sym (append_assoc front (x ∷ []) ws)) are.1 (omega (arith, small)) (suc steps) few
  walk (intrinsic i ∷ slots) front (x ∷ ws) is are small (suc steps) few =
      walk slots (front ++ x ∷ []) ws (is ∙ sym (append_assoc front (x ∷ []) ws)) are.1 (omega (arith, small)) (suc steps) few
  walk (control c ∷ slots) front (x ∷ ws) is are small (suc steps) few =
      walk slots (front ++ x ∷ []) ws (is ∙ sym (append_assoc front (x ∷ []) ws)) are.1 (omega (arith, small)) (suc steps) few
  walk (descriptor h ∷ slots) front (x ∷ ws) is are small (suc steps) few =
      walk slots (front ++ x ∷ []) ws (is ∙ sym (append_assoc front (x ∷ []) ws)) are.1 (omega (arith, small)) (suc steps) few
  walk (mark ∷ slots) front (x ∷ ws) is are small (suc steps) few =
      let there : word_at stacks (place stack here) ≡ Some x =
      above.lies here x (ap (λ (zs : List Word). slice_get (lower ++ reverse zs) here) is ∙ word_under lower front x ws here (omega (arith, slots_length sc known level home base slots ws are.1))) in
      ap (λ (o : Option Word). look_seen stacks (chained (read_as as_mscw o) >-> on_mark here steps)) there
      ∙ ap (λ (o : Option Mscw). look_seen stacks (chained o >-> on_mark here steps)) (ap as_mscw are.0 ∙ mark_read df (omega (arith, small)))
      ∙ ap (λ (b : Bool). look_seen stacks (if b && nat_le df here then entered_from steps stack (here - df) else chain_broken)) (most_is 1 df (omega (arith, lowest)))
      ∙ ap (λ (b : Bool). look_seen stacks (if b then entered_from steps stack (here - df) else chain_broken)) (most_is df here (omega arith))
      ∙ ap (λ (n : ℕ). look_seen stacks (entered_from steps stack n)) back
      ∙ walk slots (front ++ x ∷ []) ws (is ∙ sym (append_assoc front (x ∷ []) ws)) are.1 (omega (arith, small)) steps (omega (arith, few, lowest))
    where
      here : ℕ
      here = base + length slots

      df : ℕ
      df = here - newest home base slots

      lowest : newest home base slots < here
      lowest = newest_low home base slots above.low

      back : here - df ≡ newest home base slots
      back = omega (arith, lowest)

  module _ (f : ℕ) (own : Mscw) (marked : read_as as_mscw (word_at stacks (place stack f)) ≡ Some own) (back : Rcw) (controlled : read_as as_rcw (word_at stacks (place stack (f + 1))) ≡ Some back)
      (slots : List Slot) (are : SlotsAre sc known level home base slots all) (small : base + length slots ≤ 2 ^ 16) (far : own.df + newest home base slots ≡ f) (apart : home + 2 + back.caller_cells ≤ f) where
    abbrev pub below_is : Below
    below_is = record { mark = newest home base slots; frame = home; control = back }

    abbrev apart_at : ℕ → ℕ → Look Below
    apart_at newest_mark lowest = control_at (place stack lowest) >-> (λ (unused : Rcw). if_apart f (record { mark = newest_mark; frame = lowest; control = back }))

    abbrev with_control : Mscw → Rcw → Look Below
    with_control m c =
        (if nat_le m.df f then entered_below stack (f - m.df) else chain_broken) >-> (λ (lowest : ℕ). control_at (place stack lowest) >-> (λ (unused : Rcw).
        if_apart f (record { mark = f - m.df; frame = lowest; control = c })))

    -- the marks below a frame lead to that of the frame around, and its control word back
    pub left_seen : look_seen stacks (left_to (place stack f)) ≡ Ok below_is
    left_seen =
        ap (λ (o : Option Mscw). look_seen stacks (chained o >-> (λ (m : Mscw). control_at (place stack f) >-> with_control m))) marked
        ∙ ap (λ (o : Option Rcw). look_seen stacks (chained o >-> with_control own)) controlled
        ∙ ap (λ (b : Bool). look_seen stacks ((if b then entered_below stack (f - own.df) else chain_broken) >-> apart_at (f - own.df))) (most_is own.df f (omega (arith, far)))
        ∙ ap (λ (n : ℕ). look_seen stacks (entered_below stack n >-> apart_at n)) newest_is
        ∙ then_seen stacks (entered_below stack (newest home base slots)) home (apart_at (newest home base slots))
        (walk slots [] all refl are small (newest home base slots + 1) (omega arith))
        ∙ ap (λ (o : Option Rcw). look_seen stacks (chained o >-> (λ (unused : Rcw). if_apart f below_is))) above.controlled
        ∙ ap (λ (b : Bool). look_seen stacks (if b then found below_is else chain_broken)) (most_is (home + 2 + back.caller_cells) f apart)
      where
        newest_is : f - own.df ≡ newest home base slots
        newest_is = omega (arith, far)

  -- so they do where only that frame is looked for
  module _ (f : ℕ) (own : Mscw) (marked : read_as as_mscw (word_at stacks (place stack f)) ≡ Some own) (slots : List Slot) (are : SlotsAre sc known level home base slots all) (small : base + length slots ≤ 2 ^ 16)
      (far : own.df + newest home base slots ≡ f) (some : 1 ≤ own.df) where
    abbrev to_place : ℕ → Look Place
    to_place lowest = found (place stack lowest)

    pub under_seen : look_seen stacks (frame_below (place stack f)) ≡ Ok (place stack home)
    under_seen =
        ap (λ (o : Option Mscw). look_seen stacks (chained o >-> (λ (m : Mscw). below f m.df (entered_below stack) >-> to_place))) marked
        ∙ ap (λ (b : Bool). look_seen stacks ((if b && nat_le own.df f then entered_below stack (f - own.df) else chain_broken) >-> to_place)) (most_is 1 own.df some)
        ∙ ap (λ (b : Bool). look_seen stacks ((if b then entered_below stack (f - own.df) else chain_broken) >-> to_place)) (most_is own.df f (omega (arith, far)))
        ∙ ap (λ (n : ℕ). look_seen stacks (entered_below stack n >-> to_place)) newest_is
        ∙ then_seen stacks (entered_below stack (newest home base slots)) home to_place (walk slots [] all refl are small (newest home base slots + 1) (omega arith))
      where
        newest_is : f - own.df ≡ newest home base slots
        newest_is = omega (arith, far)
