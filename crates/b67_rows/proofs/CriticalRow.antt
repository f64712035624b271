-- On which frame a process depends that is started: the first of those that it refers to, on the path down from the frame of its starter.
use Rattle.std.proofs.Common.{◌≡◌, ◌⊎◌, inl, inr, refl, sym, ap, ◌∙◌, ℕ, zero, suc, ◌+◌, ◌<◌, ◌≤◌, List, [], ◌∷◌, Option, Some, Bool, true, false, Ok, arith}
use Rattle.b67_list.proofs.Truths.{or_either, or_left, or_right}
use Rattle.b67_rows.proofs.Prelude.{nat_tests, if◌then◌else◌, nat_eq, Place, frame_below, gives, Image, critical_of, look_seen, Test, answer, asked, ◌>>=◌, see, on_path, see_found}
use Rattle.b67_events.specs.Events.{same_place}
use Rattle.b67_events.proofs.Listed.{same_place_true, same_place_self}
use Rattle.b67_table.specs.Program.{critical}
use Rattle.b67_table.specs.Starting.{is_among, down, or_none}
use Rattle.b67_rows.proofs.LeaveRow.{not_zero}

-- ---- among places

abbrev pub IsAmongPlaces : List Place → Place → Type 0
IsAmongPlaces [] f = ⊥
IsAmongPlaces (x ∷ places) f = (x ≡ f) ⊎ IsAmongPlaces places f

pub among_true : (places : List Place) (f : Place) → IsAmongPlaces places f → is_among places f ≡ true
among_true [] f there = absurd there
among_true (x ∷ places) f (inl same) = or_left (same_place f x) (is_among places f) (same_place_self f x (sym same))
among_true (x ∷ places) f (inr later) = or_right (same_place f x) (is_among places f) (among_true places f later)

pub among_back : (places : List Place) (f : Place) → is_among places f ≡ true → IsAmongPlaces places f
among_back [] f e = cc
among_back (x ∷ places) f e = by (or_either (same_place f x) (is_among places f) e) (λ later. among_back places f later)
  where
    by : (same_place f x ≡ true) ⊎ (is_among places f ≡ true) → (is_among places f ≡ true → IsAmongPlaces places f) → IsAmongPlaces (x ∷ places) f
    by (inl same) back = inl (sym (same_place_true f x same))
    by (inr later) back = inr (back later)

pub among_false : (places : List Place) (f : Place) → (IsAmongPlaces places f → ⊥) → is_among places f ≡ false
among_false places f none = by (is_among places f) refl
  where
    by : (b : Bool) → is_among places f ≡ b → is_among places f ≡ false
    by true e = absurd (none (among_back places f e))
    by false e = e

-- ---- the path

module _ (img : Image) where
  -- From a frame the path leads to the one under it in its stack, and from a base frame to the one on which its process depends, which lies in
  -- the stack of an earlier process.
  pub data LeadsDown : Place → Place → Type 0 where
    under : {f lower : Place} → 1 ≤ f.at → look_seen img.stacks (frame_below f) ≡ Ok lower → lower.stack ≡ f.stack → lower.at < f.at → LeadsDown f lower
    across : {f lower : Place} → f.at ≡ 0 → critical_of img.regs f.stack ≡ Some lower → 1 ≤ lower.stack → lower.stack < f.stack → LeadsDown f lower

  -- the first of these frames on the path from one
  pub data FirstDown (wanted : List Place) : Place → Place → Type 0 where
    this_frame : {f : Place} → IsAmongPlaces wanted f → FirstDown wanted f f
    lower_frame : {f lower c : Place} → (IsAmongPlaces wanted f → ⊥) → LeadsDown f lower → FirstDown wanted lower c → FirstDown wanted f c

base_is : (n : ℕ) → n ≡ 0 → nat_eq n 0 ≡ true
base_is n h = grind (arith, nat_tests)

module _ (img : Image) (wanted : List Place) where
  -- from a base frame the walk goes on in another stack
  abbrev in_another : ℕ → Option Place → Test (Option Place)
  in_another stacks c = or_none c (λ (lower : Place). on_path stacks wanted lower)

  abbrev beyond : ℕ → ℕ → Test (Option Place)
  beyond stacks stack = critical stack (in_another stacks)

  -- what is done at a frame, by whether it is one of them, and whether it is a base frame
  abbrev at_frame : ℕ → ℕ → Place → Bool → Bool → Test (Option Place)
  at_frame stacks steps f among base = if among then answer (Some f) else if base then beyond stacks f.stack else see (frame_below f) >>= (λ (lower : Place). down steps wanted lower (beyond stacks f.stack))

  walk : (f c : Place) → FirstDown img wanted f c → (stacks steps : ℕ) → f.stack ≤ suc stacks → f.at < steps → asked img (down steps wanted f (beyond stacks f.stack)) ≡ gives (Some c)
  walk f c first stacks zero high low = absurd (omega (arith, low))
  walk f c (this_frame is) stacks (suc steps) high low = ap (λ (b : Bool). asked img (at_frame stacks steps f b (nat_eq f.at 0))) (among_true wanted f is)
  walk f c (lower_frame {lower} none (under above leads own lower_at) first) stacks (suc steps) high low =
      ap (λ (b : Bool). asked img (at_frame stacks steps f b (nat_eq f.at 0))) (among_false wanted f none)
      ∙ ap (λ (b : Bool). asked img (at_frame stacks steps f false b)) (not_zero f.at above)
      ∙ see_found img (frame_below f) lower (λ (x : Place). down steps wanted x (beyond stacks f.stack)) leads
      ∙ ap (λ (n : ℕ). asked img (down steps wanted lower (beyond stacks n))) (sym own)
      ∙ walk lower c first stacks steps (omega (arith, own, high)) (omega (arith, lower_at, low))
  walk f c (lower_frame {lower} none (across base depends some earlier) first) zero (suc steps) high low = absurd (omega (arith, some, earlier, high))
  walk f c (lower_frame {lower} none (across base depends some earlier) first) (suc stacks) (suc steps) high low =
      ap (λ (b : Bool). asked img (at_frame (suc stacks) steps f b (nat_eq f.at 0))) (among_false wanted f none)
      ∙ ap (λ (b : Bool). asked img (at_frame (suc stacks) steps f false b)) (base_is f.at base)
      ∙ ap (λ (o : Option Place). asked img (in_another (suc stacks) o)) depends
      ∙ walk lower c first stacks (lower.at + 1) (omega (arith, earlier, high)) (omega arith)

  -- the walk finds it
  pub critical_found : (stacks : ℕ) (f c : Place) → FirstDown img wanted f c → 1 ≤ f.stack → f.stack ≤ stacks → asked img (on_path stacks wanted f) ≡ gives (Some c)
  critical_found zero f c first some few = absurd (omega (arith, some, few))
  critical_found (suc stacks) f c first some few = walk f c first stacks (f.at + 1) few (omega arith)
