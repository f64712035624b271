-- The first image is valid, and each live process of a valid image stands.
use Rattle.std.proofs.Common.{◌≡◌, refl, sym, ap, ℕ, zero, suc, ◌+◌, ◌<◌, ◌≤◌, ◌^◌, Bool, true, false, List, [], ◌∷◌, length, All, Option, Some, None, ◌∙◌, arith, subst}
use Rattle.std.specs.Prelude.{nat_le, ◌&&◌, is_some}
use Rattle.std.proofs.lemmas.Bool.{leb-true}
use Rattle.std.proofs.lemmas.List.Elements.{All-nil}
use Rattle.b67_list.specs.Numbered.{numbered}
use Rattle.b67_list.proofs.Numbers.{some_same}
use Rattle.b67_word.specs.Word.{Word, IsWord}
use Rattle.b67_control.specs.declared.Registers.{Registers}
use Rattle.b67_control.specs.Control.{mscw_word, as_mscw, rcw_word, as_rcw, pcw_word}
use Rattle.b67_word.specs.Word.{field}
use Rattle.b67_segment.specs.declared.code.Segment.{Segment}
use Rattle.b67_segment.specs.declared.code.Code.{Code}
use Rattle.b67_store.specs.Store.{words_or, words_of, stack_at, row_words, count_limit}
use Rattle.b67_events.specs.Events.{Event, list_of, is_listed}
use Rattle.b67_events.specs.Once.{times_in}
use Rattle.b67_word.specs.declared.Place.{Place}
use Rattle.b67_control.specs.Control.{as_descriptor}
use Rattle.b67_table.specs.Chains.{place}
use Rattle.b67_table.specs.declared.ProcessState.TheVariants.{WaitsAny}
use Rattle.b67_table.specs.Image.{is_live}
use Rattle.b67_table.specs.Limits.{most_events}
use Rattle.b67_table.specs.Beginning.{first_image, first_registers, system_stack, base_frame}
use Rattle.b67_table.specs.Valid.{IsHeld, IsDisplay, IsFrame, IsProcess, AreRows, AreEvents, IsValid, is_no_mother, ValidStands}
use Rattle.b67_table.specs.Private.{floor}

-- numbers that a test compares
at_most : (a b : ℕ) → nat_le a b ≡ true → a ≤ b
at_most a b e = leb-true a b e

is_small : Word → Bool
is_small w = nat_le (w.tag + 1) 8 && nat_le (w.bits + 1) (2 ^ 48)

are_small : List Word → Bool
are_small [] = true
are_small (w ∷ ws) = is_small w && are_small ws

pub both : (a b : Bool) → a && b ≡ true → (a ≡ true) × (b ≡ true)
both true b e = (refl, e)
both false b e = cc

small_word : (w : Word) → is_small w ≡ true → IsWord w
unfolding is_small
small_word w e =
    let t = both (nat_le (w.tag + 1) 8) (nat_le (w.bits + 1) (2 ^ 48)) e in
    record { tag = omega (arith, at_most (w.tag + 1) 8 t.0); bits = omega (arith, at_most (w.bits + 1) (2 ^ 48) t.1) }

small_words : (ws : List Word) → are_small ws ≡ true → All IsWord ws
unfolding are_small
small_words [] e k d h = absurd (omega (arith, h))
small_words (w ∷ ws) e zero d h = small_word w (both (is_small w) (are_small ws) e).0
small_words (w ∷ ws) e (suc k) d h = small_words ws (both (is_small w) (are_small ws) e).1 k d (omega (arith, h))

first_words : (n : ℕ) → All IsWord (words_of first_image.stacks n)
unfolding first_image mscw_word rcw_word pcw_word are_small is_small
first_words zero = small_words system_stack refl
first_words (suc zero) = small_words base_frame refl
first_words (suc (suc n)) = small_words [] refl

-- ---- process 1

held : IsHeld (place 1 0)
held = record { stack = at_most 2 1024 refl; displacement = at_most 1 65536 refl }

all_held : All IsHeld (place 1 0 ∷ [])
all_held zero d h = held
all_held (suc k) d h = absurd (omega (arith, h))

first_is_display : IsDisplay first_registers.ll first_registers.display
first_is_display = record {
  frames = place 1 0 ∷ [];
  some = at_most 1 1 refl;
  each = refl;
  known = at_most 3 32 refl;
  held = all_held;
  is = refl;
}

first_is_frame : IsFrame first_image (place 1 0)
unfolding first_image mscw_word as_mscw rcw_word as_rcw field
first_is_frame = record {
  mark = record { entered = true; stack = 0; displacement = 0; df = 0 };
  marked = refl;
  entered = refl;
  control = record { segment = 0; psr = 0; pir = 0; caller_level = 0; caller_cells = 0; own_level = 2 };
  controlled = refl;
}

first_is_process : IsProcess first_image 1 first_registers
unfolding first_image
first_is_process = record {
  stack = refl;
  size = refl;
  room = at_most 2 65536 refl;
  display = first_is_display;
  frame = 0;
  own = refl;
  is_frame = first_is_frame;
  above = at_most 2 2 refl;
  mark = at_most 1 65536 refl;
  cells = at_most 0 511 refl;
  segment = at_most 1 1024 refl;
  pointer = at_most 1 65536 refl;
}

first_processes : (p : ℕ) (r : Registers) → is_live (numbered first_image.states p) ≡ true → numbered first_image.regs p ≡ Some r → IsProcess first_image p r
unfolding first_image
first_processes zero r l e = cc
first_processes (suc zero) r l e = subst (IsProcess first_image 1) (some_same first_registers r e) first_is_process
first_processes (suc (suc p)) r l e = cc

first_stacks : (p : ℕ) → 1 ≤ p → is_some (stack_at first_image.stacks p) ≡ is_live (numbered first_image.states p)
unfolding first_image
first_stacks zero h = absurd (omega (arith, h))
first_stacks (suc zero) h = refl
first_stacks (suc (suc p)) h = refl

critical_of_first : (r : Registers) → first_registers ≡ r → r.critical ≡ None
critical_of_first r e = ap (λ (x : Registers). x.critical) (sym e)

no_critical : (p : ℕ) (r : Registers) → r.critical ≡ None → (c : Place) → r.critical ≡ Some c → c.stack < p
no_critical p r e c i = cc

first_earlier : (p : ℕ) (r : Registers) → numbered first_image.regs p ≡ Some r → (c : Place) → r.critical ≡ Some c → c.stack < p
unfolding first_image
first_earlier zero r e c i = cc
first_earlier (suc zero) r e c i = no_critical 1 r (critical_of_first r (some_same first_registers r e)) c i
first_earlier (suc (suc p)) r e c i = cc

-- ---- rows and events

no_row : (n : ℕ) → All IsWord (row_words [] n)
no_row n k d h = absurd (omega (arith, h))

no_words : (n : ℕ) → All (λ (w : Word). is_no_mother (as_descriptor w) ≡ true) (row_words [] n)
no_words n k d h = absurd (omega (arith, h))

no_length : (n : ℕ) → length (row_words [] n) ≤ count_limit
no_length n = at_most 0 1048576 refl

first_rows : AreRows first_image
unfolding first_image
first_rows = record { few = at_most 0 4194304 refl; room = at_most 0 1048576 refl; short = no_length; words = no_row; shallow = no_words }

first_listed : (p : ℕ) → is_listed p first_image.lists ≡ true → numbered first_image.states p ≡ Some WaitsAny
unfolding first_image
first_listed zero e = cc
first_listed (suc p) e = cc

first_short : (p : ℕ) → length (list_of p first_image.lists) ≤ most_events
unfolding first_image
first_short zero = at_most 0 8 refl
first_short (suc p) = at_most 0 8 refl

all_positions : All (λ (n : ℕ). n ≤ most_events) (0 ∷ [])
all_positions zero d h = at_most 0 8 refl
all_positions (suc k) d h = absurd (omega (arith, h))

first_events : AreEvents first_image.events first_image.lists first_image.states
unfolding first_image
first_events = record {
  apart = tt;
  once = record { waiting = λ p. All-nil (λ (e : Event). times_in p e.state.waiters ≤ 1); procuring = λ p. omega arith };
  waiters = λ p at e. cc;
  procurers = λ p at e. cc;
  listed = first_listed;
  short = first_short;
}

pub first_is_valid : (code : Code) → All (λ (s : Segment). length s.words ≤ 8192) code.segments → IsValid code first_image
unfolding first_image
first_is_valid code small = record {
  segments = small;
  words = first_words;
  registers = refl;
  states = refl;
  numbers = refl;
  positions = all_positions;
  some = at_most 1 1 refl;
  most = at_most 1 256 refl;
  system = refl;
  stacks = first_stacks;
  processes = first_processes;
  earlier = first_earlier;
  rows = first_rows;
  events = first_events;
}

-- ---- each live process of a valid image

pub open_is : (o : Option (List Word)) → is_some o ≡ true → o ≡ Some (words_or o)
open_is None e = cc
open_is (Some words) e = refl

pub counted : (p : ℕ) (r : Registers) (rs : List Registers) → numbered rs p ≡ Some r → 1 ≤ p
counted zero r rs e = cc
counted (suc k) r rs e = omega arith

pub valid_stands : ValidStands
valid_stands code img p r v live has =
    let q : IsProcess img p r = v.processes p r live has in
    let opened : stack_at img.stacks r.stack ≡ Some (words_of img.stacks r.stack) =
    subst (λ (n : ℕ). stack_at img.stacks n ≡ Some (words_of img.stacks n)) (sym q.stack)
    (open_is (stack_at img.stacks p) (v.stacks p (counted p r img.regs has) ∙ live)) in
    record {
      live = live;
      has = has;
      words = words_of img.stacks r.stack;
      opened = opened;
      high = subst (λ (n : ℕ). floor r ≤ length (words_of img.stacks n)) (sym q.stack) (subst (λ (n : ℕ). floor r ≤ n) q.size q.above);
    }
