-- Leaving frames keeps an image valid.
use Rattle.std.proofs.Common.{◌≡◌, refl, sym, ap, subst, ◌∙◌, ℕ, ◌≤◌, Bool, true, false, List, [], ◌∷◌, length, All, Option, Some, None, cond, arith}
use Rattle.std.specs.Prelude.{is_some}
use Rattle.std.proofs.lemmas.List.Elements.{All-nil}
use Rattle.std.proofs.Math.Decide.{ℕ_discrete}
use Rattle.b67_list.specs.Numbered.{numbered, set_numbered}
use Rattle.b67_list.proofs.Truths.{not_both}
use Rattle.b67_word.specs.declared.Place.{Place}
use Rattle.b67_word.specs.Word.{Word, IsWord}
use Rattle.b67_control.specs.declared.Registers.{Registers}
use Rattle.b67_control.specs.declared.Descriptor.{Descriptor}
use Rattle.b67_control.specs.Control.{as_descriptor}
use Rattle.b67_segment.specs.declared.code.Code.{Code}
use Rattle.b67_store.specs.Store.{Row, row_at, row_words_or, stack_at, words_of, words_or, closed_at}
use Rattle.b67_store.proofs.StoreLaws.{closed_here, changed_others}
use Rattle.b67_deeds.specs.declared.EventAct.TheVariants as act
use Rattle.b67_deeds.specs.Deeds.{acts}
use Rattle.b67_events.specs.Events.{closed_from, waiters_at}
use Rattle.b67_table.specs.declared.ProcessState.TheVariants.{Ended}
use Rattle.b67_table.specs.Image.{Image, with_stacks, with_rows, with_events, with_states, is_able, is_live}
use Rattle.b67_table.specs.Program.{Change, done, row_of, close_row, close_events, end_process}
use Rattle.b67_table.specs.Linkage.{closed_by, rows_closed, array_closed, arrays_closed, frame_left, caused_by}
use Rattle.b67_table.specs.Writes.{write_made}
use Rattle.b67_table.specs.Writes as writes
use Rattle.b67_table.specs.Valid.{IsProcess, IsValid, waits}
use Rattle.b67_table.proofs.Stacks.{get_numbered_other}
use Rattle.b67_table.proofs.Lists.{numbered_set}
use Rattle.b67_table.proofs.States.{able_all}
use Rattle.b67_table.proofs.OwnValid.{process_stays}
use Rattle.b67_table.proofs.Simple.{Ends}
use Rattle.b67_table.proofs.Saving.{close_valid}
use Rattle.b67_table.proofs.EventKept.{length_states, within_of, able_waits, states_kept, close_events_valid}
use Rattle.b67_table.proofs.Waking.{able_live, event_deed_valid}

-- ---- rows and events of a frame

-- the same stacks, registers and states
pub record Same (x y : Image) : Type 0 where
  pub stacks : y.stacks ≡ x.stacks
  pub regs : y.regs ≡ x.regs
  pub states : y.states ≡ x.states

pub same_self : (x : Image) → Same x x
same_self x = record { stacks = refl; regs = refl; states = refl }

module _ (code : Code) (img : Image) (p : ℕ) where
  -- the change keeps each valid image valid that has the stacks, registers and states of this one
  unfoldable pub Goes : Change → Type 0
  Goes next = (i : Image) → IsValid code i → Same img i → Ends code i p next

  close_goes : (n : ℕ) (next : Change) → Goes next → Goes (close_row n next)
  unfolding Goes Ends
  close_goes n next k i v s = k (with_rows i (closed_at i.rows n)) (close_valid code i v n) (record { stacks = s.stacks; regs = s.regs; states = s.states })

  by_copy : (b : Bool) (next more : Change) → Goes next → Goes more → Goes (cond b next more)
  by_copy true next more k l = k
  by_copy false next more k l = l

  closed_goes : (o : Option Descriptor) (closes : Descriptor → Change → Change) (next : Change) → ((d : Descriptor) → Goes (closes d next)) → Goes next
      → Goes (closed_by o closes next)
  closed_goes None closes next k l = l
  closed_goes (Some d) closes next k l = by_copy d.copy next (closes d next) l (k d)

  rows_go : (ws : List Word) (next : Change) → Goes next → Goes (rows_closed ws next)
  rows_go [] next k = k
  rows_go (w ∷ ws) next k =
      closed_goes (as_descriptor w) (λ d more. close_row d.address more) (rows_closed ws next) (λ d. close_goes d.address (rows_closed ws next) (rows_go ws next k))
      (rows_go ws next k)

  mother_goes : (d : Descriptor) (next : Change) → Goes next → Goes (row_of d.address (λ (row : Option Row). rows_closed (row_words_or row) (close_row d.address next)))
  unfolding Goes Ends
  mother_goes d next k i v s = rows_go (row_words_or (row_at i.rows d.address)) (close_row d.address next) (close_goes d.address next k) i v s

  array_goes : (d : Descriptor) (next : Change) → Goes next → Goes (array_closed d next)
  array_goes d next k = by_copy d.mother _ (close_row d.address next) (mother_goes d next k) (close_goes d.address next k)

  arrays_go : (ws : List Word) (next : Change) → Goes next → Goes (arrays_closed ws next)
  arrays_go [] next k = k
  arrays_go (w ∷ ws) next k =
      closed_goes (as_descriptor w) array_closed (arrays_closed ws next) (λ d. array_goes d (arrays_closed ws next) (arrays_go ws next k)) (arrays_go ws next k)

  close_events_go : (stack at : ℕ) (next : Change) → Goes next → Goes (close_events stack at next)
  unfolding Goes Ends
  close_events_go stack at next k i v s =
      k (with_events i (closed_from stack at i.events)) (close_events_valid code i v stack at) (record { stacks = s.stacks; regs = s.regs; states = s.states })

  pub frame_goes : (stack f : ℕ) (cells : List Word) (next : Change) → Goes next → Goes (frame_left stack f cells next)
  frame_goes stack f cells next k = arrays_go cells (close_events stack f next) (close_events_go stack f next k)

-- ---- the end of a process

module _ (code : Code) (img : Image) (p : ℕ) (v : IsValid code img) (able : is_able (numbered img.states p) ≡ true) where
  inside : (1 ≤ p) × (p ≤ length img.states)
  inside = within_of img.states p (able_live (numbered img.states p) able)

  here : numbered (set_numbered img.states p Ended) p ≡ Some Ended
  here = numbered_set img.states p Ended inside.0 inside.1

  words_by : (n : ℕ) → Dec (n ≡ p) → All IsWord (words_of (closed_at img.stacks p) n)
  words_by n (yes e) =
      subst (λ (m : ℕ). All IsWord (words_of (closed_at img.stacks p) m)) (sym e)
      (subst (λ (o : Option (List Word)). All IsWord (words_or o)) (sym (closed_here img.stacks p)) (All-nil IsWord))
  words_by n (no h) = subst (λ (o : Option (List Word)). All IsWord (words_or o)) (sym (changed_others img.stacks p n None h)) (v.words n)

  stacks_by : (q : ℕ) → 1 ≤ q → Dec (q ≡ p) → is_some (stack_at (closed_at img.stacks p) q) ≡ is_live (numbered (set_numbered img.states p Ended) q)
  stacks_by q one (yes e) =
      subst (λ (m : ℕ). is_some (stack_at (closed_at img.stacks p) m) ≡ is_live (numbered (set_numbered img.states p Ended) m)) (sym e)
      (ap is_some (closed_here img.stacks p) ∙ sym (ap is_live here))
  stacks_by q one (no h) =
      ap is_some (changed_others img.stacks p q None h) ∙ v.stacks q one ∙ sym (ap is_live (get_numbered_other img.states p q Ended h))

  processes_by : (q : ℕ) (r : Registers) → Dec (q ≡ p) → is_live (numbered (set_numbered img.states p Ended) q) ≡ true → numbered img.regs q ≡ Some r
      → IsProcess (with_states (with_stacks img (closed_at img.stacks p)) (set_numbered img.states p Ended)) q r
  processes_by q r (yes e) l i =
      absurd (not_both (is_live (numbered (set_numbered img.states p Ended) q)) l
      (subst (λ (m : ℕ). is_live (numbered (set_numbered img.states p Ended) m) ≡ false) (sym e) (ap is_live here)))
  processes_by q r (no h) l i =
      process_stays img (with_states (with_stacks img (closed_at img.stacks p)) (set_numbered img.states p Ended)) q r
      (ap words_or (changed_others img.stacks p q None h)) (v.processes q r (sym (ap is_live (get_numbered_other img.states p q Ended h)) ∙ l) i)

  waits_by : (q : ℕ) → Dec (q ≡ p) → waits (numbered img.states q) ≡ true → numbered (set_numbered img.states p Ended) q ≡ numbered img.states q
  waits_by q (yes e) w = able_waits (numbered img.states p) able (subst (λ (m : ℕ). waits (numbered img.states m) ≡ true) e w)
  waits_by q (no h) w = get_numbered_other img.states p q Ended h

  ended_valid : IsValid code (with_states (with_stacks img (closed_at img.stacks p)) (set_numbered img.states p Ended))
  ended_valid = record {
    segments = v.segments;
    words = λ n. words_by n (ℕ_discrete n p);
    registers = v.registers;
    states = length_states img.states p Ended ∙ v.states;
    numbers = v.numbers;
    positions = v.positions;
    some = v.some;
    most = v.most;
    system = changed_others img.stacks p 0 None (λ e. absurd (omega (arith, inside.0, e))) ∙ v.system;
    stacks = λ q one. stacks_by q one (ℕ_discrete q p);
    processes = λ q r l i. processes_by q r (ℕ_discrete q p) l i;
    earlier = v.earlier;
    rows = record { few = v.rows.few; room = v.rows.room; short = v.rows.short; words = v.rows.words; shallow = v.rows.shallow };
    events = states_kept img.events img.lists img.states v.events (set_numbered img.states p Ended) (λ q w. waits_by q (ℕ_discrete q p) w);
  }

  end_ends : (stack : ℕ) → stack ≡ p → Ends code img p (end_process stack done)
  unfolding Ends
  end_ends stack e small few =
      subst (λ (n : ℕ). IsValid code (with_states (with_stacks img (closed_at img.stacks n)) (set_numbered img.states p Ended))) (sym e) ended_valid

pub caused_ends : (code : Code) (img : Image) (p : ℕ) → IsValid code img → is_able (numbered img.states p) ≡ true → (task : Option Place) (stack : ℕ) → stack ≡ p
    → Ends code img p (caused_by task (end_process stack done))
unfolding Ends
caused_ends code img p v able None stack e = end_ends code img p v able stack e
caused_ends code img p v able (Some x) stack e =
    end_ends code (write_made p (writes.event_deed (acts act.Cause) x) img) p (event_deed_valid code img v p able (acts act.Cause) x)
    (able_all is_able refl (waiters_at x img.events) img.states p able) stack e
