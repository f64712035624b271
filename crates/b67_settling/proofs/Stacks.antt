-- Nobody comes to depend on the stack of a process, on which nobody depends, while others go on.
use Rattle.std.proofs.Common.{◌≡◌, ◌≢◌, refl, sym, ap, subst, ◌∙◌, ◌⊎◌, inl, inr, ℕ, zero, suc, ◌+◌, ◌<◌, ◌≤◌, Bool, true, false, List, [], ◌∷◌, ◌++◌, length, Option, Some, None, Result, Ok, Err, cond, arith}
use Rattle.std.specs.Prelude.{slice_get}
use Rattle.std.proofs.Math.Decide.{ℕ_discrete}
use Rattle.std.proofs.Math.Decide.{dec_le}
use Rattle.std.proofs.Math.Nat.{lt_of_not-le}
use Rattle.std.proofs.lemmas.List.{length-append, length-set}
use Rattle.b67_list.specs.Numbered.{numbered, set_numbered}
use Rattle.b67_word.specs.declared.Place.{Place}
use Rattle.b67_word.specs.Word.{Word}
use Rattle.b67_control.specs.declared.Registers.{Registers}
use Rattle.b67_ops.specs.declared.Operator.{Operator}
use Rattle.b67_ops.specs.declared.BadCode.{BadCode}
use Rattle.b67_segment.specs.declared.code.Code.{Code}
use Rattle.b67_table.specs.declared.InterruptKind.TheVariants.{BadCode as bad_code}
use Rattle.b67_table.specs.Beginning.{first_image}
use Rattle.b67_table.specs.Effect.{gives, interrupts}
use Rattle.b67_table.specs.Ending.{failed}
use Rattle.b67_table.specs.Outcome as outcomes
use Rattle.b67_table.specs.Image.{Image, critical_in, critical_of, with_private, private_of, is_live}
use Rattle.b67_table.specs.Private.{floor}
use Rattle.b67_table.specs.Program.{Test, answer, interrupt, fault, ask, does, Change, done, look_up, write, changed}
use Rattle.b67_table.specs.Questions.{told}
use Rattle.b67_table.specs.Rows.{TableRow, private_part, action, row}
use Rattle.b67_table.specs.Runs.{Plains, stay, go, ProcessActs, acts, fails, RunEntry, Runs, begin, entry, Tails, TableRun}
use Rattle.b67_table.specs.Runs as runs
use Rattle.b67_table.specs.Table.{raw, table, operator_at, by_row, by_operator, by_registers, stack_length, private_op, part_by}
use Rattle.b67_table.specs.Writes.{Write, write_made}
use Rattle.b67_table.specs.Writes as writes
use Rattle.b67_table.proofs.Keeping.{private_keeps}
use Rattle.b67_table.proofs.Limit.{new_of}
use Rattle.b67_table.proofs.Lists.{numbered_set, numbered_from, numbered_within}
use Rattle.b67_table.proofs.Privacy.{Put, put_by}
use Rattle.b67_table.proofs.Stacks.{get_numbered_other, get_numbered_append}
use Rattle.b67_table.proofs.Cited.{some_same}
use Rattle.b67_settling.specs.Local.{NobodyDepends}
use Rattle.b67_settling.proofs.Criticals.{Calm, Begins, Lies, own_stack, under, Says, RowFine, row_fine}

-- ---- registers after an operator

-- the registers of a process that there was: in the same stack, with the same critical place
record Old (img : Image) (k : ℕ) (o : Registers) : Type 0 where
  before : Registers
  was : numbered img.regs k ≡ Some before
  stack : o.stack ≡ before.stack
  critical : o.critical ≡ before.critical

-- those of one that was started
record New (img : Image) (r : Registers) (k : ℕ) (o : Registers) : Type 0 where
  number : k ≡ length img.regs + 1
  stack : o.stack ≡ img.started + 1
  lies : (c : Place) → o.critical ≡ Some c → Lies img r c

-- an image after so many starts
record Kept (img : Image) (r : Registers) (extra : ℕ) (now : Image) : Type 0 where
  many : length now.regs ≡ length img.regs + extra
  started : now.started ≡ img.started + extra
  each : (k : ℕ) (o : Registers) → numbered now.regs k ≡ Some o → Old img k o ⊎ New img r k o

module _ (img : Image) (q : ℕ) (r : Registers) (has : numbered img.regs q ≡ Some r) where
  here : Kept img r 0 img
  here = record {
    many = omega arith;
    started = omega arith;
    each = λ k o e. inl (record { before = o; was = e; stack = refl; critical = refl });
  }

  -- the process's own registers are set
  set_kept : (extra : ℕ) (now : Image) (new : Registers) → new.stack ≡ r.stack → new.critical ≡ r.critical → Kept img r extra now → (after : Image)
      → after.regs ≡ set_numbered now.regs q new → after.started ≡ now.started → length after.regs ≡ length now.regs → Kept img r extra after
  set_kept extra now new stack critical k after regs started many =
      record {
        many = many ∙ k.many;
        started = started ∙ k.started;
        each = λ n o e. by_process n o (ap (λ (rs : List Registers). numbered rs n) (sym regs) ∙ e) (ℕ_discrete n q);
      }
    where
      inside : q ≤ length now.regs
      inside = omega (arith, numbered_within img.regs q r has, k.many)

      by_process : (n : ℕ) (o : Registers) → numbered (set_numbered now.regs q new) n ≡ Some o → Dec (n ≡ q) → Old img n o ⊎ New img r n o
      by_process n o e (no h) = k.each n o (sym (get_numbered_other now.regs q n new h) ∙ e)
      by_process n o e (yes i) =
          let same : new ≡ o =
          some_same new o (sym (numbered_set now.regs q new (numbered_from img.regs q r has) inside) ∙ ap (λ (m : ℕ). numbered (set_numbered now.regs q new) m) (sym i) ∙ e) in
          inl (record {
            before = r;
            was = ap (numbered img.regs) i ∙ has;
            stack = ap (λ (x : Registers). x.stack) (sym same) ∙ stack;
            critical = ap (λ (x : Registers). x.critical) (sym same) ∙ critical;
          })

  length_set : (rs : List Registers) (n : ℕ) (s : Registers) → length (set_numbered rs n s) ≡ length rs
  length_set rs zero s = refl
  length_set rs (suc n) s = length-set rs n s

  changed_calm : (extra : ℕ) (c : Change) (now : Image) → Calm r c → Kept img r extra now → Kept img r extra (changed q c now)
  changed_calm extra done now h k = k
  changed_calm extra (look_up a more) now h k = changed_calm extra (more (told now a)) now (h (told now a)) k
  changed_calm extra (write (writes.save x w) next) now h k = changed_calm extra next (write_made q (writes.save x w) now) h.1 (record { many = k.many; started = k.started; each = k.each })
  changed_calm extra (write (writes.cut stack n) next) now h k = changed_calm extra next (write_made q (writes.cut stack n) now) h.1 (record { many = k.many; started = k.started; each = k.each })
  changed_calm extra (write (writes.push stack w) next) now h k = changed_calm extra next (write_made q (writes.push stack w) now) h.1 (record { many = k.many; started = k.started; each = k.each })
  changed_calm extra (write (writes.registers new) next) now h k =
      changed_calm extra next (write_made q (writes.registers new) now) h.1
      (set_kept extra now new h.0.0 h.0.1 k (write_made q (writes.registers new) now) refl refl (length_set now.regs q new))
  changed_calm extra (write (writes.open_row n count counted) next) now h k =
      changed_calm extra next (write_made q (writes.open_row n count counted) now) h.1 (record { many = k.many; started = k.started; each = k.each })
  changed_calm extra (write (writes.write_row n at w) next) now h k =
      changed_calm extra next (write_made q (writes.write_row n at w) now) h.1 (record { many = k.many; started = k.started; each = k.each })
  changed_calm extra (write (writes.close_row n) next) now h k = changed_calm extra next (write_made q (writes.close_row n) now) h.1 (record { many = k.many; started = k.started; each = k.each })
  changed_calm extra (write (writes.open_event x) next) now h k = changed_calm extra next (write_made q (writes.open_event x) now) h.1 (record { many = k.many; started = k.started; each = k.each })
  changed_calm extra (write (writes.close_events stack at) next) now h k =
      changed_calm extra next (write_made q (writes.close_events stack at) now) h.1 (record { many = k.many; started = k.started; each = k.each })
  changed_calm extra (write (writes.event_deed d x) next) now h k =
      changed_calm extra next (write_made q (writes.event_deed d x) now) h.1 (record { many = k.many; started = k.started; each = k.each })
  changed_calm extra (write (writes.wait_any places) next) now h k =
      changed_calm extra next (write_made q (writes.wait_any places) now) h.1 (record { many = k.many; started = k.started; each = k.each })
  changed_calm extra (write writes.go_on next) now h k = changed_calm extra next (write_made q writes.go_on now) h.1 (record { many = k.many; started = k.started; each = k.each })
  changed_calm extra (write (writes.line bytes) next) now h k = changed_calm extra next (write_made q (writes.line bytes) now) h.1 (record { many = k.many; started = k.started; each = k.each })
  changed_calm extra (write (writes.start new words) next) now h k = absurd h.0
  changed_calm extra (write (writes.end_process stack) next) now h k =
      changed_calm extra next (write_made q (writes.end_process stack) now) h.1 (record { many = k.many; started = k.started; each = k.each })

  -- one is started
  start_kept : (new : Registers) (words : List Word) → new.stack ≡ img.started + 1 → ((c : Place) → new.critical ≡ Some c → Lies img r c)
      → Kept img r 1 (write_made q (writes.start new words) img)
  start_kept new words stack lies =
      record {
        many = length-append img.regs (new ∷ []);
        started = refl;
        each = λ k o e. by_number k o (dec_le k (length img.regs)) e;
      }
    where
      last : (rs : List Registers) (n : ℕ) (o : Registers) → length rs ≤ n → slice_get (rs ++ new ∷ []) n ≡ Some o → (n ≡ length rs) × (new ≡ o)
      last [] zero o h e = (refl, some_same new o e)
      last [] (suc n) o h e = cc
      last (x ∷ rs) zero o h e = absurd (omega (arith, h))
      last (x ∷ rs) (suc n) o h e = let l = last rs n o (omega (arith, h)) e in (ap suc l.0, l.1)

      newest : (k : ℕ) (o : Registers) → (k ≤ length img.regs → ⊥) → numbered (img.regs ++ new ∷ []) k ≡ Some o → New img r k o
      newest zero o h e = absurd (h (omega arith))
      newest (suc k) o h e =
          let l = last img.regs k o (omega (arith, lt_of_not-le h)) e in
          record {
            number = omega (arith, l.0);
            stack = ap (λ (x : Registers). x.stack) (sym l.1) ∙ stack;
            lies = λ c i. lies c (ap (λ (x : Registers). x.critical) l.1 ∙ i);
          }

      by_number : (k : ℕ) (o : Registers) → Dec (k ≤ length img.regs) → numbered (img.regs ++ new ∷ []) k ≡ Some o → Old img k o ⊎ New img r k o
      by_number k o (yes h) e = inl (record { before = o; was = sym (get_numbered_append img.regs (new ∷ []) k h) ∙ e; stack = refl; critical = refl })
      by_number k o (no h) e = inr (newest k o h e)

  changed_begins : (c : Change) → Begins img r c → Kept img r 1 (changed q c img)
  changed_begins (write (writes.start new words) next) b = changed_calm 1 next (write_made q (writes.start new words) img) b.2 (start_kept new words b.0 b.1)
  changed_begins done b = absurd b
  changed_begins (look_up q more) b = absurd b
  changed_begins (write (writes.save x w) next) b = absurd b
  changed_begins (write (writes.cut stack n) next) b = absurd b
  changed_begins (write (writes.push stack w) next) b = absurd b
  changed_begins (write (writes.registers new) next) b = absurd b
  changed_begins (write (writes.open_row n count counted) next) b = absurd b
  changed_begins (write (writes.write_row n at w) next) b = absurd b
  changed_begins (write (writes.close_row n) next) b = absurd b
  changed_begins (write (writes.open_event x) next) b = absurd b
  changed_begins (write (writes.close_events stack at) next) b = absurd b
  changed_begins (write (writes.event_deed d x) next) b = absurd b
  changed_begins (write (writes.wait_any places) next) b = absurd b
  changed_begins (write writes.go_on next) b = absurd b
  changed_begins (write (writes.line bytes) next) b = absurd b
  changed_begins (write (writes.end_process stack) next) b = absurd b

  record Leaves (now : Image) : Type 0 where
    extra : ℕ
    kept : Kept img r extra now

  changed_fine : (c : Change) → Calm r c ⊎ Begins img r c → Leaves (changed q c img)
  changed_fine c (inl h) = record { extra = 0; kept = changed_calm 0 c img h here }
  changed_fine c (inr h) = record { extra = 1; kept = changed_begins c h }

  does_leave : (t : Test Change) (new : Image) → Says img (λ (c : Change). Calm r c ⊎ Begins img r c) t → does q t img ≡ gives new → Leaves new
  does_leave (answer c) new s e = let same : changed q c img ≡ new = cc in subst Leaves same (changed_fine c s)
  does_leave (interrupt kind) new s e = cc
  does_leave (fault kind) new s e = cc
  does_leave (ask a more) new s e = does_leave (more (told img a)) new s e

  -- ---- any operator

  by_rows : (code : Code) (new : Image) (op : Operator) (next : ℕ) (w : TableRow) → row op r.place ≡ w → by_row w code img q r next ≡ gives new → Leaves new
  unfolding private_op
  by_rows code new op next (private_part change) i e =
      let put : Put img new q (floor r) (change next (private_of img r)) = put_by img new q (floor r) (change next (private_of img r)) e in
      let k = private_keeps op r.place next (private_of img r) put.part (ap (λ (w : TableRow). part_by w next (private_of img r)) i ∙ put.given) in
      subst Leaves (sym put.is)
      (record {
        extra = 0;
        kept = set_kept 0 img put.part.regs k.0 k.5 here (with_private img q (floor r) put.part) refl refl (length_set img.regs q put.part.regs);
      })
  by_rows code new op next (action program) i e = does_leave (program code r next) new (fine_by (row op r.place) (row_fine img code r next op r.place) i) e
    where
      fine_by : (w : TableRow) → RowFine img code r next w → w ≡ action program → Says img (λ (c : Change). Calm r c ⊎ Begins img r c) (program code r next)
      fine_by w f j = subst (RowFine img code r next) j f

  by_fetch : (code : Code) (new : Image) (f : Result (Operator × ℕ) BadCode) → by_operator code img q r f ≡ gives new → Leaves new
  by_fetch code new (Err x) e = cc
  by_fetch code new (Ok found) e = by_rows code new found.0 found.1 (row found.0 r.place) refl e

-- what an operator of a process leaves of the registers
record Left (img new : Image) (q : ℕ) : Type 0 where
  r : Registers
  has : numbered img.regs q ≡ Some r
  extra : ℕ
  kept : Kept img r extra new

left_by : (code : Code) (img new : Image) (q : ℕ) (o : Option Registers) → numbered img.regs q ≡ o → by_registers code img q o ≡ gives new → Left img new q
left_by code img new q None has e = cc
left_by code img new q (Some r) has e =
    let l = by_fetch img q r has code new (operator_at code r) e in record { r = r; has = has; extra = l.extra; kept = l.kept }

left_of : (code : Code) (img new : Image) (q : ℕ) → table code img q ≡ outcomes.gives new → Left img new q
unfolding table raw
left_of code img new q t = by_life (is_live (numbered img.states q)) (new_of (stack_length q) (raw code img q) new t).0
  where
    by_life : (b : Bool) → cond b (by_registers code img q (numbered img.regs q)) (interrupts bad_code) ≡ gives new → Left img new q
    by_life true e = left_by code img new q (numbered img.regs q) refl e
    by_life false e = cc

-- ---- each process has the stack of its number

record AreOwn (img : Image) : Type 0 where
  many : length img.regs ≡ img.started
  each : (k : ℕ) (o : Registers) → numbered img.regs k ≡ Some o → o.stack ≡ k

own_after : (img new : Image) (q : ℕ) → AreOwn img → Left img new q → AreOwn new
own_after img new q own l =
    record {
      many = omega (arith, l.kept.many, l.kept.started, own.many);
      each = λ k o e. by_each k o (l.kept.each k o e);
    }
  where
    by_each : (k : ℕ) (o : Registers) → Old img k o ⊎ New img l.r k o → o.stack ≡ k
    by_each k o (inl x) = x.stack ∙ own.each k x.before x.was
    by_each k o (inr x) = omega (arith, x.stack, x.number, own.many)

own_plains : (code : Code) (q n : ℕ) (a b : Image) → AreOwn a → Plains code q a n b → AreOwn b
own_plains code q n a b own stay = own
own_plains code q n a b own (go {b = x} {n = k} e t more) = own_plains code q k x b (own_after a x q own (left_of code a x q t)) more

own_acts : (code : Code) (q : ℕ) (a b : Image) → AreOwn a → ProcessActs code q a b → AreOwn b
unfolding failed
own_acts code q a b own (acts e t) = own_after a b q own (left_of code a b q t)
own_acts code q a b own (fails kind t) = record { many = own.many; each = own.each }

first_own : AreOwn first_image
unfolding first_image
first_own = record { many = refl; each = by_number }
  where
    by_number : (k : ℕ) (o : Registers) → numbered first_image.regs k ≡ Some o → o.stack ≡ k
    by_number zero o e = cc
    by_number (suc zero) o e = ap (λ (x : Registers). x.stack) (sym (some_same _ o e))
    by_number (suc (suc k)) o e = cc

own_runs : (code : Code) (h counts : List ℕ) (a : Image) → Runs code h counts a → AreOwn a
own_runs code h counts a begin = first_own
own_runs code h counts a (entry {h = g} {counts = c} {a = x} {p = p} {n = n} run e) =
    own_acts code p e.quiet a (own_plains code p n x e.quiet (own_runs code g c x run) e.plains) e.action

own_tails : (code : Code) (p : ℕ) (a b : Image) (tails : List ℕ) → AreOwn a → Tails code p a tails b → AreOwn b
own_tails code p a b tails own runs.none = own
own_tails code p a b tails own (runs.next {n = n} {b = x} {tails = ts} plains more) = own_tails code (p + 1) x b ts (own_plains code p n a x own plains) more

own_run : (code : Code) (schedule tails : List ℕ) (a : Image) → TableRun code schedule tails a → AreOwn a
own_run code schedule tails a run = own_tails code 1 run.before_tails a tails (own_runs code run.history run.counts run.before_tails run.runs) run.after

-- ---- critical places

critical_has : (rs : List Registers) (k : ℕ) (f : Place) → critical_of rs k ≡ Some f → (o : Registers) × (numbered rs k ≡ Some o) × (o.critical ≡ Some f)
critical_has rs k f e = by_one (numbered rs k) refl e
  where
    by_one : (x : Option Registers) → numbered rs k ≡ x → critical_in x ≡ Some f → (o : Registers) × (numbered rs k ≡ Some o) × (o.critical ≡ Some f)
    by_one None i j = cc
    by_one (Some o) i j = (o, i, j)

-- the critical places of a stack lie below the base
AreBelow : Image → ℕ → ℕ → Type 0
AreBelow img stack base = (k : ℕ) (o : Registers) (c : Place) → numbered img.regs k ≡ Some o → o.critical ≡ Some c → c.stack ≡ stack → c.at < base

-- and so they do after an operator of another process
stay_below : (code : Code) (schedule tails : List ℕ) (img new : Image) (p q base : ℕ) (r : Registers) → TableRun code schedule tails img → q ≢ p → numbered img.regs p ≡ Some r
    → AreBelow img r.stack base → table code img q ≡ outcomes.gives new → AreBelow new r.stack base
unfolding AreBelow
stay_below code schedule tails img new p q base r run differ has low t = λ k o c e i s. by_each k o c i s (l.kept.each k o e)
  where
    own : AreOwn img
    own = own_run code schedule tails img run

    l : Left img new q
    l = left_of code img new q t

    by_lies : (c : Place) → c.stack ≡ r.stack → Lies img l.r c → c.at < base
    by_lies c s (own_stack e) = absurd (differ (sym (own.each q l.r l.has) ∙ sym e ∙ s ∙ own.each p r has))
    by_lies c s (under k f is same high) =
        let x = critical_has img.regs k f is in omega (arith, high, low k x.0 f x.1 x.2 (sym same ∙ s))

    by_each : (k : ℕ) (o : Registers) (c : Place) → o.critical ≡ Some c → c.stack ≡ r.stack → Old img k o ⊎ New img l.r k o → c.at < base
    by_each k o c i s (inl x) = low k x.before c x.was (sym x.critical ∙ i) s
    by_each k o c i s (inr x) = by_lies c s (x.lies c i)

-- so where there are none, there are none then
pub nobody_still : (code : Code) (schedule tails : List ℕ) (img new : Image) (p q : ℕ) (r : Registers) → TableRun code schedule tails img → q ≢ p → numbered img.regs p ≡ Some r
    → NobodyDepends img r.stack → table code img q ≡ outcomes.gives new → NobodyDepends new r.stack
unfolding AreBelow
nobody_still code schedule tails img new p q r run differ has own t = λ k o c e i s.
    let low : c.at < 0 = stay_below code schedule tails img new p q 0 r run differ has (λ j x f a b d. absurd (own j x f a b d)) t k o c e i s in absurd (omega (arith, low))
