-- START keeps an image valid.
use Rattle.std.proofs.Common.{◌≡◌, ◌≢◌, refl, sym, ap, subst, ◌∙◌, ℕ, zero, suc, ◌+◌, ◌<◌, ◌≤◌, ◌^◌, true, List, [], ◌∷◌, ◌++◌, length, All, Option, Some, None, arith, length-append}
use Rattle.std.specs.Prelude.{is_some, nat_le, nat_lt, nat_eq, slice_get}
use Rattle.std.proofs.lemmas.Bool.{leb-true}
use Rattle.std.proofs.lemmas.List.Elements.{All-nil, All-cons, All-append}
use Rattle.std.proofs.Math.Decide.{ℕ_discrete}
use Rattle.b67_list.specs.Numbered.{numbered}
use Rattle.b67_list.proofs.Truths.{not_both}
use Rattle.b67_word.specs.declared.Place.{Place}
use Rattle.b67_word.specs.Word.{Word, IsWord}
use Rattle.b67_control.specs.declared.Registers.{Registers}
use Rattle.b67_control.specs.declared.Mscw.{Mscw}
use Rattle.b67_control.specs.Control.{as_mscw, as_rcw, as_pcw, Fits_mscw, Fits_rcw, Fits_pcw}
use Rattle.b67_control.proofs.ControlLaws.{IsWord_mscw_word, IsWord_rcw_word, as_mscw_mscw_word, as_rcw_rcw_word, Fits_as_pcw}
use Rattle.b67_segment.specs.declared.code.Code.{Code}
use Rattle.b67_store.specs.Store.{stack_at, words_of, words_or, opened_at}
use Rattle.b67_store.proofs.StoreLaws.{opened_here, opened_others}
use Rattle.b67_table.specs.declared.Cell.{Cell}
use Rattle.b67_table.specs.declared.ProcessState.TheVariants.{Able}
use Rattle.b67_table.specs.declared.InterruptKind.TheVariants.{InvalidOperand}
use Rattle.b67_table.specs.Limits.{most_cells, most_processes, most_events}
use Rattle.b67_table.specs.Private.{at_or, floor, frame}
use Rattle.b67_table.specs.Look.{look_seen, valid, read_as}
use Rattle.b67_table.specs.Chains.{place, mark_at, below, entered_below, frame_below}
use Rattle.b67_table.specs.References.{cell_of, reached}
use Rattle.b67_table.specs.Image.{Image, critical_in, critical_of, is_live}
use Rattle.b67_table.specs.Writes.{write_made}
use Rattle.b67_table.specs.Writes as writes
use Rattle.b67_table.specs.Program.{Test, asked}
use Rattle.b67_table.specs.Linkage.{base_control, entered_mark}
use Rattle.b67_table.specs.Starting.{task_of, is_among, down, or_none, on_path, Starting, starting, first_display, first_words, process_begun, start_process, named_frames, frames_with}
use Rattle.b67_table.specs.Valid.{IsHeld, IsProcess, IsValid, waits}
use Rattle.b67_table.proofs.Stacks.{get_numbered_append}
use Rattle.b67_table.proofs.Lists.{numbered_within}
use Rattle.b67_table.proofs.Keeping.{Gives, anything}
use Rattle.b67_table.proofs.Finding.{Found, look_then, see_then, test_then, gives_by, there_found, found_by, anything_found}
use Rattle.b67_table.proofs.Chained.{Shows, linked_found}
use Rattle.b67_table.proofs.Referring.{IsReached, cell_is, reached_found}
use Rattle.b67_table.proofs.OwnValid.{process_stays}
use Rattle.b67_table.proofs.Simple.{Ends, finished_ends}
use Rattle.b67_table.proofs.EventKept.{within_of, states_kept}
use Rattle.b67_table.proofs.Wordly.{All_tail}
use Rattle.b67_table.proofs.Calls.{chained_kept}

-- ---- one more at the end of a list

pub last_is : {X : Type 0} (xs : List X) (a : X) → slice_get (xs ++ a ∷ []) (length xs) ≡ Some a
last_is [] a = refl
last_is (x ∷ xs) a = last_is xs a

pub others_are : {X : Type 0} (xs : List X) (a : X) (k : ℕ) → k ≢ length xs → slice_get (xs ++ a ∷ []) k ≡ slice_get xs k
others_are [] a zero h = absurd (h refl)
others_are [] a (suc k) h = refl
others_are (x ∷ xs) a zero h = refl
others_are (x ∷ xs) a (suc k) h = others_are xs a k (λ e. h (ap suc e))

new_is : {X : Type 0} (xs : List X) (a : X) → numbered (xs ++ a ∷ []) (suc (length xs)) ≡ Some a
new_is xs a = last_is xs a

old_is : {X : Type 0} (xs : List X) (a : X) (q : ℕ) → q ≢ suc (length xs) → numbered (xs ++ a ∷ []) q ≡ numbered xs q
old_is xs a zero h = refl
old_is xs a (suc k) h = others_are xs a k (λ e. h (ap suc e))

no_more : {X : Type 0} (xs : List X) → numbered xs (suc (length xs)) ≡ None
no_more [] = refl
no_more (x ∷ xs) = no_more xs

-- ---- the new process

module _ (code : Code) (img : Image) (v : IsValid code img) (t : Starting) (fits : Fits_pcw t.procedure) (home : IsHeld t.home) (are : All IsWord t.parameters)
    (few : length t.parameters ≤ most_cells) (display : List (Option Place)) (shows : Shows img (place (img.started + 1) 0) t.procedure.level display)
    (depends : Option Place) (earlier : (c : Place) → depends ≡ Some c → c.stack ≤ img.started) (room : img.started < most_processes) (p : ℕ) where
  r : Registers
  r = process_begun (img.started + 1) t display depends

  new : Image
  new = write_made p (writes.start (process_begun (img.started + 1) t display depends) (first_words t)) img

  number : img.started + 1 ≡ suc (length img.states)
  number = omega (arith, v.states)

  number_r : img.started + 1 ≡ suc (length img.regs)
  number_r = omega (arith, v.registers)

  mark_fits : Fits_mscw (record { entered = true; stack = t.home.stack; displacement = t.home.at; df = 0 })
  mark_fits = (home.stack, (home.displacement, (omega arith, tt)))

  control_fits : Fits_rcw (record { segment = 0; psr = 0; pir = 0; caller_level = 0; caller_cells = 0; own_level = t.procedure.level })
  control_fits = (omega arith, (omega arith, (omega arith, (omega arith, (omega arith, (fits.1.1.1.0, tt))))))

  words_are : All IsWord (first_words t)
  words_are =
      All-cons IsWord (entered_mark t.home 0) (base_control t.procedure.level ∷ t.parameters) (IsWord_mscw_word _ mark_fits)
      (All-cons IsWord (base_control t.procedure.level) t.parameters (IsWord_rcw_word _ control_fits) are)

  here : stack_at (opened_at img.stacks (img.started + 1) (first_words t)) (img.started + 1) ≡ Some (first_words t)
  here = opened_here img.stacks (img.started + 1) (first_words t)

  there : (q : ℕ) → q ≢ img.started + 1 → stack_at (opened_at img.stacks (img.started + 1) (first_words t)) q ≡ stack_at img.stacks q
  there q h = opened_others img.stacks (img.started + 1) q (first_words t) h

  words_by : (q : ℕ) → Dec (q ≡ img.started + 1) → All IsWord (words_of (opened_at img.stacks (img.started + 1) (first_words t)) q)
  words_by q (yes e) =
      subst (λ (m : ℕ). All IsWord (words_of (opened_at img.stacks (img.started + 1) (first_words t)) m)) (sym e)
      (subst (λ (o : Option (List Word)). All IsWord (words_or o)) (sym here) words_are)
  words_by q (no h) = subst (λ (o : Option (List Word)). All IsWord (words_or o)) (sym (there q h)) (v.words q)

  state_new : numbered (img.states ++ Able ∷ []) (img.started + 1) ≡ Some Able
  state_new = ap (λ (m : ℕ). numbered (img.states ++ Able ∷ []) m) number ∙ new_is img.states Able

  state_old : (q : ℕ) → q ≢ img.started + 1 → numbered (img.states ++ Able ∷ []) q ≡ numbered img.states q
  state_old q h = old_is img.states Able q (λ e. h (e ∙ sym number))

  regs_new : numbered (img.regs ++ process_begun (img.started + 1) t display depends ∷ []) (img.started + 1) ≡ Some (process_begun (img.started + 1) t display depends)
  regs_new = ap (λ (m : ℕ). numbered (img.regs ++ process_begun (img.started + 1) t display depends ∷ []) m) number_r ∙ new_is img.regs (process_begun (img.started + 1) t display depends)

  regs_old : (q : ℕ) → q ≢ img.started + 1 → numbered (img.regs ++ process_begun (img.started + 1) t display depends ∷ []) q ≡ numbered img.regs q
  regs_old q h = old_is img.regs (process_begun (img.started + 1) t display depends) q (λ e. h (e ∙ sym number_r))

  stacks_by : (q : ℕ) → 1 ≤ q → Dec (q ≡ img.started + 1)
      → is_some (stack_at (opened_at img.stacks (img.started + 1) (first_words t)) q) ≡ is_live (numbered (img.states ++ Able ∷ []) q)
  stacks_by q one (yes e) =
      subst (λ (m : ℕ). is_some (stack_at (opened_at img.stacks (img.started + 1) (first_words t)) m) ≡ is_live (numbered (img.states ++ Able ∷ []) m)) (sym e)
      (ap is_some here ∙ sym (ap is_live state_new))
  stacks_by q one (no h) = ap is_some (there q h) ∙ v.stacks q one ∙ sym (ap is_live (state_old q h))

  process_new : IsProcess new (img.started + 1) (process_begun (img.started + 1) t display depends)
  unfolding new
  process_new = record {
    stack = refl;
    size = sym (ap (λ (o : Option (List Word)). length (words_or o)) here ∙ two (length t.parameters));
    room = omega (arith, few);
    display = shows.display_is;
    frame = 0;
    own = shows.names;
    is_frame = record {
      mark = _;
      marked = ap (λ (o : Option (List Word)). read_as as_mscw (slice_get (words_or o) 0)) here ∙ as_mscw_mscw_word _ mark_fits;
      entered = refl;
      control = _;
      controlled = ap (λ (o : Option (List Word)). read_as as_rcw (slice_get (words_or o) 1)) here ∙ as_rcw_rcw_word _ control_fits;
    };
    above = omega (arith, ap at_or shows.names);
    mark = omega arith;
    cells = few;
    segment = fits.0;
    pointer = omega (arith, fits.1.0, fits.1.1.0);
  }
    where
      two : (k : ℕ) → suc (suc k) ≡ k + 2
      two k = omega arith

  some_is : (a b : Registers) → Some a ≡ Some b → b ≡ a
  some_is a b e = cc

  processes_by : (q : ℕ) (s : Registers) → Dec (q ≡ img.started + 1) → is_live (numbered (img.states ++ Able ∷ []) q) ≡ true
      → numbered (img.regs ++ process_begun (img.started + 1) t display depends ∷ []) q ≡ Some s → IsProcess new q s
  unfolding new
  processes_by q s (yes e) l i =
      let same : s ≡ process_begun (img.started + 1) t display depends =
      some_is (process_begun (img.started + 1) t display depends) s
      (sym regs_new ∙ subst (λ (m : ℕ). numbered (img.regs ++ process_begun (img.started + 1) t display depends ∷ []) m ≡ Some s) e i) in
      subst (λ (x : Registers). IsProcess new q x) (sym same)
      (subst (λ (m : ℕ). IsProcess new m (process_begun (img.started + 1) t display depends)) (sym e) process_new)
  processes_by q s (no h) l i =
      process_stays img new q s (ap words_or (there q h)) (v.processes q s (sym (ap is_live (state_old q h)) ∙ l) (sym (regs_old q h) ∙ i))

  earlier_by : (q : ℕ) (s : Registers) → Dec (q ≡ img.started + 1) → numbered (img.regs ++ process_begun (img.started + 1) t display depends ∷ []) q ≡ Some s
      → (c : Place) → s.critical ≡ Some c → c.stack < q
  earlier_by q s (yes e) i c j =
      let same : s ≡ process_begun (img.started + 1) t display depends =
      some_is (process_begun (img.started + 1) t display depends) s
      (sym regs_new ∙ subst (λ (m : ℕ). numbered (img.regs ++ process_begun (img.started + 1) t display depends ∷ []) m ≡ Some s) e i) in
      omega (arith, e, earlier c (ap (λ (x : Registers). x.critical) (sym same) ∙ j))
  earlier_by q s (no h) i c j = v.earlier q s (sym (regs_old q h) ∙ i) c j

  waits_by : (q : ℕ) → Dec (q ≡ img.started + 1) → waits (numbered img.states q) ≡ true → numbered (img.states ++ Able ∷ []) q ≡ numbered img.states q
  waits_by q (yes e) i =
      absurd (not_both (waits (numbered img.states q)) i
      (ap (λ (m : ℕ). waits (numbered img.states m)) (e ∙ number) ∙ ap waits (no_more img.states)))
  waits_by q (no h) i = state_old q h

  pub started_valid : IsValid code (write_made p (writes.start (process_begun (img.started + 1) t display depends) (first_words t)) img)
  unfolding new
  started_valid = record {
    segments = v.segments;
    words = λ q. words_by q (ℕ_discrete q (img.started + 1));
    registers = omega (arith, length-append img.regs (process_begun (img.started + 1) t display depends ∷ []), v.registers);
    states = omega (arith, length-append img.states (Able ∷ []), v.states);
    numbers = omega (arith, length-append img.numbers (0 ∷ []), v.numbers);
    positions = All-append (λ (k : ℕ). k ≤ most_events) img.numbers (0 ∷ []) v.positions
        (All-cons (λ (k : ℕ). k ≤ most_events) 0 [] (omega arith) (All-nil (λ (k : ℕ). k ≤ most_events)));
    some = omega arith;
    most = omega (arith, room);
    system = there 0 (not_zero img.started) ∙ v.system;
    stacks = λ q one. stacks_by q one (ℕ_discrete q (img.started + 1));
    processes = λ q s l i. processes_by q s (ℕ_discrete q (img.started + 1)) l i;
    earlier = λ q s i. earlier_by q s (ℕ_discrete q (img.started + 1)) i;
    rows = record { few = v.rows.few; room = v.rows.room; short = v.rows.short; words = v.rows.words; shallow = v.rows.shallow };
    events = states_kept img.events img.lists img.states v.events (img.states ++ Able ∷ []) (λ q i. waits_by q (ℕ_discrete q (img.started + 1)) i);
  }
    where
      not_zero : (k : ℕ) → 0 ≢ k + 1
      not_zero k e = absurd (omega (arith, e))

  pub started_live : (q : ℕ) → is_live (numbered img.states q) ≡ true → is_live (numbered (img.states ++ Able ∷ []) q) ≡ true
  started_live q l = let w = within_of img.states q l in ap is_live (get_numbered_append img.states (Able ∷ []) q w.1) ∙ l

  pub started_has : (q : ℕ) (s : Registers) → numbered img.regs q ≡ Some s → numbered (img.regs ++ process_begun (img.started + 1) t display depends ∷ []) q ≡ Some s
  started_has q s e = get_numbered_append img.regs (process_begun (img.started + 1) t display depends ∷ []) q (numbered_within img.regs q s e) ∙ e

-- ---- what the tests find

module _ (code : Code) (img : Image) (p : ℕ) (r : Registers) (v : IsValid code img) (live : is_live (numbered img.states p) ≡ true)
    (has : numbered img.regs p ≡ Some r) (next : ℕ) (small : next < 2 ^ 16) (m : Mscw) (low : floor r ≤ r.f) (high : r.f + 1 < r.s) where
  record IsStarting (t : Starting) : Type 0 where
    fits : Fits_pcw t.procedure
    home : IsHeld t.home
    are : All IsWord t.parameters
    few : length t.parameters ≤ most_cells

  starting_given : (words : List Word) → All IsWord words → Gives IsStarting (asked img (starting r words))
  starting_given [] a = tt
  starting_given (x ∷ []) a = tt
  starting_given (x ∷ y ∷ words) a =
      see_then img (IsReached code img p r v live has) IsStarting (reached (cell_of r x)) _
      (reached_found code img p r v live has (cell_of r x) (λ c e. cell_is code img p r v live has x c e)) (λ w i.
      see_then img Fits_pcw IsStarting (valid (as_pcw w.word)) _ (there_found img.stacks Fits_pcw InvalidOperand (as_pcw w.word) (λ pcw e. Fits_as_pcw w.word e)) (λ pcw f.
      test_then img (λ (c : Option Cell). Unit {0}) IsStarting (task_of r y) _ (anything (asked img (task_of r y))) (λ c u.
      gives_by img IsStarting (nat_le (length words) most_cells) _ _
      (λ b. record { fits = f; home = i.cell.frame; are = All_tail IsWord y words (All_tail IsWord x (y ∷ words) a); few = leb-true (length words) most_cells b })
      (λ b. tt))))

  -- a place in the stack of a process that there is
  Known : Option Place → Type 0
  Known o = (c : Place) → o ≡ Some c → c.stack ≤ img.started

  known_place : (f : Place) → f.stack ≤ img.started → Known (Some f)
  unfolding Known
  known_place f h c e = let same : f ≡ c = cc in subst (λ (x : Place). x.stack ≤ img.started) same h

  no_place : Known None
  unfolding Known
  no_place c e = cc

  below_found : (f : Place) → Found (λ (x : Place). x.stack ≡ f.stack) (look_seen img.stacks (frame_below f))
  below_found f =
      look_then img.stacks (λ (k : Mscw). Unit {0}) (λ (x : Place). x.stack ≡ f.stack) (mark_at f) _ (anything_found (look_seen img.stacks (mark_at f))) (λ k u.
      look_then img.stacks (λ (lower : ℕ). Unit {0}) (λ (x : Place). x.stack ≡ f.stack) (below f.at k.df (λ (lower : ℕ). entered_below f.stack lower)) _
      (anything_found (look_seen img.stacks (below f.at k.df (λ (lower : ℕ). entered_below f.stack lower)))) (λ lower w. refl))

  down_given : (steps : ℕ) (wanted : List Place) (f : Place) (rest : Test (Option Place)) → f.stack ≤ img.started → Gives Known (asked img rest)
      → Gives Known (asked img (down steps wanted f rest))
  down_given zero wanted f rest h k = tt
  down_given (suc steps) wanted f rest h k =
      gives_by img Known (is_among wanted f) _ _ (λ b. known_place f h) (λ b.
      gives_by img Known (nat_eq f.at 0) _ _ (λ c. k) (λ c.
      see_then img (λ (x : Place). x.stack ≡ f.stack) Known (frame_below f) _ (below_found f) (λ x e. down_given steps wanted x rest (omega (arith, e, h)) k)))

  critical_known : (stack : ℕ) → stack ≤ img.started → (o : Option Registers) → numbered img.regs stack ≡ o → (c : Place) → critical_in o ≡ Some c → c.stack ≤ img.started
  critical_known stack h None e c i = cc
  critical_known stack h (Some x) e c i = omega (arith, h, v.earlier stack x e c i)

  path_given : (stacks : ℕ) (wanted : List Place) (f : Place) → f.stack ≤ img.started → Gives Known (asked img (on_path stacks wanted f))
  path_given zero wanted f h = no_place
  path_given (suc stacks) wanted f h =
      down_given (f.at + 1) wanted f _ h
      (rest_given (critical_of img.regs f.stack) (λ c e. path_given stacks wanted c (critical_known f.stack h (numbered img.regs f.stack) refl c e)))
    where
      rest_given : (o : Option Place) → ((c : Place) → o ≡ Some c → Gives Known (asked img (on_path stacks wanted c)))
          → Gives Known (asked img (or_none o (λ (lower : Place). on_path stacks wanted lower)))
      rest_given None k = no_place
      rest_given (Some c) k = k c refl

  display_found : (t : Starting) → IsStarting t → Found (Shows img (place (img.started + 1) 0) t.procedure.level) (look_seen img.stacks (first_display (img.started + 1) t))
  display_found t k =
      found_by img.stacks (Shows img (place (img.started + 1) 0) t.procedure.level) t.procedure.intrinsic _ _ (λ b. tt)
      (λ b. linked_found img (place (img.started + 1) 0) t.home t.procedure.level k.fits.1.1.1.0
      (record { stack = omega (arith, v.most); displacement = omega arith }) k.home)

  own_stack : r.stack ≤ img.started
  own_stack = omega (arith, (v.processes p r live has).stack, numbered_within img.regs p r has, v.registers)

  pub start_kept : (words : List Word) → All IsWord words → Gives (Ends code img p) (asked img (start_process code r next m words))
  unfolding Ends Known
  start_kept words a =
      test_then img IsStarting (Ends code img p) (starting r words) _ (starting_given words a) (λ t k.
      chained_kept code img p r v live has next small m low high _ (
      see_then img (Shows img (place (img.started + 1) 0) t.procedure.level) (Ends code img p) (first_display (img.started + 1) t) _ (display_found t k) (λ display d.
      test_then img Known (Ends code img p) (on_path r.stack (t.home ∷ frames_with t.task (named_frames t.parameters)) (place r.stack (frame r))) _
      (path_given r.stack (t.home ∷ frames_with t.task (named_frames t.parameters)) (place r.stack (frame r)) own_stack) (λ c e.
      gives_by img (Ends code img p) (nat_lt img.started most_processes) _ _ (λ b.
      let room : img.started < most_processes = omega (arith, leb-true (suc img.started) most_processes b) in
      finished_ends code (write_made p (writes.start (process_begun (img.started + 1) t display c) (first_words t)) img) p r
      (started_valid code img v t k.fits k.home k.are k.few display d c e room p)
      (started_live code img v t k.fits k.home k.are k.few display d c e room p p live)
      (started_has code img v t k.fits k.home k.are k.few display d c e room p p r has) m [] next low (omega (arith, high)) (All-nil IsWord) small) (λ b. tt)))))
