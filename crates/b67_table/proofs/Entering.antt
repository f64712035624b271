-- Entries keep an image valid.
use Rattle.std.proofs.Common.{◌≡◌, refl, ap, subst, ◌∙◌, ℕ, zero, suc, ◌+◌, ◌-◌, ◌/◌, ◌%◌, ◌<◌, ◌≤◌, ◌^◌, Bool, true, false, List, [], ◌∷◌, ◌++◌, length, All, take, Option, Some, None, Result, Ok, Err, arith, pos}
use Rattle.std.specs.Prelude.{nat_lt, slice_get}
use Rattle.std.proofs.lemmas.Bool.{leb-true}
use Rattle.std.proofs.Math.Decide.{dec_le}
use Rattle.std.proofs.lemmas.List.Elements.{All-nil, All-cons}
use Rattle.b67_list.specs.Numbered.{numbered}
use Rattle.b67_word.specs.declared.Place.{Place}
use Rattle.b67_word.specs.Word.{Word, IsWord, operand}
use Rattle.b67_control.specs.declared.Registers.{Registers}
use Rattle.b67_control.specs.declared.Pcw.{Pcw}
use Rattle.b67_control.specs.Control.{as_mscw, Fits_mscw, as_rcw, Fits_rcw, Fits_pcw}
use Rattle.b67_control.proofs.ControlLaws.{IsWord_mscw_word, IsWord_rcw_word, as_mscw_mscw_word, as_rcw_rcw_word}
use Rattle.b67_segment.specs.declared.code.Code.{Code}
use Rattle.b67_store.specs.Store.{words_of, word_at}
use Rattle.b67_table.specs.declared.Entry.{Entry}
use Rattle.b67_table.specs.declared.InterruptKind.{InterruptKind}
use Rattle.b67_table.specs.declared.InterruptKind.TheVariants.{BadCode}
use Rattle.b67_table.specs.Limits.{end_of_code}
use Rattle.b67_table.specs.Private.{floor}
use Rattle.b67_table.specs.Look.{found, stops, ◌>->◌, look_seen, read_as}
use Rattle.b67_table.specs.Chains.{place, linked}
use Rattle.b67_table.specs.Image.{Image, is_live}
use Rattle.b67_table.specs.Program.{asked, done, cut, push, registers, changed}
use Rattle.b67_table.specs.Moves.{pushed}
use Rattle.b67_table.specs.Linkage.{code_place, control_word, entered_mark, is_home, if_home, entering, entered, selected, accidental}
use Rattle.b67_table.specs.Valid.{IsHeld, IsFrame, IsProcess, IsValid}
use Rattle.b67_table.specs.Private.{at_or}
use Rattle.b67_table.proofs.Lists.{numbered_within}
use Rattle.b67_table.proofs.Keeping.{Gives}
use Rattle.b67_table.proofs.Finding.{Found, look_then, see_then, found_by}
use Rattle.b67_table.proofs.Chained.{Shows, linked_found}
use Rattle.b67_table.proofs.Wordly.{literal_is_word}
use Rattle.b67_table.proofs.OwnValid.{own_image, words_here}
use Rattle.b67_table.proofs.OwnStep.{cut_is, framed_valid}
use Rattle.b67_table.proofs.Simple.{Ends, ends_own}

module _ (code : Code) (img : Image) (p : ℕ) (r : Registers) (v : IsValid code img) (live : is_live (numbered img.states p) ≡ true)
    (has : numbered img.regs p ≡ Some r) where
  own : IsProcess img p r
  own = v.processes p r live has

  -- ---- what the tests find

  pub record IsEntry (next : ℕ) (fits : Bool) (mark level : ℕ) (e : Entry) : Type 0 where
    pub back : next < end_of_code
    pub fit : fits ≡ true
    pub home : IsHeld e.home
    pub shows : mark < 2 ^ 16 → Shows img (place r.stack mark) level e.display

  stack_small : r.stack < 2 ^ 10
  stack_small = omega (arith, own.stack, within, v.most, v.registers)
    where
      within : p ≤ length img.regs
      within = numbered_within img.regs p r has

  ignored : (mark level : ℕ) (e : Result (List (Option Place)) InterruptKind) → Found (Shows img (place r.stack mark) level) e
      → Found (λ (d : List (Option Place)). mark < 2 ^ 16 → Shows img (place r.stack mark) level d) e
  ignored mark level (Ok d) k = λ small. k
  ignored mark level (Err kind) k = tt

  never : (mark level : ℕ) (e : Result (List (Option Place)) InterruptKind) → (mark < 2 ^ 16 → ⊥)
      → Found (λ (d : List (Option Place)). mark < 2 ^ 16 → Shows img (place r.stack mark) level d) e
  never mark level (Ok d) m = λ small. absurd (m small)
  never mark level (Err kind) m = tt

  shows_found : (mark level : ℕ) (home : Place) → level < 32 → IsHeld home → Dec (mark + 1 ≤ 2 ^ 16)
      → Found (λ (d : List (Option Place)). mark < 2 ^ 16 → Shows img (place r.stack mark) level d) (look_seen img.stacks (linked (place r.stack mark) home level))
  shows_found mark level home l h (yes m) =
      ignored mark level _ (linked_found img (place r.stack mark) home level l (record { stack = stack_small; displacement = omega (arith, m) }) h)
  shows_found mark level home l h (no m) = never mark level _ (λ small. m (omega (arith, small)))

  at_home : (next : ℕ) (fits : Bool) (mark level : ℕ) (home : Option Place) → level < 32 → ((h : Place) → home ≡ Some h → IsHeld h) → next < end_of_code
      → fits ≡ true → Found (IsEntry next fits mark level) (look_seen img.stacks (if_home home level (λ (h : Place).
      linked (place r.stack mark) h level >-> (λ (display : List (Option Place)). found (record { home = h; display = display })))))
  at_home next fits mark level None l held b f = tt
  at_home next fits mark level (Some h) l held b f =
      found_by img.stacks (IsEntry next fits mark level) (is_home (read_as as_rcw (word_at img.stacks (place h.stack (h.at + 1)))) level) _ _
      (λ c. look_then img.stacks (λ (d : List (Option Place)). mark < 2 ^ 16 → Shows img (place r.stack mark) level d) (IsEntry next fits mark level)
      (linked (place r.stack mark) h level) _ (shows_found mark level h l (held h refl) (dec_le (mark + 1) (2 ^ 16)))
      (λ d k. record { back = b; fit = f; home = held h refl; shows = k })) (λ c. tt)

  pub entering_found : (next : ℕ) (fits : Bool) (mark : ℕ) (pcw : Pcw) (home : Option Place) → Fits_pcw pcw → ((h : Place) → home ≡ Some h → IsHeld h)
      → Found (IsEntry next fits mark pcw.level) (look_seen img.stacks (entering r next fits mark pcw home))
  entering_found next fits mark pcw home f held =
      found_by img.stacks (IsEntry next fits mark pcw.level) (nat_lt next end_of_code) _ (stops BadCode)
      (λ b. found_by img.stacks (IsEntry next fits mark pcw.level) fits _ _
      (λ c. at_home next fits mark pcw.level home f.1.1.1.0 held (omega (arith, leb-true (suc next) end_of_code b)) c) (λ c. tt)) (λ b. tt)

  -- ---- the two words of a frame

  pub mark_fits : (home : Place) (df : ℕ) → IsHeld home → df < 2 ^ 16 → Fits_mscw (record { entered = true; stack = home.stack; displacement = home.at; df = df })
  mark_fits home df h d = (h.stack, (h.displacement, (d, tt)))

  pub control_fits : (next level : ℕ) → next < end_of_code → level < 32
      → Fits_rcw (record { segment = r.segment; psr = next % 6; pir = next / 6; caller_level = r.ll; caller_cells = r.cells; own_level = level })
  control_fits next level n l =
      (own.segment, (omega arith, (omega (arith, n), (omega (arith, own.display.known), (omega (arith, own.cells), (l, tt))))))

  pub code_small : (pcw : Pcw) → Fits_pcw pcw → code_place pcw.psr pcw.pir < 2 ^ 16
  code_small pcw f = omega (arith, f.1.0, f.1.1.0)

  -- ---- accidental entry

  front_there : (xs more : List Word) (n i : ℕ) → n ≤ length xs → slice_get (take n xs ++ more) (n + i) ≡ slice_get more i
  front_there xs more zero i h = ap (λ (k : ℕ). slice_get more k) (none_before i)
    where
      none_before : (n : ℕ) → 0 + n ≡ n
      none_before n = omega arith
  front_there [] more (suc n) i h = absurd (omega (arith, h))
  front_there (x ∷ xs) more (suc n) i h =
      ap (λ (k : ℕ). slice_get (x ∷ take n xs ++ more) k) (one_before n i) ∙ front_there xs more n i (omega (arith, h))
    where
      one_before : (m k : ℕ) → suc m + k ≡ suc (m + k)
      one_before m k = omega arith

  selected_are : (names : Bool) (selector : ℕ) → selector < 2 ^ 16 → All IsWord (selected names selector)
  selected_are false selector h = All-nil IsWord
  selected_are true selector h = All-cons IsWord (operand (pos selector)) [] (literal_is_word selector h) (All-nil IsWord)

  module _ (next taken : ℕ) (pcw : Pcw) (home : Place) (selector : ℕ) (f : Fits_pcw pcw) (held : IsHeld home) (few : selector < 2 ^ 16)
      (high : floor r + taken ≤ r.s) where
    mark : ℕ
    mark = r.s - taken

    more : Entry → List Word
    more e = entered_mark e.home (r.s - taken - r.f) ∷ control_word r next pcw.level ∷ selected pcw.names selector

    size : ℕ
    size = r.s - taken + 2 + length (selected pcw.names selector)

    new : Entry → Registers
    new e = entered r (r.s - taken + 2 + length (selected pcw.names selector)) (r.s - taken) pcw e 0

    within : r.s - taken ≤ length (words_of img.stacks p)
    within = omega (arith, own.size)

    framed : (e : Entry) → IsEntry next (nat_lt r.f (r.s - taken)) (r.s - taken) pcw.level e → r.s - taken < 2 ^ 16
        → (s : Registers) → IsFrame (own_image img p (take (r.s - taken) (words_of img.stacks p) ++ more e) s) (place p (r.s - taken))
    unfolding more
    framed e k small s =
        let mf = mark_fits e.home (r.s - taken - r.f) k.home (omega (arith, small)) in
        let cf = control_fits next pcw.level k.back f.1.1.1.0 in
        let here = words_here code img p r v live has (take (r.s - taken) (words_of img.stacks p) ++ more e) in
        record {
          mark = record { entered = true; stack = e.home.stack; displacement = e.home.at; df = r.s - taken - r.f };
          marked = ap (λ (ws : List Word). read_as as_mscw (slice_get ws (r.s - taken))) here
              ∙ ap (λ (n : ℕ). read_as as_mscw (slice_get (take (r.s - taken) (words_of img.stacks p) ++ more e) n)) (plus_zero (r.s - taken))
              ∙ ap (read_as as_mscw) (front_there (words_of img.stacks p) (more e) (r.s - taken) 0 within) ∙ as_mscw_mscw_word _ mf;
          entered = refl;
          control = record { segment = r.segment; psr = next % 6; pir = next / 6; caller_level = r.ll; caller_cells = r.cells; own_level = pcw.level };
          controlled = ap (λ (ws : List Word). read_as as_rcw (slice_get ws (r.s - taken + 1))) here
              ∙ ap (read_as as_rcw) (front_there (words_of img.stacks p) (more e) (r.s - taken) 1 within) ∙ as_rcw_rcw_word _ cf;
        }
      where
        plus_zero : (n : ℕ) → n ≡ n + 0
        plus_zero n = omega arith

    accidental_ends : (e : Entry) → IsEntry next (nat_lt r.f (r.s - taken)) (r.s - taken) pcw.level e
        → Ends code img p (cut r.stack (r.s - taken) (push r.stack (entered_mark e.home (r.s - taken - r.f)) (push r.stack (control_word r next pcw.level)
        (pushed r.stack (selected pcw.names selector) (registers (new e) done)))))
    unfolding more new
    accidental_ends e k =
        ends_own code img p r v live has _ (take (r.s - taken) (words_of img.stacks p) ++ more e) (new e)
        (ap (λ (n : ℕ). changed p (cut n (r.s - taken) (pushed n (more e) (registers (new e) done))) img) own.stack
        ∙ cut_is code img p r v live has (r.s - taken) (more e) (new e))
        (λ small.
        let low : r.s - taken < 2 ^ 16 = omega (arith, small) in
        let shows = k.shows low in
        framed_valid code img p r v live has (r.s - taken) (more e) (new e) within
        (All-cons IsWord (entered_mark e.home (r.s - taken - r.f)) (control_word r next pcw.level ∷ selected pcw.names selector) (IsWord_mscw_word _ (mark_fits e.home (r.s - taken - r.f) k.home (omega (arith, low))))
        (All-cons IsWord (control_word r next pcw.level) (selected pcw.names selector) (IsWord_rcw_word _ (control_fits next pcw.level k.back f.1.1.1.0))
        (selected_are pcw.names selector few)))
        (record {
          stack = own.stack;
          size = omega arith;
          display = shows.display_is;
          frame = r.s - taken;
          own = shows.names ∙ ap (λ (n : ℕ). Some (place n (r.s - taken))) own.stack;
          above = omega (arith, ap at_or shows.names);
          mark = low;
          cells = omega arith;
          segment = f.0;
          pointer = code_small pcw f;
        }) small refl (framed e k low (new e)))

    pub accidental_kept : Gives (Ends code img p) (asked img (accidental r next taken pcw home selector))
    unfolding new
    accidental_kept =
        see_then img (IsEntry next (nat_lt r.f (r.s - taken)) (r.s - taken) pcw.level) (Ends code img p) (entering r next (nat_lt r.f (r.s - taken)) (r.s - taken) pcw (Some home)) _
        (entering_found next (nat_lt r.f (r.s - taken)) (r.s - taken) pcw (Some home) f (λ h e. let same : home ≡ h = cc in subst IsHeld same held))
        (λ e k. accidental_ends e k)
