-- Entry at the mark at F keeps an image valid.
use Rattle.std.proofs.Common.{◌≡◌, ◌≢◌, refl, sym, ap, ◌∙◌, ℕ, ◌+◌, ◌-◌, ◌<◌, ◌^◌, true, List, length, set, Option, Some, arith}
use Rattle.std.specs.Prelude.{nat_le, slice_get}
use Rattle.std.proofs.lemmas.Bool.{leb-true}
use Rattle.std.proofs.lemmas.List.{length-set}
use Rattle.std.proofs.lemmas.List.Elements.{All-set}
use Rattle.b67_list.specs.Numbered.{numbered}
use Rattle.b67_list.proofs.Lists.{get_set_other, set_set_here}
use Rattle.b67_word.specs.declared.Place.{Place}
use Rattle.b67_word.specs.Word.{Word, IsWord}
use Rattle.b67_control.specs.declared.Registers.{Registers}
use Rattle.b67_control.specs.declared.Pcw.{Pcw}
use Rattle.b67_control.specs.Control.{as_mscw, as_rcw, Fits_pcw}
use Rattle.b67_control.proofs.ControlLaws.{IsWord_mscw_word, IsWord_rcw_word, as_mscw_mscw_word, as_rcw_rcw_word}
use Rattle.b67_segment.specs.declared.code.Code.{Code}
use Rattle.b67_store.specs.Store.{Stacks, words_of, with_stack}
use Rattle.b67_table.specs.declared.Entry.{Entry}
use Rattle.b67_table.specs.Limits.{most_cells}
use Rattle.b67_table.specs.Private.{at_or}
use Rattle.b67_table.specs.Look.{read_as}
use Rattle.b67_table.specs.Chains.{place}
use Rattle.b67_table.specs.Image.{Image, is_live, with_stacks}
use Rattle.b67_table.specs.Program.{asked, done, save, registers, changed}
use Rattle.b67_table.specs.Linkage.{control_word, entered_mark, entering, entered, entry}
use Rattle.b67_table.specs.Valid.{IsHeld, IsProcess, IsValid}
use Rattle.b67_table.proofs.Lists.{get_set}
use Rattle.b67_table.proofs.Keeping.{Gives}
use Rattle.b67_table.proofs.Finding.{see_then}
use Rattle.b67_table.proofs.OwnValid.{own_image, words_here, own_valid}
use Rattle.b67_table.proofs.Simple.{Ends, ends_own}
use Rattle.b67_table.proofs.Entering.{IsEntry, entering_found, mark_fits, control_fits, code_small}

module _ (code : Code) (img : Image) (p : ℕ) (r : Registers) (v : IsValid code img) (live : is_live (numbered img.states p) ≡ true)
    (has : numbered img.regs p ≡ Some r) where
  own : IsProcess img p r
  own = v.processes p r live has

  saved_is : (f : ℕ) (a b : Word) (s : Registers)
      → changed p (save (place p f) a (save (place p (f + 1)) b (registers s done))) img ≡ own_image img p (set (set (words_of img.stacks p) f a) (f + 1) b) s
  saved_is f a b s =
      ap (λ (ws : List Word). changed p (registers s done) (with_stacks img (with_stack (with_stack img.stacks p (set (words_of img.stacks p) f a)) p (set ws (f + 1) b))))
      (words_here code img p r v live has (set (words_of img.stacks p) f a))
      ∙ ap (λ (st : Stacks). changed p (registers s done) (with_stacks img st))
      (set_set_here img.stacks p (Some (set (words_of img.stacks p) f a)) (Some (set (set (words_of img.stacks p) f a) (f + 1) b)))

  module _ (next df : ℕ) (pcw : Pcw) (home : Option Place) (f : Fits_pcw pcw) (d : df < 2 ^ 16) (held : (h : Place) → home ≡ Some h → IsHeld h)
      (high : r.f + 1 < r.s) where
    new : Entry → Registers
    new e = entered r r.s r.f pcw e (r.s - (r.f + 2))

    entry_ends : (e : Entry) → IsEntry code img p r v live has next (nat_le (r.s - (r.f + 2)) most_cells) r.f pcw.level e
        → Ends code img p (save (place r.stack r.f) (entered_mark e.home df) (save (place r.stack (r.f + 1)) (control_word r next pcw.level) (registers (new e) done)))
    unfolding new
    entry_ends e k =
        let a : Word = entered_mark e.home df in
        let b : Word = control_word r next pcw.level in
        let mf = mark_fits code img p r v live has e.home df k.home d in
        let cf = control_fits code img p r v live has next pcw.level k.back f.1.1.1.0 in
        let shows = k.shows own.mark in
        let first : length (set (words_of img.stacks p) r.f (entered_mark e.home df)) ≡ length (words_of img.stacks p) = length-set (words_of img.stacks p) r.f (entered_mark e.home df) in
        let here = words_here code img p r v live has (set (set (words_of img.stacks p) r.f (entered_mark e.home df)) (r.f + 1) (control_word r next pcw.level)) in
        ends_own code img p r v live has _ (set (set (words_of img.stacks p) r.f (entered_mark e.home df)) (r.f + 1) (control_word r next pcw.level)) (new e)
        (ap (λ (n : ℕ). changed p (save (place n r.f) (entered_mark e.home df) (save (place n (r.f + 1)) (control_word r next pcw.level) (registers (new e) done))) img)
        own.stack ∙ saved_is r.f (entered_mark e.home df) (control_word r next pcw.level) (new e))
        (λ small. own_valid code img p r v live has (set (set (words_of img.stacks p) r.f (entered_mark e.home df)) (r.f + 1) (control_word r next pcw.level)) (new e)
        (All-set IsWord (set (words_of img.stacks p) r.f (entered_mark e.home df)) (r.f + 1) (control_word r next pcw.level) (IsWord_rcw_word _ cf)
        (All-set IsWord (words_of img.stacks p) r.f (entered_mark e.home df) (IsWord_mscw_word _ mf) (v.words p))) refl
        (record {
          stack = own.stack;
          size = own.size ∙ sym (ap length here ∙ length-set (set (words_of img.stacks p) r.f (entered_mark e.home df)) (r.f + 1) (control_word r next pcw.level) ∙ first);
          room = small;
          display = shows.display_is;
          frame = r.f;
          own = shows.names ∙ ap (λ (n : ℕ). Some (place n r.f)) own.stack;
          is_frame = record {
            mark = _;
            marked = ap (λ (ws : List Word). read_as as_mscw (slice_get ws r.f)) here
                ∙ ap (read_as as_mscw) (get_set_other (set (words_of img.stacks p) r.f (entered_mark e.home df)) (r.f + 1) r.f (control_word r next pcw.level) (not_next r.f)
                ∙ get_set (words_of img.stacks p) r.f (entered_mark e.home df) (omega (arith, own.size, high)))
                ∙ as_mscw_mscw_word _ mf;
            entered = refl;
            control = _;
            controlled = ap (λ (ws : List Word). read_as as_rcw (slice_get ws (r.f + 1))) here
                ∙ ap (read_as as_rcw)
                (get_set (set (words_of img.stacks p) r.f (entered_mark e.home df)) (r.f + 1) (control_word r next pcw.level) (omega (arith, own.size, high, first)))
                ∙ as_rcw_rcw_word _ cf;
          };
          above = omega (arith, ap at_or shows.names, high);
          mark = own.mark;
          cells = leb-true (r.s - (r.f + 2)) most_cells k.fit;
          segment = f.0;
          pointer = code_small code img p r v live has pcw f;
        }))
      where
        not_next : (n : ℕ) → n ≢ n + 1
        not_next n e = absurd (omega (arith, e))

    pub entry_kept : Gives (Ends code img p) (asked img (entry r next df pcw home))
    unfolding new
    entry_kept =
        see_then img (IsEntry code img p r v live has next (nat_le (r.s - (r.f + 2)) most_cells) r.f pcw.level) (Ends code img p)
        (entering r next (nat_le (r.s - (r.f + 2)) most_cells) r.f pcw home) _
        (entering_found code img p r v live has next (nat_le (r.s - (r.f + 2)) most_cells) r.f pcw home f held) (λ e k. entry_ends e k)
