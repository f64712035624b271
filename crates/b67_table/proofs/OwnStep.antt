-- A change that cuts a process's own stack, pushes words, and sets its registers: what it must be for the image to stay valid.
use Rattle.std.proofs.Common.{◌≡◌, refl, sym, ap, ◌∙◌, ℕ, ◌+◌, ◌<◌, ◌≤◌, ◌^◌, true, List, [], ◌∷◌, ◌++◌, length, All, take, Some, arith, append_assoc, length-append}
use Rattle.std.specs.Prelude.{slice_get}
use Rattle.std.proofs.lemmas.List.{length-take-le}
use Rattle.std.proofs.lemmas.List.Elements.{All-take, All-append}
use Rattle.b67_list.specs.Numbered.{numbered}
use Rattle.b67_list.proofs.Lists.{set_set_here}
use Rattle.b67_word.specs.Word.{Word, IsWord}
use Rattle.b67_control.specs.declared.Registers.{Registers}
use Rattle.b67_control.specs.Control.{as_mscw, as_rcw}
use Rattle.b67_segment.specs.declared.code.Code.{Code}
use Rattle.b67_store.specs.Store.{Stacks, words_of, with_stack, stack_limit}
use Rattle.b67_table.specs.Limits.{most_cells, segment_numbers}
use Rattle.b67_table.specs.Look.{read_as}
use Rattle.b67_table.specs.Chains.{place}
use Rattle.b67_table.specs.Private.{display_at, floor}
use Rattle.b67_table.specs.Image.{Image, is_live, with_stacks}
use Rattle.b67_table.specs.Program.{done, cut, registers, changed}
use Rattle.b67_table.specs.Moves.{pushed}
use Rattle.b67_table.specs.Valid.{IsDisplay, IsFrame, IsProcess, IsValid}
use Rattle.b67_table.proofs.Stacks.{below_word}
use Rattle.b67_table.proofs.OwnValid.{own_image, words_here, own_valid}

-- what the registers of a process must be, given the words of its stack
pub record Registered (img : Image) (p n : ℕ) (more : List Word) (s : Registers) : Type 0 where
  pub stack : s.stack ≡ p
  pub size : s.s ≡ n + length more
  pub display : IsDisplay s.ll s.display
  pub frame : ℕ
  pub own : display_at s s.ll ≡ Some (place p frame)
  pub above : floor s ≤ s.s
  pub mark : s.f < 2 ^ 16
  pub cells : s.cells ≤ most_cells
  pub segment : s.segment < segment_numbers
  pub pointer : s.place < 2 ^ 16

module _ (code : Code) (img : Image) (p : ℕ) (r : Registers) (v : IsValid code img) (live : is_live (numbered img.states p) ≡ true)
    (has : numbered img.regs p ≡ Some r) where
  own : IsProcess img p r
  own = v.processes p r live has

  -- ---- the change as one image

  again : (us ws : List Word) → with_stack (with_stack img.stacks p us) p ws ≡ with_stack img.stacks p ws
  again us ws = set_set_here img.stacks p (Some us) (Some ws)

  pushed_is : (ws us : List Word) (s : Registers) → changed p (pushed p ws (registers s done)) (with_stacks img (with_stack img.stacks p us)) ≡ own_image img p (us ++ ws) s
  pushed_is [] us s = ap (λ (x : List Word). own_image img p x s) (sym (nothing us))
    where
      nothing : (xs : List Word) → xs ++ [] ≡ xs
      nothing [] = refl
      nothing (x ∷ xs) = ap (λ ys. x ∷ ys) (nothing xs)
  pushed_is (w ∷ ws) us s =
      ap (λ (st : Stacks). changed p (pushed p ws (registers s done)) (with_stacks img st))
      (ap (λ (xs : List Word). with_stack (with_stack img.stacks p us) p (xs ++ w ∷ [])) (words_here code img p r v live has us) ∙ again us (us ++ w ∷ []))
      ∙ pushed_is ws (us ++ w ∷ []) s ∙ ap (λ (xs : List Word). own_image img p xs s) (append_assoc us (w ∷ []) ws)

  pub cut_is : (n : ℕ) (ws : List Word) (s : Registers) → changed p (cut p n (pushed p ws (registers s done))) img ≡ own_image img p (take n (words_of img.stacks p) ++ ws) s
  cut_is n ws s = pushed_is ws (take n (words_of img.stacks p)) s

  -- ---- the image is valid

  module _ (n : ℕ) (more : List Word) (s : Registers) (within : n ≤ length (words_of img.stacks p)) (are : All IsWord more)
      (k : Registered img p n more s) (room : s.s ≤ stack_limit) (e : s.critical ≡ r.critical) where
    words : List Word
    words = take n (words_of img.stacks p) ++ more

    words_are : All IsWord (take n (words_of img.stacks p) ++ more)
    words_are = All-append IsWord (take n (words_of img.stacks p)) more (All-take IsWord n (words_of img.stacks p) (v.words p)) are

    words_length : length (take n (words_of img.stacks p) ++ more) ≡ s.s
    words_length = omega (arith, length-append (take n (words_of img.stacks p)) more, length-take-le n (words_of img.stacks p) within, k.size)

    here : words_of (with_stack img.stacks p (take n (words_of img.stacks p) ++ more)) p ≡ take n (words_of img.stacks p) ++ more
    here = words_here code img p r v live has (take n (words_of img.stacks p) ++ more)

    pub framed_valid : IsFrame (own_image img p (take n (words_of img.stacks p) ++ more) s) (place p k.frame)
        → IsValid code (own_image img p (take n (words_of img.stacks p) ++ more) s)
    framed_valid f =
        own_valid code img p r v live has (take n (words_of img.stacks p) ++ more) s words_are e (record {
          stack = k.stack;
          size = sym (ap length here ∙ words_length);
          room = room;
          display = k.display;
          frame = k.frame;
          own = k.own;
          is_frame = f;
          above = k.above;
          mark = k.mark;
          cells = k.cells;
          segment = k.segment;
          pointer = k.pointer;
        })

    word_there : (i : ℕ) → i < n → slice_get (take n (words_of img.stacks p) ++ more) i ≡ slice_get (words_of img.stacks p) i
    word_there i h = below_word (words_of img.stacks p) more n i h within

    -- a frame that lies below what is new
    pub lower_valid : k.frame + 2 ≤ n → IsFrame img (place p k.frame) → IsValid code (own_image img p (take n (words_of img.stacks p) ++ more) s)
    lower_valid low f =
        framed_valid (record {
          mark = f.mark;
          marked = ap (λ (ws : List Word). read_as as_mscw (slice_get ws k.frame)) here ∙ ap (read_as as_mscw) (word_there k.frame (omega (arith, low))) ∙ f.marked;
          entered = f.entered;
          control = f.control;
          controlled = ap (λ (ws : List Word). read_as as_rcw (slice_get ws (k.frame + 1))) here
              ∙ ap (read_as as_rcw) (word_there (k.frame + 1) (omega (arith, low))) ∙ f.controlled;
        })
