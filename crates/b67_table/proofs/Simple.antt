-- Changes that only cut the process's own stack above its floor, push words, and set S, F and the pointer's place.
use Rattle.std.proofs.Common.{◌≡◌, refl, sym, ap, subst, ◌∙◌, ℕ, ◌+◌, ◌-◌, ◌<◌, ◌≤◌, ◌^◌, true, List, [], ◌∷◌, ◌++◌, length, All, take, Option, Some, arith}
use Rattle.std.proofs.lemmas.List.Elements.{All-nil, All-cons}
use Rattle.b67_list.specs.Numbered.{numbered, set_numbered}
use Rattle.b67_word.specs.Word.{Word, IsWord}
use Rattle.b67_control.specs.declared.Registers.{Registers}
use Rattle.b67_control.specs.declared.Mscw.{Mscw}
use Rattle.b67_segment.specs.declared.code.Code.{Code}
use Rattle.b67_store.specs.Store.{words_of, stack_limit, row_limit}
use Rattle.b67_table.specs.Private.{at_or, frame, floor}
use Rattle.b67_table.specs.Image.{Image, is_live}
use Rattle.b67_table.specs.Program.{Change, done, cut, registers, changed}
use Rattle.b67_table.specs.Moves.{dropped, replaced, pushed}
use Rattle.b67_table.specs.Arguments.{finished_at}
use Rattle.b67_table.specs.Table.{stack_length, length_in}
use Rattle.b67_table.specs.Valid.{IsProcess, IsValid}
use Rattle.b67_table.proofs.Lists.{numbered_set, numbered_within}
use Rattle.b67_table.proofs.FirstValid.{counted}
use Rattle.b67_table.proofs.OwnValid.{own_image}
use Rattle.b67_table.proofs.OwnStep.{cut_is, lower_valid}

-- the image after a change is valid, unless it has too long a stack or too many rows
unfoldable pub Ends : Code → Image → ℕ → Change → Type 0
Ends code img p c =
    stack_length p (changed p c img) ≤ stack_limit → length (changed p c img).rows ≤ row_limit → IsValid code (changed p c img)

module _ (code : Code) (img : Image) (p : ℕ) (r : Registers) (v : IsValid code img) (live : is_live (numbered img.states p) ≡ true)
    (has : numbered img.regs p ≡ Some r) where
  own : IsProcess img p r
  own = v.processes p r live has

  pub ends_own : (c : Change) (words : List Word) (s : Registers) → changed p c img ≡ own_image img p words s
      → (s.s ≤ stack_limit → IsValid code (own_image img p words s)) → Ends code img p c
  unfolding Ends
  ends_own c words s e k small few =
      let here : numbered (set_numbered img.regs p s) p ≡ Some s =
      numbered_set img.regs p s (counted p r img.regs has) (numbered_within img.regs p r has) in
      subst (IsValid code) (sym e) (k (subst (λ (o : Option Registers). length_in o ≤ stack_limit) (ap (λ (i : Image). numbered i.regs p) e ∙ here) small))

  frame_is : frame r ≡ own.frame
  frame_is = ap at_or own.own

  -- S, F and the place are set
  pub moved_valid : (n : ℕ) (more : List Word) (size f place : ℕ) → n ≤ r.s → floor r ≤ n → All IsWord more → size ≡ n + length more → f < 2 ^ 16 → place < 2 ^ 16
      → size ≤ stack_limit → IsValid code (own_image img p (take n (words_of img.stacks p) ++ more) (record r { s = size; f = f; place = place }))
  moved_valid n more size f place within high are e g h small =
      lower_valid code img p r v live has n more (record r { s = size; f = f; place = place })
      (subst (λ (m : ℕ). n ≤ m) own.size within) are
      (record {
        stack = own.stack;
        size = e;
        display = own.display;
        frame = own.frame;
        own = own.own;
        above = omega (arith, high, e);
        mark = g;
        cells = own.cells;
        segment = own.segment;
        pointer = h;
      }) small refl (omega (arith, high, frame_is)) own.is_frame

  -- words are cut and pushed, and the three registers set
  pub moved_ends : (n : ℕ) (more : List Word) (size f place : ℕ) → n ≤ r.s → floor r ≤ n → All IsWord more → size ≡ n + length more → f < 2 ^ 16 → place < 2 ^ 16
      → Ends code img p (cut r.stack n (pushed r.stack more (registers (record r { s = size; f = f; place = place }) done)))
  moved_ends n more size f place within high are e g h =
      ends_own (cut r.stack n (pushed r.stack more (registers (record r { s = size; f = f; place = place }) done)))
      (take n (words_of img.stacks p) ++ more) (record r { s = size; f = f; place = place })
      (ap (λ (k : ℕ). changed p (cut k n (pushed k more (registers (record r { s = size; f = f; place = place }) done))) img) own.stack
      ∙ cut_is code img p r v live has n more (record r { s = size; f = f; place = place }))
      (moved_valid n more size f place within high are e g h)

  one : (w : Word) → IsWord w → All IsWord (w ∷ [])
  one w i = All-cons IsWord w [] i (All-nil IsWord)

  pub dropped_ends : (n next : ℕ) → floor r + n ≤ r.s → next < 2 ^ 16 → Ends code img p (dropped r next n)
  dropped_ends n next h k = moved_ends (r.s - n) [] (r.s - n) r.f next (omega arith) (omega (arith, h)) (All-nil IsWord) (omega arith) own.mark k

  pub replaced_ends : (n next : ℕ) (w : Word) → floor r + n ≤ r.s → IsWord w → next < 2 ^ 16 → Ends code img p (replaced r next n w)
  replaced_ends n next w h i k =
      moved_ends (r.s - n) (w ∷ []) (r.s - n + 1) r.f next (omega arith) (omega (arith, h)) (one w i) refl own.mark k

  pub finished_ends : (m : Mscw) (words : List Word) (place : ℕ) → floor r ≤ r.f → r.f ≤ r.s → All IsWord words → place < 2 ^ 16
      → Ends code img p (finished_at r m words place)
  finished_ends m words place low high are h =
      moved_ends r.f words (r.f + length words) (r.f - m.df) place high low are refl (omega (arith, own.mark)) h
