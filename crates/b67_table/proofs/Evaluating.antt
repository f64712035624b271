-- Reading, indexing, storing and branches keep an image valid.
use Rattle.std.proofs.Common.{◌≡◌, refl, sym, ap, ◌∙◌, ℕ, ◌+◌, ◌<◌, ◌≤◌, ◌^◌, ◌==◌, Bool, true, false, List, [], ◌∷◌, ◌++◌, take, All, Option, Some, None, Ok, Err, cond, arith}
use Rattle.std.proofs.lemmas.List.Elements.{All-nil, All-cons}
use Rattle.std.proofs.Math.Seq.{take-length}
use Rattle.b67_list.specs.Numbered.{numbered}
use Rattle.b67_word.specs.declared.Place.{Place}
use Rattle.b67_word.specs.Word.{Word, IsWord}
use Rattle.b67_control.specs.declared.Registers.{Registers}
use Rattle.b67_control.specs.declared.Pcw.{Pcw}
use Rattle.b67_control.specs.declared.Descriptor.{Descriptor}
use Rattle.b67_control.specs.Control.{as_pcw}
use Rattle.b67_control.proofs.ControlLaws.{Fits_as_pcw, IsWord_sirw_word}
use Rattle.b67_ops.specs.declared.BranchKind.{BranchKind}
use Rattle.b67_ops.specs.declared.BranchKind.TheVariants.{Brfl, Brtr, Brun}
use Rattle.b67_ops.specs.declared.Couple.{Couple}
use Rattle.b67_segment.specs.declared.code.Code.{Code}
use Rattle.b67_store.specs.Store.{Row, Stacks, with_stack, words_of, row_at, row_words_or}
use Rattle.b67_store.proofs.Cited.{put_there}
use Rattle.b67_table.specs.declared.Cell.{Cell}
use Rattle.b67_table.specs.declared.Reached.{Reached}
use Rattle.b67_table.specs.declared.InterruptKind.TheVariants.{InvalidOperand}
use Rattle.b67_table.specs.Private.{floor}
use Rattle.b67_table.specs.PrivateRows.{is_taken}
use Rattle.b67_table.specs.Look.{found, ◌>->◌, valid}
use Rattle.b67_table.specs.References.{cell_place, cell_word, couple_cell, cell_of, named, reached, popped, operand_in, invalid}
use Rattle.b67_table.specs.Image.{Image, with_stacks, is_live}
use Rattle.b67_table.specs.Program.{answer, asked, see, ◌>>=◌, Change, done, push, registers, changed}
use Rattle.b67_table.specs.Moves.{replaced}
use Rattle.b67_table.specs.Linkage.{accidental}
use Rattle.b67_table.specs.Arrays.{as_indexed, word_in_row, element}
use Rattle.b67_table.specs.Rows.{turn_by, branch_turn, value_or_entry, value_call, loaded, load_value, is_passed, load_through, cell_or_entry, evaluate}
use Rattle.b67_table.specs.Valid.{IsHeld, IsProcess, IsValid}
use Rattle.b67_table.proofs.Keeping.{Gives}
use Rattle.b67_table.proofs.Finding.{Found, look_then, see_then, test_then, see_gives, there_found, found_by, gives_by}
use Rattle.b67_table.proofs.Referring.{IsCell, word_is, couple_is, cell_is, IsReached, named_found, reached_found, popped_found, operand_found}
use Rattle.b67_table.proofs.PrivateValid.{get_all}
use Rattle.b67_table.proofs.OwnValid.{own_image, opened}
use Rattle.b67_table.proofs.Simple.{Ends, ends_own, moved_valid, dropped_ends, replaced_ends}
use Rattle.b67_table.proofs.Entering.{accidental_kept}

module _ (code : Code) (img : Image) (p : ℕ) (r : Registers) (v : IsValid code img) (live : is_live (numbered img.states p) ≡ true)
    (has : numbered img.regs p ≡ Some r) (next : ℕ) (small : next < 2 ^ 16) where
  pub own : IsProcess img p r
  own = v.processes p r live has

  unfoldable pub E : Change → Type 0
  E = Ends code img p

  -- ---- branches

  Top : Word → Type 0
  Top w = floor r + 1 ≤ r.s

  turn_by_kept : (kind : BranchKind) (target : ℕ) → target < 2 ^ 16 → Gives E (asked img (turn_by kind target r next))
  unfolding E Top
  turn_by_kept kind target t =
      see_then img Top E (popped r >-> operand_in) _
      (look_then img.stacks (λ (w : Word). IsWord w × (floor r + 1 ≤ r.s)) Top (popped r) operand_in (popped_found code img p r v live has) (λ w i.
      found_by img.stacks Top (w.tag == 0) (found w) invalid (λ b. i.1) (λ b. tt)))
      (λ w h. dropped_ends code img p r v live has 1 (cond (is_taken kind w.bits) target next) h (either (is_taken kind w.bits)))
    where
      either : (b : Bool) → cond b target next < 2 ^ 16
      either true = t
      either false = small

  pointed_ends : (target : ℕ) → target < 2 ^ 16 → E (registers (record r { place = target }) done)
  unfolding E
  pointed_ends target t =
      ends_own code img p r v live has (registers (record r { place = target }) done) (take r.s (words_of img.stacks p) ++ []) (record r { place = target })
      (same target)
      (moved_valid code img p r v live has r.s [] r.s r.f target (omega arith) own.above (All-nil IsWord) (omega arith) own.mark t)
    where
      whole : take r.s (words_of img.stacks p) ++ [] ≡ words_of img.stacks p
      whole = nothing (take r.s (words_of img.stacks p)) ∙ ap (λ (n : ℕ). take n (words_of img.stacks p)) own.size ∙ take-length (words_of img.stacks p)
        where
          nothing : (xs : List Word) → xs ++ [] ≡ xs
          nothing [] = refl
          nothing (x ∷ xs) = ap (λ ys. x ∷ ys) (nothing xs)

      same : (place : ℕ) → changed p (registers (record r { place = place }) done) img ≡ own_image img p (take r.s (words_of img.stacks p) ++ []) (record r { place = place })
      same place =
          ap (λ (i : Image). changed p (registers (record r { place = place }) done) i)
          (sym (ap (λ (ws : List Word). with_stacks img (with_stack img.stacks p ws)) whole
          ∙ ap (λ (st : Stacks). with_stacks img st) (put_there img.stacks p (words_of img.stacks p) (opened code img p r v live has))))

  pub turn_kept : (kind : BranchKind) (target : ℕ) → target < 2 ^ 16 → Gives (Ends code img p) (asked img (branch_turn kind target r next))
  unfolding E
  turn_kept Brun target t = pointed_ends target t
  turn_kept Brfl target t = turn_by_kept Brfl target t
  turn_kept Brtr target t = turn_by_kept Brtr target t

  -- ---- reading

  pushed_ends : (w : Word) → IsWord w → E (push r.stack w (registers (record r { s = r.s + 1; place = next }) done))
  unfolding E
  pushed_ends w i =
      ends_own code img p r v live has (push r.stack w (registers (record r { s = r.s + 1; place = next }) done))
      (take r.s (words_of img.stacks p) ++ w ∷ []) (record r { s = r.s + 1; place = next })
      (ap (λ (n : ℕ). changed p (push n w (registers (record r { s = r.s + 1; place = next }) done)) img) own.stack
      ∙ ap (λ (ws : List Word). own_image img p (ws ++ w ∷ []) (record r { s = r.s + 1; place = next }))
      (sym (ap (λ (n : ℕ). take n (words_of img.stacks p)) own.size ∙ take-length (words_of img.stacks p))))
      (moved_valid code img p r v live has r.s (w ∷ []) (r.s + 1) r.f next (omega arith) own.above (All-cons IsWord w [] i (All-nil IsWord)) refl own.mark small)

  entered_kept : (taken : ℕ) (pcw : Pcw) (w : Word) (home : Place) (selector : ℕ) → as_pcw w ≡ Some pcw → IsHeld home → selector < 2 ^ 16 → floor r + taken ≤ r.s
      → Gives (Ends code img p) (asked img (accidental r next taken pcw home selector))
  entered_kept taken pcw w home selector e h few high = accidental_kept code img p r v live has next taken pcw home selector (Fits_as_pcw w e) h few high

  value_by : (w : Reached) (o : Option Pcw) → as_pcw w.word ≡ o → IsReached code img p r v live has w → Gives E (asked img (value_or_entry r next w o))
  unfolding E
  value_by w None e i =
      see_then img (λ (x : Word). IsWord x × (x.tag ≡ 0)) E (operand_in w.word) _
      (operand_found code img p r v live has w.word (word_is code img p r v live has (cell_place w.cell) w.word i.there)) (λ x j. pushed_ends x j.0)
  value_by w (Some pcw) e i =
      gives_by img E pcw.intrinsic (see invalid) _ (λ b. tt)
      (λ b. entered_kept 0 pcw w.word w.cell.frame 0 e i.cell.frame (omega arith) (omega (arith, own.above)))

  pub value_kept : (couple : Couple) → couple.index < 2 ^ 14 → Gives (Ends code img p) (asked img (value_call couple r next))
  unfolding E
  value_kept couple h =
      see_then img (IsReached code img p r v live has) E (reached (couple_cell r couple.level couple.index)) _
      (reached_found code img p r v live has (couple_cell r couple.level couple.index) (λ c e. couple_is code img p r v live has couple.level couple.index c h e))
      (λ w i. value_by w (as_pcw w.word) refl i)

  -- ---- elements

  in_row : (o : Option Row) (at : ℕ) (w : Word) → All IsWord (row_words_or o) → word_in_row o at ≡ Some w → IsWord w
  in_row None at w a e = cc
  in_row (Some x) at w a e = get_all IsWord x.words at w a e

  pub element_kept : (n at : ℕ) → Gives IsWord (asked img (element n at))
  element_kept n at =
      see_gives img IsWord (valid (word_in_row (row_at img.rows n) at))
      (there_found img.stacks IsWord InvalidOperand (word_in_row (row_at img.rows n) at) (λ w e. in_row (row_at img.rows n) at w (v.rows.words n) e))

  loaded_kept : (x : Word) (o : Option Descriptor) → Gives IsWord (asked img (loaded r x o))
  loaded_kept x (Some d) = element_kept d.address d.length
  loaded_kept x None =
      see_then img (IsReached code img p r v live has) IsWord (reached (cell_of r x)) _
      (reached_found code img p r v live has (cell_of r x) (λ c e. cell_is code img p r v live has x c e))
      (λ w i. word_is code img p r v live has (cell_place w.cell) w.word i.there)

  pub replace_operand : (n : ℕ) (w : Word) → floor r + n ≤ r.s → IsWord w
      → Gives (Ends code img p) (asked img (see (operand_in w) >>= (λ (x : Word). answer (replaced r next n x))))
  unfolding E
  replace_operand n w h i =
      see_then img (λ (x : Word). IsWord x × (x.tag ≡ 0)) E (operand_in w) _ (operand_found code img p r v live has w i)
      (λ x j. replaced_ends code img p r v live has n next x h j.0 small)

  pub load_kept : Gives (Ends code img p) (asked img (load_value r next))
  unfolding E
  load_kept =
      see_then img (λ (w : Word). IsWord w × (floor r + 1 ≤ r.s)) E (popped r) _ (popped_found code img p r v live has) (λ x i.
      test_then img IsWord E (loaded r x (as_indexed x)) _ (loaded_kept x (as_indexed x)) (λ w j. replace_operand 1 w i.1 j))

  -- what is reached by the word on top
  Reach : Reached → Type 0
  Reach w = IsReached code img p r v live has w × (floor r + 1 ≤ r.s)

  and_high : (e : _) → floor r + 1 ≤ r.s → Found (IsReached code img p r v live has) e → Found Reach e
  unfolding Reach
  and_high (Ok w) h i = (i, h)
  and_high (Err kind) h i = tt

  pub through_kept : Gives (Ends code img p) (asked img (load_through r next))
  unfolding E Reach
  through_kept =
      see_then img Reach E (popped r >-> (λ (x : Word). named (cell_of r x))) _
      (look_then img.stacks (λ (w : Word). IsWord w × (floor r + 1 ≤ r.s)) Reach (popped r) _ (popped_found code img p r v live has)
      (λ x i. and_high _ i.1 (named_found code img p r v live has (cell_of r x) (λ c e. cell_is code img p r v live has x c e))))
      (λ w i. gives_by img E (is_passed w.word) _ _
      (λ b. replaced_ends code img p r v live has 1 next w.word i.1 (word_is code img p r v live has (cell_place w.cell) w.word i.0.there) small) (λ b. tt))

  cell_is_word : (c : Cell) → IsCell c → IsWord (cell_word c)
  cell_is_word c i =
      IsWord_sirw_word (record { stack = c.frame.stack; displacement = c.frame.at; index = c.index }) (i.frame.stack, (i.frame.displacement, (i.index, tt)))

  cell_by : (w : Reached) (o : Option Pcw) → as_pcw w.word ≡ o → Reach w → Gives E (asked img (cell_or_entry r next w o))
  unfolding E Reach
  cell_by w (Some pcw) e i =
      gives_by img E pcw.names _ _ (λ b. entered_kept 1 pcw w.word w.cell.frame 1 e i.0.cell.frame (omega arith) i.1) (λ b. tt)
  cell_by w None e i =
      see_then img (λ (x : Word). IsWord x × (x.tag ≡ 0)) E (operand_in w.word) _
      (operand_found code img p r v live has w.word (word_is code img p r v live has (cell_place w.cell) w.word i.0.there))
      (λ x j. replaced_ends code img p r v live has 1 next (cell_word w.cell) i.1 (cell_is_word w.cell i.0.cell) small)

  pub evaluate_kept : Gives (Ends code img p) (asked img (evaluate r next))
  unfolding E Reach
  evaluate_kept =
      see_then img Reach E (popped r >-> (λ (x : Word). reached (cell_of r x))) _
      (look_then img.stacks (λ (w : Word). IsWord w × (floor r + 1 ≤ r.s)) Reach (popped r) _ (popped_found code img p r v live has)
      (λ x i. and_high _ i.1 (reached_found code img p r v live has (cell_of r x) (λ c e. cell_is code img p r v live has x c e))))
      (λ w i. cell_by w (as_pcw w.word) refl i)
