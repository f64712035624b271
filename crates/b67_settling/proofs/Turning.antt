-- Entries whose actions touch only what is their process's own; branches that do not go forward.
use Rattle.std.specs.Prelude.{◌==◌, nat_le, nat_lt, slice_get}
use Rattle.std.proofs.Common.{◌≡◌, refl, sym, ap, ◌∙◌, ℕ, ◌+◌, ◌-◌, ◌<◌, ◌≤◌, Bool, true, false, List, [], ◌∷◌, ◌++◌, length, length-append, append_assoc, take, drop, reverse, Option, Some, None, Ok, cond, arith}
use Rattle.std.proofs.lemmas.Bool.{leb-true, le-leb}
use Rattle.std.proofs.lemmas.List.{reverse-append}
use Rattle.b67_list.specs.Numbered.{numbered}
use Rattle.b67_word.specs.Word.{Word}
use Rattle.b67_control.specs.declared.Registers.{Registers}
use Rattle.b67_ops.specs.declared.BranchKind.{BranchKind}
use Rattle.b67_ops.specs.declared.BranchKind.TheVariants.{Brfl, Brtr, Brun}
use Rattle.b67_ops.specs.declared.Operator.TheVariants as ops
use Rattle.b67_segment.specs.declared.code.Code.{Code}
use Rattle.b67_store.specs.Store.{stack_limit, words_of, word_at}
use Rattle.b67_table.specs.declared.InterruptKind.TheVariants.{StackUnderflow}
use Rattle.b67_table.specs.declared.Private.{Private}
use Rattle.b67_table.specs.Chains.{place}
use Rattle.b67_table.specs.Ending.{may_act}
use Rattle.b67_table.specs.Image.{Image, private_of, with_private}
use Rattle.b67_table.specs.Look.{found, stops, ◌>->◌, valid}
use Rattle.b67_table.specs.Private.{floor}
use Rattle.b67_table.specs.PrivateRows.{is_taken, branch}
use Rattle.b67_table.specs.Program.{answer, ◌>>=◌, see, asked, changed, registers, done}
use Rattle.b67_table.specs.Moves as moves_of
use Rattle.b67_table.specs.References.{from_top, operand_in, invalid}
use Rattle.b67_table.specs.Rows.{private_part, acts, row, branch_turn, turn_by}
use Rattle.b67_table.specs.Table.{operator_at}
use Rattle.b67_table.specs.Valid.{IsValid, IsProcess}
use Rattle.b67_table.proofs.Lists.{numbered_set, numbered_from, numbered_within}
use Rattle.b67_private.specs.Parts.{PlainParts}
use Rattle.b67_settling.specs.Own.{TestIsOwn}
use Rattle.b67_settling.specs.Local.{IsLocal, above_floor, in_stack, Turns, always, by_bit}
use Rattle.b67_settling.specs.Laws.{OwnEntriesAreLocal, StackEntriesAreLocal, TurnsAreLocal}
use Rattle.b67_settling.proofs.Own.{put_words}
use Rattle.b67_settling.proofs.Moving.{moves}
use Rattle.b67_settling.proofs.Quiet.{Answers, live, floor_at, then_has, stack_is, process, raised, own_entry}

pub own_entries_are_local : OwnEntriesAreLocal
own_entries_are_local code a p r o = above_floor r (moves code a p r (floor r) o)

pub stack_entries_are_local : StackEntriesAreLocal
stack_entries_are_local code a p r stay_own own o = in_stack r stay_own own (moves code a p r 0 o)

-- ---- what such a branch touches

module _ (img : Image) (r : Registers) (base next : ℕ) (low : base ≤ floor r) where
  operand_own : (kind : BranchKind) (target : ℕ) → base ≤ r.s - 1 → (w : Word) (b : Bool)
      → TestIsOwn img r base (see (cond b (found w) invalid) >>= (λ (v : Word). answer (moves_of.dropped r (cond (is_taken kind v.bits) target next) 1)))
  operand_own kind target high w true = ((refl, high), ((refl, refl), tt))
  operand_own kind target high w false = tt

  word_own : (kind : BranchKind) (target : ℕ) → base ≤ r.s - 1 → (o : Option Word)
      → TestIsOwn img r base (see (valid o >-> operand_in) >>= (λ (v : Word). answer (moves_of.dropped r (cond (is_taken kind v.bits) target next) 1)))
  word_own kind target high None = tt
  word_own kind target high (Some w) = operand_own kind target high w (w.tag == 0)

  by_need : (kind : BranchKind) (target : ℕ) (b : Bool) → (b ≡ true → base ≤ r.s - 1)
      → TestIsOwn img r base (see (cond b (from_top r 0) (stops StackUnderflow) >-> operand_in)
      >>= (λ (v : Word). answer (moves_of.dropped r (cond (is_taken kind v.bits) target next) 1)))
  by_need kind target true high = ((refl, high refl), word_own kind target (high refl) (word_at img.stacks (place r.stack (r.s - 1))))
  by_need kind target false high = tt

  bit_own : (kind : BranchKind) (target : ℕ) → TestIsOwn img r base (turn_by kind target r next)
  bit_own kind target = by_need kind target (nat_le (floor r + 1) r.s) (λ e. omega (arith, low, leb-true (floor r + 1) r.s e))

  turn_own : (kind : BranchKind) (target : ℕ) → TestIsOwn img r base (branch_turn kind target r next)
  turn_own Brun target = ((refl, refl), tt)
  turn_own Brfl target = bit_own Brfl target
  turn_own Brtr target = bit_own Brtr target

-- ---- what it does

is_turn : (kind : BranchKind) (target here : ℕ) → nat_lt here target ≡ false → row (ops.Branch kind target) here ≡ acts (branch_turn kind target)
unfolding row
is_turn kind target here e = ap (λ (b : Bool). cond b (private_part (branch kind target)) (acts (branch_turn kind target))) e

module _ (img : Image) (p : ℕ) (r : Registers) (here : numbered img.regs p ≡ Some r) (room : r.s ≤ stack_limit) (next : ℕ) where
  set : (s : Registers) → numbered (changed p (registers s done) img).regs p ≡ Some s
  set s = numbered_set img.regs p s (numbered_from img.regs p r here) (numbered_within img.regs p r here)

  jump_answers : (target : ℕ) → Answers img p (branch_turn Brun target r next)
  jump_answers target = record {
    change = registers (record r { place = target }) done;
    is = refl;
    regs = record r { place = target };
    has = set (record r { place = target });
    short = omega (arith, room);
  }

  bit_answers : (kind : BranchKind) (target : ℕ) (w : Word) → floor r < r.s → word_at img.stacks (place r.stack (r.s - 1)) ≡ Some w → w.tag ≡ 0
      → Answers img p (turn_by kind target r next)
  bit_answers kind target w some there operand =
      let to : ℕ = cond (is_taken kind w.bits) target next in
      record {
        change = moves_of.dropped r (cond (is_taken kind w.bits) target next) 1;
        is =
            ap (λ (b : Bool). asked img (see (cond b (from_top r 0) (stops StackUnderflow) >-> operand_in)
            >>= (λ (v : Word). answer (moves_of.dropped r (cond (is_taken kind v.bits) target next) 1))))
            (le-leb (floor r + 1) r.s (omega (arith, some)))
            ∙ ap (λ (o : Option Word). asked img (see (valid o >-> operand_in) >>= (λ (v : Word). answer (moves_of.dropped r (cond (is_taken kind v.bits) target next) 1)))) there
            ∙ ap (λ (n : ℕ). asked img (see (cond (n == 0) (found w) invalid) >>= (λ (v : Word). answer (moves_of.dropped r (cond (is_taken kind v.bits) target next) 1)))) operand;
        regs = record r { s = r.s - 1; place = cond (is_taken kind w.bits) target next };
        has = set (record r { s = r.s - 1; place = cond (is_taken kind w.bits) target next });
        short = omega (arith, room);
      }

  turn_answers : (kind : BranchKind) (target : ℕ) (w : Word) → floor r < r.s → word_at img.stacks (place r.stack (r.s - 1)) ≡ Some w → w.tag ≡ 0
      → Answers img p (branch_turn kind target r next)
  turn_answers Brun target w some there operand = jump_answers target
  turn_answers Brfl target w some there operand = bit_answers Brfl target w some there operand
  turn_answers Brtr target w some there operand = bit_answers Brtr target w some there operand

-- ---- in an image

-- the word on top of a part that was put
last : (xs : List Word) (w : Word) → slice_get (xs ++ w ∷ []) (length xs) ≡ Some w
last [] w = refl
last (x ∷ xs) w = last xs w

-- .. and the word under it
second_there : (low : List Word) (words rest : List Word) (v w : Word) (s : ℕ) → words ≡ v ∷ w ∷ rest → length (low ++ reverse words) ≡ s
    → slice_get (low ++ reverse words) (s - 2) ≡ Some w
second_there low words rest v w s e size =
    let upper : low ++ reverse words ≡ (low ++ reverse (w ∷ rest)) ++ v ∷ [] =
    ap (λ (ws : List Word). low ++ reverse ws) e ∙ ap (λ (ws : List Word). low ++ ws) (reverse-append (v ∷ []) (w ∷ rest)) ∙ sym (append_assoc low (reverse (w ∷ rest)) (v ∷ [])) in
    let is : low ++ reverse (w ∷ rest) ≡ (low ++ reverse rest) ++ w ∷ [] =
    ap (λ (ws : List Word). low ++ ws) (reverse-append (w ∷ []) rest) ∙ sym (append_assoc low (reverse rest) (w ∷ [])) in
    let all : low ++ reverse words ≡ (low ++ reverse rest) ++ w ∷ v ∷ [] =
    upper ∙ ap (λ (ws : List Word). ws ++ v ∷ []) is ∙ append_assoc (low ++ reverse rest) (w ∷ []) (v ∷ []) in
    let here : s - 2 ≡ length (low ++ reverse rest) = omega (arith, sym size, ap length all, length-append (low ++ reverse rest) (w ∷ v ∷ [])) in
    ap (λ (n : ℕ). slice_get (low ++ reverse words) n) here ∙ ap (λ (ws : List Word). slice_get ws (length (low ++ reverse rest))) all ∙ after (low ++ reverse rest) w (v ∷ [])
  where
    after : (xs : List Word) (x : Word) (ys : List Word) → slice_get (xs ++ x ∷ ys) (length xs) ≡ Some x
    after [] x ys = refl
    after (z ∷ xs) x ys = after xs x ys

top_there : (low : List Word) (words rest : List Word) (w : Word) (s : ℕ) → words ≡ w ∷ rest → length (low ++ reverse words) ≡ s → slice_get (low ++ reverse words) (s - 1) ≡ Some w
top_there low words rest w s e size =
    let is : low ++ reverse words ≡ (low ++ reverse rest) ++ w ∷ [] =
    ap (λ (ws : List Word). low ++ reverse ws) e ∙ ap (λ (ws : List Word). low ++ ws) (reverse-append (w ∷ []) rest) ∙ sym (append_assoc low (reverse rest) (w ∷ [])) in
    let here : s - 1 ≡ length (low ++ reverse rest) = omega (arith, sym size, ap length is, length-append (low ++ reverse rest) (w ∷ [])) in
    ap (λ (n : ℕ). slice_get (low ++ reverse words) n) here ∙ ap (λ (ws : List Word). slice_get ws (length (low ++ reverse rest))) is ∙ last (low ++ reverse rest) w

module _ (code : Code) (a : Image) (p n : ℕ) (r : Registers) (part : Private) (v : IsValid code a) (may : may_act a p ≡ true) (has : numbered a.regs p ≡ Some r)
    (parts : PlainParts code (private_of a r) n part) where
  there : numbered (with_private a p (floor r) part).regs p ≡ Some part.regs
  there = then_has code a p n r part v may has parts

  process_is : IsProcess (with_private a p (floor r) part) p part.regs
  process_is = process code a p n r part v may has parts

  turns_by : (kind : BranchKind) (target next : ℕ) → operator_at code part.regs ≡ Ok (ops.Branch kind target, next) → nat_lt part.regs.place target ≡ false
      → Answers (with_private a p (floor r) part) p (branch_turn kind target part.regs next) → IsLocal code a p
  turns_by kind target next stands back answers =
      own_entries_are_local code a p r
      (own_entry code a p n r part v may has parts (floor r) (omega arith) (ops.Branch kind target) next (λ c. branch_turn kind target) stands (is_turn kind target part.regs.place back)
      (turn_own (with_private a p (floor r) part) part.regs (floor r) next (raised code a p n r part v may has parts) kind target) answers)

  words_put : words_of (with_private a p (floor r) part).stacks r.stack ≡ take (floor r) (words_of a.stacks r.stack) ++ reverse part.words
  words_put = put_words a p r (floor r) (floor_at code a p n r part v may has parts) part (stack_is code a p n r part v may has parts)

  size_is : length (take (floor r) (words_of a.stacks r.stack) ++ reverse part.words) ≡ part.regs.s
  size_is =
      let number : p ≡ r.stack = sym (v.processes p r (live code a p n r part v may has parts) has).stack in
      ap length (sym words_put) ∙ ap (λ (m : ℕ). length (words_of (with_private a p (floor r) part).stacks m)) (sym number) ∙ sym process_is.size

  pub top_is : (w : Word) → part.words ≡ w ∷ drop 1 part.words
      → word_at (with_private a p (floor r) part).stacks (place part.regs.stack (part.regs.s - 1)) ≡ Some w
  top_is w e =
      ap (λ (m : ℕ). slice_get (words_of (with_private a p (floor r) part).stacks m) (part.regs.s - 1)) (stack_is code a p n r part v may has parts)
      ∙ ap (λ (ws : List Word). slice_get ws (part.regs.s - 1)) words_put
      ∙ top_there (take (floor r) (words_of a.stacks r.stack)) part.words (drop 1 part.words) w part.regs.s e size_is

  pub second_is : (x w : Word) → part.words ≡ x ∷ w ∷ drop 2 part.words
      → word_at (with_private a p (floor r) part).stacks (place part.regs.stack (part.regs.s - 2)) ≡ Some w
  second_is x w e =
      ap (λ (m : ℕ). slice_get (words_of (with_private a p (floor r) part).stacks m) (part.regs.s - 2)) (stack_is code a p n r part v may has parts)
      ∙ ap (λ (ws : List Word). slice_get ws (part.regs.s - 2)) words_put
      ∙ second_there (take (floor r) (words_of a.stacks r.stack)) part.words (drop 2 part.words) x w part.regs.s e size_is

  turns : Turns code part → IsLocal code a p
  turns (always {target = target} {next = next} stands back) =
      turns_by Brun target next stands back (jump_answers (with_private a p (floor r) part) p part.regs there process_is.room next target)
  turns (by_bit {kind = kind} {target = target} {next = next} stands back w top operand some) =
      turns_by kind target next stands back (turn_answers (with_private a p (floor r) part) p part.regs there process_is.room next kind target w some (top_is w top) operand)

pub turns_are_local : TurnsAreLocal
turns_are_local code a p n r part v may has parts t = turns code a p n r part v may has parts t
