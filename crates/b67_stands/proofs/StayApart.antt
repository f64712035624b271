-- An operator has the same letter whatever stands in a private part of another process that it does not touch.
use Rattle.std.proofs.Common.{◌≡◌, ◌≢◌, refl, sym, ap, subst, ◌∙◌, ℕ, zero, suc, ◌+◌, ◌<◌, ◌≤◌, max, Bool, true, false, cond, List, [], take, drop, reverse, Option, Some, None, Result, Ok, Err, inl, inr, arith}
use Rattle.std.proofs.Math.Decide.{ℕ_discrete, dec_le}
use Rattle.std.proofs.Math.Nat.{lt_of_not-le, le-max_left, le-max_right}
use Rattle.b67_list.specs.Numbered.{numbered}
use Rattle.b67_list.proofs.Truths.{both}
use Rattle.b67_word.specs.declared.Place.{Place}
use Rattle.b67_word.specs.Word.{Word}
use Rattle.b67_control.specs.declared.Registers.{Registers}
use Rattle.b67_control.specs.declared.Mscw.{Mscw}
use Rattle.b67_control.specs.Control.{as_pcw}
use Rattle.b67_ops.specs.declared.BadCode.{BadCode}
use Rattle.b67_ops.specs.declared.Operator.{Operator}
use Rattle.b67_ops.specs.declared.Operator.TheVariants as ops
use Rattle.b67_ops.specs.declared.PlainKind.{PlainKind}
use Rattle.b67_ops.specs.declared.PlainKind.TheVariants as kinds
use Rattle.b67_segment.specs.declared.code.Code.{Code}
use Rattle.b67_store.specs.Store.{Stacks, word_at, words_of}
use Rattle.b67_table.specs.declared.Cell.{Cell}
use Rattle.b67_table.specs.declared.InterruptKind.TheVariants.{BadCode as bad_code}
use Rattle.b67_table.specs.declared.Private.{Private}
use Rattle.b67_table.specs.declared.Reached.{Reached}
use Rattle.b67_table.specs.Chains.{place}
use Rattle.b67_table.specs.Effect.{Effect}
use Rattle.b67_table.specs.Effect as effects
use Rattle.b67_table.specs.Image.{Image, with_private, private_of, is_live}
use Rattle.b67_table.specs.Look.{Look, found, stops, at, several, ◌>->◌, valid, look_seen}
use Rattle.b67_table.specs.Outcome.{Outcome, gives, faults, interrupts, limit}
use Rattle.b67_table.specs.Parts.{Beneath}
use Rattle.b67_table.specs.Private.{floor}
use Rattle.b67_table.specs.Privacy.{ProcessStands, RegistersStay, Commute}
use Rattle.b67_table.specs.Program.{Test, ◌>>=◌, see, asked, effect_of, Program}
use Rattle.b67_table.specs.References.{couple_cell, cell_of, reached, popped, popped_two}
use Rattle.b67_table.specs.Rows.{TableRow, row, plain_row, marked, enter_by, enter}
use Rattle.b67_table.specs.Sound.{OperatorTouches}
use Rattle.b67_table.specs.Table.{raw, table, plain, stack_length, by_registers, by_operator, by_row, operator_at, private_next, is_new}
use Rattle.b67_table.specs.Touches.{IsWithinPlaces, IsPrivate, TestReads, RowTouches}
use Rattle.b67_table.proofs.Commuting.{beneath}
use Rattle.b67_table.proofs.Diamond.{plain_operators_commute}
use Rattle.b67_table.proofs.Limit.{new_of}
use Rattle.b67_table.proofs.Over.{over, word_same, words_same}
use Rattle.b67_table.proofs.Privacy.{Next, next_private, raw_is, part_keeps, Put, put_by}
use Rattle.b67_table.proofs.Stacks.{get_numbered_other}
use Rattle.b67_letters.specs.Letters.{told_by, value_letter, place_letter, loaded_letter, stored_letter, called_letter, called_by, control_called, plain_letter, operator_letter, fetched_letter, registers_letter, letter_by, letter}
use Rattle.b67_stands.specs.Commuting.{LettersStayApart}
use Rattle.b67_letters.proofs.Looks.{then_seen}
use Rattle.b67_letters.proofs.Seen.{goes}

-- ---- reads

-- what is read after a look is read by both
reads_after : {A B : Type 0} (img : Image) (l : Look A) (f : A → Test B) (a : A) (x : Place) → look_seen img.stacks l ≡ Ok a → TestReads img (f a) x → TestReads img (see l >>= f) x
reads_after {A} img (found b) f a x e t = subst (λ (y : A). TestReads img (f y) x) (same a b e) t
  where
    same : (y z : A) → look_seen [] (found z) ≡ Ok y → y ≡ z
    same y z i = cc
reads_after img (stops kind) f a x e t = cc
reads_after img (at asked_for more) f a x e t = inr (reads_after img (more (word_at img.stacks asked_for)) f a x e t)
reads_after img (several from n more) f a x e t = inr (reads_after img (more (take n (drop from.at (words_of img.stacks from.stack)))) f a x e t)

-- what is there or not is so in all stacks
valid_same : {A : Type 0} (a b : Stacks) (o : Option A) → look_seen a (valid o) ≡ look_seen b (valid o)
valid_same a b None = refl
valid_same a b (Some x) = refl

lower : (base from : ℕ) → Dec (base ≤ from) → (base ≤ from → ⊥) → from < base
lower base from (yes h) no_way = absurd (no_way h)
lower base from (no h) no_way = lt_of_not-le h

lower_all : (base from count : ℕ) → Dec (from + count ≤ base) → ((x : ℕ) → from ≤ x → x < from + count → base ≤ x → ⊥) → 0 < count → from + count ≤ base
lower_all base from count (yes h) no_way some = h
lower_all base from count (no h) no_way some =
    absurd (no_way (max from base) (le-max_left from base) (max_below from base (from + count) (omega (arith, some)) (lt_of_not-le h)) (le-max_right from base))
  where
    max_below : (a b c : ℕ) → a < c → b < c → max a b < c
    max_below a b c p q = omega (arith, p, q)

module _ (q : ℕ) (r : Registers) (part : Private) (img : Image) (b : Beneath img q (floor r) part) (here : part.regs.stack ≡ r.stack) where
  word_here : (x : Place) → (IsPrivate r x → ⊥) → word_at (with_private img q (floor r) part).stacks x ≡ word_at img.stacks x
  unfolding over
  word_here x apart =
      word_same part.regs.stack (floor r) (reverse part.words) img.stacks b.words x.stack x.at b.opened b.high (ℕ_discrete x.stack part.regs.stack)
      (λ e. lower (floor r) x.at (dec_le (floor r) x.at) (λ h. apart (e ∙ here, h)))

  words_here : (x : Place) (count : ℕ) → ((y : Place) → IsWithinPlaces y x count → IsPrivate r y → ⊥)
      → take count (drop x.at (words_of (with_private img q (floor r) part).stacks x.stack)) ≡ take count (drop x.at (words_of img.stacks x.stack))
  unfolding over
  words_here x zero apart = refl
  words_here x (suc k) apart =
      words_same part.regs.stack (floor r) (reverse part.words) img.stacks b.words x.stack x.at (suc k) b.opened b.high (ℕ_discrete x.stack part.regs.stack)
      (λ e. lower_all (floor r) x.at (suc k) (dec_le (x.at + suc k) (floor r)) (λ from i j h. apart (record { stack = x.stack; at = from }) (refl, i, j) (e ∙ here, h)) (omega arith))

  -- a look that a program begins with finds the same
  look_same : {A B : Type 0} (l : Look A) (f : A → Test B) → ((x : Place) → TestReads img (see l >>= f) x → IsPrivate r x → ⊥)
      → look_seen (with_private img q (floor r) part).stacks l ≡ look_seen img.stacks l
  look_same (found a) f apart = refl
  look_same (stops kind) f apart = refl
  look_same (at place more) f apart =
      ap (λ (w : Option Word). look_seen (with_private img q (floor r) part).stacks (more w)) (word_here place (λ t. apart place (inl refl) t))
      ∙ look_same (more (word_at img.stacks place)) f (λ x t. apart x (inr t))
  look_same (several place n more) f apart =
      ap (λ (ws : List Word). look_seen (with_private img q (floor r) part).stacks (more ws)) (words_here place n (λ y t. apart y (inl t)))
      ∙ look_same (more (take n (drop place.at (words_of img.stacks place.stack)))) f (λ x t. apart x (inr t))

  -- ---- an operator of p that gives a new image

  module _ (code : Code) (p : ℕ) (o : Registers) (next : ℕ) (after : Image) where
    abbrev Comes : Program → Type 0
    Comes t = effect_of p img (asked img t) ≡ effects.gives after

    abbrev Apart : Program → Type 0
    Apart t = (x : Place) → TestReads img t x → IsPrivate r x → ⊥

    abbrev above_mark : Look Word
    above_mark = at (place o.stack (o.f + 1)) (λ (w : Option Word). valid w)

    called_same : (m : Mscw) (above : Word) (c : Option Cell) → Comes (enter_by code o next m above c) → Apart (enter_by code o next m above c)
        → look_seen (with_private img q (floor r) part).stacks (called_by above c) ≡ look_seen img.stacks (called_by above c)
    called_same m above None e apart = valid_same (with_private img q (floor r) part).stacks img.stacks (as_pcw above)
    called_same m above (Some x) e apart =
        let g = goes p img after (reached (Some x)) _ e in
        let same = look_same (reached (Some x)) _ apart in
        then_seen (with_private img q (floor r) part).stacks (reached (Some x)) g.value (λ (v : Reached). valid (as_pcw v.word)) (same ∙ g.is)
        ∙ valid_same (with_private img q (floor r) part).stacks img.stacks (as_pcw g.value.word)
        ∙ sym (then_seen img.stacks (reached (Some x)) g.value (λ (v : Reached). valid (as_pcw v.word)) g.is)

    enter_same : Comes (enter code o next) → Apart (enter code o next) → look_seen (with_private img q (floor r) part).stacks (control_called o) ≡ look_seen img.stacks (control_called o)
    enter_same e apart =
        let g = goes p img after (marked o) _ e in
        let above = goes p img after above_mark (λ (w : Word). enter_by code o next g.value w (cell_of o w)) g.comes in
        let after_mark : Apart (see above_mark >>= (λ (w : Word). enter_by code o next g.value w (cell_of o w))) = λ x t. apart x (reads_after img (marked o) _ g.value x g.is t) in
        let same = look_same above_mark _ after_mark in
        then_seen (with_private img q (floor r) part).stacks above_mark above.value (λ (w : Word). called_by w (cell_of o w)) (same ∙ above.is)
        ∙ called_same g.value above.value (cell_of o above.value) above.comes (λ x t. after_mark x (reads_after img above_mark _ above.value x above.is t))
        ∙ sym (then_seen img.stacks above_mark above.value (λ (w : Word). called_by w (cell_of o w)) above.is)

    -- ---- the letters of all operators

    ApartBy : TableRow → Type 0
    ApartBy w = (x : Place) → RowTouches w code img p o next x → IsPrivate r x → ⊥

    plain_same : (kind : PlainKind) → by_row (plain_row kind) code img p o next ≡ effects.gives after → ApartBy (plain_row kind)
        → plain_letter kind (with_private img q (floor r) part) o ≡ plain_letter kind img o
    unfolding ApartBy
    plain_same kinds.Load e apart = ap (told_by loaded_letter) (look_same (popped o) _ (λ x t. apart x (inl t)))
    plain_same kinds.Eval e apart = ap (told_by place_letter) (look_same (popped o >-> (λ (x : Word). reached (cell_of o x))) _ (λ x t. apart x (inl t)))
    plain_same kinds.Stod e apart = ap (told_by stored_letter) (look_same (popped_two o) _ (λ x t. apart x (inl t)))
    plain_same kinds.Ston e apart = ap (told_by stored_letter) (look_same (popped_two o) _ (λ x t. apart x (inl t)))
    plain_same kinds.Entr e apart = ap (told_by (called_letter img o.stack)) (enter_same e (λ x t. apart x (inl t)))
    plain_same kinds.Lodt e apart = refl
    plain_same kinds.Nxlv e apart = refl
    plain_same kinds.Nxln e apart = refl
    plain_same kinds.Indx e apart = refl
    plain_same kinds.Exit e apart = refl
    plain_same kinds.Retn e apart = refl
    plain_same kinds.Add e apart = refl
    plain_same kinds.Subt e apart = refl
    plain_same kinds.Mult e apart = refl
    plain_same kinds.Divd e apart = refl
    plain_same kinds.Idiv e apart = refl
    plain_same kinds.Rdiv e apart = refl
    plain_same kinds.Less e apart = refl
    plain_same kinds.Greq e apart = refl
    plain_same kinds.Grtr e apart = refl
    plain_same kinds.Lseq e apart = refl
    plain_same kinds.Equl e apart = refl
    plain_same kinds.Neql e apart = refl
    plain_same kinds.Chsn e apart = refl
    plain_same kinds.Land e apart = refl
    plain_same kinds.Lor e apart = refl
    plain_same kinds.Lnot e apart = refl
    plain_same kinds.Leqv e apart = refl
    plain_same kinds.Mkst e apart = refl
    plain_same kinds.Stff e apart = refl
    plain_same kinds.Zero e apart = refl
    plain_same kinds.One e apart = refl
    plain_same kinds.Push e apart = refl
    plain_same kinds.Dlet e apart = refl
    plain_same kinds.Exch e apart = refl
    plain_same kinds.Dupl e apart = refl
    plain_same kinds.Noop e apart = refl

    operator_same : (op : Operator) → by_row (row op o.place) code img p o next ≡ effects.gives after → ApartBy (row op o.place)
        → operator_letter op (with_private img q (floor r) part) o ≡ operator_letter op img o
    unfolding row ApartBy
    operator_same (ops.Valc couple) e apart = ap (told_by value_letter) (look_same (reached (couple_cell o couple.level couple.index)) _ (λ x t. apart x (inl t)))
    operator_same (ops.Namc couple) e apart = refl
    operator_same (ops.Lt8 k) e apart = refl
    operator_same (ops.Lt16 k) e apart = refl
    operator_same (ops.Lt48 k) e apart = refl
    operator_same (ops.Mpcw k) e apart = refl
    operator_same (ops.Branch kind target) e apart = refl
    operator_same (ops.Plain kind) e apart = plain_same kind e apart

-- ---- all together

pub live_by : (l : Bool) (e : Effect Image) (new : Image) → cond l e (effects.interrupts bad_code) ≡ effects.gives new → l ≡ true
live_by true e new i = refl
live_by false e new i = cc

module _ (code : Code) (p q : ℕ) (r : Registers) (part : Private) (img : Image) (h : p ≢ q) (st : ProcessStands img q r) (k : RegistersStay r part.regs)
    (touch : (x : Place) → OperatorTouches code img p x → IsPrivate r x → ⊥) where
  fetched_same : (o : Registers) → is_live (numbered img.states p) ≡ true → numbered img.regs p ≡ Some o → (f : Result (Operator × ℕ) BadCode) → operator_at code o ≡ f → (after : Image)
      → by_operator code img p o f ≡ effects.gives after → fetched_letter (with_private img q (floor r) part) o f ≡ fetched_letter img o f
  unfolding ApartBy
  fetched_same o live has (Err bad) s after e = refl
  fetched_same o live has (Ok f) s after e =
      operator_same q r part img (beneath img q r st part k) k.0 code p o f.1 after f.0 e
      (λ x t. touch x (record { registers = o; lives = record { live = live; is = has }; op = f.0; next = f.1; stands = s; touches = t }))

  registers_same : is_live (numbered img.states p) ≡ true → (o : Option Registers) → numbered img.regs p ≡ o → (after : Image) → by_registers code img p o ≡ effects.gives after
      → registers_letter code (with_private img q (floor r) part) o ≡ registers_letter code img o
  registers_same live None has after e = refl
  registers_same live (Some o) has after e = fetched_same o live has (operator_at code o) refl after e

  found_same : (after : Image) → table code img p ≡ gives after
      → registers_letter code (with_private img q (floor r) part) (numbered (with_private img q (floor r) part).regs p) ≡ registers_letter code img (numbered img.regs p)
  unfolding table raw
  found_same after t =
      let new = new_of (stack_length p) (raw code img p) after t in
      let live = live_by (is_live (numbered img.states p)) (by_registers code img p (numbered img.regs p)) after new.0 in
      let is : by_registers code img p (numbered img.regs p) ≡ effects.gives after =
      sym (ap (λ (l : Bool). cond l (by_registers code img p (numbered img.regs p)) (effects.interrupts bad_code)) live) ∙ new.0 in
      ap (λ (o : Option Registers). registers_letter code (with_private img q (floor r) part) o) (get_numbered_other img.regs q p part.regs h)
      ∙ registers_same live (numbered img.regs p) refl after is

  -- either outcome has the same letter
  letter_same : Commute code p q img (with_private img q (floor r) part) → letter code (with_private img q (floor r) part) p ≡ letter code img p
  letter_same c = by (table code img p) refl
    where
      both_by : (x y : Outcome Image) → table code (with_private img q (floor r) part) p ≡ x → table code img p ≡ y
          → letter_by x (registers_letter code (with_private img q (floor r) part) (numbered (with_private img q (floor r) part).regs p)) ≡ letter_by y (registers_letter code img (numbered img.regs p))
          → letter code (with_private img q (floor r) part) p ≡ letter code img p
      both_by x y e f g =
          ap (λ (z : Outcome Image). letter_by z (registers_letter code (with_private img q (floor r) part) (numbered (with_private img q (floor r) part).regs p))) e
          ∙ g ∙ sym (ap (λ (z : Outcome Image). letter_by z (registers_letter code img (numbered img.regs p))) f)

      by : (o : Outcome Image) → table code img p ≡ o → letter code (with_private img q (floor r) part) p ≡ letter code img p
      by (gives b) e = let later = c.later b e in both_by (gives later.0) (gives b) later.1 e (found_same b e)
      by (faults kind) e = both_by (faults kind) (faults kind) ((c.fault kind).1 e) e refl
      by (interrupts kind) e = both_by (interrupts kind) (interrupts kind) ((c.interrupt kind).1 e) e refl
      by limit e = both_by limit limit (c.limit.1 e) e refl

pub letters_stay_apart : LettersStayApart
unfolding plain table
letters_stay_apart code p q r img a h st e g touch =
    let own : private_next code img q ≡ true = both (private_next code img q) (is_new (table code img q)) e in
    let n : Next code r = next_private code img q r st.has own in
    let new = new_of (stack_length q) (raw code img q) a g in
    let t : Put img a q (floor r) (n.change n.next (private_of img r)) =
    put_by img a q (floor r) (n.change n.next (private_of img r)) (sym (raw_is code img q r st.live st.has n) ∙ new.0) in
    let c : Commute code p q img a = plain_operators_commute code p q r img a h st e g touch in
    subst (λ (i : Image). letter code i p ≡ letter code img p) (sym t.is)
    (letter_same code p q r t.part img h st (part_keeps code r n (private_of img r) t.part t.given) touch (subst (Commute code p q img) t.is c))
