-- Entries that read a cell of their process's own, or store in one.
use Rattle.std.specs.Prelude.{◌==◌, slice_get}
use Rattle.std.proofs.lemmas.Bool.{le-leb}
use Rattle.std.proofs.Common.{◌≡◌, refl, sym, ap, subst, ◌∙◌, ℕ, ◌+◌, ◌-◌, ◌<◌, ◌≤◌, Bool, true, false, List, ◌∷◌, drop, reverse, Option, Some, None, cond, arith}
use Rattle.b67_list.specs.Numbered.{numbered}
use Rattle.b67_word.specs.Word.{Word}
use Rattle.b67_control.specs.declared.Registers.{Registers}
use Rattle.b67_control.specs.declared.Pcw.{Pcw}
use Rattle.b67_control.specs.declared.Descriptor.{Descriptor}
use Rattle.b67_control.specs.declared.Sirw.{Sirw}
use Rattle.b67_control.specs.Control.{as_sirw, as_pcw}
use Rattle.b67_control.proofs.ControlLaws.{as_sirw_other, as_pcw_other, tag_zero}
use Rattle.b67_ops.specs.declared.Couple.{Couple}
use Rattle.b67_ops.specs.declared.Operator.TheVariants as ops
use Rattle.b67_segment.specs.declared.code.Code.{Code}
use Rattle.b67_store.specs.Store.{stack_limit, word_at, words_of}
use Rattle.b67_table.specs.declared.Cell.{Cell}
use Rattle.b67_table.specs.declared.Private.{Private}
use Rattle.b67_table.specs.declared.Reached.{Reached}
use Rattle.b67_table.specs.Effect.{gives}
use Rattle.b67_table.specs.Ending.{may_act}
use Rattle.b67_table.specs.Image.{Image, private_of, with_private}
use Rattle.b67_table.specs.Look.{found, stops, valid, ◌>->◌}
use Rattle.b67_table.specs.Arrays.{as_indexed}
use Rattle.b67_table.specs.Chains.{place}
use Rattle.b67_table.specs.declared.InterruptKind.TheVariants.{StackUnderflow}
use Rattle.b67_table.specs.Private.{floor}
use Rattle.b67_private.specs.Parts.{PlainParts}
use Rattle.b67_table.specs.Valid.{IsValid}
use Rattle.b67_table.specs.Program.{answer, ◌>>=◌, see, asked, changed, Change, done, save, push, registers, Program}
use Rattle.b67_table.specs.References.{cell_place, cell_of, couple_cell, reached_in, named, one_sirw, reached, Two, from_top, operand_in, invalid}
use Rattle.b67_table.specs.Rows.{acts, row, value_call, value_or_entry, value_pushed, kept_words, stored, store_by, store}
use Rattle.b67_table.specs.Valid.{IsProcess}
use Rattle.b67_table.proofs.Stacks.{below_word}
use Rattle.b67_table.proofs.Lists.{numbered_set, numbered_from, numbered_within}
use Rattle.b67_settling.specs.Own.{TestIsOwn}
use Rattle.b67_settling.specs.Local.{IsOwnCell, store_kind}
use Rattle.b67_settling.specs.Laws.{ReadsAreLocal, StoresAreLocal}
use Rattle.b67_settling.proofs.Own.{high, put_words}
use Rattle.b67_settling.proofs.Quiet.{Answers, floor_at, then_has, stack_is, process, own_entry}
use Rattle.b67_settling.proofs.Turning.{stack_entries_are_local, top_is, second_is}

-- ---- operands

no_sirw : (w : Word) → w.tag ≡ 0 → as_sirw w ≡ None
no_sirw w e = as_sirw_other w (λ k. let is = sym (tag_zero w e) ∙ k in cc)

no_pcw : (w : Word) → w.tag ≡ 0 → as_pcw w ≡ None
no_pcw w e = as_pcw_other w (λ k. let is = sym (tag_zero w e) ∙ k in cc)

-- an operand in a cell of this stack, at the base or above
record IsThere (img : Image) (r : Registers) (base : ℕ) (c : Cell) : Type 0 where
  stack : c.frame.stack ≡ r.stack
  high : base ≤ c.frame.at + c.index
  word : Word
  there : word_at img.stacks (cell_place c) ≡ Some word
  operand : word.tag ≡ 0

-- ---- VALC

module _ (img : Image) (r : Registers) (base next : ℕ) (couple : Couple) (c : Cell) (names : couple_cell r couple.level couple.index ≡ Some c) (own : IsThere img r base c) where
  abbrev at_cell : Reached
  at_cell = record { word = own.word; cell = c }

  abbrev on : Reached → Program
  on w = value_or_entry r next w (as_pcw w.word)

  by_tag : (b : Bool) → TestIsOwn img r base (see (cond b (found own.word) invalid) >>= (λ (v : Word). value_pushed r next v))
  by_tag true = (refl, ((refl, refl), tt))
  by_tag false = tt

  read_own : TestIsOwn img r base (value_call couple r next)
  read_own =
      subst (λ (o : Option Cell). TestIsOwn img r base (see (reached o) >>= on)) (sym names) (
        (own.stack, own.high),
        subst (λ (o : Option Word). TestIsOwn img r base (see (reached_in c o >-> (λ (w : Reached). one_sirw (as_sirw w.word) w)) >>= on)) (sym own.there)
            (subst (λ (o : Option Sirw). TestIsOwn img r base (see (one_sirw o at_cell) >>= on)) (sym (no_sirw own.word own.operand))
            (subst (λ (o : Option Pcw). TestIsOwn img r base (value_or_entry r next at_cell o)) (sym (no_pcw own.word own.operand)) (by_tag (own.word.tag == 0)))),
      )

  abbrev pushed : Change
  pushed = push r.stack own.word (registers (record r { s = r.s + 1; place = next }) done)

  read_answers : (p : ℕ) → numbered img.regs p ≡ Some r → r.s < stack_limit → Answers img p (value_call couple r next)
  read_answers p has room = record {
    change = pushed;
    is =
        ap (λ (o : Option Cell). asked img (see (reached o) >>= on)) names
        ∙ ap (λ (o : Option Word). asked img (see (reached_in c o >-> (λ (w : Reached). one_sirw (as_sirw w.word) w)) >>= on)) own.there
        ∙ ap (λ (o : Option Sirw). asked img (see (one_sirw o at_cell) >>= on)) (no_sirw own.word own.operand)
        ∙ ap (λ (o : Option Pcw). asked img (value_or_entry r next at_cell o)) (no_pcw own.word own.operand)
        ∙ ap (λ (n : ℕ). asked img (see (cond (n == 0) (found own.word) invalid) >>= (λ (v : Word). value_pushed r next v))) own.operand;
    regs = record r { s = r.s + 1; place = next };
    has = numbered_set img.regs p (record r { s = r.s + 1; place = next }) (numbered_from img.regs p r has) (numbered_within img.regs p r has);
    short = omega (arith, room);
  }

is_read : (couple : Couple) (here : ℕ) → row (ops.Valc couple) here ≡ acts (value_call couple)
unfolding row
is_read couple here = refl

-- ---- STOD and STON

module _ (img : Image) (r : Registers) (base next : ℕ) (keeps : Bool) (x y : Word) (x_there : word_at img.stacks (place r.stack (r.s - 1)) ≡ Some x)
    (y_there : word_at img.stacks (place r.stack (r.s - 2)) ≡ Some y) (two : floor r + 2 ≤ r.s) (value : x.tag ≡ 0) (variable : as_indexed y ≡ None) (c : Cell)
    (names : cell_of r y ≡ Some c) (own : IsThere img r base c) (low : base ≤ floor r) where
  abbrev stored_on : Two → Program
  stored_on t = see (operand_in t.x) >>= (λ (v : Word). store_by keeps r next v t.y (as_indexed t.y))

  abbrev change : Change
  change = stored keeps r next x (save (cell_place c) x)

  stored_by_tag : (b : Bool) (k : Bool) → TestIsOwn img r base (see (cond b (found own.word) invalid) >>= (λ (old : Word). answer (stored k r next x (save (cell_place c) x))))
  stored_by_tag true false = ((own.stack, own.high), ((refl, omega (arith, low, two)), ((refl, refl), tt)))
  stored_by_tag true true = ((own.stack, own.high), ((refl, omega (arith, low, two)), (refl, ((refl, refl), tt))))
  stored_by_tag false k = tt

  cell_own : TestIsOwn img r base (see (named (cell_of r y)) >>= (λ (w : Reached). see (operand_in w.word) >>= (λ (old : Word). answer (stored keeps r next x (save (cell_place w.cell) x)))))
  cell_own =
      subst (λ (o : Option Cell). TestIsOwn img r base (see (named o)
      >>= (λ (w : Reached). see (operand_in w.word) >>= (λ (old : Word). answer (stored keeps r next x (save (cell_place w.cell) x)))))) (sym names) (
        (own.stack, own.high),
        subst (λ (o : Option Word). TestIsOwn img r base (see (reached_in c o)
            >>= (λ (w : Reached). see (operand_in w.word) >>= (λ (old : Word). answer (stored keeps r next x (save (cell_place w.cell) x)))))) (sym own.there)
            (stored_by_tag (own.word.tag == 0) keeps),
      )

  two_own : TestIsOwn img r base (stored_on (record { x = x; y = y }))
  two_own =
      subst (λ (n : ℕ). TestIsOwn img r base (see (cond (n == 0) (found x) invalid) >>= (λ (v : Word). store_by keeps r next v y (as_indexed y)))) (sym value)
      (subst (λ (o : Option Descriptor). TestIsOwn img r base (store_by keeps r next x y o)) (sym variable) cell_own)

  store_own : TestIsOwn img r base (store keeps r next)
  store_own =
      subst (λ (b : Bool). TestIsOwn img r base (see (cond b (from_top r 0) (stops StackUnderflow) >-> (λ (v : Word). from_top r 1 >-> (λ (w : Word). found (record { x = v; y = w })))) >>= stored_on))
      (sym (le-leb (floor r + 2) r.s two)) (
        (refl, omega (arith, low, two)),
        subst (λ (o : Option Word). TestIsOwn img r base (see (valid o >-> (λ (v : Word). from_top r 1 >-> (λ (w : Word). found (record { x = v; y = w })))) >>= stored_on)) (sym x_there) (
          (refl, omega (arith, low, two)),
          subst (λ (o : Option Word). TestIsOwn img r base (see (valid o >-> (λ (w : Word). found (record { x = x; y = w }))) >>= stored_on)) (sym y_there) two_own,
        ),
      )

  store_asked : asked img (store keeps r next) ≡ gives (stored keeps r next x (save (cell_place c) x))
  store_asked =
      ap (λ (b : Bool). asked img (see (cond b (from_top r 0) (stops StackUnderflow) >-> (λ (v : Word). from_top r 1 >-> (λ (w : Word). found (record { x = v; y = w })))) >>= stored_on))
      (le-leb (floor r + 2) r.s two)
      ∙ ap (λ (o : Option Word). asked img (see (valid o >-> (λ (v : Word). from_top r 1 >-> (λ (w : Word). found (record { x = v; y = w })))) >>= stored_on)) x_there
      ∙ ap (λ (o : Option Word). asked img (see (valid o >-> (λ (w : Word). found (record { x = x; y = w }))) >>= stored_on)) y_there
      ∙ ap (λ (n : ℕ). asked img (see (cond (n == 0) (found x) invalid) >>= (λ (v : Word). store_by keeps r next v y (as_indexed y)))) value
      ∙ ap (λ (o : Option Descriptor). asked img (store_by keeps r next x y o)) variable
      ∙ ap (λ (o : Option Cell). asked img (see (named o)
      >>= (λ (w : Reached). see (operand_in w.word) >>= (λ (old : Word). answer (stored keeps r next x (save (cell_place w.cell) x)))))) names
      ∙ ap (λ (o : Option Word). asked img (see (reached_in c o)
      >>= (λ (w : Reached). see (operand_in w.word) >>= (λ (old : Word). answer (stored keeps r next x (save (cell_place w.cell) x)))))) own.there
      ∙ ap (λ (n : ℕ). asked img (see (cond (n == 0) (found own.word) invalid) >>= (λ (old : Word). answer (stored keeps r next x (save (cell_place c) x))))) own.operand

  store_has : (p : ℕ) → numbered img.regs p ≡ Some r → (k : Bool) → k ≡ keeps
      → numbered (changed p (stored k r next x (save (cell_place c) x)) img).regs p ≡ Some (record r { s = r.s - 2 + kept_words k; place = next })
  store_has p has false e = numbered_set img.regs p (record r { s = r.s - 2 + kept_words false; place = next }) (numbered_from img.regs p r has) (numbered_within img.regs p r has)
  store_has p has true e = numbered_set img.regs p (record r { s = r.s - 2 + kept_words true; place = next }) (numbered_from img.regs p r has) (numbered_within img.regs p r has)

  few_kept : (k : Bool) → kept_words k ≤ 1
  few_kept false = omega arith
  few_kept true = omega arith

  store_answers : (p : ℕ) → numbered img.regs p ≡ Some r → r.s ≤ stack_limit → Answers img p (store keeps r next)
  store_answers p has room = record {
    change = stored keeps r next x (save (cell_place c) x);
    is = store_asked;
    regs = record r { s = r.s - 2 + kept_words keeps; place = next };
    has = store_has p has keeps refl;
    short = omega (arith, room, two, few_kept keeps);
  }

is_store : (keeps : Bool) (here : ℕ) → row (ops.Plain (store_kind keeps)) here ≡ acts (store keeps)
unfolding row
is_store false here = refl
is_store true here = refl

-- ---- in an image

module _ (code : Code) (a : Image) (p n : ℕ) (r : Registers) (part : Private) (v : IsValid code a) (may : may_act a p ≡ true) (has : numbered a.regs p ≡ Some r)
    (parts : PlainParts code (private_of a r) n part) where
  -- what lies below the floor is there still
  is_there : (c : Cell) → IsOwnCell a r c → IsThere (with_private a p (floor r) part) part.regs 0 c
  is_there c own =
      let same : word_at (with_private a p (floor r) part).stacks (cell_place c) ≡ word_at a.stacks (cell_place c) =
      ap (λ (m : ℕ). slice_get (words_of (with_private a p (floor r) part).stacks m) (c.frame.at + c.index)) own.stack
      ∙ ap (λ (ws : List Word). slice_get ws (c.frame.at + c.index)) (put_words a p r (floor r) (floor_at code a p n r part v may has parts) part (stack_is code a p n r part v may has parts))
      ∙ below_word (words_of a.stacks r.stack) (reverse part.words) (floor r) (c.frame.at + c.index) own.low (high a p r (floor r) (floor_at code a p n r part v may has parts))
      ∙ ap (λ (m : ℕ). slice_get (words_of a.stacks m) (c.frame.at + c.index)) (sym own.stack) in
      record { stack = own.stack ∙ sym (stack_is code a p n r part v may has parts); high = omega arith; word = own.word; there = same ∙ own.there; operand = own.operand }

pub reads_are_local : ReadsAreLocal
reads_are_local code a p n r part v may has stay_own own parts t =
    let there : IsThere (with_private a p (floor r) part) part.regs 0 t.cell = is_there code a p n r part v may has parts t.cell t.own in
    stack_entries_are_local code a p r stay_own own
    (own_entry code a p n r part v may has parts 0 (omega arith) (ops.Valc t.couple) t.next (λ c. value_call t.couple) t.stands (is_read t.couple part.regs.place)
    (read_own (with_private a p (floor r) part) part.regs 0 t.next t.couple t.cell t.names there)
    (read_answers (with_private a p (floor r) part) part.regs 0 t.next t.couple t.cell t.names there p (then_has code a p n r part v may has parts) t.room))

pub stores_are_local : StoresAreLocal
stores_are_local code a p n r part v may has stay_own own parts t =
    let there : IsThere (with_private a p (floor r) part) part.regs 0 t.cell = is_there code a p n r part v may has parts t.cell t.own in
    let x_is = top_is code a p n r part v may has parts t.value (t.words ∙ ap (λ (ws : List Word). t.value ∷ ws) (sym (ap (drop 1) t.words))) in
    let y_is = second_is code a p n r part v may has parts t.value t.reference t.words in
    let raised_so : 0 ≤ floor part.regs = omega arith in
    let process_is : IsProcess (with_private a p (floor r) part) p part.regs = process code a p n r part v may has parts in
    stack_entries_are_local code a p r stay_own own
    (own_entry code a p n r part v may has parts 0 (omega arith) (ops.Plain (store_kind t.keeps)) t.next (λ c. store t.keeps) t.stands (is_store t.keeps part.regs.place)
    (store_own (with_private a p (floor r) part) part.regs 0 t.next t.keeps t.value t.reference x_is y_is t.two t.operand t.variable t.cell t.names there raised_so)
    (store_answers (with_private a p (floor r) part) part.regs 0 t.next t.keeps t.value t.reference x_is y_is t.two t.operand t.variable t.cell t.names there raised_so p
    (then_has code a p n r part v may has parts) process_is.room))
