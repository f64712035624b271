-- What is done on the lent room of a process's own stack, in the image that it is given back to.
use Rattle.std.specs.Prelude.{reverse, ◌&&◌}
use Rattle.std.proofs.Common.{◌≡◌, refl, sym, ap, subst, ◌∙◌, ℕ, ◌<◌, ◌≤◌, Bool, true, false, List, [], ◌++◌, length, take, Option, Some, None, is_some, Result, Ok, ⊎_elim, inl, inr, arith}
use Rattle.std.proofs.lemmas.List.{reverse-append, reverse-reverse}
use Rattle.b67_list.specs.Numbered.{numbered, set_numbered}
use Rattle.b67_list.proofs.Lists.{set_set_here}
use Rattle.b67_list.proofs.Numbered.{numbered_same, numbered_twice}
use Rattle.b67_list.proofs.Truths.{and_first}
use Rattle.b67_word.specs.Word.{Word}
use Rattle.b67_control.specs.declared.Registers.{Registers}
use Rattle.b67_ops.specs.declared.BadCode.{BadCode}
use Rattle.b67_ops.specs.declared.Operator.{Operator}
use Rattle.b67_segment.specs.declared.code.Code.{Code}
use Rattle.b67_segment.specs.Decoded.{found}
use Rattle.b67_store.specs.Store.{Stacks, stack_at, words_of, words_or, with_stack, stack_limit}
use Rattle.b67_store.proofs.Cited.{put_there}
use Rattle.b67_table.specs.declared.Private.{Private}
use Rattle.b67_table.specs.declared.ProcessState.{ProcessState}
use Rattle.b67_table.specs.Image.{Image, with_private, private_of, is_able, is_live}
use Rattle.b67_table.specs.Outcome.{Outcome, gives}
use Rattle.b67_table.specs.Private.{floor}
use Rattle.b67_table.specs.Privacy.{RegistersStay}
use Rattle.b67_table.specs.Program.{Program}
use Rattle.b67_table.specs.Rows.{TableRow, row, acts}
use Rattle.b67_table.specs.Runs.{Plains, stay, go}
use Rattle.b67_table.specs.Table.{table, plain, class_at, class_by, is_private, private_at, private_in, private_next, is_new, operator_at}
use Rattle.b67_table.specs.Valid.{IsProcess, IsValid}
use Rattle.b67_table.proofs.AllValid.{operators_keep_valid}
use Rattle.b67_table.proofs.FirstValid.{valid_stands, counted}
use Rattle.b67_table.proofs.Limit.{limit_comes_last}
use Rattle.b67_table.proofs.Lists.{numbered_set, numbered_within}
use Rattle.b67_table.proofs.OwnValid.{opened}
use Rattle.b67_table.proofs.Privacy.{private_is_private}
use Rattle.b67_table.proofs.Stacks.{set_here}
use Rattle.b67_table.proofs.Waking.{able_live}
use Rattle.b67_deeds.specs.declared.Letter.{Letter}
use Rattle.b67_operators.specs.Leaves.{program_in}
use Rattle.b67_operators.proofs.Leaves.{in_process}
use Rattle.b67_private.specs.declared.operators.Row.TheVariants as ready
use Rattle.b67_private.specs.declared.operators.WordsRow.{WordsRow}
use Rattle.b67_private.specs.Actions.{words_program}
use Rattle.b67_private.specs.Lettered.{HasLetter}
use Rattle.b67_private.specs.Parts.{IsPrivatePart, HasRoom, PlainParts, is_plain, own_next, part_with, part_in}
use Rattle.b67_private.specs.Parts as parts
use Rattle.b67_private.specs.Performing.{Steps}
use Rattle.b67_private.proofs.Above.{all_leave}
use Rattle.b67_private.proofs.Plains.{stretches_are_own, Shallow, shallow_whole, shallow_plain}
use Rattle.b67_private.proofs.ValidParts.{valid_whole}
use Rattle.b67_reach.specs.Answers.{ProgramActs}
use Rattle.b67_reach.specs.Images.{own_of_image, with_own}
use Rattle.b67_reach.proofs.Looking.{acts_by}
use Rattle.b67_action.specs.Lettered.{LettersOn}
use Rattle.b67_action.specs.OnRoom.{IsRoom, PerformsOn}
use Rattle.b67_action.specs.Onward.{HasGone}
use Rattle.b67_action.specs.Running.{IsLent, given_back, IsStretchOf, ActionGoesOn, HasPlace, PlainStep}
use Rattle.b67_action.proofs.Coming.{comes_by, operator_is}
use Rattle.b67_action.proofs.Gone.{letter_by_row, gone}
use Rattle.b67_action.proofs.Ready.{registers_there}

-- ---- plain operators keep an image valid

pub private_of_plain : (code : Code) (img : Image) (p : ℕ) → plain code img p ≡ true → private_next code img p ≡ true
unfolding plain
private_of_plain code img p e = and_first (private_next code img p) (is_new (table code img p)) e

pub record StaysValid (code : Code) (a b : Image) : Type 0 where
  pub valid : IsValid code b
  pub states : b.states ≡ a.states

one_plain : (code : Code) (p : ℕ) (r : Registers) (a b : Image) → IsValid code a → is_able (numbered a.states p) ≡ true → numbered a.regs p ≡ Some r → plain code a p ≡ true
    → table code a p ≡ gives b → StaysValid code a b
one_plain code p r a b v able has e t =
    let live = able_live (numbered a.states p) able in
    let next = private_of_plain code a p e in
    let same = private_is_private.leaves code p r a b (valid_stands code a p r v live has) next ((limit_comes_last.new code a b p).0 t).0 in
    record { valid = operators_keep_valid.private code a b p v live next t; states = same.states }

some_of : (o : Option Registers) → is_some o ≡ true → (r : Registers) × (o ≡ Some r)
some_of None e = cc
some_of (Some r) e = (r, refl)

pub plains_stay : (code : Code) (p : ℕ) (a b : Image) (n : ℕ) → IsValid code a → is_able (numbered a.states p) ≡ true → Plains code p a n b → StaysValid code a b
plains_stay code p a b n v able stay = record { valid = v; states = refl }
plains_stay code p a b n v able (go {b = c} e t rest) =
    let here = some_of (numbered a.regs p) (registers_there code a p v able) in
    let one = one_plain code p here.0 a c v able here.1 e t in
    let more = plains_stay code p c b _ one.valid (ap (λ (ss : List ProcessState). is_able (numbered ss p)) one.states ∙ able) rest in
    record { valid = more.valid; states = more.states ∙ one.states }

-- ---- an action is not plain

not_private : (code : Code) (img : Image) (p : ℕ) (r : Registers) (op : Operator) (next : ℕ) (program : Registers → ℕ → Program) → numbered img.regs p ≡ Some r
    → operator_at code r ≡ Ok (op, next) → row op r.place ≡ acts program → private_next code img p ≡ false
unfolding class_at
not_private code img p r op next program has here is =
    ap (λ (o : Option Registers). private_in code o) has
    ∙ ap (λ (o : Result (Operator × ℕ) BadCode). private_at r o) here
    ∙ ap (λ (w : TableRow). is_private (class_by w)) is

pub not_plain : (code : Code) (img : Image) (p : ℕ) (r : Registers) (op : Operator) (next : ℕ) (program : Registers → ℕ → Program) → numbered img.regs p ≡ Some r
    → operator_at code r ≡ Ok (op, next) → row op r.place ≡ acts program → plain code img p ≡ false
unfolding plain
not_plain code img p r op next program has here is =
    ap (λ (b : Bool). b && is_new (table code img p)) (not_private code img p r op next program has here is)

-- ---- given back again

pub given_twice : (img : Image) (p : ℕ) (a b : Registers) (us ws : List Word) → b.stack ≡ a.stack → given_back b ws p (given_back a us p img) ≡ given_back b ws p img
given_twice img p a b us ws same =
    ap (λ (n : ℕ). with_own (own_of_image (with_stack (with_stack img.stacks n (take a.s us)) b.stack (take b.s ws)) img.rows b) p (record img { regs = set_numbered img.regs p a }))
    (sym same)
    ∙ ap (λ (z : Stacks). with_own (own_of_image z img.rows b) p (record img { regs = set_numbered img.regs p a })) (set_set_here img.stacks b.stack (Some (take a.s us)) (Some (take b.s ws)))
    ∙ ap (λ (rs : List Registers). record img { stacks = with_stack img.stacks b.stack (take b.s ws); regs = rs }) (numbered_twice img.regs p a b)

pub given_thrice : (img : Image) (p : ℕ) (a b c : Registers) (us vs ws : List Word) → b.stack ≡ a.stack → c.stack ≡ b.stack
    → given_back c ws p (given_back b vs p (given_back a us p img)) ≡ given_back c ws p img
given_thrice img p a b c us vs ws h k = ap (λ (x : Image). given_back c ws p x) (given_twice img p a b us vs h) ∙ given_twice img p b c vs ws k

-- a room holds what it held, or what was made in it
pub still_held : (size : ℕ) (outcome : Outcome Private) (old new : Private) (b : Bool) → old.regs.s ≤ size → Steps size outcome old b new → new.regs.s ≤ size
still_held size outcome old new true h s = s.1
still_held size outcome old new false h s = omega (arith, h, ap (λ (a : Private). a.regs.s) s.1)

-- and where none was performed, the registers stay
pub none_done : (size : ℕ) (outcome : Outcome Private) (old new : Private) (b : Bool) → Steps size outcome old b new → b ≡ false → new.regs ≡ old.regs
none_done size outcome old new true s e = cc
none_done size outcome old new false s e = ap (λ (a : Private). a.regs) s.1

-- ---- on what is lent

module _ (code : Code) (img : Image) (p : ℕ) (r : Registers) (room : List Word) (l : IsLent code img p r room) where
  live : is_live (numbered img.states p) ≡ true
  live = able_live (numbered img.states p) l.able

  process : IsProcess img p r
  process = l.valid.processes p r live l.has

  open_is : stack_at img.stacks r.stack ≡ Some (take r.s room)
  open_is =
      ap (λ (n : ℕ). stack_at img.stacks n) process.stack
      ∙ opened code img p r l.valid live l.has
      ∙ ap (λ (n : ℕ). Some (words_of img.stacks n)) (sym process.stack)
      ∙ ap (λ (ws : List Word). Some ws) l.words

  same : with_own (own_of_image img.stacks img.rows r) p img ≡ img
  same = ap (λ (rs : List Registers). record img { regs = rs }) (numbered_same img.regs p r l.has)

  -- given back as it was lent
  pub back_same : given_back r room p img ≡ img
  back_same = ap (λ (z : Stacks). with_own (own_of_image z img.rows r) p img) (put_there img.stacks r.stack (take r.s room) open_is) ∙ same

  pub lent_same : IsLent code (given_back r room p img) p r room
  lent_same = subst (λ (z : Image). IsLent code z p r room) (sym back_same) l

  -- S counts no more than a stack may have
  pub within_room : r.s ≤ stack_limit
  within_room = process.room

  pub room_is : HasRoom r room → IsRoom r room
  room_is e = record { level = process.display.known; size = e.1; within = e.0 }

  pub part_is : IsPrivatePart (part_in r room)
  part_is = subst (λ (ws : List Word). IsPrivatePart (part_with r (reverse ws))) l.words (valid_whole code img p r l.valid live l.has)

  -- what is given back is lent again, where it is valid
  again : (q : Registers) (more : List Word) → RegistersStay r q → IsValid code (given_back q more p img) → IsLent code (given_back q more p img) p q more
  again q more k v = record {
    valid = v;
    able = l.able;
    has = numbered_set img.regs p q (counted p r img.regs l.has) (numbered_within img.regs p r l.has);
    words = ap words_or (set_here img.stacks q.stack (take r.s room) (take q.s more) (ap (λ (n : ℕ). stack_at img.stacks n) k.0 ∙ open_is));
  }

  -- ---- plain operators

  module _ (q : Registers) (more : List Word) (n most : ℕ) (k : RegistersStay r q) (plains : PlainParts code (part_in r room) n (part_in q more))
      (stops : n < most → is_plain code (part_in q more) ≡ false) where
    whole : PlainParts code (part_with r (reverse (words_of img.stacks r.stack))) n (part_in q more)
    whole = subst (λ (ws : List Word). PlainParts code (part_with r (reverse ws)) n (part_in q more)) (sym l.words) plains

    abbrev shallow : Shallow code img p r l.valid live l.has (reverse (take (floor r) (words_of img.stacks r.stack))) (private_of img r) (part_in q more) n
    shallow = shallow_whole code img p r l.valid live l.has (part_in q more) n whole

    words_are : take q.s more ≡ take (floor r) (words_of img.stacks r.stack) ++ reverse shallow.part.words
    words_are =
        sym (reverse-reverse (take q.s more))
        ∙ ap reverse (ap (λ (a : Private). a.words) shallow.is)
        ∙ reverse-append shallow.part.words (reverse (take (floor r) (words_of img.stacks r.stack)))
        ∙ ap (λ (z : List Word). z ++ reverse shallow.part.words) (reverse-reverse (take (floor r) (words_of img.stacks r.stack)))

    regs_are : q ≡ shallow.part.regs
    regs_are = ap (λ (a : Private). a.regs) shallow.is

    back_is : given_back q more p img ≡ with_private img p (floor r) shallow.part
    back_is =
        ap (λ (ws : List Word). record img { stacks = with_stack img.stacks q.stack ws; regs = set_numbered img.regs p q })
        (words_are ∙ ap (λ (m : ℕ). take (floor r) (words_of img.stacks m) ++ reverse shallow.part.words) (sym k.0))
        ∙ ap (λ (x : Registers). record img {
          stacks = with_stack img.stacks x.stack (take (floor r) (words_of img.stacks x.stack) ++ reverse shallow.part.words);
          regs = set_numbered img.regs p x;
        }) regs_are

    performed : Plains code p img n (given_back q more p img)
    performed =
        subst (λ (x : Image). Plains code p img n x) (sym back_is)
        (stretches_are_own code img p r l.valid live l.has shallow.part n shallow.plains).performed

    pub stretch_lends : IsLent code (given_back q more p img) p q more
    stretch_lends = again q more k (plains_stay code p img (given_back q more p img) n l.valid l.able performed).valid

    pub stretch_is : IsStretchOf code p n most img (given_back q more p img)
    stretch_is = record {
      plains = performed;
      stops = λ less.
          ap (λ (x : Image). plain code x p) back_is
          ∙ (stretches_are_own code img p r l.valid live l.has shallow.part n shallow.plains).next
          ∙ sym (shallow_plain code img p r l.valid live l.has (part_in q more) n shallow)
          ∙ stops less;
      calm = record { states = refl; started = refl; fault = refl };
    }

  -- ---- one plain operator, or none

  module _ (q : Registers) (more : List Word) where
    how_many : Bool → ℕ
    how_many true = 1
    how_many false = 0

    abbrev StepsOn : Bool → Type 0
    StepsOn b = Steps (length room) (own_next code (part_in r room)) (part_in r room) b (part_in q more)

    parts_by : (b : Bool) → StepsOn b → PlainParts code (part_in r room) (how_many b) (part_in q more)
    unfolding how_many
    parts_by true s = parts.go s.0 parts.stay
    parts_by false s = subst (λ (x : Private). PlainParts code (part_in r room) 0 x) (sym s.1) parts.stay

    none_more : (n : ℕ) → n < n → is_plain code (part_in q more) ≡ false
    none_more n less = absurd (omega (arith, less))

    stops_by : StepsOn false → HasPlace r room → 0 < 1 → is_plain code (part_in q more) ≡ false
    stops_by s place less = ap (is_plain code) s.1 ∙ s.0 place

    module _ (b : Bool) (s : StepsOn b) where
      pub plain_keeps : RegistersStay r q
      plain_keeps = (all_leave code l.valid.segments (part_in r room) (part_in q more) (how_many b) part_is (parts_by b s)).keeps

      pub plain_lends : IsLent code (given_back q more p img) p q more
      plain_lends = stretch_lends q more (how_many b) (how_many b) plain_keeps (parts_by b s) (none_more (how_many b))

    place_before : length more ≡ length room → part_in q more ≡ part_in r room → HasPlace q more → HasPlace r room
    place_before same e place =
        ⊎_elim
        (λ (h : q.s < length more). inl (omega (arith, h, same, ap (λ (a : Private). a.regs.s) e)))
        (λ (h : length more ≡ stack_limit). inr (sym same ∙ h))
        place

    pub plain_steps : length more ≡ length room → (b : Bool) → StepsOn b → PlainStep q more b code p img (given_back q more p img)
    unfolding how_many
    plain_steps same true s = stretch_is q more 1 1 (plain_keeps true s) (parts_by true s) (none_more 1)
    plain_steps same false s = (
      stretch_is q more 0 0 (plain_keeps false s) (parts_by false s) (none_more 0),
      λ place. (stretch_is q more 0 1 (plain_keeps false s) (parts_by false s) (stops_by s (place_before same s.1 place))).stops (omega arith),
    )

  -- ---- an action

  module _ (q : Registers) (more : List Word) (op : Operator) (next : ℕ) (kind : WordsRow) (k : RegistersStay r q) (here : found code r.segment r.ll r.place ≡ Some (op, next))
      (is : row op r.place ≡ acts (words_program kind)) (x : PerformsOn (words_program kind r next) r room q more) where
    acted : ProgramActs {A = Unit {0}} p (program_in (words_program kind) (numbered img.regs p) next) img (given_back q more p img) (Ok (tt {0}))
    acted =
        in_process p (words_program kind) (numbered img.regs p) r next img (given_back q more p img) (Ok (tt {0})) l.has
        (acts_by p (words_program kind r next) (own_of_image img.stacks img.rows r) (own_of_image (with_stack img.stacks q.stack (take q.s more)) img.rows q) img (Ok (tt {0})) refl refl l.has
        (x img.stacks img.rows open_is) same)

    went : HasGone code img p (given_back q more p img) []
    went =
        gone code img (given_back q more p img) p r op next l.valid l.able l.has here refl l.valid.rows.few (ready.Words kind) is
        ((λ o. comes_by p (program_in (words_program kind) (numbered img.regs p) next) img (given_back q more p img) (Ok (tt {0})) acted), refl)

    pub action_goes : (named : Letter) → HasLetter op r.place (ready.Words kind) → LettersOn kind r room named → ActionGoesOn code p named img (given_back q more p img)
    action_goes named lettered on =
        let stands = operator_is code img p r l.able l.has (op, next) here in
        record {
          action = not_plain code img p r op next (words_program kind) l.has stands is;
          letter_is = letter_by_row code img (given_back q more p img) p r op next (ready.Words kind) l.has stands lettered went.came.0 ∙ on img.stacks open_is;
          gone = went;
          calm = record { states = refl; started = refl; fault = refl };
        }

    pub action_lends : IsLent code (given_back q more p img) p q more
    action_lends = again q more k went.valid
