-- A private operator keeps an image valid.
use Rattle.std.proofs.Common.{◌≡◌, refl, sym, ap, subst, ◌∙◌, ℕ, zero, suc, ◌+◌, ◌<◌, ◌≤◌, ◌^◌, true, List, [], ◌∷◌, ◌++◌, length, All, map, take, drop, reverse, set, replicate, Option, Some, None, Ok, arith, length-append, length-drop}
use Rattle.std.specs.Prelude.{slice_get, slice_index_or}
use Rattle.std.proofs.lemmas.List.{length-reverse, length-take-le}
use Rattle.std.proofs.lemmas.List.Elements.{All-take, All-drop, All-append}
use Rattle.b67_ops.specs.declared.Operator.{Operator}
use Rattle.b67_ops.specs.Spelling.{Fits}
use Rattle.b67_ops.proofs.Laws.{decoded_ok, decoded_within}
use Rattle.b67_segment.specs.declared.code.Segment.{Segment}
use Rattle.b67_segment.specs.declared.code.Code.{Code}
use Rattle.b67_segment.specs.Fetching.{fetched_from}
use Rattle.b67_segment.specs.Syllables.{syllables}
use Rattle.b67_segment.proofs.Fetches.{syllables_bytes, length_syllables}
use Rattle.b67_word.specs.declared.Place.{Place}
use Rattle.b67_word.specs.Word.{Word, IsWord}
use Rattle.b67_list.specs.Numbered.{numbered, set_numbered}
use Rattle.b67_control.specs.declared.Registers.{Registers}
use Rattle.b67_control.specs.Control.{as_mscw, as_rcw}
use Rattle.b67_store.specs.Store.{stack_limit, words_of}
use Rattle.b67_table.specs.declared.Private.{Private}
use Rattle.b67_table.specs.Outcome as outcomes
use Rattle.b67_table.specs.Limits.{segment_limit}
use Rattle.b67_table.specs.Look.{read_as}
use Rattle.b67_table.specs.Chains.{place}
use Rattle.b67_table.specs.Private.{floor, frame, at_or}
use Rattle.b67_table.specs.Image.{Image, private_of, with_private, is_live}
use Rattle.b67_table.specs.Rows.{TableRow}
use Rattle.b67_table.specs.Table.{raw, table, private_op, part_by, operator_at, stack_length, length_in, private_in, private_next}
use Rattle.b67_table.specs.Privacy.{RegistersStay}
use Rattle.b67_table.specs.Valid.{IsHeld, IsDisplay, IsFrame, IsProcess, IsValid}
use Rattle.b67_table.proofs.Stacks.{below_word}
use Rattle.b67_table.proofs.Lists.{numbered_set, numbered_from, numbered_within}
use Rattle.b67_table.proofs.Limit.{new_of}
use Rattle.b67_table.proofs.Privacy.{Next, next_private, raw_is, part_keeps, Put, put_by}
use Rattle.b67_table.proofs.Wordly.{All_reverse, All_tail, All_head}
use Rattle.b67_table.proofs.PrivateKept.{IsPart}
use Rattle.b67_table.proofs.PrivateAll.{private_op_kept}
use Rattle.b67_table.proofs.OwnValid.{own_image, words_here, own_valid}

-- ---- what a display names

nothing_in : (k n : ℕ) (f : Place) → slice_index_or {A = Option Place} (replicate k None) n None ≡ Some f → ⊥
nothing_in zero n f e = cc
nothing_in (suc k) zero f e = cc
nothing_in (suc k) (suc n) f e = nothing_in k n f e

held_in : (frames : List Place) (k n : ℕ) (f : Place) → All IsHeld frames
    → slice_index_or (map (λ (x : Place). Some x) frames ++ replicate k None) n None ≡ Some f → IsHeld f
held_in [] k n f a e = absurd (nothing_in k n f e)
held_in (x ∷ xs) k zero f a e = let same : x ≡ f = cc in subst IsHeld same (All_head IsHeld x xs a)
held_in (x ∷ xs) k (suc n) f a e = held_in xs k n f (All_tail IsHeld x xs a) e

bottom_held : (f : Place) → Some (place 0 0) ≡ Some f → IsHeld f
bottom_held f e =
    let same : place 0 0 ≡ f = cc in subst IsHeld same (record { stack = omega arith; displacement = omega arith })

named_held : (frames : List Place) (k level : ℕ) (f : Place) → All IsHeld frames
    → slice_index_or (Some (place 0 0) ∷ None ∷ map (λ (x : Place). Some x) frames ++ replicate k None) level None ≡ Some f → IsHeld f
named_held frames k zero f a e = bottom_held f e
named_held frames k (suc zero) f a e = cc
named_held frames k (suc (suc n)) f a e = held_in frames k n f a e

pub display_held : (ll : ℕ) (display : List (Option Place)) → IsDisplay ll display → (level : ℕ) (f : Place) → slice_index_or display level None ≡ Some f → IsHeld f
display_held ll display d level f e =
    named_held d.frames _ level f d.held (ap (λ (xs : List (Option Place)). slice_index_or xs level None) (sym d.is) ∙ e)

-- ---- what is fetched

pub record Fetched (level : ℕ) (op : Operator) (next : ℕ) : Type 0 where
  pub fits : Fits level op
  pub bound : next < 2 ^ 16

fetched_by : (level at : ℕ) → level ≤ 31 → (o : Option Segment) (op : Operator) (next : ℕ) → ((s : Segment) → o ≡ Some s → length s.words ≤ segment_limit)
    → fetched_from o at level ≡ Ok (op, next) → Fetched level op next
fetched_by level at l None op next small e = cc
fetched_by level at l (Some s) op next small e =
    let bytes = syllables_bytes s.words in
    let within = decoded_within (syllables s.words) at level l bytes (Ok (op, next)) e in
    record {
      fits = ((decoded_ok (syllables s.words) at level l bytes op next).0 e).fits;
      bound = omega (arith, within.2, length_syllables s.words, small s refl);
    }

pub get_all : {X : Type 0} (P : X → Type 0) (xs : List X) (n : ℕ) (x : X) → All P xs → slice_get xs n ≡ Some x → P x
get_all P [] n x a e = cc
get_all P (y ∷ ys) zero x a e = let same : y ≡ x = cc in subst P same (All_head P y ys a)
get_all P (y ∷ ys) (suc n) x a e = get_all P ys n x (All_tail P y ys a) e

pub operator_fits : (code : Code) (r : Registers) → r.ll ≤ 31 → (op : Operator) (next : ℕ) → All (λ (s : Segment). length s.words ≤ segment_limit) code.segments
    → operator_at code r ≡ Ok (op, next) → Fetched r.ll op next
operator_fits code r l op next small e =
    fetched_by r.ll r.place l (slice_get code.segments r.segment) op next
    (λ s i. get_all (λ (s : Segment). length s.words ≤ segment_limit) code.segments r.segment s small i) e

-- ---- the private part of a valid image

module _ (code : Code) (img : Image) (p : ℕ) (r : Registers) (v : IsValid code img) (live : is_live (numbered img.states p) ≡ true)
    (has : numbered img.regs p ≡ Some r) where
  own : IsProcess img p r
  own = v.processes p r live has

  size_is : length (words_of img.stacks r.stack) ≡ r.s
  size_is = ap (λ (n : ℕ). length (words_of img.stacks n)) own.stack ∙ sym own.size

  pub part_is : IsPart (floor r) (private_of img r)
  part_is = record {
    size = omega (arith, length-reverse (drop (floor r) (words_of img.stacks r.stack)), length-drop (floor r) (words_of img.stacks r.stack), size_is, own.above);
    words = All_reverse IsWord (drop (floor r) (words_of img.stacks r.stack)) (All-drop IsWord (floor r) (words_of img.stacks r.stack) (v.words r.stack));
    seen = display_held r.ll r.display own.display;
    mark = own.mark;
    cells = own.cells;
    above = own.above;
    pointer = own.pointer;
  }

  -- ---- the image with another private part

  module _ (part : Private) (k : IsPart (floor r) part) (keeps : RegistersStay r part.regs) (room : part.regs.s ≤ stack_limit) where
    all : List Word
    all = take (floor r) (words_of img.stacks p) ++ reverse part.words

    high : floor r ≤ length (words_of img.stacks p)
    high = subst (λ (n : ℕ). floor r ≤ n) own.size own.above

    all_are : All IsWord all
    unfolding all
    all_are =
        All-append IsWord (take (floor r) (words_of img.stacks p)) (reverse part.words) (All-take IsWord (floor r) (words_of img.stacks p) (v.words p))
        (All_reverse IsWord part.words k.words)

    all_length : length all ≡ part.regs.s
    unfolding all
    all_length =
        omega (
          arith,
          length-append (take (floor r) (words_of img.stacks p)) (reverse part.words),
          length-take-le (floor r) (words_of img.stacks p) high,
          length-reverse part.words,
          k.size,
        )

    frame_is : frame r ≡ own.frame
    frame_is = ap at_or own.own

    word_there : (n : ℕ) → n < own.frame + 2 → slice_get all n ≡ slice_get (words_of img.stacks p) n
    unfolding all
    word_there n h = below_word (words_of img.stacks p) (reverse part.words) (floor r) n (omega (arith, h, frame_is)) high

    image : Image
    image = own_image img p (take (floor r) (words_of img.stacks p) ++ reverse part.words) part.regs

    here : words_of image.stacks p ≡ all
    unfolding image all
    here = words_here code img p r v live has (take (floor r) (words_of img.stacks p) ++ reverse part.words)

    frame_there : IsFrame image (place p own.frame)
    frame_there = record {
      mark = own.is_frame.mark;
      marked = ap (λ (ws : List Word). read_as as_mscw (slice_get ws own.frame)) here ∙ ap (read_as as_mscw) (word_there own.frame (omega arith))
          ∙ own.is_frame.marked;
      entered = own.is_frame.entered;
      control = own.is_frame.control;
      controlled = ap (λ (ws : List Word). read_as as_rcw (slice_get ws (own.frame + 1))) here
          ∙ ap (read_as as_rcw) (word_there (own.frame + 1) (omega arith)) ∙ own.is_frame.controlled;
    }

    process_is : IsProcess image p part.regs
    process_is = record {
      stack = keeps.0 ∙ own.stack;
      size = sym (ap length here ∙ all_length);
      room = room;
      display = subst (λ (d : List (Option Place)). IsDisplay part.regs.ll d) (sym keeps.2) (subst (λ (n : ℕ). IsDisplay n r.display) (sym keeps.1) own.display);
      frame = own.frame;
      own = ap (λ (d : List (Option Place)). slice_index_or d part.regs.ll None) keeps.2 ∙ ap (λ (n : ℕ). slice_index_or r.display n None) keeps.1 ∙ own.own;
      is_frame = frame_there;
      above = k.above;
      mark = k.mark;
      cells = k.cells;
      segment = subst (λ (n : ℕ). n < 2 ^ 10) (sym keeps.3) own.segment;
      pointer = k.pointer;
    }

    put_is : with_private img p (floor r) part ≡ image
    unfolding image
    put_is =
        ap (λ (n : ℕ). record img {
          stacks = set img.stacks n (Some (take (floor r) (words_of img.stacks n) ++ reverse part.words));
          regs = set_numbered img.regs p part.regs;
        }) (keeps.0 ∙ own.stack)

    pub put_valid : IsValid code (with_private img p (floor r) part)
    unfolding image all
    put_valid =
        subst (IsValid code) (sym put_is)
        (own_valid code img p r v live has (take (floor r) (words_of img.stacks p) ++ reverse part.words) part.regs all_are keeps.5 process_is)

-- ---- a private operator

by_registers : (code : Code) (img new : Image) (p : ℕ) → IsValid code img → is_live (numbered img.states p) ≡ true → (o : Option Registers)
    → numbered img.regs p ≡ o → private_in code o ≡ true → table code img p ≡ outcomes.gives new → IsValid code new
unfolding table private_op
by_registers code img new p v live None has own e = cc
by_registers code img new p v live (Some r) has own e =
    let n : Next code r = next_private code img p r has (ap (private_in code) has ∙ own) in
    let g = new_of (stack_length p) (raw code img p) new e in
    let t : Put img new p (floor r) (n.change n.next (private_of img r)) =
    put_by img new p (floor r) (n.change n.next (private_of img r)) (sym (raw_is code img p r live has n) ∙ g.0) in
    let s : numbered (set_numbered img.regs p t.part.regs) p ≡ Some t.part.regs =
    numbered_set img.regs p t.part.regs (numbered_from img.regs p r has) (numbered_within img.regs p r has) in
    let room : t.part.regs.s ≤ stack_limit =
    subst (λ (o : Option Registers). length_in o ≤ stack_limit) (ap (λ (i : Image). numbered i.regs p) t.is ∙ s) g.1 in
    let q : IsProcess img p r = v.processes p r live has in
    let f : Fetched r.ll n.op n.next = operator_fits code r (omega (arith, q.display.known)) n.op n.next v.segments n.stands in
    let k : IsPart (floor r) t.part =
    private_op_kept (floor r) n.op r.place n.next r.ll (private_of img r) t.part q.display.known f.fits f.bound (part_is code img p r v live has)
    (ap (λ (w : TableRow). part_by w n.next (private_of img r)) n.is ∙ t.given) room in
    subst (IsValid code) (sym t.is) (put_valid code img p r v live has t.part k (part_keeps code r n (private_of img r) t.part t.given) room)

pub private_keeps_valid : (code : Code) (img new : Image) (p : ℕ) → IsValid code img → is_live (numbered img.states p) ≡ true → private_next code img p ≡ true
    → table code img p ≡ outcomes.gives new → IsValid code new
private_keeps_valid code img new p v live own e = by_registers code img new p v live (numbered img.regs p) refl own e
