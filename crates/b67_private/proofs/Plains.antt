-- So many plain operators of a private part are so many plain operators of its process.
use Rattle.std.proofs.Common.{◌≡◌, inr, refl, sym, ap, subst, ◌∙◌, ℕ, ◌+◌, ◌-◌, ◌<◌, ◌≤◌, true, false, List, ◌++◌, length, take, drop, set, Option, Some, None, take-append-drop, arith}
use Rattle.std.specs.Prelude.{reverse}
use Rattle.std.proofs.lemmas.List.{reverse-append, reverse-reverse, length-drop, length-take-le}
use Rattle.b67_list.specs.Numbered.{numbered, set_numbered}
use Rattle.b67_list.proofs.Lists.{set_set_here}
use Rattle.b67_list.proofs.Numbered.{numbered_same, numbered_twice}
use Rattle.b67_word.specs.Word.{Word}
use Rattle.b67_control.specs.Display.{levels}
use Rattle.b67_control.specs.declared.Registers.{Registers}
use Rattle.b67_ops.specs.declared.Operator.{Operator}
use Rattle.b67_segment.specs.declared.code.Code.{Code}
use Rattle.b67_segment.specs.Decoded.{found}
use Rattle.b67_store.specs.Store.{words_of, stack_limit}
use Rattle.b67_store.proofs.Cited.{put_there}
use Rattle.b67_table.specs.declared.Private.{Private}
use Rattle.b67_table.specs.Outcome.{gives}
use Rattle.b67_table.specs.Private.{floor}
use Rattle.b67_table.specs.Image.{Image, private_of, with_private, is_live}
use Rattle.b67_table.specs.Privacy.{RegistersStay, ProcessStands}
use Rattle.b67_table.specs.Runs.{Plains}
use Rattle.b67_table.specs.Runs as runs
use Rattle.b67_table.specs.Table.{private_op, table, plain}
use Rattle.b67_table.specs.Valid.{IsProcess, IsValid}
use Rattle.b67_table.proofs.FirstValid.{counted, valid_stands}
use Rattle.b67_table.proofs.Keeping.{private_keeps}
use Rattle.b67_table.proofs.Lists.{numbered_set, numbered_within}
use Rattle.b67_table.proofs.OwnValid.{own_image, words_here, opened}
use Rattle.b67_table.proofs.PrivateAll.{private_op_kept}
use Rattle.b67_table.proofs.PrivateKept as kept
use Rattle.b67_table.proofs.PrivateValid.{part_is, put_valid}
use Rattle.b67_private.specs.Parts.{outcome_by, own_next, is_new, is_plain, PlainParts, part_with, stay, go}
use Rattle.b67_private.specs.Laws.{IsStretch, StretchesAreOwn}
use Rattle.b67_private.proofs.Deeper.{is_short, deep, not_short, whole_is_enough}
use Rattle.b67_private.proofs.Floors.{private_op_rises}
use Rattle.b67_private.proofs.Own.{own_operator}
use Rattle.b67_private.proofs.Stepping.{fits_of, given_of}
use Rattle.b67_private.proofs.Stretching.{own_next_deep, plain_deep, from_deeper, upper_words, put_back}

-- a private part put into an image, where its stack is the process's
put_is : (x : Image) (p base : ℕ) (q : Private) → q.regs.stack ≡ p → with_private x p base q ≡ own_image x p (take base (words_of x.stacks p) ++ reverse q.words) q.regs
put_is x p base q e =
    ap (λ (n : ℕ). record x { stacks = set x.stacks n (Some (take base (words_of x.stacks n) ++ reverse q.words)); regs = set_numbered x.regs p q.regs }) e

own_twice : (x : Image) (p : ℕ) (us ws : List Word) (a b : Registers) → own_image (own_image x p us a) p ws b ≡ own_image x p ws b
own_twice x p us ws a b =
    ap (λ stacks. record x { stacks = stacks; regs = set_numbered (set_numbered x.regs p a) p b }) (set_set_here x.stacks p (Some us) (Some ws))
    ∙ ap (λ regs. record x { stacks = set x.stacks p (Some ws); regs = regs }) (numbered_twice x.regs p a b)

module _ (code : Code) (img : Image) (p : ℕ) (r : Registers) (v : IsValid code img) (live : is_live (numbered img.states p) ≡ true)
    (has : numbered img.regs p ≡ Some r) where
  own : IsProcess img p r
  own = v.processes p r live has

  abbrev pub image_of : Private → Image
  image_of a = own_image img p (take (floor r) (words_of img.stacks p) ++ reverse a.words) a.regs

  -- a part that plain operators have left
  pub record Fine (a : Private) : Type 0 where
    pub part : kept.IsPart (floor r) a
    pub keeps : RegistersStay r a.regs
    pub room : a.regs.s ≤ stack_limit
    pub low : floor r ≤ floor a.regs

  own_stack : (a : Private) → RegistersStay r a.regs → a.regs.stack ≡ p
  own_stack a k = k.0 ∙ own.stack

  known : (a : Private) → RegistersStay r a.regs → a.regs.ll < levels
  known a k = subst (λ (n : ℕ). n < levels) (sym k.1) own.display.known

  under_length : length (take (floor r) (words_of img.stacks p)) ≡ floor r
  under_length = length-take-le (floor r) (words_of img.stacks p) (subst (λ (n : ℕ). floor r ≤ n) own.size own.above)

  fine_by : (a b : Private) (o : Option (Operator × ℕ)) → Fine a → found code a.regs.segment a.regs.ll a.regs.place ≡ o → outcome_by o a ≡ gives b → Fine b
  fine_by a b None f i e = cc
  fine_by a b (Some g) f i e =
      let given = given_of (private_op g.0 a.regs.place g.1 a) b e in
      let same = private_keeps g.0 a.regs.place g.1 a b given.0 in
      let fits = fits_of code v.segments a.regs g (known a f.keeps) i in
      record {
        part = private_op_kept (floor r) g.0 a.regs.place g.1 a.regs.ll a b (known a f.keeps) fits.fits fits.bound f.part given.0 given.1;
        keeps = (same.0 ∙ f.keeps.0, same.1 ∙ f.keeps.1, same.2 ∙ f.keeps.2, same.3 ∙ f.keeps.3, same.4 ∙ f.keeps.4, same.5 ∙ f.keeps.5);
        room = given.1;
        low = private_op_rises (floor r) g.0 a.regs.place g.1 a b f.low f.part.above given.0;
      }

  fine_next : (a b : Private) → Fine a → own_next code a ≡ gives b → Fine b
  unfolding own_next
  fine_next a b f e = fine_by a b (found code a.regs.segment a.regs.ll a.regs.place) f refl e

  -- ---- one operator

  module _ (a : Private) (f : Fine a) where
    abbrev pub n : ℕ
    n = a.regs.s - floor a.regs

    abbrev pub count : ℕ
    count = floor a.regs - floor r

    abbrev pub m : Private
    m = record a { words = take n a.words }

    abbrev pub lower : List Word
    lower = drop n a.words

    parts : n + count ≡ length a.words
    parts = omega (arith, f.part.size, f.low, f.part.above)

    a_is : deep lower m ≡ a
    a_is = ap (λ (ws : List Word). record a { words = ws }) (take-append-drop n a.words)

    whole : is_short m ≡ false
    whole = whole_is_enough m (omega (arith, length-take-le n a.words (omega (arith, parts)), f.part.above))

    x : Image
    x = image_of a

    valid_x : IsValid code (image_of a)
    valid_x = subst (IsValid code) (put_is img p (floor r) a (own_stack a f.keeps)) (put_valid_here)
      where
        under_same : with_private img p (floor r) a ≡ with_private img p (floor r) a
        under_same = refl

        put_valid_here : IsValid code (with_private img p (floor r) a)
        put_valid_here = put_valid code img p r v live has a f.part f.keeps f.room

    has_x : numbered (set_numbered img.regs p a.regs) p ≡ Some a.regs
    has_x = numbered_set img.regs p a.regs (counted p r img.regs has) (numbered_within img.regs p r has)

    stands_x : ProcessStands (image_of a) p a.regs
    stands_x = valid_stands code (image_of a) p a.regs valid_x live has_x

    words_x : words_of (image_of a).stacks p ≡ take (floor r) (words_of img.stacks p) ++ reverse a.words
    words_x = words_here code img p r v live has (take (floor r) (words_of img.stacks p) ++ reverse a.words)

    upper : reverse (drop (floor a.regs) (words_of (image_of a).stacks a.regs.stack)) ≡ take n a.words
    upper =
        ap (λ (k : ℕ). reverse (drop (floor a.regs) (words_of (image_of a).stacks k))) (own_stack a f.keeps)
        ∙ ap (λ (ws : List Word). reverse (drop (floor a.regs) ws)) words_x
        ∙ ap (λ (k : ℕ). reverse (drop k (take (floor r) (words_of img.stacks p) ++ reverse a.words))) high
        ∙ upper_words (take (floor r) (words_of img.stacks p)) a.words n count parts
      where
        high : floor a.regs ≡ length (take (floor r) (words_of img.stacks p)) + count
        high = omega (arith, under_length, f.low)

    m_is : private_of (image_of a) a.regs ≡ m
    m_is = ap (λ (ws : List Word). record a { words = ws }) upper

    pub plain_alike : plain code (image_of a) p ≡ is_plain code a
    plain_alike =
        (own_operator code (image_of a) p a.regs stands_x).plain_is ∙ ap (is_plain code) m_is
        ∙ sym (ap (is_plain code) (sym a_is) ∙ plain_deep lower code m whole)

    module _ (b : Private) (e : own_next code a ≡ gives b) where
      new_upper : (q : Private) × (own_next code m ≡ gives q) × (deep lower q ≡ b)
      new_upper = from_deeper lower (own_next code m) b (sym (own_next_deep lower code m whole) ∙ ap (own_next code) a_is ∙ e)

      upper_goes : (q : Private) → own_next code m ≡ gives q → own_next code (private_of (image_of a) a.regs) ≡ gives q
      upper_goes q h = ap (own_next code) m_is ∙ h

      plain_x : (q : Private) → own_next code m ≡ gives q → plain code (image_of a) p ≡ true
      plain_x q h = (own_operator code (image_of a) p a.regs stands_x).plain_is ∙ ap is_new (upper_goes q h)

      put_x : (q : Private) → q.regs.stack ≡ p → with_private (image_of a) p (floor a.regs) q ≡ own_image img p (take (floor r) (words_of img.stacks p) ++ reverse (q.words ++ lower)) q.regs
      put_x q h =
          put_is (image_of a) p (floor a.regs) q h
          ∙ own_twice img p (take (floor r) (words_of img.stacks p) ++ reverse a.words) (take (floor a.regs) (words_of (image_of a).stacks p) ++ reverse q.words) a.regs q.regs
          ∙ ap (λ (ws : List Word). own_image img p (take (floor a.regs) ws ++ reverse q.words) q.regs)
          (words_x ∙ ap (λ (ws : List Word). take (floor r) (words_of img.stacks p) ++ reverse ws) (sym (take-append-drop n a.words)))
          ∙ ap (λ (ws : List Word). own_image img p ws q.regs)
          (put_back (take (floor r) (words_of img.stacks p)) (take n a.words) lower q.words (floor a.regs) high)
        where
          high : floor a.regs ≡ length (take (floor r) (words_of img.stacks p)) + length (drop n a.words)
          high = omega (arith, under_length, f.low, parts, length-drop n a.words)

      stack_of : (q : Private) → deep lower q ≡ b → q.regs.stack ≡ p
      stack_of q h = ap (λ (c : Private). c.regs.stack) h ∙ own_stack b (fine_next a b f e).keeps

      pub one_plain : plain code (image_of a) p ≡ true
      one_plain = plain_x new_upper.0 new_upper.1

      pub one_table : table code (image_of a) p ≡ gives (image_of b)
      one_table =
          let q = new_upper.0 in
          (own_operator code (image_of a) p a.regs stands_x).new q (upper_goes q new_upper.1)
          ∙ ap gives (put_x q (stack_of q new_upper.2) ∙ ap image_of new_upper.2)

  -- ---- many

  pub many : (a b : Private) (k : ℕ) → Fine a → PlainParts code a k b → Plains code p (image_of a) k (image_of b)
  many a b k f stay = runs.stay
  many a b k f (go {b = c} e rest) = runs.go (one_plain a f c e) (one_table a f c e) (many c b _ (fine_next a c f e) rest)

  many_fine : (a b : Private) (k : ℕ) → Fine a → PlainParts code a k b → Fine b
  many_fine a b k f stay = f
  many_fine a b k f (go {b = c} e rest) = many_fine c b _ (fine_next a c f e) rest

  -- ---- from the process's own part on

  fine_first : Fine (private_of img r)
  fine_first = record { part = part_is code img p r v live has; keeps = (refl, refl, refl, refl, refl, refl); room = own.room; low = omega arith }

  first_words : take (floor r) (words_of img.stacks p) ++ reverse (reverse (drop (floor r) (words_of img.stacks r.stack))) ≡ words_of img.stacks p
  first_words =
      ap (λ (k : ℕ). take (floor r) (words_of img.stacks p) ++ reverse (reverse (drop (floor r) (words_of img.stacks k)))) own.stack
      ∙ ap (λ (ws : List Word). take (floor r) (words_of img.stacks p) ++ ws) (reverse-reverse (drop (floor r) (words_of img.stacks p)))
      ∙ take-append-drop (floor r) (words_of img.stacks p)

  first_image_is : image_of (private_of img r) ≡ img
  first_image_is =
      ap (λ (ws : List Word). own_image img p ws r) first_words
      ∙ ap (λ stacks. record img { stacks = stacks; regs = set_numbered img.regs p r }) (put_there img.stacks p (words_of img.stacks p) (opened code img p r v live has))
      ∙ ap (λ regs. record img { regs = regs }) (numbered_same img.regs p r has)

  put_again : (b : Private) → Fine b → image_of b ≡ with_private img p (floor r) b
  put_again b f = sym (put_is img p (floor r) b (own_stack b f.keeps))

  pub stretch : (b : Private) (k : ℕ) → PlainParts code (private_of img r) k b → IsStretch code img p r b k
  stretch b k plains =
      let f = many_fine (private_of img r) b k fine_first plains in
      record {
        performed = subst (λ (x : Image). Plains code p x k (with_private img p (floor r) b)) first_image_is
            (subst (λ (x : Image). Plains code p (image_of (private_of img r)) k x) (put_again b f) (many (private_of img r) b k fine_first plains));
        next = ap (λ (x : Image). plain code x p) (sym (put_again b f)) ∙ plain_alike b f;
      }

  -- ---- on all the words of its stack

  enough : (a : Private) → Fine a → is_short a ≡ false
  enough a f = not_short a (inr (omega (arith, f.low, f.part.size)))

  -- a part after so many plain operators, and what they leave where these words lie below it
  pub record Shallow (lower : List Word) (a b : Private) (k : ℕ) : Type 0 where
    pub part : Private
    pub plains : PlainParts code a k part
    pub is : b ≡ deep lower part
    pub fine : Fine part

  shallow : (lower : List Word) (a x b : Private) (k : ℕ) → Fine a → x ≡ deep lower a → PlainParts code x k b → Shallow lower a b k
  shallow lower a x b k f e stay = record { part = a; plains = stay; is = e; fine = f }
  shallow lower a x b k f e (go {b = c} g rest) =
      let one = from_deeper lower (own_next code a) c (sym (own_next_deep lower code a (enough a f)) ∙ ap (own_next code) (sym e) ∙ g) in
      let more = shallow lower one.0 c b _ (fine_next a one.0 f one.1) (sym one.2) rest in
      record { part = more.part; plains = go one.1 more.plains; is = more.is; fine = more.fine }

  abbrev pub below : List Word
  below = reverse (take (floor r) (words_of img.stacks r.stack))

  whole_is : part_with r (reverse (words_of img.stacks r.stack)) ≡ deep below (private_of img r)
  whole_is =
      ap (part_with r)
      (ap reverse (sym (take-append-drop (floor r) (words_of img.stacks r.stack)))
      ∙ reverse-append (take (floor r) (words_of img.stacks r.stack)) (drop (floor r) (words_of img.stacks r.stack)))

  -- so many plain operators on all of them are as many of the process's part
  pub shallow_whole : (b : Private) (k : ℕ) → PlainParts code (part_with r (reverse (words_of img.stacks r.stack))) k b → Shallow below (private_of img r) b k
  shallow_whole b k plains = shallow below (private_of img r) (part_with r (reverse (words_of img.stacks r.stack))) b k fine_first whole_is plains

  -- and then the next operator is plain for both alike
  pub shallow_plain : (b : Private) (k : ℕ) → (s : Shallow below (private_of img r) b k) → is_plain code b ≡ is_plain code s.part
  shallow_plain b k s = ap (is_plain code) s.is ∙ plain_deep below code s.part (enough s.part s.fine)

pub stretches_are_own : StretchesAreOwn
stretches_are_own code img p r v live has b k plains = stretch code img p r v live has b k plains
