-- The upper words of a part, where nothing is known of those below them.
use Rattle.std.proofs.Common.{◌≡◌, inr, refl, sym, ap, subst, ◌∙◌, ◌+◌, ◌-◌, ◌≤◌, ℕ, List, [], ◌++◌, length, take, drop, All, false, append-nil, length-append, arith}
use Rattle.std.specs.Prelude.{reverse}
use Rattle.std.proofs.lemmas.List.{length-drop, length-reverse, length-take-le}
use Rattle.b67_word.specs.Word.{Word}
use Rattle.b67_control.specs.declared.Registers.{Registers}
use Rattle.b67_segment.specs.declared.code.Segment.{Segment}
use Rattle.b67_segment.specs.declared.code.Code.{Code}
use Rattle.b67_store.specs.Store.{stack_limit, left_in}
use Rattle.b67_table.specs.declared.Private.{Private}
use Rattle.b67_table.specs.Limits.{segment_limit}
use Rattle.b67_table.specs.Privacy.{RegistersStay}
use Rattle.b67_table.proofs.Cited.{keeps_both}
use Rattle.b67_private.specs.Parts.{own_next, is_plain, PlainParts, stay, go, part_with, part_in, IsPrivatePart, HasPart, AreReady}
use Rattle.b67_private.proofs.Deeper.{is_short, deep, not_short}
use Rattle.b67_private.proofs.Rooms.{upper_in, from_base, left_is}
use Rattle.b67_private.proofs.Stepping.{Leaves, leaves}
use Rattle.b67_private.proofs.Stretching.{own_next_deep, plain_deep, from_deeper}

-- no word is missed in a part
enough : (a : Private) → IsPrivatePart a → is_short a ≡ false
enough a k = not_short a (inr (omega (arith, k.low, k.size)))

pub has_part : (a : Private) → IsPrivatePart a → HasPart a
has_part a k = record { upper = a; lower = []; is = ap (λ (ws : List Word). record a { words = ws }) (sym (append-nil a.words)); part = k }

pub ready_part : (a : Private) → IsPrivatePart a → AreReady a.regs
ready_part a k = record { room = k.room; seen = k.seen; level = k.level }

pub ready : (a : Private) → HasPart a → AreReady a.regs
ready a k = subst (λ (p : Private). AreReady p.regs) (sym k.is) (ready_part k.upper k.part)

-- The words of a part stand in a room, from a base on.
pub record StandsIn (p : Private) (base : ℕ) (room : List Word) : Type 0 where
  pub ends : base + length p.words ≡ p.regs.s
  pub size : length room ≡ stack_limit
  pub words : reverse (drop base (take (base + length p.words) room)) ≡ p.words

-- What a part is after so many plain operators, which have come to this on all the words of the stack: these registers, and such of these words as S says.
pub record Rest (code : Code) (p : Private) (n : ℕ) (whole : Private) (r : Registers) (words : List Word) : Type 0 where
  pub within : r.s ≤ stack_limit
  pub enough : stack_limit - r.s ≤ length words
  pub plains : PlainParts code p n (part_with r (drop (stack_limit - r.s) words))
  pub left : Leaves p (part_with r (drop (stack_limit - r.s) words))
  pub next : is_plain code (part_with r (drop (stack_limit - r.s) words)) ≡ is_plain code whole

module _ (code : Code) (small : All (λ (s : Segment). length s.words ≤ segment_limit) code.segments) where
  -- what so many plain operators leave
  pub all_leave : (a b : Private) (n : ℕ) → IsPrivatePart a → PlainParts code a n b → Leaves a b
  all_leave a b n k stay = record { part = k; keeps = (refl, refl, refl, refl, refl, refl) }
  all_leave a b n k (go {b = c} e rest) =
      let one = leaves code small a c k e in
      let more = all_leave c b _ one.part rest in
      record { part = more.part; keeps = keeps_both a.regs c.regs b.regs one.keeps more.keeps }

  -- so many plain operators of a part, and what they leave where these words lie below it
  pub record Above (lower : List Word) (a b : Private) (n : ℕ) : Type 0 where
    pub upper : Private
    pub plains : PlainParts code a n upper
    pub is : b ≡ deep lower upper

  pub above : (lower : List Word) (a x b : Private) (n : ℕ) → IsPrivatePart a → x ≡ deep lower a → PlainParts code x n b → Above lower a b n
  above lower a x b n k e stay = record { upper = a; plains = stay; is = e }
  above lower a x b n k e (go {b = c} g rest) =
      let one = from_deeper lower (own_next code a) c (sym (own_next_deep lower code a (enough a k)) ∙ ap (own_next code) (sym e) ∙ g) in
      let more = above lower one.0 c b _ (leaves code small a one.0 k one.1).part (sym one.2) rest in
      record { upper = more.upper; plains = go one.1 more.plains; is = more.is }

  -- and then the next operator is plain for both alike
  pub above_plain : (lower : List Word) (a b : Private) (n : ℕ) → IsPrivatePart a → (s : Above lower a b n) → is_plain code b ≡ is_plain code s.upper
  above_plain lower a b n k s = ap (is_plain code) s.is ∙ plain_deep lower code s.upper (enough s.upper (all_leave a s.upper n k s.plains).part)

  -- what they leave, where nothing is known of the words below
  pub record Still (a b : Private) : Type 0 where
    pub ready : AreReady b.regs
    pub keeps : RegistersStay a.regs b.regs

  pub still : (a b : Private) (n : ℕ) → HasPart a → PlainParts code a n b → Still a b
  still a b n k plains =
      let s = above k.lower k.upper a b n k.part k.is plains in
      let left = all_leave k.upper s.upper n k.part s.plains in
      record {
        ready = ready b (record { upper = s.upper; lower = k.lower; is = s.is; part = left.part });
        keeps = subst (λ (p : Private). RegistersStay p.regs b.regs) (sym k.is) (subst (λ (p : Private). RegistersStay k.upper.regs p.regs) (sym s.is) left.keeps);
      }

  -- ---- a part whose words stand in a room

  module _ (p : Private) (k : IsPrivatePart p) (base : ℕ) (room : List Word) (on : StandsIn p base room) where
    in_room : part_in p.regs room ≡ deep (reverse (take base room)) p
    in_room =
        ap (part_with p.regs)
        (upper_in room p.words base p.regs.s on.ends (subst (λ (n : ℕ). reverse (drop base (take n room)) ≡ p.words) on.ends on.words))

    pub room_has : HasPart (part_in p.regs room)
    room_has = record { upper = p; lower = reverse (take base room); is = in_room; part = k }

    module _ (r : Registers) (last : List Word) (n : ℕ) (long : length last ≡ length room) (plains : PlainParts code (part_in p.regs room) n (part_in r last)) where
      after : Above (reverse (take base room)) p (part_in r last) n
      after = above (reverse (take base room)) p (part_in p.regs room) (part_in r last) n k in_room plains

      leaves_it : Leaves p after.upper
      leaves_it = all_leave p after.upper n k after.plains

      regs_are : after.upper.regs ≡ r
      regs_are = sym (ap (λ (q : Private). q.regs) after.is)

      words_are : reverse (take r.s last) ≡ after.upper.words ++ reverse (take base room)
      words_are = ap (λ (q : Private). q.words) after.is

      within : r.s ≤ stack_limit
      within = subst (λ (q : Registers). q.s ≤ stack_limit) regs_are leaves_it.part.room

      under_length : length (take base room) ≡ base
      under_length = length-take-le base room (omega (arith, on.ends, on.size, k.room))

      above_base : base ≤ r.s
      above_base =
          omega (
            arith,
            ap length words_are,
            length-append after.upper.words (reverse (take base room)),
            length-reverse (take base room),
            under_length,
            length-reverse (take r.s last),
            length-take-le r.s last (omega (arith, within, long, on.size)),
          )

      long_last : length last ≡ stack_limit
      long_last = long ∙ on.size

      rest_is : after.upper ≡ part_with r (drop (stack_limit - r.s) (reverse (drop base (left_in room last))))
      rest_is =
          ap (λ (q : Registers). part_with q after.upper.words) regs_are
          ∙ ap (part_with r)
          (sym (from_base last after.upper.words (take base room) base r.s under_length above_base (omega (arith, within, long_last)) words_are)
          ∙ ap (λ (m : ℕ). drop (m - r.s) (reverse (drop base last))) long_last
          ∙ ap (λ (ws : List Word). drop (stack_limit - r.s) (reverse (drop base ws))) (sym (left_is room last long)))

      -- when so many plain operators were performed in the room, the part has its words from the base on
      pub rest : Rest code p n (part_in r last) r (reverse (drop base (left_in room last)))
      rest = record {
        within = within;
        enough = subst (λ (ws : List Word). stack_limit - r.s ≤ length (reverse (drop base ws))) (sym (left_is room last long))
            (omega (arith, above_base, long_last, length-reverse (drop base last), length-drop base last));
        plains = subst (PlainParts code p n) rest_is after.plains;
        left = subst (Leaves p) rest_is leaves_it;
        next = sym (above_plain (reverse (take base room)) p (part_in r last) n k after ∙ ap (is_plain code) rest_is);
      }
