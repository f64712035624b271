-- A process's own words from a base on, put into an image, and taken from it.
use Rattle.std.proofs.Common.{◌≡◌, refl, sym, ap, subst, ◌∙◌, ℕ, zero, suc, ◌-◌, ◌≤◌, List, [], ◌∷◌, ◌++◌, length, take, drop, reverse, set, Some, arith}
use Rattle.std.proofs.lemmas.List.{take-append-drop, reverse-reverse}
use Rattle.b67_list.specs.Numbered.{set_numbered}
use Rattle.b67_list.proofs.Lists.{set_set_here}
use Rattle.b67_list.proofs.Numbered.{numbered_same}
use Rattle.b67_word.specs.Word.{Word}
use Rattle.b67_control.specs.declared.Registers.{Registers}
use Rattle.b67_store.specs.Store.{Stacks, stack_at, words_or, words_of}
use Rattle.b67_store.proofs.Cited.{put_there}
use Rattle.b67_table.specs.declared.Private.{Private}
use Rattle.b67_table.specs.Private.{floor}
use Rattle.b67_table.specs.Image.{Image, with_private, private_of}
use Rattle.b67_table.proofs.Stacks.{set_here}
use Rattle.b67_table.proofs.Lists.{numbered_within, numbered_set, numbered_from, above_put}
use Rattle.b67_settling.specs.Own.{StackReaches, own_of}

pub take_put : {X : Type 0} (low high : ℕ) (xs ys : List X) → low ≤ high → high ≤ length xs → take low (take high xs ++ ys) ≡ take low xs
take_put zero high xs ys l h = refl
take_put (suc low) zero xs ys l h = absurd (omega (arith, l))
take_put (suc low) (suc high) [] ys l h = absurd (omega (arith, h))
take_put (suc low) (suc high) (x ∷ xs) ys l h = ap (λ zs. x ∷ zs) (take_put low high xs ys (omega (arith, l)) (omega (arith, h)))

pub nothing_off : (n : ℕ) → n - 0 ≡ n
nothing_off n = omega arith

pub less_each : (m n : ℕ) → suc m - suc n ≡ m - n
less_each m n = omega arith

pub drop_put : {X : Type 0} (low high : ℕ) (xs ys : List X) → low ≤ high → high ≤ length xs
    → drop low (take high xs ++ ys) ≡ take (high - low) (drop low xs) ++ ys
drop_put {X = X} zero high xs ys l h = ap (λ (n : ℕ). take n xs ++ ys) (sym (nothing_off high))
drop_put (suc low) zero xs ys l h = absurd (omega (arith, l))
drop_put (suc low) (suc high) [] ys l h = absurd (omega (arith, h))
drop_put {X = X} (suc low) (suc high) (x ∷ xs) ys l h =
    drop_put low high xs ys (omega (arith, l)) (omega (arith, h)) ∙ ap (λ (n : ℕ). take n (drop low xs) ++ ys) (sym (less_each high low))

pub drop_drop : {X : Type 0} (low high : ℕ) (xs : List X) → low ≤ high → drop high xs ≡ drop (high - low) (drop low xs)
drop_drop {X = X} zero high xs l = ap (λ (n : ℕ). drop n xs) (sym (nothing_off high))
drop_drop (suc low) zero xs l = absurd (omega (arith, l))
drop_drop (suc low) (suc high) [] l = nothing (suc high - suc low)
  where
    nothing : {Y : Type 0} (n : ℕ) → [] ≡ drop {A = Y} n []
    nothing zero = refl
    nothing (suc n) = refl
drop_drop {X = X} (suc low) (suc high) (x ∷ xs) l =
    drop_drop low high xs (omega (arith, l)) ∙ ap (λ (n : ℕ). drop n (drop low xs)) (sym (less_each high low))

pub reversed_same : {X : Type 0} (xs ys : List X) → reverse xs ≡ reverse ys → xs ≡ ys
reversed_same xs ys e = sym (reverse-reverse xs) ∙ ap reverse e ∙ reverse-reverse ys

-- ---- what is put into an image

module _ (img : Image) (p : ℕ) (r : Registers) (base : ℕ) (at : StackReaches img p r base) where
  pub within : p ≤ length img.regs
  within = numbered_within img.regs p r at.has

  pub high : base ≤ length (words_of img.stacks r.stack)
  high = subst (λ (us : List Word). base ≤ length us) (sym (ap words_or at.opened)) at.high

  -- what is there, put in its own place
  pub unchanged : with_private img p base (own_of img r base) ≡ img
  unchanged =
      let there : take base (words_of img.stacks r.stack) ++ reverse (reverse (drop base (words_of img.stacks r.stack))) ≡ at.words =
      ap (λ (z : List Word). take base (words_of img.stacks r.stack) ++ z) (reverse-reverse (drop base (words_of img.stacks r.stack)))
      ∙ take-append-drop base (words_of img.stacks r.stack) ∙ ap words_or at.opened in
      ap (λ (ws : List Word). record img { stacks = set img.stacks r.stack (Some ws); regs = set_numbered img.regs p r }) there
      ∙ ap (λ (s : Stacks). record img { stacks = s; regs = set_numbered img.regs p r }) (put_there img.stacks r.stack at.words at.opened)
      ∙ ap (λ (rs : List Registers). record img { regs = rs }) (numbered_same img.regs p r at.has)

  -- the words of the stack then
  pub put_words : (part : Private) → part.regs.stack ≡ r.stack
      → words_of (with_private img p base part).stacks r.stack ≡ take base (words_of img.stacks r.stack) ++ reverse part.words
  put_words part k =
      ap (λ (n : ℕ). words_of (set img.stacks n (Some (take base (words_of img.stacks n) ++ reverse part.words))) r.stack) k
      ∙ ap words_or (set_here img.stacks r.stack at.words (take base (words_of img.stacks r.stack) ++ reverse part.words) at.opened)

  -- what is put is there
  pub put_own : (part : Private) → part.regs.stack ≡ r.stack → own_of (with_private img p base part) part.regs base ≡ part
  put_own part k =
      ap (λ (n : ℕ). record { regs = part.regs; words = reverse (drop base (words_of (with_private img p base part).stacks n)) }) k
      ∙ ap (λ (us : List Word). record { regs = part.regs; words = reverse (drop base us) }) (put_words part k)
      ∙ ap (λ (us : List Word). record { regs = part.regs; words = reverse us }) (above_put (words_of img.stacks r.stack) (reverse part.words) base high)
      ∙ ap (λ (us : List Word). record { regs = part.regs; words = us }) (reverse-reverse part.words)

  pub put_reaches : (part : Private) → part.regs.stack ≡ r.stack → StackReaches (with_private img p base part) p part.regs base
  put_reaches part k = record {
    live = at.live;
    has = numbered_set img.regs p part.regs (numbered_from img.regs p r at.has) within;
    words = take base (words_of img.stacks r.stack) ++ reverse part.words;
    opened =
        ap (λ (n : ℕ). stack_at (set img.stacks n (Some (take base (words_of img.stacks n) ++ reverse part.words))) n) k
        ∙ set_here img.stacks r.stack at.words (take base (words_of img.stacks r.stack) ++ reverse part.words) at.opened;
    high = put_high (words_of img.stacks r.stack) (reverse part.words) base high;
  }
    where
      put_high : (xs ys : List Word) (n : ℕ) → n ≤ length xs → n ≤ length (take n xs ++ ys)
      put_high xs ys zero h = omega arith
      put_high [] ys (suc n) h = absurd (omega (arith, h))
      put_high (x ∷ xs) ys (suc n) h = omega (arith, put_high xs ys n (omega (arith, h)))

  -- what is put over words from a base on that lies higher gives way
  pub put_twice : (upper : ℕ) (first second : Private) → base ≤ upper → upper ≤ length (words_of img.stacks r.stack) → first.regs.stack ≡ r.stack
      → second.regs.stack ≡ r.stack → with_private (with_private img p upper first) p base second ≡ with_private img p base second
  put_twice upper first second low up k l =
      let old : List Word = words_of img.stacks r.stack in
      let upper_put : List Word = take upper old ++ reverse first.words in
      let new_words : List Word = take base old ++ reverse second.words in
      let regs_same : set_numbered (set_numbered img.regs p first.regs) p second.regs ≡ set_numbered img.regs p second.regs = numbered_again img.regs p first.regs second.regs in
      ap (λ (n : ℕ). record img {
        stacks = set (set img.stacks n (Some (take upper (words_of img.stacks n) ++ reverse first.words))) second.regs.stack
            (Some (take base (words_of (set img.stacks n (Some (take upper (words_of img.stacks n) ++ reverse first.words))) second.regs.stack) ++ reverse second.words));
        regs = set_numbered (set_numbered img.regs p first.regs) p second.regs;
      }) k
      ∙ ap (λ (n : ℕ). record img {
        stacks = set (set img.stacks r.stack (Some upper_put)) n (Some (take base (words_of (set img.stacks r.stack (Some upper_put)) n) ++ reverse second.words));
        regs = set_numbered (set_numbered img.regs p first.regs) p second.regs;
      }) l
      ∙ ap (λ (us : List Word). record img {
        stacks = set (set img.stacks r.stack (Some upper_put)) r.stack (Some (take base us ++ reverse second.words));
        regs = set_numbered (set_numbered img.regs p first.regs) p second.regs;
      }) (ap words_or (set_here img.stacks r.stack at.words upper_put at.opened))
      ∙ ap (λ (us : List Word). record img {
        stacks = set (set img.stacks r.stack (Some upper_put)) r.stack (Some (us ++ reverse second.words));
        regs = set_numbered (set_numbered img.regs p first.regs) p second.regs;
      }) (take_put base upper old (reverse first.words) low up)
      ∙ ap (λ (s : Stacks). record img { stacks = s; regs = set_numbered (set_numbered img.regs p first.regs) p second.regs })
      (set_set_here img.stacks r.stack (Some upper_put) (Some new_words))
      ∙ ap (λ (rs : List Registers). record img { stacks = set img.stacks r.stack (Some new_words); regs = rs }) regs_same
      ∙ ap (λ (n : ℕ). record img {
        stacks = set img.stacks n (Some (take base (words_of img.stacks n) ++ reverse second.words));
        regs = set_numbered img.regs p second.regs;
      }) (sym l)
    where
      numbered_again : (rs : List Registers) (n : ℕ) (a b : Registers) → set_numbered (set_numbered rs n a) n b ≡ set_numbered rs n b
      numbered_again rs zero a b = refl
      numbered_again rs (suc n) a b = set_set_here rs n a b

-- the private part of a process is told by its own words from a base below the floor
pub private_told : (x y : Image) (r : Registers) (base : ℕ) → base ≤ floor r → own_of x r base ≡ own_of y r base → private_of x r ≡ private_of y r
private_told x y r base low e =
    let words : drop base (words_of x.stacks r.stack) ≡ drop base (words_of y.stacks r.stack) = reversed_same _ _ (ap (λ (m : Private). m.words) e) in
    ap (λ (us : List Word). record { regs = r; words = reverse us }) (drop_drop base (floor r) (words_of x.stacks r.stack) low)
    ∙ ap (λ (us : List Word). record { regs = r; words = reverse (drop (floor r - base) us) }) words
    ∙ ap (λ (us : List Word). record { regs = r; words = reverse us }) (sym (drop_drop base (floor r) (words_of y.stacks r.stack) low))
