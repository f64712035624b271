-- Where two lists differ first.
use Rattle.std.specs.Prelude.{IfSome}
use Rattle.std.proofs.Common.{◌≡◌, ◌≢◌, refl, sym, ap, subst, ◌∙◌, ℕ, zero, suc, ◌+◌, ◌-◌, ◌*◌, ◌^◌, ◌<◌, List, [], ◌∷◌, ◌++◌, length, map, take, drop, reverse, slice_get, get_or, Option, Some, None, arith}
use Rattle.std.proofs.Math.Seq.{take-length}
use Rattle.std.proofs.lemmas.List.{take-map, length-map, length-drop, length-append, length-reverse, get_or-drop, get_or-reverse}
use Rattle.std.proofs.lemmas.Option.{slice_get-get_or, get_or_from_slice_get}
use Rattle.b67_word.specs.declared.Place.{Place}
use Rattle.b67_word.specs.Word.{Word, operand}
use Rattle.b67_control.specs.declared.Registers.{Registers}
use Rattle.b67_control.specs.Display.{place_at}
use Rattle.b67_machine.specs.Parts.{number_word, place_word, registers_before_display, last_registers, register_list, FirstDiffer}

-- ---- lists that are equal so far

next_suc : {A : Type 0} (xs ys : List A) (i : ℕ) (x : A) → slice_get xs i ≡ Some x → slice_get ys i ≡ Some x → take i xs ≡ take i ys → take (suc i) xs ≡ take (suc i) ys
next_suc [] ys zero x e f h = cc
next_suc [] ys (suc i) x e f h = cc
next_suc (a ∷ xs) [] zero x e f h = cc
next_suc (a ∷ xs) [] (suc i) x e f h = cc
next_suc (a ∷ xs) (b ∷ ys) zero x e f h = let same : a ≡ b = cc in ap (λ z. z ∷ []) same
next_suc {A = A} (a ∷ xs) (b ∷ ys) (suc i) x e f h =
    let same : a ≡ b = cc in
    let rest : take i xs ≡ take i ys = cc in
    ap (λ (z : A). z ∷ take (suc i) xs) same ∙ ap (λ (zs : List A). b ∷ zs) (next_suc xs ys i x e f rest)

-- the next of each is the same
pub next_same : {A : Type 0} (xs ys : List A) (i : ℕ) (x : A) → slice_get xs i ≡ Some x → slice_get ys i ≡ Some x → take i xs ≡ take i ys → take (i + 1) xs ≡ take (i + 1) ys
next_same {A = A} xs ys i x e f h =
    let n : suc i ≡ i + 1 = omega arith in subst (λ (k : ℕ). take k xs ≡ take k ys) n (next_suc xs ys i x e f h)

-- all of each is the same
pub all_same : {A : Type 0} (xs ys : List A) (n : ℕ) → length xs ≡ n → length ys ≡ n → take n xs ≡ take n ys → xs ≡ ys
all_same {A = A} xs ys n e f h =
    sym (take-length xs) ∙ ap (λ (k : ℕ). take k xs) e ∙ h ∙ ap (λ (k : ℕ). take k ys) (sym f) ∙ take-length ys

-- ---- lists of which the two are parts

module _ {A : Type 0} where
  take_in : (xs us : List A) (i : ℕ) (x : A) → slice_get xs i ≡ Some x → take i (xs ++ us) ≡ take i xs
  take_in [] us zero x e = cc
  take_in [] us (suc i) x e = cc
  take_in (a ∷ xs) us zero x e = refl
  take_in (a ∷ xs) us (suc i) x e = ap (λ (zs : List A). a ∷ zs) (take_in xs us i x e)

  get_in : (xs us : List A) (i : ℕ) (x : A) → slice_get xs i ≡ Some x → slice_get (xs ++ us) i ≡ Some x
  get_in [] us zero x e = cc
  get_in [] us (suc i) x e = cc
  get_in (a ∷ xs) us zero x e = e
  get_in (a ∷ xs) us (suc i) x e = get_in xs us i x e

  -- more words after them
  pub with_more : (xs ys us vs : List A) (i : ℕ) (x y : A) → FirstDiffer xs ys i x y → FirstDiffer (xs ++ us) (ys ++ vs) i x y
  with_more xs ys us vs i x y d = record {
    before = take_in xs us i x d.here ∙ d.before ∙ sym (take_in ys vs i y d.there);
    here = get_in xs us i x d.here;
    there = get_in ys vs i y d.there;
    apart = d.apart;
  }

  take_past : (xs us : List A) (i n : ℕ) → n ≡ length xs + i → take n (xs ++ us) ≡ xs ++ take i us
  take_past [] us i n e = let same : n ≡ i = omega (arith, e) in ap (λ (k : ℕ). take k us) same
  take_past (a ∷ xs) us i zero e = absurd (omega (arith, e))
  take_past (a ∷ xs) us i (suc n) e = ap (λ (zs : List A). a ∷ zs) (take_past xs us i n (omega (arith, e)))

  get_past : (xs us : List A) (i n : ℕ) → n ≡ length xs + i → slice_get (xs ++ us) n ≡ slice_get us i
  get_past [] us i n e = let same : n ≡ i = omega (arith, e) in ap (λ (k : ℕ). slice_get us k) same
  get_past (a ∷ xs) us i zero e = absurd (omega (arith, e))
  get_past (a ∷ xs) us i (suc n) e = get_past xs us i n (omega (arith, e))

  -- the same words before them
  pub after_same : (xs ys us vs : List A) (i n : ℕ) (x y : A) → xs ≡ ys → n ≡ length xs + i → FirstDiffer us vs i x y → FirstDiffer (xs ++ us) (ys ++ vs) n x y
  after_same xs ys us vs i n x y same e d =
      subst (λ (zs : List A). FirstDiffer (xs ++ us) (zs ++ vs) n x y) same (record {
        before = take_past xs us i n e ∙ ap (λ (zs : List A). xs ++ zs) d.before ∙ sym (take_past xs vs i n e);
        here = get_past xs us i n e ∙ d.here;
        there = get_past xs vs i n e ∙ d.there;
        apart = d.apart;
      })

-- ---- what words say

number_back : (n m : ℕ) → number_word n ≡ number_word m → n ≡ m
unfolding operand
number_back n m e = let bits : (number_word n).bits ≡ (number_word m).bits = ap (λ (w : Word). w.bits) e in omega (arith, bits)

-- places whose displacements have 16 bits
pub place_back : (a b : Option Place) → IfSome a (λ p. p.at < 2 ^ 16) → IfSome b (λ p. p.at < 2 ^ 16) → place_word a ≡ place_word b → a ≡ b
place_back None None h k e = refl
place_back None (Some q) h k e = absurd (omega (arith, number_back 0 (2 ^ 16 * q.stack + q.at + 1) e))
place_back (Some p) None h k e = absurd (omega (arith, number_back (2 ^ 16 * p.stack + p.at + 1) 0 e))
place_back (Some p) (Some q) h k e =
    let n = number_back (2 ^ 16 * p.stack + p.at + 1) (2 ^ 16 * q.stack + q.at + 1) e in
    let stack : p.stack ≡ q.stack = omega (arith, n, h, k) in
    let at : p.at ≡ q.at = omega (arith, n, h, k) in
    ap (λ (s : ℕ). Some (record { stack = s; at = p.at })) stack ∙ ap (λ (t : ℕ). Some (record { stack = q.stack; at = t })) at

pub registers_back : (r q : Registers) → registers_before_display r ≡ registers_before_display q → r.display ≡ q.display → last_registers r ≡ last_registers q
    → IfSome r.task (λ p. p.at < 2 ^ 16) → IfSome q.task (λ p. p.at < 2 ^ 16) → IfSome r.critical (λ p. p.at < 2 ^ 16) → IfSome q.critical (λ p. p.at < 2 ^ 16) → r ≡ q
registers_back r q e d f rt qt rc qc =
    let stack : number_word r.stack ≡ number_word q.stack = cc in
    let s : number_word r.s ≡ number_word q.s = cc in
    let f' : number_word r.f ≡ number_word q.f = cc in
    let ll : number_word r.ll ≡ number_word q.ll = cc in
    let cells : number_word r.cells ≡ number_word q.cells = cc in
    let segment : number_word r.segment ≡ number_word q.segment = cc in
    let place : number_word r.place ≡ number_word q.place = cc in
    let task : place_word r.task ≡ place_word q.task = cc in
    let critical : place_word r.critical ≡ place_word q.critical = cc in
    ap (λ (x : ℕ). record r { stack = x }) (number_back r.stack q.stack stack)
    ∙ ap (λ (x : ℕ). record r { stack = q.stack; s = x }) (number_back r.s q.s s)
    ∙ ap (λ (x : ℕ). record r { stack = q.stack; s = q.s; f = x }) (number_back r.f q.f f')
    ∙ ap (λ (x : ℕ). record r { stack = q.stack; s = q.s; f = q.f; ll = x }) (number_back r.ll q.ll ll)
    ∙ ap (λ (x : List (Option Place)). record r { stack = q.stack; s = q.s; f = q.f; ll = q.ll; display = x }) d
    ∙ ap (λ (x : ℕ). record q { cells = x; segment = r.segment; place = r.place; task = r.task; critical = r.critical }) (number_back r.cells q.cells cells)
    ∙ ap (λ (x : ℕ). record q { segment = x; place = r.place; task = r.task; critical = r.critical }) (number_back r.segment q.segment segment)
    ∙ ap (λ (x : ℕ). record q { place = x; task = r.task; critical = r.critical }) (number_back r.place q.place place)
    ∙ ap (λ (x : Option Place). record q { task = x; critical = r.critical }) (place_back r.task q.task rt qt task)
    ∙ ap (λ (x : Option Place). record q { critical = x }) (place_back r.critical q.critical rc qc critical)

-- ---- displays

-- what a display names at a level it has
pub named : (places : List (Option Place)) (level : ℕ) → level < length places → slice_get places level ≡ Some (place_at places level)
named places level h = slice_get-get_or places level None h

word_named : (places : List (Option Place)) (level : ℕ) (o : Option Place) → slice_get places level ≡ Some o → slice_get (map place_word places) level ≡ Some (place_word o)
word_named [] zero o e = cc
word_named [] (suc level) o e = cc
word_named (x ∷ places) zero o e = let same : x ≡ o = cc in ap (λ (z : Option Place). Some (place_word z)) same
word_named (x ∷ places) (suc level) o e = word_named places level o e

pub displays_differ : (kept given : List (Option Place)) (level : ℕ) (x y : Word) → level < length kept → level < length given → take level kept ≡ take level given
    → x ≡ place_word (place_at kept level) → y ≡ place_word (place_at given level) → x ≢ y → FirstDiffer (map place_word kept) (map place_word given) level x y
displays_differ kept given level x y h k before e f apart = record {
  before = take-map place_word level kept ∙ ap (map place_word) before ∙ sym (take-map place_word level given);
  here = word_named kept level (place_at kept level) (named kept level h) ∙ ap (λ (w : Word). Some w) (sym e);
  there = word_named given level (place_at given level) (named given level k) ∙ ap (λ (w : Word). Some w) (sym f);
  apart = apart;
}

-- ---- registers

-- the same lists
pub differ_by : (xs ys us vs : List Word) (i : ℕ) (x y : Word) → xs ≡ us → ys ≡ vs → FirstDiffer xs ys i x y → FirstDiffer us vs i x y
differ_by xs ys us vs i x y e f d =
    subst (λ (z : List Word). FirstDiffer us z i x y) f (subst (λ (z : List Word). FirstDiffer z ys i x y) e d)

pub registers_length : (r : Registers) → length r.display ≡ 32 → length (register_list r) ≡ 41
registers_length r e = omega (arith, e, length-map r.display place_word, length-append (map place_word r.display) (last_registers r))

-- displays that differ, after registers that are the same
pub differ_in_display : (r q : Registers) (i n : ℕ) (x y : Word) → registers_before_display r ≡ registers_before_display q → n ≡ 4 + i
    → FirstDiffer (map place_word r.display) (map place_word q.display) i x y → FirstDiffer (register_list r) (register_list q) n x y
differ_in_display r q i n x y e f d =
    after_same (registers_before_display r) (registers_before_display q) (map place_word r.display ++ last_registers r) (map place_word q.display ++ last_registers q) i n x y e f
    (with_more (map place_word r.display) (map place_word q.display) (last_registers r) (last_registers q) i x y d)

-- registers that differ after displays that are the same
pub differ_in_last : (r q : Registers) (i n : ℕ) (x y : Word) → registers_before_display r ≡ registers_before_display q → r.display ≡ q.display → length r.display ≡ 32 → n ≡ 36 + i
    → FirstDiffer (last_registers r) (last_registers q) i x y → FirstDiffer (register_list r) (register_list q) n x y
differ_in_last r q i n x y e d l f h =
    let here : n ≡ 4 + (32 + i) = omega (arith, f) in
    let there : 32 + i ≡ length (map place_word r.display) + i = omega (arith, l, length-map r.display place_word) in
    after_same (registers_before_display r) (registers_before_display q) (map place_word r.display ++ last_registers r) (map place_word q.display ++ last_registers q) (32 + i) n x y e here
    (after_same (map place_word r.display) (map place_word q.display) (last_registers r) (last_registers q) i (32 + i) x y (ap (map place_word) d) there h)

-- ---- the words on top of a stack

-- the word that stands so many below the top one
pub from_top : (ws : List Word) (base i : ℕ) (w : Word) → base + i < length ws → slice_get ws (length ws - 1 - i) ≡ Some w → slice_get (reverse (drop base ws)) i ≡ Some w
from_top ws base i w h e =
    let upper = drop base ws in
    let size : length upper ≡ length ws - base = length-drop base ws in
    let within : i < length (reverse upper) = omega (arith, size, length-reverse upper, h) in
    let there : i < length upper = omega (arith, size, h) in
    let at : base + (length upper - 1 - i) ≡ length ws - 1 - i = omega (arith, size, h) in
    slice_get-get_or (reverse upper) i w within
    ∙ ap (λ (z : Word). Some z)
    (get_or-reverse upper i w there ∙ get_or-drop base ws (length upper - 1 - i) w ∙ ap (λ (k : ℕ). get_or ws k w) at ∙ get_or_from_slice_get ws (length ws - 1 - i) w w e)
