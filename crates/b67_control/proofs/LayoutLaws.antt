-- What is packed by a layout is read back from it, and what is read is what was packed. All kinds of control
-- word have their laws from here.
use Rattle.std.proofs.Common.{◌≡◌, ℕ, ◌+◌, ◌-◌, ◌*◌, ◌%◌, ◌^◌, ◌<◌, ◌≤◌, ◌==◌, ◌&&◌, nat_lt, nat_le, Bool, true, false, cond, List, [], ◌∷◌, refl, sym, ◌∙◌, ap, subst, arith}
use Rattle.std.proofs.lemmas.Bool.{eqb-true, eq-eqb, and_parts, and_from, ltb-true, leb-true, lt-ltb}
use Rattle.std.proofs.lemmas.Bool.Decides.{nat_tests}
use Rattle.std.proofs.lemmas.Nat.{pow-add, pow_pos, shr_high, mod_low, mod-pow-add, shl-shr}
use Rattle.std.proofs.Math.Nat.{mod-eq_of_lt}
use Rattle.std.specs.Prelude.{Some, None}
use Rattle.b67_word.proofs.Fields.{side_by_side}
use Rattle.b67_word.proofs.WordLaws.{field_fits}
use Rattle.b67_word.specs.Word.{Word, word, field, set_field}
use Rattle.b67_control.specs.Layout.{Layout, Field, Is, Number, Below, Flag, Values, Fit, bit, bits_of, values_in, is_laid_out, is_on_top, is_tiled, packed, is_kind, unpacked}

-- a field of n bits at the top of t bits, with k bits below it
record OnTop (t s n k : ℕ) : Type 0 where
  top : s + 1 ≡ t
  low : s + 1 - n ≡ k
  rest : n + k ≡ t

on_top : (t s n : ℕ) → is_on_top t s n ≡ true → OnTop t s n (s + 1 - n)
on_top t s n e =
    let a = and_parts (s + 1 == t && nat_lt 0 n) (nat_le n t) e in
    let b = and_parts (s + 1 == t) (nat_lt 0 n) a.0 in
    let top : s + 1 ≡ t = eqb-true (s + 1) t b.0 in
    let within : n ≤ t = leb-true n t a.1 in
    record { top = top; low = refl; rest = omega arith }

-- the tiling of the fields after the first
after : (t s n k : ℕ) (fields : List Field) → OnTop t s n k → is_tiled (t - n) fields ≡ true → is_tiled k fields ≡ true
after t s n k fields on e = let d : t - n ≡ k = omega arith in subst (λ (b : ℕ). is_tiled b fields ≡ true) d e

-- what a tiling says of its first field
at_is : (t s n value : ℕ) (fields : List Field) → is_tiled t (Is s n value ∷ fields) ≡ true → OnTop t s n (s + 1 - n) × (value < 2 ^ n) × (is_tiled (s + 1 - n) fields ≡ true)
at_is t s n value fields e =
    let a = and_parts (is_on_top t s n && nat_lt value (2 ^ n)) (is_tiled (t - n) fields) e in
    let b = and_parts (is_on_top t s n) (nat_lt value (2 ^ n)) a.0 in
    let on = on_top t s n b.0 in
    (on, ltb-true value (2 ^ n) b.1, after t s n (s + 1 - n) fields on a.1)

at_number : (t s n : ℕ) (fields : List Field) → is_tiled t (Number s n ∷ fields) ≡ true → OnTop t s n (s + 1 - n) × (is_tiled (s + 1 - n) fields ≡ true)
at_number t s n fields e =
    let a = and_parts (is_on_top t s n) (is_tiled (t - n) fields) e in
    let on = on_top t s n a.0 in
    (on, after t s n (s + 1 - n) fields on a.1)

at_below : (t s n limit : ℕ) (fields : List Field) → is_tiled t (Below s n limit ∷ fields) ≡ true → OnTop t s n (s + 1 - n) × (limit ≤ 2 ^ n) × (is_tiled (s + 1 - n) fields ≡ true)
at_below t s n limit fields e =
    let a = and_parts (is_on_top t s n && nat_le limit (2 ^ n)) (is_tiled (t - n) fields) e in
    let b = and_parts (is_on_top t s n) (nat_le limit (2 ^ n)) a.0 in
    let on = on_top t s n b.0 in
    (on, leb-true limit (2 ^ n) b.1, after t s n (s + 1 - n) fields on a.1)

at_flag : (t s : ℕ) (fields : List Field) → is_tiled t (Flag s ∷ fields) ≡ true → OnTop t s 1 s × (is_tiled s fields ≡ true)
at_flag t s fields e =
    let a = and_parts (is_on_top t s 1) (is_tiled (t - 1) fields) e in
    let on = on_top t s 1 a.0 in
    let here : OnTop t s 1 s = record { top = on.top; low = omega arith; rest = omega arith } in
    (here, after t s 1 s fields here a.1)

bit_lt : (b : Bool) → bit b < 2 ^ 1
bit_lt true = omega arith
bit_lt false = omega arith

bit_back : (b : Bool) (n : ℕ) → n ≡ bit b → (n == 1) ≡ b
bit_back true n e = rw e refl
bit_back false n e = rw e refl

bit_of_test : (n : ℕ) → n < 2 ^ 1 → bit (n == 1) ≡ n
bit_of_test n h = grind (arith, nat_tests)

-- a value and what stands below it, under what stands above
regroup : (c x r n k t : ℕ) → n + k ≡ t → c * 2 ^ t + (x * 2 ^ k + r) ≡ (c * 2 ^ n + x) * 2 ^ k + r
regroup c x r n k t e = rw (← e, pow-add 2 n k) (omega arith)

-- the bits under a value, seen from below it
beneath : (s n k x r c t bits : ℕ) → OnTop t s n k → bits ≡ c * 2 ^ t + (x * 2 ^ k + r) → bits ≡ (c * 2 ^ n + x) * 2 ^ k + r
beneath s n k x r c t bits on e = e ∙ regroup c x r n k t on.rest

-- the field in which a value stands has that value
field_at : (s n k x r c t bits : ℕ) → OnTop t s n k → x < 2 ^ n → r < 2 ^ k → bits ≡ c * 2 ^ t + (x * 2 ^ k + r) → field s n bits ≡ x
unfolding field
field_at s n k x r c t bits on p q e =
    rw (on.low, beneath s n k x r c t bits on e, shr_high (c * 2 ^ n + x) k r q) (mod_low c n x p)

-- the bits of values that fit
pub bits_of_fits : (fields : List Field) (v : Values fields) (t : ℕ) → is_tiled t fields ≡ true → Fit fields v → bits_of fields v < 2 ^ t
bits_of_fits [] v t e fit = pow_pos t
bits_of_fits (Is s n value ∷ fields) v t e fit =
    let a = at_is t s n value fields e in
    side_by_side value (bits_of fields v) n (s + 1 - n) t a.1 (bits_of_fits fields v (s + 1 - n) a.2 fit) a.0.rest
bits_of_fits (Number s n ∷ fields) v t e fit =
    let a = at_number t s n fields e in
    side_by_side v.0 (bits_of fields v.1) n (s + 1 - n) t fit.0 (bits_of_fits fields v.1 (s + 1 - n) a.1 fit.1) a.0.rest
bits_of_fits (Below s n limit ∷ fields) v t e fit =
    let a = at_below t s n limit fields e in
    let small : v.0 < 2 ^ n = omega (arith, fit.0, a.1) in
    side_by_side v.0 (bits_of fields v.1) n (s + 1 - n) t small (bits_of_fits fields v.1 (s + 1 - n) a.2 fit.1) a.0.rest
bits_of_fits (Flag s ∷ fields) v t e fit =
    let a = at_flag t s fields e in
    side_by_side (bit v.0) (bits_of fields v.1) 1 s t (bit_lt v.0) (bits_of_fits fields v.1 s a.1 fit) a.0.rest

pair : {A B : Type 0} (a : A) (b : B) (p : A × B) → a ≡ p.0 → b ≡ p.1 → let q : A × B = (a, b) in q ≡ p
pair a b p e f = rw (e, f) refl

-- values that were packed are read back, whatever stands above them
values_in_bits_of : (fields : List Field) (v : Values fields) (t c bits : ℕ) → is_tiled t fields ≡ true → Fit fields v → bits ≡ c * 2 ^ t + bits_of fields v → values_in fields bits ≡ v
values_in_bits_of [] v t c bits e fit q = refl
values_in_bits_of (Is s n value ∷ fields) v t c bits e fit q =
    let a = at_is t s n value fields e in
    let k = s + 1 - n in
    values_in_bits_of fields v k (c * 2 ^ n + value) bits a.2 fit (beneath s n k value (bits_of fields v) c t bits a.0 q)
values_in_bits_of (Number s n ∷ fields) v t c bits e fit q =
    let a = at_number t s n fields e in
    let k = s + 1 - n in
    let r = bits_of fields v.1 in
    pair (field s n bits) (values_in fields bits) v
    (field_at s n k v.0 r c t bits a.0 fit.0 (bits_of_fits fields v.1 k a.1 fit.1) q)
    (values_in_bits_of fields v.1 k (c * 2 ^ n + v.0) bits a.1 fit.1 (beneath s n k v.0 r c t bits a.0 q))
values_in_bits_of (Below s n limit ∷ fields) v t c bits e fit q =
    let a = at_below t s n limit fields e in
    let k = s + 1 - n in
    let r = bits_of fields v.1 in
    let small : v.0 < 2 ^ n = omega (arith, fit.0, a.1) in
    pair (field s n bits) (values_in fields bits) v
    (field_at s n k v.0 r c t bits a.0 small (bits_of_fits fields v.1 k a.2 fit.1) q)
    (values_in_bits_of fields v.1 k (c * 2 ^ n + v.0) bits a.2 fit.1 (beneath s n k v.0 r c t bits a.0 q))
values_in_bits_of (Flag s ∷ fields) v t c bits e fit q =
    let a = at_flag t s fields e in
    let r = bits_of fields v.1 in
    pair (field s 1 bits == 1) (values_in fields bits) v
    (bit_back v.0 (field s 1 bits) (field_at s 1 s (bit v.0) r c t bits a.0 (bit_lt v.0) (bits_of_fits fields v.1 s a.1 fit) q))
    (values_in_bits_of fields v.1 s (c * 2 ^ 1 + bit v.0) bits a.1 fit (beneath s 1 s (bit v.0) r c t bits a.0 q))

-- what was packed has the fixed fields
is_laid_out_bits_of : (fields : List Field) (v : Values fields) (t c bits : ℕ) → is_tiled t fields ≡ true → Fit fields v → bits ≡ c * 2 ^ t + bits_of fields v → is_laid_out fields bits ≡ true
is_laid_out_bits_of [] v t c bits e fit q = refl
is_laid_out_bits_of (Is s n value ∷ fields) v t c bits e fit q =
    let a = at_is t s n value fields e in
    let k = s + 1 - n in
    let r = bits_of fields v in
    and_from (field s n bits == value) (is_laid_out fields bits)
    (eq-eqb (field s n bits) value (field_at s n k value r c t bits a.0 a.1 (bits_of_fits fields v k a.2 fit) q))
    (is_laid_out_bits_of fields v k (c * 2 ^ n + value) bits a.2 fit (beneath s n k value r c t bits a.0 q))
is_laid_out_bits_of (Number s n ∷ fields) v t c bits e fit q =
    let a = at_number t s n fields e in
    let k = s + 1 - n in
    is_laid_out_bits_of fields v.1 k (c * 2 ^ n + v.0) bits a.1 fit.1 (beneath s n k v.0 (bits_of fields v.1) c t bits a.0 q)
is_laid_out_bits_of (Below s n limit ∷ fields) v t c bits e fit q =
    let a = at_below t s n limit fields e in
    let k = s + 1 - n in
    let r = bits_of fields v.1 in
    let small : v.0 < 2 ^ n = omega (arith, fit.0, a.1) in
    let f : field s n bits ≡ v.0 = field_at s n k v.0 r c t bits a.0 small (bits_of_fits fields v.1 k a.2 fit.1) q in
    and_from (nat_lt (field s n bits) limit) (is_laid_out fields bits)
    (lt-ltb (field s n bits) limit (omega (arith, f, fit.0)))
    (is_laid_out_bits_of fields v.1 k (c * 2 ^ n + v.0) bits a.2 fit.1 (beneath s n k v.0 r c t bits a.0 q))
is_laid_out_bits_of (Flag s ∷ fields) v t c bits e fit q =
    let a = at_flag t s fields e in
    is_laid_out_bits_of fields v.1 s (c * 2 ^ 1 + bit v.0) bits a.1 fit (beneath s 1 s (bit v.0) (bits_of fields v.1) c t bits a.0 q)

-- the lowest t bits are the topmost field and what is below it
split : (s n k t bits x r : ℕ) → OnTop t s n k → x ≡ field s n bits → r ≡ bits % 2 ^ k → x * 2 ^ k + r ≡ bits % 2 ^ t
unfolding field
split s n k t bits x r on e f = rw (e, f, on.low, ← on.rest) (sym (mod-pow-add bits n k))

-- what is read from bits that are laid out packs to those bits again
bits_of_values_in : (fields : List Field) (t bits : ℕ) → is_tiled t fields ≡ true → is_laid_out fields bits ≡ true → bits_of fields (values_in fields bits) ≡ bits % 2 ^ t
bits_of_values_in [] t bits e h = rw (eqb-true t 0 e) (omega arith)
bits_of_values_in (Is s n value ∷ fields) t bits e h =
    let a = at_is t s n value fields e in
    let b = and_parts (field s n bits == value) (is_laid_out fields bits) h in
    split s n (s + 1 - n) t bits value _ a.0 (sym (eqb-true (field s n bits) value b.0)) (bits_of_values_in fields (s + 1 - n) bits a.2 b.1)
bits_of_values_in (Number s n ∷ fields) t bits e h =
    let a = at_number t s n fields e in
    split s n (s + 1 - n) t bits _ _ a.0 refl (bits_of_values_in fields (s + 1 - n) bits a.1 h)
bits_of_values_in (Below s n limit ∷ fields) t bits e h =
    let a = at_below t s n limit fields e in
    let b = and_parts (nat_lt (field s n bits) limit) (is_laid_out fields bits) h in
    split s n (s + 1 - n) t bits _ _ a.0 refl (bits_of_values_in fields (s + 1 - n) bits a.2 b.1)
bits_of_values_in (Flag s ∷ fields) t bits e h =
    let a = at_flag t s fields e in
    split s 1 s t bits _ _ a.0 (bit_of_test (field s 1 bits) (field_fits s 1 bits)) (bits_of_values_in fields s bits a.1 h)

-- what is read fits
pub Fit_values_in : (fields : List Field) (bits : ℕ) → is_laid_out fields bits ≡ true → Fit fields (values_in fields bits)
Fit_values_in [] bits h = tt
Fit_values_in (Is s n value ∷ fields) bits h =
    Fit_values_in fields bits (and_parts (field s n bits == value) (is_laid_out fields bits) h).1
Fit_values_in (Number s n ∷ fields) bits h = (field_fits s n bits, Fit_values_in fields bits h)
Fit_values_in (Below s n limit ∷ fields) bits h =
    let b = and_parts (nat_lt (field s n bits) limit) (is_laid_out fields bits) h in
    (ltb-true (field s n bits) limit b.0, Fit_values_in fields bits b.1)
Fit_values_in (Flag s ∷ fields) bits h = Fit_values_in fields bits h

-- ---- packing one field after another

-- the bits after each field was set in turn; a field that is to be 0 is left as it is
abbrev pub set_fields : (fields : List Field) → Values fields → ℕ → ℕ
set_fields [] v bits = bits
set_fields (Is s n value ∷ fields) v bits = set_fields fields v (cond (value == 0) bits (set_field s n value bits))
set_fields (Number s n ∷ fields) v bits = set_fields fields v.1 (set_field s n v.0 bits)
set_fields (Below s n limit ∷ fields) v bits = set_fields fields v.1 (set_field s n v.0 bits)
set_fields (Flag s ∷ fields) v bits = set_fields fields v.1 (set_field s 1 (bit v.0) bits)

-- bits that end in k zeros
ends_in_zeros : (c n k t : ℕ) → n + k ≡ t → c * 2 ^ t % 2 ^ k ≡ 0
ends_in_zeros c n k t e =
    let f : c * 2 ^ t ≡ (c * 2 ^ n) * 2 ^ k + 0 = rw (← e, pow-add 2 n k) (omega arith) in
    rw f (mod_low (c * 2 ^ n) k 0 (pow_pos k))

-- a value that is put where it and all below it is 0
put : (s n k x c t bits : ℕ) → OnTop t s n k → bits ≡ c * 2 ^ t → set_field s n x bits ≡ (c * 2 ^ n + x) * 2 ^ k
unfolding set_field
put s n k x c t bits on e = rw (on.low, on.top, e, shl-shr c t, ends_in_zeros c n k t on.rest) (omega arith)

either : (b : Bool) (x y z : ℕ) → (b ≡ true → x ≡ z) → (b ≡ false → y ≡ z) → cond b x y ≡ z
either true x y z f g = f refl
either false x y z f g = g refl

put_or_leave : (s n k x c t bits : ℕ) → OnTop t s n k → bits ≡ c * 2 ^ t → cond (x == 0) bits (set_field s n x bits) ≡ (c * 2 ^ n + x) * 2 ^ k
put_or_leave s n k x c t bits on e =
    either (x == 0) bits (set_field s n x bits) ((c * 2 ^ n + x) * 2 ^ k)
    (λ h. let z : x ≡ 0 = eqb-true x 0 h in rw z (e ∙ omega (arith, regroup c 0 0 n k t on.rest)))
    (λ h. put s n k x c t bits on e)

-- the sum that the fields below a value make with it
summed : (c x r n k t bits b' whole : ℕ) → n + k ≡ t → bits ≡ c * 2 ^ t → b' ≡ (c * 2 ^ n + x) * 2 ^ k → whole ≡ b' + r → whole ≡ bits + (x * 2 ^ k + r)
summed c x r n k t bits b' whole e f g h = omega (arith, regroup c x r n k t e)

set_fields_bits_of : (fields : List Field) (v : Values fields) (t c bits : ℕ) → is_tiled t fields ≡ true → bits ≡ c * 2 ^ t → set_fields fields v bits ≡ bits + bits_of fields v
set_fields_bits_of [] v t c bits e q = omega arith
set_fields_bits_of (Is s n value ∷ fields) v t c bits e q =
    let a = at_is t s n value fields e in
    let k = s + 1 - n in
    let p = put_or_leave s n k value c t bits a.0 q in
    summed c value (bits_of fields v) n k t bits _ _ a.0.rest q p (set_fields_bits_of fields v k (c * 2 ^ n + value) _ a.2 p)
set_fields_bits_of (Number s n ∷ fields) v t c bits e q =
    let a = at_number t s n fields e in
    let k = s + 1 - n in
    let p = put s n k v.0 c t bits a.0 q in
    summed c v.0 (bits_of fields v.1) n k t bits _ _ a.0.rest q p (set_fields_bits_of fields v.1 k (c * 2 ^ n + v.0) _ a.1 p)
set_fields_bits_of (Below s n limit ∷ fields) v t c bits e q =
    let a = at_below t s n limit fields e in
    let k = s + 1 - n in
    let p = put s n k v.0 c t bits a.0 q in
    summed c v.0 (bits_of fields v.1) n k t bits _ _ a.0.rest q p (set_fields_bits_of fields v.1 k (c * 2 ^ n + v.0) _ a.2 p)
set_fields_bits_of (Flag s ∷ fields) v t c bits e q =
    let a = at_flag t s fields e in
    let p = put s 1 s (bit v.0) c t bits a.0 q in
    summed c (bit v.0) (bits_of fields v.1) 1 s t bits _ _ a.0.rest q p (set_fields_bits_of fields v.1 s (c * 2 ^ 1 + bit v.0) _ a.1 p)

-- ---- the laws of a kind

-- the fields set in turn in a blank word are the packed word
pub packed_set_fields : (l : Layout) (v : Values l.fields) → is_tiled 48 l.fields ≡ true → word l.tag (set_fields l.fields v 0) ≡ packed l v
packed_set_fields l v e = ap (word l.tag) (set_fields_bits_of l.fields v 48 0 0 e (omega arith) ∙ omega arith)

is_kind_packed : (l : Layout) (v : Values l.fields) → is_tiled 48 l.fields ≡ true → Fit l.fields v → is_kind l (packed l v) ≡ true
is_kind_packed l v e fit =
    let bits = bits_of l.fields v in
    let small : bits < 2 ^ 48 = bits_of_fits l.fields v 48 e fit in
    and_from (l.tag == l.tag && nat_lt bits (2 ^ 48)) (is_laid_out l.fields bits)
    (and_from (l.tag == l.tag) (nat_lt bits (2 ^ 48)) (eq-eqb l.tag l.tag refl) (lt-ltb bits (2 ^ 48) small))
    (is_laid_out_bits_of l.fields v 48 0 bits e fit (omega arith))

pub unpacked_packed : {K : Type 0} (l : Layout) (from : Values l.fields → K) (v : Values l.fields) → is_tiled 48 l.fields ≡ true → Fit l.fields v → unpacked l from (packed l v) ≡ Some (from v)
unpacked_packed l from v e fit =
    rw (is_kind_packed l v e fit) (ap (λ u. Some (from u)) (values_in_bits_of l.fields v 48 0 (bits_of l.fields v) e fit (omega arith)))

-- the parts of `is_kind`
pub record OfKind (l : Layout) (w : Word) : Type 0 where
  pub tag : w.tag ≡ l.tag
  pub bits : w.bits < 2 ^ 48
  pub laid_out : is_laid_out l.fields w.bits ≡ true

pub is_kind_true : (l : Layout) (w : Word) → is_kind l w ≡ true → OfKind l w
is_kind_true l w e =
    let a = and_parts (w.tag == l.tag && nat_lt w.bits (2 ^ 48)) (is_laid_out l.fields w.bits) e in
    let b = and_parts (w.tag == l.tag) (nat_lt w.bits (2 ^ 48)) a.0 in
    record { tag = eqb-true w.tag l.tag b.0; bits = ltb-true w.bits (2 ^ 48) b.1; laid_out = a.1 }

some_cond : {K : Type 0} (b : Bool) (x y : K) → cond b (Some x) None ≡ Some y → (b ≡ true) × (x ≡ y)
some_cond true x y e = (refl, cc)
some_cond false x y e = cc

-- what a word is unpacked as
pub unpacked_some : {K : Type 0} (l : Layout) (from : Values l.fields → K) (w : Word) (x : K) → unpacked l from w ≡ Some x → OfKind l w × (from (values_in l.fields w.bits) ≡ x)
unpacked_some l from w x e =
    let p = some_cond (is_kind l w) (from (values_in l.fields w.bits)) x e in
    (is_kind_true l w p.0, p.1)

pub packed_values_in : (l : Layout) (w : Word) → is_tiled 48 l.fields ≡ true → OfKind l w → w ≡ packed l (values_in l.fields w.bits)
packed_values_in l w e k =
    let f : bits_of l.fields (values_in l.fields w.bits) ≡ w.bits = bits_of_values_in l.fields 48 w.bits e k.laid_out ∙ mod-eq_of_lt k.bits in
    rw (f, ← k.tag) refl
