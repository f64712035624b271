-- One read after another, and one write after another, where the bytes are told.
use Rattle.std.proofs.Common.{ℕ, ◌+◌, ◌<◌, ◌≤◌, List, ◌++◌, length, take, drop, None, Some, sym, ap, ◌∙◌, subst, append_assoc, append-nil, arith, length-append}
use Rattle.std.specs.Prelude.{◌≡◌, Option, IfSome}
use Rattle.std.specs.Io.KnownBytes.{Consumes, Appends}
use Rattle.std.proofs.Math.Seq.{take-add}
use Rattle.b67_io.specs.Reading.{EndsExactly, TakesBetween, TakesFront}

pub Consumes_trans : (a b c : Option (List ℕ)) (xs ys : List ℕ) → Consumes a b xs → Consumes b c ys → Consumes a c (xs ++ ys)
Consumes_trans None b c xs ys p q = tt
Consumes_trans (Some x) None c xs ys p q = absurd p
Consumes_trans (Some x) (Some y) None xs ys p q = absurd q
Consumes_trans (Some x) (Some y) (Some z) xs ys p q = p ∙ ap (λ l. xs ++ l) q ∙ sym (append_assoc xs ys z)

pub Appends_trans : (a b c : Option (List ℕ)) (xs ys : List ℕ) → Appends a b xs → Appends b c ys → Appends a c (xs ++ ys)
Appends_trans None b c xs ys p q = tt
Appends_trans (Some x) None c xs ys p q = absurd p
Appends_trans (Some x) (Some y) None xs ys p q = absurd q
Appends_trans (Some x) (Some y) (Some z) xs ys p q = q ∙ ap (λ l. l ++ ys) p ∙ append_assoc x xs ys

-- two reads took a front
pub takes_front : (a b c : Option (List ℕ)) (xs ys : List ℕ) → Consumes a b xs → Consumes b c ys → TakesFront a c
takes_front a b c xs ys p q = record { bytes = xs ++ ys; front = Consumes_trans a b c xs ys p q }

-- and how long it is
pub takes_between : (above most : ℕ) (a b c : Option (List ℕ)) (xs ys : List ℕ) → Consumes a b xs → Consumes b c ys
    → above < length xs + length ys → length xs + length ys ≤ most → TakesBetween above most a c
takes_between above most a b c xs ys p q more no_more = record {
  bytes = xs ++ ys;
  more = omega (arith, length-append xs ys);
  no_more = omega (arith, length-append xs ys);
  front = Consumes_trans a b c xs ys p q;
}

-- the next n of the bytes were appended after the first `at`
pub appends_next : (a b c : Option (List ℕ)) (bytes : List ℕ) (at n : ℕ) → Appends a b (take at bytes) → Appends b c (take n (drop at bytes)) → Appends a c (take (at + n) bytes)
appends_next a b c bytes at n p q = subst (Appends a c) (sym (take-add at n bytes)) (Appends_trans a b c (take at bytes) (take n (drop at bytes)) p q)

-- where none is left after a read that gave no byte, what was taken before is all that there was
pub all_taken : (a b c : Option (List ℕ)) (xs ys piece : List ℕ) (count : ℕ) → Consumes a b xs → Consumes b c ys → EndsExactly b piece count → 0 < length piece → count ≡ 0 → IfSome a (λ left. xs ≡ left)
all_taken None b c xs ys piece count p q e room none = tt
all_taken (Some x) None c xs ys piece count p q e room none = absurd p
all_taken (Some x) (Some y) c xs ys piece count p q e room none = sym (p ∙ ap (λ l. xs ++ l) ((e room).0 none) ∙ append-nil xs)

-- and more than so many were left, where two reads took more
pub more_left : (above : ℕ) (a b c : Option (List ℕ)) (xs ys : List ℕ) → Consumes a b xs → Consumes b c ys → above < length xs + length ys → IfSome a (λ left. above < length left)
more_left above None b c xs ys p q more = tt
more_left above (Some x) None c xs ys p q more = absurd p
more_left above (Some x) (Some y) None xs ys p q more = absurd q
more_left above (Some x) (Some y) (Some z) xs ys p q more = omega (arith, ap length p, ap length q, length-append xs y, length-append ys z)

-- .. under the name of what they took
pub Consumes_next : (a b c : Option (List ℕ)) (xs ys zs : List ℕ) → zs ≡ xs ++ ys → Consumes a b xs → Consumes b c ys → Consumes a c zs
Consumes_next a b c xs ys zs e p q = subst (Consumes a c) (sym e) (Consumes_trans a b c xs ys p q)
