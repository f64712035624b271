-- The order of faults: which of them is the first does not depend on the order in which they are found.
use Rattle.std.proofs.Common.{◌≡◌, ℕ, ◌<◌, Bool, true, false, nat_lt, List, [], ◌∷◌, ◌++◌, Option, Some, None, refl, ap, sym, ◌∙◌, arith}
use Rattle.std.specs.Prelude.{◌==◌, ◌&&◌, ◌||◌, if◌then◌else◌}
use Rattle.algol_tree.specs.declared.refusal.Code.{Code}
use Rattle.algol_tree.specs.declared.refusal.Code.TheVariants as codes
use Rattle.algol_tree.specs.declared.refusal.Fault.{Fault}
use Rattle.algol_tree.specs.Codes.{rule_number}
use Rattle.algol_tree.specs.Accepted.{is_earlier, earlier, fault_noted, noted_all}

-- the order of two triples of numbers, the first counting most
abbrev lex : ℕ → ℕ → ℕ → ℕ → ℕ → ℕ → Bool
lex l c n m d k = (nat_lt l m || (l == m) && nat_lt c d) || (l == m) && (c == d) && nat_lt n k

data Less (l c n m d k : ℕ) : Type 0 where
  line : l < m → Less l c n m d k
  column : l ≡ m → c < d → Less l c n m d k
  rule : l ≡ m → c ≡ d → n < k → Less l c n m d k

lex_line : (l c n m d k : ℕ) → lex l c n m d k ≡ false → lex m d k l c n ≡ false → l ≡ m
lex_line l c n m d k a b = grind arith

lex_column : (l c n m d k : ℕ) → lex l c n m d k ≡ false → lex m d k l c n ≡ false → c ≡ d
lex_column l c n m d k a b = grind arith

lex_rule : (l c n m d k : ℕ) → lex l c n m d k ≡ false → lex m d k l c n ≡ false → n ≡ k
lex_rule l c n m d k a b = grind arith

lex_not : (l c n m d k : ℕ) → lex l c n m d k ≡ true → lex m d k l c n ≡ false
lex_not l c n m d k a = grind arith

lex_less : (l c n m d k : ℕ) → lex l c n m d k ≡ true → Less l c n m d k
lex_less l c n m d k a = at_line (nat_lt l m) refl
  where
    at_column : (b : Bool) → nat_lt c d ≡ b → nat_lt l m ≡ false → Less l c n m d k
    at_column true e f = column (grind arith) (grind arith)
    at_column false e f = rule (grind arith) (grind arith) (grind arith)

    at_line : (b : Bool) → nat_lt l m ≡ b → Less l c n m d k
    at_line true e = line (grind arith)
    at_line false e = at_column (nat_lt c d) refl e

less_lex : (l c n m d k : ℕ) → Less l c n m d k → lex l c n m d k ≡ true
less_lex l c n m d k (line a) = grind arith
less_lex l c n m d k (column a b) = grind arith
less_lex l c n m d k (rule a b e) = grind arith

less_trans : (l c n m d k p e j : ℕ) → Less l c n m d k → Less m d k p e j → Less l c n p e j
less_trans l c n m d k p e j (line a) (line b) = line (omega arith)
less_trans l c n m d k p e j (line a) (column b f) = line (omega arith)
less_trans l c n m d k p e j (line a) (rule b f g) = line (omega arith)
less_trans l c n m d k p e j (column a h) (line b) = line (omega arith)
less_trans l c n m d k p e j (column a h) (column b f) = column (a ∙ b) (omega arith)
less_trans l c n m d k p e j (column a h) (rule b f g) = column (a ∙ b) (omega arith)
less_trans l c n m d k p e j (rule a h i) (line b) = line (omega arith)
less_trans l c n m d k p e j (rule a h i) (column b f) = column (a ∙ b) (omega arith)
less_trans l c n m d k p e j (rule a h i) (rule b f g) = rule (a ∙ b) (h ∙ f) (omega arith)

lex_trans : (l c n m d k p e j : ℕ) → lex l c n m d k ≡ true → lex m d k p e j ≡ true → lex l c n p e j ≡ true
lex_trans l c n m d k p e j a b =
    less_lex l c n p e j (less_trans l c n m d k p e j (lex_less l c n m d k a) (lex_less m d k p e j b))

-- ---- faults of rules

-- the code of a rule, by its number
abbrev code_numbered : ℕ → Code
code_numbered n =
    if n == 1 then codes.UnknownName else
    if n == 2 then codes.DeclaredTwice else
    if n == 3 then codes.TooManyLevels else
    if n == 4 then codes.TooManyCells else
    if n == 5 then codes.TooManyProcedures else
    if n == 6 then codes.SegmentTooLong else
    if n == 7 then codes.WrongType else
    if n == 8 then codes.WrongCount else
    if n == 9 then codes.NotAssignable else
    if n == 10 then codes.WriteList else
    if n == 11 then codes.LineTooWide else codes.BadLabel

-- The code is that of a rule of a tree.
abbrev pub IsRule : Fault → Type 0
IsRule f = code_numbered (rule_number f.code) ≡ f.code

abbrev fault : ℕ → ℕ → Code → Fault
fault l c code = record { spot = record { line = l; column = c }; code = code }

same_fault : (l m c d : ℕ) (x y : Code) → l ≡ m → c ≡ d → x ≡ y → fault l c x ≡ fault m d y
same_fault l m c d x y e f g = ap (λ n. fault n c x) e ∙ ap (λ n. fault m n x) f ∙ ap (λ z. fault m d z) g

-- Of two faults at one place by one rule there is one.
even : (f g : Fault) → IsRule f → IsRule g → is_earlier f g ≡ false → is_earlier g f ≡ false → f ≡ g
even f g r s a b =
    same_fault f.spot.line g.spot.line f.spot.column g.spot.column f.code g.code
    (lex_line f.spot.line f.spot.column (rule_number f.code) g.spot.line g.spot.column (rule_number g.code) a b)
    (lex_column f.spot.line f.spot.column (rule_number f.code) g.spot.line g.spot.column (rule_number g.code) a b)
    (sym r ∙ ap code_numbered (lex_rule f.spot.line f.spot.column (rule_number f.code) g.spot.line g.spot.column (rule_number g.code) a b) ∙ s)

not_both : (f g : Fault) → is_earlier f g ≡ true → is_earlier g f ≡ false
not_both f g a = lex_not f.spot.line f.spot.column (rule_number f.code) g.spot.line g.spot.column (rule_number g.code) a

earlier_trans : (f g h : Fault) → is_earlier f g ≡ true → is_earlier g h ≡ true → is_earlier f h ≡ true
earlier_trans f g h a b =
    lex_trans f.spot.line f.spot.column (rule_number f.code) g.spot.line g.spot.column (rule_number g.code) h.spot.line h.spot.column
    (rule_number h.code) a b

pub true_not_false : true ≡ false → ⊥
true_not_false e = cc

-- the first of two does not depend on which comes first
either_way : (f g : Fault) → IsRule f → IsRule g → earlier f g ≡ earlier g f
either_way f g r s = cases (is_earlier g f) (is_earlier f g) refl refl
  where
    picked : (x : Bool) (a b : Fault) → is_earlier b a ≡ x → earlier a b ≡ (if x then b else a)
    picked x a b e = ap (λ z. if z then b else a) e

    cases : (x y : Bool) → is_earlier g f ≡ x → is_earlier f g ≡ y → earlier f g ≡ earlier g f
    cases true true a b = absurd (true_not_false (sym b ∙ not_both g f a))
    cases true false a b = picked true f g a ∙ sym (picked false g f b)
    cases false true a b = picked false f g a ∙ sym (picked true g f b)
    cases false false a b = picked false f g a ∙ even f g r s b a ∙ sym (picked false g f b)

-- ---- the first of many

picked : (x : Bool) (h f : Fault) → is_earlier f h ≡ x → fault_noted (Some h) f ≡ Some (if x then f else h)
picked x h f e = ap (λ z. Some (if z then f else h)) e

-- Two faults are noted in either order.
noted_swap : (first : Option Fault) (f g : Fault) → IsRule f → IsRule g → fault_noted (fault_noted first f) g ≡ fault_noted (fault_noted first g) f
noted_swap None f g r s = ap (λ x. Some x) (either_way f g r s)
noted_swap (Some h) f g r s = cases (is_earlier f h) (is_earlier g h) refl refl
  where
    behind : (x : Bool) (k j : Fault) → is_earlier k h ≡ true → is_earlier j h ≡ false → is_earlier j k ≡ x → fault_noted (Some k) j ≡ Some k
    behind true k j a b e = absurd (true_not_false (sym (earlier_trans j k h e a) ∙ b))
    behind false k j a b e = picked false k j e

    cases : (x y : Bool) → is_earlier f h ≡ x → is_earlier g h ≡ y → fault_noted (fault_noted (Some h) f) g ≡ fault_noted (fault_noted (Some h) g) f
    cases true true a b =
        ap (λ z. fault_noted z g) (picked true h f a) ∙ ap (λ x. Some x) (either_way f g r s) ∙ sym (ap (λ z. fault_noted z f) (picked true h g b))
    cases true false a b =
        ap (λ z. fault_noted z g) (picked true h f a) ∙ behind (is_earlier g f) f g a b refl ∙ sym (picked true h f a)
        ∙ sym (ap (λ z. fault_noted z f) (picked false h g b))
    cases false true a b =
        ap (λ z. fault_noted z g) (picked false h f a) ∙ picked true h g b ∙ sym (behind (is_earlier f g) g f b a refl)
        ∙ sym (ap (λ z. fault_noted z f) (picked true h g b))
    cases false false a b =
        ap (λ z. fault_noted z g) (picked false h f a) ∙ picked false h g b ∙ sym (picked false h f a)
        ∙ sym (ap (λ z. fault_noted z f) (picked false h g b))

abbrev pub AreRules : List Fault → Type 0
AreRules [] = Unit {0}
AreRules (f ∷ fs) = IsRule f × AreRules fs

noted_all_noted : (first : Option Fault) (f : Fault) (fs : List Fault) → IsRule f → AreRules fs → noted_all (fault_noted first f) fs ≡ fault_noted (noted_all first fs) f
noted_all_noted first f [] r s = refl
noted_all_noted first f (g ∷ fs) r s =
    ap (λ z. noted_all z fs) (noted_swap first f g r s.0) ∙ noted_all_noted (fault_noted first g) f fs r s.1

pub noted_all_append : (first : Option Fault) (fs gs : List Fault) → noted_all first (fs ++ gs) ≡ noted_all (noted_all first fs) gs
noted_all_append first [] gs = refl
noted_all_append first (f ∷ fs) gs = noted_all_append (fault_noted first f) fs gs

-- Two lists of faults are noted in either order.
pub noted_all_swap : (first : Option Fault) (fs gs : List Fault) → AreRules fs → AreRules gs →
    noted_all (noted_all first fs) gs ≡ noted_all (noted_all first gs) fs
noted_all_swap first [] gs r s = refl
noted_all_swap first (f ∷ fs) gs r s =
    noted_all_swap (fault_noted first f) fs gs r.1 s ∙ ap (λ z. noted_all z fs) (noted_all_noted first f gs r.0 s)

some_stays : (f : Fault) (fs : List Fault) → noted_all (Some f) fs ≡ None → ⊥
some_stays f [] e = cc
some_stays f (g ∷ fs) e = some_stays (earlier f g) fs e

-- There is no first fault exactly where there is none.
pub first_none : (fs : List Fault) → noted_all None fs ≡ None → fs ≡ []
first_none [] e = refl
first_none (f ∷ fs) e = absurd (some_stays f fs e)
