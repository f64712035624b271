-- How many bytes a made source has at most.
use Rattle.std.proofs.Common.{◌≡◌, ℕ, zero, suc, ◌+◌, ◌-◌, ◌*◌, ◌<◌, ◌≤◌, min, List, ◌++◌, length, arith}
use Rattle.std.specs.Prelude.{codes}
use Rattle.std.specs.List.{flat_map, range_with_len}
use Rattle.std.specs.Fmt.{decimal}
use Rattle.std.proofs.lemmas.List.{length-append}
use Rattle.std.proofs.lemmas.Fmt.{length-decimal-le}
use Rattle.b67_make.specs.Made.{adder, addition, numbers_of_group, group, call, groups_of, made}

-- texts of numbers below one, where each is so long at most
each_le : (f : ℕ → List ℕ) (most high first count : ℕ) → ((i : ℕ) → i < high → length (f i) ≤ most) → first + count ≤ high →
    length (flat_map f (range_with_len first count)) ≤ count * most
each_le f most high first zero each small = omega arith
each_le f most high first (suc count) each small =
    let one = each first (omega arith) in
    let more = each_le f most high (first + 1) count each (omega arith) in
    let sum = length-append (f first) (flat_map f (range_with_len (first + 1) count)) in
    omega (arith, one, more, sum)

-- texts one after another
length_three : (a b c : List ℕ) → length (a ++ b ++ c) ≡ length a + length b + length c
length_three a b c = let s = length-append (a ++ b) c in let t = length-append a b in omega (arith, s, t)

length_four : (a b c d : List ℕ) → length (a ++ b ++ c ++ d) ≡ length a + length b + length c + length d
length_four a b c d = let s = length-append (a ++ b ++ c) d in let t = length_three a b c in omega (arith, s, t)

length_five : (a b c d e : List ℕ) → length (a ++ b ++ c ++ d ++ e) ≡ length a + length b + length c + length d + length e
length_five a b c d e = let s = length-append (a ++ b ++ c ++ d) e in let t = length_four a b c d in omega (arith, s, t)

length_seven : (a b c d e f g : List ℕ) → length (a ++ b ++ c ++ d ++ e ++ f ++ g) ≡ length a + length b + length c + length d + length e + length f + length g
length_seven a b c d e f g =
    let s = length-append (a ++ b ++ c ++ d ++ e ++ f) g in let t = length-append (a ++ b ++ c ++ d ++ e) f in let u = length_five a b c d e in omega (arith, s, t, u)

decimal_le : (i : ℕ) → i < 1000 → length (decimal i) ≤ 3
decimal_le i small = length-decimal-le 3 i (omega arith) (omega arith) (omega arith)

adder_le : (i : ℕ) → i < 1000 → length (adder i) ≤ 40
adder_le i small =
    let digits = decimal_le i small in
    let all : length (adder i) ≡ 11 + length (decimal i) + 21 + length (decimal i) + 2 =
    length_five (codes "PROCEDURE P") (decimal i) (codes "(X); INTEGER X; X:=X+") (decimal i) (codes ";\n") in
    omega (arith, digits, all)

addition_le : (i : ℕ) → i < 1000 → length (addition i) ≤ 9
addition_le i small =
    let digits = decimal_le i small in
    let all : length (addition i) ≡ 1 + length (decimal i) + 5 = length_three (codes "P") (decimal i) (codes "(S);\n") in
    omega (arith, digits, all)

call_le : (g : ℕ) → g < 1000 → length (call g) ≤ 6
call_le g small =
    let digits = decimal_le g small in
    let all : length (call g) ≡ 1 + length (decimal g) + 2 = length_three (codes "G") (decimal g) (codes ";\n") in
    omega (arith, digits, all)

-- so many numbers
parts_le : (first count : ℕ) → count ≤ 50 → first + count ≤ 1000 →
    (length (flat_map adder (range_with_len first count)) ≤ 2000) × (length (flat_map addition (range_with_len first count)) ≤ 450)
parts_le first count few small =
    let adders = each_le adder 40 1000 first count adder_le small in
    let additions = each_le addition 9 1000 first count addition_le small in
    (omega (arith, adders), omega (arith, additions))

group_le : (n g : ℕ) → n ≤ 500 → 50 * g < n → length (group n g) ≤ 2578
group_le n g few inside =
    let digits = decimal_le g (omega arith) in
    let parts = parts_le (50 * g + 1) (min (n - 50 * g) 50) (omega arith) (omega arith) in
    let adders : length (flat_map adder (numbers_of_group n g)) ≤ 2000 = parts.0 in
    let additions : length (flat_map addition (numbers_of_group n g)) ≤ 450 = parts.1 in
    let all : length (group n g) ≡ 11 + length (decimal g) + 16 + length (flat_map adder (numbers_of_group n g)) + 70 + length (flat_map addition (numbers_of_group n g)) + 28 =
    length_seven (codes "PROCEDURE G") (decimal g) (codes "; BEGIN\nTASK T;\n") (flat_map adder (numbers_of_group n g))
    (codes "PROCEDURE R; BEGIN PROCURE(E); D:=D+1; LIBERATE(E) END;\nPROCESS R[T];\n") (flat_map addition (numbers_of_group n g)) (codes "WAIT(T.EXCEPTIONEVENT)\nEND;\n") in
    omega (arith, digits, adders, additions, all)

groups_le : (n g : ℕ) → n ≤ 500 → g < groups_of n → 50 * g < n
groups_le n g few inside = omega arith

pub made_le : (n : ℕ) → n ≤ 500 → length (made n) ≤ 30000
made_le n few =
    let count : groups_of n ≤ 10 = omega arith in
    let groups = each_le (group n) 2578 (groups_of n) 0 (groups_of n) (λ g inside. group_le n g few (groups_le n g few inside)) (omega arith) in
    let calls = each_le call 6 1000 0 (groups_of n) call_le (omega arith) in
    let all : length (made n) ≡ 53 + length (flat_map (group n) (range_with_len 0 (groups_of n))) + length (flat_map call (range_with_len 0 (groups_of n))) + 31 =
    length_four (codes "BEGIN\nFILE LINE(KIND=PRINTER);\nINTEGER S,D;\nEVENT E;\n") (flat_map (group n) (range_with_len 0 (groups_of n)))
    (flat_map call (range_with_len 0 (groups_of n))) (codes "WRITE(LINE,<I12,I12>,S,D)\nEND.\n") in
    omega (arith, count, groups, calls, all)
