-- The letters of a replay, and those that are given.
use Rattle.std.specs.Prelude.{slice_get, IfSome}
use Rattle.std.proofs.Common.{◌≡◌, ◌≢◌, refl, sym, ap, subst, ◌∙◌, ℕ, suc, ◌+◌, ◌-◌, ◌<◌, ◌≤◌, Bool, true, false, List, [], ◌∷◌, ◌++◌, length, take, drop, reverse, append-nil, append_assoc, Option, Some, None, arith}
use Rattle.std.proofs.lemmas.List.{drop-drop, drop-take, length-drop, length-map, length-reverse, length-take-le, take-append-drop, take-take, take_all}
use Rattle.b67_deeds.specs.declared.Letter.{Letter}
use Rattle.b67_segment.specs.declared.code.Code.{Code}
use Rattle.b67_table.specs.Image.{Image}
use Rattle.b67_table.specs.Runs.{Runs, begin, entry}
use Rattle.b67_letters.specs.Entries.{letters}
use Rattle.b67_action.specs.declared.done.Done.{Done}
use Rattle.b67_action.specs.declared.done.Done.TheVariants as dones
use Rattle.b67_machine.specs.declared.replay.Replayed.{Replayed}
use Rattle.b67_machine.specs.declared.replay.Replayed.TheVariants as replayed
use Rattle.b67_machine.specs.Kept.{MachineModel}
use Rattle.b67_machine.specs.Replaying.{NoneDiffers, AgreeBy, AgreeAs, GoOnAs, first_of, rest_of, Compares, Between, LettersAgree, StopsBefore, EndsAfter, within_entry}

-- ---- as many letters as entries

pub letters_long : {code : Code} {history counts : List ℕ} {img : Image} (r : Runs code history counts img) → length (letters r) ≡ length history
letters_long begin = refl
letters_long (entry before e) = ap suc (letters_long before)

pub noted_length : (code : Code) (done : List ℕ) (noted : List Letter) (spent : ℕ) (m : MachineModel) → Between code done noted spent m → length noted ≡ length done
noted_length code done noted spent m b =
    omega (arith, letters_long b.runs, ap length b.letters_are, length-map (reverse noted) (λ (l : Letter). Some l), length-reverse noted, ap length b.order, length-reverse b.history)

-- ---- an end before which no letter differed

agree_by : (answer : Replayed) → NoneDiffers answer → (given done more : List Letter) → given ≡ done ++ more → AgreeBy answer given done
agree_by replayed.Ended h given done more e = (more, e)
agree_by replayed.Ran h given done more e = (more, e)
agree_by (replayed.Illegal n) h given done more e = (more, e)
agree_by replayed.BudgetSpent h given done more e = (more, e)
agree_by replayed.NoMemory h given done more e = (more, e)
agree_by (replayed.Differs n) h given done more e = absurd h

-- where the letters after those of before are none, whatever comes
pub agrees_here : (answer : Replayed) → NoneDiffers answer → (given : Option (List Letter)) (before : List Letter) → LettersAgree given before before (Some answer)
agrees_here answer h None before = λ more. h
agrees_here answer h (Some given) before = λ more. agree_by answer h (before ++ given ++ more) before (given ++ more) (append_assoc before given more)

-- what stops before an entry, or after all entries, is no letter
pub stops_by : (m : MachineModel) (p budget spent number : ℕ) (answer : Replayed) → StopsBefore m p budget spent number (Some answer) → NoneDiffers answer
stops_by m p budget spent number replayed.Ended s = tt
stops_by m p budget spent number replayed.Ran s = tt
stops_by m p budget spent number (replayed.Illegal n) s = tt
stops_by m p budget spent number replayed.BudgetSpent s = tt
stops_by m p budget spent number replayed.NoMemory s = tt
stops_by m p budget spent number (replayed.Differs n) s = absurd s

-- nor is what ends a replay within an entry
pub within_by : (o : Option Done) (answer : Replayed) → within_entry o ≡ Some answer → NoneDiffers answer
within_by o replayed.Ended e = tt
within_by o replayed.Ran e = tt
within_by o (replayed.Illegal n) e = tt
within_by o replayed.BudgetSpent e = tt
within_by o replayed.NoMemory e = tt
within_by None (replayed.Differs n) e = cc
within_by (Some dones.StackLimit) (replayed.Differs n) e = cc
within_by (Some dones.NoMemory) (replayed.Differs n) e = cc
within_by (Some (dones.Interrupt kind)) (replayed.Differs n) e = cc
within_by (Some dones.Went) (replayed.Differs n) e = cc
within_by (Some dones.Waits) (replayed.Differs n) e = cc
within_by (Some dones.Ended) (replayed.Differs n) e = cc
within_by (Some (dones.Fault kind)) (replayed.Differs n) e = cc

pub ends_by : (m : MachineModel) (budget spent : ℕ) (answer : Replayed) → EndsAfter m budget spent answer → NoneDiffers answer
ends_by m budget spent replayed.Ended s = tt
ends_by m budget spent replayed.Ran s = tt
ends_by m budget spent (replayed.Illegal n) s = tt
ends_by m budget spent replayed.BudgetSpent s = tt
ends_by m budget spent replayed.NoMemory s = tt
ends_by m budget spent (replayed.Differs n) s = absurd s

-- ---- entries that are performed at once: one only, where its letter is given

none_of : (ls : List Letter) → length ls ≤ 0 → ls ≡ []
none_of [] h = refl
none_of (l ∷ ls) h = absurd (omega (arith, h))

-- the letters of so many entries before the last one, where one is performed at once
none_before : (firsts : List Letter) (n most : ℕ) → most ≡ 1 → n < most → length firsts ≡ n → firsts ≡ []
none_before firsts n most one less size = none_of firsts (omega (arith, one, less, size))

-- the replay ends within the last of them
pub agrees_within : (answer : Replayed) → NoneDiffers answer → (given : Option (List Letter)) (before firsts : List Letter) (n most : ℕ) → IfSome given (λ ls. most ≡ 1) → n < most
    → length firsts ≡ n → LettersAgree given before (before ++ firsts) (Some answer)
agrees_within answer h None before firsts n most one less size = λ more. h
agrees_within answer h (Some given) before firsts n most one less size =
    subst (λ (ls : List Letter). LettersAgree (Some given) before ls (Some answer))
    (sym (append-nil before) ∙ ap (λ (ls : List Letter). before ++ ls) (sym (none_before firsts n most one less size)))
    (agrees_here answer h (Some given) before)

one_only : (before firsts : List Letter) (l : Letter) → firsts ≡ [] → (before ++ firsts) ++ l ∷ [] ≡ before ++ l ∷ []
one_only before firsts l e = ap (λ (ls : List Letter). ls ++ l ∷ []) (ap (λ (ls : List Letter). before ++ ls) e ∙ append-nil before)

-- what a test of a letter has told
pub compares : (given : Option (List Letter)) (found : Letter) (test answer : Bool) → test ≡ answer → Compares given found test → Compares given found answer
compares given found test answer e h = subst (Compares given found) e h

-- the letter is the given one
first_is : (given : List Letter) (l : Letter) → slice_get given 0 ≡ Some l → take 1 given ≡ l ∷ []
first_is [] l e = cc
first_is (g ∷ given) l e = ap (λ (o : Option Letter). letter_or o g ∷ []) e
  where
    letter_or : Option Letter → Letter → Letter
    letter_or None k = k
    letter_or (Some j) k = j

-- all of them are performed, and the letter of the only one is not another than the given one
pub goes_on_as : (given : Option (List Letter)) (before firsts : List Letter) (l found : Letter) (n most : ℕ) → IfSome given (λ ls. most ≡ 1) → n < most → length firsts ≡ n
    → (n ≡ 0 → found ≡ l) → Compares given found false → GoOnAs (first_of (n + 1) given) before ((before ++ firsts) ++ l ∷ [])
goes_on_as None before firsts l found n most one less size here same = tt
goes_on_as (Some given) before firsts l found n most one less size here same =
    let none : n ≡ 0 = omega (arith, one, less) in
    one_only before firsts l (none_before firsts n most one less size)
    ∙ ap (λ (ls : List Letter). before ++ ls)
    (sym (ap (λ (k : ℕ). take (k + 1) given) none ∙ first_is given l (same ∙ ap (λ (k : Letter). Some k) (here none))))

-- the letter is another
other_is : (given : List Letter) (l : Letter) → 1 ≤ length given → slice_get given 0 ≢ Some l → (there : Letter) × (more : List Letter) × (given ≡ there ∷ more) × (l ≢ there)
other_is [] l some h = absurd (omega (arith, some))
other_is (g ∷ given) l some h = (g, given, refl, λ (e : l ≡ g). h (ap (λ (k : Letter). Some k) (sym e)))

-- the letter of the only one is another than the given one
pub differs_as : (given : Option (List Letter)) (before firsts : List Letter) (l found : Letter) (n most number : ℕ) → IfSome given (λ ls. most ≡ 1) → IfSome given (λ ls. 1 ≤ length ls)
    → n < most → length firsts ≡ n → (n ≡ 0 → found ≡ l) → Compares given found true → number ≡ length ((before ++ firsts) ++ l ∷ [])
    → LettersAgree given before ((before ++ firsts) ++ l ∷ []) (Some (replayed.Differs number))
differs_as None before firsts l found n most number one some less size here other count = cc
differs_as (Some given) before firsts l found n most number one some less size here other count = λ more.
    let none : n ≡ 0 = omega (arith, one, less) in
    let k = other_is given l some (subst (λ (x : Letter). slice_get given 0 ≢ Some x) (here none) other) in
    record {
      front = before;
      here = l;
      there = k.0;
      more = k.1 ++ more;
      done_is = one_only before firsts l (none_before firsts n most one less size);
      given_is = ap (λ (ls : List Letter). before ++ ls ++ more) k.2 ∙ append_assoc before (k.0 ∷ k.1) more;
      apart = k.3;
      number_is = count;
    }

-- ---- one part of the given letters after another

-- some of them and the rest are all
parted : (before given : List Letter) (n : ℕ) → before ++ take n given ++ drop n given ≡ before ++ given
parted before given n = append_assoc before (take n given) (drop n given) ∙ ap (λ (ls : List Letter). before ++ ls) (take-append-drop n given)

-- after the first of them, the rest
pub agrees_after : (given : Option (List Letter)) (n : ℕ) (before mid noted : List Letter) (answer : Replayed) → GoOnAs (first_of n given) before mid
    → LettersAgree (rest_of n given) mid noted (Some answer) → LettersAgree given before noted (Some answer)
agrees_after None n before mid noted answer e h = h
agrees_after (Some given) n before mid noted answer e h = λ more.
    subst (λ (ls : List Letter). AgreeAs answer (Some ls) noted)
    (ap (λ (ls : List Letter). ls ++ drop n given ++ more) e ∙ ap (λ (ls : List Letter). ls ++ more) (parted before given n))
    (h more)

take_two : (xs : List Letter) (i j : ℕ) → take (i + j) xs ≡ take i xs ++ take j (drop i xs)
take_two xs i j =
    sym (take-append-drop i (take (i + j) xs))
    ∙ ap (λ (ls : List Letter). ls ++ drop i (take (i + j) xs)) (take-take i (i + j) xs (omega arith))
    ∙ ap (λ (ls : List Letter). take i xs ++ ls) (drop-take i j xs)

pub goes_after : (given : Option (List Letter)) (n m : ℕ) (before mid noted : List Letter) → GoOnAs (first_of n given) before mid → GoOnAs (first_of m (rest_of n given)) mid noted
    → GoOnAs (first_of (n + m) given) before noted
goes_after None n m before mid noted e f = tt
goes_after (Some given) n m before mid noted e f =
    f ∙ ap (λ (ls : List Letter). ls ++ take m (drop n given)) e ∙ append_assoc before (take n given) (take m (drop n given))
    ∙ ap (λ (ls : List Letter). before ++ ls) (sym (take_two given n m))

-- what ends a replay within the first of them ends it
pub agrees_first : (given : Option (List Letter)) (n : ℕ) (before noted : List Letter) (answer : Replayed) → LettersAgree (first_of n given) before noted (Some answer)
    → LettersAgree given before noted (Some answer)
agrees_first None n before noted answer h = h
agrees_first (Some given) n before noted answer h = λ more.
    subst (λ (ls : List Letter). AgreeAs answer (Some ls) noted)
    (sym (append_assoc (before ++ take n given) (drop n given) more) ∙ ap (λ (ls : List Letter). ls ++ more) (parted before given n))
    (h (drop n given ++ more))

-- those after some, and after some more
pub rest_after : (given : Option (List Letter)) (n m : ℕ) → rest_of m (rest_of n given) ≡ rest_of (n + m) given
rest_after None n m = refl
rest_after (Some given) n m = ap (λ (ls : List Letter). Some ls) (drop-drop m n given)

pub rest_of_all : (given : Option (List Letter)) → given ≡ rest_of 0 given
rest_of_all None = refl
rest_of_all (Some given) = refl

-- as many are left as are not performed
pub rest_long : (given : Option (List Letter)) (n all : ℕ) → IfSome given (λ ls. length ls ≡ all) → IfSome (rest_of n given) (λ ls. length ls ≡ all - n)
rest_long None n all h = tt
rest_long (Some given) n all h = omega (arith, h, length-drop n given)

pub first_long : (given : Option (List Letter)) (n all : ℕ) → n ≤ all → IfSome given (λ ls. length ls ≡ all) → IfSome (first_of n given) (λ ls. length ls ≡ n)
first_long None n all few h = tt
first_long (Some given) n all few h = length-take-le n given (omega (arith, few, h))

pub some_long : (given : Option (List Letter)) (n all : ℕ) → n ≤ all → IfSome given (λ ls. length ls ≡ all) → IfSome given (λ ls. n ≤ length ls)
some_long None n all few h = tt
some_long (Some given) n all few h = omega (arith, few, h)

-- the letters of a part of what is left
pub theirs_long : (given left theirs : Option (List Letter)) (n times all : ℕ) → left ≡ rest_of n given → n + times ≤ all → IfSome given (λ ls. length ls ≡ all) → theirs ≡ first_of times left
    → IfSome theirs (λ ls. length ls ≡ times)
theirs_long given left theirs n times all e few long f =
    subst (λ (o : Option (List Letter)). IfSome o (λ ls. length ls ≡ times)) (sym (f ∙ ap (first_of times) e))
    (first_long (rest_of n given) times (all - n) (omega (arith, few)) (rest_long given n all long))

-- ---- all of the given letters

-- none of them at first
pub goes_none : (given : Option (List Letter)) (before : List Letter) → GoOnAs (first_of 0 given) before before
goes_none None before = tt
goes_none (Some given) before = sym (append-nil before)

-- so many are all where no more are given
pub goes_whole : (given : Option (List Letter)) (n : ℕ) (before noted : List Letter) → IfSome given (λ ls. length ls ≡ n) → GoOnAs (first_of n given) before noted → GoOnAs given before noted
goes_whole None n before noted h e = tt
goes_whole (Some given) n before noted h e = e ∙ ap (λ (ls : List Letter). before ++ ls) (take_all n given (omega (arith, h)))

pub agrees_whole : (answer : Replayed) (given : Option (List Letter)) (noted : List Letter) → LettersAgree given [] noted (Some answer) → AgreeAs answer given noted
agrees_whole answer None noted h = h []
agrees_whole answer (Some given) noted h = subst (λ (ls : List Letter). AgreeAs answer (Some ls) noted) (append-nil given) (h [])

pub agrees_at_end : (answer : Replayed) → NoneDiffers answer → (given : Option (List Letter)) (n : ℕ) (noted : List Letter) → GoOnAs (first_of n given) [] noted → AgreeAs answer given noted
agrees_at_end answer h None n noted e = h
agrees_at_end answer h (Some given) n noted e =
    agree_by answer h given noted (drop n given) (sym (take-append-drop n given) ∙ ap (λ (ls : List Letter). ls ++ drop n given) (sym e))
