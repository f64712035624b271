-- The bytes of letters.
use Rattle.std.specs.Prelude.{nat_eq, if◌then◌else◌}
use Rattle.std.proofs.Common.{◌≡◌, ℕ, ◌<◌, ◌≤◌, List, [], ◌∷◌, ◌++◌, length, refl, sym, ap, arith, ◌∙◌}
use Rattle.b67_deeds.specs.declared.Letter.{Letter}
use Rattle.b67_deeds.specs.declared.Letter.TheVariants.{Read, Index, ElementRead, Resolve, Store, ElementStore, Pass, Enter, Leave, MakeArrays, MakeEvent, Select, Turn, GoTo, Line, Start, End, Fault, Wait, Cause, Reset, Happened, Procure, Liberate, WaitAny, Woke, CauseAndReset, Available, Fix}
use Rattle.b67_deeds.specs.Letters.{byte_of}
use Rattle.b67_schedule.specs.Letters.{bytes_of}

-- the letter of a byte that is one's
letter_by : ℕ → Letter
letter_by n =
    if nat_eq n 82 then Read else
    if nat_eq n 73 then Index else
    if nat_eq n 81 then ElementRead else
    if nat_eq n 80 then Resolve else
    if nat_eq n 83 then Store else
    if nat_eq n 84 then ElementStore else
    if nat_eq n 65 then Pass else
    if nat_eq n 69 then Enter else
    if nat_eq n 76 then Leave else
    if nat_eq n 77 then MakeArrays else
    if nat_eq n 86 then MakeEvent else
    if nat_eq n 67 then Select else
    if nat_eq n 85 then Turn else
    if nat_eq n 71 then GoTo else
    if nat_eq n 87 then Line else
    if nat_eq n 66 then Start else
    if nat_eq n 88 then End else
    if nat_eq n 70 then Fault else
    if nat_eq n 119 then Wait else
    if nat_eq n 99 then Cause else
    if nat_eq n 114 then Reset else
    if nat_eq n 104 then Happened else
    if nat_eq n 112 then Procure else
    if nat_eq n 108 then Liberate else
    if nat_eq n 97 then WaitAny else
    if nat_eq n 107 then Woke else
    if nat_eq n 100 then CauseAndReset else
    if nat_eq n 118 then Available else
    Fix

by_byte : (letter : Letter) → letter_by (byte_of letter) ≡ letter
unfolding letter_by
by_byte Read = refl
by_byte Index = refl
by_byte ElementRead = refl
by_byte Resolve = refl
by_byte Store = refl
by_byte ElementStore = refl
by_byte Pass = refl
by_byte Enter = refl
by_byte Leave = refl
by_byte MakeArrays = refl
by_byte MakeEvent = refl
by_byte Select = refl
by_byte Turn = refl
by_byte GoTo = refl
by_byte Line = refl
by_byte Start = refl
by_byte End = refl
by_byte Fault = refl
by_byte Wait = refl
by_byte Cause = refl
by_byte Reset = refl
by_byte Happened = refl
by_byte Procure = refl
by_byte Liberate = refl
by_byte WaitAny = refl
by_byte Woke = refl
by_byte CauseAndReset = refl
by_byte Available = refl
by_byte Fix = refl

pub one_letter : (letter other : Letter) → byte_of letter ≡ byte_of other → letter ≡ other
one_letter letter other e = sym (by_byte letter) ∙ ap letter_by e ∙ by_byte other

-- no byte of a letter ends a line
pub no_end : (letter : Letter) → byte_of letter ≡ 10 → ⊥
no_end Read e = cc
no_end Index e = cc
no_end ElementRead e = cc
no_end Resolve e = cc
no_end Store e = cc
no_end ElementStore e = cc
no_end Pass e = cc
no_end Enter e = cc
no_end Leave e = cc
no_end MakeArrays e = cc
no_end MakeEvent e = cc
no_end Select e = cc
no_end Turn e = cc
no_end GoTo e = cc
no_end Line e = cc
no_end Start e = cc
no_end End e = cc
no_end Fault e = cc
no_end Wait e = cc
no_end Cause e = cc
no_end Reset e = cc
no_end Happened e = cc
no_end Procure e = cc
no_end Liberate e = cc
no_end WaitAny e = cc
no_end Woke e = cc
no_end CauseAndReset e = cc
no_end Available e = cc
no_end Fix e = cc

-- letters and the end of their line that begin one text are the same
pub record SameLetters (letters others : List Letter) (a b : List ℕ) : Type 0 where
  pub letters_are : letters ≡ others
  pub rests : a ≡ b

pub same_letters : (letters others : List Letter) (a b : List ℕ) → bytes_of letters ++ 10 ∷ a ≡ bytes_of others ++ 10 ∷ b → SameLetters letters others a b
same_letters [] [] a b e = record { letters_are = refl; rests = tails a b e }
  where
    tails : (xs ys : List ℕ) → 10 ∷ xs ≡ 10 ∷ ys → xs ≡ ys
    tails xs ys f = cc
same_letters [] (m ∷ others) a b e = absurd (no_end m (heads e))
  where
    heads : 10 ∷ a ≡ byte_of m ∷ (bytes_of others ++ 10 ∷ b) → byte_of m ≡ 10
    heads f = cc
same_letters (l ∷ letters) [] a b e = absurd (no_end l (heads e))
  where
    heads : byte_of l ∷ (bytes_of letters ++ 10 ∷ a) ≡ 10 ∷ b → byte_of l ≡ 10
    heads f = cc
same_letters (l ∷ letters) (m ∷ others) a b e =
    let first : byte_of l ≡ byte_of m = heads e in
    let more = same_letters letters others a b (tails e) in
    record { letters_are = ap (λ (x : Letter). x ∷ letters) (one_letter l m first) ∙ ap (λ (xs : List Letter). m ∷ xs) more.letters_are; rests = more.rests }
  where
    heads : byte_of l ∷ (bytes_of letters ++ 10 ∷ a) ≡ byte_of m ∷ (bytes_of others ++ 10 ∷ b) → byte_of l ≡ byte_of m
    heads f = cc

    tails : byte_of l ∷ (bytes_of letters ++ 10 ∷ a) ≡ byte_of m ∷ (bytes_of others ++ 10 ∷ b) → bytes_of letters ++ 10 ∷ a ≡ bytes_of others ++ 10 ∷ b
    tails f = cc

-- a line of letters that begins with the bytes of some and then this byte: it ends there, or the byte is one more letter's
pub data Ahead (letters front : List Letter) (byte : ℕ) : Type 0 where
  at_end : letters ≡ front → byte ≡ 10 → Ahead letters front byte
  goes_on : (more : Letter) → byte_of more ≡ byte → length front < length letters → Ahead letters front byte

pub ahead : (letters front : List Letter) (byte : ℕ) (rest : List ℕ) → bytes_of letters ++ 10 ∷ [] ≡ bytes_of front ++ byte ∷ rest → Ahead letters front byte
ahead [] [] byte rest e = at_end refl (heads e)
  where
    heads : 10 ∷ [] ≡ byte ∷ rest → byte ≡ 10
    heads f = cc
ahead [] (m ∷ front) byte rest e = absurd (no_end m (heads e))
  where
    heads : 10 ∷ [] ≡ byte_of m ∷ (bytes_of front ++ byte ∷ rest) → byte_of m ≡ 10
    heads f = cc
ahead (l ∷ letters) [] byte rest e = goes_on l (heads e) (omega arith)
  where
    heads : byte_of l ∷ (bytes_of letters ++ 10 ∷ []) ≡ byte ∷ rest → byte_of l ≡ byte
    heads f = cc
ahead (l ∷ letters) (m ∷ front) byte rest e = onward (ahead letters front byte rest (tails e))
  where
    heads : byte_of l ∷ (bytes_of letters ++ 10 ∷ []) ≡ byte_of m ∷ (bytes_of front ++ byte ∷ rest) → byte_of l ≡ byte_of m
    heads f = cc

    tails : byte_of l ∷ (bytes_of letters ++ 10 ∷ []) ≡ byte_of m ∷ (bytes_of front ++ byte ∷ rest) → bytes_of letters ++ 10 ∷ [] ≡ bytes_of front ++ byte ∷ rest
    tails f = cc

    onward : Ahead letters front byte → Ahead (l ∷ letters) (m ∷ front) byte
    onward (at_end same end) = at_end (ap (λ (x : Letter). x ∷ letters) (one_letter l m (heads e)) ∙ ap (λ (xs : List Letter). m ∷ xs) same) end
    onward (goes_on more is less) = goes_on more is (omega (arith, less))

-- the bytes of letters alone end no line
pub not_ended : (letters front : List Letter) → bytes_of front ≡ bytes_of letters ++ 10 ∷ [] → ⊥
not_ended [] [] e = cc
not_ended [] (m ∷ front) e = no_end m (heads e)
  where
    heads : byte_of m ∷ bytes_of front ≡ 10 ∷ [] → byte_of m ≡ 10
    heads f = cc
not_ended (l ∷ letters) [] e = cc
not_ended (l ∷ letters) (m ∷ front) e = not_ended letters front (tails e)
  where
    tails : byte_of m ∷ bytes_of front ≡ byte_of l ∷ (bytes_of letters ++ 10 ∷ []) → bytes_of front ≡ bytes_of letters ++ 10 ∷ []
    tails f = cc
