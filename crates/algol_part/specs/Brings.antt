-- What the readers of lists have found out, beside the words for one thing that is due.
use Rattle.std.specs.Prelude.{◌≡◌, ◌≤◌, List, [], ◌∷◌, ◌++◌, length}
use Rattle.algol_tree.specs.Ended.{EndsOnce}
use Rattle.algol_tree.specs.declared.token.Token.{Token}
use Rattle.algol_tree.specs.declared.refusal.Refusal.{Refusal}
use Rattle.algol_tree.specs.Due.{Value, Due}
use Rattle.algol_tree.specs.Reading.{read}
use Rattle.algol_tree.specs.Found.{IsRest, ReaderRefuses}

-- All that is due in `from` is read from these tokens up to `rest`, and makes this value.
pub record Brings (from : List Due) (tokens : List Token) (v : Value) (rest : List Token) : Type 0 where
  pub run : (due : List Due) (vs : List Value) → read 0 tokens (from ++ due) vs ≡ read 0 rest due (v ∷ vs)
  pub behind : IsRest tokens rest

-- All that is due in `from` is read from these tokens up to `rest`, and changes whatever stands before it so.
pub record PartAdds {A : Type 0} (from : List Due) (all : A → Value) (tokens : List Token) (more : A → A) (rest : List Token) : Type 0 where
  pub run : (xs : A) (due : List Due) (vs : List Value) → read 0 tokens (from ++ due) (all xs ∷ vs) ≡ read 0 rest due (all (more xs) ∷ vs)
  pub behind : IsRest tokens rest

-- Reading it comes to this refusal, whatever stands before it.
abbrev pub AddsNone : {A : Type 0} → List Due → (A → Value) → List Token → Refusal → Type 0
AddsNone {A} from all tokens e = (xs : A) → ReaderRefuses from (all xs ∷ []) tokens e

-- What is due first may be left out, and makes no value: `rest` follows it.
pub record Skips (s : Due) (tokens rest : List Token) : Type 0 where
  pub run : (due : List Due) (vs : List Value) → read 0 tokens (s ∷ due) vs ≡ read 0 rest due vs
  pub ended : EndsOnce rest
  pub no_longer : length rest ≤ length tokens

-- What is due first goes on from these tokens at `rest`, where the value v stands in place of `left`.
pub record Repeats (s : Due) (tokens : List Token) (left v : Value) (rest : List Token) : Type 0 where
  pub run : (due : List Due) (vs : List Value) → read 0 tokens (s ∷ due) (left ∷ vs) ≡ read 0 rest (s ∷ due) (v ∷ vs)
  pub behind : IsRest tokens rest
