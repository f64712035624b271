-- What a reader has found out, whatever is due after what it was to read: the words of the readers' own contracts.
use Rattle.std.specs.Prelude.{◌≡◌, ◌<◌, ◌≤◌, ℕ, List, ◌∷◌, ◌++◌, length}
use Rattle.algol_tree.specs.declared.token.Spot.{Spot}
use Rattle.algol_tree.specs.declared.token.Token.{Token}
use Rattle.algol_tree.specs.declared.refusal.Code.{Code}
use Rattle.algol_tree.specs.declared.refusal.Refusal.{Refusal}
use Rattle.algol_tree.specs.declared.refusal.Refusal.TheVariants as refusals
use Rattle.algol_tree.specs.Ended.{EndsOnce}
use Rattle.algol_tree.specs.Due.{Value, Due}
use Rattle.algol_tree.specs.Reading.{read, refused}

-- `rest` is an end of these tokens that is shorter.
pub record IsRest (tokens rest : List Token) : Type 0 where
  pub ended : EndsOnce rest
  pub shorter : length rest < length tokens

-- What is due first is one token, and `rest` is what follows.
pub record TokenPasses (s : Due) (tokens rest : List Token) : Type 0 where
  pub run : (due : List Due) (vs : List Value) → read 0 tokens (s ∷ due) vs ≡ read 0 rest due vs
  pub behind : IsRest tokens rest

-- What is due first is read from these tokens up to `rest`, and makes this value.
pub record ReaderFinds (s : Due) (tokens : List Token) (v : Value) (rest : List Token) : Type 0 where
  pub run : (due : List Due) (vs : List Value) → read 0 tokens (s ∷ due) vs ≡ read 0 rest due (v ∷ vs)
  pub behind : IsRest tokens rest

-- The same for what may be left out, so that nothing may be read.
pub record Completes (s : Due) (tokens : List Token) (v : Value) (rest : List Token) : Type 0 where
  pub run : (due : List Due) (vs : List Value) → read 0 tokens (s ∷ due) vs ≡ read 0 rest due (v ∷ vs)
  pub ended : EndsOnce rest
  pub no_longer : length rest ≤ length tokens

-- The same where the value `left` stands before, which v takes in.
pub record Extends (s : Due) (tokens : List Token) (left v : Value) (rest : List Token) : Type 0 where
  pub run : (due : List Due) (vs : List Value) → read 0 tokens (s ∷ due) (left ∷ vs) ≡ read 0 rest due (v ∷ vs)
  pub ended : EndsOnce rest
  pub no_longer : length rest ≤ length tokens

-- Reading all that is due in `from`, with the value `left` before it, makes v of it.
pub record Lists (from : List Due) (tokens : List Token) (left v : Value) (rest : List Token) : Type 0 where
  pub run : (due : List Due) (vs : List Value) → read 0 tokens (from ++ due) (left ∷ vs) ≡ read 0 rest due (v ∷ vs)
  pub behind : IsRest tokens rest

-- Reading what is due, with these values before it, comes to this refusal where so many tokens are left, whatever is due after it.
pub record Fails (from : List Due) (us : List Value) (tokens : List Token) (left : ℕ) (e : Refusal) : Type 0 where
  pub run : (spot : Spot) (code : Code) → e ≡ refusals.At spot code → (due : List Due) (vs : List Value) →
      read 0 tokens (from ++ due) (us ++ vs) ≡ refused left spot code

-- The same, wherever it shows.
pub record ReaderRefuses (from : List Due) (us : List Value) (tokens : List Token) (e : Refusal) : Type 0 where
  pub left : ℕ
  pub fails : Fails from us tokens left e
