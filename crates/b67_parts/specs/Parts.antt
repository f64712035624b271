-- The two parts of an input: what stands before the first record that is exactly a mark, and what stands after it.
use Rattle.std.specs.Prelude.{◌≡◌, ◌≢◌, ◌⊎◌, ℕ, ◌<◌, ◌≤◌, slice_index, List, [], ◌∷◌, ◌++◌, length, Option, Some, None}

-- a record can begin after these bytes: they are none, or the last of them is an LF
abbrev pub AreRecords : List ℕ → Type 0
AreRecords bytes = (bytes ≡ []) ⊎ ((before : List ℕ) × (bytes ≡ before ++ 10 ∷ []))

-- a record ends where these bytes begin, and the text is after its end: an LF ends it, or a CR and an LF, or the end of the input
pub data Ends (bytes text : List ℕ) : Type 0 where
  by_line_feed : bytes ≡ 10 ∷ text → Ends bytes text
  by_return : bytes ≡ 13 ∷ 10 ∷ text → Ends bytes text
  by_end : bytes ≡ [] → text ≡ [] → Ends bytes text

-- the first record of these bytes is exactly the mark, and the text is all after it
pub record RecordBegins (mark bytes text : List ℕ) : Type 0 where
  pub rest : List ℕ
  pub are : bytes ≡ mark ++ rest
  pub ends : Ends rest text

-- after the source stands a record that is exactly the mark, and the text is all after it
pub record Divides (mark bytes source text : List ℕ) : Type 0 where
  pub rest : List ℕ
  pub are : bytes ≡ source ++ rest
  pub records : AreRecords source
  pub marked : RecordBegins mark rest text

-- no record is the mark
abbrev pub HasNone : List ℕ → List ℕ → Type 0
HasNone mark bytes = (source text : List ℕ) → Divides mark bytes source text → ⊥

-- no record that is the mark begins before so many bytes
abbrev pub HasNoneBefore : List ℕ → List ℕ → ℕ → Type 0
HasNoneBefore mark bytes count = (source text : List ℕ) → Divides mark bytes source text → count ≤ length source

-- The source is what stands before the first record that is exactly the mark, and the text is all after that. Without such
-- a record the source is the whole, and there is no text.
abbrev pub Parts : List ℕ → List ℕ → List ℕ → Option (List ℕ) → Type 0
Parts mark bytes source (Some text) = Divides mark bytes source text × HasNoneBefore mark bytes (length source)
Parts mark bytes source None = (source ≡ bytes) × HasNone mark bytes

-- the first LF stands after so many bytes
pub record IsFirstLineFeed (bytes : List ℕ) (place : ℕ) : Type 0 where
  pub within : place < length bytes
  pub is : slice_index bytes place ≡ 10
  pub none : (k : ℕ) → k < place → slice_index bytes k ≢ 10
