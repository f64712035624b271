-- Records that are a mark.
use Rattle.std.proofs.Common.{◌≡◌, ◌≢◌, inl, inr, ℕ, ◌+◌, ◌-◌, ◌<◌, ◌≤◌, List, [], ◌∷◌, ◌++◌, length, take, drop, get_or, Option, Some, None, Bor, MatchOption, sym, ap, ◌∙◌, subst, arith}
use Rattle.std.proofs.lemmas.Bool.{cases_eq, cases_lt}
use Rattle.std.proofs.lemmas.List.{take_all, take_more, append_assoc, append_cancel_left, length-append, length-drop, length-take-le, take-append-drop, drop_at, get_or-drop}
use Rattle.std.proofs.Math.Seq.{get_or-append_seam}
use Rattle.b67_parts.specs.Parts.{AreRecords, Ends, RecordBegins, Divides, HasNone, HasNoneBefore, Parts, IsFirstLineFeed}

-- what stands after the end of the record that is the mark stands after the mark
pub behind_mark : (mark bytes rest : List ℕ) (r : Option (Bor (List ℕ))) → bytes ≡ mark ++ rest → MatchOption r ((text : List ℕ) → Ends rest text → ⊥) (λ text. Ends rest text.now) →
    MatchOption r ((text : List ℕ) → RecordBegins mark bytes text → ⊥) (λ text. RecordBegins mark bytes text.now)
behind_mark mark bytes rest None e none = λ text begins. none text (subst (λ bs. Ends bs text) (append_cancel_left mark begins.rest rest (sym begins.are ∙ e)) begins.ends)
behind_mark mark bytes rest (Some text) e ends = record { rest = rest; are = e; ends = ends }

-- a slice from a place on is what is left there
pub rest_at : (bytes : List ℕ) (from : ℕ) → take (length bytes - from) (drop from bytes) ≡ drop from bytes
rest_at bytes from = let left = length-drop from bytes in take_all (length bytes - from) (drop from bytes) (omega arith)

-- ---- the mark is looked for from a place on, where a record begins

-- the mark at the place is the first, where none begins before it
pub first_at : (mark bytes text : List ℕ) (from : ℕ) → from ≤ length bytes → AreRecords (take from bytes) → HasNoneBefore mark bytes from → RecordBegins mark (drop from bytes) text →
    Parts mark bytes (take from bytes) (Some text)
first_at mark bytes text from within records none marked =
    let divides : Divides mark bytes (take from bytes) text = record { rest = drop from bytes; are = sym (take-append-drop from bytes); records = records; marked = marked } in
    (divides, subst (λ n. HasNoneBefore mark bytes n) (sym (length-take-le from bytes within)) none)

-- a mark that begins at the place or after it begins after it, where none is at it
behind_place : (mark bytes source text : List ℕ) (from : ℕ) → ((text : List ℕ) → RecordBegins mark (drop from bytes) text → ⊥) → Divides mark bytes source text → from ≤ length source →
    from < length source
behind_place mark bytes source text from none divides reached =
    cases (λ (e : length source ≡ from).
    let rest : drop from bytes ≡ divides.rest = ap (λ bs. drop from bs) divides.are ∙ drop_at source divides.rest from e in
    none text (subst (λ bs. RecordBegins mark bs text) (sym rest) divides.marked))
  where
    cases : ((length source ≡ from) → ⊥) → from < length source
    cases other = elim (cases_eq (length source) from) [ inl e ↦ absurd (other e) | inr ne ↦ omega arith ]

-- an LF stands before each mark after the place
record FeedBefore (bytes source : List ℕ) (from : ℕ) : Type 0 where
  pub place : ℕ
  pub size : length source ≡ from + (place + 1)
  pub within : place < length (drop from bytes)
  pub is : get_or (drop from bytes) place 0 ≡ 10

feed_at : (bytes before rest : List ℕ) (from : ℕ) → bytes ≡ (before ++ 10 ∷ []) ++ rest → from ≤ length before → FeedBefore bytes (before ++ 10 ∷ []) from
feed_at bytes before rest from e reached =
    let place : ℕ = length before - from in
    let sum = length-append before (10 ∷ []) in
    let all : length bytes ≡ length ((before ++ 10 ∷ []) ++ rest) = ap length e in
    let whole = length-append (before ++ 10 ∷ []) rest in
    let dropped = length-drop from bytes in
    let back : from + place ≡ length before = omega arith in
    let at : get_or ((before ++ 10 ∷ []) ++ rest) (length before) 0 ≡ 10 =
    ap (λ bs. get_or bs (length before) 0) (append_assoc before (10 ∷ []) rest) ∙ get_or-append_seam before 10 rest 0 in
    record {
      place = place;
      size = omega arith;
      within = omega arith;
      is = get_or-drop from bytes place 0 ∙ ap (λ n. get_or bytes n 0) back ∙ ap (λ bs. get_or bs (length before) 0) e ∙ at;
    }

feed_before : (mark bytes source text : List ℕ) (from : ℕ) → Divides mark bytes source text → AreRecords source → from < length source → FeedBefore bytes source from
feed_before mark bytes source text from divides (inl none) more = let empty : length source ≡ 0 = ap length none in absurd (omega arith)
feed_before mark bytes source text from divides (inr (before, e)) more =
    let sum = length-append before (10 ∷ []) in
    let size : length source ≡ length (before ++ 10 ∷ []) = ap length e in
    subst (λ s. FeedBefore bytes s from) (sym e) (feed_at bytes before divides.rest from (divides.are ∙ ap (λ s. s ++ divides.rest) e) (omega arith))

-- no mark begins at the place
abbrev NoneAt : List ℕ → List ℕ → ℕ → Type 0
NoneAt mark bytes from = (text : List ℕ) → RecordBegins mark (drop from bytes) text → ⊥

feed_of : (mark bytes source text : List ℕ) (from : ℕ) → HasNoneBefore mark bytes from → NoneAt mark bytes from → Divides mark bytes source text → FeedBefore bytes source from
feed_of mark bytes source text from before none divides =
    feed_before mark bytes source text from divides divides.records (behind_place mark bytes source text from none divides (before source text divides))

-- there is no mark, where none is at the place and no LF after it
pub nowhere : (mark bytes : List ℕ) (from : ℕ) → HasNoneBefore mark bytes from → NoneAt mark bytes from →
    ((k : ℕ) → k < length (drop from bytes) → get_or (drop from bytes) k 0 ≢ 10) → HasNone mark bytes
nowhere mark bytes from before none no_feed = λ source text divides.
    let feed = feed_of mark bytes source text from before none divides in no_feed feed.place feed.within feed.is

-- no mark begins before the next record, where none is at the place
pub later : (mark bytes : List ℕ) (from place : ℕ) → HasNoneBefore mark bytes from → NoneAt mark bytes from → IsFirstLineFeed (drop from bytes) place →
    HasNoneBefore mark bytes (from + (place + 1))
later mark bytes from place before none first = λ source text divides.
    let feed = feed_of mark bytes source text from before none divides in
    let size = feed.size in
    let reached : place ≤ feed.place = elim (cases_lt feed.place place) [ inl less ↦ absurd (first.none feed.place less feed.is) | inr more ↦ more ] in
    omega arith

-- the next record begins after the LF
pub next_records : (bytes : List ℕ) (from place : ℕ) → from ≤ length bytes → IsFirstLineFeed (drop from bytes) place → (from + (place + 1) ≤ length bytes) × AreRecords (take (from + (place + 1)) bytes)
next_records bytes from place within first =
    let dropped = length-drop from bytes in
    let inside = first.within in
    let at : get_or bytes (from + place) 0 ≡ 10 = sym (get_or-drop from bytes place 0) ∙ first.is in
    let more : take (from + place + 1) bytes ≡ take (from + place) bytes ++ get_or bytes (from + place) 0 ∷ [] = take_more bytes (from + place) 0 (omega arith) in
    let sum : from + (place + 1) ≡ from + place + 1 = omega arith in
    (omega arith, inr (take (from + place) bytes, ap (λ n. take n bytes) sum ∙ more ∙ ap (λ b. take (from + place) bytes ++ b ∷ []) at))
