-- Laws of reading what is due, whatever the grammar.
use Rattle.std.proofs.Common.{◌≡◌, ℕ, Bool, true, false, ◌&&◌, List, [], ◌∷◌, ◌++◌, refl, ap, ◌∙◌, append_assoc}
use Rattle.algol_tree.specs.declared.token.Token.{Token}
use Rattle.algol_tree.specs.declared.token.TokenKind.{TokenKind}
use Rattle.algol_tree.specs.declared.token.TokenKind.TheVariants as kinds
use Rattle.algol_tree.specs.declared.token.Spot.{Spot}
use Rattle.algol_tree.specs.Due.{Value, Due, Limit, Turn, takes, makes, skips, closes, refuses, followed, either}
use Rattle.algol_tree.specs.Reading.{reading_turn, Count, outside, full, limit_counted, Judged, limit_broken, broken_at, ReadingStep, goes, over, stops, unless, stepped, step, read_on, read_end, judged, unjudged, nowhere, reading, read}

-- what a step over the first part of what is due comes to, with what is due after it
abbrev pub joined : ReadingStep → List Due → (Count → List Value → ReadingStep) → ReadingStep
joined (goes c ds vs) b other = goes c (ds ++ b) vs
joined (over c vs) b other = other c vs
joined (stops spot code) b other = stops spot code

unless_append : (x : Bool) (spot : Spot) (s : ReadingStep) (b : List Due) (other : Count → List Value → ReadingStep) → unless x spot (joined s b other) ≡ joined (unless x spot s) b other
unless_append true spot s b other = refl
unless_append false spot s b other = refl

stepped_append : (j : Judged) (c : Count) (spot : Spot) (x : Turn) (a b : List Due) (vs : List Value) (here both other : Count → List Value → ReadingStep) →
    ((c : Count) (vs : List Value) → both c vs ≡ joined (here c vs) b other) →
    stepped j c spot x (a ++ b) vs both ≡ joined (stepped j c spot x a vs here) b other
stepped_append j c spot (takes l ds) a b vs here both other e = rw (← append_assoc)
    (ap (unless (full c && j.here) spot) (unless_append (limit_broken l j) (broken_at l spot) (goes (limit_counted l c) (ds ++ a) vs) b other)
    ∙ unless_append (full c && j.here) spot (unless (limit_broken l j) (broken_at l spot) (goes (limit_counted l c) (ds ++ a) vs)) b other)
stepped_append j c spot (makes m) a b vs here both other e = e c (m vs)
stepped_append j c spot skips a b vs here both other e = e c vs
stepped_append j c spot closes a b vs here both other e = e outside vs
stepped_append j c spot refuses a b vs here both other e = refl

-- what is due is stepped over one after the other
pub step_append : (j : Judged) (a b : List Due) (spot : Spot) (k : TokenKind) (c : Count) (vs : List Value) →
    step j (a ++ b) spot k c vs ≡ joined (step j a spot k c vs) b (step j b spot k)
step_append j [] b spot k c vs = refl
step_append j (s ∷ a) b spot k c vs =
    stepped_append j c spot (reading_turn s spot k) a b vs (step j a spot k) (step j (a ++ b) spot k) (step j b spot k) (λ c vs. step_append j a b spot k c vs)

-- it is never left out
pub data Takes : Turn → Type 0 where
  taken : (l : Limit) (ds : List Due) → Takes (takes l ds)
  refused_ : Takes refuses

pub followed_takes : (x : Turn) (more : List Due) → Takes x → Takes (followed x more)
followed_takes _ more (taken l ds) = taken l (ds ++ more)
followed_takes _ more refused_ = refused_

pub either_takes : (b : Bool) (x y : Turn) → Takes x → Takes y → Takes (either b x y)
either_takes true x y p q = p
either_takes false x y p q = q

-- a part that begins as another does, with more after it
stepped_followed : (j : Judged) (c : Count) (spot : Spot) (x : Turn) (more due : List Due) (vs : List Value) (here other : Count → List Value → ReadingStep) → Takes x →
    stepped j c spot (followed x more) due vs here ≡ stepped j c spot x (more ++ due) vs other
stepped_followed j c spot _ more due vs here other (taken l ds) =
    ap (λ ds. unless (full c && j.here) spot (unless (limit_broken l j) (broken_at l spot) (goes (limit_counted l c) ds vs))) (append_assoc ds more due)
stepped_followed j c spot _ more due vs here other refused_ = refl

-- where the next that is due is made of others, these may be read in its place
pub read_followed : (free : ℕ) (c : Count) (s other : Due) (more due : List Due) (ts : List Token) (vs : List Value) →
    ((spot : Spot) (k : TokenKind) → Takes (reading_turn other spot k)) →
    ((spot : Spot) (k : TokenKind) → reading_turn s spot k ≡ followed (reading_turn other spot k) more) →
    reading free ts c (s ∷ due) vs ≡ reading free ts c (other ∷ (more ++ due)) vs
unfolding reading
read_followed free c s other more due [] vs never is = ap read_end
    (ap (λ x. stepped unjudged c nowhere x due vs (step unjudged due nowhere kinds.End)) (is nowhere kinds.End)
    ∙ stepped_followed unjudged c nowhere (reading_turn other nowhere kinds.End) more due vs _ (step unjudged (more ++ due) nowhere kinds.End) (never nowhere kinds.End))
read_followed free c s other more due (t ∷ ts) vs never is = ap (λ x. read_on x t ts (reading free ts))
    (ap (λ x. stepped (judged free (t ∷ ts)) c t.spot x due vs (step (judged free (t ∷ ts)) due t.spot t.kind)) (is t.spot t.kind)
    ∙ stepped_followed (judged free (t ∷ ts)) c t.spot (reading_turn other t.spot t.kind) more due vs _ (step (judged free (t ∷ ts)) (more ++ due) t.spot t.kind) (never t.spot t.kind))

-- the same for a token at which it begins as the other does
pub read_at : (free : ℕ) (c : Count) (s other : Due) (more due : List Due) (t : Token) (ts : List Token) (vs : List Value) →
    Takes (reading_turn other t.spot t.kind) → reading_turn s t.spot t.kind ≡ followed (reading_turn other t.spot t.kind) more →
    reading free (t ∷ ts) c (s ∷ due) vs ≡ reading free (t ∷ ts) c (other ∷ (more ++ due)) vs
unfolding reading
read_at free c s other more due t ts vs never is = ap (λ x. read_on x t ts (reading free ts))
    (ap (λ x. stepped (judged free (t ∷ ts)) c t.spot x due vs (step (judged free (t ∷ ts)) due t.spot t.kind)) is
    ∙ stepped_followed (judged free (t ∷ ts)) c t.spot (reading_turn other t.spot t.kind) more due vs _ (step (judged free (t ∷ ts)) (more ++ due) t.spot t.kind) never)

-- What is due first is read from these tokens up to `rest`, and makes this value.
abbrev pub Leads : ℕ → Due → List Token → Value → List Token → Type 0
Leads free s from v rest = (due : List Due) (vs : List Value) → read free from (s ∷ due) vs ≡ read free rest due (v ∷ vs)
