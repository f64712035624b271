-- Numbers of formats, phrases, and how far a line has come.
use Rattle.std.proofs.Common.{◌≡◌, ℕ, ◌+◌, ◌-◌, ◌*◌, ◌<◌, ◌≤◌, Bool, true, false, List, [], ◌∷◌, map, length, drop, get_or, Option, Some, None, refl, ap, sym, ◌∙◌, arith, nat_lt}
use Rattle.std.proofs.lemmas.List.Sums.{sum_by-cons}
use Rattle.std.specs.Prelude.{◌==◌, ◌&&◌, ◌||◌, if◌then◌else◌}
use Rattle.std.specs.List.{list_all}
use Rattle.algol_tree.specs.declared.tree.PhraseText.{PhraseText}
use Rattle.algol_tree.specs.declared.tree.PhraseText.TheVariants as texts
use Rattle.algol_tree.specs.Spelling.{is_digit, is_number, value_of, value_after}
use Rattle.algol_tree.specs.Phrases as rules'
use Rattle.b67_list.proofs.Lists.{drop_read_or}
use Rattle.algol_sites.specs.declared.line.Phrase.{Phrase}
use Rattle.algol_sites.specs.declared.line.Phrase.TheVariants as phrase
use Rattle.algol_sites.specs.Lining.{capped, line_number_in, phrase_seen, lettered, columns_seen, items_seen, is_none_seen, items_in, any_bad}

-- ---- phrases

abbrev letter_phrase : ℕ → ℕ → rules'.Phrase
letter_phrase letter w = if letter == 73 then rules'.item w else if letter == 88 then rules'.blanks w else rules'.no_phrase

chosen : (b c : Bool) (w : ℕ) →
    phrase_seen (if b then rules'.item w else if c then rules'.blanks w else rules'.no_phrase) ≡
    (if b then phrase.Item (capped w) else if c then phrase.Blanks (capped w) else phrase.NoPhrase)
chosen true c w = refl
chosen false true w = refl
chosen false false w = refl

seen_if : (b : Bool) (p q : rules'.Phrase) → phrase_seen (if b then p else q) ≡ (if b then phrase_seen p else phrase_seen q)
seen_if true p q = refl
seen_if false p q = refl

positive : (v : ℕ) → nat_lt 0 v ≡ nat_lt 0 (capped v)
positive v = grind arith

at_value : (letter v : ℕ) → phrase_seen (if nat_lt 0 v then letter_phrase letter v else rules'.no_phrase) ≡ lettered letter (capped v)
at_value letter v =
    seen_if (nat_lt 0 v) (letter_phrase letter v) rules'.no_phrase
    ∙ ap (λ p. if nat_lt 0 v then p else phrase.NoPhrase) (chosen (letter == 73) (letter == 88) v)
    ∙ ap (λ b. if b then (if letter == 73 then phrase.Item (capped v) else if letter == 88 then phrase.Blanks (capped v) else phrase.NoPhrase) else phrase.NoPhrase) (positive v)

abbrev lettered_by : ℕ → Option ℕ → Phrase
lettered_by letter None = phrase.NoPhrase
lettered_by letter (Some w) = lettered letter w

word_at : (letter v : ℕ) (b : Bool) →
    phrase_seen (if b && nat_lt 0 v then letter_phrase letter v else rules'.no_phrase) ≡ lettered_by letter (if b then Some (capped v) else None)
word_at letter v true = at_value letter v
word_at letter v false = refl

word_seen : (letter : ℕ) (digits : List ℕ) → phrase_seen (rules'.phrase_of (texts.Word (letter ∷ digits))) ≡ lettered_by letter (line_number_in digits)
word_seen letter digits = word_at letter (value_of digits) (is_number digits)

pub word_none : (word : List ℕ) (letter : ℕ) (digits : List ℕ) → word ≡ letter ∷ digits → None ≡ line_number_in digits →
    phrase.NoPhrase ≡ phrase_seen (rules'.phrase_of (texts.Word word))
word_none word letter digits e f =
    ap (lettered_by letter) f ∙ sym (word_seen letter digits) ∙ sym (ap (λ w. phrase_seen (rules'.phrase_of (texts.Word w))) e)

pub word_some : (word : List ℕ) (letter : ℕ) (digits : List ℕ) (w : ℕ) (p : Phrase) → word ≡ letter ∷ digits → Some w ≡ line_number_in digits → p ≡ lettered letter w →
    p ≡ phrase_seen (rules'.phrase_of (texts.Word word))
word_some word letter digits w p e f h =
    h ∙ ap (lettered_by letter) f ∙ sym (word_seen letter digits) ∙ sym (ap (λ w. phrase_seen (rules'.phrase_of (texts.Word w))) e)

pub ruleset lines = (word_none, word_some)

-- ---- one more digit

value_capped : (ds : List ℕ) (n m : ℕ) → capped n ≡ capped m → capped (value_after n ds) ≡ capped (value_after m ds)
value_capped [] n m h = h
value_capped (d ∷ ds) n m h = value_capped ds (n * 10 + (d - 48)) (m * 10 + (d - 48)) (omega arith)

told_digit : (b : Bool) (d x : ℕ) → Some d ≡ (if b then Some x else None) → (b ≡ true) × (d ≡ x)
told_digit true d x e = (refl, (cc))
told_digit false d x e = cc

pub digits_step : (ds : List ℕ) (i n d m : ℕ) → i < length ds → Some d ≡ (if is_digit (get_or ds i 0) then Some (get_or ds i 0 - 48) else None) →
    m ≡ capped (capped (n * 10) + d) →
    (list_all is_digit (drop (i + 1) ds) ≡ list_all is_digit (drop i ds)) × (capped (value_after m (drop (i + 1) ds)) ≡ capped (value_after n (drop i ds)))
digits_step ds i n d m h e q =
    let told = told_digit (is_digit (get_or ds i 0)) d (get_or ds i 0 - 48) e in
    let same : d ≡ get_or ds i 0 - 48 = told.1 in (
      sym (ap (λ b. b && list_all is_digit (drop (i + 1) ds)) told.0) ∙ sym (ap (list_all is_digit) (drop_read_or ds i 0 h)),
      value_capped (drop (i + 1) ds) m (n * 10 + (get_or ds i 0 - 48)) (omega arith) ∙ sym (ap (λ xs. capped (value_after n xs)) (drop_read_or ds i 0 h)),
    )

-- ---- one more phrase

seen_items : (q : rules'.Phrase) → items_in q ≡ items_seen (phrase_seen q)
seen_items (rules'.text w) = refl
seen_items (rules'.blanks w) = refl
seen_items (rules'.item w) = refl
seen_items rules'.no_phrase = refl

seen_columns : (q : rules'.Phrase) → capped (rules'.columns q) ≡ columns_seen (phrase_seen q)
seen_columns (rules'.text w) = refl
seen_columns (rules'.blanks w) = refl
seen_columns (rules'.item w) = refl
seen_columns rules'.no_phrase = omega arith

seen_none : (q : rules'.Phrase) → rules'.is_no_phrase q ≡ is_none_seen (phrase_seen q)
seen_none (rules'.text w) = refl
seen_none (rules'.blanks w) = refl
seen_none (rules'.item w) = refl
seen_none rules'.no_phrase = refl

few_items : (p : Phrase) → items_seen p ≤ 1
few_items (phrase.Text w) = omega arith
few_items (phrase.Blanks w) = omega arith
few_items (phrase.Item w) = omega arith
few_items phrase.NoPhrase = omega arith

pub record Step (ps : List PhraseText) (i : ℕ) (p : Phrase) : Type 0 where
  pub bad : any_bad (drop i ps) ≡ (is_none_seen p || any_bad (drop (i + 1) ps))
  pub items : rules'.items_of (drop i ps) ≡ items_seen p + rules'.items_of (drop (i + 1) ps)
  pub few : items_seen p ≤ 1
  pub columns : capped (rules'.columns_of (drop i ps)) ≡ capped (columns_seen p + rules'.columns_of (drop (i + 1) ps))

pub phrases_step : (ps : List PhraseText) (i : ℕ) (t : PhraseText) (p : Phrase) → i < length ps → t ≡ get_or ps i t → p ≡ phrase_seen (rules'.phrase_of t) → Step ps i p
phrases_step ps i t p h e q =
    let parts : drop i ps ≡ t ∷ drop (i + 1) ps = drop_read_or ps i t h ∙ ap (λ x. x ∷ drop (i + 1) ps) (sym e) in
    let wide : capped (rules'.columns (rules'.phrase_of t)) ≡ columns_seen p = seen_columns (rules'.phrase_of t) ∙ ap columns_seen (sym q) in
    record {
      bad = ap any_bad parts ∙ ap (λ b. b || any_bad (drop (i + 1) ps)) (seen_none (rules'.phrase_of t) ∙ ap is_none_seen (sym q));
      items = ap rules'.items_of parts ∙ sum_by-cons (λ (x : ℕ). x) (items_in (rules'.phrase_of t)) (map (λ (p : PhraseText). items_in (rules'.phrase_of p)) (drop (i + 1) ps)) ∙ ap (λ n. n + rules'.items_of (drop (i + 1) ps)) (seen_items (rules'.phrase_of t) ∙ ap items_seen (sym q));
      few = few_items p;
      columns = ap (λ xs. capped (rules'.columns_of xs)) parts
          ∙ ap capped (sum_by-cons (λ (x : ℕ). x) (rules'.columns (rules'.phrase_of t)) (map (λ (p : PhraseText). rules'.columns (rules'.phrase_of p)) (drop (i + 1) ps)))
          ∙ added (rules'.columns (rules'.phrase_of t)) (columns_seen p) (rules'.columns_of (drop (i + 1) ps)) wide;
    }
  where
    added : (n m k : ℕ) → capped n ≡ m → capped (n + k) ≡ capped (m + k)
    added n m k h = omega arith

pub or_on : (b c d x : Bool) → d ≡ (c || x) → ((b || c) || x) ≡ (b || d)
or_on true c d x e = refl
or_on false c d x e = sym e

pub columns_on : (n w m k l : ℕ) → m ≡ capped (n + w) → capped l ≡ capped (w + k) → capped (m + k) ≡ capped (n + l)
columns_on n w m k l e f = omega arith
