-- Which token the first bytes of a text are, if any.
use Rattle.std.proofs.Common.{◌≡◌, ◌⊎◌, inl, inr, ℕ, ◌<◌, Bool, true, false, cond, List, [], ◌∷◌, ◌++◌, length, pos, refl, sym, ◌∙◌, ap, subst, append-nil, append_assoc, arith}
use Rattle.std.specs.List.{list_all}
use Rattle.std.specs.Str.{bytes_eq}
use Rattle.std.proofs.lemmas.Bool.{and_parts}
use Rattle.std.proofs.lemmas.Slice.Eq.{bytes_eq-Decides}
use Rattle.algol_tree.specs.declared.token.Reserved.{Reserved}
use Rattle.algol_tree.specs.declared.token.Reserved.TheVariants as reserved
use Rattle.algol_tree.specs.declared.token.Symbol.{Symbol}
use Rattle.algol_tree.specs.declared.token.Symbol.TheVariants as symbols
use Rattle.algol_tree.specs.declared.token.TokenKind.{TokenKind}
use Rattle.algol_tree.specs.declared.token.TokenKind.TheVariants as kinds
use Rattle.algol_tree.specs.Spelling.{is_letter, is_digit, is_name, is_number, value_of, written, drawn, IsReserved, Spells, word, name, number, symbol}
use Rattle.algol_tree.specs.Lexes.{capitals, IsSpelled, IsLongest}
use Rattle.algol_lexer.proofs.LexSpelling.{is_name_written, letter_not_digit}

-- ---- which of some spellings the bytes are

module _ {A : Type 0} (spelling : A → List ℕ) where
  abbrev is_among : List A → List ℕ → Bool
  is_among [] bytes = false
  is_among (x ∷ xs) bytes = cond (bytes_eq (spelling x) bytes) true (is_among xs bytes)

  among : (xs : List A) (bytes : List ℕ) → is_among xs bytes ≡ true → (x : A) × (bytes ≡ spelling x)
  among [] bytes e = cc
  among (x ∷ xs) bytes e = by_test (bytes_eq (spelling x) bytes) refl e (λ e. among xs bytes e)
    where
      by_test : (b : Bool) → bytes_eq (spelling x) bytes ≡ b → cond b true (is_among xs bytes) ≡ true → (is_among xs bytes ≡ true → (x : A) × (bytes ≡ spelling x)) →
          (x : A) × (bytes ≡ spelling x)
      by_test true t e others = (x, sym ((bytes_eq-Decides (spelling x) bytes).0 t))
      by_test false t e others = others e

  by_spelling : (xs : List A) → ((x : A) → is_among xs (spelling x) ≡ true) → (bytes : List ℕ) → ((x : A) × (bytes ≡ spelling x)) ⊎ ((x : A) → bytes ≡ spelling x → ⊥)
  by_spelling xs all bytes = by_test (is_among xs bytes) refl
    where
      by_test : (b : Bool) → is_among xs bytes ≡ b → ((x : A) × (bytes ≡ spelling x)) ⊎ ((x : A) → bytes ≡ spelling x → ⊥)
      by_test true t = inl (among xs bytes t)
      by_test false t = inr (λ x e. let clash : true ≡ false = sym (all x) ∙ ap (is_among xs) (sym e) ∙ t in cc)

abbrev words : List Reserved
words = reserved.And ∷ reserved.Array ∷ reserved.Available ∷ reserved.Begin ∷ reserved.Boolean ∷ reserved.Case ∷ reserved.Cause ∷ reserved.CauseAndReset ∷ reserved.Comment ∷ reserved.Div ∷ reserved.Do ∷ reserved.Else ∷ reserved.End ∷ reserved.Eql ∷ reserved.Eqv ∷ reserved.Event ∷ reserved.False ∷ reserved.File ∷ reserved.Fix ∷ reserved.For ∷ reserved.Forward ∷ reserved.Geq ∷ reserved.Go ∷ reserved.Gtr ∷ reserved.Happened ∷ reserved.If ∷ reserved.Imp ∷ reserved.Integer ∷ reserved.Label ∷ reserved.Leq ∷ reserved.Liberate ∷ reserved.Lss ∷ reserved.Mod ∷ reserved.Neq ∷ reserved.Not ∷ reserved.Of ∷ reserved.Or ∷ reserved.Procedure ∷ reserved.Process ∷ reserved.Procure ∷ reserved.Real ∷ reserved.Reset ∷ reserved.Step ∷ reserved.Task ∷ reserved.Then ∷ reserved.Thru ∷ reserved.To ∷ reserved.True ∷ reserved.Until ∷ reserved.Value ∷ reserved.Wait ∷ reserved.While ∷ reserved.Write ∷ []

abbrev marks : List Symbol
marks = symbols.Plus ∷ symbols.Minus ∷ symbols.Times ∷ symbols.Over ∷ symbols.Becomes ∷ symbols.Semicolon ∷ symbols.Comma ∷ symbols.OpenRound ∷ symbols.CloseRound ∷ symbols.OpenSquare ∷ symbols.CloseSquare ∷ symbols.Colon ∷ symbols.Period ∷ symbols.Less ∷ symbols.Greater ∷ symbols.Equal ∷ symbols.LessOrEqual ∷ symbols.GreaterOrEqual ∷ symbols.NotEqual ∷ []

all_words : (w : Reserved) → is_among written words (written w) ≡ true
all_words w = elim w as (λ v. is_among written words (written v) ≡ true) [ reserved.And ↦ refl | _ ↦ refl ]

all_marks : (s : Symbol) → is_among drawn marks (drawn s) ≡ true
all_marks s = elim s as (λ v. is_among drawn marks (drawn v) ≡ true) [ symbols.Plus ↦ refl | _ ↦ refl ]

-- ---- what is spelled

-- what has the shape of a name is one, or a reserved word
pub name_spelled : (bytes : List ℕ) → is_name bytes ≡ true → (k : TokenKind) × Spells bytes k
name_spelled bytes h = by_word (by_spelling written words all_words bytes)
  where
    by_word : ((w : Reserved) × (bytes ≡ written w)) ⊎ ((w : Reserved) → bytes ≡ written w → ⊥) → (k : TokenKind) × Spells bytes k
    by_word (inl q) = (kinds.Word q.0, subst (λ (l : List ℕ). Spells l (kinds.Word q.0)) (sym q.1) (word q.0))
    by_word (inr other) = (kinds.Name bytes, name bytes h (λ (r : IsReserved bytes). other r.0 r.1))

no_other : {bytes : List ℕ} {k : TokenKind} → Spells bytes k → is_name bytes ≡ false → is_number bytes ≡ false → ((s : Symbol) → bytes ≡ drawn s → ⊥) → ⊥
no_other (word w) h i j = let clash : true ≡ false = sym (is_name_written w) ∙ h in cc
no_other (name bytes n r) h i j = let clash : true ≡ false = sym n ∙ h in cc
no_other (number bytes n) h i j = let clash : true ≡ false = sym n ∙ i in cc
no_other (symbol s) h i j = j s refl

pub data Spelled (bytes : List ℕ) : Type 0 where
  is_token : (k : TokenKind) → Spells bytes k → Spelled bytes
  is_none : ((k : TokenKind) → Spells bytes k → ⊥) → Spelled bytes

-- Bytes are a token or none.
pub spelled_or_none : (bytes : List ℕ) → Spelled bytes
spelled_or_none bytes = by_name (is_name bytes) refl
  where
    by_mark : is_name bytes ≡ false → is_number bytes ≡ false → ((s : Symbol) × (bytes ≡ drawn s)) ⊎ ((s : Symbol) → bytes ≡ drawn s → ⊥) → Spelled bytes
    by_mark h i (inl q) = is_token (kinds.Symbol q.0) (subst (λ (l : List ℕ). Spells l (kinds.Symbol q.0)) (sym q.1) (symbol q.0))
    by_mark h i (inr j) = is_none (λ k s. no_other s h i j)

    by_number : (b : Bool) → is_number bytes ≡ b → is_name bytes ≡ false → Spelled bytes
    by_number true i h = is_token (kinds.Number (pos (value_of bytes))) (number bytes i)
    by_number false i h = by_mark h i (by_spelling drawn marks all_marks bytes)

    by_name : (b : Bool) → is_name bytes ≡ b → Spelled bytes
    by_name true h = let q = name_spelled bytes h in is_token q.0 q.1
    by_name false h = by_number (is_number bytes) refl h

-- a token has a byte
pub spelled_some : {bytes : List ℕ} {k : TokenKind} → Spells bytes k → 0 < length bytes
spelled_some (word w) = elim w as (λ v. 0 < length (written v)) [ reserved.And ↦ omega arith | _ ↦ omega arith ]
spelled_some (name [] h r) = absurd cc
spelled_some (name (b ∷ bytes) h r) = omega arith
spelled_some (number [] h) = absurd cc
spelled_some (number (b ∷ bytes) h) = omega arith
spelled_some (symbol s) = elim s as (λ t. 0 < length (drawn t)) [ symbols.Plus ↦ omega arith | _ ↦ omega arith ]

-- what begins with a letter has the shape of a name
abbrev pub begins_with_letter : List ℕ → Bool
begins_with_letter [] = false
begins_with_letter (b ∷ bytes) = is_letter b

drawn_letter : (s : Symbol) → begins_with_letter (drawn s) ≡ false
drawn_letter s = elim s as (λ t. begins_with_letter (drawn t) ≡ false) [ symbols.Plus ↦ refl | _ ↦ refl ]

pub letter_name : {bytes : List ℕ} {k : TokenKind} → Spells bytes k → begins_with_letter bytes ≡ true → is_name bytes ≡ true
letter_name (word w) l = is_name_written w
letter_name (name bytes h r) l = h
letter_name (number [] h) l = cc
letter_name (number (b ∷ bytes) h) l = absurd (letter_not_digit b l (and_parts (is_digit b) (list_all is_digit bytes) h).0)
letter_name (symbol s) l = let clash : true ≡ false = sym l ∙ drawn_letter s in cc

-- ---- the longest token at the front

-- A token begins with `front` and goes on into `after`; with one byte more it would be none.
pub record Token (front after : List ℕ) : Type 0 where
  pub more : List ℕ
  pub rest : List ℕ
  pub kind : TokenKind
  pub is : after ≡ more ++ rest
  pub spelled : IsSpelled (front ++ more) kind
  pub longest : IsLongest (front ++ more) rest

-- None does.
abbrev pub NoToken : List ℕ → List ℕ → Type 0
NoToken front after = (more rest : List ℕ) (k : TokenKind) → after ≡ more ++ rest → IsSpelled (front ++ more) k → ⊥

-- tokens that are all of the front
this_token : (front : List ℕ) (k : TokenKind) → IsSpelled front k → IsSpelled (front ++ []) k
this_token front k s = subst (λ (l : List ℕ). IsSpelled l k) (sym (append-nil front)) s

token_here : (front : List ℕ) (k : TokenKind) → IsSpelled (front ++ []) k → IsSpelled front k
token_here front k s = subst (λ (l : List ℕ). IsSpelled l k) (append-nil front) s

pub longest_token : (front after : List ℕ) → Token front after ⊎ NoToken front after
longest_token front [] = at_end (spelled_or_none (capitals front))
  where
    only : ((k : TokenKind) → IsSpelled front k → ⊥) → NoToken front []
    only h [] rest k e s = h k (token_here front k s)
    only h (b ∷ more) rest k e s = absurd cc

    at_end : Spelled (capitals front) → Token front [] ⊎ NoToken front []
    at_end (is_token k s) = inl (record { more = []; rest = []; kind = k; is = refl; spelled = this_token front k s; longest = λ b more j e t. absurd cc })
    at_end (is_none h) = inr (only h)
longest_token front (b ∷ after) = by_longer (longest_token (front ++ b ∷ []) after)
  where
    same : (more : List ℕ) → (front ++ b ∷ []) ++ more ≡ front ++ b ∷ more
    same more = append_assoc front (b ∷ []) more

    none_longer : NoToken (front ++ b ∷ []) after → ((k : TokenKind) → IsSpelled front k → ⊥) → NoToken front (b ∷ after)
    none_longer n h [] rest k e s = h k (token_here front k s)
    none_longer n h (c ∷ more) rest k e s =
        let first : c ≡ b = cc in
        let tails : after ≡ more ++ rest = cc in
        n more rest k tails (subst (λ (l : List ℕ). IsSpelled l k) (ap (λ (x : ℕ). front ++ x ∷ more) first ∙ sym (same more)) s)

    no_next : NoToken (front ++ b ∷ []) after → (c : ℕ) (more : List ℕ) (k : TokenKind) → b ∷ after ≡ c ∷ more → IsSpelled ((front ++ []) ++ c ∷ []) k → ⊥
    no_next n c more k e s =
        let first : c ≡ b = cc in
        n [] after k refl (this_token (front ++ b ∷ []) k (subst (λ (l : List ℕ). IsSpelled l k) (ap (λ (l : List ℕ). l ++ c ∷ []) (append-nil front) ∙ ap (λ (x : ℕ). front ++ x ∷ []) first) s))

    by_here : NoToken (front ++ b ∷ []) after → Spelled (capitals front) → Token front (b ∷ after) ⊎ NoToken front (b ∷ after)
    by_here n (is_token k s) = inl (record { more = []; rest = b ∷ after; kind = k; is = refl; spelled = this_token front k s; longest = no_next n })
    by_here n (is_none h) = inr (none_longer n h)

    by_longer : Token (front ++ b ∷ []) after ⊎ NoToken (front ++ b ∷ []) after → Token front (b ∷ after) ⊎ NoToken front (b ∷ after)
    by_longer (inl t) = inl (record {
      more = b ∷ t.more;
      rest = t.rest;
      kind = t.kind;
      is = ap (λ (l : List ℕ). b ∷ l) t.is;
      spelled = subst (λ (l : List ℕ). IsSpelled l t.kind) (same t.more) t.spelled;
      longest = subst (λ (l : List ℕ). IsLongest l t.rest) (same t.more) t.longest;
    })
    by_longer (inr n) = by_here n (spelled_or_none (capitals front))
