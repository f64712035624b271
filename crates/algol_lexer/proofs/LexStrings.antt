-- Strings: the quote that closes one, and that no other does.
use Rattle.std.proofs.Common.{◌≡◌, ℕ, ◌+◌, ◌<◌, Bool, true, false, not, cond, Some, None, List, [], ◌∷◌, ◌++◌, length, take, drop, get_or, refl, sym, ◌∙◌, ap, subst, arith, length-take-le}
use Rattle.std.specs.Prelude.{nat_lt, position}
use Rattle.std.specs.List.{list_all, position_or_len}
use Rattle.std.proofs.lemmas.Bool.{and_parts}
use Rattle.std.proofs.lemmas.Bool.Decides.{nat_tests}
use Rattle.std.proofs.lemmas.List.{take_all}
use Rattle.std.proofs.lemmas.List.Sums.{split_at_first, passes_at_first}
use Rattle.algol_tree.specs.declared.refusal.Code.TheVariants.{BadCharacter, OpenString}
use Rattle.algol_tree.specs.declared.token.TokenKind.TheVariants as kinds
use Rattle.algol_tree.specs.Lexes.{Program, Wrong, is_quote, is_printable, token_of, string_or, string_front, TokenStands, closed, unclosed}
use Rattle.b67_list.proofs.Numbers.{cond_none, ltb_false, ltb_true}
use Rattle.algol_lexer.proofs.LexFound.{list_all_take_while}

-- a position is the place of the first that passes, and there is none where none does
cond_some : (b : Bool) (n k : ℕ) → cond b (Some n) None ≡ Some k → (b ≡ true) × (n ≡ k)
cond_some true n k e = (refl, cc)
cond_some false n k e = absurd cc

pub first_is : (p : ℕ → Bool) (xs : List ℕ) (k : ℕ) → position p xs ≡ Some k → (position_or_len p xs < length xs) × (position_or_len p xs ≡ k)
first_is p xs k e =
    let n : ℕ = position_or_len p xs in
    let q = cond_some (nat_lt n (length xs)) n k e in
    (ltb_true n (length xs) q.0, q.1)

pub record Found (p : ℕ → Bool) (xs : List ℕ) (k : ℕ) : Type 0 where
  pub within : k < length xs
  pub split : xs ≡ take k xs ++ get_or xs k 0 ∷ drop (k + 1) xs
  pub passes : p (get_or xs k 0) ≡ true
  pub before : list_all (λ b. not (p b)) (take k xs) ≡ true

pub found_at : (p : ℕ → Bool) (xs : List ℕ) (k : ℕ) → position p xs ≡ Some k → Found p xs k
found_at p xs k e =
    let q = first_is p xs k e in
    subst (Found p xs) q.1 (record { within = q.0; split = split_at_first p xs 0 q.0; passes = passes_at_first p xs 0 q.0; before = list_all_take_while (λ b. not (p b)) xs })

-- where none passes, all of the list does not
pub none_passes : (p : ℕ → Bool) (xs : List ℕ) → position p xs ≡ None → list_all (λ b. not (p b)) xs ≡ true
none_passes p xs e =
    let n : ℕ = position_or_len p xs in
    let ge = ltb_false n (length xs) (cond_none (nat_lt n (length xs)) n e) in
    ap (list_all (λ b. not (p b))) (sym (take_all n xs ge)) ∙ list_all_take_while (λ b. not (p b)) xs

quote_is : (b : ℕ) → is_quote b ≡ true → b ≡ 34
quote_is b h = grind (arith, nat_tests)

-- a string that a quote closes, and one that none does
closed_from : (b : ℕ) (after : List ℕ) (k : ℕ) → b ≡ 34 → position is_quote after ≡ Some k → TokenStands Program (b ∷ after) (string_front (take k after))
closed_from b after k e h =
    let f = found_at is_quote after k h in
    let quote = quote_is (get_or after k 0) f.passes in
    let split : after ≡ take k after ++ 34 ∷ drop (k + 1) after = f.split ∙ ap (λ (n : ℕ). take k after ++ n ∷ drop (k + 1) after) quote in
    let here : TokenStands Program (34 ∷ (take k after ++ 34 ∷ drop (k + 1) after)) (string_front (take k after)) = closed (take k after) (drop (k + 1) after) f.before in
    subst (λ (n : ℕ). TokenStands Program (n ∷ after) (string_front (take k after))) (sym e) (subst (λ (l : List ℕ). TokenStands Program (34 ∷ l) (string_front (take k after))) (sym split) here)

pub closed_at : (text : List ℕ) (k : ℕ) → 0 < length text → get_or text 0 0 ≡ 34 → position is_quote (drop 1 text) ≡ Some k → TokenStands Program text (string_front (take k (drop 1 text)))
closed_at [] k some e h = absurd (omega arith)
closed_at (b ∷ after) k some e h = closed_from b after k e h

pub unclosed_at : (text : List ℕ) → 0 < length text → get_or text 0 0 ≡ 34 → position is_quote (drop 1 text) ≡ None → TokenStands Program text (Wrong 0 OpenString)
unclosed_at [] some e h = absurd (omega arith)
unclosed_at (b ∷ after) some e h = subst (λ (n : ℕ). TokenStands Program (n ∷ after) (Wrong 0 OpenString)) (sym e) (unclosed after (none_passes is_quote after h))

-- a string with a byte that is not printable, and one without
abbrev pub unprintable : ℕ → Bool
unprintable b = not (is_printable b)

pub bad_at : (text after : List ℕ) (k place : ℕ) → 0 < length text → get_or text 0 0 ≡ 34 → after ≡ drop 1 text → Some k ≡ position is_quote after → Some place ≡ position unprintable (take k after) → TokenStands Program text (Wrong (place + 1) BadCharacter)
bad_at text after k place some quote e h i =
    let here : TokenStands Program text (string_front (take k after)) = subst (λ (l : List ℕ). TokenStands Program text (string_front (take k l))) (sym e) (closed_at text k some quote (sym (h ∙ ap (position is_quote) e))) in
    subst (TokenStands Program text) (ap (string_or (take k after)) (sym i)) here

pub string_at : (text after : List ℕ) (k : ℕ) → 0 < length text → get_or text 0 0 ≡ 34 → after ≡ drop 1 text → Some k ≡ position is_quote after → None ≡ position unprintable (take k after) → TokenStands Program text (token_of (kinds.Text (take k after)) (k + 2))
string_at text after k some quote e h i =
    let here : TokenStands Program text (string_front (take k after)) = subst (λ (l : List ℕ). TokenStands Program text (string_front (take k l))) (sym e) (closed_at text k some quote (sym (h ∙ ap (position is_quote) e))) in
    let f = found_at is_quote after k (sym h) in
    let size : length (take k after) + 2 ≡ k + 2 = omega (arith, length-take-le k after, f.within) in
    subst (λ (n : ℕ). TokenStands Program text (token_of (kinds.Text (take k after)) n)) size (subst (TokenStands Program text) (ap (string_or (take k after)) (sym i)) here)

-- one list of bytes stands before the first quote
abbrev pub no_quote : ℕ → Bool
no_quote b = not (is_quote b)

quote_first : (b : ℕ) (bytes : List ℕ) → list_all no_quote (b ∷ bytes) ≡ true → 34 ≡ b → ⊥
quote_first b bytes h e =
    let here = (and_parts (no_quote b) (list_all no_quote bytes) h).0 in
    let same : no_quote 34 ≡ no_quote b = ap no_quote e in
    cc

pub same_inside : (xs ys a b : List ℕ) → list_all no_quote xs ≡ true → list_all no_quote ys ≡ true → xs ++ 34 ∷ a ≡ ys ++ 34 ∷ b → xs ≡ ys
same_inside [] [] a b h i e = refl
same_inside [] (y ∷ ys) a b h i e = let same : 34 ≡ y = cc in absurd (quote_first y ys i same)
same_inside (x ∷ xs) [] a b h i e = let same : 34 ≡ x = cc in absurd (quote_first x xs h same)
same_inside (x ∷ xs) (y ∷ ys) a b h i e =
    let p = and_parts (no_quote x) (list_all no_quote xs) h in
    let q = and_parts (no_quote y) (list_all no_quote ys) i in
    let heads : x ≡ y = cc in
    let tails : xs ++ 34 ∷ a ≡ ys ++ 34 ∷ b = cc in
    let rest = same_inside xs ys a b p.1 q.1 tails in
    cc

pub not_closed : (xs a : List ℕ) → list_all no_quote (xs ++ 34 ∷ a) ≡ true → ⊥
not_closed [] a h = quote_first 34 a h refl
not_closed (x ∷ xs) a h = not_closed xs a (and_parts (no_quote x) (list_all no_quote (xs ++ 34 ∷ a)) h).1
