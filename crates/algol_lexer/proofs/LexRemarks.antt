-- Words of a remark, and words in capitals.
use Rattle.std.proofs.Common.{◌≡◌, ◌≢◌, ℕ, ◌+◌, ◌<◌, true, false, not, List, [], ◌∷◌, inl, inr, length, map, take, get_or, refl, sym, ◌∙◌, ap, subst, arith}
use Rattle.std.specs.Char.{to_ascii_uppercase, to_ascii_lowercase}
use Rattle.std.specs.Prelude.{None}
use Rattle.std.proofs.lemmas.Bool.Decides.{nat_tests}
use Rattle.std.proofs.lemmas.Str.Ascii.{lowercase-uppercase}
use Rattle.algol_tree.specs.declared.token.Reserved.{Reserved}
use Rattle.algol_tree.specs.declared.token.Reserved.TheVariants as reserved
use Rattle.algol_tree.specs.declared.token.Symbol.TheVariants as symbols
use Rattle.algol_tree.specs.declared.token.TokenKind.TheVariants as kinds
use Rattle.algol_tree.specs.Spelling.{is_letter, is_blank, written, name}
use Rattle.algol_tree.specs.Lexes.{Program, Comment, EndRemark, Piece, capitals, token_of, word_front, remark_front, TokenStands, blank, percent, closing, commented, semicolon, period, passed}
use Rattle.algol_lexer.proofs.LexWords.{reserved_or_not}
use Rattle.algol_lexer.proofs.LexStands.{Run, spells_word, remarked_at}

-- capitals of small letters, and small letters of capitals
uppercase_lowercase : (b : ℕ) → to_ascii_uppercase (to_ascii_lowercase b) ≡ to_ascii_uppercase b
uppercase_lowercase b = grind (arith, nat_tests)

capitals_small : (bytes : List ℕ) → capitals (map to_ascii_lowercase bytes) ≡ capitals bytes
capitals_small [] = refl
capitals_small (b ∷ bytes) = let here = uppercase_lowercase b in let there = capitals_small bytes in cc

small_capitals : (bytes : List ℕ) → map to_ascii_lowercase (capitals bytes) ≡ map to_ascii_lowercase bytes
small_capitals [] = refl
small_capitals (b ∷ bytes) = let here = lowercase-uppercase b in let there = small_capitals bytes in cc

pub capitals_from : (bytes word : List ℕ) → capitals word ≡ word → map to_ascii_lowercase bytes ≡ map to_ascii_lowercase word → capitals bytes ≡ word
capitals_from bytes word same e = sym (capitals_small bytes) ∙ ap capitals e ∙ capitals_small word ∙ same

pub small_from : (bytes word : List ℕ) → capitals bytes ≡ word → map to_ascii_lowercase bytes ≡ map to_ascii_lowercase word
small_from bytes word e = sym (small_capitals bytes) ∙ ap (map to_ascii_lowercase) e

-- a word that ends a remark
pub ending_at : (text : List ℕ) (n : ℕ) (w : Reserved) → Run text n → capitals (take n text) ≡ written w → remark_front (kinds.Word w) n ≡ word_front w n → TokenStands EndRemark text (word_front w n)
ending_at text n w run e same = subst (TokenStands EndRemark text) same (remarked_at text n (kinds.Word w) run.within (spells_word (capitals (take n text)) w e) run.longest run.shape)

-- a word that is part of one
part_word : (w : Reserved) (n : ℕ) → (w ≡ reserved.End → ⊥) → (w ≡ reserved.Else → ⊥) → (w ≡ reserved.Until → ⊥) → remark_front (kinds.Word w) n ≡ Piece n None EndRemark
part_word w n = elim w as (λ v. (v ≡ reserved.End → ⊥) → (v ≡ reserved.Else → ⊥) → (v ≡ reserved.Until → ⊥) → remark_front (kinds.Word v) n ≡ Piece n None EndRemark) [ reserved.End ↦ λ a b c. absurd (a refl) | reserved.Else ↦ λ a b c. absurd (b refl) | reserved.Until ↦ λ a b c. absurd (c refl) | _ ↦ λ a b c. refl ]

part_reserved : (text : List ℕ) (n : ℕ) → Run text n → (w : Reserved) → capitals (take n text) ≡ written w → (capitals (take n text) ≡ written reserved.End → ⊥) → (capitals (take n text) ≡ written reserved.Else → ⊥) → (capitals (take n text) ≡ written reserved.Until → ⊥) → TokenStands EndRemark text (Piece n None EndRemark)
part_reserved text n run w e a b c =
    let same = part_word w n (λ q. a (e ∙ ap written q)) (λ q. b (e ∙ ap written q)) (λ q. c (e ∙ ap written q)) in
    subst (TokenStands EndRemark text) same (remarked_at text n (kinds.Word w) run.within (spells_word (capitals (take n text)) w e) run.longest run.shape)

pub part_at : (text : List ℕ) (n : ℕ) → Run text n → (capitals (take n text) ≡ written reserved.End → ⊥) → (capitals (take n text) ≡ written reserved.Else → ⊥) → (capitals (take n text) ≡ written reserved.Until → ⊥) → TokenStands EndRemark text (Piece n None EndRemark)
part_at text n run a b c =
    let bytes : List ℕ = capitals (take n text) in
    elim (reserved_or_not bytes) [ inl r ↦ part_reserved text n run r.0 r.1 a b c | inr other ↦ remarked_at text n (kinds.Name bytes) run.within (name bytes run.shape other) run.longest run.shape ]

-- one byte
pub semicolon_at : (text : List ℕ) → 0 < length text → get_or text 0 0 ≡ 59 → TokenStands EndRemark text (token_of (kinds.Symbol symbols.Semicolon) 1)
semicolon_at [] some e = absurd (omega arith)
semicolon_at (b ∷ text) some e = subst (λ (n : ℕ). TokenStands EndRemark (n ∷ text) (token_of (kinds.Symbol symbols.Semicolon) 1)) (sym e) (semicolon text)

pub period_at : (text : List ℕ) → 0 < length text → get_or text 0 0 ≡ 46 → TokenStands EndRemark text (token_of (kinds.Symbol symbols.Period) 1)
period_at [] some e = absurd (omega arith)
period_at (b ∷ text) some e = subst (λ (n : ℕ). TokenStands EndRemark (n ∷ text) (token_of (kinds.Symbol symbols.Period) 1)) (sym e) (period text)

pub passed_at : (text : List ℕ) → 0 < length text → is_letter (to_ascii_uppercase (get_or text 0 0)) ≡ false → get_or text 0 0 ≢ 59 → get_or text 0 0 ≢ 46 → TokenStands EndRemark text (Piece 1 None EndRemark)
passed_at [] some h i j = absurd (omega arith)
passed_at (b ∷ text) some h i j = passed b text (ap not h) i j

pub closing_at : (text : List ℕ) → 0 < length text → get_or text 0 0 ≡ 59 → TokenStands Comment text (Piece 1 None Program)
closing_at [] some e = absurd (omega arith)
closing_at (b ∷ text) some e = subst (λ (n : ℕ). TokenStands Comment (n ∷ text) (Piece 1 None Program)) (sym e) (closing text)

pub commented_at : (text : List ℕ) → 0 < length text → get_or text 0 0 ≢ 59 → TokenStands Comment text (Piece 1 None Comment)
commented_at [] some h = absurd (omega arith)
commented_at (b ∷ text) some h = commented b text h

pub blank_at : (text : List ℕ) → 0 < length text → is_blank (get_or text 0 0) ≡ true → TokenStands Program text (Piece 1 None Program)
blank_at [] some h = absurd (omega arith)
blank_at (b ∷ text) some h = blank b text h

pub percent_at : (text : List ℕ) → 0 < length text → get_or text 0 0 ≡ 37 → TokenStands Program text (Piece (length text) None Program)
percent_at [] some e = absurd (omega arith)
percent_at (b ∷ text) some e =
    let size : 1 + length text ≡ length (b ∷ text) = omega arith in
    subst (λ (n : ℕ). TokenStands Program (b ∷ text) (Piece n None Program)) size (subst (λ (n : ℕ). TokenStands Program (n ∷ text) (Piece (1 + length text) None Program)) (sym e) (percent text))
