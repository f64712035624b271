-- The numbers among the tokens of a text are whole, the strings plain, and the names are no empty ones.
use Rattle.std.proofs.Common.{◌≡◌, ℕ, ◌<◌, nat_le, nat_lt, Bool, true, false, List, [], ◌∷◌, length, get_or, Option, Some, None, position, pos, unsigned_abs, refl, sym, subst, not, if◌then◌else◌, arith}
use Rattle.std.proofs.lemmas.Bool.{leb-true, ltb-false, not-true, not-false}
use Rattle.std.proofs.lemmas.List.Sums.{AllPass-from_list_all, prefix_len_passes}
use Rattle.std.specs.Prelude.{IsTrue}
use Rattle.std.specs.List.{AllByRecursion, list_all, position_or_len}
use Rattle.b67_num.specs.Whole.{most}
use Rattle.algol_tree.specs.declared.token.Reserved.{Reserved}
use Rattle.algol_tree.specs.declared.token.Reserved.TheVariants as reserved
use Rattle.algol_tree.specs.declared.token.Token.{Token}
use Rattle.algol_tree.specs.declared.token.TokenKind.{TokenKind}
use Rattle.algol_tree.specs.declared.token.TokenKind.TheVariants as kinds
use Rattle.algol_tree.specs.Lexes.{Mode, Front, Piece, Wrong, word_front, front_of, remark_word, remark_front, string_or, is_printable, is_quote, TokenStands, blank, percent, spelled, closed, unclosed, none, closing, commented, remarked, semicolon, period, passed, token_at, end_of_text, Gives, stays, piece, AreRead, all, next, Lexes}
use Rattle.algol_tree.specs.Records.{Record, records_of}
use Rattle.algol_tree.specs.Sorts.{same_name}
use Rattle.algol_tree.specs.Spelling as spelling
use Rattle.algol_tree.specs.Spelling.{Spells, value_of}
use Rattle.b67_templates.specs.Fitting.{IsPlainText}
use Rattle.b67_templates.specs.Fragments.{IsWholeNumber}
use Rattle.b67_list.proofs.Lists.{each_both}
use Rattle.b67_list.proofs.Numbers.{cond_none}

abbrev pub KindRight : TokenKind → Type 0
KindRight (kinds.Number value) = IsWholeNumber value
KindRight (kinds.Text bytes) = IsPlainText bytes
KindRight (kinds.Name bytes) = same_name bytes [] ≡ false
KindRight k = Unit {0}

abbrev pub TokenRight : Token → Type 0
TokenRight t = KindRight t.kind

abbrev pub AreRight : List Token → Type 0
AreRight ts = AllByRecursion TokenRight ts

-- so is what stands at a front, if that is a token
abbrev OptionRight : Option TokenKind → Type 0
OptionRight None = Unit {0}
OptionRight (Some k) = KindRight k

abbrev FrontRight : Front → Type 0
FrontRight (Piece size kind mode) = OptionRight kind
FrontRight (Wrong skipped code) = Unit {0}

word_right : (w : Reserved) (size : ℕ) → FrontRight (word_front w size)
word_right reserved.Comment size = tt
word_right reserved.End size = tt
word_right w size = tt

remark_right : (w : Reserved) (size : ℕ) → FrontRight (remark_word w size)
remark_right reserved.End size = tt
remark_right reserved.Else size = tt
remark_right reserved.Until size = tt
remark_right w size = tt

either_right : (b : Bool) (f g : Front) → (b ≡ true → FrontRight f) → FrontRight g → FrontRight (if b then f else g)
either_right true f g h k = h refl
either_right false f g h k = k

name_right : (bytes : List ℕ) → IsTrue (spelling.is_name bytes) → same_name bytes [] ≡ false
name_right [] h = absurd (let clash : false ≡ true = h in cc)
name_right (b ∷ bytes) h = refl

kind_right : {bytes : List ℕ} {k : TokenKind} (size : ℕ) → Spells bytes k → FrontRight (front_of k size)
kind_right size (spelling.word w) = word_right w size
kind_right size (spelling.name bytes n r) = either_right (nat_le (length bytes) _) _ _ (λ e. name_right bytes n) tt
kind_right size (spelling.number bytes n) =
    let value = pos (value_of bytes) in either_right (nat_le (unsigned_abs value) most) _ _ (λ e. leb-true (unsigned_abs value) most e) tt
kind_right size (spelling.symbol s) = tt

remark_front_right : (k : TokenKind) (size : ℕ) → FrontRight (remark_front k size)
remark_front_right (kinds.Word w) size = remark_right w size
remark_front_right (kinds.Name name) size = tt
remark_front_right (kinds.Number value) size = tt
remark_front_right (kinds.Text bytes) size = tt
remark_front_right (kinds.Symbol s) size = tt
remark_front_right kinds.End size = tt

-- a byte that is not printable is not found
printable_at : (bytes : List ℕ) (k d : ℕ) → position (λ b. not (is_printable b)) bytes ≡ None → k < length bytes → IsTrue (is_printable (get_or bytes k d))
printable_at bytes k d h lo =
    let n = position_or_len (λ b. not (is_printable b)) bytes in
    let end = ltb-false n (length bytes) (cond_none (nat_lt n (length bytes)) n h) in
    let b = is_printable (get_or bytes k d) in
    not-false b (not-true (not b) (prefix_len_passes (λ b. not (not (is_printable b))) bytes k d (omega (arith, end, lo))))

string_right : (inside : List ℕ) (o : Option ℕ) → position (λ b. not (is_printable b)) inside ≡ o → IsTrue (list_all (λ b. not (is_quote b)) inside) →
    FrontRight (string_or inside o)
string_right inside None h q = λ k d lo. (printable_at inside k d h lo, AllPass-from_list_all (λ b. not (is_quote b)) inside q k d lo)
string_right inside (Some k) h q = tt

stands_right : {m : Mode} {cols : List ℕ} {f : Front} → TokenStands m cols f → FrontRight f
stands_right (blank b after h) = tt
stands_right (percent after) = tt
stands_right (spelled bytes after k s l) = kind_right (length bytes) s
stands_right (closed inside after h) = string_right inside (position (λ b. not (is_printable b)) inside) refl h
stands_right (unclosed after h) = tt
stands_right (none b after h) = tt
stands_right (closing after) = tt
stands_right (commented b after h) = tt
stands_right (remarked bytes after k s l n) = remark_front_right k (length bytes)
stands_right (semicolon after) = tt
stands_right (period after) = tt
stands_right (passed b after h i j) = tt

at_right : (r : Record) (at size : ℕ) (kind : Option TokenKind) → OptionRight kind → AreRight (token_at r at size kind)
at_right r at size None h = tt
at_right r at size (Some k) h = (h, tt)

gives_right : {r : Record} {m : Mode} {at : ℕ} {ts : List Token} {n : Mode} {to : ℕ} → Gives r m at ts n to → AreRight ts
gives_right (stays m at) = tt
gives_right {r} (piece m n o at size to kind ts s g) = each_both TokenRight (token_at r at size kind) ts (at_right r at size kind (stands_right s)) (gives_right g)

read_right : {rs : List Record} {m : Mode} {ts : List Token} {n : Mode} {left : List Record} → AreRead rs m ts n left → AreRight ts
read_right (all rs m) = tt
read_right (next r rs left m n o ts more i g) = each_both TokenRight ts more (gives_right i.gives) (read_right g)

end_right : (rs : List Record) → AreRight (end_of_text rs)
end_right [] = tt
end_right (r ∷ []) = (tt, tt)
end_right (r ∷ s ∷ rs) = end_right (s ∷ rs)

pub text_right : {bytes : List ℕ} {ts : List Token} → Lexes bytes ts → AreRight ts
text_right {bytes} l = subst AreRight (sym l.ended) (each_both TokenRight l.found (end_of_text (records_of bytes)) (read_right l.read) (end_right (records_of bytes)))
