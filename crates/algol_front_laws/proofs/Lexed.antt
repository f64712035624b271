-- Each text is tokens, or cannot be read somewhere.
use Rattle.std.proofs.Common.{◌≡◌, ℕ, zero, suc, ◌+◌, ◌-◌, ◌<◌, ◌≤◌, Bool, true, false, Option, Some, None, List, [], ◌∷◌, ◌++◌, length, drop, length-drop, append_assoc, append-nil, refl, sym, ◌∙◌, ap, subst, arith}
use Rattle.std.specs.Prelude.{nat_le}
use Rattle.std.specs.List.{slice_split}
use Rattle.std.proofs.lemmas.Bool.Decides.{nat_tests}
use Rattle.algol_tree.specs.declared.TheConstants.{MOST_RECORD_BYTES}
use Rattle.algol_tree.specs.declared.refusal.Code.{Code}
use Rattle.algol_tree.specs.declared.refusal.Code.TheVariants.{LineTooLong}
use Rattle.algol_tree.specs.declared.token.Spot.{Spot}
use Rattle.algol_tree.specs.declared.token.Token.{Token}
use Rattle.algol_tree.specs.declared.token.TokenKind.{TokenKind}
use Rattle.algol_tree.specs.declared.token.TokenKind.TheVariants as kinds
use Rattle.algol_tree.specs.Ended.{EndsOnce}
use Rattle.algol_tree.specs.Records.{Record, is_line_feed, records_from, records_of, columns, spot_in}
use Rattle.algol_tree.specs.Lexes.{Mode, Program, Front, Piece, Wrong, TokenStands, token_at, end_of_text, Gives, stays, piece, IsRead, AreRead, all, next, Lexes, Fails, wrong, long, TextIsRefused}
use Rattle.algol_lexer.proofs.LexRecords.{split_some}
use Rattle.algol_lexer.proofs.LexTexts.{ends_at}
use Rattle.algol_front_laws.proofs.Fronts.{IsNoEnd, FitsIn, stands_fit, something_stands}

-- ---- a record

-- A record is read from a place to its end, or to something that cannot be read.
data Onwards (r : Record) (m : Mode) (at : ℕ) : Type 0 where
  to_end : (n : Mode) (tokens : List Token) → Gives r m at tokens n (length (columns r)) → Onwards r m at
  to_wrong : (n : Mode) (to skipped : ℕ) (tokens : List Token) (code : Code) → Gives r m at tokens n to → TokenStands n (drop to (columns r)) (Wrong skipped code) →
      Onwards r m at

module _ (r : Record) where
  at_end : (m : Mode) (at : ℕ) → at ≡ length (columns r) → Onwards r m at
  at_end m at e = to_end m [] (subst (λ (n : ℕ). Gives r m at [] m n) e (stays m at))

  behind_piece : (m n : Mode) (at size : ℕ) (kind : Option TokenKind) → TokenStands m (drop at (columns r)) (Piece size kind n) → Onwards r n (at + size) → Onwards r m at
  behind_piece m n at size kind s (to_end o tokens g) =
      to_end o (token_at r at size kind ++ tokens) (piece m n o at size (length (columns r)) kind tokens s g)
  behind_piece m n at size kind s (to_wrong o to skipped tokens code g w) =
      to_wrong o to skipped (token_at r at size kind ++ tokens) code (piece m n o at size to kind tokens s g) w

  onwards : (left : ℕ) (m : Mode) (at : ℕ) → at ≤ length (columns r) → length (columns r) ≤ at + left → Onwards r m at
  onwards zero m at within near = at_end m at (omega (arith, within, near))
  onwards (suc left) m at within near = by_rest (drop at (columns r)) refl (λ n to within near. onwards left n to within near)
    where
      by_front : (rest : List ℕ) → drop at (columns r) ≡ rest → (f : Front) → TokenStands m rest f → FitsIn f (length rest) →
          ((n : Mode) (to : ℕ) → to ≤ length (columns r) → length (columns r) ≤ to + left → Onwards r n to) → Onwards r m at
      by_front rest e (Piece size kind n) s fit more =
          let size_is : length rest ≡ length (columns r) - at = ap length (sym e) ∙ length-drop at (columns r) in
          behind_piece m n at size kind (subst (λ (l : List ℕ). TokenStands m l (Piece size kind n)) (sym e) s)
          (more n (at + size) (omega (arith, fit.1, size_is, within)) (omega (arith, fit.0, near)))
      by_front rest e (Wrong skipped code) s fit more =
          to_wrong m at skipped [] code (stays m at) (subst (λ (l : List ℕ). TokenStands m l (Wrong skipped code)) (sym e) s)

      by_rest : (rest : List ℕ) → drop at (columns r) ≡ rest → ((n : Mode) (to : ℕ) → to ≤ length (columns r) → length (columns r) ≤ to + left → Onwards r n to) →
          Onwards r m at
      by_rest [] e more =
          let size_is : 0 ≡ length (columns r) - at = ap length (sym e) ∙ length-drop at (columns r) in
          at_end m at (omega (arith, within, size_is))
      by_rest (b ∷ rest) e more =
          let f = something_stands m b rest in
          by_front (b ∷ rest) e f.front f.stands (stands_fit f.stands) more

-- A record is read, or it cannot be.
data Readable (r : Record) (m : Mode) : Type 0 where
  is_read : (n : Mode) (tokens : List Token) → IsRead r m tokens n → Readable r m
  fails : (spot : Spot) (code : Code) → Fails r m spot code → Readable r m

readable : (r : Record) (m : Mode) → Readable r m
readable r m = by_columns (onwards r (length (columns r)) m 0 (omega arith) (omega arith))
  where
    by_length : (n : Mode) (tokens : List Token) → Gives r m 0 tokens n (length (columns r)) → (b : Bool) → nat_le (length r.bytes) MOST_RECORD_BYTES ≡ b → Readable r m
    by_length n tokens g true e = is_read n tokens (record { gives = g; short = grind (arith, nat_tests) })
    by_length n tokens g false e = fails (spot_in r MOST_RECORD_BYTES) LineTooLong (long n tokens g (grind (arith, nat_tests)))

    by_columns : Onwards r m 0 → Readable r m
    by_columns (to_end n tokens g) = by_length n tokens g (nat_le (length r.bytes) MOST_RECORD_BYTES) refl
    by_columns (to_wrong n to skipped tokens code g s) = fails (spot_in r (to + skipped)) code (wrong n to skipped tokens code g s)

-- ---- all records

data AllReadable (rs : List Record) (m : Mode) : Type 0 where
  are_read : (n : Mode) (tokens : List Token) → AreRead rs m tokens n [] → AllReadable rs m
  fail : (n : Mode) (tokens : List Token) (r : Record) (left : List Record) (spot : Spot) (code : Code) → AreRead rs m tokens n (r ∷ left) → Fails r n spot code →
      AllReadable rs m

all_readable : (rs : List Record) (m : Mode) → AllReadable rs m
all_readable [] m = are_read m [] (all [] m)
all_readable (r ∷ rs) m = by_record (readable r m) (λ n. all_readable rs n)
  where
    behind : (n : Mode) (tokens : List Token) → IsRead r m tokens n → AllReadable rs n → AllReadable (r ∷ rs) m
    behind n tokens g (are_read o more h) = are_read o (tokens ++ more) (next r rs [] m n o tokens more g h)
    behind n tokens g (fail o more at left spot code h f) = fail o (tokens ++ more) at left spot code (next r rs (at ∷ left) m n o tokens more g h) f

    by_record : Readable r m → ((n : Mode) → AllReadable rs n) → AllReadable (r ∷ rs) m
    by_record (is_read n tokens g) more = behind n tokens g (more n)
    by_record (fails spot code f) more = fail m [] r rs spot code (all (r ∷ rs) m) f

-- ---- the text

-- A text has tokens, or a first spot at which it cannot be read.
pub data Lexed (bytes : List ℕ) : Type 0 where
  lexed : (tokens : List Token) → Lexes bytes tokens → Lexed bytes
  unread : (spot : Spot) (code : Code) → TextIsRefused bytes spot code → Lexed bytes

pub lexed_or_refused : (bytes : List ℕ) → Lexed bytes
lexed_or_refused bytes = by_records (all_readable (records_of bytes) Program)
  where
    by_records : AllReadable (records_of bytes) Program → Lexed bytes
    by_records (are_read n tokens h) =
        lexed (tokens ++ end_of_text (records_of bytes)) (record { found = tokens; mode = n; read = h; ended = refl })
    by_records (fail n tokens r left spot code h f) = unread spot code (record { found = tokens; mode = n; at = r; left = left; read = h; fails = f })

-- ---- the tokens of a text end once

-- what follows these tokens ends once, and so does it after them
abbrev Passes : List Token → Type 0
Passes ts = (t : Token) (more : List Token) → EndsOnce (t ∷ more) → EndsOnce (ts ++ t ∷ more)

passes_token : (r : Record) (at size : ℕ) (kind : Option TokenKind) (ts : List Token) → IsNoEnd kind → Passes ts → Passes (token_at r at size kind ++ ts)
passes_token r at size None ts h p t more e = p t more e
passes_token r at size (Some k) ts h p t more e =
    ends_at (record { kind = k; spot = spot_in r at; from = r.from + at; to = r.from + (at + size) }) (ts ++ t ∷ more) h (p t more e)

passes_append : (ts us : List Token) → Passes ts → Passes us → Passes (ts ++ us)
passes_append ts [] p q t more e = subst (λ (l : List Token). EndsOnce (l ++ t ∷ more)) (sym (append-nil ts)) (p t more e)
passes_append ts (u ∷ us) p q t more e = subst EndsOnce (sym (append_assoc ts (u ∷ us) (t ∷ more))) (p u (us ++ t ∷ more) (q t more e))

passes_gives : {r : Record} {m n : Mode} {at to : ℕ} {tokens : List Token} → Gives r m at tokens n to → Passes tokens
passes_gives (stays m at) = λ t more e. e
passes_gives {r} (piece m n o at size to kind tokens s g) = passes_token r at size kind tokens (stands_fit s).2 (passes_gives g)

passes_read : {rs left : List Record} {m n : Mode} {tokens : List Token} → AreRead rs m tokens n left → Passes tokens
passes_read (all rs m) = λ t more e. e
passes_read (next r rs left m n o tokens more g h) = passes_append tokens more (passes_gives g.gives) (passes_read h)

-- the end of a text is one token
EndsIn : List Record → Type 0
EndsIn rs = (t : Token) × (end_of_text rs ≡ t ∷ []) × (t.kind ≡ kinds.End)

last_ends : (r : Record) (rs : List Record) → EndsIn (r ∷ rs)
unfolding EndsIn
last_ends r [] = (record { kind = kinds.End; spot = spot_in r (length r.bytes); from = r.from + length r.bytes; to = r.from + (length r.bytes + 0) }, refl, refl)
last_ends r (q ∷ rs) = last_ends q rs

records_end : (parts : List (List ℕ)) (line from : ℕ) → 0 < length parts → EndsIn (records_from line from parts)
records_end [] line from some = absurd (omega (arith, some))
records_end (part ∷ []) line from some = last_ends _ []
records_end (part ∷ other ∷ parts) line from some = last_ends _ _

pub tokens_end_once : (bytes : List ℕ) (tokens : List Token) → Lexes bytes tokens → EndsOnce tokens
unfolding EndsIn
tokens_end_once bytes tokens l =
    let e = records_end (slice_split is_line_feed bytes) 1 0 (split_some is_line_feed bytes) in
    subst EndsOnce (sym (l.ended ∙ ap (λ (ts : List Token). l.found ++ ts) e.1)) (passes_read l.read e.0 [] e.2)
