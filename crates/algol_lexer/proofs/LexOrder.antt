-- The tokens of a text ascend: a piece begins where the one before it ended, or later, and each record stands on a line of its own.
use Rattle.std.proofs.Common.{◌≡◌, ℕ, ◌+◌, ◌<◌, ◌≤◌, Bool, true, false, cond, List, [], ◌∷◌, ◌++◌, length, take, map, refl, sym, subst, append_assoc, length-take, arith}
use Rattle.std.specs.Prelude.{Option, Some, None}
use Rattle.std.specs.List.{slice_split}
use Rattle.std.proofs.lemmas.Bool.Decides.{nat_tests}
use Rattle.algol_tree.specs.declared.TheConstants.{LAST_COLUMN}
use Rattle.algol_tree.specs.declared.token.Spot.{Spot}
use Rattle.algol_tree.specs.declared.token.Token.{Token}
use Rattle.algol_tree.specs.declared.token.TokenKind.{TokenKind}
use Rattle.algol_tree.specs.Accepted.{is_before}
use Rattle.algol_tree.specs.Ascending.{IsAhead}
use Rattle.algol_tree.specs.Records.{Record, is_line_feed, has_dollar, columns, records_from, records_of, spot_in}
use Rattle.algol_tree.specs.Lexes.{Mode, token_at, end_of_text, Gives, stays, piece, IsRead, AreRead, all, next, Lexes}
use Rattle.algol_lexer.specs.Order.{AreInOrder}
use Rattle.algol_lexer.proofs.LexOnly.{stands_fits}

-- the place a is the place b, or before it
abbrev IsUpTo : Spot → Spot → Type 0
IsUpTo a b = (a.line ≤ b.line) × (a.line ≡ b.line → a.column ≤ b.column)

abbrev behind : Spot → Spot
behind a = record { line = a.line; column = a.column + 1 }

-- These tokens stand at the place a or after it, each after the one before, and all of them before the place b.
abbrev Climbs : Spot → List Token → Spot → Type 0
Climbs a [] b = IsUpTo a b
Climbs a (t ∷ ts) b = IsUpTo a t.spot × Climbs (behind t.spot) ts b

up_to_on : (a b c : Spot) → IsUpTo a b → IsUpTo b c → IsUpTo a c
up_to_on a b c p q = omega arith

climbs_from : (a b c : Spot) (ts : List Token) → IsUpTo a b → Climbs b ts c → Climbs a ts c
climbs_from a b c [] p q = up_to_on a b c p q
climbs_from a b c (t ∷ ts) p q = (up_to_on a b t.spot p q.0, q.1)

climbs_on : (a b c : Spot) (ts us : List Token) → Climbs a ts b → Climbs b us c → Climbs a (ts ++ us) c
climbs_on a b c [] us p q = climbs_from a b c us p q
climbs_on a b c (t ∷ ts) us p q = (p.0, climbs_on (behind t.spot) b c ts us p.1 q)

-- so they ascend

before : (a b : Spot) → IsUpTo (behind a) b → is_before a b ≡ true
before a b p = grind (arith, nat_tests)

ahead : (a b : Spot) (ts : List Token) → Climbs (behind a) ts b → IsAhead a (map (λ (t : Token). t.spot) ts)
ahead a b [] p = tt
ahead a b (t ∷ ts) p = before a t.spot p.0

ascending : (a b : Spot) (ts : List Token) → Climbs a ts b → AreInOrder ts
ascending a b [] p = tt
ascending a b (t ∷ ts) p = (ahead t.spot b ts p.1, ascending (behind t.spot) b ts p.1)

-- a record's tokens

piece_climbs : (r : Record) (at size : ℕ) (kind : Option TokenKind) → 0 < size → Climbs (spot_in r at) (token_at r at size kind) (spot_in r (at + size))
piece_climbs r at size None some = omega arith
piece_climbs r at size (Some k) some = (omega arith, omega arith)

gives_climbs : {r : Record} {m o : Mode} {at to : ℕ} {tokens : List Token} → Gives r m at tokens o to → Climbs (spot_in r at) tokens (spot_in r to)
gives_climbs (stays m at) = omega arith
gives_climbs {r} (piece m n o at size to kind tokens st g) = climbs_on (spot_in r at) (spot_in r (at + size)) (spot_in r to) (token_at r at size kind) tokens
    (piece_climbs r at size kind (stands_fits st).0) (gives_climbs g)

cut_within : (b : Bool) (bytes : List ℕ) → length (cond b [] (take LAST_COLUMN bytes)) ≤ length bytes
cut_within true bytes = omega arith
cut_within false bytes = omega (arith, length-take LAST_COLUMN bytes)

columns_within : (r : Record) → length (columns r) ≤ length r.bytes
columns_within r = cut_within (has_dollar r.bytes) r.bytes

record_climbs : {r : Record} {m n : Mode} {tokens : List Token} → IsRead r m tokens n → Climbs (spot_in r 0) tokens (spot_in r (length (columns r)))
record_climbs read = gives_climbs read.gives

-- and those of all records

-- The records stand on lines of their own, from this one on.
abbrev AreFrom : ℕ → List Record → Type 0
AreFrom line [] = Unit {0}
AreFrom line (r ∷ rs) = (line ≤ r.line) × AreFrom (r.line + 1) rs

records_are_from : (line from : ℕ) (parts : List (List ℕ)) → AreFrom line (records_from line from parts)
records_are_from line from [] = tt
records_are_from line from (bytes ∷ []) = (omega arith, tt)
records_are_from line from (bytes ∷ second ∷ parts) = (omega arith, records_are_from (line + 1) (from + length bytes + 1) (second ∷ parts))

abbrev Rises : Spot → List Token → Type 0
Rises a ts = (b : Spot) × Climbs a ts b

none_read : {rs left : List Record} {m n : Mode} {tokens : List Token} → AreRead rs m tokens n left → rs ≡ [] → tokens ≡ []
none_read (all rs m) e = refl
none_read (next r rs left m n o tokens more read there) e = cc

abbrev column_1 : ℕ → Spot
column_1 line = record { line = line; column = 1 }

-- the tokens after those of a record, and the end of the text
rest_rises : (r : Record) (rs : List Record) (more : List Token) → (rs ≡ [] → more ≡ []) → ((line : ℕ) → AreFrom line rs → Rises (column_1 line) (more ++ end_of_text rs)) →
    AreFrom (r.line + 1) rs → Rises (spot_in r (length (columns r))) (more ++ end_of_text (r ∷ rs))
rest_rises r [] more none whole f =
    let last = spot_in r (length r.bytes) in
    let within = columns_within r in
    subst (λ (ts : List Token). Rises (spot_in r (length (columns r))) (ts ++ end_of_text (r ∷ []))) (sym (none refl)) (behind last, (omega arith, omega arith))
rest_rises r (second ∷ rs) more none whole f =
    let p = whole (r.line + 1) f in (p.0, climbs_from (spot_in r (length (columns r))) (column_1 (r.line + 1)) p.0 (more ++ end_of_text (second ∷ rs)) (omega arith) p.1)

all_rise : {rs left : List Record} {m n : Mode} {tokens : List Token} → AreRead rs m tokens n left → left ≡ [] → (line : ℕ) → AreFrom line rs →
    Rises (column_1 line) (tokens ++ end_of_text rs)
all_rise (all rs m) e line f = subst (λ (rs : List Record). Rises (column_1 line) (end_of_text rs)) (sym e) (column_1 line, omega arith)
all_rise (next r rs left m n o tokens more read there) e line f =
    let p = rest_rises r rs more (none_read there) (λ l g. all_rise there e l g) f.1 in
    let first : IsUpTo (column_1 line) (spot_in r 0) = omega (arith, f.0) in
    let here = climbs_from (column_1 line) (spot_in r 0) (spot_in r (length (columns r))) tokens first (record_climbs read) in (
      p.0,
      subst (λ (ts : List Token). Climbs (column_1 line) ts p.0) (sym (append_assoc tokens more (end_of_text (r ∷ rs))))
          (climbs_on (column_1 line) (spot_in r (length (columns r))) p.0 tokens (more ++ end_of_text (r ∷ rs)) here p.1),
    )

pub tokens_ascend : (bytes : List ℕ) (tokens : List Token) → Lexes bytes tokens → AreInOrder tokens
tokens_ascend bytes tokens l =
    let p = all_rise l.read refl 1 (records_are_from 1 0 (slice_split is_line_feed bytes)) in
    subst AreInOrder (sym l.ended) (ascending (column_1 1) p.0 (l.found ++ end_of_text (records_of bytes)) p.1)
