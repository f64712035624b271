-- How far a record is read, and a text, and that it can be read in one way.
use Rattle.std.proofs.Common.{◌≡◌, ℕ, ◌+◌, ◌<◌, ◌≤◌, List, [], ◌∷◌, ◌++◌, length, drop, refl, sym, ◌∙◌, ap, subst, arith}
use Rattle.std.specs.Prelude.{Option, Some, None}
use Rattle.std.proofs.lemmas.List.{append_assoc, append-nil, drop_all}
use Rattle.algol_tree.specs.declared.TheConstants.{MOST_RECORD_BYTES}
use Rattle.algol_tree.specs.declared.refusal.Code.{Code}
use Rattle.algol_tree.specs.declared.refusal.Code.TheVariants.{LineTooLong}
use Rattle.algol_tree.specs.declared.token.Spot.{Spot}
use Rattle.algol_tree.specs.declared.token.Token.{Token}
use Rattle.algol_tree.specs.declared.token.TokenKind.{TokenKind}
use Rattle.algol_tree.specs.Records.{Record, columns, records_of, spot_in}
use Rattle.algol_tree.specs.Lexes.{Mode, Front, Piece, Wrong, TokenStands, token_at, Gives, stays, piece, IsRead, AreRead, all, next, Lexes, Fails, wrong, long, TextIsRefused, end_of_text}
use Rattle.algol_lexer.specs.Outcome.{RecordReads, LexesOnly, RefusedOnly}
use Rattle.algol_lexer.proofs.LexOnly.{one_stands, FitsIn, stands_fits}

-- one piece more
pub gives_more : {r : Record} {m n o : Mode} {at to size : ℕ} {tokens : List Token} {kind : Option TokenKind} → Gives r m at tokens n to → TokenStands n (drop to (columns r)) (Piece size kind o) → Gives r m at (tokens ++ token_at r to size kind) o (to + size)
gives_more {r} {o = o} {size = size} {kind = kind} (stays m at) st = subst (λ (ts : List Token). Gives r m at ts o (at + size)) (append-nil (token_at r at size kind)) (piece m o o at size (at + size) kind [] st (stays o (at + size)))
gives_more {r} {o = o} {to = to} {size = size} {kind = kind} (piece m n p at first end k tokens here there) st =
    let more = gives_more there st in
    subst (λ (ts : List Token). Gives r m at ts o (to + size)) (sym (append_assoc (token_at r at first k) tokens (token_at r to size kind))) (piece m n o at first (to + size) k (tokens ++ token_at r to size kind) here more)

-- no piece stands there
abbrev pub IsHalt : Record → Mode → ℕ → Type 0
IsHalt r n at = (size : ℕ) (kind : Option TokenKind) (o : Mode) → TokenStands n (drop at (columns r)) (Piece size kind o) → ⊥

pub record IsOneWay (tokens others : List Token) (n o : Mode) (to at : ℕ) : Type 0 where
  pub tokens_are : tokens ≡ others
  pub mode_is : n ≡ o
  pub place_is : to ≡ at

-- from one place on a record is read in one way, up to where no piece stands
one_way : {r : Record} {m n o : Mode} {at to end : ℕ} {tokens others : List Token} → Gives r m at tokens n to → Gives r m at others o end → IsHalt r n to → IsHalt r o end → IsOneWay tokens others n o to end
one_way (stays m at) (stays m' at') h i = record { tokens_are = refl; mode_is = refl; place_is = refl }
one_way (stays m at) (piece m' n o at' size to kind tokens st g) h i = absurd (h size kind n st)
one_way (piece m n o at size to kind tokens st g) (stays m' at') h i = absurd (i size kind n st)
one_way {r} (piece m n o at size to kind tokens st g) (piece m' n' o' at' size' to' kind' tokens' st' g') h i =
    let same = one_stands st st' in
    let sizes : size ≡ size' = cc in
    let kinds_are : kind ≡ kind' = cc in
    let modes_are : n ≡ n' = cc in
    let there : Gives r n' (at + size') tokens o to = subst (λ (s : ℕ). Gives r n' (at + s) tokens o to) sizes (subst (λ (q : Mode). Gives r q (at + size) tokens o to) modes_are g) in
    let rest = one_way there g' h i in
    record {
      tokens_are = ap (λ (s : ℕ). token_at r at s kind ++ tokens) sizes ∙ ap (λ (k : Option TokenKind). token_at r at size' k ++ tokens) kinds_are ∙ ap (λ (ts : List Token). token_at r at size' kind' ++ ts) rest.tokens_are;
      mode_is = rest.mode_is;
      place_is = rest.place_is;
    }

-- after the last column stands nothing, and where something is wrong stands no piece
nothing : {n : Mode} {text : List ℕ} {f : Front} → text ≡ [] → TokenStands n text f → ⊥
nothing {text = text} {f} e st = none_fits f (length text) (ap length e) (stands_fits st)
  where
    none_fits : (f : Front) (n : ℕ) → n ≡ 0 → FitsIn f n → ⊥
    none_fits (Piece size kind mode) n e (some, within) = omega arith
    none_fits (Wrong skipped code) n e within = omega arith

pub end_halts : (r : Record) (n : Mode) (at : ℕ) → length (columns r) ≤ at → IsHalt r n at
end_halts r n at ge size kind o st = nothing (drop_all at (columns r) ge) st

wrong_halts : (r : Record) (n : Mode) (at : ℕ) {skipped : ℕ} {code : Code} → TokenStands n (drop at (columns r)) (Wrong skipped code) → IsHalt r n at
wrong_halts r n at st size kind o other = let same = one_stands st other in cc

-- a record is read in one way
pub record IsOneReading (tokens others : List Token) (n o : Mode) : Type 0 where
  pub tokens_are : tokens ≡ others
  pub mode_is : n ≡ o

one_reading : {r : Record} {m n o : Mode} {tokens others : List Token} → IsRead r m tokens n → IsRead r m others o → IsOneReading tokens others n o
one_reading {r} {n = n} {o = o} p q =
    let w = one_way p.gives q.gives (end_halts r n (length (columns r)) (omega arith)) (end_halts r o (length (columns r)) (omega arith)) in
    record { tokens_are = w.tokens_are; mode_is = w.mode_is }

-- what is read is not refused
wrong_inside : {r : Record} {m n o : Mode} {at skipped : ℕ} {tokens others : List Token} {code : Code} → Gives r m 0 tokens n (length (columns r)) → Gives r m 0 others o at → TokenStands o (drop at (columns r)) (Wrong skipped code) → ⊥
wrong_inside {r} {n = n} {o = o} {at = at} g w st =
    let one = one_way g w (end_halts r n (length (columns r)) (omega arith)) (wrong_halts r o at st) in
    let past : length (columns r) ≤ at = omega (arith, one.place_is) in
    nothing (drop_all at (columns r) past) st

read_fails : {r : Record} {m n : Mode} {tokens : List Token} {spot : Spot} {code : Code} → IsRead r m tokens n → Fails r m spot code → ⊥
read_fails p (wrong n at skipped tokens code g st) = wrong_inside p.gives g st
read_fails p (long n tokens g lt) = omega (arith, p.short)

-- a record is refused at one spot for one reason
pub record IsOneRefusal (spot other : Spot) (code reason : Code) : Type 0 where
  pub spot_is : spot ≡ other
  pub code_is : code ≡ reason

one_failure : {r : Record} {m : Mode} {spot other : Spot} {code reason : Code} → Fails r m spot code → Fails r m other reason → IsOneRefusal spot other code reason
one_failure {r} (wrong n at skipped tokens code g st) (wrong n' at' skipped' tokens' code' g' st') =
    let one = one_way g g' (wrong_halts r n at st) (wrong_halts r n' at' st') in
    let here : TokenStands n' (drop at' (columns r)) (Wrong skipped code) = subst (λ (a : ℕ). TokenStands n' (drop a (columns r)) (Wrong skipped code)) one.place_is (subst (λ (q : Mode). TokenStands q (drop at (columns r)) (Wrong skipped code)) one.mode_is st) in
    let same = one_stands here st' in
    let skips : skipped ≡ skipped' = cc in
    let codes_are : code ≡ code' = cc in
    record { spot_is = ap (λ (a : ℕ). spot_in r (a + skipped)) one.place_is ∙ ap (λ (s : ℕ). spot_in r (at' + s)) skips; code_is = codes_are }
one_failure (wrong n at skipped tokens code g st) (long n' tokens' g' lt) = absurd (wrong_inside g' g st)
one_failure (long n' tokens' g' lt) (wrong n at skipped tokens code g st) = absurd (wrong_inside g' g st)
one_failure (long n tokens g lt) (long n' tokens' g' lt') = record { spot_is = refl; code_is = refl }

-- one record more
pub are_read_more : {rs left : List Record} {r : Record} {m n o : Mode} {tokens more : List Token} → AreRead rs m tokens n (r ∷ left) → IsRead r n more o → AreRead rs m (tokens ++ more) o left
are_read_more {left = left} {r = r} {o = o} {more = more} (all rs m) read = subst (λ (ts : List Token). AreRead (r ∷ left) m ts o left) (append-nil more) (next r left left m o o more [] read (all left o))
are_read_more {left = left} {o = o} {more = more} (next q rs left' m n p tokens others here there) read =
    subst (λ (ts : List Token). AreRead (q ∷ rs) m ts o left) (sym (append_assoc tokens others more)) (next q rs left m n o tokens (others ++ more) here (are_read_more there read))

-- no record that is left is read
abbrev pub IsLast : Mode → List Record → Type 0
IsLast n left = (r : Record) (rs : List Record) (tokens : List Token) (o : Mode) → left ≡ r ∷ rs → IsRead r n tokens o → ⊥

record IsOnePart (tokens others : List Token) (n o : Mode) (left rest : List Record) : Type 0 where
  tokens_are : tokens ≡ others
  mode_is : n ≡ o
  left_is : left ≡ rest

one_part : {rs left rest : List Record} {m n o : Mode} {tokens others : List Token} → AreRead rs m tokens n left → AreRead rs m others o rest → IsLast n left → IsLast o rest → IsOnePart tokens others n o left rest
one_part (all rs m) (all rs' m') h i = record { tokens_are = refl; mode_is = refl; left_is = refl }
one_part (all rs m) (next r rs' left m' n o tokens more read there) h i = absurd (h r rs' tokens n refl read)
one_part (next r rs left m n o tokens more read there) (all rs' m') h i = absurd (i r rs tokens n refl read)
one_part (next r rs left m n o tokens more read there) (next r' rs' left' m' n' o' tokens' more' read' there') h i =
    let one = one_reading read read' in
    let on = subst (λ (q : Mode). AreRead rs q more o left) one.mode_is there in
    let rest = one_part on there' h i in
    record {
      tokens_are = ap (λ (ts : List Token). ts ++ more) one.tokens_are ∙ ap (λ (ts : List Token). tokens' ++ ts) rest.tokens_are;
      mode_is = rest.mode_is;
      left_is = rest.left_is;
    }

none_left : (n : Mode) → IsLast n []
none_left n r rs tokens o e read = cc

fails_last : {r : Record} {left : List Record} {n : Mode} {spot : Spot} {code : Code} → Fails r n spot code → IsLast n (r ∷ left)
fails_last {r} {left} {n} f q qs tokens o e read =
    let same : q ≡ r = cc in
    read_fails (subst (λ (s : Record). IsRead s n tokens o) same read) f

-- A text has one list of tokens, or is refused at one spot for one reason, and not both.
pub one_lexing : {bytes : List ℕ} {tokens others : List Token} → Lexes bytes tokens → Lexes bytes others → tokens ≡ others
one_lexing {bytes} p q =
    let one = one_part p.read q.read (none_left p.mode) (none_left q.mode) in
    p.ended ∙ ap (λ (ts : List Token). ts ++ end_of_text (records_of bytes)) one.tokens_are ∙ sym q.ended

pub not_both : {bytes : List ℕ} {tokens : List Token} {spot : Spot} {code : Code} → Lexes bytes tokens → TextIsRefused bytes spot code → ⊥
not_both p q = let one = one_part p.read q.read (none_left p.mode) (fails_last q.fails) in let clash = one.left_is in cc

pub one_refusal : {bytes : List ℕ} {spot other : Spot} {code reason : Code} → TextIsRefused bytes spot code → TextIsRefused bytes other reason → IsOneRefusal spot other code reason
one_refusal {spot = spot} {code = code} p q =
    let one = one_part p.read q.read (fails_last p.fails) (fails_last q.fails) in
    let left = one.left_is in
    let same : p.at ≡ q.at = cc in
    let here : Fails q.at q.mode spot code = subst (λ (n : Mode). Fails q.at n spot code) one.mode_is (subst (λ (r : Record). Fails r p.mode spot code) same p.fails) in
    one_failure here q.fails

pub lexes_only : (bytes : List ℕ) (tokens : List Token) → Lexes bytes tokens → LexesOnly bytes tokens
lexes_only bytes tokens l = record { lexes = l; only = λ others m. one_lexing m l; read = λ spot code r. not_both l r }

pub refused_only : (bytes : List ℕ) (spot : Spot) (code : Code) → TextIsRefused bytes spot code → RefusedOnly bytes spot code
refused_only bytes spot code r = record { refused = r; first = λ other reason q. let one = one_refusal q r in (one.spot_is, one.code_is); none = λ tokens l. not_both l r }

-- a record is read up to a place, and the tokens so far stand after those before
pub record Reaches (r : Record) (m n : Mode) (at : ℕ) (before after : List Token) : Type 0 where
  pub tokens : List Token
  pub gives : Gives r m 0 tokens n at
  pub appended : after ≡ before ++ tokens

pub reaches_start : (r : Record) (m : Mode) (before : List Token) → Reaches r m m 0 before before
reaches_start r m before = record { tokens = []; gives = stays m 0; appended = sym (append-nil before) }

pub reaches_more : {r : Record} {m n o : Mode} {at size : ℕ} {kind : Option TokenKind} {before tokens after : List Token} → Reaches r m n at before tokens → TokenStands n (drop at (columns r)) (Piece size kind o) → after ≡ tokens ++ token_at r at size kind → Reaches r m o (at + size) before after
reaches_more {r} {at = at} {size = size} {kind = kind} {before = before} p st e = record {
  tokens = p.tokens ++ token_at r at size kind;
  gives = gives_more p.gives st;
  appended = e ∙ ap (λ (ts : List Token). ts ++ token_at r at size kind) p.appended ∙ append_assoc before p.tokens (token_at r at size kind);
}

pub reaches_long : {r : Record} {m n : Mode} {at : ℕ} {before after : List Token} → Reaches r m n at before after → at ≡ length (columns r) → MOST_RECORD_BYTES < length r.bytes → Fails r m (spot_in r MOST_RECORD_BYTES) LineTooLong
reaches_long {r} {m} {n} p e lt = long n p.tokens (subst (λ (a : ℕ). Gives r m 0 p.tokens n a) e p.gives) lt

pub reaches_wrong : {r : Record} {m n : Mode} {at skipped : ℕ} {code : Code} {before after : List Token} → Reaches r m n at before after → TokenStands n (drop at (columns r)) (Wrong skipped code) → Fails r m (spot_in r (at + skipped)) code
reaches_wrong {n = n} {at} {skipped} {code} p st = wrong n at skipped p.tokens code p.gives st

-- what was found to stand at the front of what is left of the columns
pub stands_there : {n : Mode} {text found wanted : List ℕ} {f g : Front} (at : ℕ) → TokenStands n text f → f ≡ g → text ≡ drop at found → found ≡ wanted → TokenStands n (drop at wanted) g
stands_there {n} {wanted = wanted} {f = f} {g} at st e back same = subst (TokenStands n (drop at wanted)) e (subst (λ (l : List ℕ). TokenStands n l f) (back ∙ ap (drop at) same) st)

-- a piece is one token at most
pub length_token_at : (r : Record) (at size : ℕ) (kind : Option TokenKind) → length (token_at r at size kind) ≤ 1
length_token_at r at size None = omega arith
length_token_at r at size (Some k) = omega arith
