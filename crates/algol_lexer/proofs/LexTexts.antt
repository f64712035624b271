-- How far a text is read, record by record.
use Rattle.std.proofs.Common.{◌≡◌, ℕ, ◌+◌, Bool, true, false, cond, Option, Some, None, List, [], ◌∷◌, ◌++◌, length, take, drop, refl, sym, ◌∙◌, ap, subst}
use Rattle.std.specs.Prelude.{not, position, nat_le, unsigned_abs}
use Rattle.std.specs.List.{slice_split}
use Rattle.std.specs.Str.Lines.{strip_carriage_return}
use Rattle.std.proofs.lemmas.List.{append_assoc, append-nil}
use Rattle.b67_num.specs.Whole.{most}
use Rattle.algol_tree.specs.declared.TheConstants.{MOST_NAME_BYTES}
use Rattle.algol_tree.specs.declared.refusal.Code.{Code}
use Rattle.algol_tree.specs.declared.refusal.Code.TheVariants.{NumberTooWide, NameTooLong}
use Rattle.algol_tree.specs.declared.token.Reserved.{Reserved}
use Rattle.algol_tree.specs.declared.token.Reserved.TheVariants as reserved
use Rattle.algol_tree.specs.declared.token.Spot.{Spot}
use Rattle.algol_tree.specs.declared.token.Token.{Token}
use Rattle.algol_tree.specs.declared.token.TokenKind.{TokenKind}
use Rattle.algol_tree.specs.declared.token.TokenKind.TheVariants as kinds
use Rattle.algol_tree.specs.Ended.{EndsOnce}
use Rattle.algol_tree.specs.Spelling.{Spells, word, name, number, symbol}
use Rattle.algol_tree.specs.Records.{Record, is_line_feed, records_from, records_of, spot_in}
use Rattle.algol_tree.specs.Lexes.{Mode, Program, Front, Piece, Wrong, token_of, front_of, remark_front, string_or, is_printable, TokenStands, blank, percent, spelled, closed, unclosed, none, closing, commented, remarked, semicolon, period, passed, token_at, Gives, stays, piece, AreRead, all, next, Lexes, Fails, TextIsRefused, end_of_text}
use Rattle.algol_lexer.specs.Outcome.{RecordReads}
use Rattle.algol_lexer.proofs.LexReach.{are_read_more}
use Rattle.algol_lexer.proofs.LexRecords.{records_next, records_last, end_of_next}

-- The tokens so far, and what is left of the text: from that line and that place on.
pub record Text (bytes rest : List ℕ) (line from : ℕ) (mode : Mode) (tokens : List Token) : Type 0 where
  pub read : AreRead (records_of bytes) Program tokens mode (records_from line from (slice_split is_line_feed rest))
  pub ended : end_of_text (records_of bytes) ≡ end_of_text (records_from line from (slice_split is_line_feed rest))

pub text_start : (bytes : List ℕ) → Text bytes bytes 1 0 Program []
text_start bytes = record { read = all (records_of bytes) Program; ended = refl }

-- a record, and one that an LF ends
abbrev pub record_last : ℕ → ℕ → List ℕ → Record
record_last line from bytes = record { line = line; from = from; bytes = bytes }

abbrev pub record_next : ℕ → ℕ → List ℕ → ℕ → Record
record_next line from rest k = record_last line from (strip_carriage_return (take k rest))

text_at : {bytes rest : List ℕ} {line from : ℕ} {mode : Mode} {tokens : List Token} → Text bytes rest line from mode tokens → (rs : List Record) → records_from line from (slice_split is_line_feed rest) ≡ rs → AreRead (records_of bytes) Program tokens mode rs
text_at {bytes} {mode = mode} {tokens = tokens} t rs e = subst (AreRead (records_of bytes) Program tokens mode) e t.read

pub text_next : (bytes rest part : List ℕ) (line from k : ℕ) (m n : Mode) (tokens after : List Token) → Text bytes rest line from m tokens → Some k ≡ position is_line_feed rest → part ≡ strip_carriage_return (take k rest) → RecordReads (record_last line from part) m n tokens after → Text bytes (drop (k + 1) rest) (line + 1) (from + (k + 1)) n after
text_next bytes rest part line from k m n tokens after t e same there =
    let reads : RecordReads (record_next line from rest k) m n tokens after = subst (λ (l : List ℕ). RecordReads (record_last line from l) m n tokens after) same there in
    let left : List Record = records_from (line + 1) (from + (k + 1)) (slice_split is_line_feed (drop (k + 1) rest)) in
    let split : records_from line from (slice_split is_line_feed rest) ≡ record_next line from rest k ∷ left = records_next line from rest k (sym e) in
    let more : AreRead (records_of bytes) Program (tokens ++ reads.tokens) n left = are_read_more (text_at t (record_next line from rest k ∷ left) split) reads.read in
    record {
      read = subst (λ (ts : List Token). AreRead (records_of bytes) Program ts n left) (sym reads.appended) more;
      ended = t.ended ∙ ap end_of_text split ∙ end_of_next (record_next line from rest k) (line + 1) (from + (k + 1)) (drop (k + 1) rest);
    }

pub text_refused : (bytes rest part : List ℕ) (line from k : ℕ) (m : Mode) (tokens : List Token) (spot : Spot) (code : Code) → Text bytes rest line from m tokens → Some k ≡ position is_line_feed rest → part ≡ strip_carriage_return (take k rest) → Fails (record_last line from part) m spot code → TextIsRefused bytes spot code
text_refused bytes rest part line from k m tokens spot code t e same there =
    let fails : Fails (record_next line from rest k) m spot code = subst (λ (l : List ℕ). Fails (record_last line from l) m spot code) same there in
    record { found = tokens; mode = m; at = record_next line from rest k; left = _; read = text_at t _ (records_next line from rest k (sym e)); fails = fails }

pub text_last : (bytes rest : List ℕ) (line from : ℕ) (m n : Mode) (tokens after : List Token) → Text bytes rest line from m tokens → None ≡ position is_line_feed rest → RecordReads (record_last line from rest) m n tokens after → Lexes bytes (after ++ token_at (record_last line from rest) (length rest) 0 (Some kinds.End))
text_last bytes rest line from m n tokens after t e reads =
    let split : records_from line from (slice_split is_line_feed rest) ≡ record_last line from rest ∷ [] = records_last line from rest (sym e) in
    let more : AreRead (records_of bytes) Program (tokens ++ reads.tokens) n [] = are_read_more (text_at t (record_last line from rest ∷ []) split) reads.read in
    let end : end_of_text (records_of bytes) ≡ token_at (record_last line from rest) (length rest) 0 (Some kinds.End) = t.ended ∙ ap end_of_text split in
    record { found = tokens ++ reads.tokens; mode = n; read = more; ended = ap (λ (ts : List Token). ts ++ token_at (record_last line from rest) (length rest) 0 (Some kinds.End)) reads.appended ∙ ap (λ (ts : List Token). (tokens ++ reads.tokens) ++ ts) (sym end) }

pub text_refused_last : (bytes rest : List ℕ) (line from : ℕ) (m : Mode) (tokens : List Token) (spot : Spot) (code : Code) → Text bytes rest line from m tokens → None ≡ position is_line_feed rest → Fails (record_last line from rest) m spot code → TextIsRefused bytes spot code
text_refused_last bytes rest line from m tokens spot code t e fails = record { found = tokens; mode = m; at = record_last line from rest; left = []; read = text_at t _ (records_last line from rest (sym e)); fails = fails }

-- no token but the last is the end of the text
abbrev IsNoEnd : Option TokenKind → Type 0
IsNoEnd None = Unit {0}
IsNoEnd (Some k) = k ≡ kinds.End → ⊥

abbrev HasNoEnd : Front → Type 0
HasNoEnd (Piece size kind mode) = IsNoEnd kind
HasNoEnd (Wrong skipped code) = Unit {0}

pub spells_no_end : {bytes : List ℕ} {k : TokenKind} → Spells bytes k → k ≡ kinds.End → ⊥
spells_no_end (word w) e = cc
spells_no_end (name bytes h other) e = cc
spells_no_end (number bytes h) e = cc
spells_no_end (symbol s) e = cc

choice_no_end : (b : Bool) (k : TokenKind) (n : ℕ) (code : Code) → (k ≡ kinds.End → ⊥) → HasNoEnd (cond b (token_of k n) (Wrong 0 code))
choice_no_end true k n code h = h
choice_no_end false k n code h = tt

word_no_end : (w : Reserved) (n : ℕ) → HasNoEnd (front_of (kinds.Word w) n)
word_no_end w n = elim w as (λ v. HasNoEnd (front_of (kinds.Word v) n)) [ reserved.Comment ↦ tt | _ ↦ λ e. cc ]

front_no_end : (k : TokenKind) (n : ℕ) → (k ≡ kinds.End → ⊥) → HasNoEnd (front_of k n)
front_no_end (kinds.Word w) n h = word_no_end w n
front_no_end (kinds.Name bytes) n h = choice_no_end (nat_le (length bytes) MOST_NAME_BYTES) (kinds.Name bytes) n NameTooLong h
front_no_end (kinds.Number value) n h = choice_no_end (nat_le (unsigned_abs value) most) (kinds.Number value) n NumberTooWide h
front_no_end (kinds.Text bytes) n h = h
front_no_end (kinds.Symbol s) n h = h
front_no_end kinds.End n h = h

remark_no_end : (k : TokenKind) (n : ℕ) → HasNoEnd (remark_front k n)
remark_no_end (kinds.Word w) n = elim w as (λ v. HasNoEnd (remark_front (kinds.Word v) n)) [ reserved.End ↦ λ e. cc | reserved.Else ↦ λ e. cc | reserved.Until ↦ λ e. cc | _ ↦ tt ]
remark_no_end (kinds.Name bytes) n = tt
remark_no_end (kinds.Number value) n = tt
remark_no_end (kinds.Text bytes) n = tt
remark_no_end (kinds.Symbol s) n = tt
remark_no_end kinds.End n = tt

string_no_end : (inside : List ℕ) (o : Option ℕ) → HasNoEnd (string_or inside o)
string_no_end inside None = λ e. cc
string_no_end inside (Some k) = tt

stands_no_end : {m : Mode} {text : List ℕ} {f : Front} → TokenStands m text f → HasNoEnd f
stands_no_end (blank b after h) = tt
stands_no_end (percent after) = tt
stands_no_end (spelled bytes after k s l) = front_no_end k (length bytes) (spells_no_end s)
stands_no_end (closed inside after h) = string_no_end inside (position (λ b. not (is_printable b)) inside)
stands_no_end (unclosed after h) = tt
stands_no_end (none b after n) = tt
stands_no_end (closing after) = tt
stands_no_end (commented b after h) = tt
stands_no_end (remarked bytes after k s l h) = remark_no_end k (length bytes)
stands_no_end (semicolon after) = λ e. cc
stands_no_end (period after) = λ e. cc
stands_no_end (passed b after h i j) = tt

-- what follows ends once, and so does it after these tokens
abbrev pub Passes : List Token → Type 0
Passes ts = (t : Token) (more : List Token) → EndsOnce (t ∷ more) → EndsOnce (ts ++ t ∷ more)

passes_none : Passes []
passes_none t more h = h

pub ends_at : (t : Token) (ts : List Token) → (t.kind ≡ kinds.End → ⊥) → EndsOnce ts → EndsOnce (t ∷ ts)
ends_at t [] other h = absurd h
ends_at t (u ∷ us) other h = (other, h)

passes_token : (r : Record) (at size : ℕ) (kind : Option TokenKind) (ts : List Token) → IsNoEnd kind → Passes ts → Passes (token_at r at size kind ++ ts)
passes_token r at size None ts h p t more e = p t more e
passes_token r at size (Some k) ts h p t more e = ends_at (record { kind = k; spot = spot_in r at; from = r.from + at; to = r.from + (at + size) }) (ts ++ t ∷ more) h (p t more e)

passes_append : (ts us : List Token) → Passes ts → Passes us → Passes (ts ++ us)
passes_append ts [] p q t more e = subst (λ (l : List Token). EndsOnce (l ++ t ∷ more)) (sym (append-nil ts)) (p t more e)
passes_append ts (u ∷ us) p q t more e = subst EndsOnce (sym (append_assoc ts (u ∷ us) (t ∷ more))) (p u (us ++ t ∷ more) (q t more e))

passes_gives : {r : Record} {m n : Mode} {at to : ℕ} {tokens : List Token} → Gives r m at tokens n to → Passes tokens
passes_gives (stays m at) = passes_none
passes_gives {r} (piece m n o at size to kind tokens st g) = passes_token r at size kind tokens (stands_no_end st) (passes_gives g)

passes_read : {rs left : List Record} {m n : Mode} {tokens : List Token} → AreRead rs m tokens n left → Passes tokens
passes_read (all rs m) = passes_none
passes_read (next r rs left m n o tokens more read there) = passes_append tokens more (passes_gives read.gives) (passes_read there)

-- The last token of a text, and no other, is its end.
pub ends_once : (bytes rest : List ℕ) (line from : ℕ) (m n : Mode) (tokens after : List Token) → Text bytes rest line from m tokens → None ≡ position is_line_feed rest → RecordReads (record_last line from rest) m n tokens after → EndsOnce (after ++ token_at (record_last line from rest) (length rest) 0 (Some kinds.End))
ends_once bytes rest line from m n tokens after t e reads =
    let split : records_from line from (slice_split is_line_feed rest) ≡ record_last line from rest ∷ [] = records_last line from rest (sym e) in
    let more : AreRead (records_of bytes) Program (tokens ++ reads.tokens) n [] = are_read_more (text_at t (record_last line from rest ∷ []) split) reads.read in
    subst (λ (ts : List Token). EndsOnce (ts ++ token_at (record_last line from rest) (length rest) 0 (Some kinds.End))) (sym reads.appended) (passes_read more (record { kind = kinds.End; spot = spot_in (record_last line from rest) (length rest); from = from + length rest; to = from + (length rest + 0) }) [] refl)
