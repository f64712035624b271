-- Tokens that end once are a program, or are refused.
use Rattle.std.proofs.Common.{◌≡◌, ◌⊎◌, inl, inr, ℕ, List, [], ◌∷◌, refl, sym, subst, ap, ◌∙◌}
use Rattle.algol_tree.specs.declared.token.Spot.{Spot}
use Rattle.algol_tree.specs.declared.token.Token.{Token}
use Rattle.algol_tree.specs.declared.token.TokenKind.{TokenKind}
use Rattle.algol_tree.specs.declared.token.TokenKind.TheVariants as kinds
use Rattle.algol_tree.specs.declared.refusal.Code.{Code}
use Rattle.algol_tree.specs.declared.refusal.Code.TheVariants as codes
use Rattle.algol_tree.specs.declared.refusal.Refusal.TheVariants.{At}
use Rattle.algol_tree.specs.Plain.{PProgram}
use Rattle.algol_tree.specs.Ended.{EndsOnce}
use Rattle.algol_tree.specs.Programs.{IsProgram, Reads}
use Rattle.algol_tree.specs.Refused.{RefusedProgram}
use Rattle.algol_tree.specs.Due.{Value, Due, program}
use Rattle.algol_tree.specs.Reading.{Count, outside, ReadingStep, goes, over, stops, step, Reading, to, refused, read_on, judged, reading, read}
use Rattle.algol_grammar.proofs.Exact.{exact}
use Rattle.algol_grammar.proofs.Sound.{program_sound}
use Rattle.algol_front_laws.proofs.EndToken.{Halts, end_halts}

-- ---- reading comes to an end

-- It ends before some token, or it is refused.
data IsAnswer : Reading → Type 0 where
  ends_at : (t : Token) (rest : List Token) (ws : List Value) → EndsOnce (t ∷ rest) → IsAnswer (to (t ∷ rest) ws)
  is_refused : (left : ℕ) (spot : Spot) (code : Code) → IsAnswer (refused left spot code)

is_end_or_not : (k : TokenKind) → (k ≡ kinds.End) ⊎ (k ≡ kinds.End → ⊥)
is_end_or_not kinds.End = inl refl
is_end_or_not (kinds.Word w) = inr (λ e. cc)
is_end_or_not (kinds.Name n) = inr (λ e. cc)
is_end_or_not (kinds.Number n) = inr (λ e. cc)
is_end_or_not (kinds.Text t) = inr (λ e. cc)
is_end_or_not (kinds.Symbol s) = inr (λ e. cc)

answers : (free : ℕ) (ts : List Token) (c : Count) (due : List Due) (vs : List Value) → EndsOnce ts → IsAnswer (reading free ts c due vs)
unfolding reading
answers free [] c due vs ends = absurd ends
answers free (t ∷ []) c due vs ends =
    at_end (step (judged free (t ∷ [])) due t.spot t.kind c vs)
    (subst (λ (k : TokenKind). Halts (step (judged free (t ∷ [])) due t.spot k c vs)) (sym ends) (end_halts (judged free (t ∷ [])) due t.spot c vs))
  where
    at_end : (x : ReadingStep) → Halts x → IsAnswer (read_on x t [] (reading free []))
    at_end (goes n ds us) h = absurd h
    at_end (over n us) h = ends_at t [] us ends
    at_end (stops spot code) h = is_refused _ spot code
answers free (t ∷ u ∷ ts) c due vs ends =
    at_token (step (judged free (t ∷ u ∷ ts)) due t.spot t.kind c vs) (λ n ds us. answers free (u ∷ ts) n ds us ends.1)
  where
    at_token : (x : ReadingStep) → ((n : Count) (ds : List Due) (us : List Value) → IsAnswer (reading free (u ∷ ts) n ds us)) → IsAnswer (read_on x t (u ∷ ts) (reading free (u ∷ ts)))
    at_token (goes n ds us) more = more n ds us
    at_token (over n us) more = ends_at t (u ∷ ts) us ends
    at_token (stops spot code) more = is_refused _ spot code

-- ---- so tokens are a program, or are refused

pub data Parsed (tokens : List Token) : Type 0 where
  parsed : (tree : PProgram) → Reads tokens tree → Parsed tokens
  unparsed : (spot : Spot) (code : Code) → RefusedProgram tokens (At spot code) → Parsed tokens

only_end : (t : Token) (rest : List Token) → t.kind ≡ kinds.End → EndsOnce (t ∷ rest) → rest ≡ []
only_end t [] e ends = refl
only_end t (u ∷ rest) e ends = absurd (ends.0 e)

module _ (tokens : List Token) where
  refused_so : (left : ℕ) (spot : Spot) (code : Code) → read 0 tokens (program ∷ []) [] ≡ refused left spot code → (code ≡ codes.Unexpected) ⊎ (code ≡ codes.TooDeep) →
      RefusedProgram tokens (At spot code)
  refused_so left spot code e (inl is) =
      subst (λ (k : Code). RefusedProgram tokens (At spot k)) (sym is)
      ((exact tokens).unexpected left spot (subst (λ (k : Code). read 0 tokens (program ∷ []) [] ≡ refused left spot k) is e))
  refused_so left spot code e (inr is) =
      subst (λ (k : Code). RefusedProgram tokens (At spot k)) (sym is)
      ((exact tokens).too_deep left spot (subst (λ (k : Code). read 0 tokens (program ∷ []) [] ≡ refused left spot k) is e))

  before_token : (t : Token) (rest : List Token) (ws : List Value) → EndsOnce (t ∷ rest) → read 0 tokens (program ∷ []) [] ≡ to (t ∷ rest) ws → Parsed tokens
  before_token t rest ws ends e = by_kind (is_end_or_not t.kind)
    where
      by_kind : (t.kind ≡ kinds.End) ⊎ (t.kind ≡ kinds.End → ⊥) → Parsed tokens
      by_kind (inl k) =
          let p = program_sound 0 tokens (t ∷ rest) ws e in
          parsed p.0 (record { last = t; is = subst (λ (l : List Token). IsProgram 0 tokens p.0 (t ∷ l)) (only_end t rest k ends) p.2; ended = k })
      by_kind (inr k) =
          let p = program_sound 0 tokens (t ∷ rest) ws e in
          unparsed t.spot codes.TextAfterEnd ((exact tokens).behind t rest p.0 (e ∙ ap (λ (us : List Value). to (t ∷ rest) us) p.1) k)

  by_reading : (r : Reading) → read 0 tokens (program ∷ []) [] ≡ r → IsAnswer r → Parsed tokens
  by_reading _ e (ends_at t rest ws ends) = before_token t rest ws ends e
  by_reading _ e (is_refused left spot code) = unparsed spot code (refused_so left spot code e ((exact tokens).only left spot code e))

  pub parsed_or_refused : EndsOnce tokens → Parsed tokens
  parsed_or_refused ends = by_reading (read 0 tokens (program ∷ []) []) refl (answers 0 tokens outside (program ∷ []) [] ends)
