-- What keeps the limits but for its last tokens, keeps them but for more of them.
use Rattle.std.proofs.Common.{◌≡◌, ◌≤◌, ℕ, nat_le, Bool, true, false, ◌&&◌, List, [], ◌∷◌, ◌++◌, refl, sym, ap, ◌∙◌, arith}
use Rattle.std.proofs.lemmas.Bool.Decides.{nat_tests}
use Rattle.algol_tree.specs.declared.TheConstants.{MOST_NESTING}
use Rattle.algol_tree.specs.declared.token.Spot.{Spot}
use Rattle.algol_tree.specs.declared.token.Token.{Token}
use Rattle.algol_tree.specs.declared.token.TokenKind.{TokenKind}
use Rattle.algol_tree.specs.Refused.{Programs}
use Rattle.algol_tree.specs.Due.{Value, whole_program, Due, program, Limit, plain, nests, label, begun, Turn, takes, makes, skips, closes, refuses}
use Rattle.algol_tree.specs.Reading.{reading_turn, Count, outside, full, limit_counted, Judged, limit_broken, broken_at, ReadingStep, goes, over, stops, unless, stepped, step, to, read_on, judged, reading}
use Rattle.algol_expr.proofs.Steps.{unless_goes}
use Rattle.algol_grammar.proofs.Sound.{program_sound}
use Rattle.algol_grammar.proofs.Outset.{program_reads}
use Rattle.algol_grammar.proofs.Idle.{never_over}

falls : (a b c : Bool) → (c ≡ true → b ≡ true) → (a && b) ≡ false → (a && c) ≡ false
falls true b true h e = let no : true ≡ false = sym (h refl) ∙ e in cc
falls true b false h e = refl
falls false b c h e = refl

-- a token for which no more limits count
module _ (j k : Judged) (here : k.here ≡ true → j.here ≡ true) (before : k.before ≡ true → j.before ≡ true) where
  broken_lax : (l : Limit) → limit_broken l j ≡ false → limit_broken l k ≡ false
  broken_lax plain e = refl
  broken_lax (nests d) e = falls (nat_le MOST_NESTING d) j.here k.here here e
  broken_lax (label d spot) e = falls (nat_le MOST_NESTING d) j.before k.before before e
  broken_lax (begun l) e = broken_lax l e

  pub goes_lax : (due : List Due) (spot : Spot) (kind : TokenKind) (c : Count) (vs : List Value) (n : Count) (ds : List Due) (us : List Value) →
      step j due spot kind c vs ≡ goes n ds us → step k due spot kind c vs ≡ goes n ds us
  goes_lax [] spot kind c vs n ds us e = cc
  goes_lax (s ∷ due) spot kind c vs n ds us e = by_turn (reading_turn s spot kind) e (λ c vs e. goes_lax due spot kind c vs n ds us e)
    where
      by_turn : (x : Turn) → stepped j c spot x due vs (step j due spot kind) ≡ goes n ds us →
          ((c : Count) (vs : List Value) → step j due spot kind c vs ≡ goes n ds us → step k due spot kind c vs ≡ goes n ds us) →
          stepped k c spot x due vs (step k due spot kind) ≡ goes n ds us
      by_turn (takes l es) e again =
          let p = unless_goes (full c && j.here) spot (unless (limit_broken l j) (broken_at l spot) (goes (limit_counted l c) (es ++ due) vs)) n ds us e in
          let q = unless_goes (limit_broken l j) (broken_at l spot) (goes (limit_counted l c) (es ++ due) vs) n ds us p.1 in
          rw (falls (full c) j.here k.here here p.0, broken_lax l q.0) q.1
      by_turn (makes m) e again = again c (m vs) e
      by_turn skips e again = again c vs e
      by_turn closes e again = again outside vs e
      by_turn refuses e again = cc

-- where reading ends, limits do not count
over_any : (j k : Judged) (due : List Due) (spot : Spot) (kind : TokenKind) (c : Count) (vs : List Value) (n : Count) (us : List Value) →
    step j due spot kind c vs ≡ over n us → step k due spot kind c vs ≡ over n us
over_any j k [] spot kind c vs n us e = e
over_any j k (s ∷ due) spot kind c vs n us e = by_turn (reading_turn s spot kind) e (λ c vs e. over_any j k due spot kind c vs n us e)
  where
    by_turn : (x : Turn) → stepped j c spot x due vs (step j due spot kind) ≡ over n us →
        ((c : Count) (vs : List Value) → step j due spot kind c vs ≡ over n us → step k due spot kind c vs ≡ over n us) →
        stepped k c spot x due vs (step k due spot kind) ≡ over n us
    by_turn (takes l es) e again = absurd (never_over (full c && j.here) (limit_broken l j) spot (broken_at l spot) (limit_counted l c) n (es ++ due) vs us e)
    by_turn (makes m) e again = again c (m vs) e
    by_turn skips e again = again c vs e
    by_turn closes e again = again outside vs e
    by_turn refuses e again = cc

less_here : (free more : ℕ) (ts : List Token) → free ≤ more → (judged more ts).here ≡ true → (judged free ts).here ≡ true
less_here free more ts le h = grind (arith, nat_tests)

less_before : (free more : ℕ) (ts : List Token) → free ≤ more → (judged more ts).before ≡ true → (judged free ts).before ≡ true
less_before free more ts le h = grind (arith, nat_tests)

reading_lax : (free more : ℕ) (ts : List Token) (c : Count) (due : List Due) (vs : List Value) (rest : List Token) (ws : List Value) → free ≤ more →
    reading free ts c due vs ≡ to rest ws → reading more ts c due vs ≡ to rest ws
unfolding reading
reading_lax free more [] c due vs rest ws le e = e
reading_lax free more (t ∷ ts) c due vs rest ws le e = at_token (step (judged free (t ∷ ts)) due t.spot t.kind c vs) refl e
    (λ n ds us e. reading_lax free more ts n ds us rest ws le e)
  where
    at_token : (x : ReadingStep) → step (judged free (t ∷ ts)) due t.spot t.kind c vs ≡ x → read_on x t ts (reading free ts) ≡ to rest ws →
        ((n : Count) (ds : List Due) (us : List Value) → reading free ts n ds us ≡ to rest ws → reading more ts n ds us ≡ to rest ws) →
        reading more (t ∷ ts) c due vs ≡ to rest ws
    at_token (goes n ds us) is e again =
        ap (λ x. read_on x t ts (reading more ts))
        (goes_lax (judged free (t ∷ ts)) (judged more (t ∷ ts)) (less_here free more (t ∷ ts) le) (less_before free more (t ∷ ts) le) due t.spot t.kind c vs n ds us is)
        ∙ again n ds us e
    at_token (over n us) is e again =
        ap (λ x. read_on x t ts (reading more ts)) (over_any (judged free (t ∷ ts)) (judged more (t ∷ ts)) due t.spot t.kind c vs n us is) ∙ e
    at_token (stops place code) is e again = cc

pub keeps_fewer : (free more : ℕ) (text : List Token) → free ≤ more → Programs free text → Programs more text
keeps_fewer free more text le x =
    let r = program_sound more text [] (whole_program x.0 ∷ [])
    (reading_lax free more text outside (program ∷ []) [] [] (whole_program x.0 ∷ []) le (program_reads free text x)) in (r.0, r.2)
