-- No program is a front of another.
use Rattle.std.proofs.Common.{◌≡◌, ◌⊎◌, ℕ, Bool, true, false, ◌&&◌, List, [], ◌∷◌, ◌++◌, refl, sym, subst, ap, ◌∙◌, inl, inr, arith}
use Rattle.algol_tree.specs.declared.token.Spot.{Spot}
use Rattle.algol_tree.specs.declared.token.Token.{Token}
use Rattle.algol_tree.specs.declared.token.TokenKind.{TokenKind}
use Rattle.algol_tree.specs.declared.token.TokenKind.TheVariants as kinds
use Rattle.algol_tree.specs.declared.token.Reserved.TheVariants as reserved
use Rattle.algol_tree.specs.declared.token.Symbol.TheVariants as symbols
use Rattle.algol_tree.specs.Plain.{no_decls, no_stmts}
use Rattle.algol_tree.specs.Tokens.{is_word, is_symbol}
use Rattle.algol_tree.specs.Refused.{Programs}
use Rattle.algol_tree.specs.Due.{Value, declared, list, whole_program, Make, value_put, Due, make, word, symbol, statement, stmts_more, declarations, program, takes, refuses, plain, nests, either}
use Rattle.algol_tree.specs.DueStmt.{programmed, stmt_added}
use Rattle.algol_tree.specs.Reading.{Count, outside, full, limit_counted, Judged, limit_broken, broken_at, ReadingStep, goes, over, stops, unless, stepped, step, to, cut_off, read_on, read_end, judged, unjudged, nowhere, reading, read}
use Rattle.algol_expr.proofs.Reading.{joined, step_append}
use Rattle.algol_expr.proofs.Steps.{strict, judged_strict, unless_goes, unless_over, goes_is}
use Rattle.algol_grammar.proofs.Feed.{step_any}
use Rattle.algol_grammar.proofs.Outset.{program_reads}

-- ---- what is due last of a program

abbrev bottom : Make → List Due
bottom m = symbol symbols.Period ∷ make m ∷ []

module _ (m : Make) (j : Judged) (spot : Spot) (k : TokenKind) where
  last_over : (b : Bool) (c n : Count) (vs us : List Value) →
      stepped j c spot (either b (takes plain []) refuses) (make m ∷ []) vs (step j (make m ∷ []) spot k) ≡ over n us → ⊥
  last_over true c n vs us e = unless_over (full c && j.here) spot (limit_counted plain c) n (make m ∷ []) vs us e
  last_over false c n vs us e = cc

  last_goes : (b : Bool) (c n : Count) (vs us : List Value) (ds : List Due) →
      stepped j c spot (either b (takes plain []) refuses) (make m ∷ []) vs (step j (make m ∷ []) spot k) ≡ goes n ds us → ds ≡ make m ∷ []
  last_goes true c n vs us ds e =
      let p = unless_goes (full c && j.here) spot (goes (limit_counted plain c) (make m ∷ []) vs) n ds us e in
      let q = goes_is (limit_counted plain c) n (make m ∷ []) ds vs us p.1 in sym q.1
  last_goes false c n vs us ds e = cc

  -- reading does not end before them
  joined_over : (x : ReadingStep) (n : Count) (us : List Value) → joined x (bottom m) (step j (bottom m) spot k) ≡ over n us → ⊥
  joined_over (goes c ds vs) n us e = cc
  joined_over (over c vs) n us e = last_over (is_symbol symbols.Period k) c n vs us e
  joined_over (stops place code) n us e = cc

  joined_goes : (x : ReadingStep) (n : Count) (ds : List Due) (us : List Value) → joined x (bottom m) (step j (bottom m) spot k) ≡ goes n ds us →
      ((es : List Due) × (ds ≡ es ++ bottom m)) ⊎ (ds ≡ make m ∷ [])
  joined_goes (goes c es vs) n ds us e = let p = goes_is c n (es ++ bottom m) ds vs us e in inl (es, sym p.1)
  joined_goes (over c vs) n ds us e = inr (last_goes (is_symbol symbols.Period k) c n vs us ds e)
  joined_goes (stops place code) n ds us e = cc

  never_over : (es : List Due) (c n : Count) (vs us : List Value) → step j (es ++ bottom m) spot k c vs ≡ over n us → ⊥
  never_over es c n vs us e = joined_over (step j es spot k c vs) n us (sym (step_append j es (bottom m) spot k c vs) ∙ e)

  goes_to : (es : List Due) (c n : Count) (vs us : List Value) (ds : List Due) → step j (es ++ bottom m) spot k c vs ≡ goes n ds us →
      ((fs : List Due) × (ds ≡ fs ++ bottom m)) ⊎ (ds ≡ make m ∷ [])
  goes_to es c n vs us ds e = joined_goes (step j es spot k c vs) n ds us (sym (step_append j es (bottom m) spot k c vs) ∙ e)

-- ---- a whole program is read as far, whatever follows

made_more : (m : Make) (front : List Token) (c : Count) (vs ws : List Value) → reading 0 front c (make m ∷ []) vs ≡ to [] ws →
    (free : ℕ) (t : Token) (more : List Token) → reading free (front ++ t ∷ more) c (make m ∷ []) vs ≡ to (t ∷ more) ws
unfolding reading
made_more m [] c vs ws e free t more =
    let so : to [] (m vs) ≡ to [] ws = e in
    let same : m vs ≡ ws = cc in ap (to (t ∷ more)) same
made_more m (u ∷ front) c vs ws e free t more = let no : to (u ∷ front) (m vs) ≡ to [] ws = e in cc

read_more : (m : Make) (front : List Token) (es : List Due) (c : Count) (vs ws : List Value) → reading 0 front c (es ++ bottom m) vs ≡ to [] ws →
    (free : ℕ) (t : Token) (more : List Token) → reading free (front ++ t ∷ more) c (es ++ bottom m) vs ≡ to (t ∷ more) ws
unfolding reading
read_more m [] es c vs ws e free t more = at_end (step unjudged (es ++ bottom m) nowhere kinds.End c vs) refl e
  where
    at_end : (x : ReadingStep) → step unjudged (es ++ bottom m) nowhere kinds.End c vs ≡ x → read_end x ≡ to [] ws →
        reading free (t ∷ more) c (es ++ bottom m) vs ≡ to (t ∷ more) ws
    at_end (goes n ds us) is e = cc
    at_end (over n us) is e = absurd (never_over m unjudged nowhere kinds.End es c n vs us is)
    at_end (stops place code) is e = cc
read_more m (u ∷ front) es c vs ws e free t more = at_token (step strict (es ++ bottom m) u.spot u.kind c vs) refl
    (subst (λ j. read_on (step j (es ++ bottom m) u.spot u.kind c vs) u front (reading 0 front) ≡ to [] ws) (judged_strict 0 u front (omega arith)) e)
    (λ fs n us e. read_more m front fs n us ws e free t more)
  where
    by_left : (n : Count) (ds : List Due) (us : List Value) → ((fs : List Due) × (ds ≡ fs ++ bottom m)) ⊎ (ds ≡ make m ∷ []) → reading 0 front n ds us ≡ to [] ws →
        ((fs : List Due) (n : Count) (us : List Value) → reading 0 front n (fs ++ bottom m) us ≡ to [] ws → reading free (front ++ t ∷ more) n (fs ++ bottom m) us ≡ to (t ∷ more) ws) →
        reading free (front ++ t ∷ more) n ds us ≡ to (t ∷ more) ws
    by_left n ds us (inl (fs, q)) e again = subst (λ ds. reading free (front ++ t ∷ more) n ds us ≡ to (t ∷ more) ws) (sym q)
        (again fs n us (subst (λ ds. reading 0 front n ds us ≡ to [] ws) q e))
    by_left n ds us (inr q) e again = subst (λ ds. reading free (front ++ t ∷ more) n ds us ≡ to (t ∷ more) ws) (sym q)
        (made_more m front n us ws (subst (λ ds. reading 0 front n ds us ≡ to [] ws) q e) free t more)

    at_token : (x : ReadingStep) → step strict (es ++ bottom m) u.spot u.kind c vs ≡ x → read_on x u front (reading 0 front) ≡ to [] ws →
        ((fs : List Due) (n : Count) (us : List Value) → reading 0 front n (fs ++ bottom m) us ≡ to [] ws → reading free (front ++ t ∷ more) n (fs ++ bottom m) us ≡ to (t ∷ more) ws) →
        reading free (u ∷ (front ++ t ∷ more)) c (es ++ bottom m) vs ≡ to (t ∷ more) ws
    at_token (goes n ds us) is e again =
        ap (λ x. read_on x u (front ++ t ∷ more) (reading free (front ++ t ∷ more)))
        (step_any (judged free (u ∷ (front ++ t ∷ more))) (es ++ bottom m) u.spot u.kind c vs n ds us is)
        ∙ by_left n ds us (goes_to m strict u.spot u.kind es c n vs us ds is) e again
    at_token (over n us) is e again = cc
    at_token (stops place code) is e again = cc

-- what BEGIN makes due of a program, but for the last
abbrev opened : List Due
opened = make (value_put (declared no_decls)) ∷ declarations 1 ∷ make (value_put (list no_stmts)) ∷ statement 1 ∷ make stmt_added ∷ stmts_more 1 ∷ word reserved.End ∷ []

begins_goes : (spot : Spot) (b : Bool) (on : Count → List Value → ReadingStep) (n : Count) (ds : List Due) (us : List Value) →
    stepped strict outside spot (either b (takes (nests 0) (opened ++ bottom (programmed spot))) refuses) [] [] on ≡ goes n ds us → ds ≡ opened ++ bottom (programmed spot)
begins_goes spot true on n ds us e =
    let p = unless_goes (full outside && true) spot (unless (limit_broken (nests 0) strict) (broken_at (nests 0) spot) (goes (limit_counted (nests 0) outside) (opened ++ bottom (programmed spot)) [])) n ds us e in
    let q = unless_goes (limit_broken (nests 0) strict) (broken_at (nests 0) spot) (goes (limit_counted (nests 0) outside) (opened ++ bottom (programmed spot)) []) n ds us p.1 in
    let r = goes_is (limit_counted (nests 0) outside) n (opened ++ bottom (programmed spot)) ds [] us q.1 in sym r.1
begins_goes spot false on n ds us e = cc

program_more : (front : List Token) (ws : List Value) → read 0 front (program ∷ []) [] ≡ to [] ws →
    (free : ℕ) (t : Token) (more : List Token) → read free (front ++ t ∷ more) (program ∷ []) [] ≡ to (t ∷ more) ws
unfolding reading
program_more [] ws e free t more = let no : cut_off ≡ to [] ws = e in cc
program_more (u ∷ front) ws e free t more = at_token (step strict (program ∷ []) u.spot u.kind outside []) refl
    (subst (λ j. read_on (step j (program ∷ []) u.spot u.kind outside []) u front (reading 0 front) ≡ to [] ws) (judged_strict 0 u front (omega arith)) e)
  where
    at_token : (x : ReadingStep) → step strict (program ∷ []) u.spot u.kind outside [] ≡ x → read_on x u front (reading 0 front) ≡ to [] ws →
        read free (u ∷ (front ++ t ∷ more)) (program ∷ []) [] ≡ to (t ∷ more) ws
    at_token (goes n ds us) is e =
        let q : ds ≡ opened ++ bottom (programmed u.spot) = begins_goes u.spot (is_word reserved.Begin u.kind) (step strict [] u.spot u.kind) n ds us is in
        ap (λ x. read_on x u (front ++ t ∷ more) (reading free (front ++ t ∷ more)))
        (step_any (judged free (u ∷ (front ++ t ∷ more))) (program ∷ []) u.spot u.kind outside [] n ds us is)
        ∙ subst (λ ds. reading free (front ++ t ∷ more) n ds us ≡ to (t ∷ more) ws) (sym q)
        (read_more (programmed u.spot) front opened n us ws (subst (λ ds. reading 0 front n ds us ≡ to [] ws) q e) free t more)
    at_token (over n us) is e = cc
    at_token (stops place code) is e = cc

-- no program is a front of another
pub no_front : (front : List Token) (t : Token) (more : List Token) (free : ℕ) → Programs 0 front → Programs free (front ++ t ∷ more) → ⊥
no_front front t more free x y =
    let no : to [] (whole_program y.0 ∷ []) ≡ to (t ∷ more) (whole_program x.0 ∷ []) =
    sym (program_reads free (front ++ t ∷ more) y) ∙ program_more front (whole_program x.0 ∷ []) (program_reads 0 front x) free t more in cc
