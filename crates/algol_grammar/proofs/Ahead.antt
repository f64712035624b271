-- A token that keeps the limits in one text keeps them in another that goes on alike: they are known at the token after it.
use Rattle.std.proofs.Common.{◌≡◌, ◌≤◌, ◌<◌, ◌+◌, ℕ, nat_lt, true, false, List, [], ◌∷◌, ◌++◌, length, length-append, refl, sym, subst, ap, ◌∙◌, arith}
use Rattle.std.proofs.lemmas.Bool.Decides.{nat_tests}
use Rattle.algol_tree.specs.declared.token.Token.{Token}
use Rattle.algol_tree.specs.Refused.{Programs}
use Rattle.algol_tree.specs.Due.{Value, whole_program, Due, program}
use Rattle.algol_tree.specs.Reading.{Count, outside, ReadingStep, goes, over, stops, step, to, read_on, judged, unjudged, reading}
use Rattle.algol_expr.proofs.Steps.{strict, judged_strict, goes_is}
use Rattle.algol_grammar.proofs.Sound.{program_sound}
use Rattle.algol_grammar.proofs.Outset.{program_reads}
use Rattle.algol_grammar.proofs.Laxer.{goes_lax}

-- a token is gone over
record Went (free : ℕ) (t : Token) (ts : List Token) (c : Count) (due : List Due) (vs ws : List Value) : Type 0 where
  n : Count
  ds : List Due
  us : List Value
  goes_so : step (judged free (t ∷ ts)) due t.spot t.kind c vs ≡ goes n ds us
  on : reading free ts n ds us ≡ to [] ws

gone_over : (free : ℕ) (t : Token) (ts : List Token) (c : Count) (due : List Due) (vs ws : List Value) → reading free (t ∷ ts) c due vs ≡ to [] ws → Went free t ts c due vs ws
unfolding reading
gone_over free t ts c due vs ws e = by_step (step (judged free (t ∷ ts)) due t.spot t.kind c vs) refl e
  where
    by_step : (x : ReadingStep) → step (judged free (t ∷ ts)) due t.spot t.kind c vs ≡ x → read_on x t ts (reading free ts) ≡ to [] ws → Went free t ts c due vs ws
    by_step (goes n ds us) is e = record { n = n; ds = ds; us = us; goes_so = is; on = e }
    by_step (over n us) is e = cc
    by_step (stops place code) is e = cc

goes_on : (free : ℕ) (t : Token) (ts : List Token) (c n : Count) (due ds : List Due) (vs us ws : List Value) → step (judged free (t ∷ ts)) due t.spot t.kind c vs ≡ goes n ds us →
    reading free ts n ds us ≡ to [] ws → reading free (t ∷ ts) c due vs ≡ to [] ws
unfolding reading
goes_on free t ts c n due ds vs us ws is e = ap (λ x. read_on x t ts (reading free ts)) is ∙ e

-- the two ways to go over a token are one
gone_so : (free : ℕ) (t : Token) (ts : List Token) (c n : Count) (due ds : List Due) (vs us ws : List Value) → step (judged free (t ∷ ts)) due t.spot t.kind c vs ≡ goes n ds us →
    reading free (t ∷ ts) c due vs ≡ to [] ws → reading free ts n ds us ≡ to [] ws
gone_so free t ts c n due ds vs us ws is e =
    let w = gone_over free t ts c due vs ws e in
    let p = goes_is w.n n w.ds ds w.us us (sym w.goes_so ∙ is) in
    subst (λ us. reading free ts n ds us ≡ to [] ws) p.2 (subst (λ ds. reading free ts n ds w.us ≡ to [] ws) p.1 (subst (λ n. reading free ts n w.ds w.us ≡ to [] ws) p.0 w.on))

not_judged : (free : ℕ) (ts : List Token) → length ts < free → judged free ts ≡ unjudged
not_judged free ts lt =
    let here : nat_lt free (length ts) ≡ false = grind (arith, nat_tests) in
    let before : nat_lt free (length ts + 1) ≡ false = grind (arith, nat_tests) in
    rw (here, before) refl

unjudged_same : (free other : ℕ) (ts : List Token) (c : Count) (due : List Due) (vs ws : List Value) → length ts < free → length ts < other →
    reading free ts c due vs ≡ to [] ws → reading other ts c due vs ≡ to [] ws
unfolding reading
unjudged_same free other [] c due vs ws a b e = e
unjudged_same free other (t ∷ ts) c due vs ws a b e =
    let w = gone_over free t ts c due vs ws e in
    let same : judged free (t ∷ ts) ≡ judged other (t ∷ ts) = not_judged free (t ∷ ts) a ∙ sym (not_judged other (t ∷ ts) b) in
    goes_on other t ts c w.n due w.ds vs w.us ws (subst (λ j. step j due t.spot t.kind c vs ≡ goes w.n w.ds w.us) same w.goes_so)
    (unjudged_same free other ts w.n w.ds w.us ws (omega (arith, a)) (omega (arith, b)) w.on)

-- two texts that are alike up to the token u after t: in one of them t is judged
module _ (t u : Token) (rest others : List Token) (free : ℕ) (within : free ≤ length (u ∷ others)) where
  -- where t is judged by what comes after it
  at_token : (c : Count) (due : List Due) (vs ws xs : List Value) → reading (1 + length (u ∷ rest)) (t ∷ u ∷ rest) c due vs ≡ to [] ws →
      reading free (t ∷ u ∷ others) c due vs ≡ to [] xs → reading (length (u ∷ rest)) (t ∷ u ∷ rest) c due vs ≡ to [] ws
  at_token c due vs ws xs e f =
      let b = gone_over free t (u ∷ others) c due vs xs f in
      let hard : step strict due t.spot t.kind c vs ≡ goes b.n b.ds b.us =
      subst (λ j. step j due t.spot t.kind c vs ≡ goes b.n b.ds b.us) (judged_strict free t (u ∷ others) within) b.goes_so in
      let soft = goes_lax strict (judged (1 + length (u ∷ rest)) (t ∷ u ∷ rest)) (λ h. refl) (λ h. refl) due t.spot t.kind c vs b.n b.ds b.us hard in
      let e1 = gone_so (1 + length (u ∷ rest)) t (u ∷ rest) c b.n due b.ds vs b.us ws soft e in
      let d = gone_over free u others b.n b.ds b.us xs b.on in
      let never : nat_lt (length (u ∷ rest)) (length (u ∷ rest)) ≡ false = grind (arith, nat_tests) in
      let always : nat_lt free (length (u ∷ others) + 1) ≡ true = grind (arith, nat_tests, within) in
      let next = goes_lax (judged free (u ∷ others)) (judged (length (u ∷ rest)) (u ∷ rest)) (λ h. let no : false ≡ true = sym never ∙ h in cc) (λ h. always)
      b.ds u.spot u.kind b.n b.us d.n d.ds d.us d.goes_so in
      let gone : nat_lt (1 + length (u ∷ rest)) (length (u ∷ rest)) ≡ false = grind (arith, nat_tests) in
      let past : nat_lt (1 + length (u ∷ rest)) (length (u ∷ rest) + 1) ≡ false = grind (arith, nat_tests) in
      let after = goes_lax (judged free (u ∷ others)) (judged (1 + length (u ∷ rest)) (u ∷ rest)) (λ h. let no : false ≡ true = sym gone ∙ h in cc)
      (λ h. let no : false ≡ true = sym past ∙ h in cc) b.ds u.spot u.kind b.n b.us d.n d.ds d.us d.goes_so in
      let e2 = gone_so (1 + length (u ∷ rest)) u rest b.n d.n b.ds d.ds b.us d.us ws after e1 in
      let e3 = unjudged_same (1 + length (u ∷ rest)) (length (u ∷ rest)) rest d.n d.ds d.us ws (omega arith) (omega arith) e2 in
      goes_on (length (u ∷ rest)) t (u ∷ rest) c b.n due b.ds vs b.us ws
      (subst (λ j. step j due t.spot t.kind c vs ≡ goes b.n b.ds b.us) (sym (judged_strict (length (u ∷ rest)) t (u ∷ rest) (omega arith))) hard)
      (goes_on (length (u ∷ rest)) u rest b.n d.n b.ds d.ds b.us d.us ws next e3)

  -- and before it
  judged_too : (front : List Token) (c : Count) (due : List Due) (vs ws xs : List Value) → reading (1 + length (u ∷ rest)) (front ++ t ∷ u ∷ rest) c due vs ≡ to [] ws →
      reading free (front ++ t ∷ u ∷ others) c due vs ≡ to [] xs → reading (length (u ∷ rest)) (front ++ t ∷ u ∷ rest) c due vs ≡ to [] ws
  judged_too [] c due vs ws xs e f = at_token c due vs ws xs e f
  judged_too (v ∷ front) c due vs ws xs e f =
      let a = gone_over (1 + length (u ∷ rest)) v (front ++ t ∷ u ∷ rest) c due vs ws e in
      let long : 1 + length (u ∷ rest) ≤ length (front ++ t ∷ u ∷ rest) = grind (arith, length-append) in
      let less : length (u ∷ rest) ≤ length (front ++ t ∷ u ∷ rest) = omega (arith, long) in
      let wide : free ≤ length (front ++ t ∷ u ∷ others) = grind (arith, length-append, within) in
      let hard : step strict due v.spot v.kind c vs ≡ goes a.n a.ds a.us =
      subst (λ j. step j due v.spot v.kind c vs ≡ goes a.n a.ds a.us) (judged_strict (1 + length (u ∷ rest)) v (front ++ t ∷ u ∷ rest) long) a.goes_so in
      let other = gone_so free v (front ++ t ∷ u ∷ others) c a.n due a.ds vs a.us xs
      (subst (λ j. step j due v.spot v.kind c vs ≡ goes a.n a.ds a.us) (sym (judged_strict free v (front ++ t ∷ u ∷ others) wide)) hard) f in
      goes_on (length (u ∷ rest)) v (front ++ t ∷ u ∷ rest) c a.n due a.ds vs a.us ws
      (subst (λ j. step j due v.spot v.kind c vs ≡ goes a.n a.ds a.us) (sym (judged_strict (length (u ∷ rest)) v (front ++ t ∷ u ∷ rest) less)) hard)
      (judged_too front a.n a.ds a.us ws xs a.on other)

  pub program_judged : (front : List Token) → Programs (1 + length (u ∷ rest)) (front ++ t ∷ u ∷ rest) → Programs free (front ++ t ∷ u ∷ others) →
      Programs (length (u ∷ rest)) (front ++ t ∷ u ∷ rest)
  program_judged front x y =
      let r = program_sound (length (u ∷ rest)) (front ++ t ∷ u ∷ rest) [] (whole_program x.0 ∷ [])
      (judged_too front outside (program ∷ []) [] (whole_program x.0 ∷ []) (whole_program y.0 ∷ [])
      (program_reads (1 + length (u ∷ rest)) (front ++ t ∷ u ∷ rest) x) (program_reads free (front ++ t ∷ u ∷ others) y)) in (r.0, r.2)
