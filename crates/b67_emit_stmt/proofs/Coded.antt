-- The code of actuals, one after another.
use Rattle.std.proofs.Common.{◌≡◌, ℕ, zero, suc, ◌+◌, ◌≤◌, Bool, true, false, List, [], ◌∷◌, ◌++◌, length, drop, refl, sym, ap, ◌∙◌, subst, arith, append-nil, append_assoc}
use Rattle.std.specs.Prelude.{◌==◌, Option, Some}
use Rattle.std.specs.Borrow.{Bor}
use Rattle.std.specs.List.{All}
use Rattle.std.proofs.Math.ListN.{drop_of_length-le}
use Rattle.std.proofs.lemmas.List.{length-map}
use Rattle.std.proofs.lemmas.List.Elements.{All-append, All-cons, All-nil}
use Rattle.algol_tree.specs.declared.tree.Expr.{Expr}
use Rattle.algol_tree.specs.declared.tree.Kind.{Kind}
use Rattle.algol_tree.specs.Image.{expr}
use Rattle.algol_tree.specs.Plain.{PExpr}
use Rattle.b67_ops.specs.declared.TheConstants.{MOST_LEVEL}
use Rattle.b67_segment.specs.Operators.{Placed, size}
use Rattle.b67_segment.specs.Building.{Built, level_set}
use Rattle.b67_templates.specs.Cells.{Actual, has_place}
use Rattle.b67_templates.specs.Code as code
use Rattle.b67_templates.specs.Emitting.{Emitted}
use Rattle.b67_templates.specs.Fitting.{ExprFits}
use Rattle.b67_templates.specs.Paying.{routine_code}
use Rattle.b67_emitter.specs.Values.{HasCode, RoutineEmitted, meanings}
use Rattle.b67_emitter.proofs.Composing.{then, weaker}
use Rattle.b67_emitter.proofs.Appends.{same_level}
use Rattle.b67_list.proofs.Lists.{drop_map}
use Rattle.b67_emit_stmt.specs.declared.draft.Draft.{Draft}
use Rattle.b67_emit_stmt.specs.declared.draft.Known.{Known}
use Rattle.b67_emit_stmt.specs.Actuals.{exprs_of, images, HaveValues}
use Rattle.b67_emit_stmt.specs.Bodies.{AreActuals, CodesEmitted, EmitsRoutines}
use Rattle.b67_emit_stmt.specs.Drafts.{Emits, HasFew, DraftIsAt}
use Rattle.b67_emit_stmt.specs.Lengths.{expr_syllables, routines_syllables}
use Rattle.b67_emit_stmt.specs.Places.{Later, Place, RoutinesAt, context_in}
use Rattle.b67_emit_stmt.proofs.Drafts.{piece}
use Rattle.b67_emit_stmt.proofs.Levels.{set_back}
use Rattle.b67_emit_stmt.proofs.Parts.{emitted_none}

-- ---- lists

pub behind : {X : Type 0} (xs : List X) (i : ℕ) (x : X) (rest : List X) → drop i xs ≡ x ∷ rest → drop (i + 1) xs ≡ rest
behind {X} (y ∷ ys) zero x rest is = cc
behind {X} [] zero x rest is = cc
behind {X} [] (suc i) x rest is = cc
behind {X} (y ∷ ys) (suc i) x rest is = let n : suc i + 1 ≡ suc (i + 1) = omega arith in ap (λ (k : ℕ). drop k (y ∷ ys)) n ∙ behind ys i x rest is

pub all_more : {X : Type 0} (P : X → Type 0) (xs : List X) (x : X) → All P xs → P x → All P (xs ++ x ∷ [])
all_more {X} P xs x h k = All-append P xs (x ∷ []) h (All-cons P x [] k (All-nil P))

-- the actuals from a number on have these trees
pub left_as : (own : List Actual) (xs : List (Bor Expr)) (i : ℕ) → exprs_of own ≡ images xs → exprs_of (drop i own) ≡ images (drop i xs)
left_as own xs i same =
    drop_map (λ (a : Actual). a.expr) own i ∙ ap (λ (l : List PExpr). drop i l) same ∙ sym (drop_map (λ (e : Bor Expr). expr e.now) xs i)

pub as_many : (own : List Actual) (xs : List (Bor Expr)) → exprs_of own ≡ images xs → length own ≡ length xs
as_many own xs same =
    omega (arith, length-map own (λ (a : Actual). a.expr), ap (λ (l : List PExpr). length l) same, length-map xs (λ (e : Bor Expr). expr e.now))

-- whether there are any
pub some_of : (empty : Bool) (n : ℕ) → empty ≡ (n == 0) → empty ≡ false → 1 ≤ n
some_of empty n is off = grind (arith)

-- ---- lengths

-- the code of an actual is some
pub some_code : (place : Bool) (n : ℕ) → 1 ≤ routine_code place n
some_code true n = omega arith
some_code false n = omega arith

-- ---- values

module _ (s : Known) (sc : Place) (level : ℕ) where
  abbrev Have : List Actual → Type 0
  Have own = HaveValues sc.scopes (meanings s.names.now) level sc.block own

  left_have : (own : List Actual) (i : ℕ) → Have own → Have (drop i own)
  left_have own zero h = h
  left_have [] (suc i) h = tt
  left_have (a ∷ own) (suc i) h = left_have own i h.2

  pub inner_level : (own : List Actual) → 1 ≤ length own → Have own → level + 1 ≤ MOST_LEVEL
  inner_level [] some h = absurd (omega (arith, some))
  inner_level (a ∷ own) some h = h.1

  -- the next has a value
  next_value : (own : List Actual) (x : PExpr) (rest : List PExpr) → exprs_of own ≡ x ∷ rest → Have own → (k : Kind) × ExprFits sc.scopes (meanings s.names.now) level sc.block k x
  next_value [] x rest is h = absurd (let clash : [] ≡ x ∷ rest = is in cc)
  next_value (a ∷ own) x rest is h =
      let there : a.expr ∷ exprs_of own ≡ x ∷ rest = is in
      let same : a.expr ≡ x = cc in
      let F : PExpr → Type 0 = λ e. ExprFits sc.scopes (meanings s.names.now) level sc.block a.kind e in
      (a.kind, subst F same h.0)

-- ---- one after another

module _ (s : Known) (level : ℕ) (xs : List (Bor Expr)) where
  -- there is an actual's level further in
  pub some_inner : (sc : Place) (own : List Actual) → AreActuals sc s level (images xs) own → 1 ≤ length xs → level + 1 ≤ MOST_LEVEL
  some_inner sc own are some = inner_level s sc level own (omega (arith, as_many own xs are.same, some)) are.values

  -- the next has code
  pub next_code : (sc : Place) (own : List Actual) → AreActuals sc s level (images xs) own → (i : ℕ) (x : Bor Expr) (rest : List (Bor Expr)) → drop i xs ≡ x ∷ rest → (set : ℕ) → level ≤ set →
      HasCode s.names.now set (expr x.now)
  next_code sc own are i x rest is set le =
      let there : exprs_of (drop i own) ≡ expr x.now ∷ images rest = left_as own xs i are.same ∙ ap images is in
      let value = next_value s sc level (drop i own) (expr x.now) (images rest) there (left_have s sc level own i are.values) in
      record { scopes = sc.scopes; own = level; block = sc.block; kind = value.0; outer = le; fits = value.1 }

  -- how long the code of the next is
  pub next_length : (i : ℕ) (x : Bor Expr) (rest : List (Bor Expr)) → drop i xs ≡ x ∷ rest →
      routines_syllables s (images (drop i xs)) ≡ routine_code (has_place (expr x.now)) (expr_syllables s (expr x.now)) + routines_syllables s (images rest)
  next_length i x rest is = ap (λ (l : List (Bor Expr)). routines_syllables s (images l)) is

  -- from the first builder to the second the code of actuals was appended that, with that of those from a number on, is the code of all
  abbrev pub CodesLeft : ℕ → Built → Built → List ℕ → Type 0
  CodesLeft i a b places =
      (sc : Place) (later : Later) (own : List Actual) → AreActuals sc s level (images xs) own →
      Emitted a b (λ qs. (more : List ℕ) → code.RoutinesAt sc.scopes (context_in sc later level) qs (level_set a) (drop i own) more →
      code.RoutinesAt sc.scopes (context_in sc later level) qs (level_set a) own (places ++ more))

  pub codes_begun : (a : Built) (places : List ℕ) → places ≡ [] → CodesLeft 0 a a places
  codes_begun a places none = λ sc later own are.
      emitted_none a
      (λ qs. (more : List ℕ) → code.RoutinesAt sc.scopes (context_in sc later level) qs (level_set a) (drop 0 own) more →
      code.RoutinesAt sc.scopes (context_in sc later level) qs (level_set a) own (places ++ more))
      (λ qs more k. subst (λ (l : List ℕ). code.RoutinesAt sc.scopes (context_in sc later level) qs (level_set a) own (l ++ more)) (sym none) k)

  pub codes_more : (i : ℕ) (x : Bor Expr) (rest : List (Bor Expr)) → drop i xs ≡ x ∷ rest → (a b d : Built) (places after : List ℕ) (place : ℕ) → after ≡ places ++ place ∷ [] → b.level ≡ a.level →
      place ≡ size b.operators → CodesLeft i a b places → RoutineEmitted s.names.now (level_set b) b d (expr x.now) → CodesLeft (i + 1) a d after
  codes_more i x rest is a b d places after place listed same at h r = λ sc later own are.
      let E : List ℕ → Type 0 = λ ats. Emitted a d (λ qs. (more : List ℕ) → code.RoutinesAt sc.scopes (context_in sc later level) qs (level_set a) (drop (i + 1) own) more →
      code.RoutinesAt sc.scopes (context_in sc later level) qs (level_set a) own (ats ++ more)) in
      subst E (sym listed)
      (by sc later own are (drop i own) refl (left_as own xs i are.same ∙ ap images is) (left_have s sc level own i are.values))
    where
      by : (sc : Place) (later : Later) (own : List Actual) → AreActuals sc s level (images xs) own → (left : List Actual) → drop i own ≡ left →
          exprs_of left ≡ expr x.now ∷ images rest → HaveValues sc.scopes (meanings s.names.now) level sc.block left →
          Emitted a d (λ qs. (more : List ℕ) → code.RoutinesAt sc.scopes (context_in sc later level) qs (level_set a) (drop (i + 1) own) more →
          code.RoutinesAt sc.scopes (context_in sc later level) qs (level_set a) own ((places ++ place ∷ []) ++ more))
      by sc later own are [] left trees have = absurd (let clash : [] ≡ expr x.now ∷ images rest = trees in cc)
      by sc later own are (o ∷ os) left trees have =
          let R : List Placed → List Actual → List ℕ → Type 0 = λ qs as' ats. code.RoutinesAt sc.scopes (context_in sc later level) qs (level_set a) as' ats in
          let there : o.expr ∷ exprs_of os ≡ expr x.now ∷ images rest = trees in
          let named : o.expr ≡ expr x.now = cc in
          let F : PExpr → Type 0 = λ e. ExprFits sc.scopes (meanings s.names.now) level sc.block o.kind e in
          let own_code = r.code sc.scopes (context_in sc later level) o.kind (subst F named have.0) in
          let E : PExpr → ℕ → Type 0 = λ e l. Emitted b d (λ qs. code.RoutineAt sc.scopes (context_in sc later level) qs l (record { expr = e; kind = o.kind }) (size b.operators)) in
          let at_own : E o.expr (level_set a) = subst (E o.expr) (same_level a b same) (subst (λ e. E e (level_set b)) (sym named) own_code) in
          weaker
          (λ qs. (more : List ℕ) → R qs (drop (i + 1) own) more → R qs own ((places ++ place ∷ []) ++ more))
          (then (h sc later own are) at_own)
          (λ qs p more k.
          let T : List Actual → Type 0 = λ l. R qs l (place ∷ more) in
          let L : List Actual → Type 0 = λ l. R qs l more in
          let A : ℕ → Type 0 = λ f. code.RoutineAt sc.scopes (context_in sc later level) qs (level_set a) o f in
          let next : R qs (o ∷ os) (place ∷ more) = (place, more, refl, subst A (sym at) p.1, subst L (behind own i o os left) k) in
          subst (R qs own) (sym (append_assoc places (place ∷ []) more)) (p.0 (place ∷ more) (subst T (sym left) next)))

  pub codes_ended : (i : ℕ) (a b : Built) (places : List ℕ) → length xs ≤ i → CodesLeft i a b places → CodesEmitted s level a b (images xs) places
  codes_ended i a b places all h = λ sc later own are.
      let R : List Placed → List Actual → List ℕ → Type 0 = λ qs as' ats. code.RoutinesAt sc.scopes (context_in sc later level) qs (level_set a) as' ats in
      let none : drop i own ≡ [] = drop_of_length-le own (omega (arith, as_many own xs are.same, all)) in
      weaker (λ qs. R qs own places) (h sc later own are)
      (λ qs p. subst (R qs own) (append-nil places) (p [] (subst (λ (l : List Actual). R qs l []) (sym none) refl)))

-- ---- in a draft

module _ (s : Known) (level : ℕ) (xs : List (Bor Expr)) (a : Draft) where
  -- the level is one higher for a while
  module _ (inner : Built) (d' outer : Built) (places : List ℕ) (at : DraftIsAt level a) (i : inner ≡ record a.out { level = Some (level + 1) }) (few : HasFew a)
      (codes : CodesEmitted s level inner d' (images xs) places) (short : size d'.operators ≤ size inner.operators + routines_syllables s (images xs))
      (o : outer ≡ record d' { level = Some level }) where
    pub some_emitted : EmitsRoutines s level a (record a { out = outer }) (images xs) places
    some_emitted = λ sc own are.
        let d : Draft = record a { out = d' } in
        let set : level_set inner ≡ level + 1 = ap (λ (b : Built). level_set b) i in
        let R : Later → List Placed → ℕ → Type 0 = λ later qs target. RoutinesAt sc later qs level own places in
        let C : Later → ℕ → Type 0 = λ later l. Emitted inner d' (λ qs. code.RoutinesAt sc.scopes (context_in sc later level) qs l own places) in
        let lots : HasFew (record a { out = inner }) = omega (arith, few, ap (λ (b : Built). size b.operators) i) in
        let there : Emits (routines_syllables s (images xs)) (record a { out = inner }) d R =
        piece {n = routines_syllables s (images xs)} {d = record a { out = inner }} {e = d} refl refl lots (λ later. subst (C later) set (codes sc later own are)) short in
        set_back a d inner outer (Some (level + 1)) i (o ∙ ap (λ (l : Option ℕ). record d' { level = l }) (sym at.set)) there
