-- The actuals of a call, one after another.
use Rattle.std.proofs.Common.{◌≡◌, ℕ, ◌+◌, ◌≤◌, Bool, true, false, List, [], ◌∷◌, drop, map, refl, sym, ap, subst}
use Rattle.std.specs.Prelude.{slice_get}
use Rattle.algol_tree.specs.Plain as tree
use Rattle.algol_tree.specs.Plain.{PExpr, PExprs}
use Rattle.algol_tree.specs.Sorts.{Sort, is_variable}
use Rattle.algol_tree.specs.Scopes.{Scopes}
use Rattle.algol_paths.specs.Arrays.{Shape}
use Rattle.b67_segment.specs.Operators.{Placed, size}
use Rattle.b67_segment.specs.Building.{Built}
use Rattle.b67_templates.specs.Contexts.{Context}
use Rattle.b67_templates.specs.Cells as wants
use Rattle.b67_templates.specs.Cells.{Wanted}
use Rattle.b67_templates.specs.Code.{ActualsAt}
use Rattle.b67_templates.specs.Emitting.{Emitted}
use Rattle.b67_templates.specs.Fitting.{wanted_by_name, ActualsFit}
use Rattle.b67_templates.specs.Paying.{if_known}
use Rattle.b67_emitter.specs.declared.names.Names.{Names}
use Rattle.b67_emitter.specs.Values.{meanings}
use Rattle.b67_emitter.proofs.Composing.{then, weaker}
use Rattle.b67_emit_expr.specs.Passing.{ActualFits, ActualAt, HasActual, ActualEmitted}
use Rattle.b67_emit_expr.proofs.Calls.{emitted_none}
use Rattle.b67_emit_expr.proofs.Modes.{next_mode, modes_after}

-- ---- the first of them

-- the parameter's sort goes with what is wanted
abbrev Suits : Wanted → Sort → Type 0
Suits (wants.value kind) sort = is_variable sort ≡ true
Suits (wants.array shape) sort = is_variable sort ≡ false
Suits (wants.by_name kind) sort = is_variable sort ≡ false
Suits wants.event sort = is_variable sort ≡ false
Suits wants.other sort = ⊥

module _ (s : Names) (scopes : Scopes) (level block : ℕ) (sort : Sort) (ss : List Sort) (ws : List Wanted) (rest : PExprs) where
  first_array : (shape : Shape) (e : PExpr) → ActualsFit scopes (meanings s) level block (sort ∷ ss) (wants.array shape ∷ ws) (tree.more e rest) →
      Suits (wants.array shape) sort × ActualFits s scopes level block (wants.array shape) e × ActualsFit scopes (meanings s) level block ss ws rest
  first_array shape (tree.variable (tree.subscripted n tree.none)) fit = (fit.0, (n, refl, fit.1), fit.2)
  first_array shape e fit = absurd fit

  first_event : (e : PExpr) → ActualsFit scopes (meanings s) level block (sort ∷ ss) (wants.event ∷ ws) (tree.more e rest) →
      Suits wants.event sort × ActualFits s scopes level block wants.event e × ActualsFit scopes (meanings s) level block ss ws rest
  first_event (tree.variable (tree.subscripted n tree.none)) fit = (fit.0, (n, refl, fit.1), fit.2)
  first_event e fit = absurd fit

  first_fits : (w : Wanted) (e : PExpr) → ActualsFit scopes (meanings s) level block (sort ∷ ss) (w ∷ ws) (tree.more e rest) →
      Suits w sort × ActualFits s scopes level block w e × ActualsFit scopes (meanings s) level block ss ws rest
  first_fits (wants.value kind) e fit = fit
  first_fits (wants.array shape) e fit = first_array shape e fit
  first_fits (wants.by_name kind) e fit = (fit.0, (fit.1, fit.2), fit.3)
  first_fits wants.event e fit = first_event e fit
  first_fits wants.other e fit = absurd fit

  first_at : (context : Context) (qs : List Placed) (w : Wanted) (e : PExpr) (f m t : ℕ) → Suits w sort → ActualAt scopes context qs level w e f m →
      ActualsAt scopes context qs level ss ws rest m t → ActualsAt scopes context qs level (sort ∷ ss) (w ∷ ws) (tree.more e rest) f t
  first_at context qs (wants.value kind) e f m t suits h k = (m, suits, h, k)
  first_at context qs (wants.array shape) e f m t suits (n, is, h) k =
      let A : PExpr → Type 0 = λ x. ActualsAt scopes context qs level (sort ∷ ss) (wants.array shape ∷ ws) (tree.more x rest) f t in
      subst A (sym is) (m, suits, h, k)
  first_at context qs (wants.by_name kind) e f m t suits h k = (m, suits, h, k)
  first_at context qs wants.event e f m t suits (n, is, h) k =
      let A : PExpr → Type 0 = λ x. ActualsAt scopes context qs level (sort ∷ ss) (wants.event ∷ ws) (tree.more x rest) f t in
      subst A (sym is) (m, suits, h, k)
  first_at context qs wants.other e f m t suits h k = absurd suits

-- ---- those that are left

module _ (s : Names) (scopes : Scopes) (context : Context) (level : ℕ) where
  -- From the first builder to the second code was appended that the code of the actuals left, for parameters of these sorts of which this is
  -- wanted, completes to that of all.
  abbrev pub Completes : Built → Built → List Sort → List Wanted → PExprs → List Sort → List Wanted → PExprs → Type 0
  Completes a b sorts wanted es sorts_left wanted_left left =
      Emitted a b (λ qs. (t : ℕ) → ActualsAt scopes context qs level sorts_left wanted_left left (size b.operators) t →
      ActualsAt scopes context qs level sorts wanted es (size a.operators) t)

  -- From the first builder to the second the actuals were appended but for those left, which fit the parameters that are left, and are given by
  -- name or not as these say.
  pub record Left (a b : Built) (sorts : List Sort) (wanted : List Wanted) (es left : PExprs) (modes : List Bool) : Type 0 where
    pub sorts_left : List Sort
    pub wanted_left : List Wanted
    pub modes_are : modes ≡ map wanted_by_name wanted_left
    pub fit : ActualsFit scopes (meanings s) context.level context.block sorts_left wanted_left left
    pub code : Completes a b sorts wanted es sorts_left wanted_left left

module _ (s : Names) (scopes : Scopes) (context : Context) (level : ℕ) (a : Built) (sorts : List Sort) (wanted : List Wanted) (es : PExprs) where
  pub all_left : (modes : List Bool) → modes ≡ map wanted_by_name wanted → ActualsFit scopes (meanings s) context.level context.block sorts wanted es →
      Left s scopes context level a a sorts wanted es es modes
  all_left modes are fit = record {
    sorts_left = sorts;
    wanted_left = wanted;
    modes_are = are;
    fit = fit;
    code = emitted_none a (λ qs. (t : ℕ) → ActualsAt scopes context qs level sorts wanted es (size a.operators) t → ActualsAt scopes context qs level sorts wanted es (size a.operators) t) (λ qs t p. p);
  }

  pub none_left : (b : Built) (modes : List Bool) → Left s scopes context level a b sorts wanted es tree.none modes →
      Emitted a b (λ qs. ActualsAt scopes context qs level sorts wanted es (size a.operators) (size b.operators))
  none_left b modes l = by l.sorts_left l.wanted_left l.fit l.code
    where
      by : (ss : List Sort) (ws : List Wanted) → ActualsFit scopes (meanings s) context.level context.block ss ws tree.none →
          Completes s scopes context level a b sorts wanted es ss ws tree.none →
          Emitted a b (λ qs. ActualsAt scopes context qs level sorts wanted es (size a.operators) (size b.operators))
      by [] [] fit h = weaker (λ qs. ActualsAt scopes context qs level sorts wanted es (size a.operators) (size b.operators)) h (λ qs p. p (size b.operators) refl)
      by [] (w ∷ ws) fit h = absurd fit
      by (sort ∷ ss) [] fit h = absurd fit
      by (sort ∷ ss) (wants.value kind ∷ ws) fit h = absurd fit
      by (sort ∷ ss) (wants.array shape ∷ ws) fit h = absurd fit
      by (sort ∷ ss) (wants.by_name kind ∷ ws) fit h = absurd fit
      by (sort ∷ ss) (wants.event ∷ ws) fit h = absurd fit
      by (sort ∷ ss) (wants.other ∷ ws) fit h = absurd fit

  -- the first of those that are left has code
  pub next_has : (b : Built) (modes : List Bool) (i : ℕ) (e : PExpr) (rest : PExprs) → context.level ≤ level → Left s scopes context level a b sorts wanted es (tree.more e rest) (drop i modes) →
      HasActual s level (if_known (slice_get modes i)) e
  next_has b modes i e rest outer l = by l.sorts_left l.wanted_left l.modes_are l.fit
    where
      by : (ss : List Sort) (ws : List Wanted) → drop i modes ≡ map wanted_by_name ws → ActualsFit scopes (meanings s) context.level context.block ss ws (tree.more e rest) →
          HasActual s level (if_known (slice_get modes i)) e
      by [] [] are fit = absurd fit
      by [] (w ∷ ws) are fit = absurd fit
      by (sort ∷ ss) [] are fit = absurd fit
      by (sort ∷ ss) (w ∷ ws) are fit = record {
        scopes = scopes;
        own = context.level;
        block = context.block;
        wanted = w;
        mode = sym (ap if_known (next_mode modes i (wanted_by_name w) (map wanted_by_name ws) are));
        outer = outer;
        fits = (first_fits s scopes context.level context.block sort ss ws rest w e fit).1;
      }

  -- .. and then those after it are left
  pub next_left : (b c : Built) (modes : List Bool) (i : ℕ) (e : PExpr) (rest : PExprs) → ActualEmitted s level b c (if_known (slice_get modes i)) e →
      Left s scopes context level a b sorts wanted es (tree.more e rest) (drop i modes) → Left s scopes context level a c sorts wanted es rest (drop (i + 1) modes)
  next_left b c modes i e rest actual l = by l.sorts_left l.wanted_left l.modes_are l.fit l.code
    where
      by : (ss : List Sort) (ws : List Wanted) → drop i modes ≡ map wanted_by_name ws → ActualsFit scopes (meanings s) context.level context.block ss ws (tree.more e rest) →
          Completes s scopes context level a b sorts wanted es ss ws (tree.more e rest) → Left s scopes context level a c sorts wanted es rest (drop (i + 1) modes)
      by [] [] are fit h = absurd fit
      by [] (w ∷ ws) are fit h = absurd fit
      by (sort ∷ ss) [] are fit h = absurd fit
      by (sort ∷ ss) (w ∷ ws) are fit h =
          let first = first_fits s scopes context.level context.block sort ss ws rest w e fit in
          let mode = sym (ap if_known (next_mode modes i (wanted_by_name w) (map wanted_by_name ws) are)) in
          record {
            sorts_left = ss;
            wanted_left = ws;
            modes_are = modes_after modes i (wanted_by_name w) (map wanted_by_name ws) are;
            fit = first.2;
            code = weaker (λ qs. (t : ℕ) → ActualsAt scopes context qs level ss ws rest (size c.operators) t → ActualsAt scopes context qs level sorts wanted es (size a.operators) t)
                (then h (actual.code scopes context w mode first.1))
                (λ qs p t q. p.0 t (first_at s scopes level context.block sort ss ws rest context qs w e (size b.operators) (size c.operators) t first.0 p.1 q));
          }
