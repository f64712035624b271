-- An actual is a value, or the name by itself of an array or of an event: what is known of names tells which.
use Rattle.std.proofs.Common.{◌≡◌, ◌⊎◌, inl, inr, ℕ, Bool, true, false, Option, Some, None, is_some, refl, sym, ap, ◌∙◌, subst, if◌then◌else◌}
use Rattle.std.specs.Prelude.{IsSome}
use Rattle.algol_tree.specs.declared.tree.Kind.{Kind}
use Rattle.algol_tree.specs.declared.tree.Named.{Named}
use Rattle.algol_tree.specs.Plain as tree
use Rattle.algol_tree.specs.Plain.{PExpr, name_alone}
use Rattle.algol_tree.specs.Scopes.{Scopes, use_of}
use Rattle.algol_tree.specs.Sorts.{is_formal}
use Rattle.algol_tree.proofs.Alone.{named_alone}
use Rattle.algol_paths.specs.Arrays.{Lows, Shape}
use Rattle.b67_ops.specs.declared.Couple.{Couple}
use Rattle.b67_ops.specs.Spelling.{CoupleIsSeen}
use Rattle.b67_segment.specs.Operators.{size}
use Rattle.b67_segment.specs.Building.{Built}
use Rattle.b67_templates.specs.Contexts.{Context}
use Rattle.b67_templates.specs.Cells as wants
use Rattle.b67_templates.specs.Cells.{Wanted, ShapeAgrees, IsArray, IsEvent}
use Rattle.b67_templates.specs.Code.{ArrayActualAt}
use Rattle.b67_templates.specs.Events.{EventActualAt}
use Rattle.b67_templates.specs.Emitting.{Emitted}
use Rattle.b67_templates.specs.Fitting.{Meant, a_variable, a_name, a_procedure, an_event, another, wanted_by_name, meant_is_event, ArrayFits, EventFits, its_own, its_actual, ExprFits}
use Rattle.b67_templates.specs.Paying.{inline}
use Rattle.b67_emitter.specs.declared.names.Names.{Names}
use Rattle.b67_emitter.specs.Values.{couples, lows, meant, meant_event_in, meanings, AreNear, HasCode, ValueEmitted}
use Rattle.b67_emitter.proofs.Composing.{weaker}
use Rattle.b67_emitter.proofs.OnEvents.{event_there, event_found, event_seen}
use Rattle.b67_emitter.proofs.Seen.{some, seen_further}
use Rattle.b67_emit_expr.specs.Passing.{passed_as, passed, if_passed, passed_alone, ActualFits, ActualAt, HasActual, ActualEmitted}
use Rattle.b67_emit_expr.proofs.Couples.{known_array, seen_array}

-- ---- a name by itself

-- what is meant is no event
no_event : (m : Meant) → meant_is_event m ≡ false → meant_event_in m ≡ None
no_event a_variable off = refl
no_event a_name off = refl
no_event (a_procedure modes) off = refl
no_event (an_event formal) off = absurd (let clash : true ≡ false = off in cc)
no_event another off = refl

some_passed : (o : Option Bool) (l : Lows) → IsSome (passed_as o (Some l))
some_passed None l = refl
some_passed (Some formal) l = refl

module _ (s : Names) where
  -- what was found is the name of an array or of an event
  found_alone : (e : PExpr) (n : Named) → passed_alone s e ≡ Some n → (name_alone e ≡ Some n) × IsSome (passed s n)
  found_alone e n is = by (name_alone e) is
    where
      by : (o : Option Named) → if_passed s o ≡ Some n → (o ≡ Some n) × IsSome (passed s n)
      by None h = absurd (let clash : None ≡ Some n = h in cc)
      by (Some m) h = test (passed s m) refl h
        where
          test : (l : Option Bool) → passed s m ≡ l → (if is_some l then Some m else None) ≡ Some n → (Some m ≡ Some n) × IsSome (passed s n)
          test None k g = absurd (let clash : None ≡ Some n = g in cc)
          test (Some l) k g = (g, some (passed s n) l (let same : m ≡ n = cc in ap (λ (x : Named). passed s x) (sym same) ∙ k))

  -- the name of an array or of an event was found
  not_found : (e : PExpr) (n : Named) → e ≡ tree.variable (tree.subscripted n tree.none) → IsSome (passed s n) → passed_alone s e ≡ None → ⊥
  not_found e n is known none =
      let clash : None ≡ Some n = sym none ∙ ap (λ (x : PExpr). passed_alone s x) is ∙ ap (λ (b : Bool). if b then Some n else None) known in
      cc

  -- ---- at which level

  pub wanted_on : (l m : ℕ) (mode : Bool) (e : PExpr) → m ≡ l → HasActual s l mode e → HasActual s m mode e
  wanted_on l m mode e same h = let H : ℕ → Type 0 = λ n. HasActual s n mode e in subst H (sym same) h

  pub actual_on : (l m : ℕ) (a b : Built) (mode : Bool) (e : PExpr) → l ≡ m → ActualEmitted s l a b mode e → ActualEmitted s m a b mode e
  actual_on l m a b mode e same h = let V : ℕ → Type 0 = λ n. ActualEmitted s n a b mode e in subst V same h

  -- ---- by name or not

  pub wanted_as : (level : ℕ) (mode mode' : Bool) (e : PExpr) → mode ≡ mode' → HasActual s level mode e → HasActual s level mode' e
  wanted_as level mode mode' e same h = let H : Bool → Type 0 = λ m. HasActual s level m e in subst H same h

  pub actual_as : (level : ℕ) (a b : Built) (mode mode' : Bool) (e : PExpr) → mode ≡ mode' → ActualEmitted s level a b mode' e → ActualEmitted s level a b mode e
  actual_as level a b mode mode' e same h = let V : Bool → Type 0 = λ m. ActualEmitted s level a b m e in subst V (sym same) h

  -- ---- arrays and events

  module _ (scopes : Scopes) (level : ℕ) (n : Named) where
    array_passed : (shape : Shape) → ArrayFits scopes (meanings s) level n shape → IsSome (passed s n)
    array_passed shape fits =
        let l : Lows = record { list = shape.lows; formal = is_formal ((use_of scopes n).sort) } in
        let P : Option Lows → Type 0 = λ o. IsSome (passed_as (meant_event_in (meant s n.spot)) o) in
        subst P (sym fits.lows_are) (some_passed (meant_event_in (meant s n.spot)) l)

    -- an array is no event, so its lower bounds tell whether it is a parameter
    array_formal : (shape : Shape) (formal : Bool) → AreNear s → passed s n ≡ Some formal → ArrayFits scopes (meanings s) level n shape → formal ≡ is_formal ((use_of scopes n).sort)
    array_formal shape formal near known fits =
        let l : Lows = record { list = shape.lows; formal = is_formal ((use_of scopes n).sort) } in
        let other = no_event (meant s n.spot) (near.apart n.spot l fits.lows_are) in
        let own : passed s n ≡ Some l.formal = ap (λ (o : Option Bool). passed_as o (lows s n.spot)) other ∙ ap (λ (o : Option Lows). passed_as None o) fits.lows_are in
        cc (own, known)

    event_passed : EventFits scopes (meanings s) level n → passed s n ≡ Some (is_formal ((use_of scopes n).sort))
    event_passed (its_own c known is own) =
        ap (λ (m : Meant). passed_as (meant_event_in m) (lows s n.spot)) is ∙ ap (λ sort. Some (is_formal sort)) (sym own.sort_is)
    event_passed (its_actual c known is own) =
        ap (λ (m : Meant). passed_as (meant_event_in m) (lows s n.spot)) is ∙ ap (λ sort. Some (is_formal sort)) (sym own.sort_is)

-- ---- what is wanted of an actual, as it was found

module _ (s : Names) (level block : ℕ) (e : PExpr) where
  -- the name is that of an array of a shape that agrees with this, or of an event
  abbrev IsPassed : Scopes → Wanted → Named → Type 0
  IsPassed scopes wanted n =
      ((shape : Shape) × (wanted ≡ wants.array shape) × ((a : Shape) × ArrayFits scopes (meanings s) level n a × ShapeAgrees shape a))
      ⊎ ((wanted ≡ wants.event) × EventFits scopes (meanings s) level n)

  -- an array or an event
  wanted_passed : (scopes : Scopes) (wanted : Wanted) (n : Named) → wanted_by_name wanted ≡ false → passed_alone s e ≡ Some n → ActualFits s scopes level block wanted e → IsPassed scopes wanted n
  wanted_passed scopes (wants.value kind) n off is fits =
      let found = found_alone s e n is in
      let F : PExpr → Type 0 = λ x. ActualFits s scopes level block (wants.value kind) x in
      let own : F (tree.variable (tree.subscripted n tree.none)) = subst F (named_alone e n found.0) fits in
      let none : passed s n ≡ None = ap (λ (o : Option Lows). passed_as (meant_event_in (meant s n.spot)) o) own.1 ∙ ap (λ (o : Option Bool). passed_as o None) (no_event (meant s n.spot) own.2) in
      let S : Option Bool → Type 0 = λ o. IsSome o in
      absurd (let clash : S None = subst S none found.1 in cc)
  wanted_passed scopes (wants.array shape) n off is (m, same, fits) =
      let found = found_alone s e n is in
      let one : m ≡ n = cc (sym same ∙ named_alone e n found.0) in
      let F : Named → Type 0 = λ x. (a : Shape) × ArrayFits scopes (meanings s) level x a × ShapeAgrees shape a in
      inl (shape, refl, subst F one fits)
  wanted_passed scopes wants.event n off is (m, same, fits) =
      let found = found_alone s e n is in
      let one : m ≡ n = cc (sym same ∙ named_alone e n found.0) in
      let F : Named → Type 0 = λ x. EventFits scopes (meanings s) level x in
      inr (refl, subst F one fits)
  wanted_passed scopes (wants.by_name kind) n off is fits = absurd (let clash : true ≡ false = off in cc)
  wanted_passed scopes wants.other n off is fits = absurd fits

  -- a value
  wanted_value : (scopes : Scopes) (wanted : Wanted) → wanted_by_name wanted ≡ false → passed_alone s e ≡ None → ActualFits s scopes level block wanted e →
      (kind : Kind) × (wanted ≡ wants.value kind) × ExprFits scopes (meanings s) level block kind e
  wanted_value scopes (wants.value kind) off none fits = (kind, refl, fits)
  wanted_value scopes (wants.array shape) off none (n, same, (a, fits, agrees)) = absurd (not_found s e n same (array_passed s scopes level n a fits) none)
  wanted_value scopes wants.event off none (n, same, fits) =
      absurd (not_found s e n same (some (passed s n) (is_formal ((use_of scopes n).sort)) (event_passed s scopes level n fits)) none)
  wanted_value scopes (wants.by_name kind) off none fits = absurd (let clash : true ≡ false = off in cc)
  wanted_value scopes wants.other off none fits = absurd fits

module _ (s : Names) (level : ℕ) (e : PExpr) where
  -- ---- an array or an event

  module _ (n : Named) (is : passed_alone s e ≡ Some n) where
    pub known_passed : IsSome (passed s n)
    known_passed = let found = found_alone s e n is in found.1

    pub known_actual : HasActual s level false e → IsSome (couples s n.spot)
    known_actual h = by (wanted_passed s h.own h.block e h.scopes h.wanted n h.mode is h.fits)
      where
        by : IsPassed s h.own h.block e h.scopes h.wanted n → IsSome (couples s n.spot)
        by (inl (shape, wish, (a, fits, agrees))) = known_array s h.own h.scopes n a fits
        by (inr (wish, fits)) =
            let own = event_there s h.scopes h.own n fits in
            some (couples s n.spot) own.0 own.1

    pub seen_actual : (c : Couple) → AreNear s → couples s n.spot ≡ Some c → HasActual s level false e → CoupleIsSeen level c
    seen_actual c near known h = seen_further level h.own c h.outer (near.own n.spot c known) (by (wanted_passed s h.own h.block e h.scopes h.wanted n h.mode is h.fits))
      where
        by : IsPassed s h.own h.block e h.scopes h.wanted n → CoupleIsSeen h.own c
        by (inl (shape, wish, (a, fits, agrees))) = seen_array s h.own h.scopes n a c near known fits
        by (inr (wish, fits)) = event_seen s h.scopes h.own n c near known fits

    pub actual_syllables : inline (meanings s) e ≡ 12
    actual_syllables = let found = found_alone s e n is in ap (inline (meanings s)) (named_alone e n found.0)

    pub passed_form : (a b : Built) (c : Couple) (own : Bool) → AreNear s → couples s n.spot ≡ Some c → passed s n ≡ Some own →
        ((scopes : Scopes) (context : Context) (shape x : Shape) (m : Named) → IsArray scopes context.level m x c → own ≡ is_formal ((use_of scopes m).sort) → ShapeAgrees shape x →
        Emitted a b (λ qs. ArrayActualAt scopes context qs level shape m (size a.operators) (size b.operators))) →
        ((scopes : Scopes) (context : Context) (m : Named) → IsEvent scopes context.level m c → own ≡ is_formal ((use_of scopes m).sort) →
        Emitted a b (λ qs. EventActualAt scopes context qs level m (size a.operators) (size b.operators))) → ActualEmitted s level a b false e
    passed_form a b c own near known told array event = record {
      code = λ scopes context wanted mode fits. by scopes context wanted (wanted_passed s context.level context.block e scopes wanted n mode is fits);
    }
      where
        by : (scopes : Scopes) (context : Context) (wanted : Wanted) → IsPassed s context.level context.block e scopes wanted n →
            Emitted a b (λ qs. ActualAt scopes context qs level wanted e (size a.operators) (size b.operators))
        by scopes context wanted (inl (shape, wish, (x, fits, agrees))) =
            let found = found_alone s e n is in
            let same : fits.couple ≡ c = cc (fits.known_is, known) in
            let I : Couple → Type 0 = λ d. IsArray scopes context.level n x d in
            let W : Wanted → Type 0 = λ w. Emitted a b (λ qs. ActualAt scopes context qs level w e (size a.operators) (size b.operators)) in
            subst W (sym wish)
            (weaker (λ qs. ActualAt scopes context qs level (wants.array shape) e (size a.operators) (size b.operators))
            (array scopes context shape x n (subst I same fits.array) (array_formal s scopes context.level n x own near told fits) agrees)
            (λ qs p. (n, named_alone e n found.0, p)))
        by scopes context wanted (inr (wish, fits)) =
            let found = found_alone s e n is in
            let formal : own ≡ is_formal ((use_of scopes n).sort) = cc (event_passed s scopes context.level n fits, told) in
            let W : Wanted → Type 0 = λ w. Emitted a b (λ qs. ActualAt scopes context qs level w e (size a.operators) (size b.operators)) in
            subst W (sym wish)
            (weaker (λ qs. ActualAt scopes context qs level wants.event e (size a.operators) (size b.operators))
            (event scopes context n (event_found s scopes context.level n c known fits) formal)
            (λ qs p. (n, named_alone e n found.0, p)))

  -- ---- a value

  module _ (none : passed_alone s e ≡ None) where
    pub actual_code : HasActual s level false e → HasCode s level e
    actual_code h =
        let own = wanted_value s h.own h.block e h.scopes h.wanted h.mode none h.fits in
        record { scopes = h.scopes; own = h.own; block = h.block; kind = own.0; outer = h.outer; fits = own.2 }

    pub value_form : (a b : Built) → ValueEmitted s level a b e → ActualEmitted s level a b false e
    value_form a b h = record {
      code = λ scopes context wanted mode fits.
          let own = wanted_value s context.level context.block e scopes wanted mode none fits in
          let W : Wanted → Type 0 = λ w. Emitted a b (λ qs. ActualAt scopes context qs level w e (size a.operators) (size b.operators)) in
          subst W (sym own.1) (h.code scopes context own.0 own.2);
    }
