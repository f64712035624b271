-- Expressions that break no rule: each name in them is known where it stands, and their calls fit.
use Rattle.std.proofs.Common.{arith, ◌≡◌, ◌⊎◌, inl, inr, ℕ, ◌≤◌, ◌==◌, ◌&&◌, ◌||◌, nat_lt, not, Bool, true, false, List, [], ◌∷◌, ◌++◌, map, length, is_some, Option, Some, refl, sym, ap, ◌∙◌, subst, if◌then◌else◌}
use Rattle.std.proofs.lemmas.Bool.Decides.{nat_tests}
use Rattle.std.proofs.lemmas.List.{length-map}
use Rattle.b67_limits.specs.declared.TheConstants.{MOST_EVENTS}
use Rattle.std.specs.List.{AllByRecursion, flat_map}
use Rattle.algol_tree.specs.declared.token.Spot.{Spot}
use Rattle.algol_tree.specs.declared.tree.Heading.{Heading}
use Rattle.algol_tree.specs.declared.tree.Kind.{Kind}
use Rattle.algol_tree.specs.declared.tree.Named.{Named}
use Rattle.algol_tree.specs.Cells.{first_spot}
use Rattle.algol_tree.specs.Checks.{is_function}
use Rattle.algol_tree.specs.Classes as class
use Rattle.algol_tree.specs.Classes.{Class, Formal, same_kind, is_simple, is_array, is_event, is_task, is_procedure, is_unspecified}
use Rattle.algol_tree.specs.Counted.{exprs_count}
use Rattle.algol_tree.specs.Names.{if_so}
use Rattle.algol_tree.specs.declared.tree.EventName.{EventName}
use Rattle.algol_tree.specs.Plain as tree
use Rattle.algol_tree.specs.Plain.{PExpr, PExprs, name_alone}
use Rattle.algol_tree.specs.Scopes.{Scopes, names_in_expr}
use Rattle.algol_tree.specs.Sites as site
use Rattle.algol_tree.specs.Sites.{Site, sites, first_formal, other_formals, actual_part, inside_expr, inside_list, inside_actuals}
use Rattle.algol_tree.specs.Sorts.{Sort, procedure_in, is_named_in, sort_in, class_in}
use Rattle.algol_tree.specs.Surroundings.{Surroundings, class_of, formals_of_class, formals_at}
use Rattle.algol_tree.specs.Types.{read_type}
use Rattle.algol_tree.proofs.Spots.{not_so}
use Rattle.algol_meaning.specs.Settle.{sorts_of, sort_at}
use Rattle.algol_paths.specs.Blocks.{BlockIsSeen}
use Rattle.algol_paths.specs.Texts.{InExpr, InExprs}
use Rattle.algol_calls.specs.Fits as fits
use Rattle.algol_calls.specs.Fits.{sorts_wanted, AloneFits, IsNameOfIt, ParameterStandsFor, CalledExprFits, ExprsFit, ActualsFit}
use Rattle.algol_front_laws.specs.Declarations.{EachOnce}
use Rattle.algol_front_laws.specs.Uses.{use_by_name}
use Rattle.algol_told.proofs.Lists.{all_left, all_right, all_weaker, false_not_true}
use Rattle.b67_list.proofs.Lists.{append_none_left, append_none_right, empty_if_none}
use Rattle.b67_list.proofs.Numbers.{same_number}
use Rattle.b67_list.proofs.Truths.{and_first}
use Rattle.algol_texts.proofs.Parameters.{IsGiven, given_value, given_name, given_array, given_event, given, parameter}
use Rattle.algol_texts.proofs.Good.{IsUsed, IsGood, AreGood, actual_used, value_good, nothing}
use Rattle.algol_texts.proofs.Callees.{AreSpecified}
use Rattle.algol_texts.proofs.Around.{IsKnown, IsAround}
use Rattle.algol_texts.proofs.Uses.{IsOther, array_other, event_other, task_other, read_is, simple_left, its_known, its_class, name_right, seen, leads, name_of_it, alone_told, calls}

-- ---- numbers

pub counted_as : (m n : ℕ) → not (m == n) ≡ false → m ≡ n
counted_as m n h = by (m == n) refl h
  where
    by : (b : Bool) → (m == n) ≡ b → not b ≡ false → m ≡ n
    by true e f = same_number m n e
    by false e f = absurd (false_not_true (sym f))

second_not : (b c : Bool) (spot : Spot) → b ≡ true → if_so (b && c) spot ≡ [] → c ≡ false
second_not true c spot e h = not_so c spot h
second_not false c spot e h = absurd (false_not_true e)

-- ---- arrays of which a parameter can be one

abbrev such_array : Kind → ℕ → Class → Bool
such_array k subscripts (class.array m count) = same_kind k m && (count == subscripts)
such_array k subscripts _ = false

such_is_array : (k : Kind) (subscripts : ℕ) (c : Class) → such_array k subscripts c ≡ true → is_array c ≡ true
such_is_array k subscripts (class.array m count) h = refl
such_is_array k subscripts c h = h

few_by : (n : ℕ) → ((n == 0) || nat_lt MOST_EVENTS n) ≡ false → (1 ≤ n) × (n ≤ MOST_EVENTS)
few_by n h = (grind (arith, nat_tests), grind (arith, nat_tests))

-- what is done with events that are not miscounted is done with one at least, and with no more than may be
few_events : (es : List EventName) (spot : Spot) → if_so ((length es == 0) || nat_lt MOST_EVENTS (length es)) spot ≡ [] →
    fits.AreFew (map (λ (e : EventName). e.name) es)
few_events es spot h =
    subst (λ (n : ℕ). (1 ≤ n) × (n ≤ MOST_EVENTS)) (sym (length-map es (λ (e : EventName). e.name)))
    (few_by (length es) (not_so ((length es == 0) || nat_lt MOST_EVENTS (length es)) spot h))

-- as the checker sees a parameter
abbrev formal : Heading → Named → Formal
formal h n = record { class = class_in h.specs n.name; by_value = is_named_in h.values n.name }

module _ (sc : Scopes) (j : ℕ) (outer : List Spot) (a : Surroundings) (r : IsAround sc.blocks j outer a) where
  -- what is wrong with a name where this test is made of what it stands for
  abbrev pub wrong_by : (Class → Bool) → Named → List Spot
  wrong_by test n = if_so (not (test (class_of a n)) && not (is_unspecified (class_of a n))) n.spot

  -- ---- names that are known

  abbrev pub KnownAs : (Named → Type 0) → Type 0
  KnownAs P = (n : Named) → IsUsed sc a n → P n

  -- what holds of each name that is known there holds of those of an expression
  module _ (P : Named → Type 0) (known : KnownAs P) where
    mutual
      expr_known : (e : PExpr) → AllByRecursion (IsUsed sc a) (names_in_expr e) → AreGood sc (inside_expr e a) → InExpr P e
      expr_known (tree.number z spot) u g = tt
      expr_known (tree.truth z spot) u g = tt
      expr_known (tree.variable (tree.subscripted n es)) u g = (known n u.0, list_known es g)
      expr_known (tree.call (tree.called n es)) u g = (known n u.0, actuals_known es (formals_at a n) g)
      expr_known (tree.tested test es spot) u g = all_weaker (IsUsed sc a) P known (map (λ (e : EventName). e.name) es) u
      expr_known (tree.paren e spot) u g = expr_known e g.0.uses g.1
      expr_known (tree.plus e spot) u g = expr_known e g.0.uses g.1
      expr_known (tree.neg e spot) u g = expr_known e g.0.uses g.1
      expr_known (tree.not e spot) u g = expr_known e g.0.uses g.1
      expr_known (tree.two op x y) u g =
          let first = all_left (IsGood sc) (sites x a) (sites y a) g in
          let second = all_right (IsGood sc) (sites x a) (sites y a) g in
          (expr_known x first.0.uses first.1, expr_known y second.0.uses second.1)
      expr_known (tree.if c x y spot) u g =
          let front = all_left (IsGood sc) (sites c a ++ sites x a) (sites y a) g in
          let condition = all_left (IsGood sc) (sites c a) (sites x a) front in
          let first = all_right (IsGood sc) (sites c a) (sites x a) front in
          let second = all_right (IsGood sc) (sites c a ++ sites x a) (sites y a) g in
          (expr_known c condition.0.uses condition.1, expr_known x first.0.uses first.1, expr_known y second.0.uses second.1)

      pub list_known : (es : PExprs) → AreGood sc (inside_list es a) → InExprs P es
      list_known tree.none g = tt
      list_known (tree.more e es) g =
          let first = all_left (IsGood sc) (sites e a) (inside_list es a) g in
          (expr_known e first.0.uses first.1, list_known es (all_right (IsGood sc) (sites e a) (inside_list es a) g))

      pub actuals_known : (es : PExprs) (fs : List Formal) → AreGood sc (inside_actuals es fs a) → InExprs P es
      actuals_known tree.none fs g = tt
      actuals_known (tree.more e es) fs g =
          let later = inside_actuals es (other_formals fs) a in (
            expr_known e (actual_used sc a e (first_formal fs) g.1.0) (all_left (IsGood sc) (inside_expr e a) later g.1.1),
            actuals_known es (other_formals fs) (all_right (IsGood sc) (inside_expr e a) later g.1.1),
          )

    pub sites_known : (e : PExpr) → AreGood sc (sites e a) → InExpr P e
    sites_known e g = expr_known e g.0.uses g.1

  module _ (once : EachOnce a) where
    -- ---- names that are read, and calls

    pub array_leads : (n : Named) → IsUsed sc a n → wrong_by is_array n ≡ [] → fits.NameLeads sc n
    array_leads n u h =
        let k = its_known sc j outer a r (use_by_name a n) n u in
        leads sc j outer a r once n u
        (array_other sc.blocks u.declared.block u.declared.name u.declared.sort u.declared.class k.means (name_right sc j outer a r (use_by_name a n) n u is_array h))

    -- an event, or a task for the event of its end
    pub event_in : (e : EventName) → IsUsed sc a e.name → (if e.task then wrong_by is_task e.name else wrong_by is_event e.name) ≡ [] → fits.NameLeads sc e.name
    event_in e u h = leads sc j outer a r once e.name u (by e.task h)
      where
        its : IsKnown sc.blocks j a.depth u.declared
        its = its_known sc j outer a r (use_by_name a e.name) e.name u

        by : (task : Bool) → (if task then wrong_by is_task e.name else wrong_by is_event e.name) ≡ [] → IsOther u.declared.sort
        by true k =
            (task_other sc.blocks u.declared.block u.declared.name u.declared.sort u.declared.class its.means (name_right sc j outer a r (use_by_name a e.name) e.name u is_task k)).0
        by false k =
            event_other sc.blocks u.declared.block u.declared.name u.declared.sort u.declared.class its.means (name_right sc j outer a r (use_by_name a e.name) e.name u is_event k)

    events_in : (es : List EventName) → AllByRecursion (IsUsed sc a) (map (λ (e : EventName). e.name) es) →
        flat_map (λ (e : EventName). if e.task then wrong_by is_task e.name else wrong_by is_event e.name) es ≡ [] → AllByRecursion (fits.NameLeads sc) (map (λ (e : EventName). e.name) es)
    events_in [] u h = tt
    events_in (e ∷ es) u h =
        (event_in e u.0 (append_none_left (if e.task then wrong_by is_task e.name else wrong_by is_event e.name) _ h), events_in es u.1 (append_none_right (if e.task then wrong_by is_task e.name else wrong_by is_event e.name) _ h))

    -- a name by itself that is read is a variable, or a call without actuals
    alone_fits : (n : Named) → IsUsed sc a n → wrong_by (λ (c : Class). is_some (read_type c)) n ≡ [] →
        ((h : Heading) → class_of a n ≡ class.procedure h → is_some h.kind ≡ true → length h.params ≡ 0) → AloneFits sc (procedure_in (sort_at sc n)) n
    alone_fits n u h bare = by read (read_is sc.blocks u.declared.block u.declared.name u.declared.sort u.declared.class known.means read)
      where
        known : IsKnown sc.blocks j a.depth u.declared
        known = its_known sc j outer a r (use_by_name a n) n u

        read : is_some (read_type u.declared.class) ≡ true
        read = name_right sc j outer a r (use_by_name a n) n u (λ (c : Class). is_some (read_type c)) h

        by : is_some (read_type u.declared.class) ≡ true → (is_simple u.declared.class ≡ true) ⊎ (is_procedure u.declared.class ≡ true) → AloneFits sc (procedure_in (sort_at sc n)) n
        by t (inl e) =
            alone_told sc j outer a r once n u ((simple_left sc.blocks u.declared.block u.declared.name u.declared.sort u.declared.class known.means e).0)
        by t (inr e) =
            let c = calls sc j outer a r once n u e in
            let typed : is_some c.heading.kind ≡ true = ap (λ (z : Class). is_some (read_type z)) (sym c.class_is ∙ its_class sc j outer a r (use_by_name a n) n u) ∙ t in
            let none = empty_if_none c.heading.params (bare c.heading c.class_is typed) in
            subst (λ (o : Option ℕ). AloneFits sc o n) (sym c.called)
            (c.callee, c.wanted_are ∙ ap (λ (ns : List Named). sorts_of (map (parameter c.heading) ns)) none)

    -- as many actuals as parameters, which `actuals` tells to fit
    call_by : (n : Named) (es : PExprs) (u : IsUsed sc a n) → is_procedure u.declared.class ≡ true →
        ((h : Heading) → class_of a n ≡ class.procedure h → length h.params ≡ exprs_count es) → AreGood sc (inside_actuals es (formals_at a n) a) →
        ((ns : List Named) (h : Heading) → length ns ≡ exprs_count es → AreSpecified h ns → AreGood sc (inside_actuals es (map (formal h) ns) a) → ActualsFit sc es (sorts_of (map (parameter h) ns))) →
        fits.IsCallee sc n × ActualsFit sc es (sorts_wanted sc n)
    call_by n es u e many g actuals =
        let c = calls sc j outer a r once n u e in
        let good : AreGood sc (inside_actuals es (map (formal c.heading) c.heading.params) a) =
        subst (λ (z : Class). AreGood sc (inside_actuals es (formals_of_class z) a)) c.class_is g in
        (c.callee, subst (λ (ss : List Sort). ActualsFit sc es ss) (sym c.wanted_are) (actuals c.heading.params c.heading (many c.heading c.class_is) c.specified good))

    -- ---- actuals, by what the parameter is

    abbrev actual_site : PExpr → Class → Bool → Site
    actual_site e c v = record { part = site.actual e (Some (record { class = c; by_value = v })); around = a }

    abbrev part_site : PExpr → Class → Bool → Site
    part_site e c v = record { part = actual_part e (Some (record { class = c; by_value = v })); around = a }

    abbrev NamesIt : PExpr → Type 0
    NamesIt e = IsNameOfIt sc (name_alone e) × CalledExprFits sc e

    named_fits : (n : Named) (u : IsUsed sc a n) → IsOther u.declared.sort → NamesIt (tree.variable (tree.subscripted n tree.none))
    named_fits n u o = (name_of_it sc j outer a r once n u o, alone_told sc j outer a r once n u o.0)

    array_fits : (e : PExpr) (k : Kind) (subscripts : ℕ) (v : Bool) → IsGood sc (actual_site e (class.array k subscripts) v) → IsGood sc (part_site e (class.array k subscripts) v) → NamesIt e
    array_fits (tree.variable (tree.subscripted n tree.none)) k subscripts v g i =
        let u = i.uses.0 in
        let its = its_known sc j outer a r (use_by_name a n) n u in
        let such = name_right sc j outer a r (use_by_name a n) n u (such_array k subscripts) g.right in
        named_fits n u
        (array_other sc.blocks u.declared.block u.declared.name u.declared.sort u.declared.class its.means (such_is_array k subscripts u.declared.class such))
    array_fits (tree.variable (tree.subscripted n (tree.more e es))) k subscripts v g i = absurd (nothing n.spot [] g.right)
    array_fits e k subscripts v g i = absurd (nothing (first_spot e) [] g.right)

    event_fits : (e : PExpr) (v : Bool) → IsGood sc (actual_site e class.event v) → IsGood sc (part_site e class.event v) → NamesIt e
    event_fits (tree.variable (tree.subscripted n tree.none)) v g i =
        let u = i.uses.0 in
        let its = its_known sc j outer a r (use_by_name a n) n u in
        named_fits n u
        (event_other sc.blocks u.declared.block u.declared.name u.declared.sort u.declared.class its.means (name_right sc j outer a r (use_by_name a n) n u is_event g.right))
    event_fits (tree.variable (tree.subscripted n (tree.more e es))) v g i = absurd (nothing n.spot [] g.right)
    event_fits e v g i = absurd (nothing (first_spot e) [] g.right)

    -- `fits_too`: the expression fits where its part of the tree is good
    actual_fits : (e : PExpr) (s : Sort) (c : Class) (v : Bool) → IsGiven s c → IsGood sc (actual_site e c v) → IsGood sc (part_site e c v) → AreGood sc (inside_expr e a) →
        (AreGood sc (sites e a) → CalledExprFits sc e) → ParameterStandsFor sc s e × CalledExprFits sc e
    actual_fits e s c v (given_value kind) g i more fits_too = (λ formal. absurd (false_not_true formal), fits_too (value_good sc a e kind v i, more))
    actual_fits e s c v (given_name kind) g i more fits_too = (λ formal named. absurd (false_not_true (sym named)), fits_too (value_good sc a e kind v i, more))
    actual_fits e s c v (given_array lows kind) g i more fits_too = let its = array_fits e kind (length lows) v g i in (λ formal named. its.0, its.1)
    actual_fits e s c v given_event g i more fits_too = let its = event_fits e v g i in (λ formal named. its.0, its.1)

    -- ---- expressions

    mutual
      pub expr_fits : (e : PExpr) → AreGood sc (sites e a) → CalledExprFits sc e
      expr_fits (tree.number z spot) g = tt
      expr_fits (tree.truth z spot) g = tt
      expr_fits (tree.variable (tree.subscripted n tree.none)) g =
          alone_fits n g.0.uses.0 g.0.right
          (λ h c typed.
          let its : if_so (is_some h.kind && not (length h.params == 0)) n.spot ≡ [] = rw c at g.0.counted in
          counted_as (length h.params) 0 (second_not (is_some h.kind) (not (length h.params == 0)) n.spot typed its))
      expr_fits (tree.variable (tree.subscripted n (tree.more e es))) g = (
        array_leads n g.0.uses.0 (append_none_left (wrong_by is_array n) _ g.0.right),
        expr_fits e (all_left (IsGood sc) (sites e a) (inside_list es a) g.1),
        list_fits es (all_right (IsGood sc) (sites e a) (inside_list es a) g.1),
      )
      expr_fits (tree.call (tree.called n es)) g =
          let u = g.0.uses.0 in
          let function = name_right sc j outer a r (use_by_name a n) n u is_function g.0.right in
          call_by n es u (and_first (is_procedure u.declared.class) (is_some (read_type u.declared.class)) function)
          (λ h c.
          let its : if_so (not (length h.params == exprs_count es)) n.spot ≡ [] = rw c at g.0.counted in
          counted_as (length h.params) (exprs_count es) (not_so (not (length h.params == exprs_count es)) n.spot its))
          g.1 (λ ns h c s i. actuals_fit es ns h c s i)
      expr_fits (tree.tested test es spot) g = (events_in es g.0.uses g.0.right, few_events es spot g.0.counted)
      expr_fits (tree.paren e spot) g = expr_fits e g.1
      expr_fits (tree.plus e spot) g = expr_fits e g.1
      expr_fits (tree.neg e spot) g = expr_fits e g.1
      expr_fits (tree.not e spot) g = expr_fits e g.1
      expr_fits (tree.two op x y) g =
          (expr_fits x (all_left (IsGood sc) (sites x a) (sites y a) g.1), expr_fits y (all_right (IsGood sc) (sites x a) (sites y a) g.1))
      expr_fits (tree.if c x y spot) g =
          let front = all_left (IsGood sc) (sites c a ++ sites x a) (sites y a) g.1 in (
            expr_fits c (all_left (IsGood sc) (sites c a) (sites x a) front),
            expr_fits x (all_right (IsGood sc) (sites c a) (sites x a) front),
            expr_fits y (all_right (IsGood sc) (sites c a ++ sites x a) (sites y a) g.1),
          )

      pub list_fits : (es : PExprs) → AreGood sc (inside_list es a) → ExprsFit sc es
      list_fits tree.none g = tt
      list_fits (tree.more e es) g =
          (expr_fits e (all_left (IsGood sc) (sites e a) (inside_list es a) g), list_fits es (all_right (IsGood sc) (sites e a) (inside_list es a) g))

      actuals_fit : (es : PExprs) (ns : List Named) (h : Heading) → length ns ≡ exprs_count es → AreSpecified h ns → AreGood sc (inside_actuals es (map (formal h) ns) a) →
          ActualsFit sc es (sorts_of (map (parameter h) ns))
      actuals_fit tree.none [] h c s g = tt
      actuals_fit tree.none (n ∷ ns) h c s g = absurd (omega (arith, c))
      actuals_fit (tree.more e es) [] h c s g = absurd (omega (arith, c))
      actuals_fit (tree.more e es) (n ∷ ns) h c s g =
          let by_value = is_named_in h.values n.name in
          let later = inside_actuals es (map (formal h) ns) a in
          let its = actual_fits e (sort_in h.specs by_value n.name) (class_in h.specs n.name) by_value (given h.specs by_value n.name s.0) g.0 g.1.0 (all_left (IsGood sc) (inside_expr e a) later g.1.1) (λ i. expr_fits e i) in
          (its.0, its.1, actuals_fit es ns h (omega (arith, c)) s.1 (all_right (IsGood sc) (inside_expr e a) later g.1.1))

    -- .. and a call by itself
    pub call_fits : (n : Named) (es : PExprs) (u : IsUsed sc a n) → is_procedure u.declared.class ≡ true →
        ((h : Heading) → class_of a n ≡ class.procedure h → length h.params ≡ exprs_count es) → AreGood sc (inside_actuals es (formals_at a n) a) →
        fits.IsCallee sc n × ActualsFit sc es (sorts_wanted sc n)
    call_fits n es u e many g = call_by n es u e many g (λ ns h c s i. actuals_fit es ns h c s i)

  -- ---- names that are seen

  module _ (once : EachOnce a) where
    abbrev Seen : Named → Type 0
    Seen n = BlockIsSeen sc j n

    one_seen : KnownAs Seen
    one_seen n u = seen sc j outer a r once n u

    -- an expression names what is seen, and its calls fit
    pub in_expr : (e : PExpr) → AreGood sc (sites e a) → InExpr Seen e × CalledExprFits sc e
    in_expr e g = (sites_known Seen one_seen e g, expr_fits once e g)

    pub in_list : (es : PExprs) → AreGood sc (inside_list es a) → InExprs Seen es × ExprsFit sc es
    in_list es g = (list_known Seen one_seen es g, list_fits once es g)

    pub in_actuals : (es : PExprs) (fs : List Formal) → AreGood sc (inside_actuals es fs a) → InExprs Seen es
    in_actuals es fs g = actuals_known Seen one_seen es fs g
