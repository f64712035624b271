-- Expressions at which no rule is broken are of a kind, and so are the parts of them.
use Rattle.algol_tree.proofs.Alone.{named_alone}
use Rattle.b67_limits.specs.declared.TheConstants.{MOST_EVENTS}
use Rattle.b67_deeds.specs.declared.EventTest.{EventTest}
use Rattle.b67_deeds.specs.Deeds.{tests, is_of_several}
use Rattle.algol_tree.specs.declared.token.Spot.{Spot}
use Rattle.algol_tree.specs.declared.tree.EventName.{EventName}
use Rattle.std.specs.Prelude.{◌≤◌, ◌==◌, ◌||◌, nat_lt, Bool, false, if◌then◌else◌}
use Rattle.std.proofs.lemmas.Bool.{ltb-false}
use Rattle.std.proofs.lemmas.List.{length-map}
use Rattle.std.proofs.Common.{flat_map, sym, arith, ◌≡◌, ◌⊎◌, inl, inr, not, true, is_some, List, [], ◌∷◌, ◌++◌, map, length, Option, Some, None, refl, ap, ◌∙◌, subst}
use Rattle.algol_tree.specs.declared.tree.Kind.{Kind}
use Rattle.algol_tree.specs.declared.tree.Kind.TheVariants as types
use Rattle.algol_tree.specs.declared.tree.Named.{Named}
use Rattle.algol_tree.specs.declared.tree.Heading.{Heading}
use Rattle.algol_tree.specs.Blocks.{Block}
use Rattle.algol_tree.specs.Checks.{wrong_actual}
use Rattle.algol_tree.specs.Classes as class
use Rattle.algol_tree.specs.Classes.{is_task, is_event, Class, Formal, is_array}
use Rattle.algol_tree.specs.Counted.{exprs_count, wrong_counts}
use Rattle.algol_tree.specs.Names.{places_if, if_so}
use Rattle.algol_tree.specs.Plain as tree
use Rattle.algol_tree.specs.Plain.{name_alone, PExpr, PExprs}
use Rattle.algol_tree.specs.Sites.{Part, expression, here, sites, is_of_value, wants_value, name_part, actual_part, actual_part_by, inside_expr, inside_list, inside_actuals}
use Rattle.algol_tree.specs.Sorts.{is_named_in, class_in}
use Rattle.algol_tree.specs.Surroundings.{Surroundings, class_of, formals_of_class, declared_as}
use Rattle.algol_tree.specs.Types.{given_by, taken_by, told_by, element_type, result_type, type_of}
use Rattle.b67_templates.specs.Events.{names_of, AreSoMany}
use Rattle.b67_list.proofs.Lists.{append_none_left, append_none_right, each_back, each_front}
use Rattle.b67_fitting.specs.Wholes.{AreNamed, NumbersWhole, AllWhole}
use Rattle.b67_fitting.specs.Typing.{IsOf, IsFunction, HasElements, AreEventful, TypedExpr, TypedActuals, TypedLine, TypedActual}
use Rattle.b67_fitting.proofs.Actuals.{array_actual, event_actual}
use Rattle.b67_fitting.proofs.Specified.{IsSpecified, as_value, as_name, as_array, as_event, AreSpecified, specified}
use Rattle.b67_fitting.proofs.Clean.{IsClean, AreClean, KnowsPlain, plain_first, misnamed, eventful_of, array_of, has_others, subscripts_as_many, as_many, none_taken, function_of, IsRead, read_kind, read_as, wrong, wrong_for, wrong_list, kind_wanted, wrong_if}

-- a parameter as its call sees it
abbrev pub as_formal : Heading → Named → Formal
as_formal h n = record { class = class_in h.specs n.name; by_value = is_named_in h.values n.name }

-- an actual of which a value is wanted is a part as an expression
pub actual_part_is : (e : PExpr) (f : Option Formal) → wants_value f ≡ true → actual_part e f ≡ expression e
actual_part_is e f h = by (name_alone e) refl
  where
    by : (o : Option Named) → name_alone e ≡ o → actual_part_by o e f ≡ expression e
    by None g = refl
    by (Some n) g = ap (name_part n) h ∙ ap expression (sym (named_alone e n g))

-- where no count is wrong, as many events are named as may be
so_many : (x : EventTest) (es : List EventName) (spot : Spot) → AreNamed (is_of_several (tests x)) (length es) →
    if_so ((length es == 0) || nat_lt MOST_EVENTS (length es)) spot ≡ [] →
    AreSoMany (tests x) (names_of es)
so_many x es spot h w = by (is_of_several (tests x)) h (few (length es == 0) (nat_lt MOST_EVENTS (length es)) refl w)
  where
    few : (none many : Bool) → nat_lt MOST_EVENTS (length es) ≡ many → if_so (none || many) spot ≡ [] → length es ≤ MOST_EVENTS
    few true many e k = absurd (let clash : spot ∷ [] ≡ [] = k in cc)
    few false true e k = absurd (let clash : spot ∷ [] ≡ [] = k in cc)
    few false false e k = ltb-false MOST_EVENTS (length es) e

    by : (b : Bool) → AreNamed b (length es) → length es ≤ MOST_EVENTS → (1 ≤ length (names_of es)) × (length (names_of es) ≤ (if b then MOST_EVENTS else 1))
    by true k m = (omega (arith, k, length-map es (λ (e : EventName). e.name)), omega (arith, m, length-map es (λ (e : EventName). e.name)))
    by false k m = (omega (arith, k, length-map es (λ (e : EventName). e.name)), omega (arith, k, length-map es (λ (e : EventName). e.name)))

module _ (a : Surroundings) where
  pub record HasKind (e : PExpr) : Type 0 where
    pub kind : Kind
    pub is : type_of e a ≡ Some kind
    pub typed : TypedExpr a kind e

  pub of_kind : (m : Kind) (e : PExpr) → HasKind e → wrong m e a ≡ [] → TypedExpr a m e
  of_kind m e h w = subst (λ (k : Kind). TypedExpr a k e) (kind_wanted m h.kind e a h.is w) h.typed

module _ (blocks : List Block) (a : Surroundings) (plain : KnowsPlain a) where
  read_is : (n : Named) (k : Kind) → IsRead (class_of a n) k → wrong_counts (here (tree.variable (tree.subscripted n tree.none)) a) ≡ [] → IsOf a k n ⊎ IsFunction a k n
  read_is n k (inl e) w = inl e
  read_is n k (inr f) w = inr (f.0, f.1, f.2, none_taken (class_of a n) f.0 k n.spot f.1 f.2 w)

  of_variable : (n : Named) → IsClean blocks (here (tree.variable (tree.subscripted n tree.none)) a) → HasKind a (tree.variable (tree.subscripted n tree.none))
  of_variable n c =
      let r = read_kind (class_of a n) n.spot (plain_first a plain n [] c.known) c.typed in
      record { kind = r.0; is = read_as (class_of a n) r.0 r.1; typed = read_is n r.0 r.1 c.counted }

  -- a name with subscripts, as many as its array has bounds
  pub elements : (n : Named) (es : PExprs) → if_so (not (is_some (declared_as a n))) n.spot ++ [] ≡ [] → misnamed is_array (class_of a n) n.spot ≡ [] →
      if_so (has_others (class_of a n) (exprs_count es)) n.spot ≡ [] → (k : Kind) × HasElements a k n es
  elements n es known named counted =
      let r = array_of (class_of a n) n.spot (plain_first a plain n [] known) named in
      (r.0, subscripts_as_many (class_of a n) r.0 r.1 (exprs_count es) n.spot r.2 counted)

  -- the events of a test
  eventful : (es : List EventName) → places_if (λ (n : Named). not (is_some (declared_as a n))) (map (λ (e : EventName). e.name) es) ≡ [] →
      flat_map (λ (e : EventName). if e.task then misnamed is_task (class_of a e.name) e.name.spot else misnamed is_event (class_of a e.name) e.name.spot) es ≡ [] →
      AreEventful a (map (λ (e : EventName). e.name) es)
  eventful [] k t = tt
  eventful (e ∷ es) k t =
      let more = places_if (λ (n : Named). not (is_some (declared_as a n))) (map (λ (e : EventName). e.name) es) in
      let its = if e.task then misnamed is_task (class_of a e.name) e.name.spot else misnamed is_event (class_of a e.name) e.name.spot in
      let others = flat_map (λ (e : EventName). if e.task then misnamed is_task (class_of a e.name) e.name.spot else misnamed is_event (class_of a e.name) e.name.spot) es in (
        eventful_of e.task (class_of a e.name) e.name.spot (plain_first a plain e.name more k) (append_none_left its others t),
        eventful es (append_none_right (if_so (not (is_some (declared_as a e.name))) e.name.spot) more k) (append_none_right its others t),
      )

  -- an actual of a simple parameter
  value_typed : (h : Heading) (n : Named) (k : Kind) → class_in h.specs n.name ≡ class.simple k → (e : PExpr) → (IsClean blocks (here e a) → HasKind a e) →
      IsClean blocks (record { part = actual_part e (Some (as_formal h n)); around = a }) → wrong_actual (Some (as_formal h n)) e a ≡ [] → TypedActual a (as_formal h n) e
  value_typed h n k c e typed own w =
      let f = as_formal h n in
      let valued : wants_value (Some f) ≡ true = ap is_of_value c in
      let he = typed (subst (λ (p : Part). IsClean blocks (record { part = p; around = a })) (actual_part_is e (Some f) valued) own) in
      inl (k, c, of_kind a k e he (subst (λ (d : Class). wrong_actual (Some (record { class = d; by_value = f.by_value })) e a ≡ []) c w))

  actual_typed : (h : Heading) (n : Named) → IsSpecified h n → (e : PExpr) → (IsClean blocks (here e a) → HasKind a e) →
      IsClean blocks (record { part = actual_part e (Some (as_formal h n)); around = a }) → wrong_actual (Some (as_formal h n)) e a ≡ [] → TypedActual a (as_formal h n) e
  actual_typed h n (as_value k c v s) e typed own w = value_typed h n k c e typed own w
  actual_typed h n (as_name k c v s) e typed own w = value_typed h n k c e typed own w
  actual_typed h n (as_array shape c e' s) e typed own w = inr (inl (array_actual blocks a plain (as_formal h n) shape.kind (length shape.lows) c e w own))
  actual_typed h n (as_event c e' s) e typed own w = inr (inr (event_actual blocks a plain (as_formal h n) c e w own))

  mutual
    pub typed : (e : PExpr) → NumbersWhole e → AreClean blocks (sites e a) → HasKind a e
    typed (tree.number z spot) w c = record { kind = types.Number; is = refl; typed = (refl, w) }
    typed (tree.truth b spot) w c = record { kind = types.Truth; is = refl; typed = refl }
    typed (tree.variable (tree.subscripted n tree.none)) w c = of_variable n c.0
    typed (tree.variable (tree.subscripted n (tree.more e es))) w c =
        let r = elements n (tree.more e es) c.0.known (append_none_left (misnamed is_array (class_of a n) n.spot) (wrong_list types.Number (tree.more e es) a) c.0.typed) c.0.counted in
        record {
          kind = r.0;
          is = ap element_type r.1;
          typed =
              (r.1, typed_line (tree.more e es) w c.1 (append_none_right (misnamed is_array (class_of a n) n.spot) (wrong_list types.Number (tree.more e es) a) c.0.typed));
        }
    typed (tree.call (tree.called n tree.none)) w c = absurd w
    typed (tree.call (tree.called n (tree.more e es))) w c =
        let f = function_of (class_of a n) n.spot (plain_first a plain n [] c.0.known) c.0.typed in
        let h = f.heading in
        let many = as_many (class_of a n) h (exprs_count (tree.more e es)) n.spot f.class_is c.0.counted in
        let inside = subst (λ (d : Class). AreClean blocks (inside_actuals (tree.more e es) (formals_of_class d) a)) f.class_is c.1 in
        record {
          kind = f.kind;
          is = ap result_type f.class_is ∙ f.kind_is;
          typed = (h, f.class_is, f.built, f.kind_is, typed_actuals h h.params (specified h f.built) (tree.more e es) w many inside);
        }
    typed (tree.tested x es spot) w c =
        record { kind = told_by x; is = refl; typed = (refl, so_many x es spot w c.0.counted, eventful es c.0.known c.0.typed) }
    typed (tree.paren e spot) w c =
        let h = typed e w c.1 in
        record { kind = h.kind; is = h.is; typed = h.typed }
    typed (tree.plus e spot) w c = record { kind = types.Number; is = refl; typed = (refl, of_kind a types.Number e (typed e w c.1) c.0.typed) }
    typed (tree.neg e spot) w c = record { kind = types.Number; is = refl; typed = (refl, of_kind a types.Number e (typed e w c.1) c.0.typed) }
    typed (tree.not e spot) w c = record { kind = types.Truth; is = refl; typed = (refl, of_kind a types.Truth e (typed e w c.1) c.0.typed) }
    typed (tree.two op x y) w c =
        let hx = typed x w.0 (each_front (IsClean blocks) (sites x a) (sites y a) c.1) in
        let hy = typed y w.1 (each_back (IsClean blocks) (sites x a) (sites y a) c.1) in
        record {
          kind = given_by op;
          is = refl;
          typed =
              (refl, of_kind a (taken_by op) x hx (append_none_left (wrong (taken_by op) x a) (wrong (taken_by op) y a) c.0.typed), of_kind a (taken_by op) y hy (append_none_right (wrong (taken_by op) x a) (wrong (taken_by op) y a) c.0.typed));
        }
    typed (tree.if s x y spot) w c =
        let front = each_front (IsClean blocks) (sites s a ++ sites x a) (sites y a) c.1 in
        let hs = typed s w.0 (each_front (IsClean blocks) (sites s a) (sites x a) front) in
        let hx = typed x w.1 (each_back (IsClean blocks) (sites s a) (sites x a) front) in
        let hy = typed y w.2 (each_back (IsClean blocks) (sites s a ++ sites x a) (sites y a) c.1) in
        record {
          kind = hx.kind;
          is = hx.is;
          typed =
              (of_kind a types.Truth s hs (append_none_left (wrong types.Truth s a) (wrong_for (type_of x a) y a) c.0.typed), hx.typed, of_kind a hx.kind y hy (wrong_if hx.kind (type_of x a) y a hx.is (append_none_right (wrong types.Truth s a) (wrong_for (type_of x a) y a) c.0.typed)));
        }

    pub typed_actuals : (h : Heading) (ns : List Named) → AreSpecified h ns → (es : PExprs) → AllWhole es → length ns ≡ exprs_count es → AreClean blocks (inside_actuals es (map (as_formal h) ns) a) →
        TypedActuals a (map (as_formal h) ns) es
    typed_actuals h [] v tree.none w l c = tt
    typed_actuals h [] v (tree.more e es) w l c = absurd (omega (arith, l))
    typed_actuals h (n ∷ ns) v tree.none w l c = absurd (omega (arith, l))
    typed_actuals h (n ∷ ns) v (tree.more e es) w l c =
        let rest = inside_actuals es (map (as_formal h) ns) a in (
          actual_typed h n v.0 e (λ own. typed e w.0 (own, each_front (IsClean blocks) (inside_expr e a) rest c.1.1)) c.1.0 c.0.typed,
          typed_actuals h ns v.1 es w.1 (omega (arith, l)) (each_back (IsClean blocks) (inside_expr e a) rest c.1.1),
        )

    pub typed_line : (es : PExprs) → AllWhole es → AreClean blocks (inside_list es a) → wrong_list types.Number es a ≡ [] → TypedLine a es
    typed_line tree.none w c h = tt
    typed_line (tree.more e es) w c h =
        let he = typed e w.0 (each_front (IsClean blocks) (sites e a) (inside_list es a) c) in
        (of_kind a types.Number e he (append_none_left (wrong types.Number e a) (wrong_list types.Number es a) h), typed_line es w.1 (each_back (IsClean blocks) (sites e a) (inside_list es a) c) (append_none_right (wrong types.Number e a) (wrong_list types.Number es a) h))
