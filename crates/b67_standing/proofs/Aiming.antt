-- What has its head in a left side, or in a subscripted actual whose place is asked for, goes on with what the head answers: an index leads to the
-- element, or to the row in which the second subscript counts; a name leads to a variable, or its actual is entered.
use Rattle.std.proofs.Common.{◌≡◌, refl, sym, ap, ◌∙◌, subst, ℕ, arith, List, [], ◌∷◌, ◌++◌}
use Rattle.algol_tree.specs.declared.tree.Kind.{Kind}
use Rattle.algol_tree.specs.declared.tree.Kind.TheVariants as types
use Rattle.algol_tree.specs.declared.tree.Named.{Named}
use Rattle.algol_tree.specs.Plain as tree
use Rattle.algol_tree.specs.Plain.{PExpr, PExprs}
use Rattle.algol_tree.specs.Scopes.{Scopes}
use Rattle.algol_meaning.specs.Value.{Value}
use Rattle.algol_meaning.specs.Rest as rests
use Rattle.algol_meaning.specs.Rest.{Hole, Half, Aim, HalfPlace, Rest, Answer}
use Rattle.algol_meaning.specs.Settle.{aimed_of, half_place_of, settle, answer_put, put_place}
use Rattle.algol_meaning.specs.Asks.{Ask, nothing, indexes, resolves, ask_aim, ask, resume}
use Rattle.b67_segment.specs.Operators.{Placed}
use Rattle.b67_templates.specs.Contexts as yielding
use Rattle.b67_templates.specs.Contexts.{Yields, Context}
use Rattle.b67_templates.specs.Fragments.{stop}
use Rattle.b67_standing.specs.Stepping.{row, Slot, descriptor}
use Rattle.b67_standing.specs.Standing.{Gives, pushed, IsNext, of_row, of_element, Aims, ComesTo, ActionAt, Acted, Entered, CodeGoesOn}
use Rattle.b67_standing.proofs.Seeking.{Seeking, sought_in}
use Rattle.b67_standing.proofs.Halves.{Comes}
use Rattle.b67_standing.proofs.Settling.{settle_at}
use Rattle.b67_standing.proofs.Putting.{inside_of, inside_asks, puts_on}
use Rattle.b67_standing.proofs.Rests.{after_rest}
use Rattle.b67_standing.proofs.Elements.{AfterPlace, aimed_stands}

-- the place while what its head entered is in progress
abbrev inside_aim : Aim → Aim
inside_aim (rests.place_subscript n ks h es) = rests.place_subscript n ks (inside_of h) es
inside_aim _ = rests.inside_place

-- it asks for nothing
inside_aim_asks : (x : Aim) → ask_aim (inside_aim x) ≡ nothing
inside_aim_asks (rests.place_subscript n ks h es) = inside_asks h
inside_aim_asks _ = refl

-- where the head enters, the place is in progress, and goes on with what is given as after an answer
record InsideAim (sc : Scopes) (x : Aim) : Type 0 where
  pub inner : put_place sc x rests.entered ≡ rests.aims (inside_aim x)
  pub same : (a : Answer) → put_place sc (inside_aim x) a ≡ put_place sc x a

module _ (sc : Scopes) (context : Context) (ps : List Placed) (level most : ℕ) where
  abbrev Coming : Rest → ℕ → List Slot → Type 0
  Coming = ComesTo sc context ps level most

  -- The head does what is asked for, and whatever it answers, the machine then comes to where it stands for what is done with the place: `f` is
  -- that.
  record AimsOn (q : Ask) (x : Aim) (f : HalfPlace → Rest) (pc : ℕ) (slots : List Slot) : Type 0 where
    pub action : ActionAt sc context ps level most q pc slots
    pub answered : (a : Answer) (at : ℕ) (after : List Slot) → Acted sc context ps level most q pc slots action a at after → Coming (f (put_place sc x a)) at after
    pub returns : (at : ℕ) (after : List Slot) (wanted : Yields) → Entered sc context ps level most q pc slots action at after wanted → (a : Answer) → Gives wanted a →
        Coming (f (put_place sc x a)) at (pushed wanted a after)
    pub inside : (at : ℕ) (after : List Slot) (wanted : Yields) → Entered sc context ps level most q pc slots action at after wanted → InsideAim sc x

  module _ (kind : Kind) (below : List Slot) (m : ℕ) (f : HalfPlace → Rest) (then : AfterPlace sc context ps level most kind below m f) where
    abbrev Standing : Aim → ℕ → List Slot → Type 0
    Standing x pc slots = Aims sc context ps level most kind x pc slots below m

    -- ---- the last index

    element_answered : (n : Named) (ks : List ℕ) (v : Value) (pc : ℕ) (slots : List Slot) (s : Standing (rests.place_index n ks v tree.none) pc slots) (a : Answer) (at : ℕ)
        (left : List Slot) → Acted sc context ps level most (indexes n ks v) pc slots (of_element kind m below s) a at left →
        Coming (f (put_place sc (rests.place_index n ks v tree.none) a)) at left
    element_answered n ks v pc slots s (rests.place (rests.element_of r more)) at left l =
        let next = f (rests.at (rests.element_of r more)) in
        subst (λ z. Coming next z left) (sym l.0) (subst (λ o. Coming next m o) (sym l.1) (then.found (rests.element_of r more) tt))
    element_answered n ks v pc slots s (rests.place (rests.own x)) at left l = absurd l
    element_answered n ks v pc slots s (rests.place (rests.there x)) at left l = absurd l
    element_answered n ks v pc slots s (rests.value w) at left l = absurd l
    element_answered n ks v pc slots s rests.done at left l = absurd l
    element_answered n ks v pc slots s (rests.cell c) at left l = absurd l
    element_answered n ks v pc slots s rests.entered at left l = absurd l

    -- ---- the first of two

    abbrev Two : Named → List ℕ → Value → PExpr → Aim
    Two n ks v i = rests.place_index n ks v (tree.more i tree.none)

    row_on : (n : Named) (ks : List ℕ) (v : Value) (i : PExpr) (pc : ℕ) (slots : List Slot) (y : Standing (Two n ks v i) pc slots) (more : List ℕ) → IsNext ks more →
        Coming (f (aimed_of n more (settle sc i) tree.none)) y.2 (descriptor (row n more) ∷ below)
    row_on n ks v i pc slots y more next =
        let r = y.4 in
        let two = y.6 in
        let one : more ≡ next.0 ∷ [] = next.1 ∙ ap (λ js. js ++ next.0 ∷ []) r.first in
        let over = descriptor (row n (next.0 ∷ [])) ∷ below in
        let d = settle_at sc context ps level most types.Number i y.2 two.0 two.0 two.2 stop over (omega (arith, y.8)) in
        let seeks : Seeking sc context ps level most (settle sc i) d.at d.with_slots n r.couple (r.array).lows (next.0 ∷ []) tree.none below y.3 =
        subst (λ lows. Seeking sc context ps level most (settle sc i) d.at d.with_slots n r.couple lows (next.0 ∷ []) tree.none below y.3) (sym r.lows_are)
        (two.0, two.1, d.shows, two.3, two.4, omega (arith, y.8)) in
        subst (λ js. Coming (f (aimed_of n js (settle sc i) tree.none)) y.2 (descriptor (row n js) ∷ below)) (sym one)
        (after_rest sc context ps level most d.leads
        (aimed_stands sc context ps level most n r.array r.couple kind y.3 m below f then (record { is_array = r.is_array; kind_is = y.5; index = y.7 }) (settle sc i) d.at d.with_slots
        (next.0 ∷ []) tree.none seeks))

    row_answered : (n : Named) (ks : List ℕ) (v : Value) (i : PExpr) (pc : ℕ) (slots : List Slot) (y : Standing (Two n ks v i) pc slots) (a : Answer) (at : ℕ) (left : List Slot) →
        Acted sc context ps level most (indexes n ks v) pc slots (of_row y.0 y.1 y.2 below y.4) a at left → Coming (f (put_place sc (Two n ks v i) a)) at left
    row_answered n ks v i pc slots y (rests.place (rests.element_of r more)) at left l =
        let next = f (aimed_of n more (settle sc i) tree.none) in
        subst (λ z. Coming next z left) (sym l.0) (subst (λ o. Coming next y.2 o) (sym l.1) (row_on n ks v i pc slots y more l.2))
    row_answered n ks v i pc slots y (rests.place (rests.own x)) at left l = absurd l
    row_answered n ks v i pc slots y (rests.place (rests.there x)) at left l = absurd l
    row_answered n ks v i pc slots y (rests.value w) at left l = absurd l
    row_answered n ks v i pc slots y rests.done at left l = absurd l
    row_answered n ks v i pc slots y (rests.cell c) at left l = absurd l
    row_answered n ks v i pc slots y rests.entered at left l = absurd l

    -- ---- a subscript

    subscript_on : (n : Named) (ks : List ℕ) (h : Hole) (es : PExprs) (pc : ℕ) (slots : List Slot) → Standing (rests.place_subscript n ks h es) pc slots →
        AimsOn (ask_aim (rests.place_subscript n ks h es)) (rests.place_subscript n ks h es) f pc slots
    subscript_on n ks h es pc slots y =
        let w = sought_in sc context ps level most h pc slots n y.1 (y.0).lows ks es below y.2 y.5 in
        let p = puts_on sc context ps level most types.Number h pc slots w.over w.at w.holds in
        let go : (z : Half) (at : ℕ) (left : List Slot) → Comes sc context ps level most types.Number at left z w.over w.at → Coming (f (aimed_of n ks z es)) at left = λ z at left c.
        after_rest sc context ps level most c.leads
        (aimed_stands sc context ps level most n y.0 y.1 kind y.2 m below f then (record { is_array = y.3; kind_is = y.4; index = y.6 }) z c.at c.with_slots ks es
        (w.back z c.at c.with_slots c.shows)) in
        record {
          action = p.action;
          answered = λ a at left l. go (answer_put sc h a) at left (p.answered a at left l);
          returns = λ at left wanted l a fits. go (answer_put sc h a) at (pushed wanted a left) (p.returns at left wanted l a fits);
          inside = λ at left wanted l.
              let i = p.inside at left wanted l in record { inner = ap (λ z. aimed_of n ks z es) i.inner; same = λ a. ap (λ z. aimed_of n ks z es) (i.same a) };
        }

    -- ---- a name

    resolved : (n : Named) (pc : ℕ) (slots : List Slot) (s : Standing (rests.resolve n) pc slots) (a : Answer) (at : ℕ) (left : List Slot) →
        Acted sc context ps level most (resolves n) pc slots (kind, m, below, s) a at left → Coming (f (half_place_of a)) at left
    resolved n pc slots s (rests.place (rests.there r)) at left l =
        let next = f (rests.at (rests.there r)) in
        subst (λ z. Coming next z left) (sym l.0) (subst (λ o. Coming next m o) (sym l.1) (then.found (rests.there r) tt))
    resolved n pc slots s (rests.place (rests.own x)) at left l = absurd l
    resolved n pc slots s (rests.place (rests.element_of x ks)) at left l = absurd l
    resolved n pc slots s (rests.value w) at left l = absurd l
    resolved n pc slots s rests.done at left l = absurd l
    resolved n pc slots s (rests.cell c) at left l = absurd l
    resolved n pc slots s rests.entered at left l = absurd l

    -- the place that its actual gives
    place_given : (a : Answer) → Gives (yielding.element kind) a → Coming (f (half_place_of a)) m (pushed (yielding.element kind) a below)
    place_given (rests.place p) fits = then.found p fits
    place_given (rests.value w) fits = absurd fits
    place_given rests.done fits = absurd fits
    place_given (rests.cell c) fits = absurd fits
    place_given rests.entered fits = absurd fits

    place_back : (a : Answer) (at : ℕ) (left : List Slot) (wanted : Yields) → at ≡ m → left ≡ below → wanted ≡ yielding.element kind → Gives wanted a →
        Coming (f (half_place_of a)) at (pushed wanted a left)
    place_back a at left wanted e l is fits =
        subst (λ z. Coming (f (half_place_of a)) z (pushed wanted a left)) (sym e)
        (subst (λ o. Coming (f (half_place_of a)) m (pushed wanted a o)) (sym l)
        (subst (λ (y : Yields). Gives y a → Coming (f (half_place_of a)) m (pushed y a below)) (sym is) (place_given a) fits))

    -- ---- all places

    aims_on : (x : Aim) (pc : ℕ) (slots : List Slot) → Standing x pc slots → AimsOn (ask_aim x) x f pc slots
    aims_on (rests.place_index n ks v tree.none) pc slots s = record {
      action = of_element kind m below s;
      answered = element_answered n ks v pc slots s;
      returns = λ at left wanted l. absurd l;
      inside = λ at left wanted l. absurd l;
    }
    aims_on (rests.place_index n ks v (tree.more i tree.none)) pc slots s = record {
      action = of_row s.0 s.1 s.2 below s.4;
      answered = row_answered n ks v i pc slots s;
      returns = λ at left wanted l. absurd l;
      inside = λ at left wanted l. absurd l;
    }
    aims_on (rests.place_index n ks v (tree.more i (tree.more i' is))) pc slots s = absurd s
    aims_on (rests.place_subscript n ks h es) pc slots s = subscript_on n ks h es pc slots s
    aims_on (rests.resolve n) pc slots s = record {
      action = (kind, m, below, s);
      answered = resolved n pc slots s;
      returns = λ at left wanted l a fits. place_back a at left wanted l.0 l.1 l.2 fits;
      inside = λ at left wanted l. record { inner = refl; same = λ a. refl };
    }
    aims_on rests.inside_place pc slots s = absurd s

    -- What has its head in a place does with the place what it does, whether its head answers or what it entered: `f` is what stands there
    -- for the place.
    pub by_aim : (x : Aim) (pc : ℕ) (slots : List Slot) → Standing x pc slots → ((y : Aim) → ask (f (rests.aims y)) ≡ ask_aim y) →
        ((y : Aim) (a : Answer) → resume sc (f (rests.aims y)) a ≡ f (put_place sc y a)) → CodeGoesOn sc context ps level most (f (rests.aims x)) pc slots
    by_aim x pc slots s asks resumes =
        let p : AimsOn (ask (f (rests.aims x))) x f pc slots = subst (λ q. AimsOn q x f pc slots) (sym (asks x)) (aims_on x pc slots s) in
        record {
          action = p.action;
          answered = λ a at left l. subst (λ r. Coming r at left) (sym (resumes x a)) (p.answered a at left l);
          waits = λ at left wanted l. ap ask (resumes x rests.entered ∙ ap f (p.inside at left wanted l).inner) ∙ asks (inside_aim x) ∙ inside_aim_asks x;
          returns = λ at left wanted l a fits.
              let i = p.inside at left wanted l in
              let back : resume sc (resume sc (f (rests.aims x)) rests.entered) a ≡ f (put_place sc x a) =
              ap (λ r. resume sc r a) (resumes x rests.entered ∙ ap f i.inner) ∙ resumes (inside_aim x) a ∙ ap f (i.same a) in
              subst (λ r. Coming r at (pushed wanted a left)) (sym back) (p.returns at left wanted l a fits);
        }
