-- What has its head in an expression, or in actuals, goes on with what the head answers.
use Rattle.std.proofs.Common.{◌≡◌, sym, ap, ◌∙◌, subst, ℕ, List}
use Rattle.algol_tree.specs.declared.tree.Kind.{Kind}
use Rattle.algol_tree.specs.Scopes.{Scopes}
use Rattle.algol_meaning.specs.Rest as rests
use Rattle.algol_meaning.specs.Rest.{Hole, Actuals, Half, busy, HalfGiven, Item, Rest, Answer}
use Rattle.algol_meaning.specs.Settle.{answer_put, put_actuals}
use Rattle.algol_meaning.specs.Asks.{ask_hole, ask_actuals, ask, resume}
use Rattle.b67_segment.specs.Operators.{Placed}
use Rattle.b67_templates.specs.Contexts.{Context}
use Rattle.b67_templates.specs.Cells.{Wanted}
use Rattle.b67_standing.specs.Stepping.{Slot}
use Rattle.b67_standing.specs.Standing.{pend, pushed, Holds, Fills, Shows, ComesTo, CodeGoesOn}
use Rattle.b67_standing.proofs.Actuals.{Filled, ComesFilled}
use Rattle.b67_standing.proofs.Halves.{Comes}
use Rattle.b67_standing.proofs.Putting.{PutsOn, FillsOn, inside_of, inside_actuals, inside_asks, inside_actuals_ask, puts_on, fills_on}
use Rattle.b67_standing.proofs.Rests.{after_rest}

module _ (sc : Scopes) (context : Context) (ps : List Placed) (level most : ℕ) where
  abbrev Coming : Rest → ℕ → List Slot → Type 0
  Coming = ComesTo sc context ps level most

  abbrev Going : Rest → ℕ → List Slot → Type 0
  Going = CodeGoesOn sc context ps level most

  -- at the next operator, with the counts of what comes after
  pub next_at : (k : List Item) (r : Rest) (to at : ℕ) (after : List Slot) → at ≡ to → after ≡ pend k → Coming r to (pend k) → Coming r at after
  next_at k r to at after e f c = subst (λ z. Coming r z after) (sym e) (subst (λ o. Coming r to o) (sym f) c)

  -- What has its head in an expression does with the expression's value what it does, whether its head answers or a procedure that
  -- it entered: `f` is what stands there for the expression.
  pub by_head : (kind : Kind) (h : Hole) (pc : ℕ) (slots below : List Slot) (to : ℕ) (f : Half → Rest) → Holds sc context ps level most kind h pc slots below to →
      ((g : Hole) → ask (f (busy g)) ≡ ask_hole g) → ((g : Hole) (a : Answer) → resume sc (f (busy g)) a ≡ f (answer_put sc g a)) →
      ((z : Half) (at : ℕ) (left : List Slot) → Shows sc context ps level most kind z at left below to → Coming (f z) at left) → Going (f (busy h)) pc slots
  by_head kind h pc slots below to f holds asks resumes stands =
      let p : PutsOn sc context ps level most (ask (f (busy h))) kind h pc slots below to =
      subst (λ q. PutsOn sc context ps level most q kind h pc slots below to) (sym (asks h)) (puts_on sc context ps level most kind h pc slots below to holds) in
      let goes : (z : Half) (at : ℕ) (left : List Slot) → Comes sc context ps level most kind at left z below to → Coming (f z) at left = λ z at left c.
      after_rest sc context ps level most c.leads (stands z c.at c.with_slots c.shows) in
      record {
        action = p.action;
        answered = λ a at left l. subst (λ r. Coming r at left) (sym (resumes h a)) (goes (answer_put sc h a) at left (p.answered a at left l));
        waits = λ at left wanted l. ap ask (resumes h rests.entered ∙ ap f (p.inside at left wanted l).inner) ∙ asks (inside_of h) ∙ inside_asks h;
        returns = λ at left wanted l a fits.
            let i = p.inside at left wanted l in
            let back : resume sc (resume sc (f (busy h)) rests.entered) a ≡ f (answer_put sc h a) =
            ap (λ r. resume sc r a) (resumes h rests.entered ∙ ap f i.inner) ∙ resumes (inside_of h) a ∙ ap f (i.same a) in
            subst (λ r. Coming r at (pushed wanted a left)) (sym back) (goes (answer_put sc h a) at (pushed wanted a left) (p.returns at left wanted l a fits));
      }

  -- So does what has its head in the actuals of a call or of a PROCESS: `f` is what stands there for these.
  pub by_actuals : (all : List Wanted) (x : Actuals) (pc : ℕ) (slots begun : List Slot) (filled : ℕ) (f : HalfGiven → Rest) → Fills sc context ps level most all x pc slots begun filled →
      ((y : Actuals) → ask (f (rests.wants y)) ≡ ask_actuals y) → ((y : Actuals) (a : Answer) → resume sc (f (rests.wants y)) a ≡ f (put_actuals sc y a)) →
      ((z : HalfGiven) (at : ℕ) (left : List Slot) → Filled sc context ps level most all z at left begun filled → Coming (f z) at left) → Going (f (rests.wants x)) pc slots
  by_actuals all x pc slots begun filled f fills asks resumes stands =
      let p : FillsOn sc context ps level most (ask (f (rests.wants x))) all x pc slots begun filled =
      subst (λ q. FillsOn sc context ps level most q all x pc slots begun filled) (sym (asks x)) (fills_on sc context ps level most all x pc slots begun filled fills) in
      let goes : (z : HalfGiven) (at : ℕ) (left : List Slot) → ComesFilled sc context ps level most all z at left begun filled → Coming (f z) at left = λ z at left c.
      after_rest sc context ps level most c.leads (stands z c.at c.with_slots c.fills) in
      record {
        action = p.action;
        answered = λ a at left l. subst (λ r. Coming r at left) (sym (resumes x a)) (goes (put_actuals sc x a) at left (p.answered a at left l));
        waits = λ at left wanted l. ap ask (resumes x rests.entered ∙ ap f (p.inside at left wanted l).inner) ∙ asks (inside_actuals x) ∙ inside_actuals_ask x;
        returns = λ at left wanted l a fits.
            let i = p.inside at left wanted l in
            let back : resume sc (resume sc (f (rests.wants x)) rests.entered) a ≡ f (put_actuals sc x a) =
            ap (λ r. resume sc r a) (resumes x rests.entered ∙ ap f i.inner) ∙ resumes (inside_actuals x) a ∙ ap f (i.same a) in
            subst (λ r. Coming r at (pushed wanted a left)) (sym back) (goes (put_actuals sc x a) at (pushed wanted a left) (p.returns at left wanted l a fits));
      }
