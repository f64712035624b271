use Rattle.std.proofs.Common.{◌≡◌, ◌⊎◌, refl, sym, ap, subst, ◌∙◌, Bool, false, List, ◌∷◌, [], ◌++◌, length, ℕ, ◌+◌, arith}
use Rattle.b67_segment.specs.declared.code.Code.{Code}
use Rattle.b67_outcomes.specs.declared.found.Limit.{Limit}
use Rattle.b67_outcomes.specs.Entering.{HasRoom, ProcessEnters}
use Rattle.b67_outcomes.specs.Finding.{History, IsAfter, IsArrived, IsFollowed, IsSearched}
use Rattle.b67_outcomes.specs.Kept.{IsSame, IsReady, IsHeld, IsTree}
use Rattle.b67_outcomes.proofs.Histories.{after_more, after_none, at_history, ok_map, ok_both}
use Rattle.b67_outcomes.proofs.Rooms.{for_one, after_one}
use Rattle.b67_outcomes.proofs.Keeping.{number_few, noted_grows, noted_searched, noted_followed, followed_arrived}
use Rattle.b67_outcomes.proofs.Trees.{kept_same, kept_next}
use Rattle.b67_outcomes.proofs.follow.find.Goals as goal

pub returns-then-not-entered-clause-grows : goal.returns-then-not-entered-clause-grows
returns-then-not-entered-clause-grows g c =
    let l : Limit = record { state = c.args.number; process = c.args.process } in
    noted_grows c.args.found.now _ l refl refl c.in_ok-push.ensures.items refl

pub returns-then-not-entered-clause-searched : goal.returns-then-not-entered-clause-searched
returns-then-not-entered-clause-searched g c =
    let l : Limit = record { state = c.args.number; process = c.args.process } in
    let here = c.requires.stands in
    noted_searched (g.W.Walker.code c.args.walker.now) c.args.most c.args.found.now _ l here.history (g.W.Walker.image c.args.walker.now)
    (g.W.Walker.image c.enter.new.self) c.requires.searched refl refl c.in_ok-push.ensures.items refl c.requires.state here.is here.leads c.requires.may
    (subst (λ (b : Bool). ProcessEnters (g.W.Walker.code c.args.walker.now) c.args.process (g.W.Walker.image c.args.walker.now) b (g.W.Walker.image c.enter.new.self))
    c.if-not-entered.true c.in_ok-entered.ensures.entered)

pub returns-then-not-entered-clause-followed : goal.returns-then-not-entered-clause-followed
returns-then-not-entered-clause-followed g c = λ history is.
    let l : Limit = record { state = c.args.number; process = c.args.process } in
    let code = g.W.Walker.code c.args.walker.now in
    let here = g.W.Walker.image c.args.walker.now in
    noted_followed code (g.W.Walker.Local code) _ c.args.found.now.limits.items l history here
    (g.W.Walker.image c.enter.new.self) c.in_ok-push.ensures.items (at_history code c.args.found.now.steps.items c.args.number here history c.requires.stands is)
    (subst (λ (b : Bool). ProcessEnters code c.args.process here b (g.W.Walker.image c.enter.new.self))
    c.if-not-entered.true c.in_ok-entered.ensures.entered)

-- some run leads to where the machine stands
pub enter-requires : goal.enter-requires
enter-requires g c =
    record {
      may = c.requires.may;
      known = c.requires.known;
      reached = (c.requires.stands.history, c.requires.stands.leads);
      room =
          let few = number_few (g.W.Walker.code c.args.walker.now) c.args.most c.args.number c.args.found.now c.requires.stands.history c.requires.searched c.requires.stands.is in
          for_one (g.W.Walker.Room c.args.walker.now) c.args.number (omega (arith, few)) c.requires.room;
    }

pub arrive-requires-clause-room : goal.arrive-requires-clause-room
arrive-requires-clause-room g c =
    let few = number_few (g.W.Walker.code c.args.walker.now) c.args.most c.args.number c.args.found.now c.requires.stands.history c.requires.searched c.requires.stands.is in
    let path : c.push-2.new.self.items ≡ c.args.process ∷ [] = c.in_ok-push-2.ensures.items ∙ ap (λ (z : List ℕ). z ++ c.args.process ∷ []) c.clear.ensures.items in
    subst (λ (z : List ℕ). HasRoom (g.W.Walker.Room c.enter.new.self) (c.args.number + length z)) (sym path)
    (after_one (g.W.Walker.Room c.args.walker.now) (g.W.Walker.Room c.enter.new.self) c.args.number (omega (arith, few)) c.requires.room
    (c.in_ok-entered.ensures.room c.if-not-entered.false))

pub arrive-requires-clause-short : goal.arrive-requires-clause-short
arrive-requires-clause-short g c =
    let path : c.push-2.new.self.items ≡ c.args.process ∷ [] = c.in_ok-push-2.ensures.items ∙ ap (λ (z : List ℕ). z ++ c.args.process ∷ []) c.clear.ensures.items in
    omega (arith, ap (λ (z : List ℕ). length z) path)

pub arrive-requires-clause-stands : goal.arrive-requires-clause-stands
arrive-requires-clause-stands g c =
    let code = g.W.Walker.code c.args.walker.now in
    let steps = c.args.found.now.steps.items in
    let here = g.W.Walker.image c.args.walker.now in
    let there = g.W.Walker.image c.enter.new.self in
    let p = c.args.process in
    let entered = subst (λ (b : Bool). ProcessEnters code p here b there) c.if-not-entered.false c.in_ok-entered.ensures.entered in
    let path : c.push-2.new.self.items ≡ p ∷ [] = c.in_ok-push-2.ensures.items ∙ ap (λ (z : List ℕ). z ++ p ∷ []) c.clear.ensures.items in
    subst (λ (k : Code). IsAfter k steps c.args.number c.push-2.new.self.items there) (sym c.enter.ensures.code)
    (after_more code steps c.args.number [] c.push-2.new.self.items p entered.0 here there path
    (after_none code steps c.args.number [] here refl c.requires.stands) entered.1)

pub returns-clause-followed : goal.returns-clause-followed
returns-clause-followed g c =
    let code = g.W.Walker.code c.args.walker.now in
    let after = g.W.Walker.code c.enter.new.self in
    let here = g.W.Walker.image c.args.walker.now in
    let there = g.W.Walker.image c.enter.new.self in
    let steps = c.args.found.now.steps.items in
    let entered = subst (λ (b : Bool). ProcessEnters code c.args.process here b there) c.if-not-entered.false c.in_ok-entered.ensures.entered in
    ok_map c.arrive.result (λ u. c.arrive.new.found.cut ≡ false → IsArrived after (g.W.Walker.Local after) c.arrive.new.found there)
    (λ u. (history : List ℕ) → History steps c.args.number history
    → IsFollowed code (g.W.Walker.Local code) c.arrive.new.found c.args.number history c.args.process)
    (λ u a history is.
    followed_arrived code (g.W.Walker.Local code) c.arrive.new.found c.args.number history c.args.process here there
    (at_history code steps c.args.number here history c.requires.stands is) entered
    (λ e. subst (λ (k : Code). IsArrived k (g.W.Walker.Local k) c.arrive.new.found there) c.enter.ensures.code (a e)))
    c.arrive.ensures.arrived

pub returns-then-not-entered-clause-tree : goal.returns-then-not-entered-clause-tree
returns-then-not-entered-clause-tree g c =
    let code = g.W.Walker.code c.args.walker.now in
    kept_same code (g.W.Walker.Local code) c.args.found.now _ c.args.number c.args.process refl refl c.requires.tree (c.args.process + 1) (omega arith)

pub returns-clause-tree : goal.returns-clause-tree
returns-clause-tree g c =
    let code = g.W.Walker.code c.args.walker.now in
    let Local = g.W.Walker.Local code in
    let after = g.W.Walker.code c.enter.new.self in
    let here = g.W.Walker.image c.args.walker.now in
    let there = g.W.Walker.image c.enter.new.self in
    let old = c.args.found.now in
    let new = c.arrive.new.found in
    let path = c.push-2.new.self.items in
    let p = c.args.process in
    let entered = subst (λ (b : Bool). ProcessEnters code p here b there) c.if-not-entered.false c.in_ok-entered.ensures.entered in
    let path_is : path ≡ p ∷ [] = c.in_ok-push-2.ensures.items ∙ ap (λ (z : List ℕ). z ++ p ∷ []) c.clear.ensures.items in
    ok_both c.arrive.result (λ u. IsSearched after c.args.most new)
    (λ u. IsSame c.args.most old new ⊎ IsHeld after (g.W.Walker.Local after) old c.args.number path there new)
    (λ u. IsTree code Local new × IsReady new c.args.number (p + 1))
    (λ u s keeps.
    kept_next code Local c.args.most c.args.number p entered.0 path here there old new c.requires.searched
    (subst (λ (k : Code). IsSearched k c.args.most new) c.enter.ensures.code s) c.requires.tree c.requires.state c.requires.stands entered.1 path_is
    (subst (λ (k : Code). IsSame c.args.most old new ⊎ IsHeld k (g.W.Walker.Local k) old c.args.number path there new) c.enter.ensures.code keeps))
    c.arrive.ensures.searched c.arrive.ensures.keeps
