use Rattle.std.proofs.Common.{◌≡◌, ℕ, true, false, List, length, ap, sym, ◌∙◌, subst, Option, Some, None, slice_get}
use Rattle.algol_meaning.specs.Critical.{is_this}
use Rattle.algol_cells.specs.SeenScope.{scoped}
use Rattle.algol_world.specs.SeenWorld as views
use Rattle.algol_world.specs.SeenWorld.{process_of}
use Rattle.b67_list.proofs.Numbers.{smaller}
use Rattle.algol_perform.specs.Going.{own_instance_of, AreLeft}
use Rattle.algol_perform.proofs.Newer.{Seeking, seek_none, seek_here, seek_more, below_length, longer}
use Rattle.algol_perform.proofs.parts.left_by.Goals as goal

pub returns-then-is_this : goal.returns-then-is_this
returns-then-is_this c =
    let parts = (process_of c.args.world.now c.args.process).todo in
    let left = c.leaving.left.items in
    let x = views.part (scoped c.args.world.now.scopes) c.in-Some.part.now in
    let some : Some x ≡ slice_get parts (length left) = c.in-Some.ensures ∙ ap (slice_get parts) (c.len.ensures ∙ c.leaving.left.ok.0) in
    let here : is_this (own_instance_of x) c.args.instance ≡ true =
    sym (c.is_this.ensures ∙ ap (λ (o : Option ℕ). is_this o c.args.instance) c.own_instance-own.ensures) ∙ c.if-is_this.true in
    subst (λ (l : List (Option ℕ)). AreLeft l parts c.args.instance) (sym c.of.ensures)
    (seek_here parts left c.args.instance x some here c.leaving.invariant)

pub leaving-smaller : goal.leaving-smaller
leaving-smaller c =
    let parts = (process_of c.args.world.now c.args.process).todo in
    let left = c.leaving.left.items in
    let x = views.part (scoped c.args.world.now.scopes) c.in-Some.part.now in
    let some : Some x ≡ slice_get parts (length left) = c.in-Some.ensures ∙ ap (slice_get parts) (c.len.ensures ∙ c.leaving.left.ok.0) in
    smaller (length parts) (length left) (length c.push.new.self.items) (below_length parts (length left) x some)
    (ap length c.in_ok-push.ensures.items ∙ longer left c.own_instance-own.result)

pub leaving-preserved : goal.leaving-preserved
leaving-preserved c =
    let parts = (process_of c.args.world.now c.args.process).todo in
    let left = c.leaving.left.items in
    let x = views.part (scoped c.args.world.now.scopes) c.in-Some.part.now in
    let some : Some x ≡ slice_get parts (length left) = c.in-Some.ensures ∙ ap (slice_get parts) (c.len.ensures ∙ c.leaving.left.ok.0) in
    let other : is_this (own_instance_of x) c.args.instance ≡ false =
    sym (c.is_this.ensures ∙ ap (λ (o : Option ℕ). is_this o c.args.instance) c.own_instance-own.ensures) ∙ c.if-is_this.false in
    subst (λ (l : List (Option ℕ)). Seeking parts l c.args.instance) (sym c.in_ok-push.ensures.items)
    (seek_more parts left c.args.instance x c.own_instance-own.result some other c.own_instance-own.ensures c.leaving.invariant)

pub returns : goal.returns
returns c =
    let parts = (process_of c.args.world.now c.args.process).todo in
    let left = c.leaving.left.items in
    let none : None ≡ slice_get parts (length left) = c.in_default.ensures ∙ ap (slice_get parts) (c.len.ensures ∙ c.leaving.left.ok.0) in
    subst (λ (l : List (Option ℕ)). AreLeft l parts c.args.instance) (sym c.of-2.ensures) (seek_none parts left c.args.instance none c.leaving.invariant)
