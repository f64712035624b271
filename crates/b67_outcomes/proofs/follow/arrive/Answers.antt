use Rattle.std.proofs.Common.{◌≡◌, refl, sym, ap, subst, ◌∙◌, ℕ, ◌+◌, ◌<◌, true≢false, List, ◌++◌, length, reverse, arith, inl, inr}
use Rattle.b67_outcomes.specs.declared.found.Step.{Step}
use Rattle.b67_outcomes.specs.Finding.{IsAfter, HoldsState}
use Rattle.b67_outcomes.proofs.Histories.{history_within}
use Rattle.b67_outcomes.proofs.Rooms.{after_more}
use Rattle.b67_outcomes.proofs.Keeping.{same_grows, steps_few, number_few, settled_few, steps_fit, held_further, held_searched, held_kept, held_at}
use Rattle.b67_outcomes.proofs.Trees.{kept_some}
use Rattle.b67_outcomes.proofs.follow.arrive.Goals as goal

pub settle-requires : goal.settle-requires
settle-requires g c =
    record {
      known = c.requires.known;
      stands = subst (λ (xs : List Step). IsAfter (g.W.Walker.code c.args.walker.now) xs c.args.number c.args.path.now.items (g.W.Walker.image c.args.walker.now))
          (sym c.as_slice.ensures.value) c.requires.stands;
      room = c.requires.room;
      short =
          let few = number_few (g.W.Walker.code c.args.walker.now) c.args.most c.args.number c.args.found.now c.requires.stands.history c.requires.searched c.requires.stands.is in
          let settled = settled_few c.room_of-room.result (length c.args.found.now.steps.items) (length c.args.found.now.states.items) c.room_of-room.ensures in
          omega (arith, few, settled, c.requires.short);
    }

pub is_kept-requires-clause-short : goal.is_kept-requires-clause-short
is_kept-requires-clause-short g c =
    let few = steps_few (g.W.Walker.code c.args.walker.now) c.args.most c.args.found.now c.requires.searched in
    let same = ap (λ (z : List Step). length z) c.as_slice-steps.ensures.value in
    omega (arith, few, same)

pub keep-requires-clause-short : goal.keep-requires-clause-short
keep-requires-clause-short g c =
    let old = c.args.found.now in
    let s = c.requires.searched in
    let short = s.short in
    let most_few = s.most_few in
    let longer = c.in_ok-settle.ensures.short in
    let same = ap (λ (z : List ℕ). length z) c.as_slice-2.ensures.value in
    let fit =
    steps_fit c.room_of-room.result (length old.steps.items) (length old.states.items) (length c.as_slice-2.result.now) c.room_of-room.ensures short
    (omega (arith, longer, same, c.requires.short)) in
    omega (arith, fit, most_few, c.if-len-most.false, c.len.ensures)

pub returns-then-kept-clause-grows : goal.returns-then-kept-clause-grows
returns-then-kept-clause-grows g c = same_grows c.args.found.now _ refl refl refl (λ e. e)

pub returns-then-len-most-clause-grows : goal.returns-then-len-most-clause-grows
returns-then-len-most-clause-grows g c = same_grows c.args.found.now _ refl refl refl (λ e. absurd (true≢false e))

pub returns-then-kept-clause-keeps : goal.returns-then-kept-clause-keeps
returns-then-kept-clause-keeps g c =
    let there = g.W.Walker.image c.settle.new.walker in
    let some =
    kept_some (g.W.Walker.code c.settle.new.walker) c.as_slice-steps.result.now c.as_slice-states.result.now c.args.found.now.states.items there
    c.as_slice-states.ensures.value (c.in_ok-kept.ensures.kept c.if-kept.true) in
    inl (record { steps = refl; states = refl; some = λ one. some })

pub returns-then-len-most-clause-keeps : goal.returns-then-len-most-clause-keeps
returns-then-len-most-clause-keeps g c =
    inl (record { steps = refl; states = refl; some = λ one. omega (arith, one, c.if-len-most.true, c.len.ensures) })

pub returns-clause-keeps : goal.returns-clause-keeps
returns-clause-keeps g c =
    let code = g.W.Walker.code c.args.walker.now in
    let there = g.W.Walker.image c.settle.new.walker in
    let longer = c.in_ok-settle.ensures.settles in
    let path : c.as_slice-2.result.now ≡ c.args.path.now.items ++ longer.0 = c.as_slice-2.ensures.value ∙ longer.1 in
    inr (record {
      settled = longer.0;
      at = c.in_ok-at.at;
      held = subst (λ (z : List ℕ). HoldsState c.args.found.now c.args.number z c.in_ok-at.at c.keep.new.found) path c.in_ok-at.ensures.held;
      image = there;
      after = subst (λ (xs : List Step). IsAfter code xs c.args.number (c.args.path.now.items ++ longer.0) there) c.as_slice.ensures.value
          (subst (λ (z : List ℕ). IsAfter code c.as_slice.result.now c.args.number z there) longer.1 c.in_ok-settle.ensures.stands);
      settles = longer.2;
    })

pub returns-clause-searched : goal.returns-clause-searched
returns-clause-searched g c =
    let code = g.W.Walker.code c.args.walker.now in
    let there = g.W.Walker.image c.settle.new.walker in
    let after =
    subst (λ (xs : List Step). IsAfter code xs c.args.number c.as_slice-2.result.now there) c.as_slice.ensures.value
    (subst (λ (z : List ℕ). IsAfter code c.as_slice.result.now c.args.number z there) (sym c.as_slice-2.ensures.value) c.in_ok-settle.ensures.stands) in
    let room : length c.args.found.now.states.items < c.args.most = omega (arith, c.if-len-most.false, c.len.ensures) in
    let longer = c.in_ok-settle.ensures.short in
    let same = ap (λ (z : List ℕ). length z) c.as_slice-2.ensures.value in
    let fit =
    steps_fit c.room_of-room.result (length c.args.found.now.steps.items) (length c.args.found.now.states.items) (length c.as_slice-2.result.now) c.room_of-room.ensures
    c.requires.searched.short (omega (arith, longer, same, c.requires.short)) in
    held_searched code c.args.most c.args.found.now c.keep.new.found c.args.number c.as_slice-2.result.now c.in_ok-at.at there c.requires.searched
    c.in_ok-at.ensures.held after room fit

pub returns-clause-room : goal.returns-clause-room
returns-clause-room g c =
    let old = c.args.found.now in
    let within = history_within old.steps.items c.args.number c.requires.stands.history c.requires.stands.is in
    let further = held_further old c.args.number c.as_slice-2.result.now c.in_ok-at.at c.keep.new.found c.in_ok-at.ensures.held within in
    let same = ap (λ (z : List ℕ). length z) c.as_slice-2.ensures.value in
    after_more (g.W.Walker.Room c.settle.new.walker) (c.args.number + length c.settle.new.path.items) c.in_ok-at.at (omega (arith, further, same))
    c.in_ok-settle.ensures.room

pub returns-clause-stands : goal.returns-clause-stands
returns-clause-stands g c =
    let code = g.W.Walker.code c.args.walker.now in
    let there = g.W.Walker.image c.settle.new.walker in
    let after =
    subst (λ (xs : List Step). IsAfter code xs c.args.number c.as_slice-2.result.now there) c.as_slice.ensures.value
    (subst (λ (z : List ℕ). IsAfter code c.as_slice.result.now c.args.number z there) (sym c.as_slice-2.ensures.value) c.in_ok-settle.ensures.stands) in
    held_at code c.args.found.now c.keep.new.found c.args.number c.as_slice-2.result.now c.in_ok-at.at there c.in_ok-at.ensures.held after

pub returns-clause-arrived : goal.returns-clause-arrived
returns-clause-arrived g c = λ e.
    let code = g.W.Walker.code c.args.walker.now in
    let there = g.W.Walker.image c.settle.new.walker in
    let after =
    subst (λ (xs : List Step). IsAfter code xs c.args.number c.as_slice-2.result.now there) c.as_slice.ensures.value
    (subst (λ (z : List ℕ). IsAfter code c.as_slice.result.now c.args.number z there) (sym c.as_slice-2.ensures.value) c.in_ok-settle.ensures.stands) in
    record {
      image = there;
      settled = reverse c.in_ok-settle.ensures.settles.0;
      settles = c.in_ok-settle.ensures.settles.2;
      kept = held_kept code c.args.found.now c.keep.new.found c.args.number c.as_slice-2.result.now c.in_ok-at.at there c.in_ok-at.ensures.held after;
    }
