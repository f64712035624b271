use Rattle.std.proofs.Common.{◌≡◌, refl, sym, ap, subst, ◌∙◌, Bool, true, Option, List, [], ◌∷◌, ◌++◌, append-nil, append_assoc, length, ℕ, ◌+◌, ◌≤◌, arith}
use Rattle.std.specs.Prelude.{IfSome, reverse}
use Rattle.std.proofs.lemmas.List.{reverse-append, length_push}
use Rattle.b67_segment.specs.declared.code.Code.{Code}
use Rattle.b67_table.specs.Image.{Image}
use Rattle.b67_outcomes.specs.Entering.{HasRoom, ProcessEnters, IsReached}
use Rattle.b67_outcomes.specs.Finding.{IsAfter}
use Rattle.b67_outcomes.specs.Settling.{CanSettle, ImageSettles, rest, settle}
use Rattle.b67_outcomes.proofs.Histories.{after_more, after_one, ok_map}
use Rattle.b67_outcomes.proofs.Rooms.{for_one, the_same}
use Rattle.b67_outcomes.proofs.Rooms.{after_one as room_after_one}
use Rattle.b67_outcomes.proofs.settling.settle.Goals as goal

pub entries-init : goal.entries-init
entries-init g c =
    (refl, c.requires.stands, ([], sym (append-nil c.args.path.now.items), rest), c.requires.room, omega arith, omega arith)

-- some run leads to where the machine stands
pub next_settled-requires : goal.next_settled-requires
next_settled-requires g c =
    let i = c.entries.invariant in
    record {
      reached = subst (λ (k : Code). IsReached k (g.W.Walker.image c.entries.walker)) (sym i.0) (reverse c.entries.path.items ++ i.1.history, i.1.leads);
      room = (i.3.left, i.3.is);
    }

pub enter-requires-clause-room : goal.enter-requires-clause-room
enter-requires-clause-room g c =
    let i = c.entries.invariant in
    let here = c.args.number + length c.entries.path.items in
    for_one (g.W.Walker.Room c.next_settled.new.walker) here (omega (arith, i.4, c.entries-test.true, c.requires.short))
    (the_same (g.W.Walker.Room c.entries.walker) (g.W.Walker.Room c.next_settled.new.walker) here i.3 c.next_settled.ensures.room)

pub walk_on-requires : goal.walk_on-requires
walk_on-requires g c =
    let i = c.entries.invariant in
    let same = c.enter.ensures.code ∙ c.next_settled.ensures.code ∙ i.0 in
    record {
      known = subst (λ (k : Code). g.W.Walker.Known k) (sym same) c.requires.known;
      leads = (
        g.W.Walker.image c.entries.walker,
        subst (λ (k : Code). IsAfter k c.args.steps.now c.args.number c.as_slice.result.now (g.W.Walker.image c.entries.walker)) (sym same)
            (subst (λ (z : List ℕ). IsAfter (g.W.Walker.code c.args.walker.now) c.args.steps.now c.args.number z (g.W.Walker.image c.entries.walker)) (sym c.as_slice.ensures.value) i.1),
      );
      short = let same = ap (λ (z : List ℕ). length z) c.as_slice.ensures.value in omega (arith, i.4, i.5, same, c.requires.short);
    }

pub returns-then-not-entered-clause-room : goal.returns-then-not-entered-clause-room
returns-then-not-entered-clause-room g c =
    let Room = g.W.Walker.Room c.walk_on.new.walker in
    ok_map c.walk_on.result (λ u. HasRoom Room (c.args.number + length c.as_slice.result.now)) (λ u. HasRoom Room (c.args.number + length c.entries.path.items))
    (λ u r. subst (λ (z : List ℕ). HasRoom Room (c.args.number + length z)) c.as_slice.ensures.value r) c.walk_on.ensures.room

pub returns-then-not-entered-clause-short : goal.returns-then-not-entered-clause-short
returns-then-not-entered-clause-short g c =
    let i = c.entries.invariant in
    let few : length c.entries.path.items ≤ length c.args.path.now.items + c.args.most = omega (arith, i.4, i.5) in
    ok_map c.walk_on.result (λ u. IsAfter (g.W.Walker.code c.enter.new.self) c.args.steps.now c.args.number c.as_slice.result.now (g.W.Walker.image c.walk_on.new.walker))
    (λ u. length c.entries.path.items ≤ length c.args.path.now.items + c.args.most) (λ u a. few) c.walk_on.ensures.after

pub returns-then-not-entered-clause-settles : goal.returns-then-not-entered-clause-settles
returns-then-not-entered-clause-settles g c =
    let i = c.entries.invariant in
    let code = g.W.Walker.code c.args.walker.now in
    let steps = c.args.steps.now in
    let there = g.W.Walker.image c.walk_on.new.walker in
    let same : g.W.Walker.code c.enter.new.self ≡ code = c.enter.ensures.code ∙ c.next_settled.ensures.code ∙ i.0 in
    ok_map c.walk_on.result (λ u. IsAfter (g.W.Walker.code c.enter.new.self) steps c.args.number c.as_slice.result.now there)
    (λ u. (more : List ℕ) × (c.entries.path.items ≡ c.args.path.now.items ++ more)
    × ImageSettles code (g.W.Walker.Local code) (g.W.Walker.image c.args.walker.now) (reverse more) there)
    (λ u l. (
      i.2.0,
      i.2.1,
      subst (λ (x : Image). ImageSettles code (g.W.Walker.Local code) (g.W.Walker.image c.args.walker.now) (reverse i.2.0) x)
          (after_one code steps c.args.number c.entries.path.items (g.W.Walker.image c.entries.walker) there i.1
          (subst (λ (z : List ℕ). IsAfter code steps c.args.number z there) c.as_slice.ensures.value
          (subst (λ (k : Code). IsAfter k steps c.args.number c.as_slice.result.now there) same l))) i.2.2,
    ))
    c.walk_on.ensures.after

pub entries-preserved : goal.entries-preserved
entries-preserved g c =
    let i = c.entries.invariant in
    let code = g.W.Walker.code c.args.walker.now in
    let p = c.in-Some.process in
    let here = g.W.Walker.image c.entries.walker in
    let there = g.W.Walker.image c.enter.new.self in
    let can =
    subst (λ (k : Code). CanSettle (g.W.Walker.Local k) here p) i.0
    (subst (λ (o : Option ℕ). IfSome o (CanSettle (g.W.Walker.Local (g.W.Walker.code c.entries.walker)) here)) c.in-Some.is c.in_ok-next.ensures.settles) in
    let entered =
    subst (λ (k : Code). ProcessEnters k p here true there) (c.next_settled.ensures.code ∙ i.0)
    (subst (λ (x : Image). ProcessEnters (g.W.Walker.code c.next_settled.new.walker) p x true there) c.next_settled.ensures.stays
    (subst (λ (b : Bool). ProcessEnters (g.W.Walker.code c.next_settled.new.walker) p (g.W.Walker.image c.next_settled.new.walker) b there) c.if-not-entered.false
    c.in_ok-entered.ensures.entered)) in (
      c.enter.ensures.code ∙ c.next_settled.ensures.code ∙ i.0,
      after_more code c.args.steps.now c.args.number c.entries.path.items c.push.new.self.items p entered.0 here there c.in_ok-push.ensures.items i.1 entered.1,
      (
        i.2.0 ++ p ∷ [],
        c.in_ok-push.ensures.items ∙ ap (λ (z : List ℕ). z ++ p ∷ []) i.2.1 ∙ append_assoc c.args.path.now.items i.2.0 (p ∷ []),
        subst (λ (z : List ℕ). ImageSettles code (g.W.Walker.Local code) (g.W.Walker.image c.args.walker.now) z there) (sym (reverse-append i.2.0 (p ∷ [])))
            (settle i.2.2 can entered.1),
      ),
      let here = c.args.number + length c.entries.path.items in
          let longer = ap (λ (z : List ℕ). length z) c.in_ok-push.ensures.items ∙ length_push c.entries.path.items p in
          let next : here + 1 ≡ c.args.number + length c.push.new.self.items = omega (arith, longer) in
          subst (λ (n : ℕ). HasRoom (g.W.Walker.Room c.enter.new.self) n) next
          (room_after_one (g.W.Walker.Room c.next_settled.new.walker) (g.W.Walker.Room c.enter.new.self) here
          (omega (arith, i.4, c.entries-test.true, c.requires.short))
          (the_same (g.W.Walker.Room c.entries.walker) (g.W.Walker.Room c.next_settled.new.walker) here i.3 c.next_settled.ensures.room)
          (c.in_ok-entered.ensures.room c.if-not-entered.false)),
      let longer = ap (λ (z : List ℕ). length z) c.in_ok-push.ensures.items ∙ length_push c.entries.path.items p in omega (arith, longer, i.4),
      omega (arith, c.entries-test.true),
    )
