use Rattle.std.specs.Prelude.{IfSome}
use Rattle.std.proofs.Common.{◌≡◌, sym, subst, ◌∙◌, suc, ◌+◌, ◌-◌, ◌∷◌, [], ◌++◌, ℕ, length, take, set, List, arith, refl}
use Rattle.std.proofs.lemmas.Bool.{leb-true}
use Rattle.std.proofs.lemmas.List.{length-set, take_more_set}
use Rattle.b67_word.specs.Word.{Word}
use Rattle.b67_control.specs.declared.Registers.{Registers}
use Rattle.b67_deeds.specs.declared.Letter.{Letter}
use Rattle.b67_segment.specs.Decoded.{found, AreDecoded}
use Rattle.b67_table.specs.Image.{Image}
use Rattle.b67_table.proofs.Cited.{keeps_both}
use Rattle.b67_private.specs.Prepared.{IsFlatRowOf}
use Rattle.b67_action.specs.declared.running.Ran.{Ran}
use Rattle.b67_action.specs.Running.{IsLent, HasRunIn, ActionGoesOn, given_back}
use Rattle.b67_action.proofs.Lent.{back_same, lent_same, given_twice, given_thrice}
use Rattle.b67_action.proofs.Ready.{some_is}
use Rattle.b67_action.proofs.Runs.{Going, going_on, going_plain, going_next, has_come, has_ended, has_filled}
use Rattle.b67_action.proofs.running.go_on_room.Goals as goal

pub running-init : goal.running-init
running-init c =
    let so = c.args.so_far in
    let plain : so.plain ≡ so.operators + so.plain - so.operators = omega arith in
    record {
      ran = λ first img p l h.
          subst (λ (x : Image). Going c.args.code.now p first (take so.entries c.args.letters.now) so.operators (so.operators + so.plain - so.operators) x)
          (sym (back_same c.args.code.now img p c.args.regs.now c.args.room.now l))
          (subst (λ (k : ℕ). Going c.args.code.now p first (take so.entries c.args.letters.now) so.operators k img) plain
          (going_on c.args.code.now p first so c.args.letters.now img h));
      lends = λ img p l. lent_same c.args.code.now img p c.args.regs.now c.args.room.now l;
      held = c.requires.room.0;
      size = refl;
      entries = c.requires.entries;
      operators = omega arith;
      few = c.requires.counted;
      is_open = c.requires.is_open;
      done = c.requires.most;
      keeps = (refl, refl, refl, refl, refl, refl);
      place = refl;
    }

-- nothing more, since the next operator is neither plain nor such an action
pub returns-in_default-clause-ran : goal.returns-in_default-clause-ran
returns-in_default-clause-ran c =
    let code = c.args.code.now in
    let r = c.running.regs in
    let us = c.running.room in
    let a = c.plain_by_row.new.regs in
    let vs = c.plain_by_row.new.room in
    let q = c.act_by_row.new.regs in
    let ws = c.act_by_row.new.room in
    let ran : Ran = record { entries = c.running.entries; operators = c.running.operators; plain = c.running.done - c.running.operators } in
    let same = c.act_by_row.ensures.none c.in_default.is in
    λ first img p l h.
    let x = given_back r us p img in
    let lx = c.running.invariant.lends img p l in
    subst (λ (k : Ran). HasRunIn q ws code p c.args.most first k c.running.letters (given_back q ws p img)) (sym c.ran_to.ensures)
    (subst (λ (z : Registers). HasRunIn z ws code p c.args.most first ran c.running.letters (given_back z ws p img)) (sym same.0)
    (subst (λ (zs : List Word). HasRunIn a zs code p c.args.most first ran c.running.letters (given_back a zs p img)) (sym same.1)
    (subst (λ (z : Image). HasRunIn a vs code p c.args.most first ran c.running.letters z) (given_twice img p r a us vs c.plain_by_row.ensures.keeps.0)
    (has_ended code p first a vs c.args.most ran c.running.letters x (given_back a vs p x) c.running.invariant.entries c.running.invariant.is_open (c.running.invariant.ran first img p l h)
    0 (c.if-plain_by_row.ensures.steps x p lx).0 (c.if-plain_by_row.ensures.steps x p lx).1 (c.plain_by_row.ensures.lends x p lx).valid))))

-- an action of the last letter
pub returns-then-entries-letters-clause-ran : goal.returns-then-entries-letters-clause-ran
returns-then-entries-letters-clause-ran c =
    let code = c.args.code.now in
    let r = c.running.regs in
    let us = c.running.room in
    let a = c.plain_by_row.new.regs in
    let vs = c.plain_by_row.new.room in
    let q = c.act_by_row.new.regs in
    let ws = c.act_by_row.new.room in
    let n = c.running.entries in
    let letter = c.in-Some-act_by_row.letter in
    let less = leb-true (suc n) (length c.running.letters) (some_is (λ k. _) c.act_by_row.result letter c.in-Some-act_by_row.is c.act_by_row.ensures.allowed) in
    let noted = set c.running.letters n letter in
    let done = c.running.done + 1 in
    let ran : Ran = record { entries = n + 1; operators = done; plain = done - done } in
    let none : done - done ≡ 0 = omega arith in
    let full : n + 1 ≡ length noted = c.if-entries-letters.true in
    λ first img p l h.
    let x = given_back r us p img in
    let lx = c.running.invariant.lends img p l in
    let y = given_back a vs p x in
    let ly = c.plain_by_row.ensures.lends x p lx in
    let z = given_back q ws p y in
    subst (λ (k : Ran). HasRunIn q ws code p c.args.most first k noted (given_back q ws p img)) (sym c.ran_to-then-entries-letters.ensures)
    (subst (λ (z : Image). HasRunIn q ws code p c.args.most first ran noted z) (given_thrice img p r a q us vs ws c.plain_by_row.ensures.keeps.0 c.act_by_row.ensures.keeps.0)
    (has_filled code p first q ws c.args.most ran noted z (omega (arith, full)) full none
    (subst (λ (ls : List Letter). Going code p first ls done (done - done) z) (sym (take_more_set c.running.letters n letter (omega (arith, less))))
    (subst (λ (k : ℕ). Going code p first (take n c.running.letters ++ letter ∷ []) done k z) (sym none)
    (going_next code p first (take n c.running.letters) c.running.operators c.running.done x y z c.running.invariant.operators (c.running.invariant.ran first img p l h)
    (c.if-plain_by_row.ensures.steps x p lx).0 ly.valid letter
    (some_is (λ (k : Letter). (i : Image) (o : ℕ) → IsLent code i o a vs → ActionGoesOn code o k i (given_back q ws o i)) c.act_by_row.result letter c.in-Some-act_by_row.is c.act_by_row.ensures.goes y p ly))))))

-- an action of this letter
pub running-preserved-else-entries-letters : goal.running-preserved-else-entries-letters
running-preserved-else-entries-letters c =
    let code = c.args.code.now in
    let r = c.running.regs in
    let us = c.running.room in
    let a = c.plain_by_row.new.regs in
    let vs = c.plain_by_row.new.room in
    let q = c.act_by_row.new.regs in
    let ws = c.act_by_row.new.room in
    let n = c.running.entries in
    let letter = c.in-Some-act_by_row.letter in
    let less = leb-true (suc n) (length c.running.letters) (some_is (λ k. _) c.act_by_row.result letter c.in-Some-act_by_row.is c.act_by_row.ensures.allowed) in
    record {
      ran = λ first img p l h.
          let x = given_back r us p img in
          let lx = c.running.invariant.lends img p l in
          let y = given_back a vs p x in
          let ly = c.plain_by_row.ensures.lends x p lx in
          let z = given_back q ws p y in
          let none : c.running.done + 1 - (c.running.done + 1) ≡ 0 = omega arith in
          subst (λ (i : Image). Going code p first (take (n + 1) (set c.running.letters n letter)) (c.running.done + 1) (c.running.done + 1 - (c.running.done + 1)) i)
          (given_thrice img p r a q us vs ws c.plain_by_row.ensures.keeps.0 c.act_by_row.ensures.keeps.0)
          (subst (λ (ls : List Letter). Going code p first ls (c.running.done + 1) (c.running.done + 1 - (c.running.done + 1)) z) (sym (take_more_set c.running.letters n letter (omega (arith, less))))
          (subst (λ (k : ℕ). Going code p first (take n c.running.letters ++ letter ∷ []) (c.running.done + 1) k z) (sym none)
          (going_next code p first (take n c.running.letters) c.running.operators c.running.done x y z c.running.invariant.operators (c.running.invariant.ran first img p l h)
          (c.if-plain_by_row.ensures.steps x p lx).0 ly.valid letter
          (some_is (λ (k : Letter). (i : Image) (o : ℕ) → IsLent code i o a vs → ActionGoesOn code o k i (given_back q ws o i)) c.act_by_row.result letter c.in-Some-act_by_row.is c.act_by_row.ensures.goes y p ly))));
      lends = λ img p l.
          let x = given_back r us p img in
          let lx = c.running.invariant.lends img p l in
          let y = given_back a vs p x in
          let ly = c.plain_by_row.ensures.lends x p lx in
          subst (λ (z : Image). IsLent code z p q ws) (given_thrice img p r a q us vs ws c.plain_by_row.ensures.keeps.0 c.act_by_row.ensures.keeps.0)
          (some_is (λ (k : Letter). (i : Image) (o : ℕ) → IsLent code i o a vs → IsLent code (given_back q ws o i) o q ws) c.act_by_row.result letter c.in-Some-act_by_row.is c.act_by_row.ensures.lends y p ly);
      held = omega (arith, c.act_by_row.ensures.held, c.act_by_row.auto.room);
      size = length-set c.running.letters n letter ∙ c.running.invariant.size;
      entries = omega (arith, less, length-set c.running.letters n letter);
      operators = omega arith;
      few = omega (arith, c.running.invariant.few, c.running.invariant.operators);
      is_open = λ some. omega (arith, less, length-set c.running.letters n letter, c.if-entries-letters.false);
      done = omega (arith, c.running-test.true);
      keeps = keeps_both c.args.regs.now r q c.running.invariant.keeps (keeps_both r a q c.plain_by_row.ensures.keeps c.act_by_row.ensures.keeps);
      place = refl;
    }

pub act_by_row-requires : goal.act_by_row-requires
act_by_row-requires c =
    let code = c.args.code.now in
    let r = c.running.regs in
    let a = c.plain_by_row.new.regs in
    let first = c.args.regs.now in
    let keeps = c.running.invariant.keeps in
    let decoded : IfSome c.args.table (λ t. AreDecoded code r.segment r.ll t.now) =
    subst (λ (n : ℕ). IfSome c.args.table (λ t. AreDecoded code n r.ll t.now)) (sym keeps.3)
    (subst (λ (n : ℕ). IfSome c.args.table (λ t. AreDecoded code first.segment n t.now)) (sym keeps.1) c.requires.table) in
    let x = given_back r c.running.room c.requires.lent.1 c.requires.lent.0 in
    let lx = c.running.invariant.lends c.requires.lent.0 c.requires.lent.1 c.requires.lent.2 in
    record {
      lent = (given_back a c.plain_by_row.new.room c.requires.lent.1 x, c.requires.lent.1, c.plain_by_row.ensures.lends x c.requires.lent.1 lx);
      room = (omega (arith, c.plain_by_row.ensures.held, c.plain_by_row.auto.room), omega (arith, c.plain_by_row.auto.room, c.running.auto.room, c.requires.room.1));
      row = subst (λ (z : Registers). IsFlatRowOf z.place (found code z.segment z.ll z.place) (c.in-Some.row, c.in-Some.next)) (sym (c.plain_by_row.ensures.none c.if-plain_by_row.false))
          (subst (λ (n : ℕ). IsFlatRowOf n (found code r.segment r.ll n) (c.in-Some.row, c.in-Some.next)) c.running.invariant.place
          (some_is (λ w. IsFlatRowOf c.running.place (found code r.segment r.ll c.running.place) w) c.flat_at.result (c.in-Some.row, c.in-Some.next) c.in-Some.is (c.flat_at.ensures code r.segment r.ll decoded)));
    }

pub plain_by_row-requires : goal.plain_by_row-requires
plain_by_row-requires c =
    let code = c.args.code.now in
    let r = c.running.regs in
    let first = c.args.regs.now in
    let keeps = c.running.invariant.keeps in
    let decoded : IfSome c.args.table (λ t. AreDecoded code r.segment r.ll t.now) =
    subst (λ (n : ℕ). IfSome c.args.table (λ t. AreDecoded code n r.ll t.now)) (sym keeps.3)
    (subst (λ (n : ℕ). IfSome c.args.table (λ t. AreDecoded code first.segment n t.now)) (sym keeps.1) c.requires.table) in
    record {
      lent = (given_back r c.running.room c.requires.lent.1 c.requires.lent.0, c.requires.lent.1, c.running.invariant.lends c.requires.lent.0 c.requires.lent.1 c.requires.lent.2);
      room = (c.running.invariant.held, omega (arith, c.running.auto.room, c.requires.room.1));
      row = subst (λ (n : ℕ). IsFlatRowOf n (found code r.segment r.ll n) (c.in-Some.row, c.in-Some.next)) c.running.invariant.place
          (some_is (λ w. IsFlatRowOf c.running.place (found code r.segment r.ll c.running.place) w) c.flat_at.result (c.in-Some.row, c.in-Some.next) c.in-Some.is (c.flat_at.ensures code r.segment r.ll decoded));
    }

pub plain_fetched-requires-clause-room : goal.plain_fetched-requires-clause-room
plain_fetched-requires-clause-room c = (c.running.invariant.held, omega (arith, c.running.auto.room, c.requires.room.1))

pub plain_fetched-requires-clause-lent : goal.plain_fetched-requires-clause-lent
plain_fetched-requires-clause-lent c = (
  given_back c.running.regs c.running.room c.requires.lent.1 c.requires.lent.0,
  c.requires.lent.1,
  c.running.invariant.lends c.requires.lent.0 c.requires.lent.1 c.requires.lent.2,
)

pub running-preserved-then-plain_by_row : goal.running-preserved-then-plain_by_row
running-preserved-then-plain_by_row c =
    let code = c.args.code.now in
    let r = c.running.regs in
    let us = c.running.room in
    let q = c.plain_by_row.new.regs in
    let ws = c.plain_by_row.new.room in
    let noted = take c.running.entries c.running.letters in
    let plain = c.running.done - c.running.operators in
    let more : plain + 1 ≡ c.running.done + 1 - c.running.operators = omega (arith, c.running.invariant.operators) in
    record {
      ran = λ first img p l h.
          let x = given_back r us p img in
          let lx = c.running.invariant.lends img p l in
          subst (λ (z : Image). Going code p first noted c.running.operators (c.running.done + 1 - c.running.operators) z) (given_twice img p r q us ws c.plain_by_row.ensures.keeps.0)
          (subst (λ (k : ℕ). Going code p first noted c.running.operators k (given_back q ws p x)) more
          (going_plain code p first noted c.running.operators plain x (given_back q ws p x) (c.running.invariant.ran first img p l h) 1 1 (c.if-plain_by_row.ensures.steps x p lx)
          (c.plain_by_row.ensures.lends x p lx).valid));
      lends = λ img p l.
          let x = given_back r us p img in
          subst (λ (z : Image). IsLent code z p q ws) (given_twice img p r q us ws c.plain_by_row.ensures.keeps.0) (c.plain_by_row.ensures.lends x p (c.running.invariant.lends img p l));
      held = omega (arith, c.plain_by_row.ensures.held, c.plain_by_row.auto.room);
      size = c.running.invariant.size;
      entries = c.running.invariant.entries;
      operators = omega (arith, c.running.invariant.operators);
      few = c.running.invariant.few;
      is_open = c.running.invariant.is_open;
      done = omega (arith, c.running-test.true);
      keeps = keeps_both c.args.regs.now r q c.running.invariant.keeps c.plain_by_row.ensures.keeps;
      place = refl;
    }

pub returns-then-not-plain_fetched-clause-ran : goal.returns-then-not-plain_fetched-clause-ran
returns-then-not-plain_fetched-clause-ran c =
    let code = c.args.code.now in
    let r = c.running.regs in
    let us = c.running.room in
    let q = c.plain_fetched.new.regs in
    let ws = c.plain_fetched.new.room in
    let ran : Ran = record { entries = c.running.entries; operators = c.running.operators; plain = c.running.done - c.running.operators } in
    λ first img p l h.
    let x = given_back r us p img in
    let lx = c.running.invariant.lends img p l in
    subst (λ (k : Ran). HasRunIn q ws code p c.args.most first k c.running.letters (given_back q ws p img)) (sym c.ran_to-then-not-plain_fetched.ensures)
    (subst (λ (z : Image). HasRunIn q ws code p c.args.most first ran c.running.letters z) (given_twice img p r q us ws c.plain_fetched.ensures.keeps.0)
    (has_ended code p first q ws c.args.most ran c.running.letters x (given_back q ws p x) c.running.invariant.entries c.running.invariant.is_open (c.running.invariant.ran first img p l h)
    0 (c.if-not-plain_fetched.ensures.steps x p lx).0 (c.if-not-plain_fetched.ensures.steps x p lx).1 (c.plain_fetched.ensures.lends x p lx).valid))

pub running-preserved : goal.running-preserved
running-preserved c =
    let code = c.args.code.now in
    let r = c.running.regs in
    let us = c.running.room in
    let q = c.plain_fetched.new.regs in
    let ws = c.plain_fetched.new.room in
    let noted = take c.running.entries c.running.letters in
    let plain = c.running.done - c.running.operators in
    let more : plain + 1 ≡ c.running.done + 1 - c.running.operators = omega (arith, c.running.invariant.operators) in
    record {
      ran = λ first img p l h.
          let x = given_back r us p img in
          let lx = c.running.invariant.lends img p l in
          subst (λ (z : Image). Going code p first noted c.running.operators (c.running.done + 1 - c.running.operators) z) (given_twice img p r q us ws c.plain_fetched.ensures.keeps.0)
          (subst (λ (k : ℕ). Going code p first noted c.running.operators k (given_back q ws p x)) more
          (going_plain code p first noted c.running.operators plain x (given_back q ws p x) (c.running.invariant.ran first img p l h) 1 1 (c.if-not-plain_fetched.ensures.steps x p lx)
          (c.plain_fetched.ensures.lends x p lx).valid));
      lends = λ img p l.
          let x = given_back r us p img in
          subst (λ (z : Image). IsLent code z p q ws) (given_twice img p r q us ws c.plain_fetched.ensures.keeps.0) (c.plain_fetched.ensures.lends x p (c.running.invariant.lends img p l));
      held = omega (arith, c.plain_fetched.ensures.held, c.plain_fetched.auto.room);
      size = c.running.invariant.size;
      entries = c.running.invariant.entries;
      operators = omega (arith, c.running.invariant.operators);
      few = c.running.invariant.few;
      is_open = c.running.invariant.is_open;
      done = omega (arith, c.running-test.true);
      keeps = keeps_both c.args.regs.now r q c.running.invariant.keeps c.plain_fetched.ensures.keeps;
      place = refl;
    }

pub returns-clause-ran : goal.returns-clause-ran
returns-clause-ran c = λ first img p l h.
    let code = c.args.code.now in
    let q = c.running.regs in
    let ws = c.running.room in
    let ran : Ran = record { entries = c.running.entries; operators = c.running.operators; plain = c.running.done - c.running.operators } in
    subst (λ (k : Ran). HasRunIn q ws code p c.args.most first k c.running.letters (given_back q ws p img)) (sym c.ran_to-2.ensures)
    (record {
      come = has_come code p first ran c.running.letters (given_back q ws p img) c.running.invariant.entries (c.running.invariant.ran first img p l h)
          (λ some all. absurd (omega (arith, c.running.invariant.is_open some, all)));
      stops = λ place less o. absurd (omega (arith, less, c.running-test.false, c.running.invariant.done, c.running.invariant.operators));
    })
