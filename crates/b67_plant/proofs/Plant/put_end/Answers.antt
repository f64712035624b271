use Rattle.std.proofs.Common.{◌≡◌, ◌+◌, ◌≤◌, ℕ, sym, subst, ◌∙◌, None, arith}
use Rattle.b67_limits.specs.declared.TheConstants.{MOST_STRETCH}
use Rattle.b67_machine.proofs.Going.{still_goes}
use Rattle.b67_stands.specs.Running.{Running, answer_of}
use Rattle.b67_stands.specs.Placing.{holder_of}
use Rattle.b67_stands.proofs.Ends.{goes_on}
use Rattle.b67_plant.specs.Calls.{LandsWell}
use Rattle.b67_parcel.specs.Parcels.{Stretch, IsPlain, StartsAs}
use Rattle.b67_plant.proofs.Landing.{lives, few_counted, private_performs, count_is, plains, lands_once, landed_stands, still_lacks, lands_as}
use Rattle.b67_plant.proofs.Plant.put_end.Goals as goal

pub put_private-requires-clause-lives : goal.put_private-requires-clause-lives
put_private-requires-clause-lives g c =
    let old : Running = record {
      machine = c.self.inside.machine;
      waiting = c.self.inside.ready.waiting;
      takes = c.self.inside.ready.takes;
      out = c.self.inside.out.items;
      schedule = c.self.inside.schedule;
      spent = c.self.inside.spent;
      acts = c.self.inside.acts.total;
      leaves = c.self.inside.leaves.total;
    } in
    let i = c.self.invariant in
    let going : answer_of g.N.Named.budget old ≡ None = subst (λ (s : Running). answer_of g.N.Named.budget s ≡ None) (sym c.self.view_is) c.requires.going in
    let p : ℕ = c.process.result in
    let held : 1 ≤ holder_of old.out p =
    subst (λ (q : ℕ). 1 ≤ holder_of old.out q) (sym c.process.ensures) (subst (λ (s : Running). 1 ≤ holder_of s.out c.args.parcel.now.process) (sym c.self.view_is) c.requires.out) in
    let s : Stretch = c.args.parcel.now in
    let is : IsPlain g.N.Named.code s = private_performs g.N.Named.code s c.requires.room c.end.ensures.kept in
    let counted : c.count-count.result ≡ s.ran.plain = count_is g.N.Named.code s c.count-count.result is c.count-count.ensures in
    let few : c.count-count.result ≤ MOST_STRETCH = omega (arith, counted, is.few) in
    lives g.N.Named.code g.N.Named.budget old p i.0 going held

pub put_private-requires-clause-going : goal.put_private-requires-clause-going
put_private-requires-clause-going g c =
    let old : Running = record {
      machine = c.self.inside.machine;
      waiting = c.self.inside.ready.waiting;
      takes = c.self.inside.ready.takes;
      out = c.self.inside.out.items;
      schedule = c.self.inside.schedule;
      spent = c.self.inside.spent;
      acts = c.self.inside.acts.total;
      leaves = c.self.inside.leaves.total;
    } in
    let i = c.self.invariant in
    let going : answer_of g.N.Named.budget old ≡ None = subst (λ (s : Running). answer_of g.N.Named.budget s ≡ None) (sym c.self.view_is) c.requires.going in
    let p : ℕ = c.process.result in
    let held : 1 ≤ holder_of old.out p =
    subst (λ (q : ℕ). 1 ≤ holder_of old.out q) (sym c.process.ensures) (subst (λ (s : Running). 1 ≤ holder_of s.out c.args.parcel.now.process) (sym c.self.view_is) c.requires.out) in
    let s : Stretch = c.args.parcel.now in
    let is : IsPlain g.N.Named.code s = private_performs g.N.Named.code s c.requires.room c.end.ensures.kept in
    let counted : c.count-count.result ≡ s.ran.plain = count_is g.N.Named.code s c.count-count.result is c.count-count.ensures in
    let few : c.count-count.result ≤ MOST_STRETCH = omega (arith, counted, is.few) in
    (goes_on g.N.Named.budget old going).end

pub put_private-requires-clause-count : goal.put_private-requires-clause-count
put_private-requires-clause-count g c =
    let old : Running = record {
      machine = c.self.inside.machine;
      waiting = c.self.inside.ready.waiting;
      takes = c.self.inside.ready.takes;
      out = c.self.inside.out.items;
      schedule = c.self.inside.schedule;
      spent = c.self.inside.spent;
      acts = c.self.inside.acts.total;
      leaves = c.self.inside.leaves.total;
    } in
    let i = c.self.invariant in
    let going : answer_of g.N.Named.budget old ≡ None = subst (λ (s : Running). answer_of g.N.Named.budget s ≡ None) (sym c.self.view_is) c.requires.going in
    let p : ℕ = c.process.result in
    let held : 1 ≤ holder_of old.out p =
    subst (λ (q : ℕ). 1 ≤ holder_of old.out q) (sym c.process.ensures) (subst (λ (s : Running). 1 ≤ holder_of s.out c.args.parcel.now.process) (sym c.self.view_is) c.requires.out) in
    let s : Stretch = c.args.parcel.now in
    let is : IsPlain g.N.Named.code s = private_performs g.N.Named.code s c.requires.room c.end.ensures.kept in
    let counted : c.count-count.result ≡ s.ran.plain = count_is g.N.Named.code s c.count-count.result is c.count-count.ensures in
    let few : c.count-count.result ≤ MOST_STRETCH = omega (arith, counted, is.few) in
    few_counted g.N.Named.code g.N.Named.budget old p i.0 going held c.count-count.result c.self.inside.budget few i.2 i.3

pub put_private-requires-clause-stretch : goal.put_private-requires-clause-stretch
put_private-requires-clause-stretch g c =
    let old : Running = record {
      machine = c.self.inside.machine;
      waiting = c.self.inside.ready.waiting;
      takes = c.self.inside.ready.takes;
      out = c.self.inside.out.items;
      schedule = c.self.inside.schedule;
      spent = c.self.inside.spent;
      acts = c.self.inside.acts.total;
      leaves = c.self.inside.leaves.total;
    } in
    let i = c.self.invariant in
    let going : answer_of g.N.Named.budget old ≡ None = subst (λ (s : Running). answer_of g.N.Named.budget s ≡ None) (sym c.self.view_is) c.requires.going in
    let p : ℕ = c.process.result in
    let held : 1 ≤ holder_of old.out p =
    subst (λ (q : ℕ). 1 ≤ holder_of old.out q) (sym c.process.ensures) (subst (λ (s : Running). 1 ≤ holder_of s.out c.args.parcel.now.process) (sym c.self.view_is) c.requires.out) in
    let s : Stretch = c.args.parcel.now in
    let is : IsPlain g.N.Named.code s = private_performs g.N.Named.code s c.requires.room c.end.ensures.kept in
    let counted : c.count-count.result ≡ s.ran.plain = count_is g.N.Named.code s c.count-count.result is c.count-count.ensures in
    let few : c.count-count.result ≤ MOST_STRETCH = omega (arith, counted, is.few) in
    plains g.N.Named.code old.machine s p c.count-count.result c.end.result.now i.0.same c.requires.room is
    (subst (λ (r : Running). StartsAs r.machine.image s) (sym c.self.view_is) c.requires.starts) c.process.ensures counted c.end.ensures.value

pub invariant_of-self : goal.invariant_of-self
invariant_of-self g c =
    let old : Running = record {
      machine = c.self.inside.machine;
      waiting = c.self.inside.ready.waiting;
      takes = c.self.inside.ready.takes;
      out = c.self.inside.out.items;
      schedule = c.self.inside.schedule;
      spent = c.self.inside.spent;
      acts = c.self.inside.acts.total;
      leaves = c.self.inside.leaves.total;
    } in
    let i = c.self.invariant in
    let going : answer_of g.N.Named.budget old ≡ None = subst (λ (s : Running). answer_of g.N.Named.budget s ≡ None) (sym c.self.view_is) c.requires.going in
    let p : ℕ = c.process.result in
    let held : 1 ≤ holder_of old.out p =
    subst (λ (q : ℕ). 1 ≤ holder_of old.out q) (sym c.process.ensures) (subst (λ (s : Running). 1 ≤ holder_of s.out c.args.parcel.now.process) (sym c.self.view_is) c.requires.out) in
    let s : Stretch = c.args.parcel.now in
    let is : IsPlain g.N.Named.code s = private_performs g.N.Named.code s c.requires.room c.end.ensures.kept in
    let counted : c.count-count.result ≡ s.ran.plain = count_is g.N.Named.code s c.count-count.result is c.count-count.ensures in
    let few : c.count-count.result ≤ MOST_STRETCH = omega (arith, counted, is.few) in
    let m = c.put_private.new.self in (
      landed_stands g.N.Named.code g.N.Named.budget old p i.0 going held m c.count-count.result few c.put_private.ensures.goes,
      i.1,
      i.2,
      i.3,
      i.4,
      i.5,
      i.6,
      i.7,
      i.8 ∙ sym (still_lacks g.N.Named.code g.N.Named.budget old p i.0 going held m c.count-count.result few c.put_private.ensures.goes),
      i.9,
      λ on. still_goes c.self.inside.machine m p c.count-count.result (goes_on g.N.Named.budget old going).end c.put_private.ensures.goes,
    )

pub returns-clause-lands : goal.returns-clause-lands
returns-clause-lands g c =
    let old : Running = record {
      machine = c.self.inside.machine;
      waiting = c.self.inside.ready.waiting;
      takes = c.self.inside.ready.takes;
      out = c.self.inside.out.items;
      schedule = c.self.inside.schedule;
      spent = c.self.inside.spent;
      acts = c.self.inside.acts.total;
      leaves = c.self.inside.leaves.total;
    } in
    let i = c.self.invariant in
    let going : answer_of g.N.Named.budget old ≡ None = subst (λ (s : Running). answer_of g.N.Named.budget s ≡ None) (sym c.self.view_is) c.requires.going in
    let p : ℕ = c.process.result in
    let held : 1 ≤ holder_of old.out p =
    subst (λ (q : ℕ). 1 ≤ holder_of old.out q) (sym c.process.ensures) (subst (λ (s : Running). 1 ≤ holder_of s.out c.args.parcel.now.process) (sym c.self.view_is) c.requires.out) in
    let s : Stretch = c.args.parcel.now in
    let is : IsPlain g.N.Named.code s = private_performs g.N.Named.code s c.requires.room c.end.ensures.kept in
    let counted : c.count-count.result ≡ s.ran.plain = count_is g.N.Named.code s c.count-count.result is c.count-count.ensures in
    let few : c.count-count.result ≤ MOST_STRETCH = omega (arith, counted, is.few) in
    let new : Running = record old { machine = c.put_private.new.self; spent = c.self.inside.spent + c.count-count.result } in
    subst (λ (r : Running). LandsWell g.N.Named.budget s r new) c.self.view_is
    (lands_as g.N.Named.budget s old new p c.count-count.result going c.requires.room
    (subst (λ (r : Running). StartsAs r.machine.image s) (sym c.self.view_is) c.requires.starts) c.process.ensures counted
    (lands_once g.N.Named.code g.N.Named.budget old p i.0 going held c.put_private.new.self c.count-count.result few c.put_private.ensures.goes))
