use Rattle.std.proofs.Common.{◌≡◌, ap, subst, ◌∙◌, false, take}
use Rattle.b67_segment.specs.declared.code.Code.{Code}
use Rattle.b67_private.specs.Parts.{PlainParts, is_plain}
use Rattle.b67_parcel.specs.Parcels.{Stretch, IsPlain}
use Rattle.b67_parcel.proofs.Stretching.{plain_of, of_plain, stretched, goes_on, worked, worked_plain}
use Rattle.b67_parcel.proofs.working.Parcel.stretch.Goals as goal

pub invariant_of-self : goal.invariant_of-self
invariant_of-self g c =
    let s : Stretch = record {
      process = c.self.inside.process;
      room = c.self.inside.room;
      start = c.self.inside.start;
      end = c.self.inside.end;
      ran = c.self.inside.ran;
      noted = take c.self.inside.room c.self.inside.letters.items;
    } in
    let i = c.self.invariant in
    let code : Code = g.N.Named.code in
    let none : s.room ≡ 0 = ap (λ (x : Stretch). x.room) c.self.view_is ∙ c.requires.room in
    let is : IsPlain code s = plain_of s.room code s none i.0.performed in
    let more : PlainParts code s.end c.burst.result c.burst.new.p =
    subst (λ (k : Code). PlainParts k s.end c.burst.result c.burst.new.p) c.requires.code c.burst.ensures.plain in (
      record {
        taken = i.0.taken;
        complete = i.0.complete;
        is_part = i.0.is_part;
        performed =
            of_plain s.room code (stretched s c.burst.new.p c.burst.result) none
            (goes_on code s c.burst.new.p c.burst.result is more c.burst.ensures.most c.burst.ensures.keeps c.burst.ensures.kept);
        letters = i.0.letters;
      },
      i.1,
      i.2,
      i.3,
    )

pub returns-clause-worked : goal.returns-clause-worked
returns-clause-worked g c =
    let s : Stretch = record {
      process = c.self.inside.process;
      room = c.self.inside.room;
      start = c.self.inside.start;
      end = c.self.inside.end;
      ran = c.self.inside.ran;
      noted = take c.self.inside.room c.self.inside.letters.items;
    } in
    let i = c.self.invariant in
    let code : Code = g.N.Named.code in
    let none : s.room ≡ 0 = ap (λ (x : Stretch). x.room) c.self.view_is ∙ c.requires.room in
    let is : IsPlain code s = plain_of s.room code s none i.0.performed in
    let more : PlainParts code s.end c.burst.result c.burst.new.p =
    subst (λ (k : Code). PlainParts k s.end c.burst.result c.burst.new.p) c.requires.code c.burst.ensures.plain in
    worked_plain s.room code (stretched s c.burst.new.p c.burst.result) none
    (worked code s c.burst.new.p c.burst.result is more c.burst.ensures.most c.burst.ensures.keeps c.burst.ensures.kept
    (λ less. subst (λ (k : Code). is_plain k c.burst.new.p ≡ false) c.requires.code (c.burst.ensures.stops less)))
