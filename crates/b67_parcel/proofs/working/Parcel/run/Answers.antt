use Rattle.std.proofs.Common.{◌≡◌, ◌≤◌, List, length, ap, subst, sym, ◌∙◌, take, arith}
use Rattle.std.proofs.lemmas.List.{with_items_is}
use Rattle.b67_deeds.specs.declared.Letter.{Letter}
use Rattle.b67_segment.specs.declared.code.Code.{Code}
use Rattle.b67_limits.specs.declared.TheConstants.{MOST_LETTERS}
use Rattle.b67_parcel.specs.Parcels.{Stretch, IsRun, IsStretch, IsWorked}
use Rattle.b67_parcel.proofs.Stretching.{has_run, of_run, worked_run, letters_noted}
use Rattle.b67_parcel.proofs.working.Parcel.run.Goals as goal

pub invariant_of-self : goal.invariant_of-self
invariant_of-self g c =
    let s : Stretch = record {
      process = c.self.inside.process;
      room = c.self.inside.room;
      start = c.self.inside.start;
      end = c.self.inside.end;
      ran = c.self.inside.ran;
      noted = take c.self.inside.room c.self.inside.letters.items;
    } in
    let i = c.self.invariant in
    let code : Code = g.N.Named.code in
    let some : 1 ≤ s.room = omega (arith, ap (λ (x : Stretch). x.room) c.self.view_is, c.requires.room) in
    let ls : List Letter = c.run_most-self-inside.new.letters in
    let whole = with_items_is c.self.inside.letters ls (c.run_most-self-inside.ensures.size ∙ c.deref_mut.ensures.len) in
    let noted : List Letter = take s.room ls in
    let is : IsRun code (record s { end = c.run_most-self-inside.new.part; ran = c.run_most-self-inside.result; noted = noted }) =
    has_run code c.args.code.now s c.copy_part.new.into c.run_most-self-inside.new.part c.run_most-self-inside.result noted c.requires.code c.copy_part.ensures c.run_most-self-inside.ensures.runs c.run_most-self-inside.ensures.full
    c.run_most-self-inside.ensures.keeps c.run_most-self-inside.ensures.counted c.run_most-self-inside.ensures.most in
    let size : length ls ≡ MOST_LETTERS = c.run_most-self-inside.ensures.size ∙ ap length c.deref_mut.ensures.value ∙ i.2 in (
      subst (λ (xs : List Letter). IsStretch code (record s { end = c.run_most-self-inside.new.part; ran = c.run_most-self-inside.result; noted = take s.room xs })) (sym whole) (record {
        taken = i.0.taken;
        complete = i.0.complete;
        is_part = i.0.is_part;
        performed = of_run s.room code (record s { end = c.run_most-self-inside.new.part; ran = c.run_most-self-inside.result; noted = noted }) some is;
        letters = letters_noted ls s.room MOST_LETTERS size i.3;
      }),
      i.1,
      ap length whole ∙ size,
      i.3,
    )

pub returns-clause-worked : goal.returns-clause-worked
returns-clause-worked g c =
    let s : Stretch = record {
      process = c.self.inside.process;
      room = c.self.inside.room;
      start = c.self.inside.start;
      end = c.self.inside.end;
      ran = c.self.inside.ran;
      noted = take c.self.inside.room c.self.inside.letters.items;
    } in
    let i = c.self.invariant in
    let code : Code = g.N.Named.code in
    let some : 1 ≤ s.room = omega (arith, ap (λ (x : Stretch). x.room) c.self.view_is, c.requires.room) in
    let ls : List Letter = c.run_most-self-inside.new.letters in
    let whole = with_items_is c.self.inside.letters ls (c.run_most-self-inside.ensures.size ∙ c.deref_mut.ensures.len) in
    let noted : List Letter = take s.room ls in
    let is : IsRun code (record s { end = c.run_most-self-inside.new.part; ran = c.run_most-self-inside.result; noted = noted }) =
    has_run code c.args.code.now s c.copy_part.new.into c.run_most-self-inside.new.part c.run_most-self-inside.result noted c.requires.code c.copy_part.ensures c.run_most-self-inside.ensures.runs c.run_most-self-inside.ensures.full
    c.run_most-self-inside.ensures.keeps c.run_most-self-inside.ensures.counted c.run_most-self-inside.ensures.most in
    let size : length ls ≡ MOST_LETTERS = c.run_most-self-inside.ensures.size ∙ ap length c.deref_mut.ensures.value ∙ i.2 in
    subst (λ (xs : List Letter). IsWorked code (record s { end = c.run_most-self-inside.new.part; ran = c.run_most-self-inside.result; noted = take s.room xs })) (sym whole)
    (worked_run s.room code (record s { end = c.run_most-self-inside.new.part; ran = c.run_most-self-inside.result; noted = noted }) some is)
