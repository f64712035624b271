use Rattle.std.specs.Prelude.{slice_get, option_copied}
use Rattle.std.proofs.Common.{◌≡◌, ◌<◌, refl, sym, ap, subst, ◌∙◌, ℕ, ◌+◌, List, [], ◌∷◌, ◌++◌, length, length-append, replicate, take, drop, get_or, true, false, Option, Some, arith}
use Rattle.std.proofs.lemmas.List.{length-take-le}
use Rattle.b67_deeds.specs.declared.Letter.{Letter}
use Rattle.b67_deeds.specs.declared.Letter.TheVariants.{Read}
use Rattle.b67_schedule.specs.Schedules.{entries, most_in_schedule}
use Rattle.b67_machine.specs.declared.replay.Replayed.{Replayed}
use Rattle.b67_machine.specs.declared.replay.Replayed.TheVariants as replayed
use Rattle.b67_machine.specs.Replaying.{Advances, LettersAgree, Between, GoOnAs, StopsBefore, first_of}
use Rattle.b67_machine.proofs.Advancing.{at_once}
use Rattle.b67_machine.proofs.Agreeing.{noted_length, agrees_here, stops_by, within_by, agrees_within, goes_on_as, differs_as, compares, some_long}
use Rattle.b67_machine.proofs.Entering.{done_within, counted_within, one_of_able, stops}
use Rattle.b67_machine.proofs.Finishing.{differs_here}
use Rattle.b67_machine.proofs.Following.{more_of_run, ends_in_run}
use Rattle.b67_machine.proofs.Noting.{read_is}
use Rattle.b67_machine.proofs.Machine.replay_entries.Goals as goal

pub overflow_add-len : goal.overflow_add-len
overflow_add-len g c =
    omega (
      arith,
      c.len.ensures,
      done_within c.args.self.now.code (entries c.args.done.now.runs) c.args.done.now.letters c.args.spent.now c.args.self.now c.requires.between,
      c.requires.within,
      c.ranges.budget.fits,
    )

pub returns-in-Some-clause-entries : goal.returns-in-Some-clause-entries
returns-in-Some-clause-entries g c =
    let m = c.args.self.now in
    let done = entries c.args.done.now.runs in
    let noted = c.args.done.now.letters in
    ends_in_run m.code c.args.budget done c.args.process 1 c.args.times c.requires.some (done ++ c.args.process ∷ []) refl m.code refl done noted m c.in-Some.answer
    (stops m.code c.args.budget done noted c.args.spent.now m c.requires.between c.args.process c.requires.within (c.len.result + 1) c.in-Some.answer
    (ap (λ (n : ℕ). n + 1) c.len.ensures)
    (subst (λ (o : Option Replayed). StopsBefore m c.args.process c.args.budget c.args.spent.now (c.len.result + 1) o) c.in-Some.is c.before_entry.ensures))

pub returns-in-Some-clause-letters : goal.returns-in-Some-clause-letters
returns-in-Some-clause-letters g c =
    agrees_here c.in-Some.answer
    (stops_by c.args.self.now c.args.process c.args.budget c.args.spent.now (c.len.result + 1) c.in-Some.answer
    (subst (λ (o : Option Replayed). StopsBefore c.args.self.now c.args.process c.args.budget c.args.spent.now (c.len.result + 1) o) c.in-Some.is c.before_entry.ensures))
    _ c.args.done.now.letters

pub perform_entries-entered-requires-clause-count : goal.perform_entries-entered-requires-clause-count
perform_entries-entered-requires-clause-count g c =
    omega (
      arith,
      counted_within c.args.self.now.code (entries c.args.done.now.runs) c.args.done.now.letters c.args.spent.now c.args.self.now c.args.process c.requires.between,
      c.requires.within,
      c.ranges.budget.fits,
    )

pub overflow_add-spent : goal.overflow_add-spent
overflow_add-spent g c =
    let m = c.args.self.now in
    let p = c.args.process in
    let done = entries c.args.done.now.runs in
    let noted = c.args.done.now.letters in
    let entered = c.perform_entries-entered.result in
    let part = c.perform_entries-entered.new.letters in
    let new = c.perform_entries-entered.new.self in
    let most' = c.most_at_once-most.result in
    let rest = drop most' c.args.notes.now in
    let size : length part ≡ most' = c.perform_entries-entered.ensures.size ∙ length-take-le most' c.args.notes.now (omega (arith, c.most_at_once-most.ensures.most.0, c.requires.notes)) in
    let k = at_once m.code c.args.budget done noted c.args.spent.now p c.requires.sound m c.requires.between c.in_default.ensures entered part rest new c.perform_entries-entered.ensures.performs
    c.perform_entries-entered.ensures.valid c.args.times most' size c.most_at_once-most.ensures.most.1 in
    omega (arith, k.within, c.ranges.budget.fits)

pub push_many-requires-clause-least : goal.push_many-requires-clause-least
push_many-requires-clause-least g c = one_of_able c.args.self.now.image.states c.args.process c.in_default.ensures.2

pub push_many-requires-clause-greatest : goal.push_many-requires-clause-greatest
push_many-requires-clause-greatest g c =
    let m = c.args.self.now in
    let p = c.args.process in
    let done = entries c.args.done.now.runs in
    let noted = c.args.done.now.letters in
    let entered = c.perform_entries-entered.result in
    let part = c.perform_entries-entered.new.letters in
    let new = c.perform_entries-entered.new.self in
    let most' = c.most_at_once-most.result in
    let rest = drop most' c.args.notes.now in
    let size : length part ≡ most' = c.perform_entries-entered.ensures.size ∙ length-take-le most' c.args.notes.now (omega (arith, c.most_at_once-most.ensures.most.0, c.requires.notes)) in
    let k = at_once m.code c.args.budget done noted c.args.spent.now p c.requires.sound m c.requires.between c.in_default.ensures entered part rest new c.perform_entries-entered.ensures.performs
    c.perform_entries-entered.ensures.valid c.args.times most' size c.most_at_once-most.ensures.most.1 in
    omega (arith, k.number)

pub push-requires-clause-greatest : goal.push-requires-clause-greatest
push-requires-clause-greatest g c =
    let m = c.args.self.now in
    let p = c.args.process in
    let done = entries c.args.done.now.runs in
    let noted = c.args.done.now.letters in
    let entered = c.perform_entries-entered.result in
    let part = c.perform_entries-entered.new.letters in
    let new = c.perform_entries-entered.new.self in
    let most' = c.most_at_once-most.result in
    let rest = drop most' c.args.notes.now in
    let size : length part ≡ most' = c.perform_entries-entered.ensures.size ∙ length-take-le most' c.args.notes.now (omega (arith, c.most_at_once-most.ensures.most.0, c.requires.notes)) in
    let k = at_once m.code c.args.budget done noted c.args.spent.now p c.requires.sound m c.requires.between c.in_default.ensures entered part rest new c.perform_entries-entered.ensures.performs
    c.perform_entries-entered.ensures.valid c.args.times most' size c.most_at_once-most.ensures.most.1 in
    omega (arith, k.number)

pub push_many-requires-clause-room : goal.push_many-requires-clause-room
push_many-requires-clause-room g c =
    let m = c.args.self.now in
    let p = c.args.process in
    let done = entries c.args.done.now.runs in
    let noted = c.args.done.now.letters in
    let entered = c.perform_entries-entered.result in
    let part = c.perform_entries-entered.new.letters in
    let new = c.perform_entries-entered.new.self in
    let most' = c.most_at_once-most.result in
    let rest = drop most' c.args.notes.now in
    let size : length part ≡ most' = c.perform_entries-entered.ensures.size ∙ length-take-le most' c.args.notes.now (omega (arith, c.most_at_once-most.ensures.most.0, c.requires.notes)) in
    let k = at_once m.code c.args.budget done noted c.args.spent.now p c.requires.sound m c.requires.between c.in_default.ensures entered part rest new c.perform_entries-entered.ensures.performs
    c.perform_entries-entered.ensures.valid c.args.times most' size c.most_at_once-most.ensures.most.1 in
    omega (arith, k.room c.args.done.now.room c.requires.room, k.count)

pub push_many-requires-clause-actions : goal.push_many-requires-clause-actions
push_many-requires-clause-actions g c =
    let m = c.args.self.now in
    let p = c.args.process in
    let done = entries c.args.done.now.runs in
    let noted = c.args.done.now.letters in
    let entered = c.perform_entries-entered.result in
    let part = c.perform_entries-entered.new.letters in
    let new = c.perform_entries-entered.new.self in
    let most' = c.most_at_once-most.result in
    let rest = drop most' c.args.notes.now in
    let size : length part ≡ most' = c.perform_entries-entered.ensures.size ∙ length-take-le most' c.args.notes.now (omega (arith, c.most_at_once-most.ensures.most.0, c.requires.notes)) in
    let k = at_once m.code c.args.budget done noted c.args.spent.now p c.requires.sound m c.requires.between c.in_default.ensures entered part rest new c.perform_entries-entered.ensures.performs
    c.perform_entries-entered.ensures.valid c.args.times most' size c.most_at_once-most.ensures.most.1 in
    omega (arith, k.room most_in_schedule c.requires.few, k.count)

pub push-requires-clause-room : goal.push-requires-clause-room
push-requires-clause-room g c =
    let m = c.args.self.now in
    let p = c.args.process in
    let done = entries c.args.done.now.runs in
    let noted = c.args.done.now.letters in
    let entered = c.perform_entries-entered.result in
    let part = c.perform_entries-entered.new.letters in
    let new = c.perform_entries-entered.new.self in
    let most' = c.most_at_once-most.result in
    let rest = drop most' c.args.notes.now in
    let size : length part ≡ most' = c.perform_entries-entered.ensures.size ∙ length-take-le most' c.args.notes.now (omega (arith, c.most_at_once-most.ensures.most.0, c.requires.notes)) in
    let k = at_once m.code c.args.budget done noted c.args.spent.now p c.requires.sound m c.requires.between c.in_default.ensures entered part rest new c.perform_entries-entered.ensures.performs
    c.perform_entries-entered.ensures.valid c.args.times most' size c.most_at_once-most.ensures.most.1 in
    omega (arith, k.room c.args.done.now.room c.requires.room, ap length c.push_many.ensures.letters, length-append noted (take entered.entries (part ++ rest)), k.count, c.push_many.ensures.room)

pub push-requires-clause-actions : goal.push-requires-clause-actions
push-requires-clause-actions g c =
    let m = c.args.self.now in
    let p = c.args.process in
    let done = entries c.args.done.now.runs in
    let noted = c.args.done.now.letters in
    let entered = c.perform_entries-entered.result in
    let part = c.perform_entries-entered.new.letters in
    let new = c.perform_entries-entered.new.self in
    let most' = c.most_at_once-most.result in
    let rest = drop most' c.args.notes.now in
    let size : length part ≡ most' = c.perform_entries-entered.ensures.size ∙ length-take-le most' c.args.notes.now (omega (arith, c.most_at_once-most.ensures.most.0, c.requires.notes)) in
    let k = at_once m.code c.args.budget done noted c.args.spent.now p c.requires.sound m c.requires.between c.in_default.ensures entered part rest new c.perform_entries-entered.ensures.performs
    c.perform_entries-entered.ensures.valid c.args.times most' size c.most_at_once-most.ensures.most.1 in
    omega (arith, k.room most_in_schedule c.requires.few, ap length c.push_many.ensures.letters, length-append noted (take entered.entries (part ++ rest)), k.count)

-- ---- the replay ends within an entry

pub returns-in-Some-within_entry-clause-entries : goal.returns-in-Some-within_entry-clause-entries
returns-in-Some-within_entry-clause-entries g c =
    let m = c.args.self.now in
    let p = c.args.process in
    let done = entries c.args.done.now.runs in
    let noted = c.args.done.now.letters in
    let entered = c.perform_entries-entered.result in
    let part = c.perform_entries-entered.new.letters in
    let new = c.perform_entries-entered.new.self in
    let most' = c.most_at_once-most.result in
    let rest = drop most' c.args.notes.now in
    let size : length part ≡ most' = c.perform_entries-entered.ensures.size ∙ length-take-le most' c.args.notes.now (omega (arith, c.most_at_once-most.ensures.most.0, c.requires.notes)) in
    let k = at_once m.code c.args.budget done noted c.args.spent.now p c.requires.sound m c.requires.between c.in_default.ensures entered part rest new c.perform_entries-entered.ensures.performs
    c.perform_entries-entered.ensures.valid c.args.times most' size c.most_at_once-most.ensures.most.1 in
    let added : entries c.push_many.new.self.runs ≡ done ++ replicate entered.entries p = c.push_many.ensures.added ∙ ap (λ (n : ℕ). done ++ replicate n p) k.count in
    let letters_are : c.push_many.new.self.letters ≡ noted ++ take entered.entries part = c.push_many.ensures.letters ∙ ap (λ (ls : List Letter). noted ++ ls) k.first in
    let spent = c.args.spent.now + (entered.operators + entered.last.plain) in
    subst (λ (xs : List ℕ). Advances m.code c.args.budget done (replicate c.args.times p) spent xs c.push_many.new.self.letters new (Some c.in-Some-within_entry.answer)) (sym added)
    (subst (λ (ls : List Letter). Advances m.code c.args.budget done (replicate c.args.times p) spent (done ++ replicate entered.entries p) ls new (Some c.in-Some-within_entry.answer))
    (sym letters_are) (k.stops c.in-Some-within_entry.answer (sym c.in-Some-within_entry.ensures) spent))

pub returns-in-Some-within_entry-clause-letters : goal.returns-in-Some-within_entry-clause-letters
returns-in-Some-within_entry-clause-letters g c =
    let m = c.args.self.now in
    let p = c.args.process in
    let done = entries c.args.done.now.runs in
    let noted = c.args.done.now.letters in
    let entered = c.perform_entries-entered.result in
    let part = c.perform_entries-entered.new.letters in
    let new = c.perform_entries-entered.new.self in
    let most' = c.most_at_once-most.result in
    let rest = drop most' c.args.notes.now in
    let size : length part ≡ most' = c.perform_entries-entered.ensures.size ∙ length-take-le most' c.args.notes.now (omega (arith, c.most_at_once-most.ensures.most.0, c.requires.notes)) in
    let k = at_once m.code c.args.budget done noted c.args.spent.now p c.requires.sound m c.requires.between c.in_default.ensures entered part rest new c.perform_entries-entered.ensures.performs
    c.perform_entries-entered.ensures.valid c.args.times most' size c.most_at_once-most.ensures.most.1 in
    let given = option_copied c.args.letters in
    subst (λ (ls : List Letter). LettersAgree given noted ls (Some c.in-Some-within_entry.answer)) (sym c.push_many.ensures.letters)
    (agrees_within c.in-Some-within_entry.answer (within_by entered.last.done c.in-Some-within_entry.answer (sym c.in-Some-within_entry.ensures)) given noted
    (take entered.entries (part ++ rest)) entered.entries most' c.most_at_once-most.ensures.one (omega (arith, c.perform_entries-entered.ensures.performs.few, size)) k.count)

-- ---- its letter is another than the given one

pub returns-then-differs-clause-entries : goal.returns-then-differs-clause-entries
returns-then-differs-clause-entries g c =
    let m = c.args.self.now in
    let p = c.args.process in
    let done = entries c.args.done.now.runs in
    let noted = c.args.done.now.letters in
    let entered = c.perform_entries-entered.result in
    let part = c.perform_entries-entered.new.letters in
    let new = c.perform_entries-entered.new.self in
    let most' = c.most_at_once-most.result in
    let rest = drop most' c.args.notes.now in
    let size : length part ≡ most' = c.perform_entries-entered.ensures.size ∙ length-take-le most' c.args.notes.now (omega (arith, c.most_at_once-most.ensures.most.0, c.requires.notes)) in
    let k = at_once m.code c.args.budget done noted c.args.spent.now p c.requires.sound m c.requires.between c.in_default.ensures entered part rest new c.perform_entries-entered.ensures.performs
    c.perform_entries-entered.ensures.valid c.args.times most' size c.most_at_once-most.ensures.most.1 in
    let through = k.through (sym c.in_default-within_entry.ensures) in
    let there : slice_get part entered.entries ≡ Some through.l = k.last (sym c.in_default-within_entry.ensures) ∙ through.letter in
    let added : entries c.push_many.new.self.runs ≡ done ++ replicate entered.entries p = c.push_many.ensures.added ∙ ap (λ (n : ℕ). done ++ replicate n p) k.count in
    let once : entries c.push.new.self.runs ≡ done ++ replicate entered.entries p ++ p ∷ [] = c.push.ensures.added ∙ ap (λ (xs : List ℕ). xs ++ p ∷ []) added in
    let letters_are : c.push.new.self.letters ≡ noted ++ take entered.entries part ++ through.l ∷ [] =
    c.push.ensures.letters
    ∙ ap (λ (ls : List Letter). ls ++ get_or (part ++ rest) entered.entries Read ∷ []) (c.push_many.ensures.letters ∙ ap (λ (ls : List Letter). noted ++ ls) k.first)
    ∙ ap (λ (l : Letter). noted ++ take entered.entries part ++ l ∷ []) (read_is part rest entered.entries through.l Read there) in
    let spent = c.args.spent.now + (entered.operators + entered.last.plain) + 1 in
    let between : Between m.code (entries c.push.new.self.runs) c.push.new.self.letters spent new =
    subst (λ (xs : List ℕ). Between m.code xs c.push.new.self.letters spent new) (sym once)
    (subst (λ (ls : List Letter). Between m.code (done ++ replicate entered.entries p ++ p ∷ []) ls spent new) (sym letters_are) through.between) in
    let all : entries c.push.new.self.runs ≡ done ++ replicate (entered.entries + 1) p =
    c.push.ensures.added ∙ more_of_run done (entries c.push_many.new.self.runs) p entered.entries 1 (entered.entries + 1) added refl in
    ends_in_run m.code c.args.budget done p (entered.entries + 1) c.args.times (omega (arith, k.fits)) (entries c.push.new.self.runs) all m.code refl (entries c.push.new.self.runs)
    c.push.new.self.letters new (replayed.Differs c.len-then-differs.result)
    (λ more. differs_here m.code c.args.budget (entries c.push.new.self.runs) c.push.new.self.letters spent new between through.within more c.len-then-differs.result c.len-then-differs.ensures)

pub returns-then-differs-clause-letters : goal.returns-then-differs-clause-letters
returns-then-differs-clause-letters g c =
    let m = c.args.self.now in
    let p = c.args.process in
    let done = entries c.args.done.now.runs in
    let noted = c.args.done.now.letters in
    let entered = c.perform_entries-entered.result in
    let part = c.perform_entries-entered.new.letters in
    let new = c.perform_entries-entered.new.self in
    let most' = c.most_at_once-most.result in
    let rest = drop most' c.args.notes.now in
    let size : length part ≡ most' = c.perform_entries-entered.ensures.size ∙ length-take-le most' c.args.notes.now (omega (arith, c.most_at_once-most.ensures.most.0, c.requires.notes)) in
    let k = at_once m.code c.args.budget done noted c.args.spent.now p c.requires.sound m c.requires.between c.in_default.ensures entered part rest new c.perform_entries-entered.ensures.performs
    c.perform_entries-entered.ensures.valid c.args.times most' size c.most_at_once-most.ensures.most.1 in
    let through = k.through (sym c.in_default-within_entry.ensures) in
    let there : slice_get part entered.entries ≡ Some through.l = k.last (sym c.in_default-within_entry.ensures) ∙ through.letter in
    let added : entries c.push_many.new.self.runs ≡ done ++ replicate entered.entries p = c.push_many.ensures.added ∙ ap (λ (n : ℕ). done ++ replicate n p) k.count in
    let once : entries c.push.new.self.runs ≡ done ++ replicate entered.entries p ++ p ∷ [] = c.push.ensures.added ∙ ap (λ (xs : List ℕ). xs ++ p ∷ []) added in
    let letters_are : c.push.new.self.letters ≡ noted ++ take entered.entries part ++ through.l ∷ [] =
    c.push.ensures.letters
    ∙ ap (λ (ls : List Letter). ls ++ get_or (part ++ rest) entered.entries Read ∷ []) (c.push_many.ensures.letters ∙ ap (λ (ls : List Letter). noted ++ ls) k.first)
    ∙ ap (λ (l : Letter). noted ++ take entered.entries part ++ l ∷ []) (read_is part rest entered.entries through.l Read there) in
    let spent = c.args.spent.now + (entered.operators + entered.last.plain) + 1 in
    let between : Between m.code (entries c.push.new.self.runs) c.push.new.self.letters spent new =
    subst (λ (xs : List ℕ). Between m.code xs c.push.new.self.letters spent new) (sym once)
    (subst (λ (ls : List Letter). Between m.code (done ++ replicate entered.entries p ++ p ∷ []) ls spent new) (sym letters_are) through.between) in
    let all : entries c.push.new.self.runs ≡ done ++ replicate (entered.entries + 1) p =
    c.push.ensures.added ∙ more_of_run done (entries c.push_many.new.self.runs) p entered.entries 1 (entered.entries + 1) added refl in
    let given = option_copied c.args.letters in
    let few : entered.entries < most' = omega (arith, c.perform_entries-entered.ensures.performs.few, size) in
    let count = ap length (sym k.first) ∙ k.count in
    let here : (entered.entries ≡ 0) → get_or (part ++ rest) 0 Read ≡ through.l =
    λ none. read_is part rest 0 through.l Read (subst (λ (n : ℕ). slice_get part n ≡ Some through.l) none there) in
    let number = c.len-then-differs.result in
    let long : number ≡ length (noted ++ take entered.entries part ++ through.l ∷ []) =
    c.len-then-differs.ensures ∙ sym (noted_length m.code (entries c.push.new.self.runs) c.push.new.self.letters spent new between) ∙ ap length letters_are in
    subst (λ (ls : List Letter). LettersAgree given noted ls (Some (replayed.Differs number))) (sym letters_are)
    (differs_as given noted (take entered.entries part) through.l (get_or (part ++ rest) 0 Read) entered.entries most' number c.most_at_once-most.ensures.one
    (some_long given 1 c.args.times c.requires.some c.requires.each) few count here (compares given (get_or (part ++ rest) 0 Read) c.differs.result true c.if-differs.true c.differs.ensures) long)

-- ---- the entries are performed

pub returns-clause-entries : goal.returns-clause-entries
returns-clause-entries g c =
    let m = c.args.self.now in
    let p = c.args.process in
    let done = entries c.args.done.now.runs in
    let noted = c.args.done.now.letters in
    let entered = c.perform_entries-entered.result in
    let part = c.perform_entries-entered.new.letters in
    let new = c.perform_entries-entered.new.self in
    let most' = c.most_at_once-most.result in
    let rest = drop most' c.args.notes.now in
    let size : length part ≡ most' = c.perform_entries-entered.ensures.size ∙ length-take-le most' c.args.notes.now (omega (arith, c.most_at_once-most.ensures.most.0, c.requires.notes)) in
    let k = at_once m.code c.args.budget done noted c.args.spent.now p c.requires.sound m c.requires.between c.in_default.ensures entered part rest new c.perform_entries-entered.ensures.performs
    c.perform_entries-entered.ensures.valid c.args.times most' size c.most_at_once-most.ensures.most.1 in
    let through = k.through (sym c.in_default-within_entry.ensures) in
    let there : slice_get part entered.entries ≡ Some through.l = k.last (sym c.in_default-within_entry.ensures) ∙ through.letter in
    let added : entries c.push_many.new.self.runs ≡ done ++ replicate entered.entries p = c.push_many.ensures.added ∙ ap (λ (n : ℕ). done ++ replicate n p) k.count in
    let once : entries c.push.new.self.runs ≡ done ++ replicate entered.entries p ++ p ∷ [] = c.push.ensures.added ∙ ap (λ (xs : List ℕ). xs ++ p ∷ []) added in
    let letters_are : c.push.new.self.letters ≡ noted ++ take entered.entries part ++ through.l ∷ [] =
    c.push.ensures.letters
    ∙ ap (λ (ls : List Letter). ls ++ get_or (part ++ rest) entered.entries Read ∷ []) (c.push_many.ensures.letters ∙ ap (λ (ls : List Letter). noted ++ ls) k.first)
    ∙ ap (λ (l : Letter). noted ++ take entered.entries part ++ l ∷ []) (read_is part rest entered.entries through.l Read there) in
    let spent = c.args.spent.now + (entered.operators + entered.last.plain) + 1 in
    let between : Between m.code (entries c.push.new.self.runs) c.push.new.self.letters spent new =
    subst (λ (xs : List ℕ). Between m.code xs c.push.new.self.letters spent new) (sym once)
    (subst (λ (ls : List Letter). Between m.code (done ++ replicate entered.entries p ++ p ∷ []) ls spent new) (sym letters_are) through.between) in
    let all : entries c.push.new.self.runs ≡ done ++ replicate (entered.entries + 1) p =
    c.push.ensures.added ∙ more_of_run done (entries c.push_many.new.self.runs) p entered.entries 1 (entered.entries + 1) added refl in
    (omega arith, omega (arith, k.fits), (all, between, through.within))

pub returns-clause-letters : goal.returns-clause-letters
returns-clause-letters g c =
    let m = c.args.self.now in
    let p = c.args.process in
    let done = entries c.args.done.now.runs in
    let noted = c.args.done.now.letters in
    let entered = c.perform_entries-entered.result in
    let part = c.perform_entries-entered.new.letters in
    let new = c.perform_entries-entered.new.self in
    let most' = c.most_at_once-most.result in
    let rest = drop most' c.args.notes.now in
    let size : length part ≡ most' = c.perform_entries-entered.ensures.size ∙ length-take-le most' c.args.notes.now (omega (arith, c.most_at_once-most.ensures.most.0, c.requires.notes)) in
    let k = at_once m.code c.args.budget done noted c.args.spent.now p c.requires.sound m c.requires.between c.in_default.ensures entered part rest new c.perform_entries-entered.ensures.performs
    c.perform_entries-entered.ensures.valid c.args.times most' size c.most_at_once-most.ensures.most.1 in
    let through = k.through (sym c.in_default-within_entry.ensures) in
    let there : slice_get part entered.entries ≡ Some through.l = k.last (sym c.in_default-within_entry.ensures) ∙ through.letter in
    let added : entries c.push_many.new.self.runs ≡ done ++ replicate entered.entries p = c.push_many.ensures.added ∙ ap (λ (n : ℕ). done ++ replicate n p) k.count in
    let once : entries c.push.new.self.runs ≡ done ++ replicate entered.entries p ++ p ∷ [] = c.push.ensures.added ∙ ap (λ (xs : List ℕ). xs ++ p ∷ []) added in
    let letters_are : c.push.new.self.letters ≡ noted ++ take entered.entries part ++ through.l ∷ [] =
    c.push.ensures.letters
    ∙ ap (λ (ls : List Letter). ls ++ get_or (part ++ rest) entered.entries Read ∷ []) (c.push_many.ensures.letters ∙ ap (λ (ls : List Letter). noted ++ ls) k.first)
    ∙ ap (λ (l : Letter). noted ++ take entered.entries part ++ l ∷ []) (read_is part rest entered.entries through.l Read there) in
    let spent = c.args.spent.now + (entered.operators + entered.last.plain) + 1 in
    let between : Between m.code (entries c.push.new.self.runs) c.push.new.self.letters spent new =
    subst (λ (xs : List ℕ). Between m.code xs c.push.new.self.letters spent new) (sym once)
    (subst (λ (ls : List Letter). Between m.code (done ++ replicate entered.entries p ++ p ∷ []) ls spent new) (sym letters_are) through.between) in
    let all : entries c.push.new.self.runs ≡ done ++ replicate (entered.entries + 1) p =
    c.push.ensures.added ∙ more_of_run done (entries c.push_many.new.self.runs) p entered.entries 1 (entered.entries + 1) added refl in
    let given = option_copied c.args.letters in
    let few : entered.entries < most' = omega (arith, c.perform_entries-entered.ensures.performs.few, size) in
    let count = ap length (sym k.first) ∙ k.count in
    let here : (entered.entries ≡ 0) → get_or (part ++ rest) 0 Read ≡ through.l =
    λ none. read_is part rest 0 through.l Read (subst (λ (n : ℕ). slice_get part n ≡ Some through.l) none there) in
    subst (GoOnAs (first_of (entered.entries + 1) given) noted) (sym letters_are)
    (goes_on_as given noted (take entered.entries part) through.l (get_or (part ++ rest) 0 Read) entered.entries most' c.most_at_once-most.ensures.one few count here
    (compares given (get_or (part ++ rest) 0 Read) c.differs.result false c.if-differs.false c.differs.ensures))
