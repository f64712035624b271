-- The letters that are noted of entries.
use Rattle.std.specs.Prelude.{IfSome, slice_get}
use Rattle.std.proofs.Common.{◌≡◌, sym, ap, subst, ◌∙◌, ℕ, ◌+◌, ◌-◌, ◌<◌, ◌≤◌, ◌⊎◌, inl, inr, zero, suc, Bool, true, false, List, [], ◌∷◌, ◌++◌, length, take, drop, set, length-append, get_or, Option, Some, None, arith}
use Rattle.std.proofs.Math.Seq.{take-append-add}
use Rattle.std.proofs.lemmas.List.{length-drop, length-take-le, take-append-le, take_more_set}
use Rattle.b67_deeds.specs.declared.Letter.{Letter}
use Rattle.b67_table.specs.Ending.{failed}
use Rattle.b67_table.specs.Runs as runs
use Rattle.b67_table.specs.Table.{plain}
use Rattle.b67_table.proofs.Lists.{get_set}
use Rattle.b67_letters.specs.Letters.{letter}
use Rattle.b67_letters.proofs.Lettered.{actions_have_letters}
use Rattle.b67_action.specs.declared.done.Done.{Done}
use Rattle.b67_action.specs.declared.done.Done.TheVariants.{Went, Waits, Ended, Fault, Interrupt, StackLimit, NoMemory}
use Rattle.b67_machine.specs.declared.entry.Performed.{Performed}
use Rattle.b67_machine.specs.Kept.{MachineModel}
use Rattle.b67_machine.specs.Letters.{or_before, last_or}
use Rattle.b67_machine.specs.Stepping.{operators_in, MachineActs, Steps, StepsBy, MachineFollows, MachinePerforms}

-- ---- the machine's letter after an action

-- an action's letter is the machine's
pub record IsNamed (old : MachineModel) (p : ℕ) (new : MachineModel) : Type 0 where
  pub l : Letter
  pub is : letter old.code old.image p ≡ Some l
  pub kept : new.letter ≡ Some l

pub acts_named : (old new : MachineModel) (p : ℕ) (done : Done) → MachineActs old p done new → plain old.code old.image p ≡ false → operators_in done ≡ 1 → IsNamed old p new
acts_named old new p Went x n e =
    let k = actions_have_letters.acts old.code old.image x.acted p (runs.acts n x.came.0) in
    record { l = k.0; is = k.1; kept = x.letter_is ∙ ap (λ (o : Option Letter). or_before o old.letter) k.1 }
acts_named old new p Waits x n e =
    let k = actions_have_letters.acts old.code old.image x.acted p (runs.acts n x.came.0) in
    record { l = k.0; is = k.1; kept = x.letter_is ∙ ap (λ (o : Option Letter). or_before o old.letter) k.1 }
acts_named old new p Ended x n e =
    let k = actions_have_letters.acts old.code old.image x.acted p (runs.acts n x.came.0) in
    record { l = k.0; is = k.1; kept = x.letter_is ∙ ap (λ (o : Option Letter). or_before o old.letter) k.1 }
acts_named old new p (Fault kind) x n e =
    let k = actions_have_letters.acts old.code old.image (failed old.image p kind) p (runs.fails kind x.came.0) in
    record { l = k.0; is = k.1; kept = x.letter_is ∙ ap (λ (o : Option Letter). or_before o old.letter) k.1 }
acts_named old new p (Interrupt kind) x n e = cc
acts_named old new p StackLimit x n e = cc
acts_named old new p NoMemory x n e = cc

pub steps_named : (old new : MachineModel) (p : ℕ) (done : Done) → Steps old p done new → plain old.code old.image p ≡ false → operators_in done ≡ 1 → IsNamed old p new
steps_named old new p done steps n e = by old.lacked steps
  where
    none : (d : Done) → operators_in d ≡ 1 → d ≡ NoMemory → ⊥
    none d k i = absurd (omega (arith, k, ap operators_in i))

    by : (b : Bool) → StepsBy b old p done new → IsNamed old p new
    by true s = absurd (none done e s.0)
    by false s = acts_named old new p done s n e

pub follows_named : (between new : MachineModel) (p n most : ℕ) (o : Option Done) → MachineFollows between p n most o new → IfSome o (λ done. operators_in done ≡ 1 → IsNamed between p new)
follows_named between new p n most None h = tt
follows_named between new p n most (Some done) h = λ e. steps_named between new p done h.2 h.1 e

-- a machine that lacked memory counts nothing, and nothing is performed where no operator is allowed
pub none_counted : (old new : MachineModel) (p most : ℕ) (f : Performed) (noted : List Letter) → MachinePerforms old p most f new → (old.lacked ≡ true) ⊎ (most ≡ 0)
    → IfSome f.done (λ done. operators_in done ≡ 1 → slice_get noted 0 ≡ new.letter)
none_counted old new p most f noted h test = by f.done h.then test
  where
    none : (d : Done) → operators_in d ≡ 1 → d ≡ NoMemory → ⊥
    none d k i = absurd (omega (arith, k, ap operators_in i))

    by : (o : Option Done) → MachineFollows h.between p f.plain most o new → (old.lacked ≡ true) ⊎ (most ≡ 0) → IfSome o (λ done. operators_in done ≡ 1 → slice_get noted 0 ≡ new.letter)
    by None x t = tt
    by (Some done) x (inl lacked) =
        let here : h.between.lacked ≡ true = ap (λ (k : MachineModel). k.lacked) h.plains.others ∙ lacked in
        λ one. absurd (none done one (subst (λ (z : Bool). StepsBy z h.between p done new) here x.2).0)
    by (Some done) x (inr no_room) = λ one. absurd (omega (arith, x.0, no_room))

-- ---- letters in a list

-- what was written is the letter
written_is : (place : Letter) (o : Option Letter) (l : Letter) → o ≡ Some l → IfSome o (λ k. place ≡ k) → place ≡ l
written_is place o l e h = subst (λ (x : Option Letter). IfSome x (λ k. place ≡ k)) e h

-- the letter of the last entry is noted in its place
pub noted_last : (letters : List Letter) (n : ℕ) (place : Letter) (told : Option Letter) (old : MachineModel) (p : ℕ) (new : MachineModel) → n < length letters → told ≡ new.letter
    → IfSome told (λ k. place ≡ k) → IsNamed old p new → slice_get (set letters n place) n ≡ new.letter
noted_last letters n place told old p new less e written named =
    get_set letters n place less ∙ ap (λ (l : Letter). Some l) (written_is place told named.l (e ∙ named.kept) written) ∙ sym named.kept

pub noted_if : (letters : List Letter) (n : ℕ) (place : Letter) (told : Option Letter) (old : MachineModel) (p : ℕ) (new : MachineModel) (o : Option Done) → n < length letters → told ≡ new.letter
    → IfSome told (λ k. place ≡ k) → IfSome o (λ done. operators_in done ≡ 1 → IsNamed old p new)
    → IfSome o (λ done. operators_in done ≡ 1 → slice_get (set letters n place) n ≡ new.letter)
noted_if letters n place told old p new None less e written named = tt
noted_if letters n place told old p new (Some done) less e written named = λ one. noted_last letters n place told old p new less e written (named one)

-- the letters of a part that was lent come first
pub first_noted : (part rest : List Letter) (n : ℕ) → n ≤ length part → take n (part ++ rest) ≡ take n part
first_noted part rest n few = take-append-le n part rest few

-- a letter more, and then some of a part that was lent from there on
pub noted_on : (first second rest : List Letter) (place l : Letter) (n m : ℕ) → n < length first → m ≤ length second → place ≡ l
    → take (n + 1 + m) (take (n + 1) (set first n place) ++ (second ++ rest)) ≡ (take n first ++ l ∷ []) ++ take m second
noted_on first second rest place l n m less few e =
    let front : List Letter = take n first ++ l ∷ [] in
    let size : n + 1 ≡ length front = omega (arith, length-append (take n first) (l ∷ []), length-take-le n first (omega (arith, less))) in
    ap (λ (ls : List Letter). take (n + 1 + m) (ls ++ (second ++ rest))) (take_more_set first n place less ∙ ap (λ (x : Letter). take n first ++ x ∷ []) e)
    ∙ ap (λ (k : ℕ). take (k + m) (front ++ (second ++ rest))) size
    ∙ take-append-add front (second ++ rest) m
    ∙ ap (λ (ls : List Letter). front ++ ls) (take-append-le m second rest few)

-- a list of which a part was lent is as long as before
pub whole_again : (all part rest : List Letter) (from to : ℕ) → from ≤ to → to ≤ length all → length part ≡ length (take (to - from) (drop from all)) → rest ≡ drop to all
    → length (take from all ++ (part ++ rest)) ≡ length all
whole_again all part rest from to less within size rest_is =
    omega (
      arith,
      less,
      within,
      size,
      length-take-le (to - from) (drop from all) (omega (arith, less, within, length-drop from all)),
      ap length rest_is,
      length-drop to all,
      length-append (take from all) (part ++ rest),
      length-append part rest,
      length-take-le from all (omega (arith, less, within)),
    )

-- what is read there is what was noted in the part
pub read_is : (part rest : List Letter) (n : ℕ) (l d : Letter) → slice_get part n ≡ Some l → get_or (part ++ rest) n d ≡ l
read_is [] rest zero l d e = cc
read_is [] rest (suc n) l d e = cc
read_is (x ∷ part) rest zero l d e = cc
read_is (x ∷ part) rest (suc n) l d e = read_is part rest n l d e

-- ---- the last of some letters

last_at : (x : Letter) (ls : List Letter) (before : Option Letter) (l : Letter) (k : ℕ) → k ≡ length ls → Some l ≡ slice_get (x ∷ ls) k → Some l ≡ last_or (x ∷ ls) before
last_at x [] before l zero h e = e
last_at x [] before l (suc k) h e = absurd (omega (arith, h))
last_at x (y ∷ ls) before l zero h e = absurd (omega (arith, h))
last_at x (y ∷ ls) before l (suc k) h e = last_at y ls (Some x) l k (omega (arith, h)) e

pub last_is : (ls : List Letter) (before : Option Letter) (l : Letter) → Some l ≡ slice_get ls (length ls - 1) → Some l ≡ last_or ls before
last_is [] before l e = cc
last_is (x ∷ ls) before l e = last_at x ls before l (length (x ∷ ls) - 1) (omega arith) e
