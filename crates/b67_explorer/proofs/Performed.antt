-- From what a machine performs to entries of its code.
use Rattle.std.proofs.Common.{◌≡◌, refl, sym, ap, subst, ◌∙◌, ℕ, suc, ◌+◌, ◌-◌, ◌^◌, ◌<◌, ◌≤◌, List, [], ◌∷◌, ◌++◌, length, take, arith, All, Bool, true, false, true≢false, not, Option, Some, None, is_some}
use Rattle.std.proofs.lemmas.List.{length_push, length-take-le}
use Rattle.std.proofs.lemmas.Option.{same_Some, none-some}
use Rattle.b67_deeds.specs.declared.Letter.{Letter}
use Rattle.b67_num.specs.declared.FaultKind.{FaultKind}
use Rattle.b67_segment.specs.declared.TheConstants.{MOST_SEGMENT_WORDS}
use Rattle.b67_segment.specs.declared.code.Code.{Code}
use Rattle.b67_segment.specs.declared.code.Segment.{Segment}
use Rattle.b67_listing.specs.Listings.{IsListable}
use Rattle.b67_list.specs.Numbered.{numbered}
use Rattle.b67_table.specs.Image.{Image, is_able}
use Rattle.b67_table.specs.Ending.{ImageEnd, image_end, goes_on, may_act, failed}
use Rattle.b67_table.specs.Outcome.{gives, faults, limit}
use Rattle.b67_table.specs.Runs.{Plains, acts, fails, RunEntry}
use Rattle.b67_table.specs.Runs as runs
use Rattle.b67_table.specs.Table.{table, plain}
use Rattle.b67_action.specs.declared.done.Done.{Done}
use Rattle.b67_action.specs.declared.done.Done.TheVariants as dones
use Rattle.b67_machine.specs.declared.entry.Performed.{Performed}
use Rattle.b67_machine.specs.declared.reads.End.{End}
use Rattle.b67_machine.specs.Kept.{MachineModel}
use Rattle.b67_machine.specs.Reads.{machine_end, end_shown, shown_end}
use Rattle.b67_machine.specs.declared.entries.Entered.{Entered}
use Rattle.b67_machine.specs.Entries.{stay, go, PerformsEntries}
use Rattle.b67_machine.specs.Entries as machine
use Rattle.b67_machine.specs.Stepping.{MachineActs, Steps, StepsBy, MachineFollows, MachineGoes, MachinePerforms}
use Rattle.b67_action.specs.Able.{able_in}
use Rattle.b67_machine.proofs.Ends as machine_ends
use Rattle.b67_outcomes.specs.Entering.{ProcessEnters, IsProcessNumber, Repeats}
use Rattle.b67_outcomes.proofs.Repeating.{first_may}
use Rattle.b67_outcomes.specs.Entering as entering
use Rattle.b67_explorer.specs.Entries.{entered_by}

-- an entry is performed, or the process comes to the stack limit; nothing is said where neither is so
abbrev EntersAs : Code → ℕ → Image → Done → Image → Type 0
EntersAs code p a dones.Went b = ProcessEnters code p a true b
EntersAs code p a dones.Waits b = ProcessEnters code p a true b
EntersAs code p a dones.Ended b = ProcessEnters code p a true b
EntersAs code p a (dones.Fault kind) b = ProcessEnters code p a true b
EntersAs code p a (dones.Interrupt kind) b = Unit {0}
EntersAs code p a dones.StackLimit b = ProcessEnters code p a false b
EntersAs code p a dones.NoMemory b = Unit {0}

-- which of the two it is
which : (code : Code) (p : ℕ) (a b : Image) (d : Done) (e : Bool) → EntersAs code p a d b → entered_by (Some d) ≡ Some e → ProcessEnters code p a e b
which code p a b dones.Went e x same = subst (λ (z : Bool). ProcessEnters code p a z b) (same_Some true e same) x
which code p a b dones.Waits e x same = subst (λ (z : Bool). ProcessEnters code p a z b) (same_Some true e same) x
which code p a b dones.Ended e x same = subst (λ (z : Bool). ProcessEnters code p a z b) (same_Some true e same) x
which code p a b (dones.Fault kind) e x same = subst (λ (z : Bool). ProcessEnters code p a z b) (same_Some true e same) x
which code p a b (dones.Interrupt kind) e x same = absurd (none-some e same)
which code p a b dones.StackLimit e x same = subst (λ (z : Bool). ProcessEnters code p a z b) (same_Some false e same) x
which code p a b dones.NoMemory e x same = absurd (none-some e same)

module _ (old : MachineModel) (p n : ℕ) (quiet : MachineModel) (may : may_act old.image p ≡ true) (goes : MachineGoes old p n quiet) where
  same_code : quiet.code ≡ old.code
  same_code = ap (λ (k : MachineModel). k.code) goes.others

  entered : (new : Image) → runs.ProcessActs quiet.code p quiet.image new → ProcessEnters old.code p old.image true new
  entered new action =
      (n, record { may = may; quiet = quiet.image; plains = goes.performed; action = subst (λ (c : Code). runs.ProcessActs c p quiet.image new) same_code action })

  gone : (new acted : Image) → plain quiet.code quiet.image p ≡ false → table quiet.code quiet.image p ≡ gives acted → new ≡ acted → ProcessEnters old.code p old.image true new
  gone new acted e t same = entered new (subst (λ (x : Image). runs.ProcessActs quiet.code p quiet.image x) (sym same) (acts e t))

  failing : (new acted : Image) (kind : FaultKind) → table quiet.code quiet.image p ≡ faults kind → acted ≡ quiet.image → new ≡ failed acted p kind
      → ProcessEnters old.code p old.image true new
  failing new acted kind t left same =
      entered new (subst (λ (x : Image). runs.ProcessActs quiet.code p quiet.image x) (sym (same ∙ ap (λ (x : Image). failed x p kind) left)) (fails kind t))

  by_act : (d : Done) (new : MachineModel) → plain quiet.code quiet.image p ≡ false → MachineActs quiet p d new → EntersAs old.code p old.image d new.image
  unfolding failed
  by_act dones.Went new e a = gone new.image a.acted e a.came.0 a.image
  by_act dones.Waits new e a = gone new.image a.acted e a.came.0 a.image
  by_act dones.Ended new e a = gone new.image a.acted e a.came.0 a.image
  by_act (dones.Fault kind) new e a = failing new.image a.acted kind a.came.0 a.came.1 a.image
  by_act (dones.Interrupt kind) new e a = tt
  by_act dones.StackLimit new e a =
      subst (λ (x : Image). ProcessEnters old.code p old.image false x) (sym (a.image ∙ a.came.1))
      (record { count = n; plains = goes.performed; at_limit = subst (λ (c : Code). table c quiet.image p ≡ limit) same_code a.came.0 })
  by_act dones.NoMemory new e a = tt

  by_step : (b : Bool) (d : Done) (new : MachineModel) → plain quiet.code quiet.image p ≡ false → StepsBy b quiet p d new → EntersAs old.code p old.image d new.image
  by_step true d new e s = subst (λ (x : Done). EntersAs old.code p old.image x new.image) (sym s.0) tt
  by_step false d new e s = by_act d new e s

  by_follow : (most : ℕ) (o : Option Done) (new : MachineModel) (b : Bool) → MachineFollows quiet p n most o new → entered_by o ≡ Some b → ProcessEnters old.code p old.image b new.image
  by_follow most None new b f e = absurd (none-some b e)
  by_follow most (Some d) new b f e = which old.code p old.image new.image d b (by_step quiet.lacked d new f.1 f.2) e

pub entered_as : (old : MachineModel) (p most : ℕ) (performed : Performed) (new : MachineModel) (b : Bool) → may_act old.image p ≡ true → MachinePerforms old p most performed new
    → entered_by performed.done ≡ Some b → ProcessEnters old.code p old.image b new.image
entered_as old p most performed new b may k e = by_follow old p performed.plain k.between may k.plains most performed.done new b k.then e

-- ---- entries one after another

-- a process that is able may act where the machine has no end
may_in : (m : MachineModel) (p : ℕ) → machine_end m ≡ None → able_in m.image p ≡ true → may_act m.image p ≡ true
unfolding may_act
may_in m p going able = ap (λ (o : Option ImageEnd). goes_on o (is_able (numbered m.image.states p))) (machine_ends.goes_on m going).end ∙ able

code_by : (old : MachineModel) (p : ℕ) (done : Done) (new : MachineModel) → Steps old p done new → new.code ≡ old.code
code_by old p done new s = by old.lacked s
  where
    by : (b : Bool) → StepsBy b old p done new → new.code ≡ old.code
    by true x = ap (λ (k : MachineModel). k.code) x.1
    by false x = x.code

-- an entry leaves the code
pub performed_code : (old : MachineModel) (p most : ℕ) (performed : Performed) (new : MachineModel) → may_act old.image p ≡ true → MachinePerforms old p most performed new → new.code ≡ old.code
performed_code old p most performed new may k = by performed.done k.then ∙ same_code old p performed.plain k.between may k.plains
  where
    by : (o : Option Done) → MachineFollows k.between p performed.plain most o new → new.code ≡ k.between.code
    by None f = ap (λ (x : MachineModel). x.code) f.1
    by (Some d) f = code_by k.between p d new f.2

-- the process has performed so many entries of the code, and may act again
pub record Repeated (p k : ℕ) (old new : MachineModel) : Type 0 where
  pub code : new.code ≡ old.code
  pub may : may_act new.image p ≡ true
  pub entered : Repeats old.code p k old.image new.image

-- those that went on
pub repeated : (p most : ℕ) (old new : MachineModel) (letters : List Letter) (operators : ℕ) → may_act old.image p ≡ true → machine.EntriesFollow p most old letters operators new
    → Repeated p (length letters) old new
repeated p most old new letters operators may stay = record { code = refl; may = may; entered = entering.none }
repeated p most old new letters operators may (go {b = b} {ls = ls} {l = l} {m = m} {k = k} enters more) =
    let before = repeated p most old b ls m may enters in
    let e = entered_as b p (most - m) (record { plain = k; done = Some dones.Went }) new true before.may more.performs refl in
    let same = before.code in
    let size : suc (length ls) ≡ length (ls ++ l ∷ []) = omega (arith, length_push ls l) in
    record {
      code = performed_code b p (most - m) (record { plain = k; done = Some dones.Went }) new before.may more.performs ∙ same;
      may = may_in new p more.ends more.still;
      entered = subst (λ (z : ℕ). Repeats old.code p z old.image new.image) size
          (entering.again before.entered (subst (λ (c : Code). RunEntry c p b.image e.0 new.image) same e.1));
    }

-- and one more
pub repeated_all : (p most : ℕ) (old new : MachineModel) (entered : Entered) (letters : List Letter) → may_act old.image p ≡ true
    → PerformsEntries old p most entered letters new → entered_by entered.last.done ≡ Some true → Repeats old.code p (entered.entries + 1) old.image new.image
repeated_all p most old new entered letters may k is =
    let few = k.few in
    let before = repeated p most old k.between (take entered.entries letters) entered.operators may k.enters in
    let e = entered_as k.between p (most - entered.operators) entered.last new true before.may k.performs is in
    let size : suc (length (take entered.entries letters)) ≡ entered.entries + 1 = omega (arith, few, length-take-le entered.entries letters (omega (arith, few))) in
    subst (λ (z : ℕ). Repeats old.code p z old.image new.image) size
    (entering.again before.entered (subst (λ (c : Code). RunEntry c p k.between.image e.0 new.image) before.code e.1))

pub repeated_code : (p most : ℕ) (old new : MachineModel) (entered : Entered) (letters : List Letter) → may_act old.image p ≡ true
    → PerformsEntries old p most entered letters new → new.code ≡ old.code
repeated_code p most old new entered letters may k =
    let before = repeated p most old k.between (take entered.entries letters) entered.operators may k.enters in
    performed_code k.between p (most - entered.operators) entered.last new before.may k.performs ∙ before.code

-- the number of a process that has an entry
pub repeats_number : (code : Code) (p k last : ℕ) (a b : Image) → 1 ≤ k → Repeats code p k a b → last < 2 ^ 16
    → ((q : ℕ) → may_act a q ≡ true → (1 ≤ q) × (q ≤ last)) → IsProcessNumber p
repeats_number code p k last a b some r few all = let one = all p (first_may code p k a b some r) in (one.0, omega (arith, one.1, few))

-- a process may act where the image has no end and it is able
pub may_then : (img : Image) (p : ℕ) (end : Option End) (none able : Bool) → is_some end ≡ not none → none ≡ true → end ≡ shown_end (image_end img)
    → able ≡ is_able (numbered img.states p) → able ≡ may_act img p
unfolding may_act
may_then img p end none able told going e same = by (image_end img) end none e told going
  where
    by : (o : Option ImageEnd) (x : Option End) (b : Bool) → x ≡ shown_end o → is_some x ≡ not b → b ≡ true → able ≡ goes_on o (is_able (numbered img.states p))
    by None x b f t y = same
    by (Some i) (Some x) true f t y = absurd (true≢false t)
    by (Some i) (Some x) false f t y = absurd (true≢false (sym y))
    by (Some i) None b f t y = absurd (none-some (end_shown i) f)

-- and nowhere else
pub may_else : (img : Image) (p : ℕ) (end : Option End) (none : Bool) → is_some end ≡ not none → none ≡ false → end ≡ shown_end (image_end img) → none ≡ may_act img p
unfolding may_act
may_else img p end none told no_end e = by (image_end img) end none e told no_end
  where
    by : (o : Option ImageEnd) (x : Option End) (b : Bool) → x ≡ shown_end o → is_some x ≡ not b → b ≡ false → b ≡ goes_on o (is_able (numbered img.states p))
    by (Some i) x b f t y = y
    by None None true f t y = absurd (true≢false y)
    by None None false f t y = absurd (true≢false (sym t))
    by None (Some x) b f t y = absurd (none-some x (sym f))

pub segments_short : (code : Code) → IsListable code → All (λ (segment : Segment). length segment.words ≤ MOST_SEGMENT_WORDS) code.segments
segments_short code listable = λ k first inside. (listable.segments k first inside).1.few
