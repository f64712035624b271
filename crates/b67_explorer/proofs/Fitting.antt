-- Entries on a machine that has room for them: each has few operators, and is performed, comes to the stack limit or finds no memory.
use Rattle.std.proofs.Common.{◌≡◌, refl, sym, ap, subst, ◌∙◌, ℕ, zero, suc, ◌+◌, ◌*◌, ◌-◌, ◌^◌, ◌<◌, ◌≤◌, List, [], ◌∷◌, ◌++◌, length, take, get_or, reverse, Bool, true, false, true≢false, Option, Some, None, arith}
use Rattle.std.specs.Prelude.{slice_get, replicate}
use Rattle.std.specs.List.{All}
use Rattle.std.proofs.Math.Decide.{ℕ_discrete}
use Rattle.std.proofs.lemmas.List.{length_push, length-take-le}
use Rattle.std.proofs.lemmas.Option.{same_Some, none-some, slice_get-get_or, slice_get_within}
use Rattle.b67_list.specs.Numbered.{numbered}
use Rattle.b67_control.specs.declared.Registers.{Registers}
use Rattle.b67_deeds.specs.declared.Letter.{Letter}
use Rattle.b67_ops.specs.declared.TheConstants.{MOST_LEVEL}
use Rattle.b67_segment.specs.declared.TheConstants.{MOST_SEGMENT_WORDS}
use Rattle.b67_segment.specs.declared.code.Code.{Code}
use Rattle.b67_segment.specs.declared.code.Segment.{Segment}
use Rattle.b67_store.specs.Store.{stack_limit}
use Rattle.b67_table.specs.declared.ProcessState.{ProcessState}
use Rattle.b67_table.specs.Ending.{ImageEnd, image_end, goes_on, may_act}
use Rattle.b67_table.specs.Image.{Image, is_able}
use Rattle.b67_table.specs.Limits.{segment_limit}
use Rattle.b67_table.specs.Outcome.{interrupts}
use Rattle.b67_table.specs.Runs.{Plains, RunEntry}
use Rattle.b67_table.specs.Sound.{Sound}
use Rattle.b67_table.specs.Table.{table, length_in}
use Rattle.b67_table.specs.Valid.{IsValid}
use Rattle.b67_table.proofs.FirstValid.{first_is_valid}
use Rattle.b67_table.proofs.Waking.{able_live}
use Rattle.b67_table.proofs.Cited.{may_able}
use Rattle.b67_cores.specs.Cores.{size}
use Rattle.b67_cores.proofs.Counting.{plains_few}
use Rattle.b67_cores.proofs.Having.{valid_images_have_cores}
use Rattle.b67_action.specs.declared.done.Done.{Done}
use Rattle.b67_action.specs.declared.done.Done.TheVariants as dones
use Rattle.b67_machine.specs.declared.entries.Entered.{Entered}
use Rattle.b67_machine.specs.declared.entry.Performed.{Performed}
use Rattle.b67_machine.specs.declared.reads.End.{End}
use Rattle.b67_machine.specs.declared.reads.End.TheVariants as ends
use Rattle.b67_machine.specs.Beginning.{IsFresh}
use Rattle.b67_machine.specs.Entries.{EntriesFollow, stay, go, PerformsEntries}
use Rattle.b67_machine.specs.Kept.{MachineModel, operators_counted}
use Rattle.b67_machine.specs.Reads.{machine_end, machine_end_by, limit_end}
use Rattle.b67_machine.specs.Replaying.{tails_of}
use Rattle.b67_machine.specs.Stepping.{limit_of, operators_in, MachineActs, MachineFollows, MachinePerforms, Steps, StepsBy}
use Rattle.b67_machine.proofs.Ends.{same_end, no_end}
use Rattle.b67_machine.proofs.Plainly.{live_there}
use Rattle.b67_machine.proofs.Tailing.{tail_of_next}
use Rattle.b67_outcomes.specs.declared.found.TheConstants.{MOST_ENTRIES}
use Rattle.b67_outcomes.specs.Entering.{IsReached, ProcessEnters, Repeats, again, none}
use Rattle.b67_outcomes.proofs.Determined.{no_entry}
use Rattle.b67_outcomes.proofs.Repeating.{led_repeats, left_over}
use Rattle.b67_explorer.specs.Entries.{entered_by, most_operators, EntriesFit, HasCome, IsAtLimit, IsLimitEnd}
use Rattle.b67_explorer.proofs.Performed.{entered_as, repeated}

-- ---- plain operators

segments_few : (code : Code) (img : Image) → IsValid code img → (k : ℕ) (s : Segment) → slice_get code.segments k ≡ Some s
    → 6 * length s.words ≤ 6 * MOST_SEGMENT_WORDS
segments_few code img v k s there =
    let within = slice_get_within code.segments k s there in
    let same : get_or code.segments k s ≡ s = same_Some (get_or code.segments k s) s (sym (slice_get-get_or code.segments k s within) ∙ there) in
    let few : length s.words ≤ segment_limit = subst (λ (z : Segment). length z.words ≤ segment_limit) same (v.segments k s within) in
    omega (arith, few)

-- before an action a process has no more than its segment has syllables
plains_short : (code : Code) (img quiet : Image) (p n : ℕ) → IsValid code img → is_able (numbered img.states p) ≡ true → Plains code p img n quiet
    → n ≤ 6 * MOST_SEGMENT_WORDS
plains_short code img quiet p n v able plains =
    let live = able_live (numbered img.states p) able in
    let has = live_there code img p v live in
    let one = valid_images_have_cores code img p has.0 v live has.1 in
    let process = v.processes p has.0 live has.1 in
    let room = process.room in
    let known = process.display.known in
    let top = one.has.is.top in
    let small : size one.core ≤ stack_limit = omega (arith, room, top, ap (λ (r : Registers). r.s) one.registers) in
    let level : one.core.registers.ll ≤ MOST_LEVEL = omega (arith, known, ap (λ (r : Registers). r.ll) one.registers) in
    (plains_few code (6 * MOST_SEGMENT_WORDS) (segments_few code img v) p n img quiet one.core one.has small level plains).0

-- ---- an end

pub goes_there : (img : Image) (p : ℕ) → may_act img p ≡ true → image_end img ≡ None
unfolding may_act
goes_there img p e = by (image_end img) e
  where
    by : (o : Option ImageEnd) → goes_on o (is_able (numbered img.states p)) ≡ true → o ≡ None
    by None f = refl
    by (Some x) f = absurd (true≢false (sym f))

-- a machine with room, on which a process may act, has none
pub has_no_end : (m : MachineModel) (p more : ℕ) → may_act m.image p ≡ true → EntriesFit m more → machine_end m ≡ None
has_no_end m p more may fit = no_end m (goes_there m.image p may) fit.limit

-- at the stack limit it is that, with the words of the process's stack
pub limit_words : (m : MachineModel) (p : ℕ) → IsAtLimit m p → machine_end m ≡ Some (ends.StackLimit p (length_in (numbered m.image.regs p)))
limit_words m p at = ap (λ (o : Option ImageEnd). machine_end_by o m) at.goes ∙ ap (λ (o : Option ℕ). limit_end o m.image.regs) at.limit

pub limit_is : (m : MachineModel) (p : ℕ) (end : Option End) → end ≡ machine_end m → IsAtLimit m p → IsLimitEnd end
limit_is m p end e at = subst (λ (o : Option End). IsLimitEnd o) (sym (e ∙ limit_words m p at)) tt

-- ---- an entry

module _ (old : MachineModel) (p most : ℕ) (performed : Performed) (new : MachineModel) (valid : IsValid old.code old.image) (may : may_act old.image p ≡ true)
    (k : MachinePerforms old p most performed new) where
  able : is_able (numbered old.image.states p) ≡ true
  able = may_able old.image p may

  pub few : performed.plain ≤ 6 * MOST_SEGMENT_WORDS
  few = plains_short old.code old.image k.between.image p performed.plain valid able k.plains.performed

  quiet_end : image_end k.between.image ≡ None
  quiet_end = same_end old.image k.between.image k.plains.states k.plains.fault ∙ goes_there old.image p may

  quiet_able : is_able (numbered k.between.image.states p) ≡ true
  quiet_able = ap (λ (ss : List ProcessState). is_able (numbered ss p)) k.plains.states ∙ able

  acts_by : (d : Done) → (d ≡ dones.NoMemory → ⊥) → Steps k.between p d new → MachineActs k.between p d new
  acts_by d other s = by k.between.lacked s
    where
      by : (b : Bool) → StepsBy b k.between p d new → MachineActs k.between p d new
      by true x = absurd (other x.0)
      by false x = x

  -- no operator is ill-tagged, and an action comes
  pub come : Sound old.code → IsReached old.code old.image → 1 ≤ p → 6 * MOST_SEGMENT_WORDS < most → HasCome performed.done
  come sound reached one less = by performed.done k.then
    where
      by : (o : Option Done) → MachineFollows k.between p performed.plain most o new → HasCome o
      by None f = let all = f.0 in absurd (omega (arith, few, all, less))
      by (Some dones.Went) f = tt
      by (Some dones.Waits) f = tt
      by (Some dones.Ended) f = tt
      by (Some (dones.Fault kind)) f = tt
      by (Some (dones.Interrupt kind)) f =
          let a = acts_by (dones.Interrupt kind) (λ e. cc) f.2 in
          sound.tagged (reverse reached.0) (tails_of (p ∷ []) performed.plain) k.between.image
          (record {
            history = reached.0;
            counts = reached.1.0;
            before_tails = old.image;
            order = refl;
            runs = reached.1.1;
            after = tail_of_next old.code p performed.plain [] old.image k.between.image one k.plains.performed;
          })
          quiet_end p quiet_able
          (kind, subst (λ (c : Code). table c k.between.image p ≡ interrupts kind) (ap (λ (m : MachineModel). m.code) k.plains.others) a.came.0)
      by (Some dones.StackLimit) f = tt
      by (Some dones.NoMemory) f = tt

  -- after an entry there is room for the others
  pub fits_after : (more : ℕ) → EntriesFit old (suc more) → IsValid new.code new.image → entered_by performed.done ≡ Some true → EntriesFit new more
  fits_after more fit valid_new entered = by performed.done k.then entered
    where
      product : most_operators * suc more ≡ most_operators + most_operators * more
      product = omega arith

      counted : (d : Done) → operators_in d ≤ 1 → MachineActs k.between p d new → (q : ℕ) → Dec (q ≡ p)
          → operators_counted new.counts q + most_operators * more < 2 ^ 63
      counted d one a q (yes same) =
          let room = fit.counts p in
          let own = a.counts.own in
          let before = k.plains.counts.own in
          subst (λ (z : ℕ). operators_counted new.counts z + most_operators * more < 2 ^ 63) (sym same) (omega (arith, room, own, before, one, few, product))
      counted d one a q (no other) =
          let room = fit.counts q in
          let own = a.counts.others q other in
          let before = k.plains.counts.others q other in
          omega (arith, room, own, before, product)

      on : (d : Done) → operators_in d ≤ 1 → limit_of p d ≡ None → MachineActs k.between p d new → EntriesFit new more
      on d one none_limit a = record { limit = a.limit ∙ none_limit; valid = valid_new; counts = λ q. counted d one a q (ℕ_discrete q p) }

      by : (o : Option Done) → MachineFollows k.between p performed.plain most o new → entered_by o ≡ Some true → EntriesFit new more
      by None f e = absurd (none-some true e)
      by (Some dones.Went) f e = on dones.Went (omega arith) refl (acts_by dones.Went (λ x. cc) f.2)
      by (Some dones.Waits) f e = on dones.Waits (omega arith) refl (acts_by dones.Waits (λ x. cc) f.2)
      by (Some dones.Ended) f e = on dones.Ended (omega arith) refl (acts_by dones.Ended (λ x. cc) f.2)
      by (Some (dones.Fault kind)) f e = on (dones.Fault kind) (omega arith) refl (acts_by (dones.Fault kind) (λ x. cc) f.2)
      by (Some (dones.Interrupt kind)) f e = absurd (none-some true e)
      by (Some dones.StackLimit) f e = absurd (true≢false (sym (same_Some false true e)))
      by (Some dones.NoMemory) f e = absurd (none-some true e)

  -- where none was performed the machine is at the stack limit
  pub limit_after : entered_by performed.done ≡ Some false → IsAtLimit new p
  limit_after entered = by performed.done k.then entered
    where
      by : (o : Option Done) → MachineFollows k.between p performed.plain most o new → entered_by o ≡ Some false → IsAtLimit new p
      by None f e = absurd (none-some false e)
      by (Some dones.Went) f e = absurd (true≢false (same_Some true false e))
      by (Some dones.Waits) f e = absurd (true≢false (same_Some true false e))
      by (Some dones.Ended) f e = absurd (true≢false (same_Some true false e))
      by (Some (dones.Fault kind)) f e = absurd (true≢false (same_Some true false e))
      by (Some (dones.Interrupt kind)) f e = absurd (none-some false e)
      by (Some dones.StackLimit) f e =
          let a = acts_by dones.StackLimit (λ x. cc) f.2 in
          record { limit = a.limit; goes = subst (λ (i : Image). image_end i ≡ None) (sym (a.image ∙ a.came.1)) quiet_end }
      by (Some dones.NoMemory) f e = absurd (none-some false e)

-- ---- entries one after another

-- each of them has room, and few operators
pub record HasFollowed (ls operators more : ℕ) (new : MachineModel) : Type 0 where
  pub fits : EntriesFit new more
  pub few : operators ≤ most_operators * ls

follow : (p most : ℕ) (old new : MachineModel) (ls : List Letter) (operators more : ℕ) → may_act old.image p ≡ true → EntriesFit old (length ls + more)
    → EntriesFollow p most old ls operators new → HasFollowed (length ls) operators more new
follow p most old new ls operators more may fit stay =
    let same : 0 + more ≡ more = omega arith in record { fits = subst (λ (n : ℕ). EntriesFit old n) same fit; few = omega arith }
follow p most old new ls operators more may fit (go {b = b} {ls = first} {l = l} {m = m} {k = k} enters last) =
    let size = length_push first l in
    let split : length (first ++ l ∷ []) + more ≡ length first + suc more = omega (arith, size) in
    let before = follow p most old b first m (suc more) may (subst (λ (n : ℕ). EntriesFit old n) split fit) enters in
    let r = repeated p most old b first m may enters in
    let performed : Performed = record { plain = k; done = Some dones.Went } in
    let own = few b p (most - m) performed new before.fits.valid r.may last.performs in
    let others = before.few in
    let product : most_operators * length (first ++ l ∷ []) ≡ most_operators * length first + most_operators = omega (arith, size) in
    record {
      fits = fits_after b p (most - m) performed new before.fits.valid r.may last.performs more before.fits last.valid refl;
      few = omega (arith, own, others, product);
    }

first_of : (code : Code) (p k : ℕ) (a c : Image) → 1 ≤ k → Repeats code p k a c → (n : ℕ) × (b : Image) × RunEntry code p a n b
first_of code p k a c some none = absurd (omega (arith, some))
first_of code p k a c some (again {k = zero} {n = n} none e) = (n, c, e)
first_of code p k a c some (again {k = suc j} {b = b} r e) = first_of code p (suc j) a b (omega arith) r

module _ (old : MachineModel) (p most : ℕ) (entered : Entered) (letters : List Letter) (new : MachineModel) (may : may_act old.image p ≡ true)
    (k : PerformsEntries old p most entered letters new) where
  taken : length (take entered.entries letters) ≡ entered.entries
  taken = let few = k.few in length-take-le entered.entries letters (omega (arith, few))

  before : (more : ℕ) → EntriesFit old (entered.entries + 1 + more) → HasFollowed (length (take entered.entries letters)) entered.operators (suc more) k.between
  before more fit =
      let split : entered.entries + 1 + more ≡ length (take entered.entries letters) + suc more = omega (arith, taken) in
      follow p most old k.between (take entered.entries letters) entered.operators (suc more) may (subst (λ (n : ℕ). EntriesFit old n) split fit) k.enters

  -- what the last one comes to
  pub last_come : (more : ℕ) → EntriesFit old (entered.entries + 1 + more) → Sound old.code → IsReached old.code old.image → 1 ≤ p
      → entered.entries < 256 → 20000000 < most → HasCome entered.last.done
  last_come more fit sound reached one some room =
      let b = before more fit in
      let r = repeated p most old k.between (take entered.entries letters) entered.operators may k.enters in
      let few = b.few in
      let product : most_operators * length (take entered.entries letters) ≡ most_operators * entered.entries = ap (λ (n : ℕ). most_operators * n) taken in
      come k.between p (most - entered.operators) entered.last new b.fits.valid r.may k.performs (subst (λ (c : Code). Sound c) (sym r.code) sound)
      (subst (λ (c : Code). IsReached c k.between.image) (sym r.code) (
        replicate (length (take entered.entries letters)) p ++ reached.0,
        led_repeats old.code p (length (take entered.entries letters)) reached.0 old.image k.between.image reached.1 r.entered,
      ))
      one (omega (arith, few, product, some, room))

  -- it is performed, where there are so many
  pub last_goes : (all : ℕ) (img : Image) → entered.entries < all → Repeats old.code p all old.image img → entered_by entered.last.done ≡ Some false → ⊥
  last_goes all img less has limit =
      let r = repeated p most old k.between (take entered.entries letters) entered.operators may k.enters in
      let left = left_over old.code p (length (take entered.entries letters)) all old.image k.between.image img (omega (arith, taken, less)) has r.entered in
      let first = first_of old.code p (all - length (take entered.entries letters)) k.between.image img (omega (arith, taken, less)) left in
      let stops = entered_as k.between p (most - entered.operators) entered.last new false r.may k.performs limit in
      no_entry old.code p k.between.image new.image first.1 first.0 ⊥
      (subst (λ (c : Code). ProcessEnters c p k.between.image false new.image) r.code stops) first.2

  -- and leaves room for the others
  pub fits_all : (more : ℕ) → EntriesFit old (entered.entries + 1 + more) → IsValid new.code new.image → entered_by entered.last.done ≡ Some true
      → EntriesFit new more
  fits_all more fit valid_new went =
      let b = before more fit in
      let r = repeated p most old k.between (take entered.entries letters) entered.operators may k.enters in
      fits_after k.between p (most - entered.operators) entered.last new b.fits.valid r.may k.performs more b.fits valid_new went

-- ---- the first

pub fits_fresh : (m : MachineModel) → All (λ (s : Segment). length s.words ≤ MOST_SEGMENT_WORDS) m.code.segments → IsFresh m → EntriesFit m MOST_ENTRIES
fits_fresh m segments fresh =
    record {
      limit = fresh.limit;
      valid = subst (λ (i : Image). IsValid m.code i) (sym fresh.image) (first_is_valid m.code segments);
      counts = λ p. let counted = fresh.counts p in omega (arith, counted);
    }
