-- What a change of a process's own stack and registers performs, and what calls on its stack answer.
use Rattle.std.specs.Result.{IsOk}
use Rattle.std.proofs.Common.{◌≡◌, refl, sym, ap, subst, ◌∙◌, ℕ, zero, suc, ◌+◌, ◌-◌, ◌<◌, ◌≤◌, Bool, true, false, List, [], ◌∷◌, ◌++◌, length, take, Option, Some, IsSome, is_some, Result, Ok, Err, is_ok, IfErr, set, pos, cond, arith}
use Rattle.std.specs.Prelude.{nat_le}
use Rattle.std.proofs.lemmas.Bool.{le-leb}
use Rattle.std.proofs.lemmas.Option.{slice_get-get_or}
use Rattle.b67_list.specs.Numbered.{numbered, set_numbered}
use Rattle.b67_word.specs.Word.{Word, operand}
use Rattle.b67_word.proofs.Cited.{one_longer}
use Rattle.b67_control.specs.declared.Registers.{Registers}
use Rattle.b67_control.specs.declared.Pcw.{Pcw}
use Rattle.b67_store.specs.declared.NoSuchPlace.{NoSuchPlace}
use Rattle.b67_store.specs.declared.PushFault.{PushFault}
use Rattle.b67_store.specs.declared.PushFault.TheVariants as push
use Rattle.b67_store.specs.Store.{Stacks, Rows, stack_at, words_of, words_or, word_at, with_word, with_push, with_cut, stack_limit, PushFails}
use Rattle.b67_store.proofs.StoreLaws.{changed_here}
use Rattle.b67_table.specs.declared.Entry.{Entry}
use Rattle.b67_table.specs.Chains.{place}
use Rattle.b67_table.specs.Effect as effects
use Rattle.b67_table.specs.Image.{Image, with_stacks, with_registers}
use Rattle.b67_table.specs.Linkage.{control_word, entered, entered_mark, selected}
use Rattle.b67_table.specs.Moves.{pushed}
use Rattle.b67_table.specs.Outcome.{gives, limit, limited}
use Rattle.b67_table.specs.Program.{Change, answer, changed, cut, push, registers, done}
use Rattle.b67_table.specs.Program as program
use Rattle.b67_table.specs.Table.{length_in, stack_length}
use Rattle.b67_table.proofs.Lists.{numbered_set, numbered_within, numbered_from}
use Rattle.b67_reach.specs.Images.{own_of_image}
use Rattle.b67_reach.specs.Answers.{ProgramPerforms}
use Rattle.b67_operators.specs.Entries.{accident, entry_opening}
use Rattle.b67_operators.specs.Stages.{finished}

-- ---- what calls on a stack answer

-- a stack is open, and has no more than so many words
pub record Reaches (st : Stacks) (n k : ℕ) : Type 0 where
  pub opened : IsSome (stack_at st n)
  pub within : length (words_of st n) ≤ k

take_within : (k : ℕ) (ws : List Word) → length (take k ws) ≤ k
take_within zero ws = omega arith
take_within (suc k) [] = omega arith
take_within (suc k) (w ∷ ws) = omega (arith, take_within k ws)

-- what a call that answers Ok left
pub when_ok : {A E S : Type 0} (r : Result A E) (u : A) (new a b : S) → r ≡ Ok u → new ≡ cond (is_ok r) a b → new ≡ a
when_ok r u new a b e f = f ∙ ap (λ (z : Result _ _). cond (is_ok z) a b) e

stands : (st new : Stacks) (n : ℕ) (ws : List Word) → IsSome (stack_at st n) → new ≡ set st n (Some ws) → stack_at new n ≡ Some ws
stands st new n ws there e = ap (λ (z : Stacks). stack_at z n) e ∙ changed_here st n ws there

pub cut_reaches : (st new : Stacks) (n k : ℕ) (r : Result (Unit {0}) NoSuchPlace) (u : Unit {0}) → IsSome (stack_at st n) → r ≡ Ok u
    → new ≡ cond (is_ok r) (with_cut st n k) st → Reaches new n k
cut_reaches st new n k r u there e f =
    let is : stack_at new n ≡ Some (take k (words_of st n)) = stands st new n (take k (words_of st n)) there (when_ok r u new (with_cut st n k) st e f) in
    record { opened = ap is_some is; within = omega (arith, ap (λ (o : Option (List Word)). length (words_or o)) is, take_within k (words_of st n)) }

pub push_reaches : (st new : Stacks) (n k : ℕ) (w : Word) (r : Result (Unit {0}) PushFault) (u : Unit {0}) → Reaches st n k → r ≡ Ok u
    → new ≡ cond (is_ok r) (with_push st n w) st → Reaches new n (k + 1)
push_reaches st new n k w r u h e f =
    let is : stack_at new n ≡ Some (words_of st n ++ w ∷ []) = stands st new n (words_of st n ++ w ∷ []) h.opened (when_ok r u new (with_push st n w) st e f) in
    record { opened = ap is_some is; within = omega (arith, ap (λ (o : Option (List Word)). length (words_or o)) is, one_longer (words_of st n) w, h.within) }

pub push_goes : (st : Stacks) (n k : ℕ) (r : Result (Unit {0}) PushFault) → Reaches st n k → k < stack_limit → IfErr r (PushFails st n) → IsOk r
push_goes st n k (Ok u) h low f = refl
push_goes st n k (Err push.NoSuchPlace) h low f =
    let no : false ≡ true = sym (ap is_some f) ∙ h.opened in
    absurd cc
push_goes st n k (Err push.StackLimit) h low f = absurd (omega (arith, h.within, low, f.1))

-- the word at a place below the top is there
pub there_below : (st : Stacks) (n at : ℕ) → at < length (words_of st n) → is_some (word_at st (place n at)) ≡ true
there_below st n at low = ap is_some (slice_get-get_or (words_of st n) at (record { tag = 0; bits = 0 }) low)

-- ---- what a change performs

-- a change that makes these stacks of the stacks, and no other but the registers, performs that
pub performs_change : (change : Change) (f : Stacks → Stacks) (st new : Stacks) (rows more : Rows) (r q : Registers)
    → ((p : ℕ) (img : Image) → changed p change img ≡ with_registers (with_stacks img (f img.stacks)) p q) → q.s ≤ stack_limit → new ≡ f st → more ≡ rows
    → ProgramPerforms {A = Unit {0}} (answer change) (own_of_image st rows r) (own_of_image new more q) (Ok tt)
performs_change change f st new rows more r q is room e d = record {
  outcome = λ p img s t u.
      let regs = set_numbered img.regs p q in
      let after : Image = record img { stacks = f img.stacks; regs = regs } in
      let there : numbered regs p ≡ Some q = numbered_set img.regs p q (numbered_from img.regs p r u) (numbered_within img.regs p r u) in
      ap (λ (i : Image). limited (stack_length p) (effects.gives i)) (is p img)
      ∙ ap (λ (n : ℕ). cond (nat_le n stack_limit) (gives after) limit) (ap length_in there)
      ∙ ap (λ (b : Bool). cond b (gives after) limit) (le-leb q.s stack_limit room)
      ∙ ap (λ (z : Stacks). gives (record img { stacks = f z; regs = regs })) s
      ∙ ap (λ (z : Stacks). gives (record img { stacks = z; regs = regs })) (sym e)
      ∙ ap (λ (z : Rows). gives (record img { stacks = new; rows = z; regs = regs })) (t ∙ sym d);
  stays = tt;
}

-- ---- accidental entry

module _ (r : Registers) (next mark : ℕ) (pcw : Pcw) (e : Entry) (selector : ℕ) where
  abbrev change : Bool → Change
  change names =
      cut r.stack mark (program.push r.stack (entered_mark e.home (mark - r.f)) (program.push r.stack (control_word r next pcw.level)
      (pushed r.stack (selected names selector) (registers (entered r (mark + 2 + length (selected names selector)) mark pcw e 0) done))))

  abbrev pub framed : Stacks → Stacks
  framed st = with_push (with_push (with_cut st r.stack mark) r.stack (entered_mark e.home (mark - r.f))) r.stack (control_word r next pcw.level)

  pub is_framed : (st once twice new : Stacks) (k : ℕ) (m w : Word) → k ≡ mark → m ≡ entered_mark e.home (mark - r.f) → w ≡ control_word r next pcw.level
      → once ≡ with_cut st r.stack k → twice ≡ with_push once r.stack m → new ≡ with_push twice r.stack w → new ≡ framed st
  is_framed st once twice new k m w k_is m_is w_is a b d =
      d ∙ ap (λ (z : Word). with_push twice r.stack z) w_is
      ∙ ap (λ (z : Stacks). with_push z r.stack (control_word r next pcw.level))
      (b ∙ ap (λ (z : Word). with_push once r.stack z) m_is
      ∙ ap (λ (z : Stacks). with_push z r.stack (entered_mark e.home (mark - r.f))) (a ∙ ap (λ (n : ℕ). with_cut st r.stack n) k_is))

  pub accident_plain : (st new : Stacks) (rows more : Rows) → pcw.names ≡ false → mark + 2 + 0 ≤ stack_limit → new ≡ framed st → more ≡ rows
      → ProgramPerforms {A = Unit {0}} (answer (accident r next mark pcw e selector)) (own_of_image st rows r) (own_of_image new more (entered r (mark + 2 + 0) mark pcw e 0)) (Ok tt)
  accident_plain st new rows more plain room a b =
      subst (λ (names : Bool). ProgramPerforms {A = Unit {0}} (answer (change names)) (own_of_image st rows r) (own_of_image new more (entered r (mark + 2 + 0) mark pcw e 0)) (Ok tt)) (sym plain)
      (performs_change (change false) framed st new rows more r (entered r (mark + 2 + 0) mark pcw e 0) (λ p img. refl) room a b)

  pub accident_named : (st new : Stacks) (rows more : Rows) → pcw.names ≡ true → mark + 2 + 1 ≤ stack_limit
      → new ≡ with_push (framed st) r.stack (operand (pos selector)) → more ≡ rows
      → ProgramPerforms {A = Unit {0}} (answer (accident r next mark pcw e selector)) (own_of_image st rows r) (own_of_image new more (entered r (mark + 2 + 1) mark pcw e 0)) (Ok tt)
  accident_named st new rows more named room a b =
      subst (λ (names : Bool). ProgramPerforms {A = Unit {0}} (answer (change names)) (own_of_image st rows r) (own_of_image new more (entered r (mark + 2 + 1) mark pcw e 0)) (Ok tt)) (sym named)
      (performs_change (change true) (λ (z : Stacks). with_push (framed z) r.stack (operand (pos selector))) st new rows more r (entered r (mark + 2 + 1) mark pcw e 0)
      (λ p img. refl) room a b)

-- ---- entry at the mark at F

module _ (r : Registers) (next df : ℕ) (pcw : Pcw) (e : Entry) where
  pub opening_performs : (st once new : Stacks) (rows more : Rows) → r.s ≤ stack_limit → once ≡ with_word st (place r.stack r.f) (entered_mark e.home df)
      → new ≡ with_word once (place r.stack (r.f + 1)) (control_word r next pcw.level) → more ≡ rows
      → ProgramPerforms {A = Unit {0}} (answer (entry_opening r next df pcw e)) (own_of_image st rows r) (own_of_image new more (entered r r.s r.f pcw e (r.s - (r.f + 2)))) (Ok tt)
  opening_performs st once new rows more room a b d =
      performs_change (entry_opening r next df pcw e)
      (λ (z : Stacks). with_word (with_word z (place r.stack r.f) (entered_mark e.home df)) (place r.stack (r.f + 1)) (control_word r next pcw.level))
      st new rows more r (entered r r.s r.f pcw e (r.s - (r.f + 2))) (λ p img. refl) room
      (b ∙ ap (λ (z : Stacks). with_word z (place r.stack (r.f + 1)) (control_word r next pcw.level)) a) d

-- ---- two words are dropped, or one of them stays

module _ (r : Registers) (next : ℕ) (x : Word) where
  pub finished_dropped : (st new : Stacks) (rows more : Rows) → r.s - 2 + 0 ≤ stack_limit → new ≡ with_cut st r.stack (r.s - 2) → more ≡ rows
      → ProgramPerforms {A = Unit {0}} (answer (finished false r next x)) (own_of_image st rows r) (own_of_image new more (record r { s = r.s - 2 + 0; place = next })) (Ok tt)
  finished_dropped st new rows more room a b =
      performs_change (finished false r next x) (λ (z : Stacks). with_cut z r.stack (r.s - 2)) st new rows more r (record r { s = r.s - 2 + 0; place = next })
      (λ p img. refl) room a b

  pub finished_kept : (st new : Stacks) (rows more : Rows) → r.s - 2 + 1 ≤ stack_limit → new ≡ with_push (with_cut st r.stack (r.s - 2)) r.stack x → more ≡ rows
      → ProgramPerforms {A = Unit {0}} (answer (finished true r next x)) (own_of_image st rows r) (own_of_image new more (record r { s = r.s - 2 + 1; place = next })) (Ok tt)
  finished_kept st new rows more room a b =
      performs_change (finished true r next x) (λ (z : Stacks). with_push (with_cut z r.stack (r.s - 2)) r.stack x) st new rows more r (record r { s = r.s - 2 + 1; place = next })
      (λ p img. refl) room a b
