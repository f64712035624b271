-- The tests of ARRAYS, and what comes after them.
use Rattle.std.specs.Result.{IsErrAnd}
use Rattle.std.proofs.Common.{◌≡◌, ◌≢◌, refl, sym, ap, subst, ◌∙◌, ℕ, zero, suc, ◌+◌, ◌<◌, ℤ, Bool, true, false, List, [], ◌∷◌, ◌++◌, length, drop, Option, Some, None, Result, Ok, Err, slice_get, nat_le, arith}
use Rattle.std.specs.Prelude.{map, if◌then◌else◌, ◌==◌, ◌||◌}
use Rattle.std.proofs.lemmas.Bool.{eqb-true}
use Rattle.b67_list.specs.Numbered.{numbered, set_numbered}
use Rattle.b67_word.specs.Word.{Word}
use Rattle.b67_word.proofs.Cited.{one_longer}
use Rattle.b67_control.specs.declared.Descriptor.{Descriptor}
use Rattle.b67_control.specs.declared.Mscw.{Mscw}
use Rattle.b67_control.specs.declared.Registers.{Registers}
use Rattle.b67_control.specs.Control.{descriptor_word}
use Rattle.b67_segment.specs.declared.code.Code.{Code}
use Rattle.b67_store.specs.Store.{Stacks, Rows, stack_limit, least_free, opened_at, zero_row, with_cut, with_row_word}
use Rattle.b67_table.specs.declared.InterruptKind.TheVariants.{InvalidOperand}
use Rattle.b67_table.specs.Arguments.{finished_at, no_such, wholes_in, wholes}
use Rattle.b67_table.specs.Arrays.{Extents, one, two, array_word, array_made, arrays_made, rows_made, if_held}
use Rattle.b67_table.specs.Effect.{Effect}
use Rattle.b67_table.specs.Effect as effects
use Rattle.b67_table.specs.Image.{Image, with_rows, with_stacks}
use Rattle.b67_table.specs.Intrinsics.{Wanted, intrinsic_wanted, arrays, extents}
use Rattle.b67_table.specs.Look.{Look, look_seen, valid, ◌>->◌}
use Rattle.b67_table.specs.Outcome.{gives, limit, limited}
use Rattle.b67_table.specs.Program.{Program, Change, answer, asked, changed, done, registers, see, ◌>>=◌}
use Rattle.b67_table.specs.Table.{length_in, stack_length}
use Rattle.b67_descriptor.specs.declared.DescriptorFault.{DescriptorFault}
use Rattle.b67_descriptor.specs.declared.DescriptorFault.TheVariants as faults
use Rattle.b67_descriptor.specs.declared.sizes.Size.{Size}
use Rattle.b67_descriptor.specs.Sizes.{Sizes, numbers_of_bounds}
use Rattle.b67_descriptor.specs.Arrays.{MakesArrays}
use Rattle.b67_reach.specs.declared.Stop.{Stop}
use Rattle.b67_reach.specs.declared.Stop.TheVariants.{Interrupt, StackLimit}
use Rattle.b67_reach.specs.Answers.{ProgramActs, looked, stopped, whole_outcome}
use Rattle.b67_intrinsics.specs.declared.hindrance.Hindrance.{Hindrance}
use Rattle.b67_intrinsics.specs.declared.hindrance.Hindrance.TheVariants.{Stopped}
use Rattle.b67_intrinsics.specs.Called.{called_in, finished_in, mark_below, IntrinsicLeads, MayLead}
use Rattle.b67_intrinsics.specs.Arrays.{as_order, is_order, order_in, stop_for, array_tests, array_tests_in, pushed_on}
use Rattle.b67_intrinsics.proofs.Pushing.{ends, numbered_set, pushed_is}
use Rattle.b67_intrinsics.proofs.Trying.{leads_then, leads_not, told_look}

-- ---- the numbers

at_most : (n : ℕ) → (n == 3 || n == 5) ≡ true → n < 6
at_most n h = by (n == 3) (n == 5) refl refl h
  where
    by : (b c : Bool) → n == 3 ≡ b → n == 5 ≡ c → (b || c) ≡ true → n < 6
    by true c e f h = omega (arith, eqb-true n 3 e)
    by false true e f h = omega (arith, eqb-true n 5 f)
    by false false e f h = cc

some_same : (a b : ℤ) → Some a ≡ Some b → a ≡ b
some_same a b e = cc

-- ---- what is told

pub sizes_stop : (effect : Effect Extents) (fault : DescriptorFault) → Sizes effect (Err fault) → whole_outcome effect ≡ stopped (stop_for fault)
sizes_stop effect faults.ArraySize e = ap whole_outcome e
sizes_stop effect faults.InvalidOperand e = ap whole_outcome e
sizes_stop effect faults.InvalidIndex e = absurd e
sizes_stop effect faults.CoreFull e = absurd e
sizes_stop effect faults.NoMemory e = absurd e

pub one_bound : (zs : List ℤ) (a b : ℤ) → length zs ≡ 3 → slice_get zs 1 ≡ Some a → slice_get zs 2 ≡ Some b → numbers_of_bounds ((a, b) ∷ []) ≡ drop 1 zs
one_bound [] a b h e f = cc
one_bound (x ∷ []) a b h e f = cc
one_bound (x ∷ y ∷ []) a b h e f = cc
one_bound (x ∷ y ∷ z ∷ []) a b h e f =
    ap (λ (v : ℤ). v ∷ b ∷ []) (sym (some_same y a e)) ∙ ap (λ (v : ℤ). y ∷ v ∷ []) (sym (some_same z b f))
one_bound (x ∷ y ∷ z ∷ v ∷ zs) a b h e f = cc

pub two_bounds : (zs : List ℤ) (a b c d : ℤ) → is_order zs ≡ true → length zs ≢ 3 → slice_get zs 1 ≡ Some a → slice_get zs 2 ≡ Some b → slice_get zs 3 ≡ Some c
    → slice_get zs 4 ≡ Some d → numbers_of_bounds ((a, b) ∷ (c, d) ∷ []) ≡ drop 1 zs
two_bounds [] a b c d o h e f i j = cc
two_bounds (x ∷ []) a b c d o h e f i j = cc
two_bounds (x ∷ y ∷ []) a b c d o h e f i j = cc
two_bounds (x ∷ y ∷ z ∷ []) a b c d o h e f i j = absurd (h refl)
two_bounds (x ∷ y ∷ z ∷ u ∷ []) a b c d o h e f i j = cc
two_bounds (x ∷ y ∷ z ∷ u ∷ v ∷ []) a b c d o h e f i j =
    ap (λ (n : ℤ). n ∷ b ∷ c ∷ d ∷ []) (sym (some_same y a e)) ∙ ap (λ (n : ℤ). y ∷ n ∷ c ∷ d ∷ []) (sym (some_same z b f))
    ∙ ap (λ (n : ℤ). y ∷ z ∷ n ∷ d ∷ []) (sym (some_same u c i)) ∙ ap (λ (n : ℤ). y ∷ z ∷ u ∷ n ∷ []) (sym (some_same v d j))
two_bounds (x ∷ y ∷ z ∷ u ∷ v ∷ w ∷ zs) a b c d o h e f i j = absurd (omega (arith, at_most (length (x ∷ y ∷ z ∷ u ∷ v ∷ w ∷ zs)) o))

-- ---- the tests

abbrev look_order : List Word → Look Wanted
look_order words = wholes words >-> intrinsic_wanted

order_seen : (st : Stacks) (words : List Word) (zs : List ℤ) → wholes_in words ≡ Some zs → looked (look_seen st (look_order words)) ≡ looked (look_seen st (intrinsic_wanted zs))
order_seen st words zs e = ap (λ (o : Option (List ℤ)). looked (look_seen st (valid o >-> intrinsic_wanted))) e

abbrev Going : Type 0
Going = ℕ × Extents → Program

module _ (img : Image) (r : Registers) (m : Mscw) (words : List Word) where
  abbrev hold : Wanted → Extents → Going → Program
  hold w e next = if_held w.count e >>= (λ (held : Extents). next (w.count, held))

  abbrev size : Wanted → Going → Program
  size w next = extents w.bounds >>= (λ (e : Extents). hold w e next)

  abbrev chain : Wanted → Going → Program
  chain w next = see (mark_below r m) >>= (λ (lower : Mscw). size w next)

  tests_stop : (stop : Stop) → looked (look_seen img.stacks (look_order words)) ≡ Err stop → IntrinsicLeads {A = ℕ × Extents} img (array_tests r m words) (Err stop)
  tests_stop stop e = leads_not img (see (look_order words)) chain stop (told_look img (look_order words) (Err stop) (sym e))

  -- the exit of a question mark
  pub order_exit : (res : Result (ℕ × Size) Hindrance) (stop : Stop) → IsErrAnd res (λ h. h ≡ Stopped stop) → IntrinsicLeads {A = ℕ × Extents} img (array_tests r m words) (Err stop)
      → MayLead img (array_tests r m words) (as_order res)
  order_exit (Ok a) stop e x = absurd e
  order_exit (Err h) stop e x = subst (λ (k : Hindrance). MayLead {A = ℕ × Extents} img (array_tests r m words) (Err k)) (sym e) x

  module _ (zs : List ℤ) (read : wholes_in words ≡ Some zs) where
    pub not_ordered : looked (look_seen img.stacks (intrinsic_wanted zs)) ≡ Err (Interrupt InvalidOperand) → IntrinsicLeads {A = ℕ × Extents} img (array_tests r m words) (Err (Interrupt InvalidOperand))
    not_ordered e = tests_stop (Interrupt InvalidOperand) (order_seen img.stacks words zs read ∙ e)

    module _ (count : ℕ) (ordered : looked (look_seen img.stacks (intrinsic_wanted zs)) ≡ order_in zs (Some count)) where
      abbrev asks : Wanted
      asks = record { count = count; bounds = drop 1 zs }

      after_order : (res : Result (ℕ × Extents) Stop) → IntrinsicLeads img (chain asks) res → IntrinsicLeads img (array_tests r m words) res
      after_order res x =
          leads_then img (see (look_order words)) chain asks res
          (told_look img (look_order words) (Ok asks) (sym (order_seen img.stacks words zs read ∙ ordered))) x

      pub unchained : (stop : Stop) → ◌≡◌ {A = Result Mscw Stop} (Err stop) (looked (look_seen img.stacks (mark_below r m))) → IntrinsicLeads {A = ℕ × Extents} img (array_tests r m words) (Err stop)
      unchained stop f =
          after_order (Err stop) (leads_not img (see (mark_below r m)) (λ (lower : Mscw) (next : Going). size asks next) stop (told_look img (mark_below r m) (Err stop) f))

      module _ (lower : Mscw) (chained : Ok lower ≡ looked (look_seen img.stacks (mark_below r m))) where
        after_chain : (res : Result (ℕ × Extents) Stop) → IntrinsicLeads img (size asks) res → IntrinsicLeads img (array_tests r m words) res
        after_chain res x =
            after_order res (leads_then img (see (mark_below r m)) (λ (lower : Mscw) (next : Going). size asks next) lower res (told_look img (mark_below r m) (Ok lower) chained) x)

        pub unsized : (stop : Stop) → whole_outcome (asked img (extents (drop 1 zs))) ≡ stopped stop → IntrinsicLeads {A = ℕ × Extents} img (array_tests r m words) (Err stop)
        unsized stop e = after_chain (Err stop) (leads_not img (extents (drop 1 zs)) (hold asks) stop e)

        module _ (e : Extents) (sized : whole_outcome (asked img (extents (drop 1 zs))) ≡ gives e) where
          after_size : (res : Result (ℕ × Extents) Stop) → IntrinsicLeads img (hold asks e) res → IntrinsicLeads img (array_tests r m words) res
          after_size res x = after_chain res (leads_then img (extents (drop 1 zs)) (hold asks) e res sized x)

          pub unheld : (stop : Stop) → whole_outcome (asked img (if_held count e)) ≡ stopped stop → IntrinsicLeads {A = ℕ × Extents} img (array_tests r m words) (Err stop)
          unheld stop f = after_size (Err stop) (leads_not img (if_held count e) (λ (held : Extents) (next : Going). next (count, held)) stop f)

          pub all_tested : whole_outcome (asked img (if_held count e)) ≡ gives e → IntrinsicLeads img (array_tests r m words) (Ok (count, e))
          all_tested f =
              after_size (Ok (count, e)) (leads_then img (if_held count e) (λ (held : Extents) (next : Going). next (count, held)) e (Ok (count, e)) f (λ next. refl))

-- ---- and then the end

abbrev pub making : Option Registers → Mscw → ℕ → ℕ × Extents → Program
making None m next order = no_such
making (Some r) m next order = answer (arrays_made order.0 order.1 [] (λ (made : List Word). finished_at r m made next))

pub arrays_is : (img : Image) (code : Code) (next : ℕ) (m : Mscw) (regs : Option Registers)
    → asked img (called_in arrays code regs next m) ≡ asked img (array_tests_in regs m img.stacks (making regs m next))
arrays_is img code next m None = refl
arrays_is img code next m (Some r) = refl

pub made_then : (p : ℕ) (img new : Image) (m : Mscw) (next : ℕ) (order : ℕ × Extents) (made : List Descriptor) (after : Rows) (regs : Option Registers)
    → MakesArrays order.0 order.1 img.rows after made
    → ProgramActs {A = Unit {0}} p (finished_in regs m (map descriptor_word made) next) (with_rows img after) new (Ok tt)
    → ProgramActs {A = Unit {0}} p (making regs m next order) img new (Ok tt)
made_then p img new m next order made after None makes q = record { outcome = q.outcome; stays = tt }
made_then p img new m next order made after (Some r) makes q = record {
  outcome = ap (λ (i : Image). limited (stack_length p) (effects.gives i)) (makes p img (λ (words : List Word). finished_at r m words next) refl) ∙ q.outcome;
  stays = tt;
}

-- ---- the stack limit

-- the rows of a mother are made, whatever comes after
rows_go : (k : ℕ) (mother at n p : ℕ) (img : Image) → (rows : Rows) × ((next : Change) → changed p (rows_made k mother at n next) img ≡ changed p next (with_rows img rows))
rows_go zero mother at n p img = (img.rows, λ next. refl)
rows_go (suc k) mother at n p img =
    let address = least_free img.rows in
    let mid = with_row_word (opened_at img.rows address (zero_row n true)) mother at (array_word false n address) in
    let more = rows_go k mother (at + 1) n p (with_rows img mid) in
    (more.0, λ next. more.1 next)

array_goes : (e : Extents) (p : ℕ) (img : Image) → (w : Word) × (rows : Rows) × ((next : Word → Change) → changed p (array_made e next) img ≡ changed p (next w) (with_rows img rows))
array_goes (one n) p img =
    let address = least_free img.rows in
    (array_word false n address, opened_at img.rows address (zero_row n true), λ next. refl)
array_goes (two m n) p img =
    let address = least_free img.rows in
    let more = rows_go m address 0 n p (with_rows img (opened_at img.rows address (zero_row m false))) in
    (array_word true m address, more.0, λ next. more.1 (next (array_word true m address)))

-- so many arrays are made, whatever comes after
arrays_go : (k : ℕ) (e : Extents) (made : List Word) (p : ℕ) (img : Image)
    → (words : List Word) × (rows : Rows) × (length words ≡ length made + k) × ((next : List Word → Change) → changed p (arrays_made k e made next) img ≡ changed p (next words) (with_rows img rows))
arrays_go zero e made p img = (made, img.rows, omega arith, λ next. refl)
arrays_go (suc k) e made p img =
    let first = array_goes e p img in
    let more = arrays_go k e (made ++ first.0 ∷ []) p (with_rows img first.1) in
    let size : length more.0 ≡ length made + suc k = omega (arith, more.2, one_longer made first.0) in
    (more.0, more.1, size, λ next. first.2 (λ (w : Word). arrays_made k e (made ++ w ∷ []) next) ∙ more.3 next)

-- a stack that would be too long
pub too_long : (p : ℕ) (img : Image) (m : Mscw) (next : ℕ) (order : ℕ × Extents) (r : Registers) → numbered img.regs p ≡ Some r → nat_le (r.f + order.0) stack_limit ≡ false
    → ProgramActs {A = Unit {0}} p (making (Some r) m next order) img img (Err StackLimit)
too_long p img m next order r here long =
    let go = arrays_go order.0 order.1 [] p img in
    let words = go.0 in
    let last = ends r m (length words) next in
    let mid = with_rows img go.1 in
    let cut = with_cut img.stacks r.stack r.f in
    let after : Image = record mid { stacks = pushed_on cut r.stack words; regs = set_numbered img.regs p last } in
    let size : r.f + length words ≡ r.f + order.0 = omega (arith, go.2) in
    record {
      outcome = ap (λ (i : Image). limited (stack_length p) (effects.gives i)) (go.3 (λ (words : List Word). finished_at r m words next))
          ∙ ap (λ (i : Image). limited (stack_length p) (effects.gives i)) (pushed_is p r.stack words (registers last done) (with_stacks mid cut))
          ∙ ap (λ (n : ℕ). if nat_le n stack_limit then gives after else limit) (ap length_in (numbered_set img.regs p r last here) ∙ size)
          ∙ ap (λ (b : Bool). if b then gives after else limit) long;
      stays = refl;
    }
