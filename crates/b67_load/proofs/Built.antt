-- What a machine holds once it is built, and that nothing is open where it is not built.
use Rattle.std.proofs.Common.{◌≡◌, ◌≢◌, ap, ◌∙◌, ℕ, zero, suc, Bool, true, if◌then◌else◌, List, [], ◌∷◌, None, is_some, Result, Ok, Err, OnErr}
use Rattle.b67_word.specs.declared.Place.{Place}
use Rattle.b67_word.specs.Word.{Word}
use Rattle.b67_control.specs.declared.Registers.{Registers}
use Rattle.b67_store.specs.Store.{Stacks, Rows, stack_at, opened_at, closed_at}
use Rattle.b67_store.proofs.StoreLaws.{opened_here, opened_others, changed_others, closed_here}
use Rattle.b67_events.specs.Events.{Event}
use Rattle.b67_table.specs.declared.ProcessState.{ProcessState}
use Rattle.b67_table.specs.declared.ProcessState.TheVariants.{Able}
use Rattle.b67_table.specs.Image.{Image}
use Rattle.b67_table.specs.Beginning.{system_stack, base_frame, first_registers, first_image}
use Rattle.b67_load.specs.Closed.{NoneOpen, first_on}

-- ---- the first stack is opened where none is open

pub not_zero : (k : ℕ) → suc k ≢ 0
not_zero k e = cc

module _ (old one : Stacks) (xs : List Word) (none : NoneOpen old) (is : one ≡ opened_at old 0 xs) where
  -- the second is free
  pub second_free : stack_at one 1 ≡ None
  second_free = ap (λ (z : Stacks). stack_at z 1) is ∙ opened_others old 0 1 xs (not_zero 0) ∙ none 1

  closed_again : NoneOpen (closed_at (opened_at old 0 xs) 0)
  closed_again zero = closed_here (opened_at old 0 xs) 0
  closed_again (suc k) = changed_others (opened_at old 0 xs) 0 (suc k) None (not_zero k) ∙ opened_others old 0 (suc k) xs (not_zero k) ∙ none (suc k)

  -- where the second is not opened, none is open once the first is closed
  pub none_is_open : {A B : Type 0} (r : Result A B) (two three : Stacks) (closes : Bool) → OnErr r (two ≡ one) → closes ≡ is_some (stack_at two 0)
      → three ≡ (if closes then closed_at two 0 else two) → OnErr r (NoneOpen three)
  none_is_open (Ok x) two three closes stays found new = tt
  none_is_open (Err x) two three closes stays found new =
      let same : two ≡ opened_at old 0 xs = stays ∙ is in
      let there : closes ≡ true = found ∙ ap (λ (z : Stacks). is_some (stack_at z 0)) same ∙ ap is_some (opened_here old 0 xs) in
      λ n. ap (λ (z : Stacks). stack_at z n)
      (new ∙ ap (λ (b : Bool). if b then closed_at two 0 else two) there ∙ ap (λ (z : Stacks). closed_at z 0) same)
      ∙ closed_again n

-- ---- the whole image

abbrev pub built : Stacks → Rows → List Event → List (List Place) → List Registers → List ProcessState → List ℕ → List (List ℕ) → ℕ → Image
built stacks rows events lists regs states numbers output started =
    record {
      stacks = stacks;
      rows = rows;
      events = events;
      lists = lists;
      regs = regs;
      states = states;
      numbers = numbers;
      output = output;
      started = started;
      fault = None;
    }

pub is_first : (old_stacks stacks : Stacks) (old_rows rows : Rows) (events : List Event) (lists : List (List Place)) (regs : List Registers) (states : List ProcessState)
    (numbers : List ℕ) (output : List (List ℕ)) (started : ℕ)
    → stacks ≡ opened_at (opened_at old_stacks 0 system_stack) 1 base_frame → rows ≡ old_rows → events ≡ [] → lists ≡ [] → regs ≡ first_registers ∷ []
    → states ≡ Able ∷ [] → numbers ≡ 0 ∷ [] → output ≡ [] → started ≡ 1
    → built stacks rows events lists regs states numbers output started ≡ first_on old_stacks old_rows
unfolding first_image
is_first old_stacks stacks old_rows rows events lists regs states numbers output started e f g l h k m o n =
    let opened = opened_at (opened_at old_stacks 0 system_stack) 1 base_frame in
    ap (λ (z : Stacks). built z rows events lists regs states numbers output started) e
    ∙ ap (λ (z : Rows). built opened z events lists regs states numbers output started) f
    ∙ ap (λ (z : List Event). built opened old_rows z lists regs states numbers output started) g
    ∙ ap (λ (z : List (List Place)). built opened old_rows [] z regs states numbers output started) l
    ∙ ap (λ (z : List Registers). built opened old_rows [] [] z states numbers output started) h
    ∙ ap (λ (z : List ProcessState). built opened old_rows [] [] (first_registers ∷ []) z numbers output started) k
    ∙ ap (λ (z : List ℕ). built opened old_rows [] [] (first_registers ∷ []) (Able ∷ []) z output started) m
    ∙ ap (λ (z : List (List ℕ)). built opened old_rows [] [] (first_registers ∷ []) (Able ∷ []) (0 ∷ []) z started) o
    ∙ ap (λ (z : ℕ). built opened old_rows [] [] (first_registers ∷ []) (Able ∷ []) (0 ∷ []) [] z) n
