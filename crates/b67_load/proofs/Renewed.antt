-- The first image, built where another one stood; and the image with which a machine is left where there is no memory for it.
use Rattle.std.proofs.Common.{◌≡◌, refl, ap, ◌∙◌, ℕ, zero, suc, ◌≤◌, true, List, [], ◌∷◌, take, Option, Some, None, arith}
use Rattle.std.specs.Prelude.{All, is_some}
use Rattle.b67_list.specs.Numbered.{numbered}
use Rattle.b67_word.specs.declared.Place.{Place}
use Rattle.b67_word.specs.Word.{Word, IsWord}
use Rattle.b67_control.specs.declared.Registers.{Registers}
use Rattle.b67_segment.specs.declared.code.Code.{Code}
use Rattle.b67_store.specs.Store.{Stacks, Rows, stack_at, words_of}
use Rattle.b67_events.specs.Events.{Event, is_listed}
use Rattle.b67_table.specs.declared.ProcessState.{ProcessState}
use Rattle.b67_table.specs.declared.ProcessState.TheVariants.{Able, WaitsAny, Ended}
use Rattle.b67_table.specs.Image.{Image, is_live}
use Rattle.b67_table.specs.Beginning.{system_stack, base_frame, first_registers, first_image}
use Rattle.b67_table.specs.Valid.{IsValid, IsProcess}
use Rattle.b67_load.proofs.Built.{built}

-- ---- the stacks that are left

pub first_kept : (stacks : Stacks) → stack_at stacks 0 ≡ Some system_stack → take 1 stacks ≡ Some system_stack ∷ []
first_kept [] e = cc
first_kept (None ∷ stacks) e = cc
first_kept (Some ws ∷ stacks) e = ap (λ (o : Option (List Word)). o ∷ []) e

pub second_free : (stacks : Stacks) → stacks ≡ Some system_stack ∷ [] → stack_at stacks 1 ≡ None
second_free stacks e = ap (λ (z : Stacks). stack_at z 1) e

-- ---- the image with the system stack only, whose process has ended

abbrev pub ended_image : Image
ended_image = built (Some system_stack ∷ []) [] [] [] (first_registers ∷ []) (Ended ∷ []) (0 ∷ []) [] 1

listed_none : (p : ℕ) → is_listed p [] ≡ true → numbered (Ended ∷ []) p ≡ Some WaitsAny
listed_none zero e = cc
listed_none (suc p) e = cc

module _ (code : Code) (v : IsValid code first_image) where
  ended_words : (n : ℕ) → All IsWord (words_of (Some system_stack ∷ []) n)
  unfolding first_image
  ended_words zero = v.words 0
  ended_words (suc n) = λ k d h. absurd (omega (arith, h))

  ended_stacks : (p : ℕ) → 1 ≤ p → is_some (stack_at (Some system_stack ∷ []) p) ≡ is_live (numbered (Ended ∷ []) p)
  ended_stacks zero h = absurd (omega (arith, h))
  ended_stacks (suc zero) h = refl
  ended_stacks (suc (suc p)) h = refl

  ended_processes : (p : ℕ) (r : Registers) → is_live (numbered (Ended ∷ []) p) ≡ true → numbered (first_registers ∷ []) p ≡ Some r → IsProcess ended_image p r
  ended_processes zero r l e = cc
  ended_processes (suc zero) r l e = cc
  ended_processes (suc (suc p)) r l e = cc

  pub ended_is_valid : IsValid code ended_image
  unfolding first_image
  ended_is_valid = record {
    segments = v.segments;
    words = ended_words;
    registers = refl;
    states = refl;
    numbers = refl;
    positions = v.positions;
    some = v.some;
    most = v.most;
    system = refl;
    stacks = ended_stacks;
    processes = ended_processes;
    earlier = v.earlier;
    rows = record { few = v.rows.few; room = v.rows.room; short = v.rows.short; words = v.rows.words; shallow = v.rows.shallow };
    events = record {
      apart = v.events.apart;
      once = v.events.once;
      waiters = λ p at e. cc;
      procurers = λ p at e. cc;
      listed = listed_none;
      short = v.events.short;
    };
  }

-- ---- the whole image

pub same_built : (stacks stacks' : Stacks) (rows : Rows) (events : List Event) (lists : List (List Place)) (regs : List Registers) (states states' : List ProcessState)
    (numbers : List ℕ) (output : List (List ℕ)) (started : ℕ)
    → stacks ≡ stacks' → rows ≡ [] → events ≡ [] → lists ≡ [] → regs ≡ first_registers ∷ [] → states ≡ states' → numbers ≡ 0 ∷ [] → output ≡ [] → started ≡ 1
    → built stacks rows events lists regs states numbers output started ≡ built stacks' [] [] [] (first_registers ∷ []) states' (0 ∷ []) [] 1
same_built stacks stacks' rows events lists regs states states' numbers output started e f g l h k m o n =
    ap (λ (z : Stacks). built z rows events lists regs states numbers output started) e
    ∙ ap (λ (z : Rows). built stacks' z events lists regs states numbers output started) f
    ∙ ap (λ (z : List Event). built stacks' [] z lists regs states numbers output started) g
    ∙ ap (λ (z : List (List Place)). built stacks' [] [] z regs states numbers output started) l
    ∙ ap (λ (z : List Registers). built stacks' [] [] [] z states numbers output started) h
    ∙ ap (λ (z : List ProcessState). built stacks' [] [] [] (first_registers ∷ []) z numbers output started) k
    ∙ ap (λ (z : List ℕ). built stacks' [] [] [] (first_registers ∷ []) states' z output started) m
    ∙ ap (λ (z : List (List ℕ)). built stacks' [] [] [] (first_registers ∷ []) states' (0 ∷ []) z started) o
    ∙ ap (λ (z : ℕ). built stacks' [] [] [] (first_registers ∷ []) states' (0 ∷ []) [] z) n

pub first_is_built : built (Some system_stack ∷ Some base_frame ∷ []) [] [] [] (first_registers ∷ []) (Able ∷ []) (0 ∷ []) [] 1 ≡ first_image
unfolding first_image
first_is_built = refl
