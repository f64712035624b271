-- ENTR on ARRAYS: rows for so many arrays, and their descriptors in place of the mark and what lies above it; or a fault, where their size
-- is wrong, or there is no room for them.
use Rattle.std.proofs.Common.{◌≡◌, refl, sym, ap, ◌∙◌, ℕ, ◌+◌, ◌-◌, ◌≤◌, List, [], ◌∷◌, ◌++◌, length, Option, Some, None, Bool, true, false, append-nil, ℤ}
use Rattle.b67_frames.proofs.Prelude.{reverse-reverse, if◌then◌else◌, ◌&&◌, nat_le, reverse, pos, ArraySize, CoreFull, Named, live_elements, has_wrong_size, has_no_room, Bounds, World, Word, Registers, Code, with_stack, counted_words, wholes_in, if_chained, finished_at, Extents, if_held, arrays_made, Effect, gives, faults, Image, with_stacks, with_registers, with_rows, extents, ◌>->◌, valid, found, pushed, Test, Change, Program, answer, asked, changed, effect_of, see, ◌>>=◌, done, registers, raw, Core, stack_of, with_core, AtOperator, CallsIntrinsic, entered, chained_is, cut_words, most_is, pushed_do}
use Rattle.b67_ops.specs.declared.Operator.TheVariants as ops
use Rattle.b67_ops.specs.declared.PlainKind.TheVariants as kinds
use Rattle.b67_ops.specs.declared.intrinsic.Intrinsic.TheVariants.{Arrays}
use Rattle.b67_table.specs.Intrinsics.{Wanted, count_in, wanted_with, intrinsic_wanted}
use Rattle.b67_table.specs.Limits.{most_arrays}
use Rattle.b67_frames.proofs.ArrayRows.{arrays_rows, arrays_descriptors, arrays_made_do}
use Rattle.b67_frames.proofs.ArraySizes.{HasDimensions, bound_numbers, extents_of, extents_wrong, extents_right, held_full, held_fits}

-- ---- the arguments

counted_in : (n : ℕ) → 1 ≤ n → n ≤ most_arrays → count_in (pos n) ≡ Some n
counted_in n some few =
    ap (λ (b : Bool). if b && nat_le n most_arrays then Some n else None) (most_is 1 n some)
    ∙ ap (λ (b : Bool). if b then Some n else None) (most_is n most_arrays few)

wanted_is : (n : ℕ) (bs : List Bounds) → HasDimensions bs → intrinsic_wanted (pos n ∷ bound_numbers bs) ≡ wanted_with (pos n) (bound_numbers bs)
wanted_is n [] has = absurd has
wanted_is n (b ∷ []) has = refl
wanted_is n (b ∷ c ∷ []) has = refl
wanted_is n (b ∷ c ∷ d ∷ bs) has = absurd has

-- ---- the row

-- the core with these descriptors in place of the call
abbrev pub with_descriptors : Core → List Word → ℕ → ℕ → Core
with_descriptors core descriptors df pc =
    record core {
      words = reverse descriptors;
      registers = record core.registers { s = core.registers.f + length descriptors; f = core.registers.f - df; place = pc };
    }

-- What ARRAYS is given.
pub record MakesArrays (img : Image) (arguments : List Word) : Type 0 where
  pub world : World
  pub names : List Named
  pub some : 1 ≤ length names
  pub few : length names ≤ most_arrays
  pub bounds : List Bounds
  pub dimensions : HasDimensions bounds
  pub whole : wholes_in (reverse arguments) ≡ Some (pos (length names) ∷ bound_numbers bounds)
  pub counted : counted_words img.rows ≡ live_elements world.instances

module _ (code : Code) (here : AtOperator code (ops.Plain kinds.Entr)) (arguments : List Word) (reference marked : Word) (below : List Word) (none : below ≡ [])
    (c : CallsIntrinsic here.img here.core Arrays arguments reference marked below) (makes : MakesArrays here.img arguments) where
  open here use {img, p, core, has, next}
  open makes use {world as w, names as ns, some, few, bounds as bs, dimensions, whole, counted}

  abbrev r : Registers
  r = core.registers

  abbrev n : ℕ
  n = length ns

  abbrev does : Program → Effect Image
  does t = effect_of p img (asked img t)

  abbrev finish : List Word → Change
  finish descriptors = finished_at r c.m descriptors next

  abbrev then_made : ℕ → Extents → Program
  then_made k e = if_held k e >>= (λ (held : Extents). answer (arrays_made k held [] finish))

  abbrev on_wanted : Wanted → Program
  on_wanted x = if_chained r c.m (extents x.bounds >>= then_made x.count)

  called : raw code img p ≡ does (extents (bound_numbers bs) >>= then_made n)
  called =
      entered code here Arrays arguments reference marked below c
      ∙ ap (λ (o : Option (List ℤ)). does (see (valid o >-> intrinsic_wanted) >>= on_wanted)) whole
      ∙ ap (λ l. does (see l >>= on_wanted)) (wanted_is n bs dimensions)
      ∙ ap (λ (o : Option ℕ). does (see (valid o >-> (λ (k : ℕ). found (record { count = k; bounds = bound_numbers bs }))) >>= on_wanted)) (counted_in n some few)
      ∙ chained_is code here Arrays arguments reference marked below c (extents (bound_numbers bs) >>= then_made n)

  -- a size that is wrong
  pub size_faults : has_wrong_size bs ≡ true → raw code img p ≡ faults ArraySize
  size_faults h = called ∙ ap (λ (t : Test Extents). does (t >>= then_made n)) (extents_wrong bs dimensions h)

  module _ (right : has_wrong_size bs ≡ false) where
    sized : raw code img p ≡ does (then_made n (extents_of bs))
    sized = called ∙ ap (λ (t : Test Extents). does (t >>= then_made n)) (extents_right bs dimensions right)

    abbrev on_held : Extents → Program
    on_held held = answer (arrays_made n held [] finish)

    -- no room
    pub room_faults : has_no_room w bs ns ≡ true → raw code img p ≡ faults CoreFull
    room_faults h = sized ∙ ap (effect_of p img) (held_full img w bs dimensions ns counted on_held h)

    abbrev descriptors : List Word
    descriptors = arrays_descriptors n (extents_of bs) img.rows

    abbrev after : Image
    after = with_rows img (arrays_rows n (extents_of bs) img.rows)

    abbrev new : Core
    new = with_descriptors core descriptors c.m.df next

    abbrev with_words : List Word → Effect Image
    with_words ws = gives (with_registers (with_stacks after (with_stack img.stacks r.stack ws)) p new.registers)

    -- their rows, and their descriptors
    pub arrays_raw : has_no_room w bs ns ≡ false → raw code img p ≡ gives (with_core after p new)
    arrays_raw h =
        sized
        ∙ ap (effect_of p img) (held_fits img w bs dimensions ns counted on_held h)
        ∙ ap (λ (o : Image). gives o) (arrays_made_do p n (extents_of bs) [] finish img)
        ∙ ap (λ (ws : List Word). gives (changed p (pushed r.stack descriptors (registers new.registers done)) (with_stacks after (with_stack img.stacks r.stack ws))))
        (cut_words code here Arrays arguments reference marked below c)
        ∙ ap (λ (o : Image). gives o) (pushed_do p after r.stack (stack_of core) has.stack descriptors (core.below ++ reverse below) (registers new.registers done))
        ∙ ap (λ (ws : List Word). with_words ((core.below ++ reverse ws) ++ descriptors)) none
        ∙ ap with_words (ap (λ (ws : List Word). ws ++ descriptors) (append-nil core.below) ∙ ap (λ (ws : List Word). core.below ++ ws) (sym (reverse-reverse descriptors)))
