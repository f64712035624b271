-- Where references lead below floors, an operator changes another's core below its floor only.
use Rattle.std.proofs.Common.{◌≡◌, refl, sym, ap, subst, ◌∙◌, ℕ, List, [], ◌∷◌, ◌++◌, length, take, drop, reverse, Option, Some, arith, take-append-drop, length-append, length-take}
use Rattle.std.proofs.lemmas.List.{reverse-reverse}
use Rattle.b67_word.specs.Word.{Word}
use Rattle.b67_store.specs.Store.{words_or, words_of}
use Rattle.b67_table.specs.declared.Private.{Private}
use Rattle.b67_table.specs.Image.{Image, private_of}
use Rattle.b67_table.specs.Private.{floor}
use Rattle.b67_table.specs.Privacy.{ProcessStands}
use Rattle.b67_cores.specs.Cores.{Core, stack_of, over, IsCore, HasCore}
use Rattle.b67_footprints.specs.Cores.{CoresStayAbove}
use Rattle.b67_footprints.proofs.Apart.{private_parts_stay}

drop_front : (xs ys : List Word) → drop (length xs) (xs ++ ys) ≡ ys
drop_front [] [] = refl
drop_front [] (y ∷ ys) = refl
drop_front (x ∷ xs) ys = drop_front xs ys

-- the words of a core from its floor on
core_above : (core : Core) → IsCore core → drop (floor core.registers) (stack_of core) ≡ reverse core.words
core_above core is = subst (λ (k : ℕ). drop k (stack_of core) ≡ reverse core.words) is.bottom (drop_front core.below (reverse core.words))

turned_same : (xs ys : List Word) → reverse xs ≡ reverse ys → xs ≡ ys
turned_same xs ys e = sym (reverse-reverse xs) ∙ ap reverse e ∙ reverse-reverse ys

module _ (img new : Image) (q : ℕ) (core : Core) (has : HasCore img q core) (stands : ProcessStands new q core.registers)
    (same : private_of new core.registers ≡ private_of img core.registers) where
  above : drop (floor core.registers) stands.words ≡ reverse core.words
  above =
      ap (λ (o : Option (List Word)). drop (floor core.registers) (words_or o)) (sym stands.opened)
      ∙ turned_same (drop (floor core.registers) (words_of new.stacks core.registers.stack)) (drop (floor core.registers) (words_of img.stacks core.registers.stack))
      (ap (λ (part : Private). part.words) same)
      ∙ ap (λ (o : Option (List Word)). drop (floor core.registers) (words_or o)) has.stack
      ∙ core_above core has.is

  low : length (take (floor core.registers) stands.words) ≡ floor core.registers
  low = omega (arith, length-take (floor core.registers) stands.words, stands.high)

  -- the core with the words that its stack has below its floor
  core_after : HasCore new q (over (take (floor core.registers) stands.words) core)
  core_after = record {
    live = stands.live;
    registers = stands.has;
    own = has.own;
    stack = stands.opened
        ∙ ap (λ (us : List Word). Some us)
        (sym (take-append-drop (floor core.registers) stands.words) ∙ ap (λ (us : List Word). take (floor core.registers) stands.words ++ us) above);
    is = record { bottom = low; top = omega (arith, has.is.top, has.is.bottom, low) };
  }

-- a process that has a core stands
stands_so : (img : Image) (q : ℕ) (core : Core) → HasCore img q core → ProcessStands img q core.registers
stands_so img q core has = record {
  live = has.live;
  has = has.registers;
  words = stack_of core;
  opened = has.stack;
  high = omega (arith, has.is.bottom, length-append core.below (reverse core.words));
}

pub cores_stay_above : CoresStayAbove
cores_stay_above code img new p q core own below other has given =
    let kept = private_parts_stay code img new p q core.registers own below other (stands_so img q core has) given in
    (take (floor core.registers) kept.0.words, core_after img new q core has kept.0 kept.1)
