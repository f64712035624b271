-- A process of a valid image has a core.
use Rattle.std.proofs.Common.{◌≡◌, refl, sym, ap, ◌∙◌, ◌≤◌, true, List, ◌++◌, length, take, drop, Option, Some, None, arith, length-take, length-drop, take-append-drop}
use Rattle.std.specs.Prelude.{reverse, is_some}
use Rattle.std.proofs.lemmas.List.{reverse-reverse, length-reverse}
use Rattle.b67_word.specs.Word.{Word}
use Rattle.b67_control.specs.declared.Registers.{Registers}
use Rattle.b67_store.specs.Store.{stack_at, words_or}
use Rattle.b67_table.specs.Private.{floor}
use Rattle.b67_table.proofs.Lists.{numbered_from}
use Rattle.b67_cores.specs.Cores.{Core, stack_of, IsCore}
use Rattle.b67_cores.specs.Stretches.{ValidImagesHaveCores}

-- words parted where a floor is
abbrev pub parted : Registers → List Word → Core
parted r words = record { below = take (floor r) words; words = reverse (drop (floor r) words); registers = r }

pub parted_stack : (r : Registers) (words : List Word) → stack_of (parted r words) ≡ words
parted_stack r words = ap (λ ws. take (floor r) words ++ ws) (reverse-reverse (drop (floor r) words)) ∙ take-append-drop (floor r) words

pub parted_is : (r : Registers) (words : List Word) → floor r ≤ length words → r.s ≡ length words → IsCore (parted r words)
parted_is r words h e = record {
  bottom = omega (arith, length-take (floor r) words, h);
  top = omega (arith, length-take (floor r) words, length-drop (floor r) words, length-reverse (drop (floor r) words), h, e);
}

some_of : (o : Option (List Word)) → is_some o ≡ true → (words : List Word) × (o ≡ Some words)
some_of None e = cc
some_of (Some words) e = (words, refl)

pub valid_images_have_cores : ValidImagesHaveCores
valid_images_have_cores code img p r valid live has =
    let process = valid.processes p r live has in
    let opened = some_of (stack_at img.stacks p) (valid.stacks p (numbered_from img.regs p r has) ∙ live) in
    let size : r.s ≡ length opened.0 = process.size ∙ ap (λ (o : Option (List Word)). length (words_or o)) opened.1 in
    let high : floor r ≤ length opened.0 = omega (arith, process.above, size) in
    record {
      core = parted r opened.0;
      has = record {
        live = live;
        registers = has;
        own = process.stack;
        stack = ap (stack_at img.stacks) process.stack ∙ opened.1 ∙ ap (λ ws. Some ws) (sym (parted_stack r opened.0));
        is = parted_is r opened.0 high size;
      };
      registers = refl;
    }
