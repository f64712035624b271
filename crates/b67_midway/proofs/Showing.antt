-- What is told of a process that lives, and of another one.
use Rattle.std.proofs.Common.{arith, ◌≡◌, ap, sym, ◌∙◌, subst, ℕ, ◌≤◌, List, length, length-drop, drop, Some, ◌+◌, [], ◌∷◌, ◌++◌, take}
use Rattle.std.specs.Prelude.{slice_get}
use Rattle.std.proofs.lemmas.List.{length-reverse, take_more}
use Rattle.std.proofs.lemmas.Option.{get_or_from_slice_get, slice_get_within}
use Rattle.b67_list.specs.Numbered.{numbered}
use Rattle.b67_word.specs.Word.{Word}
use Rattle.b67_control.specs.declared.Registers.{Registers}
use Rattle.b67_store.specs.Store.{words_of}
use Rattle.b67_table.specs.declared.Private.{Private}
use Rattle.b67_table.specs.Image.{Image, private_of}
use Rattle.b67_table.specs.Private.{floor}
use Rattle.b67_machine.specs.Parts.{part_by, private_part, IsWholePart}

value : {a b : Private} → Some a ≡ Some b → a ≡ b
value e = cc

-- the words from the floor on are as many as S says, so that all are no more
pub size_so : (img : Image) (p : ℕ) (r : Registers) (part : Private) → numbered img.regs p ≡ Some r → private_part img p ≡ Some part → IsWholePart part
    → length (words_of img.stacks r.stack) ≤ part.regs.s
size_so img p r part own is whole =
    let same : private_of img r ≡ part = value (ap (part_by img) (sym own) ∙ is) in
    let all : IsWholePart (private_of img r) = subst IsWholePart (sym same) whole in
    let own_s : r.s ≡ part.regs.s = ap (λ (x : Private). x.regs.s) same in
    omega (
      arith,
      all,
      own_s,
      length-reverse (drop (floor r) (words_of img.stacks r.stack)),
      length-drop (floor r) (words_of img.stacks r.stack),
    )

-- one word more
pub word_more : (all : List Word) (at there : ℕ) (word : Word) (words new : List Word) → there ≡ at → slice_get all there ≡ Some word → words ≡ take at all → new ≡ words ++ word ∷ []
    → new ≡ take (at + 1) all
word_more all at there word words new same is front more =
    let here : slice_get all at ≡ Some word = ap (slice_get all) (sym same) ∙ is in
    more ∙ ap (λ (ws : List Word). ws ++ word ∷ []) front
    ∙ ap (λ (w : Word). take at all ++ w ∷ []) (sym (get_or_from_slice_get all at word word here))
    ∙ sym (take_more all at word (slice_get_within all at word here))
