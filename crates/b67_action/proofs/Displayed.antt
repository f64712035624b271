-- The display of a live process of a valid image names nothing above its level.
use Rattle.std.proofs.Common.{◌≡◌, ap, ◌∙◌, ℕ, suc, ◌+◌, ◌-◌, List, ◌∷◌, ◌++◌, length, map, take, drop, replicate, true, Option, Some, None, arith}
use Rattle.std.specs.Prelude.{IfSome}
use Rattle.std.proofs.Math.Seq.{drop-append_seam}
use Rattle.std.proofs.lemmas.List.{length-append, length-map, length-replicate}
use Rattle.b67_list.specs.Numbered.{numbered}
use Rattle.b67_word.specs.declared.Place.{Place}
use Rattle.b67_control.specs.declared.Registers.{Registers}
use Rattle.b67_segment.specs.declared.code.Code.{Code}
use Rattle.b67_table.specs.Chains.{place}
use Rattle.b67_table.specs.Image.{Image, is_able}
use Rattle.b67_table.specs.Valid.{IsValid, IsDisplay}
use Rattle.b67_table.proofs.Waking.{able_live}
use Rattle.b67_display.specs.Shown.{IsShown}
use Rattle.b67_action.proofs.Ready.{if_some}

module _ (level : ℕ) (d : List (Option Place)) (k : IsDisplay level d) where
  abbrev named : List (Option Place)
  named = map (λ (f : Place). Some f) k.frames

  abbrev above : List (Option Place)
  above = replicate (32 - (level + 1)) None

  named_length : length named ≡ length k.frames
  named_length = length-map k.frames (λ (f : Place). Some f)

  long : length (named ++ above) ≡ length k.frames + (32 - (level + 1))
  long = length-append named above ∙ ap (λ (n : ℕ). n + length above) named_length ∙ ap (λ (n : ℕ). length k.frames + n) (length-replicate (32 - (level + 1)) None)

  all_long : length d ≡ 32
  all_long = ap length k.is ∙ omega (arith, long, k.each, k.known)

  none_above : drop (level + 1) d ≡ above
  none_above =
      let n_is : level + 1 ≡ suc (suc (length named)) = omega (arith, named_length, k.each) in
      ap (λ (z : List (Option Place)). drop (level + 1) z) k.is
      ∙ ap (λ (n : ℕ). drop n (Some (place 0 0) ∷ None ∷ named ++ above)) n_is
      ∙ drop-append_seam named above

  pub shown_of : IsShown level d
  shown_of = record { size = all_long; begins = ap (λ (z : List (Option Place)). take 2 z) k.is; ends = none_above }

pub shown_in : (code : Code) (img : Image) (p : ℕ) (r : Registers) → IsValid code img → is_able (numbered img.states p) ≡ true → numbered img.regs p ≡ Some r
    → IfSome (numbered img.regs p) (λ q. IsShown q.ll q.display)
shown_in code img p r v able has =
    if_some (λ q. IsShown q.ll q.display) (numbered img.regs p) r has (shown_of r.ll r.display (v.processes p r (able_live (numbered img.states p) able) has).display)
