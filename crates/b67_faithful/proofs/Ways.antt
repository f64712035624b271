-- An able process has the same say in world and image; the machine has one way to go.
use Rattle.std.proofs.Common.{◌≡◌, ℕ, Option, Some, None, Bool, true, refl, sym, ap, ◌∙◌}
use Rattle.b67_list.specs.Numbered.{numbered}
use Rattle.algol_meaning.specs.World.{World}
use Rattle.algol_meaning.specs.Run.{End, end_of, may_go}
use Rattle.algol_meaning.specs.Run as meaning
use Rattle.b67_segment.specs.declared.code.Code.{Code}
use Rattle.b67_table.specs.Image.{Image, is_able}
use Rattle.b67_table.specs.Ending.{ImageEnd, image_end, may_act}
use Rattle.b67_table.specs.Ending as machine
use Rattle.b67_faithful.specs.Agreement.{end_as, Shows}

same_say : (e : Option ImageEnd) (b : Bool) → machine.goes_on e b ≡ meaning.goes_on (end_as e) b
same_say None b = refl
same_say (Some machine.finished) b = refl
same_say (Some (machine.faulted kind p)) b = refl
same_say (Some machine.all_waiting) b = refl

module _ (code : Code) (w : World) (a : Image) (shows : Shows code w a) (p : ℕ) where
  pub able_alike : may_act a p ≡ may_go w p
  unfolding may_act may_go
  able_alike =
      same_say (image_end a) (is_able (numbered a.states p))
      ∙ ap (λ (e : Option End). meaning.goes_on e (is_able (numbered a.states p))) (sym shows.ends)
      ∙ ap (λ (b : Bool). meaning.goes_on (end_of w) b) (sym (shows.able p))

  pub may_follow : may_go w p ≡ true → may_act a p ≡ true
  may_follow e = able_alike ∙ e

  pub may_lead : may_act a p ≡ true → may_go w p ≡ true
  may_lead e = sym able_alike ∙ e
