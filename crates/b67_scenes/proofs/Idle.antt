-- A process that is able waits for nothing, in a world and in its image.
use Rattle.std.proofs.Common.{◌≡◌, sym, ◌∙◌, ℕ, [], true, refl}
use Rattle.b67_scenes.proofs.Prelude.{IsListed, PProgram, list_in, State, able, waits_for, waits_any, procures, ended, is_able, World, process_at, Place, Code, waiters_at, Image, Texts, Layout, PicturesBy}
use Rattle.b67_scenes.proofs.Showing.{able_alike}
use Rattle.b67_scenes.proofs.Waiting.{able_nowhere}

-- who is able has no list of events
pub able_lists_none : (x : State) → is_able x ≡ true → list_in x ≡ []
able_lists_none able e = refl
able_lists_none (waits_for r) e = refl
able_lists_none (waits_any rs) e = cc
able_lists_none (procures r) e = refl
able_lists_none ended e = refl

module _ (tree : PProgram) (code : Code) (texts : Texts) (w : World) (lay : Layout) (img : Image) (by : PicturesBy tree code texts w lay img) (p : ℕ) (able_now : is_able ((process_at w p).state) ≡ true) where
  pub idle_list : list_in ((process_at w p).state) ≡ []
  idle_list = able_lists_none ((process_at w p).state) able_now

  pub idle_nowhere : (at : Place) → IsListed (waiters_at at img.events) p → ⊥
  idle_nowhere = able_nowhere img p by.waits.awaiting (sym (able_alike tree code texts w lay img by p) ∙ able_now)
