-- The critical place of a process that lives is below the floor of the stack in which it lies: the frame of the critical instance has its two words there.
use Rattle.std.proofs.Common.{◌≡◌, inr, refl, sym, ap, ◌∙◌, subst, ℕ, Option, Some, None}
use Rattle.b67_list.proofs.Numbers.{none_some}
use Rattle.b67_scenes.proofs.Prelude.{numbered, PProgram, scopes_of, World, stack_forth, IsOk, IsStanding, IsWholeInstance, stack_of, Place, Registers, Code, Image, Lives, AreNested, Texts, some_same, NearFrame, Layout, CriticalIs, PicturesBy}
use Rattle.b67_scenes.proofs.TouchingOthers.{LivesThere, lives_there}
use Rattle.b67_scenes.proofs.Finding.{find, found_laid, standing_near}

module _ (tree : PProgram) (code : Code) (texts : Texts) (nested : AreNested (scopes_of tree)) (w : World) (lay : Layout) (img : Image) (by : PicturesBy tree code texts w lay img) (ok : IsOk (scopes_of tree) IsWholeInstance w) (p : ℕ) where
  -- a process that lives depends on one that stands
  pub critical_near : (t : ℕ) (r : Registers) → Lives img t r → (g : Place) → r.critical ≡ Some g → NearFrame p img g
  critical_near t r there g has = by_critical l.process.critical refl (subst (λ (x : Registers). CriticalIs lay l.process.critical x.critical) (sym l.has) l.living_is.critical)
    where
      l : LivesThere tree code texts w lay img by t r
      l = lives_there tree code texts w lay img by t r there

      by_critical : (c : Option ℕ) → l.process.critical ≡ c → CriticalIs lay c r.critical → NearFrame p img g
      by_critical None is none = none_some (sym none ∙ has)
      by_critical (Some i) is told =
          let st : IsStanding w i = ok.sound.skeleton_ok.holds t (stack_of l.process) i (stack_forth w t l.process l.is) l.alive is in
          let laid : numbered lay.places i ≡ Some g = told.2 ∙ sym told.1 ∙ has in
          standing_near tree code texts w lay img by ok p i st
          (inr (record {
            by = t;
            registers = r;
            frame = g;
            has = there.is;
            critical = has;
            lies = ap (λ (x : Place). x.stack) (some_same (sym laid ∙ found_laid tree code texts w lay img i (find tree code texts w lay img by ok i st)));
          })) g laid
