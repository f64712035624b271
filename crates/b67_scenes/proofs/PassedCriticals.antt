-- A frame that GO TO passes is critical where a live process depends on the instance of one of the parts that it leaves.
use Rattle.std.proofs.Common.{◌≡◌, ◌⊎◌, inl, inr, refl, sym, ap, ◌∙◌, subst, ℕ, List, [], ◌∷◌, Some, Bool, false}
use Rattle.b67_scenes.proofs.Prelude.{list_any, if◌then◌else◌, ◌||◌, numbered, PProgram, scopes_of, some_depends, own_instances, Instance, Process, Part, World, IsOk, IsWholeInstance, IsOwn, Word, Place, Code, same_place, place, Passed, Image, live_criticals, Texts, IsElsewhere, Layout, Frame, Around, PicturesBy}
use Rattle.algol_meaning.specs.Critical.{some_depends_on_any}
use Rattle.b67_table.specs.GoingTo.{passed_frames}
use Rattle.b67_table.specs.Linkage.{is_critical}
use Rattle.b67_scenes.proofs.Dependents.{dependents_agree, nobody_there}
use Rattle.b67_scenes.proofs.PassedFrames.{IsOwnFrame, IsLentFrame, ArePassed}
use Rattle.b67_scenes.proofs.Worlds.{held_of}

module _ (tree : PProgram) (code : Code) (texts : Texts) (w : World) (lay : Layout) (img : Image) (by : PicturesBy tree code texts w lay img) (ok : IsOk (scopes_of tree) IsWholeInstance w)
    (p : ℕ) (q : Process) (is : numbered w.processes p ≡ Some q) (part : Part) (outer : List Part) (todo : q.todo ≡ part ∷ outer) (words : List Word) (f : Frame tree code texts w lay p part outer words)
    (a : Around tree code texts w lay p outer f.lower f.mark f.control f.gives) where
  abbrev places : List Place
  places = live_criticals img.states img.regs

  -- an instance that stands has its frame in another stack, or is an own one
  held : (j : ℕ) (x : Instance) → numbered w.instances j ≡ Some x → x.left ≡ false → IsOwn (part ∷ outer) j ⊎ IsElsewhere lay p j
  held j x there stands = subst (λ (ps : List Part). IsOwn ps j ⊎ IsElsewhere lay p j) todo (held_of tree code texts w lay img by ok p q is j x there stands)

  lent_free : (x : Part) (n : ℕ) → IsLentFrame lay p (part ∷ outer) x n → list_any (same_place (place p n)) (live_criticals img.states img.regs) ≡ false
  lent_free x n lent =
      nobody_there tree code texts w lay img by ok (place p n) (λ j y there stands g laid same. by_stack j g laid same (held j y there stands))
    where
      by_stack : (j : ℕ) (g : Place) → numbered lay.places j ≡ Some g → g ≡ place p n → IsOwn (part ∷ outer) j ⊎ IsElsewhere lay p j → ⊥
      by_stack j g laid same (inl own) = lent.1 j g own laid (ap (λ (y : Place). y.at) same)
      by_stack j g laid same (inr elsewhere) = elsewhere g laid (ap (λ (y : Place). y.stack) same)

  one_agrees : (x : Part) (n : ℕ) (parts : List Part) (fs : List Passed) → IsOwnFrame lay p (part ∷ outer) x n ⊎ IsLentFrame lay p (part ∷ outer) x n →
      is_critical p (passed_frames fs) (live_criticals img.states img.regs) ≡ some_depends_on_any w.processes (own_instances parts) →
      is_critical p (n ∷ passed_frames fs) (live_criticals img.states img.regs) ≡ some_depends_on_any w.processes (own_instances (x ∷ parts))
  one_agrees x n parts fs (inl own) later =
      ap (λ (b : Bool). b || is_critical p (passed_frames fs) places)
      (sym (dependents_agree tree code texts w lay img by ok p q is part outer todo words f a x.instance own.1 (place p n) own.2))
      ∙ ap (λ (b : Bool). some_depends w.processes x.instance || b) later
      ∙ sym (ap (λ (t : Bool). some_depends_on_any w.processes (if t then own_instances parts else x.instance ∷ own_instances parts)) own.0)
  one_agrees x n parts fs (inr lent) later =
      ap (λ (b : Bool). b || is_critical p (passed_frames fs) places) (lent_free x n lent)
      ∙ later
      ∙ sym (ap (λ (t : Bool). some_depends_on_any w.processes (if t then own_instances parts else x.instance ∷ own_instances parts)) lent.0)

  pub passed_agree : (limit : ℕ) (parts : List Part) (fs : List Passed) → ArePassed lay p limit (part ∷ outer) parts fs →
      is_critical p (passed_frames fs) (live_criticals img.states img.regs) ≡ some_depends_on_any w.processes (own_instances parts)
  passed_agree limit [] [] are = refl
  passed_agree limit [] (g ∷ fs) are = absurd are
  passed_agree limit (x ∷ parts) [] are = absurd are
  passed_agree limit (x ∷ parts) (g ∷ fs) are = one_agrees x g.frame parts fs are.0.frame (passed_agree limit parts fs are.1)
