-- The frames of each process that lives lie one on the other in an image, and the walk down the path of a process finds the frame of the first
-- instance there that is referred to.
use Rattle.std.proofs.Common.{◌≡◌, inl, refl, sym, ap, ◌∙◌, subst, ℕ, ◌+◌, ◌<◌, ◌≤◌, Bool, true, false, List, [], ◌∷◌, ◌++◌, length, Option, Some, arith, append_assoc}
use Rattle.b67_list.proofs.Lists.{get_front, get_within as get_below}
use Rattle.b67_list.proofs.Truths.{true_false}
use Rattle.b67_scenes.proofs.Prelude.{if◌then◌else◌, slice_get, numbered, PProgram, Scopes, scopes_of, is_evaluation, own_instances, Instance, Process, Part, State, lives, World, instance_at, or_no_instance, stack_forth, IsOk, IsInSkeleton, FirstOf, newest_own, skeleton, stack_of, IsStanding, IsWholeInstance, Word, Place, Code, word_at, place, Image, critical_in, Texts, steps_stay_above, Above, some_same, IsAmongPlaces, FirstDown, get_seam, HasFacts, facts_of, begins_core, owned_frame, Layout, FrameStands, Around, Frames, CriticalIs, Living, Pictured, living, dead, PicturesBy, CoreReaches, ReachesFor}
use Rattle.algol_standing.proofs.Left.{references_lie_on_paths}
use Rattle.b67_rows.proofs.Begun.{numbered_few}
use Rattle.b67_rows.proofs.Numbers.{get_within}
use Rattle.b67_scenes.specs.Reaches as reaching
use Rattle.b67_scenes.proofs.Finding.{Found, found_laid, found_process, found_there}
use Rattle.b67_scenes.proofs.PathDown.{DependsOn, path_found}
use Rattle.b67_scenes.proofs.Staying.{frame_low}
use Rattle.b67_scenes.proofs.TowerOf.{LastOwns, tower_of}
use Rattle.b67_scenes.proofs.Towers.{Tower}
use Rattle.b67_scenes.proofs.Worlds.{in_stack}

module _ (tree : PProgram) (code : Code) (texts : Texts) (w : World) (lay : Layout) (img : Image) (by : PicturesBy tree code texts w lay img) (ok : IsOk (scopes_of tree) IsWholeInstance w) where
  abbrev sc : Scopes
  sc = scopes_of tree

  facts : HasFacts w
  facts = facts_of sc w ok

  -- the last part of a process is no evaluation, since no instance would stand where it is done
  pub last_owns : (r : ℕ) (y : Process) → numbered w.processes r ≡ Some y → (newer parts : List Part) → y.todo ≡ newer ++ parts → LastOwns tree code texts w lay r img.stacks parts
  last_owns r y is newer [] todo = tt
  last_owns r y is newer (part ∷ []) todo = by_purpose (is_evaluation part.purpose) refl
    where
      nobody_there : newest_own (part ∷ []) ≡ 0 → ⊥
      nobody_there none =
          let inside = ((references_lie_on_paths sc w ok).parts r y newer [] part part.instance is todo (inl refl)).0 in
          facts.nobody (record { number = r; stack = stack_of y; is = stack_forth w r y is; inside = subst (λ (i : ℕ). IsInSkeleton (own_instances y.todo) i) none inside })

      by_purpose : (b : Bool) → is_evaluation part.purpose ≡ b → is_evaluation part.purpose ≡ false
      by_purpose true e = absurd (nobody_there (ap (λ (b : Bool). if b then newest_own [] else part.instance) e))
      by_purpose false e = e
  last_owns r y is newer (part ∷ next ∷ parts) todo = last_owns r y is (newer ++ part ∷ []) (next ∷ parts) (todo ∙ sym (append_assoc newer (part ∷ []) (next ∷ parts)))

  -- ---- the frames of a process

  -- A process that lives, and its innermost part.
  pub record ProcessThere : Type 0 where
    pub number : ℕ
    pub process : Process
    pub is : numbered w.processes number ≡ Some process
    pub living : Living tree code texts w lay img number process
    pub part : Part
    pub outer : List Part
    pub todo : process.todo ≡ part ∷ outer
    pub stands : FrameStands tree code texts w lay number part outer living.settled
    pub around : Around tree code texts w lay number outer stands.frame.lower stands.frame.mark stands.frame.control stands.frame.gives

  module _ (standing : ProcessThere) where
    open standing use {number as r, process as y, is, living as l, part, outer, todo, stands as s, around as a}

    abbrev high : ℕ
    high = length s.frame.lower

    -- the mark and the control word of the innermost frame lie below the floor
    two_low : CoreReaches sc w lay r part l.core l.settled → high + 2 ≤ length l.core.below
    two_low (reaching.all same) = omega (arith, same, frame_low tree code texts w lay r part outer l.settled.below s.frame)
    two_low (reaching.low at owns laid enough is_low) = omega (arith, top_is owns at laid, enough)
      where
        top_is : is_evaluation part.purpose ≡ false → (at : ℕ) → numbered lay.places part.instance ≡ Some (place r at) → at ≡ high
        top_is owns at laid = ap (λ (g : Place). g.at) (some_same (sym laid ∙ (owned_frame tree code texts w lay r part outer l.settled.below s.frame owns).framed.laid))
    two_low (reaching.none_yet at owns laid enough free) = omega (arith, top_is owns at laid, enough)
      where
        top_is : is_evaluation part.purpose ≡ false → (at : ℕ) → numbered lay.places part.instance ≡ Some (place r at) → at ≡ high
        top_is owns at laid = ap (λ (g : Place). g.at) (some_same (sym laid ∙ (owned_frame tree code texts w lay r part outer l.settled.below s.frame owns).framed.laid))

    above : Above code l.bound l.count l.core l.settled
    above = steps_stay_above code l.bound l.count l.core l.settled l.has.is l.steps

    -- what lies lower where it settles, lies in the stack
    settled_there : CoreReaches sc w lay r part l.core l.settled → (n : ℕ) (x : Word) → n < high + 2 → slice_get l.settled.below n ≡ Some x → word_at img.stacks (place r n) ≡ Some x
    settled_there reach n x low e =
        let there : (v : Word) × (slice_get l.core.below n ≡ Some v) = get_within l.core.below n (omega (arith, low, two_low reach)) in
        let same : there.0 ≡ x = some_same (sym (get_front l.core.below above.cells n there.0 there.1) ∙ ap (λ (ws : List Word). slice_get ws n) (sym above.below) ∙ e) in
        begins_core img r l.core l.has n x (there.1 ∙ ap (λ (v : Word). Some v) same)

    pub frames_tower : CoreReaches sc w lay r part l.core l.settled → Tower img.stacks lay r y.todo (length s.frame.lower)
    frames_tower reach =
        subst (λ (parts : List Part). Tower img.stacks lay r parts high) (sym todo)
        (tower_of tree code texts w lay r img.stacks part outer l.settled.below s.frame a (last_owns r y is [] (part ∷ outer) todo)
        (settled_there reach high s.frame.mark (omega arith) (ap (λ (ws : List Word). slice_get ws high) s.frame.words_are ∙ get_seam s.frame.lower s.frame.mark (s.frame.control ∷ s.frame.cells) high refl))
        (λ n x e. settled_there reach n x (let low = get_below s.frame.lower n x e in omega (arith, low))
        (ap (λ (ws : List Word). slice_get ws n) s.frame.words_are ∙ get_front s.frame.lower (s.frame.mark ∷ s.frame.control ∷ s.frame.cells) n x e))
        (omega (arith, two_low reach, l.small)))

  -- those of each that lives
  pub towers : (r : ℕ) (y : Process) → numbered w.processes r ≡ Some y → lives y.state ≡ true → (f : ℕ) × Tower img.stacks lay r y.todo f
  towers r y is alive = by_picture (by.each r y is)
    where
      by_parts : (parts : List Part) → y.todo ≡ parts → (l : Living tree code texts w lay img r y) → Frames tree code texts w lay r parts l.settled → ReachesFor sc w lay r parts l.core l.settled → (f : ℕ) × Tower img.stacks lay r y.todo f
      by_parts [] todo l f reach = absurd f
      by_parts (part ∷ outer) todo l f reach = (length f.0.frame.lower, frames_tower (record { number = r; process = y; is = is; living = l; part = part; outer = outer; todo = todo; stands = f.0; around = f.1 }) reach)

      by_picture : Pictured tree code texts w lay img r y → (f : ℕ) × Tower img.stacks lay r y.todo f
      by_picture (living able_is s l) = by_parts y.todo refl l l.frames l.reaches
      by_picture (dead ended_is s) = true_false alive (ap (λ (x : State). lives x) ended_is)

  -- ---- the critical instances

  pub depends_there : (r c : ℕ) (y : Process) → numbered w.processes r ≡ Some y → lives y.state ≡ true → y.critical ≡ Some c → DependsOn lay img r c
  depends_there r c y is alive critical = by_picture (by.each r y is)
    where
      stands : IsStanding w c
      stands = ok.sound.skeleton_ok.holds r (stack_of y) c (stack_forth w r y is) alive critical

      found : Found tree code texts w lay img c
      found = found_there tree code texts w lay img by ok c (in_stack tree code texts w lay img by ok c stands)

      -- it is one of an earlier process
      earlier : found.number < r
      earlier =
          let x = facts.there c stands in
          let before : (instance_at w c).process < r = ok.sound.earlier r c y is critical in
          let number : (instance_at w c).process ≡ found.number = ap (λ (o : Option Instance). (or_no_instance o).process) x.1 ∙ found_process tree code texts w lay img c found x.0 x.1 in
          omega (arith, before, number)

      by_place : (l : Living tree code texts w lay img r y) → CriticalIs lay (Some c) l.core.registers.critical → DependsOn lay img r c
      by_place l told =
          let same : told.0 ≡ place found.number (length found.lies.frame.lower) = some_same (sym told.2 ∙ found_laid tree code texts w lay img c found) in
          record {
            frame = told.0;
            critical = ap critical_in l.has.registers ∙ told.1;
            laid = told.2;
            some = omega (arith, ap (λ (x : Place). x.stack) same, (numbered_few w.processes found.number found.process found.is).0);
            earlier = omega (arith, ap (λ (x : Place). x.stack) same, earlier);
          }

      by_picture : Pictured tree code texts w lay img r y → DependsOn lay img r c
      by_picture (living able_is s l) = by_place l (subst (λ (o : Option ℕ). CriticalIs lay o l.core.registers.critical) critical l.critical)
      by_picture (dead ended_is s) = true_false alive (ap (λ (x : State). lives x) ended_is)

  -- ---- the walk

  pub path_there : (refs : List ℕ) (wanted : List Place) → ((i : ℕ) (g : Place) → IsInSkeleton refs i → numbered lay.places i ≡ Some g → IsAmongPlaces wanted g) →
      ((g : Place) → IsAmongPlaces wanted g → (i : ℕ) × IsInSkeleton refs i × IsStanding w i × (numbered lay.places i ≡ Some g)) →
      (p a c : ℕ) (q : Process) → numbered w.processes p ≡ Some q → lives q.state ≡ true → (f : ℕ) → Tower img.stacks lay p q.todo f → (rest : List ℕ) → own_instances q.todo ≡ a ∷ rest → FirstOf (skeleton w) refs a c →
      (g : Place) × (numbered lay.places c ≡ Some g) × FirstDown img wanted (place p f) g
  path_there refs wanted to back p a c q is alive f tower rest own first =
      path_found w ok.sound.skeleton_ok lay img towers depends_there refs wanted to back p a c q is alive f tower rest own first
