-- What holds of a world that is pictured, and is as worlds are: an evaluation in an instance that has not made all keeps to what is around it.
use Rattle.std.proofs.Common.{◌≡◌, ◌≢◌, ◌⊎◌, inl, inr, refl, sym, ap, ◌∙◌, subst, ℕ, zero, suc, Bool, true, false, List, [], ◌∷◌, length, Some}
use Rattle.b67_list.proofs.Truths.{true_false}
use Rattle.b67_scenes.proofs.Prelude.{if◌then◌else◌, slice_get, numbered, PProgram, Scopes, scopes_of, is_evaluation, own_instances, Instance, Process, Part, State, lives, World, instance_at, or_no_instance, all_to_make, IsSeenAround, InRest, map_back, stack_forth, parent_path, stands_path, IsOk, IsInSkeleton, Stack, IsAmongParts, IsNoBlock, IsOwn, IsStanding, IsWholeInstance, skeleton, stack_of, Word, Place, Code, place, Image, Yields, Texts, Core, some_same, same_or_not, complete_of, IsElsewhere, owned_frame, Lies, lies_in, Layout, IsComplete, IsNarrow, ArePlaced, Frame, Around, Frames, Owned, Pictured, living, dead, PicturesBy}
use Rattle.algol_standing.specs.Worlds as worlds
use Rattle.algol_standing.proofs.Seen.{there as there_is}
use Rattle.b67_frames.specs.Frames as frames
use Rattle.b67_frames.specs.Frames.{FrameIsPlaced}

-- where no part has an instance of its own, none of these has
none_own : (parts : List Part) (part : Part) → own_instances parts ≡ [] → IsAmongParts parts part → is_evaluation part.purpose ≡ false → ⊥
none_own [] part none among owns = absurd among
none_own (x ∷ parts) part none among owns = by (is_evaluation x.purpose) refl none among (none_own parts part)
  where
    by : (t : Bool) → is_evaluation x.purpose ≡ t → (if t then own_instances parts else x.instance ∷ own_instances parts) ≡ [] → (x ≡ part) ⊎ IsAmongParts parts part →
        (own_instances parts ≡ [] → IsAmongParts parts part → is_evaluation part.purpose ≡ false → ⊥) → ⊥
    by false e clash among later = cc
    by true e none (inr more) later = later none more owns
    by true e none (inl same) later = true_false e (ap (λ (y : Part). is_evaluation y.purpose) same ∙ owns)

-- an own instance is one of a part
pub own_listed : (parts : List Part) (j : ℕ) → IsInSkeleton (own_instances parts) j → IsOwn parts j
own_listed [] j inside = absurd inside
own_listed (part ∷ parts) j inside = by (is_evaluation part.purpose) refl inside (own_listed parts j)
  where
    by : (t : Bool) → is_evaluation part.purpose ≡ t → IsInSkeleton (if t then own_instances parts else part.instance ∷ own_instances parts) j → (IsInSkeleton (own_instances parts) j → IsOwn parts j) → IsOwn (part ∷ parts) j
    by true e more later = inr (later more)
    by false e (inl same) later = inl (e, same)
    by false e (inr more) later = inr (later more)

module _ (tree : PProgram) (code : Code) (texts : Texts) (w : World) (lay : Layout) where
  abbrev sc : Scopes
  sc = scopes_of tree

  -- ---- a part that has nothing to make has its instance complete

  module _ (p : ℕ) where
    frame_complete : (part : Part) (outer : List Part) (words : List Word) → Frame tree code texts w lay p part outer words → is_evaluation part.purpose ≡ false → all_to_make part.rest ≡ [] → IsComplete sc w lay part.instance
    frame_complete part outer words f owns made =
        let o : Owned tree code texts w lay p part outer (length f.lower) f.mark f.control f.cells = owned_frame tree code texts w lay p part outer words f owns in
        complete_of sc w lay p part.instance outer (length f.lower) f.mark f.control f.cells o.framed (o.making ∙ made)

    -- .. by another name
    same_complete : (x part : Part) → x ≡ part → (is_evaluation x.purpose ≡ false → all_to_make x.rest ≡ [] → IsComplete sc w lay x.instance) → is_evaluation part.purpose ≡ false → all_to_make part.rest ≡ [] →
        IsComplete sc w lay part.instance
    same_complete x part same h owns made =
        subst (λ (y : Part). IsComplete sc w lay y.instance) same
        (h (ap (λ (y : Part). is_evaluation y.purpose) same ∙ owns) (ap (λ (y : Part). all_to_make y.rest) same ∙ made))

    around_complete : (parts : List Part) (lower : List Word) (mark control : Word) (wanted : Yields) → Around tree code texts w lay p parts lower mark control wanted → (part : Part) → IsAmongParts parts part →
        is_evaluation part.purpose ≡ false → all_to_make part.rest ≡ [] → IsComplete sc w lay part.instance
    around_complete [] lower mark control wanted a part among owns made = absurd among
    around_complete (x ∷ outer) lower mark control wanted a part (inl same) owns made =
        same_complete x part same (frame_complete x outer a.0.below a.0.frame) owns made
    around_complete (x ∷ outer) lower mark control wanted a part (inr later) owns made =
        around_complete outer a.0.frame.lower a.0.frame.mark a.0.frame.control a.0.frame.gives a.1 part later owns made

    frames_complete : (parts : List Part) (core : Core) → Frames tree code texts w lay p parts core → (part : Part) → IsAmongParts parts part → is_evaluation part.purpose ≡ false → all_to_make part.rest ≡ [] →
        IsComplete sc w lay part.instance
    frames_complete [] core f part among owns made = absurd among
    frames_complete (x ∷ outer) core f part (inl same) owns made = same_complete x part same (frame_complete x outer core.below f.0.frame) owns made
    frames_complete (x ∷ outer) core f part (inr later) owns made =
        around_complete outer f.0.frame.lower f.0.frame.mark f.0.frame.control f.0.frame.gives f.1 part later owns made

  -- what a part has still to do keeps to what is around its block
  abbrev IsAround : Part → Type 0
  IsAround part = InRest (IsSeenAround sc ((instance_at w part.instance).block)) IsNoBlock (IsSeenAround sc ((instance_at w part.instance).block)) part.rest

  module _ (img : Image) (by : PicturesBy tree code texts w lay img) (ok : IsOk (scopes_of tree) IsWholeInstance w) where
    -- an instance that is whole is complete
    pub whole_complete : (i : ℕ) → IsWholeInstance w i → IsComplete sc w lay i
    whole_complete i h = by_picture (by.each h.number h.process h.is)
      where
        by_picture : Pictured tree code texts w lay img h.number h.process → IsComplete sc w lay i
        by_picture (living able_is s l) = subst (λ (j : ℕ). IsComplete sc w lay j) h.instance_is (frames_complete h.number h.process.todo l.settled l.frames h.part h.among h.owns h.made)
        by_picture (dead ended_is s) =
            absurd (none_own h.process.todo h.part
            (ok.sound.skeleton_ok.ended h.number (stack_of h.process) (stack_forth w h.number h.process h.is) (ap (λ (x : State). lives x) ended_is)) h.among h.owns)

    -- the instances that stand have the parents that their blocks ask for
    pub placed_of : ArePlaced (scopes_of tree) w lay
    placed_of i st =
        let x = there_is sc IsWholeInstance w ok.sound i st in
        subst (λ (y : Instance). FrameIsPlaced sc w lay y) (sym (ap or_no_instance x.1)) (by_placed x.0 x.1 (ok.sound.instances i x.0 x.1).placed)
      where
        by_placed : (x : Instance) → numbered w.instances i ≡ Some x → worlds.PartIsPlaced sc w x → FrameIsPlaced sc w lay x
        by_placed x is (worlds.outermost none alone) = frames.outermost none alone
        by_placed x is (worlds.inside one next) =
            frames.inside (stands_path (skeleton w) ok.sound.skeleton_ok i x.parent st (parent_path sc IsWholeInstance w ok.sound i x st is one)) next (whole_complete x.parent ((ok.sound.instances i x is).whole st one))

    pub narrow_of : (p : ℕ) (q : Process) → numbered w.processes p ≡ Some q → (part : Part) (outer : List Part) → q.todo ≡ part ∷ outer → IsNarrow sc w lay part
    narrow_of p q at part outer todo evaluates =
        by_world (((ok.sound.processes p q at).parts part (subst (λ (parts : List Part). IsAmongParts parts part) (sym todo) (inl refl))).narrow evaluates)
      where
        by_world : IsWholeInstance w part.instance ⊎ IsAround part → IsComplete sc w lay part.instance ⊎ IsAround part
        by_world (inl whole) = inl (whole_complete part.instance whole)
        by_world (inr around) = inr around

    -- ---- where the instances that stand lie

    -- a process has this instance in its stack
    pub record IsInStack (j : ℕ) : Type 0 where
      pub number : ℕ
      pub process : Process
      pub is : numbered w.processes number ≡ Some process
      pub inside : IsInSkeleton (own_instances process.todo) j

    pub in_stack : (j : ℕ) → IsStanding w j → IsInStack j
    in_stack j st = by_number st.number st.is
      where
        by_number : (n : ℕ) → slice_get (skeleton w).stacks n ≡ Some st.stack → IsInStack j
        by_number zero e = absurd (subst (λ (x : Stack). IsInSkeleton x.own j) (sym (some_same e)) st.inside)
        by_number (suc k) e =
            let back = map_back stack_of w.processes k st.stack e in
            record { number = suc k; process = back.0; is = back.1; inside = subst (λ (x : Stack). IsInSkeleton x.own j) back.2 st.inside }

    -- its frame lies in that
    pub frame_there : (j : ℕ) (h : IsInStack j) → (at : ℕ) × (numbered lay.places j ≡ Some (place h.number at))
    frame_there j h = by_picture (by.each h.number h.process h.is)
      where
        by_frames : (parts : List Part) (core : Core) → Frames tree code texts w lay h.number parts core → IsOwn parts j → (at : ℕ) × (numbered lay.places j ≡ Some (place h.number at))
        by_frames [] core f own = absurd f
        by_frames (part ∷ outer) core f own =
            let l : Lies tree code texts w lay h.number (part ∷ outer) j core.below = lies_in tree code texts w lay h.number part outer core f.0 f.1 j own in
            (length l.frame.lower, ap (λ (k : ℕ). numbered lay.places k) (sym l.instance_is) ∙ l.owned.framed.laid)

        by_picture : Pictured tree code texts w lay img h.number h.process → (at : ℕ) × (numbered lay.places j ≡ Some (place h.number at))
        by_picture (living able_is s l) = by_frames h.process.todo l.settled l.frames (own_listed h.process.todo j h.inside)
        by_picture (dead ended_is s) =
            absurd (subst (λ (is : List ℕ). IsInSkeleton is j)
            (ok.sound.skeleton_ok.ended h.number (stack_of h.process) (stack_forth w h.number h.process h.is) (ap (λ (x : State). lives x) ended_is)) h.inside)

    -- an instance that stands is an own one of this process's parts, or its frame lies in another stack
    pub held_of : (p : ℕ) (q : Process) → numbered w.processes p ≡ Some q → (j : ℕ) (x : Instance) → numbered w.instances j ≡ Some x → x.left ≡ false → IsOwn q.todo j ⊎ IsElsewhere lay p j
    held_of p q at j x is stands = by_number (in_stack j ((ok.sound.instances j x is).left.0 stands))
      where
        by_number : IsInStack j → IsOwn q.todo j ⊎ IsElsewhere lay p j
        by_number h = by_same (same_or_not h.number p)
          where
            by_same : (h.number ≡ p) ⊎ (h.number ≢ p) → IsOwn q.todo j ⊎ IsElsewhere lay p j
            by_same (inl same) =
                let process_is : h.process ≡ q = some_same (sym h.is ∙ ap (λ (n : ℕ). numbered w.processes n) same ∙ at) in
                inl (subst (λ (o : Process). IsOwn o.todo j) process_is (own_listed h.process.todo j h.inside))
            by_same (inr other) =
                let f = frame_there j h in
                inr (λ (g : Place) (laid : numbered lay.places j ≡ Some g). λ (stack_is : g.stack ≡ p).
                other (ap (λ (x : Place). x.stack) (some_same (sym f.1 ∙ laid)) ∙ stack_is))
