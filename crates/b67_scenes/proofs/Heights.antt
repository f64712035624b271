-- No two instances that stand have their frames at one place, and none has its own where an evaluation has one.
use Rattle.std.proofs.Common.{◌≡◌, ◌⊎◌, inl, inr, sym, ap, ◌∙◌, subst, ℕ, ◌+◌, ◌≤◌, List, [], ◌∷◌, length, Some, true, false, arith}
use Rattle.b67_list.proofs.Truths.{true_false}
use Rattle.b67_scenes.proofs.Prelude.{numbered, PProgram, scopes_of, is_evaluation, Instance, Process, Part, World, IsOk, IsWholeInstance, IsOwn, Word, Place, Code, place, Image, Yields, Texts, some_same, IsElsewhere, Lies, lies_around, lies_low, owned_frame, Layout, Frame, Around, PicturesBy}
use Rattle.b67_scenes.proofs.Worlds.{held_of}

module _ (tree : PProgram) (code : Code) (texts : Texts) (w : World) (lay : Layout) (p : ℕ) where
  -- the frame of an instance of these parts around lies below the end of these words
  pub own_low : (parts : List Part) (lower : List Word) (mark control : Word) (wanted : Yields) → Around tree code texts w lay p parts lower mark control wanted → (i : ℕ) → IsOwn parts i → (g : Place) →
      numbered lay.places i ≡ Some g → (g.stack ≡ p) × (g.at + 2 ≤ length lower)
  own_low parts lower mark control wanted a i own g laid =
      let l : Lies tree code texts w lay p parts i lower = lies_around tree code texts w lay p parts lower mark control wanted a i own in
      let same : g ≡ place p (length l.frame.lower) = some_same (sym laid ∙ ap (λ (k : ℕ). numbered lay.places k) (sym l.instance_is) ∙ l.owned.framed.laid) in
      (ap (λ (x : Place). x.stack) same, omega (arith, ap (λ (x : Place). x.at) same, lies_low tree code texts w lay p parts i lower l))

  -- the frame of a part that has an instance for its own is that of the instance
  pub head_at : (part : Part) (outer : List Part) (words : List Word) (f : Frame tree code texts w lay p part outer words) → is_evaluation part.purpose ≡ false → (i : ℕ) → part.instance ≡ i → (g : Place) →
      numbered lay.places i ≡ Some g → g ≡ place p (length f.lower)
  head_at part outer words f owns i same g laid =
      some_same (sym laid ∙ ap (λ (k : ℕ). numbered lay.places k) (sym same) ∙ (owned_frame tree code texts w lay p part outer words f owns).framed.laid)

  -- two of a frame's part and of those around are apart
  head_above : (part : Part) (outer : List Part) (words : List Word) (f : Frame tree code texts w lay p part outer words) → Around tree code texts w lay p outer f.lower f.mark f.control f.gives → (j : ℕ) → IsOwn outer j → (g : Place) →
      numbered lay.places j ≡ Some g → g ≡ place p (length f.lower) → ⊥
  head_above part outer words f a j own g laid same =
      absurd (omega (arith, ap (λ (x : Place). x.at) same, (own_low outer f.lower f.mark f.control f.gives a j own g laid).1))

  around_apart : (parts : List Part) (lower : List Word) (mark control : Word) (wanted : Yields) → Around tree code texts w lay p parts lower mark control wanted → (i j : ℕ) → IsOwn parts i → IsOwn parts j → (g : Place) →
      numbered lay.places i ≡ Some g → numbered lay.places j ≡ Some g → i ≡ j
  around_apart [] lower mark control wanted a i j x y g at there = absurd x
  around_apart (part ∷ outer) lower mark control wanted a i j (inl x) (inl y) g at there = sym x.1 ∙ y.1
  around_apart (part ∷ outer) lower mark control wanted a i j (inl x) (inr y) g at there =
      absurd (head_above part outer a.0.below a.0.frame a.1 j y g there (head_at part outer a.0.below a.0.frame x.0 i x.1 g at))
  around_apart (part ∷ outer) lower mark control wanted a i j (inr x) (inl y) g at there =
      absurd (head_above part outer a.0.below a.0.frame a.1 i x g at (head_at part outer a.0.below a.0.frame y.0 j y.1 g there))
  around_apart (part ∷ outer) lower mark control wanted a i j (inr x) (inr y) g at there =
      around_apart outer a.0.frame.lower a.0.frame.mark a.0.frame.control a.0.frame.gives a.1 i j x y g at there

  module _ (part : Part) (outer : List Part) (words : List Word) (f : Frame tree code texts w lay p part outer words) (a : Around tree code texts w lay p outer f.lower f.mark f.control f.gives) where
    own_apart : (i j : ℕ) → IsOwn (part ∷ outer) i → IsOwn (part ∷ outer) j → (g : Place) → numbered lay.places i ≡ Some g → numbered lay.places j ≡ Some g → i ≡ j
    own_apart i j (inl x) (inl y) g at there = sym x.1 ∙ y.1
    own_apart i j (inl x) (inr y) g at there = absurd (head_above part outer words f a j y g there (head_at part outer words f x.0 i x.1 g at))
    own_apart i j (inr x) (inl y) g at there = absurd (head_above part outer words f a i x g at (head_at part outer words f y.0 j y.1 g there))
    own_apart i j (inr x) (inr y) g at there = around_apart outer f.lower f.mark f.control f.gives a i j x y g at there

    -- the place of an own instance lies in the process's stack
    own_stack : (i : ℕ) → IsOwn (part ∷ outer) i → (g : Place) → numbered lay.places i ≡ Some g → g.stack ≡ p
    own_stack i (inl x) g laid = ap (λ (y : Place). y.stack) (head_at part outer words f x.0 i x.1 g laid)
    own_stack i (inr x) g laid = (own_low outer f.lower f.mark f.control f.gives a i x g laid).0

    module _ (img : Image) (by : PicturesBy tree code texts w lay img) (ok : IsOk (scopes_of tree) IsWholeInstance w) (q : Process) (is : numbered w.processes p ≡ Some q) (todo : q.todo ≡ part ∷ outer) where
      held : (j : ℕ) (x : Instance) → numbered w.instances j ≡ Some x → x.left ≡ false → IsOwn (part ∷ outer) j ⊎ IsElsewhere lay p j
      held j x there stands = subst (λ (ps : List Part). IsOwn ps j ⊎ IsElsewhere lay p j) todo (held_of tree code texts w lay img by ok p q is j x there stands)

      -- who stands where an own instance has its frame is that instance
      pub alone_there : (i : ℕ) → IsOwn (part ∷ outer) i → (g : Place) → numbered lay.places i ≡ Some g → (j : ℕ) (x : Instance) → numbered w.instances j ≡ Some x → x.left ≡ false → numbered lay.places j ≡ Some g → j ≡ i
      alone_there i own g at j x there stands laid = by_place (held j x there stands)
        where
          by_place : IsOwn (part ∷ outer) j ⊎ IsElsewhere lay p j → j ≡ i
          by_place (inl also) = own_apart j i also own g laid at
          by_place (inr elsewhere) = absurd (elsewhere g laid (own_stack i own g at))

      -- nobody stands where an evaluation has its frame
      pub none_there : is_evaluation part.purpose ≡ true → (j : ℕ) (x : Instance) → numbered w.instances j ≡ Some x → x.left ≡ false → (g : Place) → numbered lay.places j ≡ Some g → g ≡ place p (length f.lower) → ⊥
      none_there evaluates j x there stands g laid same = by_place (held j x there stands)
        where
          by_place : IsOwn (part ∷ outer) j ⊎ IsElsewhere lay p j → ⊥
          by_place (inl (inl own)) = true_false evaluates own.0
          by_place (inl (inr own)) = head_above part outer words f a j own g laid same
          by_place (inr elsewhere) = elsewhere g laid (ap (λ (y : Place). y.stack) same)
