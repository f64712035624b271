-- How much a process that stands at its action may look at: of each instance on the path from its newest, all cells but those that another process
-- is making, and of these the ones that are there.
use Rattle.std.proofs.Common.{◌≡◌, ◌≢◌, ◌⊎◌, inl, inr, refl, sym, ap, ◌∙◌, subst, ℕ, suc, ◌+◌, ◌<◌, ◌≤◌, List, [], ◌∷◌, length, Some, arith, append-nil}
use Rattle.b67_scenes.proofs.Prelude.{slice_get, numbered, block_numbered, PProgram, scopes_of, own_instances, Instance, Process, Part, instance_at, stack_forth, top_stands, IsLow, IsInSkeleton, IsStanding, IsOnPath, IsOwn, stack_of, newest_own, IsWholeInstance, Word, Code, word_at, place, made_base, Texts, some_same, same_or_not, IsNearStack, lies_low, lies_in, IsInReach}
use Rattle.algol_standing.proofs.Seen.{top_inside}
use Rattle.b67_scenes.proofs.Finding.{Shows, wholly, but_made, two_words, Found, found_process, word_sees, find}
use Rattle.b67_scenes.proofs.Scene.{Actor}
use Rattle.b67_scenes.proofs.Worlds.{own_listed}
use Rattle.b67_scenes.proofs.Paths.{path_stands}
use Rattle.b67_scenes.proofs.Depended.{number_is, path_near}
use Rattle.b67_scenes.proofs.Unseen.{newest_alone}

module _ (tree : PProgram) (code : Code) (texts : Texts) (actor : Actor tree code texts) where
  open actor use {w, lay, img, p, q, part, outer, core, s}

  abbrev FoundThere : ℕ → Type 0
  FoundThere i = Found tree code texts w lay img i

  -- an own instance is found where the process stands
  pub own_found : (i : ℕ) → IsOwn (part ∷ outer) i → Found tree code texts w lay img i
  own_found i own =
      record {
        number = p;
        process = q;
        is = s.at;
        part = part;
        outer = outer;
        todo = s.todo;
        own = own;
        core = core;
        has = s.has;
        small = s.small;
        settled = core.below;
        to_come = [];
        settles = sym (append-nil core.below);
        lies = lies_in tree code texts w lay p part outer core s.stands s.around i own;
        shows = wholly (lies_low tree code texts w lay p (part ∷ outer) i core.below (lies_in tree code texts w lay p part outer core s.stands s.around i own));
      }

  -- who is found in the process's stack is one of its own
  pub found_own : (i : ℕ) (f : Found tree code texts w lay img i) → f.number ≡ p → IsOwn (part ∷ outer) i
  found_own i f same =
      let process : f.process ≡ q = some_same (sym f.is ∙ ap (λ (n : ℕ). numbered w.processes n) same ∙ s.at) in
      subst (λ (parts : List Part). IsOwn parts i) (sym f.todo ∙ ap (λ (o : Process). o.todo) process ∙ s.todo) f.own

  -- and another is none of its own
  pub found_other : (i : ℕ) (f : Found tree code texts w lay img i) → f.number ≢ p → IsOwn (part ∷ outer) i → ⊥
  unfolding own_found
  found_other i f other own =
      let x : Instance = f.lies.owned.framed.instance in
      let is : numbered w.instances i ≡ Some x = ap (λ (j : ℕ). numbered w.instances j) (sym f.lies.instance_is) ∙ f.lies.owned.framed.is in
      other (sym (found_process tree code texts w lay img i f x is) ∙ found_process tree code texts w lay img i (own_found i own) x is)

  -- ---- whose stack it is in

  -- the newest own one is found in the process's stack
  newest_number : (f : Found tree code texts w lay img (newest_own (part ∷ outer))) → f.number ≡ p
  newest_number f =
      number_is tree code texts w lay img s.by s.ok (newest_own (part ∷ outer)) p (stack_of q) (stack_forth w p q s.at)
      (subst (λ (parts : List Part). IsInSkeleton (own_instances parts) (newest_own (part ∷ outer))) (sym s.todo) (top_inside (scopes_of tree) IsWholeInstance w s.ok.sound p q part outer s.at s.todo)) f

  -- what is in reach lies in that, or in a stack on which somebody depends
  pub in_reach_near : (i : ℕ) → IsInReach w (part ∷ outer) i → (f : Found tree code texts w lay img i) → IsNearStack p img f.number
  in_reach_near i path f =
      let st : IsStanding w (newest_own (part ∷ outer)) = top_stands (scopes_of tree) IsWholeInstance w s.ok.sound p q part outer s.at s.todo in
      let top : Found tree code texts w lay img (newest_own (part ∷ outer)) = find tree code texts w lay img s.by s.ok (newest_own (part ∷ outer)) st in
      path_near tree code texts w lay img s.by s.ok p (newest_own (part ∷ outer)) i path st top (inl (newest_number top)) f

  -- ---- what is seen

  -- How much the process may look at of a frame that is found: all of it, or all but cells that are made, where another process is making them.
  pub data Sees (i : ℕ) (f : Found tree code texts w lay img i) : Type 0 where
    sees_all : length f.lies.frame.lower + 2 + length f.lies.frame.cells ≤ length f.core.below → Sees i f
    sees_low : (IsOwn (part ∷ outer) i → ⊥) → length f.lies.frame.lower + made_base (scopes_of tree) (block_numbered (scopes_of tree).blocks ((instance_at w i).block)) ≤ length f.core.below →
        IsLow (scopes_of tree) w i → Sees i f

  pub record Seen (i : ℕ) : Type 0 where
    pub found : Found tree code texts w lay img i
    pub sees : Sees i found
    pub near : IsNearStack p img found.number

  pub own_seen : (i : ℕ) → IsOwn (part ∷ outer) i → Seen i
  unfolding own_found
  own_seen i own =
      record {
        found = own_found i own;
        sees = sees_all (lies_low tree code texts w lay p (part ∷ outer) i core.below (lies_in tree code texts w lay p part outer core s.stands s.around i own));
        near = inl refl;
      }

  module _ (i : ℕ) (path : IsInReach w (part ∷ outer) i) where
    module _ (f : Found tree code texts w lay img i) (other : f.number ≢ p) where
      -- it is not the newest of another, where that is on no path of this one
      not_newest : ((j : ℕ) → IsOnPath w j i → j ≡ i) → ⊥
      not_newest alone =
          found_other i f other
          (own_listed (part ∷ outer) i
          (subst (λ (j : ℕ). IsInSkeleton (own_instances (part ∷ outer)) j) (alone (newest_own (part ∷ outer)) path) (top_inside (scopes_of tree) IsWholeInstance w s.ok.sound p q part outer s.at s.todo)))

      sees_other : Shows tree code texts w lay img f.process i (length f.lies.frame.lower) (length f.lies.frame.cells) f.core → Sees i f
      sees_other (wholly h) = sees_all h
      sees_other (but_made h is_low) = sees_low (found_other i f other) h is_low
      sees_other (two_words h older newest free) = absurd (not_newest (newest_alone (scopes_of tree) w f.number f.process i older s.ok f.is newest free))

    in_reach_stands : IsStanding w i
    in_reach_stands = path_stands (scopes_of tree) w s.ok (newest_own (part ∷ outer)) i (top_stands (scopes_of tree) IsWholeInstance w s.ok.sound p q part outer s.at s.todo) path

    -- what is in reach is seen
    pub seen : Seen i
    seen = by_number (find tree code texts w lay img s.by s.ok i in_reach_stands) (same_or_not (find tree code texts w lay img s.by s.ok i in_reach_stands).number p)
      where
        by_number : (f : FoundThere i) → (f.number ≡ p) ⊎ (f.number ≢ p) → Seen i
        by_number f (inl same) = own_seen i (found_own i f same)
        by_number f (inr other) = record { found = f; sees = sees_other f other f.shows; near = in_reach_near i path f }

  -- ---- words and places

  module _ (i : ℕ) (h : Seen i) where
    abbrev high : ℕ
    high = length h.found.lies.frame.lower

    -- a cell that is not made lies below the floor
    pub cell_below : (n : ℕ) → n < length h.found.lies.frame.cells → 2 + n < made_base (scopes_of tree) (block_numbered (scopes_of tree).blocks ((instance_at w i).block)) →
        length h.found.lies.frame.lower + (2 + n) < length h.found.core.below
    cell_below n within low = by_sees h.sees
      where
        by_sees : Sees i h.found → high + (2 + n) < length h.found.core.below
        by_sees (sees_all x) = omega (arith, x, within)
        by_sees (sees_low other x is_low) = omega (arith, x, low)

    -- so does a cell that is made, where what leads there leads to no instance in which another process is making cells
    pub made_below : (n : ℕ) → n < length h.found.lies.frame.cells → ((IsOwn (part ∷ outer) i → ⊥) → IsLow (scopes_of tree) w i → ⊥) →
        length h.found.lies.frame.lower + (2 + n) < length h.found.core.below
    made_below n within leads = by_sees h.sees
      where
        by_sees : Sees i h.found → high + (2 + n) < length h.found.core.below
        by_sees (sees_all x) = omega (arith, x, within)
        by_sees (sees_low other x is_low) = absurd (leads other is_low)

    -- and there it lies in the stack
    pub cell_lies : (n : ℕ) (word : Word) → slice_get h.found.lies.frame.cells n ≡ Some word → length h.found.lies.frame.lower + (2 + n) < length h.found.core.below →
        word_at img.stacks (place h.found.number (length h.found.lies.frame.lower + (2 + n))) ≡ Some word
    cell_lies n word e low =
        let as_far : high + suc (suc n) ≡ high + (2 + n) = omega arith in
        ap (λ (k : ℕ). word_at img.stacks (place h.found.number k)) (sym as_far) ∙ word_sees tree code texts w lay img i h.found (suc (suc n)) word e (omega (arith, low))
