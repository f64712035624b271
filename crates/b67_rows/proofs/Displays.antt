-- The links from a frame down to the system's stack, and the display that is made along them.
use Rattle.std.proofs.Common.{◌≡◌, refl, ap, ◌∙◌, ℕ, zero, suc, ◌+◌, ◌-◌, ◌≤◌, List, [], ◌∷◌, length, Option, Some, None, Bool, true, Ok, arith}
use Rattle.b67_list.proofs.Numbers.{number_told}
use Rattle.b67_rows.proofs.Prelude.{if◌then◌else◌, slice_get, Place, as_mscw, as_rcw, place_at, Mscw, Rcw, Stacks, word_at, place, mark_at, control_at, link_of, linked, rebuilt, chain_broken, Look, found, ◌>->◌, chained, read_as, look_seen}
use Rattle.std.specs.Prelude.{slice_index_or, replicate}
use Rattle.b67_control.specs.Display.{levels}
use Rattle.b67_table.specs.Chains.{if_own, links}
use Rattle.b67_rows.proofs.StoreRow.{most_is}

-- a mark that is entered and linked to its home
abbrev pub entered_to : Place → ℕ → Mscw
entered_to home df = record { entered = true; stack = home.stack; displacement = home.at; df = df }

module _ (stacks : Stacks) where
  -- a frame of a level stands at a place: its mark is entered, and linked to its home
  pub record IsEntered (f home : Place) (level : ℕ) : Type 0 where
    pub df : ℕ
    pub marked : read_as as_mscw (word_at stacks f) ≡ Some (entered_to home df)
    pub control : Rcw
    pub controlled : read_as as_rcw (word_at stacks (place f.stack (f.at + 1))) ≡ Some control
    pub level_is : control.own_level ≡ level

  -- links lead from a place along these frames, the first of the highest level, down to the system's stack
  pub data Links : Place → List Place → Type 0 where
    root : Links (place 0 0) []
    onward : {f home : Place} {more : List Place} → IsEntered f home (length more + 2) → Links home more → Links f (f ∷ more)

-- the frames of a display above others, the first of the highest level
abbrev pub onto : List Place → List (Option Place) → List (Option Place)
onto [] known = known
onto (f ∷ fs) known = onto fs (Some f ∷ known)

module _ {stacks : Stacks} where
  pub links_seen : (link : Place) (frames : List Place) (known : List (Option Place)) → Links stacks link frames → look_seen stacks (links (length frames) link known) ≡ Ok (Some (place 0 0) ∷ None ∷ onto frames known)
  links_seen link [] known root = refl
  links_seen link (f ∷ more) known (onward {home = home} e l) =
      ap (λ (o : Option Mscw). look_seen stacks (chained o >-> with_mark >-> go_on)) e.marked
      ∙ ap (λ (o : Option Rcw). look_seen stacks (chained o >-> (λ (c : Rcw). if_own (length more + 2) (entered_to home e.df) c) >-> go_on)) e.controlled
      ∙ ap (λ (b : Bool). look_seen stacks ((if b then found (entered_to home e.df) else chain_broken) >-> go_on)) (number_told (e.control.own_level) (length more + 2) e.level_is)
      ∙ links_seen home more (Some link ∷ known) l
    where
      go_on : Mscw → Look (List (Option Place))
      go_on m = links (length more) (link_of m) (Some link ∷ known)

      with_mark : Mscw → Look Mscw
      with_mark m = control_at link >-> (λ (c : Rcw). if_own (length more + 2) m c)

-- ---- what the display names

-- the display of a frame at a place, and of these below it
abbrev pub shown : Place → List Place → List (Option Place)
shown top frames = Some (place 0 0) ∷ None ∷ onto frames (Some top ∷ replicate (levels - (length frames + 3)) None)

abbrev nth : List (Option Place) → ℕ → Option Place
nth places n = slice_index_or places n None

above_onto : (frames : List Place) (known : List (Option Place)) (k n : ℕ) → n ≡ length frames + k → nth (onto frames known) n ≡ nth known k
above_onto [] known k n e = let e' : n ≡ k = omega (arith, e) in ap (nth known) e'
above_onto (f ∷ fs) known k n e = above_onto fs (Some f ∷ known) (suc k) n (omega (arith, e))

in_onto : (frames : List Place) (known : List (Option Place)) (k n : ℕ) → n + suc k ≡ length frames → nth (onto frames known) n ≡ slice_get frames k
in_onto [] known k n e = absurd (omega (arith, e))
in_onto (f ∷ fs) known zero n e = above_onto fs (Some f ∷ known) 0 n (omega (arith, e))
in_onto (f ∷ fs) known (suc k) n e = in_onto fs (Some f ∷ known) k n (omega (arith, e))

past_two : (places : List (Option Place)) (n m : ℕ) → n ≡ m + 2 → place_at (Some (place 0 0) ∷ None ∷ places) n ≡ nth places m
past_two places zero m e = absurd (omega (arith, e))
past_two places (suc zero) m e = absurd (omega (arith, e))
past_two places (suc (suc n)) m e = let e' : n ≡ m = omega (arith, e) in ap (nth places) e'

module _ (top : Place) (frames : List Place) where
  abbrev rest : List (Option Place)
  rest = Some top ∷ replicate (levels - (length frames + 3)) None

  -- at the level of the frame itself its place, and so many levels lower that of the frame so many links down
  pub shown_top : place_at (shown top frames) (length frames + 2) ≡ Some top
  shown_top = past_two (onto frames rest) (length frames + 2) (length frames) refl ∙ above_onto frames rest 0 (length frames) (omega arith)

  pub shown_below : (k level : ℕ) → level + suc k ≡ length frames + 2 → 2 ≤ level → place_at (shown top frames) level ≡ slice_get frames k
  shown_below k level e low =
      let e' : level ≡ (level - 2) + 2 = omega (arith, low) in
      past_two (onto frames rest) level (level - 2) e' ∙ in_onto frames rest k (level - 2) (omega (arith, e, low))

module _ {stacks : Stacks} where
  -- the display of a frame that is linked to a place is made along the links from there
  pub linked_seen : (top link : Place) (frames : List Place) (level : ℕ) → Links stacks link frames → level ≡ length frames + 2 → look_seen stacks (linked top link level) ≡ Ok (shown top frames)
  linked_seen top link frames level l e =
      ap (λ (n : ℕ). look_seen stacks (linked top link n)) e
      ∙ ap (λ (b : Bool). look_seen stacks (if b then links (length frames + 2 - 2) link (Some top ∷ replicate (levels - (length frames + 2 + 1)) None) else chain_broken))
      (most_is 2 (length frames + 2) (omega arith))
      ∙ ap (λ (n : ℕ). look_seen stacks (links n link (Some top ∷ replicate (levels - (length frames + 2 + 1)) None))) fewer
      ∙ ap (λ (n : ℕ). look_seen stacks (links (length frames) link (Some top ∷ replicate (levels - n) None))) more
      ∙ links_seen link frames (Some top ∷ replicate (levels - (length frames + 3)) None) l
    where
      fewer : length frames + 2 - 2 ≡ length frames
      fewer = omega arith

      more : length frames + 2 + 1 ≡ length frames + 3
      more = omega arith

  -- so is that of a frame that stands there
  pub rebuilt_seen : (top home : Place) (frames : List Place) (level : ℕ) → IsEntered stacks top home level → Links stacks home frames → level ≡ length frames + 2 → look_seen stacks (rebuilt top level) ≡ Ok (shown top frames)
  rebuilt_seen top home frames level e l is =
      ap (λ (b : Bool). look_seen stacks (if b then mark_at top >-> (λ (m : Mscw). linked top (link_of m) level) else chain_broken)) (most_is 2 level (omega (arith, is)))
      ∙ ap (λ (o : Option Mscw). look_seen stacks (chained o >-> (λ (m : Mscw). linked top (link_of m) level))) e.marked
      ∙ linked_seen top home frames level l is
