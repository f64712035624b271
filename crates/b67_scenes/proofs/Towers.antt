-- The frames of a process's parts, one on the other, along which the marks lead down.
use Rattle.std.proofs.Common.{◌≡◌, ◌⊎◌, inl, inr, refl, sym, ap, ◌∙◌, subst, ℕ, ◌<◌, ◌≤◌, List, [], ◌∷◌, ◌++◌, Some, Bool, true, false, Ok, arith, append_assoc}
use Rattle.b67_scenes.proofs.Prelude.{if◌then◌else◌, numbered, is_evaluation, own_instances, Part, IsInSkeleton, Place, Stacks, place, frame_below, look_seen, some_same, Layout}

-- the instances of some parts and of those around them
pub own_either : (newer parts : List Part) (i : ℕ) → IsInSkeleton (own_instances (newer ++ parts)) i → IsInSkeleton (own_instances newer) i ⊎ IsInSkeleton (own_instances parts) i
own_either [] parts i n = inr n
own_either (x ∷ newer) parts i n = by (is_evaluation x.purpose) n (own_either newer parts i)
  where
    by : (t : Bool) → IsInSkeleton (if t then own_instances (newer ++ parts) else x.instance ∷ own_instances (newer ++ parts)) i →
        (IsInSkeleton (own_instances (newer ++ parts)) i → IsInSkeleton (own_instances newer) i ⊎ IsInSkeleton (own_instances parts) i) →
        IsInSkeleton (if t then own_instances newer else x.instance ∷ own_instances newer) i ⊎ IsInSkeleton (own_instances parts) i
    by true n later = later n
    by false (inl same) later = inl (inl same)
    by false (inr n) later = up (later n)
      where
        up : IsInSkeleton (own_instances newer) i ⊎ IsInSkeleton (own_instances parts) i → IsInSkeleton (x.instance ∷ own_instances newer) i ⊎ IsInSkeleton (own_instances parts) i
        up (inl m) = inl (inr m)
        up (inr m) = inr m

-- those of a part that has one for its own
pub own_first : (x : Part) (parts : List Part) → is_evaluation x.purpose ≡ false → own_instances (x ∷ parts) ≡ x.instance ∷ own_instances parts
own_first x parts owns = ap (λ (t : Bool). if t then own_instances parts else x.instance ∷ own_instances parts) owns

module _ (lay : Layout) (r : ℕ) where
  -- the frame of each of these instances is higher
  abbrev pub AreHigher : List Part → ℕ → Type 0
  AreHigher newer f = (i : ℕ) → IsInSkeleton (own_instances newer) i → (h : ℕ) × (numbered lay.places i ≡ Some (place r h)) × (f < h)

  pub none_higher : (f : ℕ) → AreHigher [] f
  none_higher f i n = absurd n

  same_height : (i h k : ℕ) → numbered lay.places i ≡ Some (place r h) → numbered lay.places i ≡ Some (place r k) → h ≡ k
  same_height i h k a b = ap (λ (x : Place). x.at) (some_same (sym a ∙ b))

  -- one part further down
  pub higher_next : (newer : List Part) (x : Part) (f home : ℕ) → AreHigher newer f → (is_evaluation x.purpose ≡ false → numbered lay.places x.instance ≡ Some (place r f)) → home < f → AreHigher (newer ++ x ∷ []) home
  higher_next newer x f home high laid low i n = by (own_either newer (x ∷ []) i n)
    where
      in_one : (b : Bool) → is_evaluation x.purpose ≡ b → IsInSkeleton (if b then [] else x.instance ∷ []) i → (h : ℕ) × (numbered lay.places i ≡ Some (place r h)) × (home < h)
      in_one true e m = absurd m
      in_one false e (inl same) = (f, subst (λ (k : ℕ). numbered lay.places k ≡ Some (place r f)) same (laid e), low)
      in_one false e (inr m) = absurd m

      by : IsInSkeleton (own_instances newer) i ⊎ IsInSkeleton (own_instances (x ∷ [])) i → (h : ℕ) × (numbered lay.places i ≡ Some (place r h)) × (home < h)
      by (inl m) = let u = high i m in let h = u.2 in (u.0, u.1, omega (arith, h, low))
      by (inr m) = in_one (is_evaluation x.purpose) refl m

module _ (stacks : Stacks) (lay : Layout) (r : ℕ) where
  -- The frame of the innermost of these parts lies so high in stack r, and the marks lead from each frame to the one under it, down to a base
  -- frame. The frame of a part that has an instance for its own is that of the instance.
  pub data Tower : List Part → ℕ → Type 0 where
    base : {part : Part} → is_evaluation part.purpose ≡ false → numbered lay.places part.instance ≡ Some (place r 0) → Tower (part ∷ []) 0
    above : {part next : Part} {parts : List Part} {f home : ℕ} → (is_evaluation part.purpose ≡ false → numbered lay.places part.instance ≡ Some (place r f)) →
        look_seen stacks (frame_below (place r f)) ≡ Ok (place r home) → home < f → Tower (next ∷ parts) home → Tower (part ∷ next ∷ parts) f

  -- what lies under a frame that is no base frame
  pub record Under (outer : List Part) (f : ℕ) : Type 0 where
    pub next : Part
    pub parts : List Part
    pub is : outer ≡ next ∷ parts
    pub home : ℕ
    pub leads : look_seen stacks (frame_below (place r f)) ≡ Ok (place r home)
    pub low : home < f
    pub tower : Tower (next ∷ parts) home

module _ {stacks : Stacks} {lay : Layout} {r : ℕ} where
  pub laid_at : (part : Part) (outer : List Part) (f : ℕ) → Tower stacks lay r (part ∷ outer) f → is_evaluation part.purpose ≡ false → numbered lay.places part.instance ≡ Some (place r f)
  laid_at part outer f (base owns laid) owned = laid
  laid_at part outer f (above laid leads low t) owned = laid owned

  -- some part has an instance for its own
  pub tower_owns : (parts : List Part) (f : ℕ) → Tower stacks lay r parts f → own_instances parts ≡ [] → ⊥
  tower_owns parts f (base {part} owns laid) none = let clash : part.instance ∷ [] ≡ [] = sym (own_first part [] owns) ∙ none in cc
  tower_owns parts f (above {part} {next} {parts = outer} laid leads low t) none = by (is_evaluation part.purpose) none (tower_owns (next ∷ outer) _ t)
    where
      by : (b : Bool) → (if b then own_instances (next ∷ outer) else part.instance ∷ own_instances (next ∷ outer)) ≡ [] → (own_instances (next ∷ outer) ≡ [] → ⊥) → ⊥
      by true e later = later e
      by false e later = let clash : part.instance ∷ own_instances (next ∷ outer) ≡ [] = e in cc

  -- the frame of an own instance lies no higher
  pub own_under : (parts : List Part) (f : ℕ) → Tower stacks lay r parts f → (i : ℕ) → IsInSkeleton (own_instances parts) i → (h : ℕ) × (numbered lay.places i ≡ Some (place r h)) × (h ≤ f)
  own_under parts f (base {part} owns laid) i n = by (subst (λ (xs : List ℕ). IsInSkeleton xs i) (own_first part [] owns) n)
    where
      by : (part.instance ≡ i) ⊎ ⊥ → (h : ℕ) × (numbered lay.places i ≡ Some (place r h)) × (h ≤ 0)
      by (inl same) = (0, subst (λ (k : ℕ). numbered lay.places k ≡ Some (place r 0)) same laid, omega arith)
      by (inr m) = absurd m
  own_under parts f (above {part} {next} {parts = outer} {home = home} laid leads low t) i n = by (is_evaluation part.purpose) refl n (own_under (next ∷ outer) home t i)
    where
      lift : (h : ℕ) × (numbered lay.places i ≡ Some (place r h)) × (h ≤ home) → (h : ℕ) × (numbered lay.places i ≡ Some (place r h)) × (h ≤ f)
      lift x = let k = x.2 in (x.0, x.1, omega (arith, k, low))

      by : (b : Bool) → is_evaluation part.purpose ≡ b → IsInSkeleton (if b then own_instances (next ∷ outer) else part.instance ∷ own_instances (next ∷ outer)) i →
          (IsInSkeleton (own_instances (next ∷ outer)) i → (h : ℕ) × (numbered lay.places i ≡ Some (place r h)) × (h ≤ home)) → (h : ℕ) × (numbered lay.places i ≡ Some (place r h)) × (h ≤ f)
      by true e m later = lift (later m)
      by false e (inl same) later = (f, subst (λ (k : ℕ). numbered lay.places k ≡ Some (place r f)) same (laid e), omega arith)
      by false e (inr m) later = lift (later m)

  pub parted : (x : Part) (outer : List Part) (f : ℕ) → Tower stacks lay r (x ∷ outer) f → ((outer ≡ []) × (f ≡ 0)) ⊎ Under stacks lay r outer f
  parted x outer f (base owns laid) = inl (refl, refl)
  parted x outer f (above {next = next} {parts} {home = home} laid leads low t) = inr (record { next = next; parts = parts; is = refl; home = home; leads = leads; low = low; tower = t })

  -- whose frame lies where that of a part does
  in_tower : (x : Part) (outer : List Part) (f : ℕ) → Tower stacks lay r (x ∷ outer) f → (i : ℕ) → IsInSkeleton (own_instances (x ∷ outer)) i → numbered lay.places i ≡ Some (place r f) → (is_evaluation x.purpose ≡ false) × (x.instance ≡ i)
  in_tower x outer f (base owns laid_there) i m laid = in_base (subst (λ (xs : List ℕ). IsInSkeleton xs i) (own_first x [] owns) m)
    where
      in_base : (x.instance ≡ i) ⊎ ⊥ → (is_evaluation x.purpose ≡ false) × (x.instance ≡ i)
      in_base (inl same) = (owns, same)
      in_base (inr k) = absurd k
  in_tower x outer f (above {next = next} {parts} {home = home} laid_there leads low rest) i m laid = in_above (is_evaluation x.purpose) refl m
    where
      lower : IsInSkeleton (own_instances (next ∷ parts)) i → (is_evaluation x.purpose ≡ false) × (x.instance ≡ i)
      lower k = let u = own_under (next ∷ parts) home rest i k in let e = same_height lay r i u.0 f u.1 laid in let h = u.2 in absurd (omega (arith, e, h, low))

      in_above : (b : Bool) → is_evaluation x.purpose ≡ b → IsInSkeleton (if b then own_instances (next ∷ parts) else x.instance ∷ own_instances (next ∷ parts)) i → (is_evaluation x.purpose ≡ false) × (x.instance ≡ i)
      in_above true e k = lower k
      in_above false e (inl same) = (e, same)
      in_above false e (inr k) = lower k

  pub whose_frame : (newer : List Part) (x : Part) (outer : List Part) (f : ℕ) → Tower stacks lay r (x ∷ outer) f → AreHigher lay r newer f → (i : ℕ) → IsInSkeleton (own_instances (newer ++ x ∷ outer)) i →
      numbered lay.places i ≡ Some (place r f) → (is_evaluation x.purpose ≡ false) × (x.instance ≡ i)
  whose_frame newer x outer f t high i n laid = by (own_either newer (x ∷ outer) i n)
    where
      by : IsInSkeleton (own_instances newer) i ⊎ IsInSkeleton (own_instances (x ∷ outer)) i → (is_evaluation x.purpose ≡ false) × (x.instance ≡ i)
      by (inl m) = let u = high i m in let e = same_height lay r i u.0 f u.1 laid in let h = u.2 in absurd (omega (arith, e, h))
      by (inr m) = in_tower x outer f t i m laid

-- The frame of an instance among those of the parts of a process, and the frames under it.
pub record Seat (stacks : Stacks) (lay : Layout) (r : ℕ) (todo : List Part) (i : ℕ) : Type 0 where
  pub newer : List Part
  pub part : Part
  pub outer : List Part
  pub todo_is : todo ≡ newer ++ part ∷ outer
  pub owns : is_evaluation part.purpose ≡ false
  pub instance_is : part.instance ≡ i
  pub at : ℕ
  pub tower : Tower stacks lay r (part ∷ outer) at
  pub higher : AreHigher lay r newer at

module _ {stacks : Stacks} {lay : Layout} {r : ℕ} (todo : List Part) (i : ℕ) where
  pub seat_in : (newer parts : List Part) (f : ℕ) → Tower stacks lay r parts f → AreHigher lay r newer f → todo ≡ newer ++ parts → IsInSkeleton (own_instances parts) i → Seat stacks lay r todo i
  seat_in newer parts f (base {part} owns laid) high is n = by (subst (λ (xs : List ℕ). IsInSkeleton xs i) (own_first part [] owns) n)
    where
      by : (part.instance ≡ i) ⊎ ⊥ → Seat stacks lay r todo i
      by (inl same) = record { newer = newer; part = part; outer = []; todo_is = is; owns = owns; instance_is = same; at = 0; tower = base owns laid; higher = high }
      by (inr m) = absurd m
  seat_in newer parts f (above {part} {next} {parts = outer} {home = home} laid leads low t) high is n =
      by (is_evaluation part.purpose) refl n
      (seat_in (newer ++ part ∷ []) (next ∷ outer) home t (higher_next lay r newer part f home high laid low) (is ∙ sym (append_assoc newer (part ∷ []) (next ∷ outer))))
    where
      by : (b : Bool) → is_evaluation part.purpose ≡ b → IsInSkeleton (if b then own_instances (next ∷ outer) else part.instance ∷ own_instances (next ∷ outer)) i →
          (IsInSkeleton (own_instances (next ∷ outer)) i → Seat stacks lay r todo i) → Seat stacks lay r todo i
      by true e m later = later m
      by false e (inl same) later =
          record { newer = newer; part = part; outer = next ∷ outer; todo_is = is; owns = e; instance_is = same; at = f; tower = above laid leads low t; higher = high }
      by false e (inr m) later = later m
