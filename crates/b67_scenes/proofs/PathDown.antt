-- The first instance on a path of those that are referred to has the first frame on the path down of those that are referred to.
use Rattle.std.proofs.Common.{◌≡◌, ◌⊎◌, inl, inr, refl, sym, ap, ◌∙◌, subst, ℕ, ◌<◌, ◌≤◌, List, [], ◌∷◌, ◌++◌, Option, Some, Bool, true, false, arith, append_assoc}
use Rattle.b67_scenes.proofs.Prelude.{if◌then◌else◌, slice_get, numbered, is_evaluation, own_instances, Part, Process, lives, World, stack_forth, stack_back, home_stands, Stack, Home, IsInSkeleton, NextIn, FirstOf, SkeletonOk, stack_of, skeleton, IsStanding, Place, place, Image, critical_of, some_same, IsAmongPlaces, FirstDown, Layout}
use Rattle.algol_standing.specs.Skeleton.{Owned, this, further}
use Rattle.algol_standing.proofs.Firsts.{below_in}
use Rattle.algol_standing.proofs.Standing.{lives as stack_lives}
use Rattle.algol_standing.proofs.Jumping.{own_both}
use Rattle.b67_rows.proofs.CriticalRow.{LeadsDown, under, across, this_frame, lower_frame}
use Rattle.b67_scenes.proofs.Towers.{Tower, base, above, Under, parted, AreHigher, none_higher, laid_at, tower_owns, own_under, whose_frame, higher_next, Seat, seat_in, own_first}

-- ---- the next instance below one, in a stack whose numbers go down

next_in_rest : (homes : List Home) (p : ℕ) (c : Option ℕ) (front : List ℕ) (a b : ℕ) (rest : List ℕ) → Owned homes p (front ++ a ∷ rest) → NextIn c (front ++ a ∷ rest) a b → NextIn c (a ∷ rest) a b
next_in_rest homes p c [] a b rest o n = n
next_in_rest homes p c (x ∷ []) a b rest o (inl n) = let low = o.3 a (inl refl) in let same = n.0 in absurd (omega (arith, low, same))
next_in_rest homes p c (x ∷ []) a b rest o (inr n) = n
next_in_rest homes p c (x ∷ y ∷ front) a b rest o (inl n) = let low = o.3 a (in_back (y ∷ front)) in let same = n.0 in absurd (omega (arith, low, same))
  where
    in_back : (xs : List ℕ) → IsInSkeleton (xs ++ a ∷ rest) a
    in_back [] = inl refl
    in_back (z ∷ xs) = inr (in_back xs)
next_in_rest homes p c (x ∷ y ∷ front) a b rest o (inr n) = next_in_rest homes p c (y ∷ front) a b rest o.4 n

next_of : (homes : List Home) (p : ℕ) (c : Option ℕ) (a b : ℕ) (rest : List ℕ) → Owned homes p (a ∷ rest) → NextIn c (a ∷ rest) a b → ((rest ≡ []) × (c ≡ Some b)) ⊎ ((r : List ℕ) × (rest ≡ b ∷ r))
next_of homes p c a b [] o n = inl (refl, n.1)
next_of homes p c a b (y ∷ r) o (inl n) = inr (r, ap (λ (z : ℕ). z ∷ r) n.1)
next_of homes p c a b (y ∷ r) o (inr n) = let low = o.3 a (below_in c (y ∷ r) a b n) in absurd (omega (arith, low))

owned_back : (homes : List Home) (p : ℕ) (front rest : List ℕ) → Owned homes p (front ++ rest) → Owned homes p rest
owned_back homes p [] rest o = o
owned_back homes p (x ∷ front) rest o = owned_back homes p front rest o.4

-- ---- the walk

-- The critical instance of a process has its frame at the critical place of that, in the stack of an earlier process.
pub record DependsOn (lay : Layout) (img : Image) (r c : ℕ) : Type 0 where
  pub frame : Place
  pub critical : critical_of img.regs r ≡ Some frame
  pub laid : numbered lay.places c ≡ Some frame
  pub some : 1 ≤ frame.stack
  pub earlier : frame.stack < r

module _ (w : World) (ok : SkeletonOk (skeleton w)) (lay : Layout) (img : Image)
    (towers : (r : ℕ) (y : Process) → numbered w.processes r ≡ Some y → lives y.state ≡ true → (f : ℕ) × Tower img.stacks lay r y.todo f)
    (depends : (r c : ℕ) (y : Process) → numbered w.processes r ≡ Some y → lives y.state ≡ true → y.critical ≡ Some c → DependsOn lay img r c)
    (refs : List ℕ) (wanted : List Place)
    (to : (i : ℕ) (g : Place) → IsInSkeleton refs i → numbered lay.places i ≡ Some g → IsAmongPlaces wanted g)
    (back : (g : Place) → IsAmongPlaces wanted g → (i : ℕ) × IsInSkeleton refs i × IsStanding w i × (numbered lay.places i ≡ Some g)) where
  -- a process with an instance lives
  lives_with : (r : ℕ) (y : Process) → numbered w.processes r ≡ Some y → (i : ℕ) → IsInSkeleton (own_instances y.todo) i → lives y.state ≡ true
  lives_with r y is i n = by (own_instances y.todo) refl n
    where
      by : (xs : List ℕ) → own_instances y.todo ≡ xs → IsInSkeleton xs i → lives y.state ≡ true
      by [] e m = absurd m
      by (x ∷ xs) e m = stack_lives (skeleton w) ok r (stack_of y) x xs (stack_forth w r y is) e

  -- in whose stack an instance stands
  record InStack (i : ℕ) : Type 0 where
    number : ℕ
    process : Process
    is : numbered w.processes number ≡ Some process
    inside : IsInSkeleton (own_instances process.todo) i

  in_stack : (i : ℕ) → IsStanding w i → InStack i
  in_stack i st = by (stack_back w st.number st.stack st.is)
    where
      by : ((st.stack.own ≡ []) × (st.stack.evaluations ≡ []) × (st.stack.live ≡ false)) ⊎ ((y : Process) × (numbered w.processes st.number ≡ Some y) × (st.stack ≡ stack_of y)) → InStack i
      by (inl f) = absurd (subst (λ (xs : List ℕ). IsInSkeleton xs i) f.0 st.inside)
      by (inr f) = record { number = st.number; process = f.0; is = f.1; inside = subst (λ (z : Stack). IsInSkeleton z.own i) f.2 st.inside }

  -- who stands in a stack by its frame is an instance of its process
  own_by_place : (r : ℕ) (y : Process) → numbered w.processes r ≡ Some y → (f i : ℕ) → IsStanding w i → numbered lay.places i ≡ Some (place r f) → IsInSkeleton (own_instances y.todo) i
  own_by_place r y is f i st laid =
      let s = in_stack i st in
      let t = towers s.number s.process s.is (lives_with s.number s.process s.is i s.inside) in
      let u = own_under s.process.todo t.0 t.1 i s.inside in
      let number : s.number ≡ r = ap (λ (x : Place). x.stack) (some_same (sym u.1 ∙ laid)) in
      let same : s.process ≡ y = some_same (sym s.is ∙ ap (λ (k : ℕ). numbered w.processes k) number ∙ is) in
      subst (λ (z : Process). IsInSkeleton (own_instances z.todo) i) same s.inside

  abbrev Found : Place → ℕ → Type 0
  Found from c = (g : Place) × (numbered lay.places c ≡ Some g) × FirstDown img wanted from g

  -- a frame among those of a process that lives, and those under it
  record Here (r : ℕ) (y : Process) (x : Part) (outer : List Part) (f : ℕ) : Type 0 where
    is : numbered w.processes r ≡ Some y
    live : lives y.state ≡ true
    newer : List Part
    todo : y.todo ≡ newer ++ x ∷ outer
    tower : Tower img.stacks lay r (x ∷ outer) f
    higher : AreHigher lay r newer f

  -- it is not wanted, where its instance is not referred to
  unwanted : (r : ℕ) (y : Process) (x : Part) (outer : List Part) (f : ℕ) → Here r y x outer f → (is_evaluation x.purpose ≡ false → IsInSkeleton refs x.instance → ⊥) → IsAmongPlaces wanted (place r f) → ⊥
  unwanted r y x outer f h none among =
      let b = back (place r f) among in
      let inside = subst (λ (ps : List Part). IsInSkeleton (own_instances ps) b.0) h.todo (own_by_place r y h.is f b.0 b.2 b.3) in
      let who = whose_frame h.newer x outer f h.tower h.higher b.0 inside b.3 in
      none who.0 (subst (λ (i : ℕ). IsInSkeleton refs i) (sym who.1) b.1)

  -- from the frame of this instance, wherever it is, that of the other one is found
  abbrev At : ℕ → ℕ → Type 0
  At a c = (r : ℕ) (y : Process) (x : Part) (outer : List Part) (f : ℕ) → Here r y x outer f → is_evaluation x.purpose ≡ false → x.instance ≡ a → Found (place r f) c

  lower : (from to_place : Place) (c : ℕ) → (IsAmongPlaces wanted from → ⊥) → LeadsDown img from to_place → Found to_place c → Found from c
  lower from to_place c none leads found = (found.0, found.1, lower_frame none leads found.2)

  -- down to the first part that has an instance for its own
  down_to : (a c : ℕ) → At a c → (r : ℕ) (y : Process) → numbered w.processes r ≡ Some y → lives y.state ≡ true → (newer parts : List Part) → y.todo ≡ newer ++ parts → (f : ℕ) → Tower img.stacks lay r parts f →
      AreHigher lay r newer f → (rest : List ℕ) → own_instances parts ≡ a ∷ rest → Found (place r f) c
  down_to a c at r y is live newer parts todo f (base {part} owns laid) high rest own =
      at r y part [] 0 (record { is = is; live = live; newer = newer; todo = todo; tower = base owns laid; higher = high }) owns
      (let same : part.instance ∷ [] ≡ a ∷ rest = sym (own_first part [] owns) ∙ own in cc)
  down_to a c at r y is live newer parts todo f (above {part} {next} {parts = outer} {home = home} laid leads low t) high rest own =
      by (is_evaluation part.purpose) refl own
      (down_to a c at r y is live (newer ++ part ∷ []) (next ∷ outer) (todo ∙ sym (append_assoc newer (part ∷ []) (next ∷ outer))) home t (higher_next lay r newer part f home high laid low) rest)
    where
      here : Here r y part (next ∷ outer) f
      here = record { is = is; live = live; newer = newer; todo = todo; tower = above laid leads low t; higher = high }

      by : (b : Bool) → is_evaluation part.purpose ≡ b → (if b then own_instances (next ∷ outer) else part.instance ∷ own_instances (next ∷ outer)) ≡ a ∷ rest →
          (own_instances (next ∷ outer) ≡ a ∷ rest → Found (place r home) c) → Found (place r f) c
      by true e o later =
          lower (place r f) (place r home) c (unwanted r y part (next ∷ outer) f here (λ owns n. absurd (let clash : true ≡ false = sym e ∙ owns in cc)))
          (under (omega (arith, low)) leads refl low) (later o)
      by false e o later = at r y part (next ∷ outer) f here e (let same : part.instance ∷ own_instances (next ∷ outer) ≡ a ∷ rest = o in cc)

  -- ---- at an instance that is not referred to

  -- A step down, from the part of a process.
  record StepsDown : Type 0 where
    a : ℕ
    b : ℕ
    c : ℕ
    out : IsInSkeleton refs a → ⊥
    at_next : At b c
    number : ℕ
    process : Process
    part : Part
    outer : List Part
    floor : ℕ
    here : Here number process part outer floor
    owns : is_evaluation part.purpose ≡ false
    same : part.instance ≡ a
    next : NextIn process.critical (own_instances process.todo) a b

  module _ (step : StepsDown) where
    open step use {a, b, c, out, at_next, number as r, process as y, part as x, outer, floor as f, here as h, owns, same, next}

    here_unwanted : IsAmongPlaces wanted (place r f) → ⊥
    here_unwanted = unwanted r y x outer f h (λ owned n. out (subst (λ (i : ℕ). IsInSkeleton refs i) same n))

    own_is : own_instances y.todo ≡ own_instances h.newer ++ a ∷ own_instances outer
    own_is =
        ap own_instances h.todo
        ∙ own_both h.newer (x ∷ outer)
        ∙ ap (λ (xs : List ℕ). own_instances h.newer ++ xs) (own_first x outer owns ∙ ap (λ (i : ℕ). i ∷ own_instances outer) same)

    owned : Owned (skeleton w).homes r (own_instances h.newer ++ a ∷ own_instances outer)
    owned = subst (λ (xs : List ℕ). Owned (skeleton w).homes r xs) own_is (ok.owned r (stack_of y) (stack_forth w r y h.is))

    next_is : ((own_instances outer ≡ []) × (y.critical ≡ Some b)) ⊎ ((rest : List ℕ) × (own_instances outer ≡ b ∷ rest))
    next_is =
        next_of (skeleton w).homes r y.critical a b (own_instances outer) (owned_back (skeleton w).homes r (own_instances h.newer) (a ∷ own_instances outer) owned)
        (next_in_rest (skeleton w).homes r y.critical (own_instances h.newer) a b (own_instances outer) owned (subst (λ (xs : List ℕ). NextIn y.critical xs a b) own_is next))

    -- in another stack
    elsewhere : f ≡ 0 → y.critical ≡ Some b → Found (place r f) c
    elsewhere bottom critical =
        let d = depends r b y h.is h.live critical in
        let s = in_stack b (ok.holds r (stack_of y) b (stack_forth w r y h.is) h.live critical) in
        let alive = lives_with s.number s.process s.is b s.inside in
        let t = towers s.number s.process s.is alive in
        let seat : Seat img.stacks lay s.number s.process.todo b = seat_in s.process.todo b [] s.process.todo t.0 t.1 (none_higher lay s.number t.0) refl s.inside in
        let there : numbered lay.places b ≡ Some (place s.number seat.at) =
        subst (λ (i : ℕ). numbered lay.places i ≡ Some (place s.number seat.at)) seat.instance_is (laid_at seat.part seat.outer seat.at seat.tower seat.owns) in
        let frame : place s.number seat.at ≡ d.frame = some_same (sym there ∙ d.laid) in
        lower (place r f) d.frame c here_unwanted (across bottom d.critical d.some d.earlier)
        (subst (λ (g : Place). Found g c) frame
        (at_next s.number s.process seat.part seat.outer seat.at (record { is = s.is; live = alive; newer = seat.newer; todo = seat.todo_is; tower = seat.tower; higher = seat.higher }) seat.owns seat.instance_is))

    further_down : Found (place r f) c
    further_down = by (parted x outer f h.tower) next_is
      where
        by : ((outer ≡ []) × (f ≡ 0)) ⊎ Under img.stacks lay r outer f → ((own_instances outer ≡ []) × (y.critical ≡ Some b)) ⊎ ((rest : List ℕ) × (own_instances outer ≡ b ∷ rest)) → Found (place r f) c
        by (inl z) (inl e) = elsewhere z.1 e.1
        by (inl z) (inr e) = let clash : [] ≡ b ∷ e.0 = sym (ap own_instances z.0) ∙ e.1 in cc
        by (inr u) (inl e) = absurd (tower_owns (u.next ∷ u.parts) u.home u.tower (sym (ap own_instances u.is) ∙ e.0))
        by (inr u) (inr e) =
            let low = u.low in
            lower (place r f) (place r u.home) c here_unwanted (under (omega (arith, low)) u.leads refl low)
            (down_to b c at_next r y h.is h.live (h.newer ++ x ∷ []) (u.next ∷ u.parts)
            (h.todo ∙ ap (λ (ps : List Part). h.newer ++ x ∷ ps) u.is ∙ sym (append_assoc h.newer (x ∷ []) (u.next ∷ u.parts))) u.home u.tower
            (higher_next lay r h.newer x f u.home h.higher (laid_at x outer f h.tower) low) e.0 (sym (ap own_instances u.is) ∙ e.1))

  walk : (a c : ℕ) → FirstOf (skeleton w) refs a c → At a c
  walk a c (this n) r y x outer f h owns same =
      let laid : numbered lay.places a ≡ Some (place r f) = subst (λ (i : ℕ). numbered lay.places i ≡ Some (place r f)) same (laid_at x outer f h.tower owns) in
      (place r f, laid, this_frame (to a (place r f) n laid))
  walk a c (further {b = b} out n first) r y x outer f h owns same = further_down (record {
    a = a;
    b = b;
    c = c;
    out = out;
    at_next = walk b c first;
    number = r;
    process = y;
    part = x;
    outer = outer;
    floor = f;
    here = h;
    owns = owns;
    same = same;
    next = next;
  })
    where
      inside : IsInSkeleton (own_instances y.todo) a
      inside =
          own_by_place r y h.is f a (record { number = n.number; stack = n.stack; is = n.is; inside = below_in n.stack.critical n.stack.own a b n.next })
          (subst (λ (i : ℕ). numbered lay.places i ≡ Some (place r f)) same (laid_at x outer f h.tower owns))

      number_is : n.number ≡ r
      number_is =
          let f = home_stands (skeleton w) ok a (record { number = n.number; stack = n.stack; is = n.is; inside = below_in n.stack.critical n.stack.own a b n.next }) in
          let g = home_stands (skeleton w) ok a (record { number = r; stack = stack_of y; is = stack_forth w r y h.is; inside = inside }) in
          let home : f.0 ≡ g.0 = some_same (sym f.1 ∙ g.1) in
          sym f.2 ∙ ap (λ (k : Home). k.process) home ∙ g.2

      next : NextIn y.critical (own_instances y.todo) a b
      next =
          let stack : n.stack ≡ stack_of y = some_same (sym n.is ∙ ap (λ (k : ℕ). slice_get (skeleton w).stacks k) number_is ∙ stack_forth w r y h.is) in
          subst (λ (z : Stack). NextIn z.critical z.own a b) stack n.next

  -- from the frame of the innermost part of a process to the first of those that are referred to
  pub path_found : (r a c : ℕ) (y : Process) → numbered w.processes r ≡ Some y → lives y.state ≡ true → (f : ℕ) → Tower img.stacks lay r y.todo f → (rest : List ℕ) → own_instances y.todo ≡ a ∷ rest → FirstOf (skeleton w) refs a c →
      (g : Place) × (numbered lay.places c ≡ Some g) × FirstDown img wanted (place r f) g
  path_found r a c y is live f tower rest own first =
      down_to a c (walk a c first) r y is live [] y.todo refl f tower (none_higher lay r f) rest own
