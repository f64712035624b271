-- One step along static links, and what it leaves of a display.
use Rattle.std.proofs.Common.{◌≡◌, refl, sym, ap, subst, ◌∙◌, ℕ, zero, suc, ◌+◌, ◌-◌, ◌≤◌, List, ◌∷◌, ◌++◌, drop, replicate, set, Option, Some, None, Result, Ok, Err, Bool, cond, arith}
use Rattle.std.proofs.lemmas.Bool.{le-leb}
use Rattle.b67_table.specs.declared.InterruptKind.TheVariants.{BrokenChain}
use Rattle.b67_word.specs.declared.Place.{Place}
use Rattle.b67_control.specs.declared.Mscw.{Mscw}
use Rattle.b67_store.specs.Store.{Stacks, word_at}
use Rattle.b67_table.specs.declared.InterruptKind.{InterruptKind}
use Rattle.b67_table.specs.Look.{Look, found, stops, at, several, ◌>->◌, look_seen}
use Rattle.b67_table.specs.Chains.{links, link_of, linked_frame, linked}

abbrev pub after : {A B : Type 0} → Result A InterruptKind → (A → Result B InterruptKind) → Result B InterruptKind
after (Ok a) next = next a
after (Err kind) next = Err kind

pub seen_then : {A B : Type 0} (st : Stacks) (l : Look A) (k : A → Look B) → look_seen st (l >-> k) ≡ after (look_seen st l) (λ a. look_seen st (k a))
seen_then st (found a) k = refl
seen_then st (stops kind) k = refl
seen_then st (at place more) k = seen_then st (more (word_at st place)) k
seen_then st (several place n more) k = seen_then st (more _) k

module _ (st : Stacks) (link : Place) (known : List (Option Place)) where
  linked_on : (n below : ℕ) (r : Result Mscw InterruptKind) → below ≡ n + 2 → look_seen st (linked_frame link below) ≡ r
      → look_seen st (links (suc n) link known) ≡ after r (λ m. look_seen st (links n (link_of m) (Some link ∷ known)))
  linked_on n below r e f =
      seen_then st (linked_frame link (n + 2)) (λ m. links n (link_of m) (Some link ∷ known))
      ∙ ap (λ (x : Result Mscw InterruptKind). after x (λ m. look_seen st (links n (link_of m) (Some link ∷ known))))
      (subst (λ (b : ℕ). look_seen st (linked_frame link b) ≡ r) e f)

  pub step : (below : ℕ) (m : Mscw) → 2 ≤ below → look_seen st (linked_frame link below) ≡ Ok m
      → look_seen st (links (below - 1) link known) ≡ look_seen st (links (below - 1 - 1) (link_of m) (Some link ∷ known))
  step below m h f =
      ap (λ (j : ℕ). look_seen st (links j link known)) j_is ∙ linked_on (below - 1 - 1) below (Ok m) two_below f
    where
      j_is : below - 1 ≡ suc (below - 1 - 1)
      j_is = omega (arith, h)

      two_below : below ≡ below - 1 - 1 + 2
      two_below = omega (arith, h)

  pub stop : (below : ℕ) (kind : InterruptKind) → 2 ≤ below → look_seen st (linked_frame link below) ≡ Err kind
      → look_seen st (links (below - 1) link known) ≡ Err kind
  stop below kind h f =
      let j_is : below - 1 ≡ suc (below - 1 - 1) = omega (arith, h) in
      ap (λ (j : ℕ). look_seen st (links j link known)) j_is ∙ linked_on (below - 1 - 1) below (Err kind) (omega (arith, h)) f

-- nothing is known below
pub unknown_set : (d rest : List (Option Place)) (n : ℕ) (x : Option Place) → d ≡ replicate (suc n) None ++ rest → set d n x ≡ replicate n None ++ x ∷ rest
unknown_set d rest n x e = ap (λ (z : List (Option Place)). set z n x) e ∙ go n
  where
    go : (k : ℕ) → set (replicate (suc k) None ++ rest) k x ≡ replicate k None ++ x ∷ rest
    go zero = refl
    go (suc k) = ap (λ (z : List (Option Place)). None ∷ z) (go k)

-- ---- the beginning

none_before : (n k : ℕ) → replicate {A = Option Place} (suc n + k) None ≡ replicate (suc n) None ++ replicate k None
none_before zero k =
    let j_is : suc zero + k ≡ suc k = omega arith in ap (λ (j : ℕ). replicate {A = Option Place} j None) j_is
none_before (suc n) k =
    let j_is : suc (suc n) + k ≡ suc (suc n + k) = omega arith in
    ap (λ (j : ℕ). replicate {A = Option Place} j None) j_is ∙ ap (λ (z : List (Option Place)). None ∷ z) (none_before n k)

pub first_known : (level : ℕ) (x : Option Place) → level ≤ 31
    → set (replicate 32 None) level x ≡ replicate level None ++ x ∷ replicate (31 - level) None
first_known level x h =
    let k_is : suc level + (31 - level) ≡ 32 = omega (arith, h) in
    unknown_set (replicate 32 None) (replicate (31 - level) None) level x
    (ap (λ (j : ℕ). replicate {A = Option Place} j None) (sym k_is) ∙ none_before level (31 - level))

pub drop_front : (n : ℕ) (zs : List (Option Place)) → drop n (replicate n None ++ zs) ≡ zs
drop_front zero zs = refl
drop_front (suc n) zs = drop_front n zs

pub begun : (st : Stacks) (top link : Place) (level : ℕ) (d : List (Option Place)) → 2 ≤ level → level ≤ 31
    → d ≡ replicate level None ++ Some top ∷ replicate (31 - level) None
    → look_seen st (linked top link level) ≡ look_seen st (links (level - 1 - 1) link (drop (level - 1 + 1) d))
begun st top link level d h k e =
    let j_is : level - 2 ≡ level - 1 - 1 = omega arith in
    let n_is : level ≡ level - 1 + 1 = omega (arith, h) in
    let m_is : 32 - (level + 1) ≡ 31 - level = omega arith in
    let known : Some top ∷ replicate (31 - level) None ≡ drop (level - 1 + 1) d =
    sym (drop_front level (Some top ∷ replicate (31 - level) None)) ∙ ap (λ (z : List (Option Place)). drop level z) (sym e)
    ∙ ap (λ (n : ℕ). drop n d) n_is in
    ap (λ (b : Bool). look_seen st (cond b (links (level - 2) link (Some top ∷ replicate (32 - (level + 1)) None)) (stops BrokenChain))) (le-leb 2 level h)
    ∙ ap (λ (m : ℕ). look_seen st (links (level - 2) link (Some top ∷ replicate m None))) m_is
    ∙ ap (λ (j : ℕ). look_seen st (links j link (Some top ∷ replicate (31 - level) None))) j_is
    ∙ ap (λ (z : List (Option Place)). look_seen st (links (level - 1 - 1) link z)) known

pub split_known : (d rest : List (Option Place)) (n j : ℕ) → d ≡ replicate n None ++ rest → j ≡ n → d ≡ replicate j None ++ drop j d
split_known d rest n j e i =
    subst (λ (k : ℕ). d ≡ replicate k None ++ drop k d) (sym i)
    (e ∙ ap (λ (z : List (Option Place)). replicate n None ++ z) (sym (ap (λ (z : List (Option Place)). drop n z) e ∙ drop_front n rest)))
