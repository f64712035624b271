-- Runs of the source, one entry more.
use Rattle.std.proofs.Common.{◌≡◌, ℕ, List, [], ◌∷◌, ◌++◌, Option, Some, None, Bool, true, false, refl, sym, ap, ◌∙◌}
use Rattle.std.specs.Prelude.{reverse, if◌then◌else◌}
use Rattle.std.proofs.lemmas.List.{reverse-append}
use Rattle.algol_tree.specs.Plain.{PProgram}
use Rattle.algol_tree.specs.Scopes.{Scopes, scopes_of}
use Rattle.algol_meaning.specs.World.{World}
use Rattle.algol_meaning.specs.Choice.{choice}
use Rattle.algol_meaning.specs.Run.{start, run, run_from, after_entry, may_go}
use Rattle.b67_list.proofs.Numbers.{none_some}
use Rattle.b67_faithful.proofs.Contradictions.{some_same}

pub reverse_cons : {A : Type 0} (x : A) (xs : List A) → reverse (x ∷ xs) ≡ reverse xs ++ x ∷ []
reverse_cons x xs = reverse-append (x ∷ []) xs

module _ (sc : Scopes) where
  pub run_from_none : (h : List ℕ) → run_from sc h None ≡ None
  run_from_none [] = refl
  run_from_none (p ∷ h) = refl

  run_from_some : (o : Option World) → run_from sc [] o ≡ o
  run_from_some None = refl
  run_from_some (Some w) = refl

  pub run_from_append : (h : List ℕ) (p : ℕ) (o : Option World) (w : World) → run_from sc h o ≡ Some w → run_from sc (h ++ p ∷ []) o ≡ after_entry sc w p
  run_from_append h p None w e = none_some (sym (run_from_none h) ∙ e)
  run_from_append [] p (Some v) w e = run_from_some (after_entry sc v p) ∙ ap (λ (u : World). after_entry sc u p) (some_same e)
  run_from_append (q ∷ h) p (Some v) w e = run_from_append h p (after_entry sc v q) w e

  pub run_from_over : (h : List ℕ) (p : ℕ) (o : Option World) → run_from sc h o ≡ None → run_from sc (h ++ p ∷ []) o ≡ None
  run_from_over h p None e = run_from_none (h ++ p ∷ [])
  run_from_over [] p (Some v) e = none_some (sym e)
  run_from_over (q ∷ h) p (Some v) e = run_from_over h p (after_entry sc v q) e

  by_may : (b : Bool) (w v : World) → (if b then Some w else None) ≡ Some v → (b ≡ true) × (w ≡ v)
  by_may true w v e = (refl, some_same e)
  by_may false w v e = none_some e

  -- an entry that is legal is able, and leads to what the choice leaves
  pub entered_back : (w v : World) (p : ℕ) → after_entry sc w p ≡ Some v → (may_go w p ≡ true) × ((choice sc w p).world ≡ v)
  unfolding after_entry
  entered_back w v p e = by_may (may_go w p) ((choice sc w p).world) v e

module _ (tree : PProgram) where
  pub run_later : (h : List ℕ) (p : ℕ) (w v : World) → run tree (reverse h) ≡ Some w → after_entry (scopes_of tree) w p ≡ Some v → run tree (reverse (p ∷ h)) ≡ Some v
  unfolding run
  run_later h p w v e f =
      ap (λ g. run_from (scopes_of tree) g (Some (start (scopes_of tree)))) (reverse_cons p h) ∙ run_from_append (scopes_of tree) (reverse h) p (Some (start (scopes_of tree))) w e ∙ f

  -- the world before the last entry of a legal schedule
  pub record Before (h : List ℕ) (p : ℕ) (w : World) : Type 0 where
    pub world : World
    pub is : run tree (reverse h) ≡ Some world
    pub enters : after_entry (scopes_of tree) world p ≡ Some w

  before_last : (g : List ℕ) (p : ℕ) (w : World) (o : Option World) → run_from (scopes_of tree) g (Some (start (scopes_of tree))) ≡ o →
      run_from (scopes_of tree) (g ++ p ∷ []) (Some (start (scopes_of tree))) ≡ Some w → (v : World) × (o ≡ Some v) × (after_entry (scopes_of tree) v p ≡ Some w)
  before_last g p w None e f = none_some (sym (run_from_over (scopes_of tree) g p (Some (start (scopes_of tree))) e) ∙ f)
  before_last g p w (Some v) e f = (v, refl, sym (run_from_append (scopes_of tree) g p (Some (start (scopes_of tree))) v e) ∙ f)

  pub before : (h : List ℕ) (p : ℕ) (w : World) → run tree (reverse (p ∷ h)) ≡ Some w → Before h p w
  unfolding run
  before h p w e =
      let f : run_from (scopes_of tree) (reverse h ++ p ∷ []) (Some (start (scopes_of tree))) ≡ Some w =
      ap (λ g. run_from (scopes_of tree) g (Some (start (scopes_of tree)))) (sym (reverse_cons p h)) ∙ e in
      let found = before_last (reverse h) p w (run_from (scopes_of tree) (reverse h) (Some (start (scopes_of tree)))) refl f in
      record { world = found.0; is = found.1; enters = found.2 }
