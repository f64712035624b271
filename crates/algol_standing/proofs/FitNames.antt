-- The cells of the names that a part sees, where calls fit: what stands for something else leads there.
use Rattle.std.proofs.Common.{◌≡◌, ℕ, List, ◌∷◌, Some, Bool, true, false, refl, sym, ap, ◌∙◌, subst}
use Rattle.b67_list.specs.Numbered.{numbered}
use Rattle.b67_list.proofs.Numbers.{absurd_truth}
use Rattle.algol_tree.specs.declared.tree.Named.{Named}
use Rattle.algol_tree.specs.Sorts.{is_formal, is_by_name}
use Rattle.algol_tree.specs.Scopes.{Scopes, use_of}
use Rattle.algol_meaning.specs.Value.{Reference, Cell, simple, event, array, named, reference}
use Rattle.algol_meaning.specs.Settle.{sort_at}
use Rattle.algol_meaning.specs.World.{Instance, instance_at, cell_in, cell_at, by_cell, followed, Part, Process, World}
use Rattle.algol_meaning.specs.Choice.{home, here}
use Rattle.algol_paths.specs.Blocks.{BlockIsSeen}
use Rattle.algol_calls.specs.Fits.{IsLink, CellFits, parameter_sort, own_sort, NameIsTold, IsSettled, NameLeads}
use Rattle.algol_standing.specs.Worlds.{newest_own, skeleton, IsWholeInstance, IsSound}
use Rattle.algol_standing.specs.Fitting.{parameters_at, IsPlainAt, LeadsRight, WorldFits}
use Rattle.algol_standing.proofs.Standing.{stands_path}
use Rattle.algol_standing.proofs.Seen.{there, instance_is, ancestors, part_stands, home_path, top_stands}
use Rattle.algol_standing.proofs.FitCells.{parameter_fits}

module _ (sc : Scopes) (w : World) (ok : IsSound sc IsWholeInstance w) (fits : WorldFits sc w) (p : ℕ) (q : Process) (part : Part) (outer : List Part) (is : numbered w.processes p ≡ Some q)
    (todo : q.todo ≡ part ∷ outer) where
  abbrev pub Seen : Named → Type 0
  Seen n = BlockIsSeen sc ((instance_at w part.instance).block) n

  abbrev at_name : Named → Reference
  at_name n = here sc w p q part outer n

  -- the instance that holds what the name means
  home_there : (n : Named) → Seen n → (x : Instance) × (numbered w.instances (home sc w p q part outer n) ≡ Some x) × (x.block ≡ (use_of sc n).block)
  home_there n s =
      let i = home sc w p q part outer n in
      let path = home_path sc IsWholeInstance w ok p q part outer is todo n s in
      let x = there sc IsWholeInstance w ok i (stands_path (skeleton w) ok.skeleton_ok (newest_own (part ∷ outer)) i (top_stands sc IsWholeInstance w ok p q part outer is todo) path) in
      let block_is = (ancestors sc IsWholeInstance w ok ((use_of sc n).up) part.instance ((use_of sc n).block) (part_stands sc IsWholeInstance w ok p q part outer is todo) s).1 in
      (x.0, x.1, ap (λ (z : Instance). z.block) (sym (instance_is sc IsWholeInstance w ok i x.0 x.1)) ∙ block_is)

  pub plain_here : (n : Named) → Seen n → IsSettled sc n → IsPlainAt sc w (at_name n)
  plain_here n s k =
      let x = home_there n s in
      record {
        instance = x.0;
        is = x.1;
        no_formal = subst (λ b. is_formal (parameter_sort (parameters_at sc b) n.name) ≡ false) (sym x.2) (k.told.formal ∙ k.no_formal);
      }

  -- the own cell of a parameter that stands for something else leads there
  pub link_here : (n : Named) → Seen n → NameIsTold sc n → is_formal (sort_at sc n) ≡ true → IsLink (is_by_name (sort_at sc n)) (cell_at w (at_name n))
  link_here n s told formal =
      let x = home_there n s in
      let f : CellFits (own_sort sc n) (cell_in (x.0).cells n.name) =
      subst (λ b. CellFits (parameter_sort (parameters_at sc b) n.name) (cell_in (x.0).cells n.name)) x.2
      (parameter_fits (parameters_at sc (x.0).block) (x.0).cells n.name (fits.instances (home sc w p q part outer n) x.0 x.1).parameters) in
      subst (λ b. IsLink b (cell_at w (at_name n))) told.by_name
      (subst (λ (z : Instance). IsLink (is_by_name (own_sort sc n)) (cell_in z.cells n.name)) (sym (instance_is sc IsWholeInstance w ok (home sc w p q part outer n) x.0 x.1))
      (f (told.formal ∙ formal)))

  pub right_here : (n : Named) → Seen n → LeadsRight sc w (cell_at w (at_name n))
  right_here n s =
      let x = home_there n s in
      subst (λ (z : Instance). LeadsRight sc w (cell_in z.cells n.name)) (sym (instance_is sc IsWholeInstance w ok (home sc w p q part outer n) x.0 x.1))
      ((fits.instances (home sc w p q part outer n) x.0 x.1).cells n.name)

  -- ---- where a Reference leads

  followed_by : (c : Cell) (r : Reference) → LeadsRight sc w c → IsPlainAt sc w r → IsPlainAt sc w (by_cell c r)
  followed_by (reference s) r h k = h
  followed_by (simple v) r h k = k
  followed_by (event e) r h k = k
  followed_by (array a) r h k = k
  followed_by (named m) r h k = k

  linked_by : (b : Bool) (c : Cell) (r : Reference) → b ≡ false → IsLink b c → LeadsRight sc w c → IsPlainAt sc w (by_cell c r)
  linked_by b (reference s) r e i h = h
  linked_by b (named m) r e i h = absurd_truth (sym i ∙ e)
  linked_by b (simple v) r e i h = absurd i
  linked_by b (event d) r e i h = absurd i
  linked_by b (array a) r e i h = absurd i

  pub followed_here : (n : Named) → Seen n → NameLeads sc n → IsPlainAt sc w (followed w (at_name n))
  followed_here n s l = by (is_formal (sort_at sc n)) refl
    where
      by : (b : Bool) → is_formal (sort_at sc n) ≡ b → IsPlainAt sc w (by_cell (cell_at w (at_name n)) (at_name n))
      by true e = linked_by (is_by_name (sort_at sc n)) (cell_at w (at_name n)) (at_name n) l.not_by_name (link_here n s l.told e) (right_here n s)
      by false e = followed_by (cell_at w (at_name n)) (at_name n) (right_here n s) (plain_here n s (record { told = l.told; no_formal = e }))
