-- An instance to whose cells others are added, of arrays and events, keeps what it has.
use Rattle.std.proofs.Common.{◌≡◌, refl, sym, ap, ◌∙◌, subst, ℕ, zero, suc, List, [], ◌∷◌, ◌++◌, Some, Bool, true, false}
use Rattle.b67_pictures.proofs.Prelude.{if◌then◌else◌, slice_get, Scopes, same_name, Reference, Cell, ArrayCell, array, NamedCell, World, instance_at, cell_in, by_cell, Made, an_array, an_event, Word, KeepsArrays, Allotted, Layout, AreMade}
use Rattle.b67_frames.proofs.Knowing.{IsNoReference, leads_home}
use Rattle.b67_scenes.proofs.Tasks.{event_front}

abbrev pub HaveNoReference : List NamedCell → Type 0
HaveNoReference [] = Unit {0}
HaveNoReference (c ∷ cells) = IsNoReference c.cell × HaveNoReference cells

-- what is made refers to nothing
pub made_no_reference : (ms : List Made) (cells : List NamedCell) (as' : List Allotted) (words : List Word) → AreMade ms cells as' words → HaveNoReference cells
made_no_reference [] [] as' words made = tt
made_no_reference [] (c ∷ cells) [] words made = absurd made
made_no_reference [] (c ∷ cells) (a ∷ as') words made = absurd made
made_no_reference (m ∷ ms) [] as' words made = absurd made
made_no_reference (m ∷ ms) (c ∷ cells) [] words made = absurd made
made_no_reference (m ∷ ms) (c ∷ cells) (a ∷ as') [] made = absurd made
made_no_reference (an_array d ∷ ms) (c ∷ cells) (a ∷ as') (x ∷ words) made =
    (subst (λ (y : Cell). IsNoReference y) (sym (made.0).is) tt, made_no_reference ms cells as' words made.1)
made_no_reference (an_event name ∷ ms) (c ∷ cells) (a ∷ as') (x ∷ words) made =
    (subst (λ (y : Cell). IsNoReference y) (sym (made.0).is) tt, made_no_reference ms cells as' words made.1)

array_front : (cells more : List NamedCell) (name : List ℕ) (a : ArrayCell) → cell_in cells name ≡ array a → cell_in (cells ++ more) name ≡ array a
array_front [] more name a is = cc
array_front (c ∷ cells) more name a is = by_name (same_name c.name name) is (array_front cells more name a)
  where
    by_name : (b : Bool) → (if b then c.cell else cell_in cells name) ≡ array a → (cell_in cells name ≡ array a → cell_in (cells ++ more) name ≡ array a) → (if b then c.cell else cell_in (cells ++ more) name) ≡ array a
    by_name true here later = here
    by_name false further later = later further

none_leads : (more : List NamedCell) (name : List ℕ) (r : Reference) → HaveNoReference more → by_cell (cell_in more name) r ≡ r
none_leads [] name r none = refl
none_leads (c ∷ more) name r none = by_name (same_name c.name name) (none_leads more name r none.1)
  where
    by_name : (b : Bool) → by_cell (cell_in more name) r ≡ r → by_cell (if b then c.cell else cell_in more name) r ≡ r
    by_name true later = leads_home c.cell r none.0
    by_name false later = later

leads_front : (cells more : List NamedCell) (name : List ℕ) (r : Reference) → HaveNoReference more → by_cell (cell_in (cells ++ more) name) r ≡ by_cell (cell_in cells name) r
leads_front [] more name r none = none_leads more name r none
leads_front (c ∷ cells) more name r none = by_name (same_name c.name name) (leads_front cells more name r none)
  where
    by_name : (b : Bool) → by_cell (cell_in (cells ++ more) name) r ≡ by_cell (cell_in cells name) r → by_cell (if b then c.cell else cell_in (cells ++ more) name) r ≡ by_cell (if b then c.cell else cell_in cells name) r
    by_name true later = refl
    by_name false later = later

rows_front : (as' more : List Allotted) (k : ℕ) (a : Allotted) → slice_get as' k ≡ Some a → slice_get (as' ++ more) k ≡ Some a
rows_front [] more k a is = cc
rows_front (x ∷ as') more zero a is = is
rows_front (x ∷ as') more (suc k) a is = rows_front as' more k a is

pub keeps_grown : (sc : Scopes) (w w' : World) (lay lay' : Layout) (j : ℕ) (new : List NamedCell) (more : List Allotted) → instance_at w' j ≡ record (instance_at w j) { cells = (instance_at w j).cells ++ new } → lay'.rows j ≡ lay.rows j ++ more → HaveNoReference new →
    KeepsArrays sc w w' lay lay' j
keeps_grown sc w w' lay lay' j new more is rows none =
    record {
      block = ap (λ x. x.block) is;
      parent = ap (λ x. x.parent) is;
      arrays = λ name cell lies. record { later = cell; is = ap (λ x. cell_in x.cells name) is ∙ array_front ((instance_at w j).cells) new name cell lies; bounds = refl };
      events = λ name e lies. (e, ap (λ x. cell_in x.cells name) is ∙ event_front ((instance_at w j).cells) new name e lies);
      leads = λ name r. ap (λ x. by_cell (cell_in x.cells name) r) is ∙ leads_front ((instance_at w j).cells) new name r none;
      rows = λ number a lies. ap (λ rs. slice_get rs number) rows ∙ rows_front (lay.rows j) more number a lies;
    }
