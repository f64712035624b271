-- Two references lead to one event exactly where the two events lie at one place: so lists of events are searched alike in a world and in its image.
use Rattle.std.proofs.Common.{◌≡◌, refl, sym, ap, ◌∙◌, subst, ℕ, ◌+◌, List, [], ◌∷◌, Option, Some, Bool, true, false, eqb}
use Rattle.algol_tree.proofs.Names.{same_name_is, same_name_itself}
use Rattle.b67_pictures.proofs.Prelude.{eqb-true, eq-eqb, if◌then◌else◌, slice_get, ◌||◌, block_numbered, PProgram, Scopes, scopes_of, same_name, same_reference, Reference, World, instance_at, Place, Code, same_place_true, same_place_self, same_place, place, Image, made_of, made_base, Texts, some_same, HasFacts, Layout, HasEvent, IsEventAt, PicturesBy, ListIs}
use Rattle.std.proofs.lemmas.Bool.{and_parts, and_from}
use Rattle.algol_meaning.specs.Events as meant
use Rattle.b67_events.specs.Events as kernel
use Rattle.b67_templates.specs.Cells.{FoundMade, made_name}
use Rattle.b67_pictures.proofs.EventMoving.{IsOwned, has_here, declares_here, cell_here}

-- each of these instances is one of a process that lives
abbrev pub AllOwned : World → List Reference → Type 0
AllOwned w [] = Unit {0}
AllOwned w (r ∷ rs) = IsOwned w r.instance × AllOwned w rs

alike : (a b : Bool) → (a ≡ true → b ≡ true) → (b ≡ true → a ≡ true) → a ≡ b
alike true b forth back = sym (forth refl)
alike false true forth back = let clash : false ≡ true = back refl in cc
alike false false forth back = refl

-- a reference leads to one place
pub one_place : (sc : Scopes) (w : World) (lay : Layout) (r : Reference) (a b : Place) → IsEventAt sc w lay r a → IsEventAt sc w lay r b → a ≡ b
one_place sc w lay r a b first second =
    first.at_is
    ∙ ap (λ (f : Place). place f.stack (f.at + (made_base sc (block_numbered sc.blocks ((instance_at w r.instance).block)) + first.made.number))) (some_same (sym first.laid ∙ second.laid))
    ∙ ap (λ (n : ℕ). place second.frame.stack (second.frame.at + (made_base sc (block_numbered sc.blocks ((instance_at w r.instance).block)) + n))) same_number
    ∙ sym second.at_is
  where
    same_number : first.made.number ≡ second.made.number
    same_number = ap (λ (x : FoundMade). x.number) (some_same (sym first.made.found ∙ second.made.found))

module _ (tree : PProgram) (code : Code) (texts : Texts) (w : World) (lay : Layout) (img : Image) (by : PicturesBy tree code texts w lay img) (facts : HasFacts w)
    (r : Reference) (at : Place) (lies : IsEventAt (scopes_of tree) w lay r at) (o : IsOwned w r.instance) where
  abbrev sc : Scopes
  sc = scopes_of tree

  module _ (s : Reference) (there : Place) (lies_there : IsEventAt (scopes_of tree) w lay s there) (owned : IsOwned w s.instance) where
    forth : same_reference s r ≡ true → same_place there at ≡ true
    forth e =
        let parts = and_parts (eqb s.instance r.instance) (same_name s.name r.name) e in
        let same : s ≡ r = ap (λ (n : ℕ). record { instance = n; name = s.name }) (eqb-true s.instance r.instance parts.0) ∙ ap (λ (n : List ℕ). record { instance = r.instance; name = n }) (same_name_is s.name r.name parts.1) in
        same_place_self there at (one_place sc w lay r there at (subst (λ (x : Reference). IsEventAt sc w lay x there) same lies_there) lies)

    back : same_place there at ≡ true → same_reference s r ≡ true
    back e =
        let same : there ≡ at = same_place_true there at e in
        let one =
        by.events.apart s.instance r.instance lies_there.made.number lies.made.number (cell_here tree code texts w lay img by facts s there lies_there owned) (cell_here tree code texts w lay img by facts r at lies o) at
        (subst (λ (z : Place). HasEvent (scopes_of tree) w lay s.instance lies_there.made.number (cell_here tree code texts w lay img by facts s there lies_there owned) z) same (has_here tree code texts w lay img by facts s there lies_there owned)) (has_here tree code texts w lay img by facts r at lies o) in
        and_from (eqb s.instance r.instance) (same_name s.name r.name) (eq-eqb s.instance r.instance one.0) (ap (λ (n : List ℕ). same_name s.name n) (sym (names one.0 one.1)) ∙ same_name_itself s.name)
      where
        names : s.instance ≡ r.instance → lies_there.made.number ≡ lies.made.number → s.name ≡ r.name
        names instance_is number_is =
            let first = declares_here tree code texts w lay img by facts s there lies_there owned in
            let second = declares_here tree code texts w lay img by facts r at lies o in
            ap made_name (some_same (sym first ∙ ap (λ (n : ℕ). slice_get (made_of (block_numbered sc.blocks ((instance_at w n).block)).decls) lies_there.made.number) instance_is
            ∙ ap (λ (n : ℕ). slice_get (made_of (block_numbered sc.blocks ((instance_at w r.instance).block)).decls) n) number_is ∙ second))

    pub same_there : same_reference s r ≡ same_place there at
    same_there = alike (same_reference s r) (same_place there at) forth back

  -- it is among events as its place is among theirs
  pub among_there : (rs : List Reference) (ats : List Place) → ListIs (scopes_of tree) w lay rs ats → AllOwned w rs → meant.reference_is_among rs r ≡ kernel.event_is_among ats at
  among_there [] [] is owned = refl
  among_there [] (b ∷ ats) is owned = absurd is
  among_there (s ∷ rs) [] is owned = absurd is
  among_there (s ∷ rs) (b ∷ ats) is owned =
      ap (λ (t : Bool). t || meant.reference_is_among rs r) (same_there s b is.0 owned.0) ∙ ap (λ (t : Bool). same_place b at || t) (among_there rs ats is.1 owned.1)

  -- and has the same position
  pub position_there : (n : ℕ) (rs : List Reference) (ats : List Place) → ListIs (scopes_of tree) w lay rs ats → AllOwned w rs →
      meant.first_that (λ (s : Reference). same_reference s r) n rs ≡ kernel.first_that (λ (b : Place). same_place b at) n ats
  position_there n [] [] is owned = refl
  position_there n [] (b ∷ ats) is owned = absurd is
  position_there n (s ∷ rs) [] is owned = absurd is
  position_there n (s ∷ rs) (b ∷ ats) is owned =
      ap (λ (t : Bool). if t then Some n else meant.first_that (λ (x : Reference). same_reference x r) (n + 1) rs) (same_there s b is.0 owned.0)
      ∙ ap (λ (m : Option ℕ). if same_place b at then Some n else m) (position_there (n + 1) rs ats is.1 owned.1)
