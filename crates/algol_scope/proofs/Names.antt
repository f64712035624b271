-- Names that are declared, known or have cells, one after the other.
use Rattle.std.proofs.Common.{◌≡◌, ℕ, ◌+◌, ◌<◌, Bool, true, false, List, [], ◌∷◌, ◌++◌, length, drop, get_or, drop-cons, refl, ap, sym, ◌∙◌, subst, suc, add-one, append-nil}
use Rattle.std.specs.Prelude.{is_some, if◌then◌else◌}
use Rattle.std.specs.List.{flat_map}
use Rattle.std.proofs.lemmas.Grind.{flat_map-append}
use Rattle.algol_tree.specs.declared.tree.Heading.{Heading}
use Rattle.algol_tree.specs.declared.tree.Named.{Named}
use Rattle.algol_tree.specs.declared.tree.Spec.{Spec}
use Rattle.algol_tree.specs.Surroundings.{Surroundings, declared_as}
use Rattle.algol_tree.specs.Cells as cells
use Rattle.algol_tree.specs.Cells.{cells_for}
use Rattle.algol_tree.specs.Couples.{Known, known_by, known_in_heading, known_names}
use Rattle.algol_tree.specs.Names.{names_of_spec, specified}
use Rattle.algol_frames.specs.declared.found.Cell.{Cell}
use Rattle.algol_frames.specs.declared.found.Content.{Content}
use Rattle.algol_scope.specs.declared.findings.Findings.{Findings}
use Rattle.algol_scope.specs.Noting.{FindingsAdd, content_of}
use Rattle.algol_scope.specs.Declaring.{result_in}
use Rattle.algol_scope.proofs.Walking.{adds_as, adds_none, adds_then}

-- ---- cells and names in a list, one after the other

-- what is added so far, and what the rest adds, makes what all adds
pub record Adding (old now : Findings) (cs left : List cells.Cell) (us rest : List Known) : Type 0 where
  pub adding : (last : Findings) → FindingsAdd now [] left rest last → FindingsAdd old [] cs us last

pub adding_start : (old : Findings) (cs : List cells.Cell) (us : List Known) → Adding old old cs cs us us
adding_start old cs us = record { adding = λ last a. a }

pub adding_end : (old now : Findings) (cs : List cells.Cell) (us : List Known) → Adding old now cs [] us [] → FindingsAdd old [] cs us now
adding_end old now cs us a = a.adding now (adds_none now)

pub adding_step : (old now new : Findings) (cs one left : List cells.Cell) (us this rest : List Known) → Adding old now cs (one ++ left) us (this ++ rest) →
    FindingsAdd now [] one this new → Adding old new cs left us rest
adding_step old now new cs one left us this rest a b =
    record { adding = λ last d. a.adding last (adds_then now new last [] [] one left this rest b d) }

abbrev cell_with : ℕ → Named → Content → Cell
cell_with block n content = record { block = block; spot = n.spot; content = content }

pub cell_added : (old new : Findings) (block : ℕ) (held : cells.Content) (content : Content) (n : Named) (cell : Cell) → content_of held ≡ content →
    cell ≡ record { block = block; spot = n.spot; content = content } → new.faults ≡ old.faults → new.uses ≡ old.uses →
    new.cells.items ≡ old.cells.items ++ cell ∷ [] → FindingsAdd old [] (cells_for block held (n ∷ [])) [] new
cell_added old new block held content n cell h e f u c =
    record {
      faults = (let g : new.faults.first ≡ old.faults.first = cc in g);
      cells =
          c ∙ ap (λ z. old.cells.items ++ z ∷ []) e ∙ ap (λ z. old.cells.items ++ cell_with block n z ∷ []) (sym h);
      uses = (let g : new.uses.items ≡ old.uses.items = cc in g ∙ sym (append-nil old.uses.items));
    }

pub cells_item : (old now new : Findings) (block : ℕ) (held : cells.Content) (cs : List cells.Cell) (ns : List Named) (i : ℕ) (n : Named) → i < length ns →
    n ≡ get_or ns i n → FindingsAdd now [] (cells_for block held (n ∷ [])) [] new → Adding old now cs (cells_for block held (drop i ns)) [] [] →
    Adding old new cs (cells_for block held (drop (i + 1) ns)) [] []
cells_item old now new block held cs ns i n h same a l =
    rw add-one
    (let at : drop i ns ≡ n ∷ drop (suc i) ns = drop-cons ns i n h ∙ ap (λ z. z ∷ drop (suc i) ns) (sym same) in
    let P : List Named → Type 0 = λ z. Adding old now cs (cells_for block held z) [] [] in
    adding_step old now new cs (cells_for block held (n ∷ [])) (cells_for block held (drop (suc i) ns)) [] [] [] (subst P at l) a)

pub cells_end : (old now : Findings) (block : ℕ) (held : cells.Content) (cs : List cells.Cell) (ns : List Named) → ns ≡ [] →
    Adding old now cs (cells_for block held ns) [] [] → FindingsAdd old [] cs [] now
cells_end old now block held cs ns h l =
    let P : List Named → Type 0 = λ z. Adding old now cs (cells_for block held z) [] [] in adding_end old now cs [] (subst P h l)

known_append : (a : Surroundings) (xs ys : List Named) → known_names a (xs ++ ys) ≡ known_names a xs ++ known_names a ys
known_append a xs ys = flat_map-append (λ (n : Named). known_by n.spot (declared_as a n)) xs ys

-- names of a list
pub knows_some : (old now new : Findings) (us : List Known) (a : Surroundings) (xs ys : List Named) → Adding old now [] [] us (known_names a (xs ++ ys)) →
    FindingsAdd now [] [] (known_names a xs) new → Adding old new [] [] us (known_names a ys)
knows_some old now new us a xs ys l k =
    let P : List Known → Type 0 = λ z. Adding old now [] [] us z in
    adding_step old now new [] [] [] us (known_names a xs) (known_names a ys) (subst P (known_append a xs ys) l) k

pub known_item : (old now new : Findings) (us : List Known) (a : Surroundings) (ns : List Named) (i : ℕ) (n : Named) → i < length ns → n ≡ get_or ns i n →
    FindingsAdd now [] [] (known_names a (n ∷ [])) new → Adding old now [] [] us (known_names a (drop i ns)) → Adding old new [] [] us (known_names a (drop (i + 1) ns))
known_item old now new us a ns i n h same k l =
    rw add-one
    (let at : drop i ns ≡ n ∷ drop (suc i) ns = drop-cons ns i n h ∙ ap (λ z. z ∷ drop (suc i) ns) (sym same) in
    let P : List Named → Type 0 = λ z. Adding old now [] [] us (known_names a z) in
    knows_some old now new us a (n ∷ []) (drop (suc i) ns) (subst P at l) k)

pub known_end : (old now : Findings) (us : List Known) (a : Surroundings) (ns : List Named) → ns ≡ [] → Adding old now [] [] us (known_names a ns) →
    FindingsAdd old [] [] us now
known_end old now us a ns h l =
    let P : List Named → Type 0 = λ z. Adding old now [] [] us (known_names a z) in adding_end old now [] us (subst P h l)

pub known_spec : (old now new : Findings) (us : List Known) (a : Surroundings) (ss : List Spec) (i : ℕ) (s : Spec) (ns : List Named) → i < length ss →
    s ≡ get_or ss i s → ns ≡ names_of_spec s → FindingsAdd now [] [] (known_names a ns) new →
    Adding old now [] [] us (known_names a (flat_map names_of_spec (drop i ss))) →
    Adding old new [] [] us (known_names a (flat_map names_of_spec (drop (i + 1) ss)))
known_spec old now new us a ss i s ns h same e k l =
    rw add-one
    (let at : drop i ss ≡ s ∷ drop (suc i) ss = drop-cons ss i s h ∙ ap (λ z. z ∷ drop (suc i) ss) (sym same) in
    let P : List Named → Type 0 = λ z. Adding old now [] [] us (known_names a z) in
    knows_some old now new us a ns (flat_map names_of_spec (drop (suc i) ss))
    (subst P (ap (flat_map names_of_spec) at ∙ ap (λ z. z ++ flat_map names_of_spec (drop (suc i) ss)) (sym e)) l) k)

pub known_heading : (old one two : Findings) (h : Heading) (a : Surroundings) (params values : List Named) (ss : List Spec) → params ≡ h.params → values ≡ h.values →
    ss ≡ h.specs → FindingsAdd old [] [] (known_names a params) one → FindingsAdd one [] [] (known_names a values) two →
    Adding old two [] [] (known_in_heading h a) (known_names a (flat_map names_of_spec ss))
known_heading old one two h a params values ss p v s x y =
    let P : List Named → Type 0 = λ z. FindingsAdd old [] [] (known_names a z) one in
    let Q : List Named → Type 0 = λ z. FindingsAdd one [] [] (known_names a z) two in
    let R : List Spec → Type 0 = λ z. Adding old two [] [] (known_in_heading h a) (known_names a (flat_map names_of_spec z)) in
    subst R (sym s)
    (adding_step old two two [] [] [] (known_in_heading h a) [] (known_names a (specified h))
    (adding_step old old two [] [] [] (known_in_heading h a) (known_names a h.params ++ known_names a h.values) (known_names a (specified h))
    (adding_start old [] (known_in_heading h a))
    (adds_then old one two [] [] [] [] (known_names a h.params) (known_names a h.values) (subst P p x) (subst Q v y)))
    (adds_none two))

-- ---- the result of a typed procedure

pub result_none : (old : Findings) (block : ℕ) (h : Heading) → is_some h.kind ≡ false → FindingsAdd old [] (result_in block h) [] old
result_none old block h e =
    let P : Bool → Type 0 = λ z. FindingsAdd old [] (if z then cells_for block cells.result (h.name ∷ []) else []) [] old in subst P (sym e) (adds_none old)

pub result_some : (old new : Findings) (block : ℕ) (h : Heading) → is_some h.kind ≡ true → FindingsAdd old [] (cells_for block cells.result (h.name ∷ [])) [] new →
    FindingsAdd old [] (result_in block h) [] new
result_some old new block h e a =
    let P : Bool → Type 0 = λ z. FindingsAdd old [] (if z then cells_for block cells.result (h.name ∷ []) else []) [] new in subst P (sym e) a

pub cell_at : (old new : Findings) (block found : ℕ) (held : cells.Content) (content : Content) (n : Named) → content_of held ≡ content → found ≡ block →
    new.faults ≡ old.faults → new.uses ≡ old.uses → new.cells.items ≡ old.cells.items ++ record { block = found; spot = n.spot; content = content } ∷ [] →
    FindingsAdd old [] (cells_for block held (n ∷ [])) [] new
cell_at old new block found held content n h b f u c =
    cell_added old new block held content n (cell_with found n content) h (ap (λ z. cell_with z n content) b) f u c

pub heading_entered : (old one two new : Findings) (block : ℕ) (h : Heading) (a : Surroundings) (params : List Named) → params ≡ h.params →
    FindingsAdd old [] [] (known_in_heading h a) one → FindingsAdd one [] (result_in block h) [] two → FindingsAdd two [] (cells_for block cells.parameter params) [] new →
    FindingsAdd old [] (result_in block h ++ cells_for block cells.parameter h.params) (known_in_heading h a) new
heading_entered old one two new block h a params same x y z =
    let head = cells_for block cells.parameter h.params in
    let P : List Named → Type 0 = λ ns. FindingsAdd two [] (cells_for block cells.parameter ns) [] new in
    adds_as old new [] [] (result_in block h ++ head) (result_in block h ++ head) (known_in_heading h a ++ []) (known_in_heading h a) refl refl
    (append-nil (known_in_heading h a))
    (adds_then old one new [] [] [] (result_in block h ++ head) (known_in_heading h a) [] x
    (adds_then one two new [] [] (result_in block h) head [] [] y (subst P same z)))
