-- Where labels lead, as a table of all labels of a program's texts tells it, is what their declarations say.
use Rattle.std.proofs.Common.{arith, ◌≡◌, inl, inr, ℕ, zero, suc, ◌+◌, ◌<◌, Bool, true, false, List, [], ◌∷◌, ◌++◌, length, Option, Some, None, refl, sym, ap, ◌∙◌, subst, slice_get, if◌then◌else◌}
use Rattle.std.specs.List.{AllByRecursion}
use Rattle.algol_tree.specs.declared.token.Spot.{Spot}
use Rattle.algol_tree.specs.Accepted.{sites_of}
use Rattle.algol_tree.specs.Ascending.{IsInOrder}
use Rattle.algol_tree.specs.Blocks.{Block, block_numbered, number_at, blocks_of_program, same_spot, blocks_in_decls, blocks_in_stmts}
use Rattle.algol_tree.specs.Cells as cells
use Rattle.algol_tree.specs.Cells.{level_at, level_of}
use Rattle.algol_tree.specs.Classes as class
use Rattle.algol_tree.specs.Classes.{Class, is_label}
use Rattle.algol_tree.specs.Couples as places
use Rattle.algol_tree.specs.Couples.{Known, known_there, declaration_at}
use Rattle.algol_tree.specs.Plain as tree
use Rattle.algol_tree.specs.Plain.{PDecls, PStmts, PProgram}
use Rattle.algol_tree.specs.Scopes.{scopes_of}
use Rattle.algol_tree.specs.Sites.{has_decls, sites_in_decls, sites_in_stmts}
use Rattle.algol_tree.specs.Sorts as sort
use Rattle.algol_tree.specs.Sorts.{Declared}
use Rattle.algol_tree.specs.Surroundings.{outermost, knowing_all}
use Rattle.algol_tree.proofs.Spots.{same_spot_is, same_spot_itself}
use Rattle.algol_tree.proofs.Trees.{block_is, got_numbered}
use Rattle.algol_frames.specs.declared.scopes.Declared as found
use Rattle.algol_scope.specs.Resolved.{AreOf, couple, declaration_of, located}
use Rattle.algol_paths.specs.Arrays.{Lows, lows_at, lows_declared, or_lows}
use Rattle.algol_paths.specs.Segments.{segment_of}
use Rattle.algol_lows.specs.Lows.{lows_found_under}
use Rattle.algol_told.proofs.Held.{Passes}
use Rattle.algol_told.proofs.Places.{declared_there, names_known}
use Rattle.algol_told.proofs.Told.{all_pass}
use Rattle.b67_templates.specs.Fitting.{meant_is_event}
use Rattle.b67_templates.specs.Labels.{labels_in, labels_before, label_number, table_place}
use Rattle.b67_emitter.specs.declared.names.Names.{Names}
use Rattle.b67_emitter.specs.declared.names.Target as kept
use Rattle.b67_emitter.specs.Values.{labels, labels_found, lows, lows_found, meant, target_told}
use Rattle.b67_emit_text.specs.Entries.{DeclaredLabel}
use Rattle.b67_emit_text.specs.Targets as table
use Rattle.b67_emit_text.specs.Targets.{or_target, target_at, targets_from, targets_in}
use Rattle.b67_emit_text.specs.Texts.{Text, texts}
use Rattle.b67_fitting.specs.Fitted.{AreTargets, declared_at, meant_as, target_numbered, target_of}
use Rattle.b67_templates.specs.Names.{HasNames}
use Rattle.b67_fitting.proofs.Apart.{IsIn}
use Rattle.b67_fitting.proofs.SurroundedSites.{each_number}
use Rattle.b67_list.proofs.Lists.{each_at, each_back, each_both, each_front}
use Rattle.b67_list.proofs.Numbers.{some_same}
use Rattle.b67_compile.proofs.Entries.{entries_in_text, entries_numbered, entries_among}
use Rattle.b67_compile.proofs.LabelPlaces.{IsLabelOf, label_of_entry, entry_at, in_text, of_text}
use Rattle.b67_compile.proofs.Labelled.{entries_are}
use Rattle.b67_compile.proofs.LabelsDeclared.{InBlocks, label_in_blocks}
use Rattle.b67_compile.proofs.LabelsKnown.{first_of, HasLabels, IsRow, IsLabelThere, decls_labels, stmts_labels, same_depth}
use Rattle.b67_compile.proofs.Meanings.{all_held, held_found, known_from, meant_known}

-- ---- in a list of texts

-- what is found there is that of an entry
record FromEntry (text number : ℕ) (es : List DeclaredLabel) (spot : Spot) (t : kept.Target) : Type 0 where
  index : ℕ
  entry : DeclaredLabel
  there : slice_get es index ≡ Some entry
  at : entry.name.spot ≡ spot
  is : target_at text (number + index) entry ≡ t

from_entry : (text number : ℕ) (es : List DeclaredLabel) (spot : Spot) (t : kept.Target) → targets_from text number es spot ≡ Some t → FromEntry text number es spot t
from_entry text number [] spot t h = absurd (let clash : None ≡ Some t = h in cc)
from_entry text number (e ∷ es) spot t h = by (λ g. from_entry text (number + 1) es spot t g) (same_spot e.name.spot spot) refl h
  where
    by : (targets_from text (number + 1) es spot ≡ Some t → FromEntry text (number + 1) es spot t) → (b : Bool) → same_spot e.name.spot spot ≡ b → or_target (if b then Some (target_at text number e) else None) (targets_from text (number + 1) es spot) ≡ Some t → FromEntry text number (e ∷ es) spot t
    by f true same g =
        let here : number ≡ number + 0 = omega arith in
        let one : target_at text number e ≡ t = cc in
        record { index = 0; entry = e; there = refl; at = same_spot_is e.name.spot spot same; is = ap (λ (n : ℕ). target_at text n e) (sym here) ∙ one }
    by f false other g =
        let r = f g in
        let on : number + suc r.index ≡ number + 1 + r.index = omega arith in
        record { index = suc r.index; entry = r.entry; there = r.there; at = r.at; is = ap (λ (n : ℕ). target_at text n r.entry) on ∙ r.is }

-- .. of an entry something is found
some_entry : (text number : ℕ) (es : List DeclaredLabel) (index : ℕ) (e : DeclaredLabel) → slice_get es index ≡ Some e → targets_from text number es e.name.spot ≡ None → ⊥
some_entry text number [] index e h none = let clash : None ≡ Some e = h in cc
some_entry text number (f ∷ es) zero e h none =
    let same : f ≡ e = cc in
    let on : same_spot f.name.spot e.name.spot ≡ true = ap (λ (z : DeclaredLabel). same_spot z.name.spot e.name.spot) same ∙ same_spot_itself e.name.spot in
    let clash : Some (target_at text number f) ≡ None =
    ap (λ (b : Bool). or_target (if b then Some (target_at text number f) else None) (targets_from text (number + 1) es e.name.spot)) (sym on) ∙ none in
    cc
some_entry text number (f ∷ es) (suc index) e h none = by (λ g. some_entry text (number + 1) es index e h g) (same_spot f.name.spot e.name.spot) none
  where
    by : (targets_from text (number + 1) es e.name.spot ≡ None → ⊥) → (b : Bool) → or_target (if b then Some (target_at text number f) else None) (targets_from text (number + 1) es e.name.spot) ≡ None → ⊥
    by later true g = let clash : Some (target_at text number f) ≡ None = g in cc
    by later false g = later g

record FromText (first : ℕ) (ts : List Text) (spot : Spot) (t : kept.Target) : Type 0 where
  number : ℕ
  text : Text
  there : slice_get ts number ≡ Some text
  place : ℕ
  entry : DeclaredLabel
  entry_there : slice_get (entries_in_text text) place ≡ Some entry
  at : entry.name.spot ≡ spot
  is : target_at (first + number) place entry ≡ t

from_text : (first : ℕ) (ts : List Text) (spot : Spot) (t : kept.Target) → targets_in first ts spot ≡ Some t → FromText first ts spot t
from_text first [] spot t h = absurd (let clash : None ≡ Some t = h in cc)
from_text first (u ∷ ts) spot t h = by (λ g. from_text (first + 1) ts spot t g) (targets_from first 0 (entries_in_text u) spot) refl h
  where
    by : (targets_in (first + 1) ts spot ≡ Some t → FromText (first + 1) ts spot t) → (o : Option kept.Target) → targets_from first 0 (entries_in_text u) spot ≡ o → or_target o (targets_in (first + 1) ts spot) ≡ Some t → FromText first (u ∷ ts) spot t
    by f (Some x) e g =
        let same : x ≡ t = cc in
        let r = from_entry first 0 (entries_in_text u) spot t (e ∙ ap Some same) in
        let here : first ≡ first + 0 = omega arith in
        let own : 0 + r.index ≡ r.index = omega arith in
        record { number = 0; text = u; there = refl; place = r.index; entry = r.entry; entry_there = r.there; at = r.at; is = ap (λ (n : ℕ). target_at n r.index r.entry) (sym here) ∙ ap (λ (n : ℕ). target_at first n r.entry) (sym own) ∙ r.is }
    by f None e g =
        let r = f g in
        let on : first + suc r.number ≡ first + 1 + r.number = omega arith in
        record {
          number = suc r.number;
          text = r.text;
          there = r.there;
          place = r.place;
          entry = r.entry;
          entry_there = r.entry_there;
          at = r.at;
          is = ap (λ (n : ℕ). target_at n r.place r.entry) on ∙ r.is;
        }

some_text : (first : ℕ) (ts : List Text) (number place : ℕ) (text : Text) (e : DeclaredLabel) → slice_get ts number ≡ Some text → slice_get (entries_in_text text) place ≡ Some e → targets_in first ts e.name.spot ≡ None → ⊥
some_text first [] number place text e h g none = let clash : None ≡ Some text = h in cc
some_text first (u ∷ ts) number place text e h g none =
    by (λ m k n. some_text (first + 1) ts m place text e k g n) (targets_from first 0 (entries_in_text u) e.name.spot) refl number h none
  where
    by : ((m : ℕ) → slice_get ts m ≡ Some text → targets_in (first + 1) ts e.name.spot ≡ None → ⊥) → (o : Option kept.Target) → targets_from first 0 (entries_in_text u) e.name.spot ≡ o → (m : ℕ) → slice_get (u ∷ ts) m ≡ Some text → or_target o (targets_in (first + 1) ts e.name.spot) ≡ None → ⊥
    by later (Some x) q m k n = let clash : Some x ≡ None = n in cc
    by later None q zero k n =
        let same : u ≡ text = cc in
        some_entry first 0 (entries_in_text u) place e (ap (λ (z : Text). slice_get (entries_in_text z) place) same ∙ g) q
    by later None q (suc m) k n = later m k n

-- ---- lists

index_of : {X : Type 0} (x : X) (xs : List X) → IsIn x xs → (i : ℕ) × (slice_get xs i ≡ Some x)
index_of x [] i = absurd i
index_of x (y ∷ ys) (inl e) = (0, ap Some (sym e))
index_of x (y ∷ ys) (inr i) = let r = index_of x ys i in (suc r.0, r.1)

within : {X : Type 0} (i : ℕ) (x : X) (xs : List X) → slice_get xs i ≡ Some x → i < length xs
within i x [] h = absurd (let clash : None ≡ Some x = h in cc)
within zero x (y ∷ ys) h = omega arith
within (suc i) x (y ∷ ys) h = omega (arith, within i x ys h)

label_class : (c : Class) → is_label c ≡ true → c ≡ class.label
label_class class.label h = refl
label_class (class.simple kind) h = absurd (let clash : false ≡ true = h in cc)
label_class (class.array kind rank) h = absurd (let clash : false ≡ true = h in cc)
label_class class.event h = absurd (let clash : false ≡ true = h in cc)
label_class class.task h = absurd (let clash : false ≡ true = h in cc)
label_class class.file h = absurd (let clash : false ≡ true = h in cc)
label_class (class.procedure g) h = absurd (let clash : false ≡ true = h in cc)
label_class class.unknown h = absurd (let clash : false ≡ true = h in cc)

-- ---- a program

module _ (at : Spot) (ds : PDecls) (ss : PStmts) (names : Names) (order : IsInOrder (tree.program (tree.body at ds ss)))
    (named : HasNames (tree.program (tree.body at ds ss))) (are : AreOf (tree.program (tree.body at ds ss)) names.scopes.now) where
  abbrev p : PProgram
  p = tree.program (tree.body at ds ss)

  abbrev blocks : List Block
  blocks = blocks_of_program p

  abbrev all : List Known
  all = names_known p

  abbrev ts : List Text
  ts = texts (tree.body at ds ss)

  own_number : (j : ℕ) → j < length blocks → number_at blocks (block_numbered blocks j).spot ≡ j
  own_number j h = each_number p order j (block_numbered blocks j) (got_numbered blocks j h)

  -- the labels of each block are known so
  all_labels : AllByRecursion (HasLabels blocks all) blocks
  unfolding blocks_of_program
  all_labels =
      let xs = sites_in_decls blocks ds outermost [] in
      let after = knowing_all blocks ds outermost in
      let ys = sites_in_stmts blocks ss (has_decls ds) after in
      let pass = all_pass p order names.scopes.now are in
      let f = decls_labels blocks all ds outermost [] [] (at ∷ []) refl tt (λ name off. tt) (each_front (Passes blocks all) xs ys pass) in
      let first : number_at blocks at ≡ 0 = ap (λ (b : Bool). if b then 0 else number_at (blocks_in_decls ds (at ∷ []) ++ blocks_in_stmts ss (at ∷ [])) at + 1) (same_spot_itself at) in (
        record { rows = f.rows; there = subst (λ (n : ℕ). AllByRecursion (IsLabelThere blocks all n 0) (labels_in ds)) (sym first) f.there; fresh = f.fresh },
        each_both (HasLabels blocks all) (blocks_in_decls ds (at ∷ [])) (blocks_in_stmts ss (at ∷ [])) f.inner
            (stmts_labels blocks all ss (has_decls ds) after (at ∷ []) (ap (λ (n : ℕ). n + 1) (same_depth blocks all ds outermost)) f.after (each_back (Passes blocks all) xs ys pass)),
      )

  -- where lower bounds are known, an array is
  row_at : (bs : List Block) → AllByRecursion (HasLabels blocks all) bs → (spot : Spot) (l : Lows) → lows_at bs spot ≡ Some l → IsRow blocks all spot
  row_at [] h spot l e = absurd (let clash : None ≡ Some l = e in cc)
  row_at (b ∷ bs) h spot l e = by (λ g. row_at bs h.1 spot l g) (lows_declared b.decls spot) refl e
    where
      by : (lows_at bs spot ≡ Some l → IsRow blocks all spot) → (o : Option Lows) → lows_declared b.decls spot ≡ o → or_lows o (lows_at bs spot) ≡ Some l → IsRow blocks all spot
      by later None q g = later g
      by later (Some x) q g = h.0.rows spot l (q ∙ g)

  -- .. so no event's name has any
  pub no_event_rows : ((spot : Spot) → lows_found_under names.lows spot ≡ lows_at blocks spot) → (spot : Spot) (l : Lows) → lows names spot ≡ Some l → meant_is_event (meant names spot) ≡ false
  unfolding declaration_at declared_at
  no_event_rows bounds spot l h = by (declaration_of names.scopes.now spot) (are.declarations spot) h
    where
      by : (o : Option found.Declared) → located o ≡ declaration_at p spot → lows_found names o ≡ Some l → meant_is_event (meant names spot) ≡ false
      by None q g = absurd (let clash : None ≡ Some l = g in cc)
      by (Some x) q g = of_known (known_there all spot) refl q
        where
          row : IsRow blocks all x.spot
          row = row_at blocks all_labels x.spot l (sym (bounds x.spot) ∙ g)

          of_known : (o : Option Declared) → known_there all spot ≡ o → located (Some x) ≡ places.located blocks (sites_of p) o → meant_is_event (meant names spot) ≡ false
          of_known None k r = absurd (let clash : Some (record { spot = x.spot; level = x.level; couple = couple x.couple }) ≡ None = r in cc)
          of_known (Some d) k r =
              let both : record { spot = x.spot; level = x.level; couple = couple x.couple }
              ≡ record { spot = d.spot; level = cells.level_at d.depth; couple = cells.couple_in blocks (sites_of p) d.block d.spot } = cc in
              let same : x.spot ≡ d.spot = ap (λ (z : places.Located). z.spot) both in
              let own : known_there all d.spot ≡ Some d = held_found blocks all all spot d (all_held p names order are) k in
              let one : row.as_one ≡ d = some_same row.as_one d (sym row.known ∙ ap (known_there all) same ∙ own) in
              let array : d.class ≡ class.array row.kind row.rank = ap (λ (z : Declared). z.class) (sym one) ∙ row.class_is in
              ap meant_is_event (meant_known p names order are spot d k) ∙ ap (λ (c : Class). meant_is_event (meant_as c d.sort)) array

  module _ (d : Declared) (own : known_there all d.spot ≡ Some d) where
    found_target : (t : kept.Target) → targets_in 0 ts d.spot ≡ Some t → target_told (Some t) ≡ target_of (scopes_of p) d
    unfolding scopes_of
    found_target t h =
        let sc = scopes_of p in
        let r = from_text 0 ts d.spot t h in
        let k = r.number in
        let e = r.entry in
        let same : 0 + k ≡ k = omega arith in
        let there : slice_get (entries_among blocks k blocks) r.place ≡ Some e =
        ap (λ (es : List DeclaredLabel). slice_get es r.place) (entries_are at ds ss order named k)
        ∙ ap (λ (n : ℕ). slice_get (entries_numbered 0 ts n) r.place) (sym same) ∙ of_text 0 ts k r.place r.text e r.there r.entry_there in
        let l : IsLabelOf sc (got_numbered blocks) own_number k r.place e = label_of_entry sc (got_numbered blocks) own_number k r.place e there in
        let j = l.block in
        let b = block_numbered blocks j in
        let its : HasLabels blocks all b = each_at (HasLabels blocks all) blocks j b all_labels (got_numbered blocks j l.within) in
        let known : IsLabelThere blocks all (number_at blocks b.spot) (length b.outer) e.name =
        each_at (IsLabelThere blocks all (number_at blocks b.spot) (length b.outer)) (labels_in b.decls) l.index e.name its.there l.label_is in
        let D : Declared = record { name = e.name.name; spot = e.name.spot; block = number_at blocks b.spot; depth = length b.outer; sort = sort.label; class = class.label } in
        let one : D ≡ d = some_same D d (sym known ∙ ap (known_there all) r.at ∙ own) in
        let number : label_number sc j e.name.name ≡ Some (labels_before sc (segment_of blocks j) j + l.index) =
        first_of (labels_before sc (segment_of blocks j) j) [] (labels_in b.decls) l.index e.name its.fresh l.label_is in
        let target : target_of sc D ≡ Some (record { level = level_of b; segment = segment_of blocks j; entry = table_place (labels_before sc (segment_of blocks j) j + l.index) }) =
        ap (λ (n : ℕ). target_numbered (level_of b) (segment_of blocks n) (label_number sc n e.name.name)) (own_number j l.within)
        ∙ ap (target_numbered (level_of b) (segment_of blocks j)) number in
        let place : r.place ≡ labels_before sc (segment_of blocks j) j + l.index = l.place_is ∙ ap (λ (n : ℕ). labels_before sc n j + l.index) (sym l.segment) in
        ap (λ (x : kept.Target). target_told (Some x)) (sym r.is)
        ∙ ap (λ (n : ℕ). Some (record { level = e.level; segment = n; entry = table_place r.place })) same
        ∙ ap (λ (n : ℕ). Some (record { level = n; segment = k; entry = table_place r.place })) l.level_is
        ∙ ap (λ (n : ℕ). Some (record { level = level_of b; segment = n; entry = table_place r.place })) (sym l.segment)
        ∙ ap (λ (n : ℕ). Some (record { level = level_of b; segment = segment_of blocks j; entry = table_place n })) place
        ∙ sym target ∙ ap (target_of sc) one

    no_target : (b : Bool) → is_label d.class ≡ b → targets_in 0 ts d.spot ≡ None → target_of (scopes_of p) d ≡ None
    unfolding scopes_of
    no_target false off h =
        let sc = scopes_of p in
        ap (λ (t : Bool). if t then target_numbered (level_at d.depth) (segment_of sc.blocks d.block) (label_number sc d.block d.name) else None) off
    no_target true on h =
        let sc = scopes_of p in
        let r : InBlocks blocks d.spot = label_in_blocks at ds ss d.spot d own (label_class d.class on) in
        let j = index_of r.in_block blocks r.there in
        let less = within j.0 r.in_block blocks j.1 in
        let b = block_numbered blocks j.0 in
        let same : b ≡ r.in_block = block_is blocks j.0 r.in_block j.1 in
        let i = index_of r.one (labels_in r.in_block.decls) r.among in
        let k = segment_of blocks j.0 in
        let e : DeclaredLabel = record { level = level_of b; name = r.one; stmts = b.stmts } in
        let there : slice_get (entries_among blocks k blocks) (labels_before sc k j.0 + i.0) ≡ Some e =
        entry_at sc (got_numbered blocks) own_number j.0 i.0 r.one less (ap (λ (z : Block). slice_get (labels_in z.decls) i.0) same ∙ i.1) in
        let zero_first : 0 + k ≡ k = omega arith in
        let q = in_text 0 ts k (labels_before sc k j.0 + i.0) e
        (ap (λ (n : ℕ). slice_get (entries_numbered 0 ts n) (labels_before sc k j.0 + i.0)) zero_first
        ∙ ap (λ (es : List DeclaredLabel). slice_get es (labels_before sc k j.0 + i.0)) (sym (entries_are at ds ss order named k)) ∙ there) in
        absurd (some_text 0 ts k (labels_before sc k j.0 + i.0) q.text e q.text_is q.entry_is (ap (targets_in 0 ts) r.at ∙ h))

    targets_are : target_told (targets_in 0 ts d.spot) ≡ target_of (scopes_of p) d
    targets_are = by (targets_in 0 ts d.spot) refl
      where
        by : (o : Option kept.Target) → targets_in 0 ts d.spot ≡ o → target_told o ≡ target_of (scopes_of p) d
        by None e = sym (no_target (is_label d.class) refl e)
        by (Some t) e = found_target t e

  pub targets_known : table.AreTargets ts names.labels → AreTargets p (labels names)
  targets_known there spot d h = by (declaration_of names.scopes.now spot) (are.declarations spot ∙ declared_there p spot d known)
    where
      known : known_there all spot ≡ Some d
      known = known_from p spot d h

      by : (o : Option found.Declared) → located o ≡ places.located blocks (sites_of p) (Some d) → labels_found names o ≡ target_of (scopes_of p) d
      by None l = absurd (let clash : None ≡ places.located blocks (sites_of p) (Some d) = l in cc)
      by (Some x) l =
          let both : record { spot = x.spot; level = x.level; couple = couple x.couple }
          ≡ record { spot = d.spot; level = cells.level_at d.depth; couple = cells.couple_in blocks (sites_of p) d.block d.spot } = cc in
          let same : x.spot ≡ d.spot = ap (λ (z : places.Located). z.spot) both in
          let own : known_there all d.spot ≡ Some d = held_found blocks all all spot d (all_held p names order are) known in
          ap target_told (there x.spot) ∙ ap (λ (s : Spot). target_told (targets_in 0 ts s)) same ∙ targets_are d own
