-- The code of a text, in a segment of its own.
use Rattle.std.proofs.Common.{◌≡◌, ℕ, ◌+◌, ◌*◌, ◌<◌, ◌≤◌, List, [], ◌∷◌, ◌++◌, length, replicate, refl, sym, ap, ◌∙◌, subst, arith}
use Rattle.std.specs.Prelude.{unwrap_or, Option, Some, None, IsSome, slice_get}
use Rattle.std.specs.List.{AllByRecursion}
use Rattle.std.proofs.lemmas.List.{append-nil}
use Rattle.std.proofs.lemmas.Option.{slice_get_within}
use Rattle.algol_tree.specs.declared.TheConstants.{MOST_PROCEDURES}
use Rattle.algol_tree.specs.declared.token.Spot.{Spot}
use Rattle.algol_tree.specs.Plain.{PExpr, PDecls, PStmts}
use Rattle.b67_ops.specs.declared.Operator.{Operator}
use Rattle.b67_ops.specs.declared.Operator.TheVariants.{Branch}
use Rattle.b67_ops.specs.declared.BranchKind.TheVariants.{Brun}
use Rattle.b67_ops.specs.declared.TheConstants.{OUTER_LEVEL}
use Rattle.b67_segment.specs.declared.TheConstants.{MOST_SEGMENT_SYLLABLES}
use Rattle.b67_segment.specs.declared.code.Format.{Format}
use Rattle.b67_segment.specs.declared.code.Segment.{Segment}
use Rattle.b67_segment.specs.Operators.{Placed, StandsAmong, size, filled, last_level, missing}
use Rattle.b67_segment.specs.Building.{Built, level_set}
use Rattle.b67_segment.specs.Syllables.{Spells}
use Rattle.b67_segment.proofs.Among.{StandsAmong_kept}
use Rattle.b67_segment.proofs.Filling.{noop}
use Rattle.b67_templates.specs.Cells.{Actual, actuals_in_block}
use Rattle.b67_templates.specs.Emitting.{Emitted, Leaves}
use Rattle.b67_templates.specs.Fragments.{FragmentGoes, over, stop}
use Rattle.b67_templates.specs.Labels.{table_place}
use Rattle.b67_emitter.specs.Values.{AreNear, meanings}
use Rattle.b67_emitter.proofs.Exits.{next_behind}
use Rattle.b67_emit_stmt.specs.declared.draft.Draft.{Draft}
use Rattle.b67_emit_stmt.specs.declared.draft.Known.{Known}
use Rattle.b67_emit_stmt.specs.declared.draft.Label.{Label}
use Rattle.b67_emit_stmt.specs.Actuals.{AreInner}
use Rattle.b67_emit_stmt.specs.Bodies.{AreActuals, EmitsInside, EmitsRoutines, HaveInside, InsideAt, inside_syllables}
use Rattle.b67_emit_stmt.specs.Drafts.{AddsStmts, DraftAgrees, FormatsCanBeListed, Emits, DraftIsAt, IsReady, draft_noted, spots_of}
use Rattle.b67_emit_stmt.specs.Fits.{InsideFits}
use Rattle.b67_emit_stmt.specs.Labels.{label_spots_in}
use Rattle.b67_emit_stmt.specs.Lengths.{celled_in, routines_syllables}
use Rattle.b67_emit_stmt.specs.Places.{Later, Place, RoutinesAt}
use Rattle.b67_emit_stmt.proofs.Blocks.{level_at, own_actuals, some_are, some_of}
use Rattle.b67_emit_stmt.proofs.Drafts.{emits_then, emits_weaker, level_after, piece, set_after}
use Rattle.b67_emit_stmt.proofs.Levels.{at_after}
use Rattle.b67_emit_stmt.proofs.Matched.{ready_less}
use Rattle.b67_emit_stmt.proofs.Notes.{grows_equal, grows_then}
use Rattle.b67_emit_stmt.proofs.Ready.{ready_after}
use Rattle.b67_list.proofs.Lists.{each_at}
use Rattle.b67_emit_text.specs.Codes.{EmitsText, EmitsTextEnd, EmitsWhole, EndingAt, CodeIsMade, TextAt, TextEndAt, WholeAt, segment_syllables, text_end_syllables, text_syllables, zeros_for}
use Rattle.b67_emit_text.specs.Entries.{DeclaredLabel, EntryAt, HeadAimed, HeadAt, entries_of, leads, place_there}
use Rattle.b67_emit_text.proofs.Spots.{Among, Found, entries_found, noted_there}
use Rattle.b67_emit_text.proofs.Tables.{head_kept}

-- ---- a draft of no code yet, at this level

pub record IsNew (level : ℕ) (formats : List Format) (d : Draft) : Type 0 where
  pub set : d.out.level ≡ Some level
  pub start : size d.out.operators ≡ 0
  pub exits : d.exits.items ≡ []
  pub formats_are : d.formats.items ≡ formats
  pub labels : d.labels.items ≡ []

pub is_new : (level : ℕ) (formats : List Format) (o : Built) (d : Draft) → o ≡ record { operators = []; level = None } → d.out ≡ record o { level = Some level } →
    d.exits.items ≡ [] → d.formats.items ≡ formats → d.labels.items ≡ [] → IsNew level formats d
is_new level formats o d none is es fs ls = record {
  set = ap (λ (b : Built). b.level) is;
  start = ap (λ (b : Built). size b.operators) is ∙ ap (λ (b : Built). size b.operators) none;
  exits = es;
  formats_are = fs;
  labels = ls;
}

module _ {level : ℕ} {formats : List Format} {a : Draft} (new : IsNew level formats a) where
  set_new : IsSome a.out.level
  set_new = let S : Option ℕ → Type 0 = λ o. IsSome o in subst S (sym new.set) refl

  pub at_new : OUTER_LEVEL ≤ level → DraftIsAt level a
  at_new outer = record { set = new.set; outer = outer }

  pub ready_new : (s : Known) (n : ℕ) → AreNear s.names.now → AreInner (meanings s.names.now) → length s.procedures.now ≤ MOST_PROCEDURES → s.segment ≤ MOST_PROCEDURES →
      length formats ≤ MOST_SEGMENT_SYLLABLES * s.segment → n ≤ MOST_SEGMENT_SYLLABLES → IsReady s a n
  ready_new s n near inner many segment few room = record {
    set = set_new;
    near = near;
    inner = inner;
    many = many;
    segment = omega (arith, segment);
    few = omega (arith, ap length new.formats_are, few, segment);
    room = omega (arith, new.start, room);
  }

-- ---- code that nothing leaves

none_of : (xs ys : List ℕ) → [] ≡ xs ++ ys → ys ≡ []
none_of [] ys h = sym h
none_of (x ∷ xs) ys h = cc

-- it stands among its own operators and NOOPs after them
stands_filled : {n : ℕ} {a b : Draft} {P : Later → List Placed → ℕ → Type 0} → Emits n a b P → b.exits.items ≡ [] → (later : Later) → DraftAgrees (draft_noted b) later →
    P later (filled b.out.operators) (size b.out.operators)
stands_filled {n} {a} {b} {P} h none later known =
    let ps = b.out.operators in
    let noops = replicate (missing (size ps)) (noop (unwrap_or (last_level None ps) 0)) in
    let L : List ℕ → Type 0 = λ es. Leaves es (size ps) (size a.out.operators) (size ps) ps (ps ++ noops) in
    let left : h.code.exits ≡ [] = none_of a.exits.items h.code.exits (sym none ∙ h.code.added) in
    let leaves : L [] = record {
      others = λ at level next op out lo hi s. StandsAmong_kept noops s;
      aimed = λ at level next old kind among lo hi s. cc;
    } in
    h.code.claimed (filled ps) (size ps) (omega arith) (subst L (sym left) leaves) later known

-- ---- the code of its actuals, what a block has up to its end, and the end

-- the text up to its end, and the end
module _ (s : Known) (level : ℕ) (returned : Option ℕ) (ds : PDecls) (ss : PStmts) (es : List PExpr) (a : Draft) (many : ℕ) (is : many ≡ zeros_for returned ds) where
  end_fits : inside_syllables s many ds ss es + 3 ≤ text_end_syllables s returned ds ss es
  end_fits =
      let R : ℕ → Type 0 = λ n. (inside_syllables s n ds ss es + 3 ≤ text_end_syllables s returned ds ss es) in
      subst R (sym is) (omega arith)

  pub inside_ready : IsReady s a (text_end_syllables s returned ds ss es) → IsReady s a (inside_syllables s many ds ss es)
  inside_ready ready = ready_less s a (text_end_syllables s returned ds ss es) (inside_syllables s many ds ss es) ready (omega (arith, end_fits))

  module _ (ats : List ℕ) (d : Draft) (at : DraftIsAt level a) (fits : HaveInside s level ds ss) (inside : EmitsInside s level a d many ds ss es ats) where
    there : Emits (inside_syllables s many ds ss es) a d
        (λ later qs target. InsideAt fits.0 later qs level many ds ss (some_of es) ats (size a.out.operators) (size d.out.operators))
    there = inside fits.0 (some_of es) fits.1 (some_are es) fits.2

    pub end_set : IsSome a.out.level → IsSome d.out.level
    end_set h = set_after there h

    pub end_at : level ≡ level_set d.out
    end_at = sym (level_after there ∙ level_at a at)

    pub end_room : IsReady s a (text_end_syllables s returned ds ss es) → size d.out.operators + 3 ≤ MOST_SEGMENT_SYLLABLES
    end_room ready = omega (arith, end_fits, there.short, ready.room)

    pub end_stands : (e : Built) → Emitted d.out e (λ qs. EndingAt returned qs level (size d.out.operators)) → size e.operators ≤ size d.out.operators + 3 →
        EmitsTextEnd s level a (record d { out = e }) returned ds ss es ats
    end_stands e ending wide = λ sc actuals same are fit.
        let front = inside sc actuals same are fit in
        let b : Draft = record d { out = e } in
        let last : Emits 3 d b (λ later qs target. EndingAt returned qs level (size d.out.operators)) =
        piece {n = 3} {d = d} {e = b} refl refl front.few (λ later. ending) wide in
        emits_weaker (λ later qs target. TextEndAt sc later qs level returned ds ss actuals ats (size a.out.operators)) (emits_then front last) end_fits
        (λ later qs target hi p.
        let I : ℕ → Type 0 = λ n. InsideAt sc later qs level n ds ss actuals ats (size a.out.operators) (size d.out.operators) in
        (size d.out.operators, subst I is p.0, p.1))

-- .. with the code of its actuals before it
module _ (s : Known) (inner : AreInner (meanings s.names.now)) (level : ℕ) (returned : Option ℕ) (ds : PDecls) (ss : PStmts) (es : List PExpr) (a : Draft)
    (are : es ≡ celled_in s ds ss) where
  own : (sc : Place) → InsideFits sc s level ds ss → AreActuals sc s level es (actuals_in_block sc.scopes ds ss)
  own sc fit = let all = own_actuals s inner level sc ds ss fit in record { same = all.same ∙ sym are; values = all.values }

  pub text_fit : HaveInside s level ds ss → (sc : Place) × (actuals : List Actual) × AreActuals sc s level es actuals
  text_fit fits = (fits.0, actuals_in_block fits.0.scopes ds ss, own fits.0 fits.2)

  text_room : routines_syllables s es + text_end_syllables s returned ds ss es ≤ text_syllables s returned ds ss
  text_room =
      let R : List PExpr → Type 0 = λ l. (routines_syllables s l + text_end_syllables s returned ds ss l ≤ text_syllables s returned ds ss) in
      subst R (sym are) (omega arith)

  pub routines_ready : IsReady s a (text_syllables s returned ds ss) → IsReady s a (routines_syllables s es)
  routines_ready ready = ready_less s a (text_syllables s returned ds ss) (routines_syllables s es) ready (omega (arith, text_room))

  module _ (ats : List ℕ) (r : Draft) (routines : EmitsRoutines s level a r es ats) where
    first_code : (sc : Place) → InsideFits sc s level ds ss →
        Emits (routines_syllables s es) a r (λ later qs target. RoutinesAt sc later qs level (actuals_in_block sc.scopes ds ss) ats)
    first_code sc fit = routines sc (actuals_in_block sc.scopes ds ss) (own sc fit)

    pub text_level : HaveInside s level ds ss → DraftIsAt level a → DraftIsAt level r
    text_level fits at = at_after (first_code fits.0 fits.2) at

    pub text_ready : HaveInside s level ds ss → IsReady s a (text_syllables s returned ds ss) → IsReady s r (text_end_syllables s returned ds ss es)
    text_ready fits ready =
        ready_after s a (text_syllables s returned ds ss) (text_end_syllables s returned ds ss es) ready (first_code fits.0 fits.2) (omega (arith, text_room))

    pub text_made : (begin : ℕ) → begin ≡ size r.out.operators → HaveInside s level ds ss → (d : Draft) → EmitsTextEnd s level r d returned ds ss es ats →
        EmitsText s level a d returned ds ss begin
    text_made begin is fits d ended =
        let first = first_code fits.0 fits.2 in
        record {
          behind = omega (arith, is, first.code.grown);
          near = omega (arith, is, first.short, ap (λ (l : List PExpr). routines_syllables s l) are);
          code = λ sc same fit.
              emits_weaker (λ later qs target. TextAt sc later qs level returned ds ss begin)
              (emits_then (first_code sc fit) (ended sc (actuals_in_block sc.scopes ds ss) same (own sc fit).same fit)) text_room
              (λ later qs target hi p.
              let E : ℕ → Type 0 = λ from. TextEndAt sc later qs level returned ds ss (actuals_in_block sc.scopes ds ss) ats from in
              (ats, p.0, subst E (sym is) p.1));
        }

-- ---- .. and with its head before that

module _ (s : Known) (level : ℕ) (returned : Option ℕ) (ds : PDecls) (ss : PStmts) (a : Draft) (start : size a.out.operators ≡ 0) where
  -- where there is none: no label, and no actual that has a cell
  pub plain_whole : entries_of level ds ss ≡ [] → celled_in s ds ss ≡ [] → (d : Draft) (begin : ℕ) → EmitsText s level a d returned ds ss begin → EmitsWhole s level a d returned ds ss
  plain_whole none bare d begin made = λ sc same fit.
      let zero : begin ≡ 0 = omega (arith, start, made.near, ap (λ (l : List PExpr). routines_syllables s l) bare) in
      emits_weaker (λ later qs target. WholeAt sc later qs level returned ds ss) (made.code sc same fit) (omega arith)
      (λ later qs target hi p.
      let G : ℕ → Type 0 = λ to. FragmentGoes qs level 0 to in
      let Named_at : List DeclaredLabel → Type 0 = λ es. (number : ℕ) (e : DeclaredLabel) → slice_get es number ≡ Some e → EntryAt later.labels qs number e in
      record { begin = begin; over = subst G (sym zero) stop; text = p; tables = subst Named_at (sym none) (λ number e h. absurd (omega (arith, slice_get_within [] number e h))) })

  -- with a head
  module _ (at : DraftIsAt level a) (bare : a.exits.items ≡ []) (unlabelled : a.labels.items ≡ []) (es : List DeclaredLabel) (are : es ≡ entries_of level ds ss) (o : Built) (head : HeadAt o.operators level es)
      (set : o.level ≡ Some level) (wide : size o.operators ≡ 3 + 3 * length es) where
    abbrev pub begun : Draft
    begun = record a { out = o }

    pub begun_at : DraftIsAt level begun
    begun_at = record { set = set; outer = at.outer }

    pub begun_ready : IsReady s a (segment_syllables s level returned ds ss) → IsReady s begun (text_syllables s returned ds ss)
    begun_ready ready = record {
      set = let S : Option ℕ → Type 0 = λ l. IsSome l in subst S (sym set) refl;
      near = ready.near;
      inner = ready.inner;
      many = ready.many;
      segment = ready.segment;
      few = omega (arith, ready.few, start, wide);
      room = omega (arith, ready.room, start, wide, ap (λ (l : List DeclaredLabel). length l) are);
    }

    module _ (d : Draft) (begin : ℕ) (made : EmitsText s level begun d returned ds ss begin) where
      -- the head still stands there
      pub head_there : HaveInside s level ds ss → (level : ℕ) × HeadAt d.out.operators level es
      head_there fits =
          (level, head_kept o.operators d.out.operators level (size o.operators) es ((made.code fits.0 fits.1 fits.2).code.kept) (omega (arith, wide)) head)

      module _ (left : d.exits.items ≡ a.exits.items) (adds : AddsStmts begun d ss) (p : Built) (aimed : HeadAimed es begin d.labels.items d.out p) where
        spots_are : spots_of d.labels.items ≡ label_spots_in ss
        spots_are = adds.labels ∙ ap (λ (l : List Label). spots_of l ++ label_spots_in ss) unlabelled

        module _ (sc : Place) (same : sc.segment ≡ s.segment) (fit : InsideFits sc s level ds ss) where
          text : Emits (text_syllables s returned ds ss) begun d (λ later qs target. TextAt sc later qs level returned ds ss begin)
          text = made.code sc same fit

          -- the labels of the text begin after the table
          labels_behind : AllByRecursion (λ (l : Label). size o.operators ≤ l.place) d.labels.items
          labels_behind =
              let B : List Label → Type 0 = λ l. AllByRecursion (λ (i : Label). size o.operators ≤ i.place) l in
              subst B (sym (text.notes.labels_are ∙ ap (λ (l : List Label). l ++ text.notes.labels) unlabelled)) text.notes.behind

          module _ (qs : List Placed) (leaves : (x l next : ℕ) (op : Operator) → next ≤ size p.operators → StandsAmong p.operators x l op next → StandsAmong qs x l op next) (later : Later)
              (known : DraftAgrees (draft_noted d) later) where
            tables : (number : ℕ) (e : DeclaredLabel) → slice_get (entries_of level ds ss) number ≡ Some e → EntryAt later.labels qs number e
            tables number e there label stands =
                let found = each_at (Found (label_spots_in ss)) (entries_of level ds ss) number e (entries_found level ds ss) there label stands in
                let N : List Spot → Type 0 = λ l. Among label.spot l in
                let n = noted_there d.labels.items label.spot (subst N (sym spots_are) found) in
                let leads_to : leads d.labels.items e ≡ Some n.label.place = ap (place_there d.labels.items) stands ∙ n.place in
                let there' : slice_get es number ≡ Some e = ap (λ (l : List DeclaredLabel). slice_get l number) are ∙ there in
                let within : number < length es = slice_get_within es number e there' in
                let branch = aimed.entries number e n.label.place there' leads_to in
                let behind : size o.operators ≤ n.label.place = each_at (λ (l : Label). size o.operators ≤ l.place) d.labels.items n.number n.label labels_behind n.there in
                let told : later.labels n.label.spot ≡ Some n.label.place = each_at (λ (l : Label). later.labels l.spot ≡ Some l.place) d.labels.items n.number n.label known.labels n.there in (
                  n.label.place,
                  table_place number + 3,
                  ap later.labels (sym n.here) ∙ told,
                  record {
                    stands = leaves (table_place number) e.level (table_place number + 3) (Branch Brun n.label.place) (omega (arith, within, wide, aimed.place, text.code.grown)) branch;
                    forward = omega (arith, within, wide, behind);
                  },
                )

            whole_there : (target : ℕ) → size p.operators ≤ target → WholeAt sc later qs level returned ds ss
            whole_there target hi =
                let none : text.code.exits ≡ [] = none_of begun.exits.items text.code.exits (sym (left ∙ bare) ∙ text.code.added) in
                let L : List ℕ → Type 0 = λ xs. Leaves xs target (size o.operators) (size d.out.operators) d.out.operators qs in
                let kept : L [] = record {
                  others = λ x l next op out lo hi' st. leaves x l next op (omega (arith, hi', aimed.place)) (aimed.others x l next op (omega (arith, lo, wide)) st);
                  aimed = λ x l next old kind among lo hi' st. cc;
                } in
                let first = head_kept o.operators d.out.operators level (size o.operators) es text.code.kept (omega (arith, wide)) head in
                record {
                  begin = begin;
                  over = over 3
                      (record {
                        stands = leaves 0 level 3 (Branch Brun begin) (omega (arith, wide, aimed.place, text.code.grown)) (aimed.over level first.0);
                        forward = omega (arith, made.behind, wide);
                      })
                      stop;
                  text = text.code.claimed qs target (omega (arith, aimed.place, hi)) (subst L (sym none) kept) later known;
                  tables = tables;
                }

        pub head_whole : EmitsWhole s level a (record d { out = p }) returned ds ss
        head_whole = λ sc same fit.
            let m = text sc same fit in
            record {
              code = record {
                level = aimed.level ∙ m.code.level ∙ set ∙ sym at.set;
                grown = omega (arith, start);
                kept = λ x l next op lo hi st. absurd (omega (arith, start, hi, next_behind a.out.operators x l next op st));
                exits = [];
                added = left ∙ sym (append-nil a.exits.items);
                are = tt;
                claimed = λ qs target hi leaves later known.
                    whole_there sc same fit qs (λ x l next op hi' st. leaves.others x l next op refl (omega (arith, start)) hi' st) later known target hi;
              };
              short = omega (arith, m.short, aimed.place, wide, start, ap (λ (l : List DeclaredLabel). length l) are);
              notes = grows_then {m = size a.out.operators} {n = size o.operators} (omega (arith, start)) (grows_equal {n = size a.out.operators} refl) m.notes;
              few = omega (arith, m.few, aimed.place);
              more = omega (arith, m.more, aimed.place, start, wide);
              listed = m.listed;
            }

-- ---- in a segment

module _ (s : Known) (level : ℕ) (formats : List Format) (returned : Option ℕ) (ds : PDecls) (ss : PStmts) (a d : Draft) (new : IsNew level formats a)
    (made : EmitsWhole s level a d returned ds ss) (fits : HaveInside s level ds ss) where
  whole : Emits (segment_syllables s level returned ds ss) a d (λ later qs target. WholeAt fits.0 later qs level returned ds ss)
  whole = made fits.0 fits.1 fits.2

  short : size d.out.operators ≤ segment_syllables s level returned ds ss
  short = omega (arith, whole.short, new.start)

  pub listed_after : FormatsCanBeListed formats → FormatsCanBeListed d.formats.items
  listed_after l = whole.listed (subst FormatsCanBeListed (sym new.formats_are) l)

  pub few_after : segment_syllables s level returned ds ss + 5 ≤ MOST_SEGMENT_SYLLABLES → length d.formats.items ≤ length formats + MOST_SEGMENT_SYLLABLES
  few_after room = omega (arith, whole.more, short, new.start, ap length new.formats_are, room)

  pub short_after : size d.out.operators + 5 ≤ segment_syllables s level returned ds ss + 5
  short_after = omega (arith, short)

  pub text_stands : (segment : Segment) → d.exits.items ≡ [] → AddsStmts a d ss → Spells (filled d.out.operators) segment → CodeIsMade s level returned ds ss segment d.formats.items
  text_stands segment none adds spells = record {
    labels = d.labels.items;
    spots = adds.labels ∙ ap (λ (l : List Label). spots_of l ++ label_spots_in ss) new.labels;
    code = λ sc same fit later known. record { operators = filled d.out.operators; spells = spells; whole = stands_filled (made sc same fit) none later known };
  }
