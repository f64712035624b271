-- The code of the texts is that of their program.
use Rattle.std.proofs.Common.{arith, ◌≡◌, ◌⊎◌, ℕ, zero, suc, ◌<◌, ◌≤◌, true, List, [], ◌∷◌, ◌++◌, length, Option, Some, None, refl, sym, ap, ◌∙◌, subst, slice_get, ◌+◌, append_assoc}
use Rattle.algol_tree.specs.declared.token.Spot.{Spot}
use Rattle.algol_tree.specs.declared.tree.Kind.{Kind}
use Rattle.algol_tree.specs.declared.tree.Named.{Named}
use Rattle.algol_tree.specs.Blocks.{Block, block_numbered}
use Rattle.algol_tree.specs.Cells.{level_of}
use Rattle.algol_tree.specs.Plain as tree
use Rattle.algol_tree.specs.Plain.{PDecls, PStmts, PProgram}
use Rattle.algol_tree.specs.Scopes.{Scopes, scopes_of}
use Rattle.algol_meaning.specs.Rest.{Item, result}
use Rattle.algol_meaning.specs.Statements as statements
use Rattle.algol_meaning.specs.Statements.{event_items, items, decls_items}
use Rattle.algol_paths.specs.Segments.{is_procedure, segment_of}
use Rattle.b67_segment.specs.Operators.{Placed}
use Rattle.b67_segment.specs.Syllables.{Spells}
use Rattle.b67_segment.specs.declared.TheConstants.{MOST_SEGMENT_WORDS}
use Rattle.b67_segment.specs.declared.code.Code.{Code}
use Rattle.b67_segment.specs.declared.code.Format.{Format}
use Rattle.b67_segment.specs.declared.code.Segment.{Segment}
use Rattle.b67_listing.specs.Listings.{HasOperators, IsListable}
use Rattle.b67_templates.specs.Contexts.{yields_of, Context}
use Rattle.b67_templates.specs.Fragments.{FragmentGoes, stop}
use Rattle.b67_templates.specs.Cells.{actuals_of, zero_cells}
use Rattle.b67_templates.specs.Code.{RoutinesAt, CellsAt, DeclsAt, HasNoCounts, StmtsAt, KAt, control_pcws}
use Rattle.b67_templates.specs.Events.{EventsMadeAt}
use Rattle.b67_templates.specs.Labels.{label_number, label_in, LabelAt}
use Rattle.b67_templates.specs.Programs.{BodyAt, ProgramAt, Texts, context_of}
use Rattle.b67_emitter.specs.declared.names.Names.{Names}
use Rattle.b67_emit_stmt.specs.Drafts.{FormatsCanBeListed}
use Rattle.b67_emit_text.specs.Entries.{DeclaredLabel}
use Rattle.b67_emit_text.specs.Programs as made
use Rattle.b67_emit_text.specs.Programs.{AreShort, Coded, EndAt}
use Rattle.b67_emit_text.specs.Texts.{Text, texts}
use Rattle.b67_faithful.specs.Faithful.{IsShortSegment}
use Rattle.b67_fitting.proofs.Fits.{labels_stand}
use Rattle.b67_standing.proofs.Starting.{items_uncounted}
use Rattle.b67_compile.proofs.Listed.{all_listed, is_segment}
use Rattle.b67_compile.proofs.Matching.{text_of}
use Rattle.b67_compile.proofs.Places.{block_text, text_block, texts_many}
use Rattle.b67_compile.proofs.Premises.{Given, due}
use Rattle.b67_compile.proofs.Labelled.{label_entry}

-- a typed procedure ends with its result
abbrev ending : Option Kind → List ℕ → List Item
ending None name = []
ending (Some kind) name = result name ∷ []

same_ending : (b : Block) → statements.ending b ≡ ending b.result b.name
same_ending b = by b.result
  where
    by : (o : Option Kind) → statements.ending (record b { result = o }) ≡ ending o b.name
    by None = refl
    by (Some kind) = refl

-- nothing of a THRU comes before a block's statements
ending_counts : (o : Option Kind) (name : List ℕ) → HasNoCounts (ending o name)
ending_counts None name = tt
ending_counts (Some kind) name = tt

-- statements are followed by what comes after them
module _ (sc : Scopes) (context : Context) (ps : List Placed) (level : ℕ) where
  items_at : (ss : PStmts) (k : List Item) (f t : ℕ) → StmtsAt sc context ps level ss f t t → KAt sc context ps level k t → KAt sc context ps level (items ss k) f
  items_at tree.no_stmts k f t s after = subst (λ pc. KAt sc context ps level k pc) (sym s) after
  items_at (tree.stmts s tree.no_stmts) k f t here after = (f, t, t, stop, here, stop, after)
  items_at (tree.stmts s (tree.stmts s' ss)) k f t here after = (f, here.0, here.0, stop, here.1, stop, items_at (tree.stmts s' ss) k here.0 t here.2 after)

  -- EXIT, or the result is given back
  ending_at : (o : Option Kind) (name : List ℕ) (at : ℕ) → context.yields ≡ yields_of o → EndAt sc context ps level o name at → KAt sc context ps level (ending o name) at
  ending_at None name at e there = (at, there.0, e, stop, there.1)
  ending_at (Some kind) name at e there = (at, stop, there)

  -- events are made one after another
  events_at : (ns : List Named) (k : List Item) (f t : ℕ) → EventsMadeAt sc context ps level ns f t → HasNoCounts k × KAt sc context ps level k t →
      HasNoCounts (event_items ns ++ k) × KAt sc context ps level (event_items ns ++ k) f
  events_at [] k f t s after = (after.0, subst (λ pc. KAt sc context ps level k pc) (sym s) after.1)
  events_at (n ∷ ns) k f t here after =
      let rest = events_at ns k here.0 t here.2 after in
      (rest.0, (f, here.0, stop, here.1, rest.0, rest.1))

  events_and : (ns : List Named) (ds : PDecls) (k : List Item) (f t : ℕ) → EventsMadeAt sc context ps level ns f t →
      HasNoCounts (decls_items ds ++ k) × KAt sc context ps level (decls_items ds ++ k) t →
      HasNoCounts ((event_items ns ++ decls_items ds) ++ k) × KAt sc context ps level ((event_items ns ++ decls_items ds) ++ k) f
  events_and ns ds k f t here after =
      subst (λ (j : List Item). HasNoCounts j × KAt sc context ps level j f) (sym (append_assoc (event_items ns) (decls_items ds) k)) (events_at ns (decls_items ds ++ k) f t here after)

  -- the arrays and events of declarations come before
  decls_at : (ds : PDecls) (k : List Item) (f t : ℕ) → DeclsAt sc context ps level ds f t → HasNoCounts k × KAt sc context ps level k t →
      HasNoCounts (decls_items ds ++ k) × KAt sc context ps level (decls_items ds ++ k) f
  decls_at tree.no_decls k f t s after = (after.0, subst (λ pc. KAt sc context ps level k pc) (sym s) after.1)
  decls_at (tree.decls (tree.arrays kind ns pairs) ds) k f t here after =
      let rest = decls_at ds k here.0 t here.2 after in
      (rest.0, (f, here.0, stop, here.1, rest.0, rest.1))
  decls_at (tree.decls (tree.events ns) ds) k f t here after = events_and ns ds k f here.0 here.1 (decls_at ds k here.0 t here.2 after)
  decls_at (tree.decls (tree.tasks ns) ds) k f t here after = events_and ns ds k f here.0 here.1 (decls_at ds k here.0 t here.2 after)
  decls_at (tree.decls (tree.simple kind ns) ds) k f t here after = decls_at ds k f t here after
  decls_at (tree.decls (tree.files ns) ds) k f t here after = decls_at ds k f t here after
  decls_at (tree.decls (tree.labels ns) ds) k f t here after = decls_at ds k f t here after
  decls_at (tree.decls (tree.forward h) ds) k f t here after = decls_at ds k f t here after
  decls_at (tree.decls (tree.procedure h s) ds) k f t here after = decls_at ds k f t here after

  -- the code of a block's text
  body_at : (b : Block) → context.yields ≡ yields_of b.result → (begin : ℕ) (ats : List ℕ) (m d e : ℕ) → FragmentGoes ps level 0 begin → RoutinesAt sc context ps (level + 1) (actuals_of sc b) ats →
      CellsAt sc context ps level (length (zero_cells b)) (control_pcws sc context.segment level b.decls (actuals_of sc b) ats) begin m →
      DeclsAt sc context ps level b.decls m d → StmtsAt sc context ps level b.stmts d e e → EndAt sc context ps level b.result b.name e → BodyAt sc context ps level b 0
  body_at b is begin ats m d e first routines cells decls stmts end =
      let last = ending b.result b.name in
      let after : KAt sc context ps level (items b.stmts last) d =
      items_at b.stmts last d e stmts (ending_at b.result b.name e is end) in
      record {
        begin = begin;
        start = m;
        ats = ats;
        over = first;
        routines = routines;
        cells = cells;
        items = subst (λ (k : List Item). KAt sc context ps level (decls_items b.decls ++ items b.stmts k) m) (sym (same_ending b))
            (decls_at b.decls (items b.stmts last) m d decls (items_uncounted b.stmts last (ending_counts b.result b.name), after)).1;
      }

-- an operator stands at the end of a text
some_operator : (sc : Scopes) (context : Context) (ps : List Placed) (level : ℕ) (o : Option Kind) (name : List ℕ) (at : ℕ) (segment : Segment) → Spells ps segment →
    length segment.words ≤ MOST_SEGMENT_WORDS → EndAt sc context ps level o name at → HasOperators segment
some_operator sc context ps level None name at segment spells few end = is_segment segment ps at level _ end.0 spells end.1 few
some_operator sc context ps level (Some kind) name at segment spells few end = is_segment segment ps at level _ end.valued spells end.read few

module _ (spot : Spot) (ds : PDecls) (ss : PStmts) (names : Names) (has : Given (tree.program (tree.body spot ds ss)) names) where
  abbrev p : PProgram
  p = tree.program (tree.body spot ds ss)

  abbrev ts : List Text
  ts = texts (tree.body spot ds ss)

  -- a place that both lists have
  in_both : {X Y : Type 0} (xs : List X) (ys : List Y) (k : ℕ) (x : X) → length xs ≡ length ys → slice_get xs k ≡ Some x → (y : Y) × (slice_get ys k ≡ Some y)
  in_both [] ys k x e h = absurd (let clash : None ≡ Some x = h in cc)
  in_both (z ∷ xs) [] k x e h = absurd (omega (arith, e))
  in_both (z ∷ xs) (y ∷ ys) zero x e h = (y, refl)
  in_both (z ∷ xs) (y ∷ ys) (suc k) x e h = in_both xs ys k x (omega (arith, e)) h

  module _ (segments : List Segment) (formats : List Format) where
    abbrev code : Code
    code = record { segments = segments; formats = formats }

    pub short_code : length segments ≡ length ts → AreShort segments ts → IsShortSegment p code
    short_code many short k segment h =
        let t = in_both segments ts k segment many h in
        let r = text_block spot ds ss has.order has.named k t.0 t.1 in
        omega (arith, short k segment t.0 h t.1, ap (λ (z : Text). z.tokens) r.is, r.of.short)

    pub listable_code : Coded (scopes_of p) formats segments ts → AreShort segments ts → FormatsCanBeListed formats → IsListable code
    listable_code coded short listed = record {
      segments = all_listed segments each;
      formats = listed;
    }
      where
        each : (k : ℕ) (segment : Segment) → slice_get segments k ≡ Some segment → HasOperators segment
        each k segment h =
            let t = in_both segments ts k segment coded.many h in
            let stands = coded.code k t.0 t.1 in
            let room = (due spot ds ss names has k t.0 t.1).room in
            some_operator (scopes_of p) (made.context_of (scopes_of p) formats coded.labels t.0) (coded.placed k) t.0.level t.0.result t.0.name stands.4 segment (coded.spells k segment h)
            (omega (arith, short k segment t.0 h t.1, room)) stands.10

    pub program_at : Coded (scopes_of p) formats segments ts → ProgramAt code p
    unfolding scopes_of
    program_at coded = record {
      many = coded.many ∙ texts_many spot ds ss has.order has.named;
      texts = code_texts;
      spells = coded.spells;
      bodies = bodies;
      labels = labels;
    }
      where
        code_texts : Texts
        code_texts = record { placed = coded.placed; labels = coded.labels }

        labels : (j number : ℕ) (name : List ℕ) → j < length (scopes_of p).blocks → label_number (scopes_of p) j name ≡ Some number →
            LabelAt (scopes_of p) (context_of code code_texts (scopes_of p) j) (coded.placed (segment_of (scopes_of p).blocks j)) (level_of (block_numbered (scopes_of p).blocks j)) (block_numbered (scopes_of p).blocks j) name number
        labels j number name known h =
            let label = labels_stand p has.accepted has.order has.whole has.texts j number name known h in
            let r = label_entry spot ds ss has.order has.named j number name known h in
            let e : DeclaredLabel = record { level = level_of (block_numbered (scopes_of p).blocks j); name = r.label; stmts = (block_numbered (scopes_of p).blocks j).stmts } in
            let at = coded.tables (segment_of (scopes_of p).blocks j) r.text r.text_is number e r.entry_is label.0
            (ap (label_in (block_numbered (scopes_of p).blocks j).stmts) r.name_is ∙ label.1) in
            record { label = label.0; stands = label.1; target = at.0; next = at.1; place = at.2; branch = at.3 }

        bodies : (j : ℕ) → j < length (scopes_of p).blocks → (j ≡ 0) ⊎ (is_procedure (block_numbered (scopes_of p).blocks j) ≡ true) →
            BodyAt (scopes_of p) (context_of code code_texts (scopes_of p) j) (coded.placed (segment_of (scopes_of p).blocks j)) (level_of (block_numbered (scopes_of p).blocks j)) (block_numbered (scopes_of p).blocks j) 0
        bodies j known own =
            let sc = scopes_of p in
            let b = block_numbered sc.blocks j in
            let r = block_text spot ds ss has.order has.named j known own in
            let at : Context =
            record { formats = formats; segment = segment_of sc.blocks j; block = j; level = level_of b; yields = yields_of b.result; labels = coded.labels } in
            let there = coded.code (segment_of sc.blocks j) (text_of b r.tokens) r.text in
            let same : made.context_of sc formats coded.labels (text_of b r.tokens) ≡ at = ap
            (λ (n : ℕ). record { formats = formats; segment = segment_of sc.blocks n; block = n; level = level_of b; yields = yields_of b.result; labels = coded.labels })
            r.number_is in
            let ps = coded.placed (segment_of sc.blocks j) in
            let l = level_of b in
            let own = actuals_of sc b in
            let segment : segment_of sc.blocks (made.block_of_text sc (text_of b r.tokens)) ≡ segment_of sc.blocks j = ap (segment_of sc.blocks) r.number_is in
            body_at sc at ps l b refl there.0 there.1 there.2 there.3 there.4 there.5
            (subst (λ (c : Context). RoutinesAt sc c ps (l + 1) own there.1) same there.6)
            (subst (λ (n : ℕ). CellsAt sc at ps l (length (zero_cells b)) (control_pcws sc n l b.decls own there.1) there.0 there.2) segment
            (subst (λ (c : Context). CellsAt sc c ps l (length (zero_cells b)) (control_pcws sc (segment_of sc.blocks (made.block_of_text sc (text_of b r.tokens))) l b.decls own there.1) there.0 there.2) same there.7))
            (subst (λ (c : Context). DeclsAt sc c ps l b.decls there.2 there.3) same there.8)
            (subst (λ (c : Context). StmtsAt sc c ps l b.stmts there.3 there.4 there.4) same there.9)
            (subst (λ (c : Context). EndAt sc c ps l b.result b.name there.4) same there.10)
